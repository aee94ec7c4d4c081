-- The histories of a list and of its beginnings.
use Rattle.std.proofs.Common.{◌≡◌, List, [], ◌∷◌, ◌++◌, All, ◌≤◌, ap, ◌∙◌, sym, refl, append_assoc, map}
use mathlib.Core.List.{IsPrefix}
use Rattle.ps_delta.specs.Deltas.{Entries}
use Rattle.ps_face.specs.declared.patch.Note.{Note}
use Rattle.ps_face.specs.Legal.{history_of, delta_of}
use Rattle.ps_desk.specs.Passes.{PassView, owned_by}
use Rattle.ps_desk.specs.Closing.{EndsAt, ListBegins, HistoryBegins}

pub deltas : (xs ys : List Note) → map delta_of (xs ++ ys) ≡ map delta_of xs ++ map delta_of ys
deltas [] ys = refl
deltas (x ∷ xs) ys = ap (λ ds. x.delta ∷ ds) (deltas xs ys)

pub history_begins : (h : List Entries) (xs ys : List Note) → IsPrefix xs ys
    → IsPrefix (history_of h xs) (history_of h ys)
history_begins h xs ys p = (
  map delta_of p.0,
  append_assoc h (map delta_of xs) (map delta_of p.0) ∙ ap (λ ds. h ++ ds) (sym (deltas xs p.0))
      ∙ ap (history_of h) p.1,
)

pub all_begin : (h : List Entries) (list : List Note) (passes : List PassView) → ListBegins list passes
    → HistoryBegins h (history_of h list) passes
all_begin h list passes b = λ k d lt. history_begins h _ list (b k d lt)

-- what holds of each pass at its end holds of all passes together
pub list_begins : (list : List Note) (passes : List PassView) → All (EndsAt list) passes → ListBegins list passes
list_begins list passes ends = λ k d lt. (ends k d lt).0

pub counts_within : (list : List Note) (passes : List PassView) → All (EndsAt list) passes
    → All (λ p. p.appended ≤ owned_by p.seat list) passes
counts_within list passes ends = λ k d lt. (ends k d lt).1
