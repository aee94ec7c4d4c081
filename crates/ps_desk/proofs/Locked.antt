-- What holds of the data that a desk's lock guards, after a change.
use Rattle.std.proofs.Common.{◌≡◌, ◌+◌, ◌<◌, ◌^◌, ℕ, true, List, [], ◌∷◌, ◌++◌, length, map, refl, sym, ap, ◌∙◌}
use Rattle.std.proofs.Common.{append_assoc, arith, length-append}
use Rattle.std.proofs.lemmas.List.{length-map}
use Rattle.ps_eval.specs.Items.{Assignment}
use Rattle.ps_delta.specs.Deltas.{Entries}
use Rattle.ps_sheet.specs.Prepared.{IsOf, history_after}
use Rattle.ps_sheet.specs.Sheet.{SheetView}
use Rattle.ps_sheet.specs.Staging.{IsWorkedOut, StagingView}
use Rattle.ps_face.specs.declared.patch.Note.{Note}
use Rattle.ps_face.specs.Legal.{delta_of, history_of}
use Rattle.ps_face.specs.Published.{Published}
use Rattle.ps_face.proofs.Noted.{after_fresh}
use Rattle.ps_desk.specs.Patches.{KeepsChange, change_in, note_of, staged_in}
use Rattle.ps_desk.specs.UnderLock.{IsUnderLock}
use Rattle.ps_desk.proofs.Closes.{deltas}

pub history_push : (h : List Entries) (xs : List Note) (n : Note)
    → history_of h (xs ++ n ∷ []) ≡ history_of h xs ++ n.delta ∷ []
history_push h xs n =
    ap (λ (ds : List Entries). h ++ ds) (deltas xs (n ∷ [])) ∙ sym (append_assoc h (map delta_of xs) (n.delta ∷ []))

module _ (r : ℕ) (h : List Entries) (x : StagingView) (old : Published) (n : ℕ)
    (lock : IsUnderLock r h x.replica x.history old n) where
  -- a sheet with the same replica and history, and copies with the same list
  pub same_locked : (own : ℕ) (history : List Entries) (new : Published) → own ≡ x.replica → history ≡ x.history
      → new.list ≡ old.list → new.pending ≡ old.pending → IsUnderLock r h own history new n
  same_locked own history new replica same list pending = record {
    replica = replica ∙ lock.replica;
    history = same ∙ lock.history ∙ ap (history_of h) (sym list);
    none = pending ∙ lock.none;
    total = lock.total ∙ ap length (sym list);
  }

  -- a sheet z that has committed the fresh change, which y has staged, too, once its patch is published and counted
  pub appended_locked : (y : StagingView) (z : SheetView) (v : Assignment) (new : Published) (cells : List ℕ)
      (m seat : ℕ) → KeepsChange x y → (change_in x).fresh ≡ true
      → IsOf z y.replica (history_after (change_in y)) v
      → new.list ≡ old.list ++ note_of y cells seat ∷ [] → new.pending ≡ [] → m ≡ n + 1
      → IsUnderLock r h z.replica z.history new m
  appended_locked y z v new cells m seat keeps fresh of last none more =
      let note : Note = note_of y cells seat in
      record {
        replica = of.replica ∙ keeps.replica ∙ lock.replica;
        history = of.history ∙ after_fresh (change_in y) (staged_in y).delta (keeps.fresh ∙ fresh) refl
            ∙ ap (λ (ds : List Entries). ds ++ (staged_in y).delta ∷ []) (keeps.history ∙ lock.history)
            ∙ sym (history_push h old.list note) ∙ ap (history_of h) (sym last);
        none = none;
        total = omega (arith, lock.total, more, ap length last, length-append old.list (note ∷ []));
      }

  -- one more delta can be counted, since the length of the history with the change fits in 64 bits
  pub room_left : (number : ℕ) → IsWorkedOut (change_in x) → (change_in x).fresh ≡ true
      → number ≡ (change_in x).report.version → number < 2 ^ 64 → n + 1 < 2 ^ 64
  room_left number is fresh same lt =
      omega (
        arith,
        lt,
        same,
        is.version,
        ap length (after_fresh (change_in x) (staged_in x).delta fresh refl),
        length-append x.history ((staged_in x).delta ∷ []),
        ap length lock.history,
        length-append h (map delta_of old.list),
        length-map old.list delta_of,
        lock.total,
      )
