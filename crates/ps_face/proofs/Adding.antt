-- The exchange that adds a patch keeps the rule of the book.
use Rattle.std.proofs.Common.{◌≡◌, ℕ, ◌+◌, ◌<◌, ◌==◌, Bool, true, false, List, [], ◌∷◌, ◌++◌, length, refl, ap, sym}
use Rattle.std.proofs.Common.{subst, arith, inl, length-append, None}
use Rattle.std.specs.Bool.{OnTrue}
use Rattle.std.proofs.lemmas.List.{append-nil}
use Rattle.std.proofs.lemmas.Bool.Decides.{nat_tests}
use mathlib.Core.List.{IsPrefix}
use prog.Atomic.{either}
use Rattle.logbook.specs.Pages.{Cell, cell, keeps, no_nib, step, Moves, Goes, View}
use Rattle.ps_face.specs.declared.patch.Note.{Note}
use Rattle.ps_face.specs.Book.{CountsPatches, Adds}
use Rattle.ps_face.proofs.Beginnings.{begins_whole}

-- what a client sees of the list, and what an offer of its own does: nothing
abbrev pub shown : List Note → List Note
shown log = []

abbrev pub moved : List Note → List Note → ℕ → Type 0
moved xs ys n = Unit {0}

-- a list that was seen, with no pen and no offer
abbrev seen : List Note → View Note ℕ
seen v = (v, (no_nib, None))

-- the word that holds `old` is raised by one
abbrev raised : ℕ → ℕ → ℕ
raised old n = either (n == old) (old + 1) n

pub adds_goes : (log v : List Note) (e : Note) (old : ℕ) → length v ≡ old → IsPrefix v log
    → (b : Bool) → (length log == old) ≡ b
    → Goes CountsPatches shown moved 0 (seen v) (raised old) (Adds (step 0 old (old + 1) e) (seen v))
    ((length log, true) ∷ (0, true) ∷ []) log
adds_goes log v e old len pre true is =
    let here : length log ≡ old = grind (arith, nat_tests) in
    let same : v ≡ log = begins_whole v log pre (omega arith) in
    let n : raised old (length log) ≡ length (log ++ e ∷ []) = rw is (omega (arith, length-append log (e ∷ []))) in (
      keeps,
      e ∷ [],
      None,
      tt,
      record { words = ap (λ (k : ℕ). (k, true) ∷ (0, true) ∷ []) n },
      inl (refl, refl),
      rw is (ap (λ w. w ++ e ∷ []) (sym same)),
    )
adds_goes log v e old len pre false is =
    let all : log ++ [] ≡ log = append-nil log in
    let n : raised old (length log) ≡ length (log ++ []) = rw is (ap length (sym all)) in (
      keeps,
      [],
      None,
      tt,
      record { words = ap (λ (k : ℕ). (k, true) ∷ (0, true) ∷ []) n },
      inl (refl, refl),
      rw is tt,
    )

-- whatever the book is, the exchange adds the patch to all that was seen, or finds that the list is longer
pub adds_moves : (v : List Note) (e : Note) (old : ℕ) → length v ≡ old
    → Moves CountsPatches shown moved 0 (seen v) (raised old) (Adds (step 0 old (old + 1) e) (seen v))
adds_moves v e old len cs log kept pre away =
    let P : List Cell → Type 0 = λ c. (0 < length c) × ((cell c 0).1 ≡ true)
    × Goes CountsPatches shown moved 0 (seen v) (raised old) (Adds (step 0 old (old + 1) e) (seen v)) c log in
    subst P (sym kept.words) (omega arith, refl, adds_goes log v e old len pre (length log == old) refl)

pub on_true : (b : Bool) (P : Type 0) → b ≡ true → OnTrue b P → P
on_true true P e h = h
on_true false P e h = absurd cc
