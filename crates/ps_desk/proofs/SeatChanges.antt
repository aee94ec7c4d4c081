-- What a change at a desk answers a `Seat`, and how it alters the pass.
use Rattle.std.proofs.Common.{◌≡◌, ◌⊎◌, inl, inr, ap, arith, ℕ, ◌+◌, ◌≤◌, Bool, List, Ok, Err, ⊎_elim, refl}
use Rattle.std.specs.Prelude.{IsOk, if◌then◌else◌}
use Rattle.ps_grid.specs.declared.refusal.Refusal.{Refusal}
use Rattle.ps_grid.specs.declared.refusal.Refusal.TheVariants as refusals
use Rattle.ps_delta.specs.Deltas.{Entries, joined_history}
use Rattle.ps_delta.specs.declared.edit.Edit.{Edit}
use Rattle.ps_sheet.specs.Edits.{delta_of_edit}
use Rattle.ps_sheet.specs.Merges.{IsMergedAs}
use Rattle.ps_face.specs.Legal.{history_of}
use Rattle.ps_lines.specs.Replies.{done_text, refusal_text}
use Rattle.ps_session.specs.Boards.{merged_text}
use Rattle.ps_session.specs.declared.board.Merged.{Merged}
use Rattle.ps_desk.specs.Passes.{PassView}
use Rattle.ps_desk.specs.Receipts.{Encloses, IsAppended, IsReceipt, Took, merged_of}
use Rattle.ps_desk.specs.Seats.{GoesOn, IsEdited, IsLacking, IsMergedIn, IsRefused, IsTakenIn}

module _ (r : ℕ) (h : List Entries) (old new : PassView) (took : Took h old new) where
  goes : old.appended ≤ new.appended → GoesOn old new
  goes more = record { later = took.later; appended = more; seat = took.same.0 }

  -- an edit that was made
  pub edited : {X : Type 0} (tells : X → Entries → Type 0) (edit : Edit) (number : ℕ) (enclosed : X) (fresh : Bool)
      → Encloses tells (IsAppended (λ s d. delta_of_edit r s edit ≡ Ok d) h old.list new.list old.seat) number enclosed
      fresh → new.appended ≡ old.appended + 1 → IsEdited r h edit old (done_text number) new × GoesOn old new
  edited tells edit number enclosed fresh receipt counted = (
    record {
      legal = took.legal;
      receipt = record { number = number; delta = receipt.0; fresh = fresh };
      appended = receipt.2;
      replied = refl;
      counted = counted;
      entered = took.same.1;
    },
    goes (omega (arith, counted)),
  )

  -- an edit that was refused
  pub unedited : (edit : Edit) (e : Refusal) → new.appended ≡ old.appended
      → (e ≡ refusals.Memory) ⊎ (delta_of_edit r (joined_history (history_of h new.list)) edit ≡ Err e)
      → (e ≡ refusals.Memory → IsOk (delta_of_edit r (joined_history (history_of h new.list)) edit))
      → ((IsEdited r h edit old (refusal_text e) new ⊎ IsRefused r h edit old (refusal_text e) new)
      ⊎ IsLacking (IsOk (delta_of_edit r (joined_history (history_of h new.list)) edit)) old (refusal_text e) new)
      × GoesOn old new
  unedited edit e counted refused asked = (
    ⊎_elim
        (λ memory. inr (record { some = asked memory; replied = ap refusal_text memory; counted = counted }))
        (λ is. inl (inr (record {
          legal = took.legal;
          refusal = e;
          refused = is;
          replied = refl;
          counted = counted;
          entered = took.same.1;
        })))
        refused,
    goes (omega (arith, counted)),
  )

  -- a delta that was taken in
  pub taken_in : {X : Type 0} (tells : X → Entries → Type 0) (delta : Entries) (number : ℕ) (enclosed : X)
      (fresh : Bool)
      → Encloses tells (IsReceipt (λ t d. d ≡ delta) h old.list new.list old.seat) number enclosed fresh
      → new.appended ≡ old.appended + (if fresh then 1 else 0)
      → IsTakenIn h delta old (done_text number) new × GoesOn old new
  taken_in tells delta number enclosed fresh receipt counted = (
    record {
      legal = took.legal;
      receipt = record { number = number; delta = receipt.0; fresh = fresh };
      tells = receipt.2;
      replied = refl;
      counted = counted;
      entered = took.same.1;
    },
    goes (omega (arith, counted)),
  )

  -- a delta that was merged
  pub merged_in : {X : Type 0} (tells : X → Entries → Type 0) (delta : Entries) (number : ℕ) (enclosed : X)
      (fresh : Bool) (m : Merged) → m ≡ merged_of number fresh
      → Encloses tells (IsReceipt (λ t d. IsMergedAs t delta d) h old.list new.list old.seat) number enclosed fresh
      → new.appended ≡ old.appended + (if fresh then 1 else 0)
      → IsMergedIn h delta old (merged_text m) new × GoesOn old new
  merged_in tells delta number enclosed fresh m is receipt counted = (
    record {
      legal = took.legal;
      receipt = record { number = number; delta = receipt.0; fresh = fresh };
      tells = receipt.2;
      replied = ap merged_text is;
      counted = counted;
      entered = took.same.1;
    },
    goes (omega (arith, counted)),
  )
