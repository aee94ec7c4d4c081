-- The delta of a batch: cells with contents.
use Rattle.std.proofs.Common.{◌≡◌, ◌≢◌, ℕ, ◌+◌, ◌<◌, Bool, true, false, List, [], ◌∷◌, length, map}
use Rattle.std.proofs.Common.{Option, Some, None, is_some, Ok, Err, nat_cmp, refl, sym, ap, ◌∙◌}
use Rattle.std.proofs.Common.{arith, subst}
use Rattle.std.specs.List.{All, list_any}
use Rattle.std.specs.List.Sorted.{IsStrictlyIncreasing}
use Rattle.std.specs.Ordering.{is_lt, on, ordering_then, then_cmp}
use Rattle.std.specs.declared.cmp.Ordering.{Ordering}
use Rattle.std.specs.declared.cmp.Ordering.TheVariants.{Less}
use Rattle.std.specs.Cmp.{nat_cmp_is}
use Rattle.std.proofs.lemmas.Simd.{map-map}
use Rattle.std.proofs.lemmas.List.{length-map}
use Rattle.std.proofs.lemmas.List.Elements.{All-map, All-cons, All-nil}
use Rattle.ps_grid.specs.declared.refusal.Refusal.TheVariants.{ClockFull}
use Rattle.ps_lattice.specs.declared.register.Assignment.{Assignment}
use Rattle.ps_lattice.specs.Register.{joined_registers, assignment_cmp, time_of}
use Rattle.ps_lattice.specs.Orders.{larger_lt}
use Rattle.ps_content.specs.declared.content.Content.{Content}
use Rattle.ps_content.specs.Order.{content_cmp}
use Rattle.ps_delta.specs.declared.cell_state.CellState.{CellState}
use Rattle.ps_delta.specs.State.{State, IsBelow, empty_cell}
use Rattle.ps_delta.specs.Deltas.{IsDelta, state_of}
use Rattle.ps_delta.proofs.EntryLemmas.{state_of-here}
use Rattle.ps_delta.specs.Batches.{IsBatch}
use Rattle.ps_sheet.specs.Edits.{assigned, is_clock_full, delta_of_batch, refused_if}
use Rattle.ps_sheet.proofs.FreshCells.{new_at, new_register}

-- a full clock among the cells refuses the batch
pub any_full_refuses : (r : ℕ) (s : State) (cells : List (ℕ × Content))
    → list_any (λ e. is_clock_full (s e.0)) cells ≡ true → delta_of_batch r s cells ≡ Err ClockFull
any_full_refuses r s cells full =
    ap (λ (b : Bool). refused_if b ClockFull
    (Ok (map (λ (q : ℕ × Content). (q.0, assigned r (s q.0) q.1)) cells))) full

-- an assigned cell isn't empty
assigned_some : (r : ℕ) (x : CellState) (content : Content) → assigned r x content ≢ empty_cell
unfolding empty_cell
assigned_some r x content is =
    let e : true ≡ false = ap (λ (z : CellState). is_some z.register) is in absurd (cc)

every : (P : ℕ × Content → Type 0) → ((e : ℕ × Content) → P e) → (cells : List (ℕ × Content)) → All P cells
every P each [] = All-nil P
every P each (e ∷ es) = All-cons P e es (each e) (every P each es)

-- the assignments of a batch are a delta
pub batch_is_delta : (r : ℕ) (s : State) (cells : List (ℕ × Content)) → IsBatch cells
    → IsDelta (map (λ e. (e.0, assigned r (s e.0) e.1)) cells)
batch_is_delta r s cells batch = record {
  some = subst (λ n. 0 < n)
      (sym (length-map cells (λ (e : ℕ × Content). (e.0, assigned r (s e.0) e.1)))) batch.some;
  ascending = subst IsStrictlyIncreasing
      (sym (map-map (λ (e : ℕ × CellState). e.0)
      (λ (e : ℕ × Content). (e.0, assigned r (s e.0) e.1)) cells)) batch.ascending;
  none_empty = All-map (λ (e : ℕ × CellState). e.1 ≢ empty_cell)
      (λ (e : ℕ × Content). (e.0, assigned r (s e.0) e.1)) cells
      (every (λ (e : ℕ × Content). assigned r (s e.0) e.1 ≢ empty_cell) (λ e. assigned_some r (s e.0) e.1) cells);
}

less_first : (o p : Ordering) → o ≡ Less → is_lt (ordering_then o p) ≡ true
less_first o p h = ap (λ (q : Ordering). is_lt (ordering_then q p)) h

-- an assignment with a later time is not below the register
new_assignment : (o : Option (Assignment Content)) (r : ℕ) (content : Content)
    → ¬ (joined_registers content_cmp o
    (Some (record { time = time_of o + 1; replica = r; content = content })) ≡ o)
new_assignment None r content is = let e : true ≡ false = ap is_some is in absurd (cc)
new_assignment (Some a) r content is =
    let b : Assignment Content = record { time = a.time + 1; replica = r; content = content } in
    let lt : is_lt (assignment_cmp content_cmp a b) ≡ true =
    less_first (nat_cmp a.time (a.time + 1))
    (then_cmp (on (λ (z : Assignment Content). z.replica) nat_cmp)
    (on (λ (z : Assignment Content). z.content) content_cmp) a b)
    (sym (nat_cmp_is a.time (a.time + 1) Less (omega arith))) in
    let e : Some b ≡ Some a = ap Some (sym (larger_lt (assignment_cmp content_cmp) a b lt)) ∙ is in
    let t : a.time + 1 ≡ a.time = ap (λ (o : Option (Assignment Content)). time_of o) e in
    omega (arith, t)

-- the delta of a batch is new
pub batch_new : (r : ℕ) (s : State) (cells : List (ℕ × Content)) → 0 < length cells
    → ¬ IsBelow (state_of (map (λ e. (e.0, assigned r (s e.0) e.1)) cells)) s
batch_new r s [] some = absurd (omega (arith, some))
batch_new r s (e ∷ es) some =
    new_at s (map (λ (q : ℕ × Content). (q.0, assigned r (s q.0) q.1)) (e ∷ es)) e.0 (assigned r (s e.0) e.1)
    (state_of-here (e.0, assigned r (s e.0) e.1)
    (map (λ (q : ℕ × Content). (q.0, assigned r (s q.0) q.1)) es) e.0 refl)
    (new_register (s e.0) (Some (record { time = time_of (s e.0).register + 1; replica = r; content = e.1 }))
    (new_assignment (s e.0).register r e.1))
