-- THE WORLD that a list of events makes of some replicas, whichever program plays them.
use Rattle.std.specs.Prelude.{ℕ, ◌+◌, Bool, false, ◌&&◌, ◌||◌, ◌==◌, nat_le, if◌then◌else◌}
use Rattle.std.specs.Prelude.{List, [], ◌∷◌, ◌++◌, length, map, filter, fold, Result, Ok, Err}
use Rattle.std.specs.List.{enumerate_from}
use Rattle.ps_grid.specs.declared.refusal.Refusal.{Refusal}
use Rattle.ps_delta.specs.State.{State}
use Rattle.ps_delta.specs.Deltas.{Entries, joined_history}
use Rattle.ps_sheet.specs.Edits.{delta_of_edit}
use Rattle.ps_world.specs.declared.event.Event.{Event}
use Rattle.ps_world.specs.declared.event.Event.TheVariants.{Edit, Foreign, Deliver}

-- a set of numbers
abbrev pub Numbers : Type 0
Numbers = ℕ → Bool

-- the deltas that were made or added, numbered from 1 on, and for each replica the set of the numbers that it took
pub record WorldState : Type 0 where
  pub deltas : List Entries
  pub took : ℕ → Numbers

-- no deltas
abbrev pub empty_world : WorldState
empty_world = record { deltas = []; took = λ r k. false }

-- of deltas that are numbered from n on, those whose number is in the set
abbrev pub picked : Numbers → ℕ → List Entries → List Entries
picked numbers n deltas = map (λ e. e.1) (filter (λ e. numbers e.0) (enumerate_from n deltas))

-- the deltas that replica r took
abbrev pub deltas_of : WorldState → ℕ → List Entries
deltas_of w r = picked (w.took r) 1 w.deltas

-- the join of the deltas that replica r took
abbrev pub joined_of : WorldState → ℕ → State
joined_of w r = joined_history (deltas_of w r)

-- the world with one more delta
abbrev pub with_delta : WorldState → Entries → WorldState
with_delta w d = record { deltas = w.deltas ++ d ∷ []; took = w.took }

-- the world where replica r took the delta with number k
abbrev pub with_taken : WorldState → ℕ → ℕ → WorldState
with_taken w r k = record { deltas = w.deltas; took = λ q j. w.took q j || (q == r && j == k) }

-- an edit at replica r: its delta is made, and taken there; a refused edit changes nothing
abbrev pub after_edit : WorldState → ℕ → Result Entries Refusal → WorldState
after_edit w r (Ok d) = with_taken (with_delta w d) r (length w.deltas + 1)
after_edit w r (Err e) = w

-- whether k is one of 1 to n
abbrev pub is_up_to : ℕ → ℕ → Bool
is_up_to n k = nat_le 1 k && nat_le k n

-- the world of n replicas after one event; one that names an unknown replica or an unknown delta changes nothing
abbrev pub after : ℕ → WorldState → Event → WorldState
after n w (Edit r e) = if is_up_to n r then after_edit w r (delta_of_edit r (joined_of w r) e) else w
after n w (Foreign d) = with_delta w d
after n w (Deliver r k) = if is_up_to n r && is_up_to (length w.deltas) k then with_taken w r k else w

-- the world of n replicas after a list of events
abbrev pub played : ℕ → List Event → WorldState
played n events = fold (after n) empty_world events
