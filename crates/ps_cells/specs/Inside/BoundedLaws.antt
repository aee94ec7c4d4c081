-- What is true of all references between cells of the grid.
use Rattle.std.specs.Prelude.{◌≡◌, ℕ, ◌<◌, Bool, ◌&&◌, nat_lt, true, false, refl}
use Rattle.std.proofs.Common.{arith}
use Rattle.std.proofs.lemmas.Bool.{ltb-true}
use Rattle.std.proofs.lemmas.Grind.{common_steps}
use Rattle.ps_content.specs.declared.content.Content.{Content}
use Rattle.ps_content.specs.declared.content.Content.TheVariants.{Blank, Number, Text, Formula, Tally, Choice}
use Rattle.ps_grid.specs.Chains.{References}
use Rattle.ps_grid.specs.declared.size.TheConstants.{CELLS}
use Rattle.ps_delta.specs.State.{State}
use Rattle.ps_cells.specs.Settled.{content_of, content_mentions, refers_to}
use Rattle.ps_cells.specs.Inside.Waiting.{is_formula}
use Rattle.ps_cells.specs.Inside.Walk.{formula_at}
use Rattle.ps_cells.specs.Inside.Bounded.{bounded}

all_of : (a x y : Bool) → (a && (x && y)) ≡ true → (a ≡ true) × (x ≡ true) × (y ≡ true)
all_of true true true h = (refl, refl, refl)
all_of true true false h = absurd (grind (arith, common_steps))
all_of true false y h = absurd (grind (arith, common_steps))
all_of false x y h = absurd (grind (arith, common_steps))

pub bounded_above : (r : References) (c d : ℕ) → bounded r c d ≡ true → c < CELLS
bounded_above r c d h = ltb-true c CELLS (all_of (r c d) (nat_lt c CELLS) (nat_lt d CELLS) h).1

pub bounded_below : (r : References) (c d : ℕ) → bounded r c d ≡ true → d < CELLS
bounded_below r c d h = ltb-true d CELLS (all_of (r c d) (nat_lt c CELLS) (nat_lt d CELLS) h).2

pub mentions_formula : (k : Content) (d : ℕ) → content_mentions k d ≡ true → is_formula k ≡ true
mentions_formula Blank d h = absurd (grind (arith, common_steps))
mentions_formula (Number n) d h = absurd (grind (arith, common_steps))
mentions_formula (Text t) d h = absurd (grind (arith, common_steps))
mentions_formula (Formula t) d h = refl
mentions_formula Tally d h = absurd (grind (arith, common_steps))
mentions_formula Choice d h = absurd (grind (arith, common_steps))

pub bounded_formula : (t : State) (c d : ℕ) → bounded (refers_to t) c d ≡ true → formula_at t c ≡ true
bounded_formula t c d h =
    mentions_formula (content_of (t c)) d (all_of (refers_to t c d) (nat_lt c CELLS) (nat_lt d CELLS) h).0
