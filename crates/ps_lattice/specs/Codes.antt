-- A tally's counts and a choice's pairs are data.
use Rattle.std.specs.Prelude.{ℕ, refl}
use Rattle.std.specs.Coded.{Coded, code_by, coded×, coded_ℕ, coded_bool}
use Rattle.std.specs.FinMap as map
use Rattle.ps_lattice.specs.declared.tally.Count.{Count}
use Rattle.ps_lattice.specs.declared.choice.Pair.{Pair}
use Rattle.ps_lattice.specs.Tally.{Counts}
use Rattle.ps_lattice.specs.Choice.{Pairs}

-- a count is stored as the pair of its fields
abbrev pub count_code : Coded Count
count_code =
    code_by (ℕ × ℕ) (coded× coded_ℕ coded_ℕ) (λ c. (c.added, c.subtracted))
    (λ p. record { added = p.0; subtracted = p.1 }) (λ _. refl)

abbrev pub counts_code : Coded Counts
counts_code = map.code coded_ℕ count_code

-- a pair is stored as its fields
abbrev pub pair_code : Coded Pair
pair_code =
    code_by (ℕ × (ℕ × ℕ)) (coded× coded_ℕ (coded× coded_ℕ coded_ℕ)) (λ p. (p.option, (p.replica, p.sequence)))
    (λ p. record { option = p.0; replica = p.1.0; sequence = p.1.1 }) (λ _. refl)

abbrev pub pairs_code : Coded Pairs
pairs_code = map.code pair_code coded_bool
