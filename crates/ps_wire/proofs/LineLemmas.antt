-- What a line is read as.
use Rattle.std.proofs.Common.{◌≡◌, ℕ, ◌≤◌, List, map, length, Some, Result, Ok, Err, inl, inr, sym, ap, ◌∙◌, subst}
use Rattle.std.specs.Prelude.{IsUtf8, IfOk, IfErr, MatchResult}
use Rattle.std.specs.List.{All}
use Rattle.serde_json.specs.Data.{Data}
use Rattle.serde_json.specs.Read.{read}
use Rattle.ps_grid.specs.declared.refusal.Refusal.{Refusal}
use Rattle.ps_grid.specs.declared.refusal.Refusal.TheVariants.{Memory}
use Rattle.ps_delta.specs.Deltas.{Entries, IsDelta, AreInGrid}
use Rattle.ps_wire.specs.declared.TheConstants.{DELTA_LINE_LIMIT}
use Rattle.ps_wire.specs.Line.{IsLine}
use Rattle.ps_wire.specs.Inside.{ReadsAs, RefusedAs}
use Rattle.ps_wire.specs.Value.{array_of, cell_value, delta_value, IsState, StandsFor}
use Rattle.ps_wire.proofs.ArrayLemmas.{array_of-injective}
use Rattle.ps_wire.proofs.OneDeltaLemmas.{Good, all_good, cells-injective, delta_value-injective, one_delta}

module _ (value : Data) where
  -- no array stands for a delta
  pub no_array : ((all : List Data) → value ≡ array_of all → ⊥) → (d : Entries) → StandsFor value d → ⊥
  unfolding delta_value
  no_array none d stands = none (map cell_value d) stands.spelled

  module _ (values : List Data) (is : value ≡ array_of values) where
    items_are : (d : Entries) → StandsFor value d → values ≡ map cell_value d
    unfolding delta_value
    items_are d stands = array_of-injective values (map cell_value d) (sym is ∙ stands.spelled)

    pub no_cells : ((all : Entries) → All Good all → values ≡ map cell_value all → ⊥)
        → (d : Entries) → StandsFor value d → ⊥
    no_cells none d stands = none d (all_good d stands.lawful) (items_are d stands)

    module _ (all : Entries) (read_as : values ≡ map cell_value all) (in_grid : AreInGrid all)
        (states : All (λ e. IsState e.1) all) where
      pub stands_for : IsDelta all → StandsFor value all
      unfolding delta_value
      stands_for cells = record {
        lawful = record { cells = cells; in_grid = in_grid; states = states };
        spelled = is ∙ ap array_of read_as;
      }

      pub no_delta : (IsDelta all → ⊥) → (d : Entries) → StandsFor value d → ⊥
      no_delta bad d stands =
          let same = cells-injective all d (λ i x within. (in_grid i x within, states i x within))
          (all_good d stands.lawful) (sym read_as ∙ items_are d stands) in
          bad (subst IsDelta (sym same) stands.lawful.cells)

-- bytes that are read as the value of a delta are its line
pub is_line : (bytes : List ℕ) (value : Data) (d : Entries) → length bytes ≤ DELTA_LINE_LIMIT → IsUtf8 bytes
    → read bytes ≡ Some value → StandsFor value d → IsLine bytes d
is_line bytes value d fits utf8 is stands =
    record { fits = fits; utf8 = utf8; read = is ∙ ap Some stands.spelled; lawful = stands.lawful }

pub stands_by_line : (bytes : List ℕ) (value : Data) (d : Entries) → read bytes ≡ Some value → IsLine bytes d
    → StandsFor value d
stands_by_line bytes value d is line = let both = sym is ∙ line.read in record { lawful = line.lawful; spelled = cc }

-- the delta of a line is found, or memory ran out
pub found_by_line : (bytes : List ℕ) (value : Data) (r : Result Entries Refusal) → read bytes ≡ Some value
    → IfOk r (λ d. StandsFor value d) → IfErr r (λ e. RefusedAs e ((d : Entries) → StandsFor value d → ⊥))
    → (d : Entries) → IsLine bytes d → MatchResult r (λ found. found ≡ d) (λ e. e ≡ Memory)
found_by_line bytes value (Ok found) is stands refused d line =
    one_delta value found d stands (stands_by_line bytes value d is line)
found_by_line bytes value (Err e) is stands (inl memory) d line = memory
found_by_line bytes value (Err e) is stands (inr none) d line =
    absurd (none.1 d (stands_by_line bytes value d is line))

-- .. and so are bytes that are known to be read as one
pub read_line : (bytes : List ℕ) (d : Entries) → length bytes ≤ DELTA_LINE_LIMIT → ReadsAs bytes d → IsLine bytes d
read_line bytes d fits reads =
    record { fits = fits; utf8 = reads.utf8; read = reads.read; lawful = reads.lawful }

-- the delta of a line is the one that was read
pub same_delta : (bytes : List ℕ) (d found : Entries) → IsLine bytes d → IsLine bytes found → found ≡ d
same_delta bytes d found h k =
    let both = sym k.read ∙ h.read in delta_value-injective found d k.lawful h.lawful cc
