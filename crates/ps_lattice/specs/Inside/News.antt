-- What a value has new for another one, and a list of entries for another list.
use Rattle.std.specs.Prelude.{ℕ, Bool, true, false, ◌&&◌, nat_le, nat_lt, if◌then◌else◌, List, [], ◌∷◌}
use Rattle.std.specs.Prelude.{Option, Some, None}
use Rattle.std.specs.declared.cmp.Ordering.{Ordering}
use Rattle.std.specs.FinMap as map
use Rattle.ps_lattice.specs.declared.tally.Count.{Count}

-- the new mark of a pair that may have a mark already
abbrev pub newer_mark : Option Bool → Bool → Option Bool
newer_mark None y = Some y
newer_mark (Some true) y = None
newer_mark (Some false) true = Some true
newer_mark (Some false) false = None

-- the second total if it is above the first, else 0
abbrev pub newer_total : ℕ → ℕ → ℕ
newer_total x y = if nat_lt x y then y else 0

-- the counts that are above those of the first value, the others as 0; nothing if none is
abbrev pub newer_count : Option Count → Count → Option Count
newer_count None y = Some y
newer_count (Some x) y =
    if nat_le y.added x.added && nat_le y.subtracted x.subtracted then None else Some (record {
      added = newer_total x.added y.added;
      subtracted = newer_total x.subtracted y.subtracted;
    })

-- the list, with an entry of the key in front if the value isn't missing
abbrev pub kept_before : {K X : Type 0} → K → Option X → List (K × X) → List (K × X)
kept_before k None rest = rest
kept_before k (Some x) rest = (k, x) ∷ rest

-- the entries of the second list, each with the new part of its value; those without a new part are left out
abbrev pub news_entries : {K X : Type 0} → (K → K → Ordering) → (Option X → X → Option X) → List (K × X)
    → List (K × X) → List (K × X)
news_entries R g mine [] = []
news_entries R g mine (e ∷ es) = kept_before e.0 (g (map.find R e.0 mine) e.1) (news_entries R g mine es)
