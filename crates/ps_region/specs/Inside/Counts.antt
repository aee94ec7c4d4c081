-- Counts of the references that are not released yet, and the queue of the cells whose count is 0. A reference is
-- released once the walk along the queue has passed the cell that it refers to.
use Rattle.std.specs.Prelude.{◌≡◌, ◌+◌, ◌<◌, ℕ, zero, suc, Bool, true, cond, not, ◌&&◌, ◌⊎◌, List}
use Rattle.std.specs.Prelude.{◌++◌, length, nat_eq, slice_index, slice_index_or}
use Rattle.std.specs.List.{list_any, IsDistinct}
use Rattle.ps_grid.specs.Chains.{References, In}

abbrev pub as_one : Bool → ℕ
as_one b = cond b 1 0

-- how many numbers below n pass the test
unfoldable pub count_below : (ℕ → Bool) → ℕ → ℕ
count_below p zero = 0
count_below p (suc n) = count_below p n + as_one (p n)

-- a cell that is not released: it passes p, and is not in the list of those that are done
abbrev pub waiting : (ℕ → Bool) → List ℕ → ℕ → Bool
waiting p done d = p d && not (list_any (nat_eq d) done)

-- how many of the cells below n that c refers to are not released
abbrev pub cells_left : References → (ℕ → Bool) → List ℕ → ℕ → ℕ → ℕ
cells_left refers p done n c = count_below (λ d. refers c d && waiting p done d) n

-- whether a cell is in a list
abbrev pub is_in : List ℕ → ℕ → Bool
is_in cells c = list_any (nat_eq c) cells

-- a formula cell of a list
abbrev pub is_walked : (ℕ → Bool) → List ℕ → ℕ → Bool
is_walked formula done d = list_any (nat_eq d) done && formula d

-- the count of a cell of the list `members`; it is 0 for a cell that isn't in the list
abbrev pub counted_in : List ℕ → List ℕ → ℕ → ℕ
counted_in members left q = cond (list_any (nat_eq q) members) (slice_index_or left q 0) 0

-- a queue of cells whose count is 0
pub record Queued (left order : List ℕ) : Type 0 where
  pub none_left : (c : ℕ) → In order c → slice_index left c ≡ 0
  pub below : (c : ℕ) → In order c → c < length left
  pub once : IsDistinct nat_eq order

-- of the cells `walked`, those that refer to d have counts one lower; those whose count became 0 are at the queue's
-- end, at level k
pub record Released (refers : References) (d k : ℕ) (walked left level order left2 level2 order2 : List ℕ) : Type 0
  where
    pub queued : Queued left2 order2
    pub counted : (c : ℕ) → slice_index left c ≡ slice_index left2 c + as_one (list_any (nat_eq c) walked && refers c d)
    pub grows : (more : List ℕ) × (order2 ≡ order ++ more)
    pub fresh : (c : ℕ) → In order2 c → In order c ⊎ ((refers c d ≡ true) × (slice_index level2 c ≡ k))
    pub kept : (c : ℕ) → In order c → slice_index level2 c ≡ slice_index level c
    pub found : (c : ℕ) → In walked c → refers c d ≡ true → slice_index left2 c ≡ 0 → In order2 c
