-- What blocks hold, and blocks that one state was put into.
use Rattle.std.proofs.Common.{◌≡◌, ◌≢◌, ◌⊎◌, ℕ, zero, suc, ◌/◌, ◌%◌, ◌<◌, ◌≤◌, List, [], ◌∷◌, ◌++◌, length, get_or, set}
use Rattle.std.proofs.Common.{refl, sym, ap, ◌∙◌, arith, subst, inl, inr, ⊎_elim, get_or-set_same, get_or-set_other}
use Rattle.std.proofs.lemmas.Bool.{cases_eq, cases_lt}
use Rattle.std.proofs.lemmas.List.{get_or_past, get_or_read, length-set}
use Rattle.std.proofs.lemmas.Nat.{div-add-mod', mod_below}
use Rattle.std.proofs.Math.Path.{fun_ext}
use Rattle.std.specs.List.{All}
use Rattle.ps_grid.specs.declared.size.TheConstants.{CELLS}
use Rattle.ps_delta.specs.declared.block.TheConstants.{BLOCK}
use Rattle.ps_delta.specs.declared.grid.TheConstants.{BLOCKS}
use Rattle.ps_delta.specs.declared.cell_state.CellState.{CellState}
use Rattle.ps_delta.specs.Places.{joined_places}
use Rattle.ps_delta.specs.State.{Blocks, HasPlace, empty_cell, empty_state, joined_blocks, joined_cell, joined_cells}
use Rattle.ps_delta.specs.State.{joined_state, state_at, with_cell}
use Rattle.ps_delta.specs.CellLaws.{joined_cell-empty, joined_cell-empty_right}
use Rattle.ps_delta.proofs.StateLemmas.{with_cell-same, with_cell-other}

-- what a cell of the blocks holds
pub state_at-is : (blocks : Blocks) (c : ℕ)
    → state_at blocks c ≡ get_or (get_or blocks (c / BLOCK) []) (c % BLOCK) empty_cell
unfolding state_at
state_at-is blocks c = refl

pub state_at-past : (blocks : Blocks) (c : ℕ) → length blocks ≡ BLOCKS → CELLS ≤ c → state_at blocks c ≡ empty_cell
state_at-past blocks c size h =
    state_at-is blocks c
    ∙ ap (λ b. get_or b (c % BLOCK) empty_cell) (get_or_past blocks (c / BLOCK) [] (omega (arith, size, h)))

-- the block of a cell is one of the blocks
pub block_within : (blocks : Blocks) (c : ℕ) → length blocks ≡ BLOCKS → c < CELLS → c / BLOCK < length blocks
block_within blocks c size in_grid = omega (arith, size, in_grid)

-- the block and the place tell the cell
same_cell : (c d : ℕ) → c / BLOCK ≡ d / BLOCK → c % BLOCK ≡ d % BLOCK → c ≡ d
same_cell c d block place = omega (arith, block, place, div-add-mod' c BLOCK, div-add-mod' d BLOCK)

-- one state put into its place
abbrev pub with_place : Blocks → ℕ → CellState → Blocks
with_place blocks cell x = set blocks (cell / BLOCK) (set (get_or blocks (cell / BLOCK) []) (cell % BLOCK) x)

-- the block of a cell after that
block_same : (blocks : Blocks) (cell c : ℕ) (x : CellState) → cell / BLOCK < length blocks → cell / BLOCK ≡ c / BLOCK
    → get_or (with_place blocks cell x) (c / BLOCK) [] ≡ set (get_or blocks (c / BLOCK) []) (cell % BLOCK) x
block_same blocks cell c x h p =
    subst (λ b. get_or (with_place blocks cell x) b [] ≡ set (get_or blocks b []) (cell % BLOCK) x) p
    (get_or-set_same blocks (cell / BLOCK) (set (get_or blocks (cell / BLOCK) []) (cell % BLOCK) x) [] h)

block_other : (blocks : Blocks) (cell c : ℕ) (x : CellState) → cell / BLOCK ≢ c / BLOCK
    → get_or (with_place blocks cell x) (c / BLOCK) [] ≡ get_or blocks (c / BLOCK) []
block_other blocks cell c x p =
    get_or-set_other blocks (cell / BLOCK) (c / BLOCK) (set (get_or blocks (cell / BLOCK) []) (cell % BLOCK) x) []
    (λ q. p (sym q))

set_at : (blocks : Blocks) (cell c : ℕ) (x : CellState) → cell / BLOCK < length blocks → HasPlace blocks cell
    → (cell ≡ c) ⊎ (cell ≢ c) → (cell / BLOCK ≡ c / BLOCK) ⊎ (cell / BLOCK ≢ c / BLOCK)
    → state_at (with_place blocks cell x) c ≡ with_cell (state_at blocks) cell x c
set_at blocks cell c x h place (inl p) _ =
    subst (λ b. state_at (with_place blocks cell x) b ≡ with_cell (state_at blocks) cell x b) p
    (state_at-is (with_place blocks cell x) cell
    ∙ ap (λ b. get_or b (cell % BLOCK) empty_cell) (block_same blocks cell cell x h refl)
    ∙ get_or-set_same (get_or blocks (cell / BLOCK) []) (cell % BLOCK) x empty_cell place
    ∙ sym (with_cell-same (state_at blocks) cell x))
set_at blocks cell c x h place (inr p) (inl same) =
    state_at-is (with_place blocks cell x) c
    ∙ ap (λ b. get_or b (c % BLOCK) empty_cell) (block_same blocks cell c x h same)
    ∙ get_or-set_other (get_or blocks (c / BLOCK) []) (cell % BLOCK) (c % BLOCK) x empty_cell
    (λ q. p (same_cell cell c same (sym q)))
    ∙ sym (with_cell-other (state_at blocks) cell c x p ∙ state_at-is blocks c)
set_at blocks cell c x h place (inr p) (inr other) =
    state_at-is (with_place blocks cell x) c
    ∙ ap (λ b. get_or b (c % BLOCK) empty_cell) (block_other blocks cell c x other)
    ∙ sym (with_cell-other (state_at blocks) cell c x p ∙ state_at-is blocks c)

pub state_at-set : (blocks : Blocks) (cell : ℕ) (x : CellState) → cell / BLOCK < length blocks → HasPlace blocks cell
    → state_at (with_place blocks cell x) ≡ with_cell (state_at blocks) cell x
state_at-set blocks cell x h place =
    fun_ext (λ c. set_at blocks cell c x h place (cases_eq cell c) (cases_eq (cell / BLOCK) (c / BLOCK)))

-- what is read of a block that was taken out of the list
block_is : (blocks : Blocks) (c : ℕ) (block : List CellState) → c / BLOCK < length blocks
    → block ≡ get_or blocks (c / BLOCK) block → block ≡ get_or blocks (c / BLOCK) []
block_is blocks c block h is = get_or_read blocks (c / BLOCK) block h is []

pub read_is : (blocks : Blocks) (c : ℕ) (block : List CellState) (empty x : CellState) → c / BLOCK < length blocks
    → block ≡ get_or blocks (c / BLOCK) block → empty ≡ empty_cell → x ≡ get_or block (c % BLOCK) empty
    → x ≡ state_at blocks c
read_is blocks c block empty x h is is_empty read =
    read ∙ (λ k. get_or (block_is blocks c block h is k) (c % BLOCK) (is_empty k)) ∙ sym (state_at-is blocks c)

pub swap_is : (blocks : Blocks) (c : ℕ) (block after : List CellState) (x : CellState) → c / BLOCK < length blocks
    → HasPlace blocks c → block ≡ get_or blocks (c / BLOCK) block → after ≡ set block (c % BLOCK) x
    → state_at (set blocks (c / BLOCK) after) ≡ with_cell (state_at blocks) c x
swap_is blocks c block after x h place is put =
    ap (λ b. state_at (set blocks (c / BLOCK) b)) (put ∙ ap (λ b. set b (c % BLOCK) x) (block_is blocks c block h is))
    ∙ state_at-set blocks c x h place

-- and no place is lost
pub HasPlace-set : (blocks : Blocks) (cell c : ℕ) (x : CellState) → cell / BLOCK < length blocks → HasPlace blocks c
    → HasPlace (with_place blocks cell x) c
HasPlace-set blocks cell c x h place =
    ⊎_elim
    (λ same. subst (λ n. c % BLOCK < n) (sym (ap length (block_same blocks cell c x h same)
    ∙ length-set (get_or blocks (c / BLOCK) []) (cell % BLOCK) x)) place)
    (λ other. subst (λ b. c % BLOCK < length b) (sym (block_other blocks cell c x other)) place)
    (cases_eq (cell / BLOCK) (c / BLOCK))

-- one block exchanged for another that holds the same, and is no shorter
pub state_at-filled : (blocks : Blocks) (b : ℕ) (block : List CellState) → b < length blocks
    → ((p : ℕ) → get_or block p empty_cell ≡ get_or (get_or blocks b []) p empty_cell)
    → state_at (set blocks b block) ≡ state_at blocks
state_at-filled blocks b block h same =
    fun_ext (λ c. state_at-is (set blocks b block) c
    ∙ ⊎_elim
    (λ p. subst (λ d. get_or (get_or (set blocks b block) d []) (c % BLOCK) empty_cell
    ≡ get_or (get_or blocks d []) (c % BLOCK) empty_cell) p
    (ap (λ l. get_or l (c % BLOCK) empty_cell) (get_or-set_same blocks b block [] h) ∙ same (c % BLOCK)))
    (λ p. ap (λ l. get_or l (c % BLOCK) empty_cell) (get_or-set_other blocks b (c / BLOCK) block [] (λ q. p (sym q))))
    (cases_eq b (c / BLOCK))
    ∙ sym (state_at-is blocks c))

pub filled_is : (blocks : Blocks) (b : ℕ) (block after : List CellState) → b < length blocks
    → block ≡ get_or blocks b block → ((p : ℕ) → get_or after p empty_cell ≡ get_or block p empty_cell)
    → state_at (set blocks b after) ≡ state_at blocks
filled_is blocks b block after h is same =
    state_at-filled blocks b after h
    (λ p. same p ∙ ap (λ l. get_or l p empty_cell) (get_or_read blocks b block h is []))

pub HasPlace-filled : (blocks : Blocks) (b : ℕ) (block : List CellState) (c : ℕ) → b < length blocks
    → length (get_or blocks b []) ≤ length block → HasPlace blocks c → HasPlace (set blocks b block) c
HasPlace-filled blocks b block c h longer place =
    ⊎_elim
    (λ p. subst (λ l. c % BLOCK < length l)
    (sym (subst (λ d. get_or (set blocks b block) d [] ≡ block) p (get_or-set_same blocks b block [] h)))
    (subst (λ d. length (get_or blocks d []) ≤ length block → c % BLOCK < length block) (sym p)
    (λ l. omega (arith, l, place)) longer))
    (λ p. subst (λ l. c % BLOCK < length l)
    (sym (get_or-set_other blocks b (c / BLOCK) block [] (λ q. p (sym q)))) place)
    (cases_eq b (c / BLOCK))

pub HasPlace-full : (blocks : Blocks) (c : ℕ) (block : List CellState) → c / BLOCK < length blocks
    → BLOCK ≤ length block → HasPlace (set blocks (c / BLOCK) block) c
HasPlace-full blocks c block h full =
    subst (λ l. c % BLOCK < length l) (sym (get_or-set_same blocks (c / BLOCK) block [] h))
    (omega (arith, full, mod_below c BLOCK (omega arith)))

-- one more empty state is read as it was before
pub filled : (xs : List CellState) (p : ℕ) → get_or (xs ++ empty_cell ∷ []) p empty_cell ≡ get_or xs p empty_cell
filled [] zero = refl
filled [] (suc p) = refl
filled (x ∷ xs) zero = refl
filled (x ∷ xs) (suc p) = filled xs p

-- blocks that are all cut off
pub state_at-empty : (blocks : Blocks) → All (λ b. b ≡ []) blocks → state_at blocks ≡ empty_state
unfolding empty_state
state_at-empty blocks empty =
    fun_ext (λ c. state_at-is blocks c ∙ ap (λ b. get_or b (c % BLOCK) empty_cell)
    (⊎_elim (λ h. empty (c / BLOCK) [] h) (λ h. get_or_past blocks (c / BLOCK) [] h)
    (cases_lt (c / BLOCK) (length blocks))))

-- two lists joined place by place, at a place: nothing is beside the end of a list
joined_at : {X : Type 0} (f : X → X → X) (none : X) → ((x : X) → f none x ≡ x) → ((x : X) → f x none ≡ x)
    → (xs ys : List X) (p : ℕ) → get_or (joined_places f xs ys) p none ≡ f (get_or xs p none) (get_or ys p none)
unfolding joined_places
joined_at f none left right [] ys p = sym (left (get_or ys p none))
joined_at f none left right (x ∷ xs) [] p = sym (right (get_or (x ∷ xs) p none))
joined_at f none left right (x ∷ xs) (y ∷ ys) zero = refl
joined_at f none left right (x ∷ xs) (y ∷ ys) (suc p) = joined_at f none left right xs ys p

none_left : (xs : List CellState) → joined_cells [] xs ≡ xs
unfolding joined_places
none_left xs = refl

none_right : (xs : List CellState) → joined_cells xs [] ≡ xs
unfolding joined_places
none_right [] = refl
none_right (x ∷ xs) = refl

pub state_at-joined_blocks : (xs ys : Blocks) → state_at (joined_blocks xs ys)
    ≡ joined_state (state_at xs) (state_at ys)
unfolding joined_state
state_at-joined_blocks xs ys =
    fun_ext (λ c. state_at-is (joined_blocks xs ys) c
    ∙ ap (λ b. get_or b (c % BLOCK) empty_cell) (joined_at joined_cells [] none_left none_right xs ys (c / BLOCK))
    ∙ joined_at joined_cell empty_cell joined_cell-empty joined_cell-empty_right (get_or xs (c / BLOCK) [])
    (get_or ys (c / BLOCK) []) (c % BLOCK)
    ∙ sym (λ k. joined_cell (state_at-is xs c k) (state_at-is ys c k)))
