-- The state that entries stand for.
use Rattle.std.proofs.Common.{◌≡◌, ◌≢◌, ℕ, zero, suc, ◌+◌, ◌<◌, ◌≤◌, [], ◌∷◌, ◌++◌, length, get_or, take}
use Rattle.std.proofs.Common.{if◌then◌else◌, refl, sym, ap, ◌∙◌, eq-eqb, ne_eqb, arith, ⊎_elim}
use Rattle.std.proofs.lemmas.Bool.{cases_eq}
use Rattle.std.proofs.Math.Path.{fun_ext}
use Rattle.ps_delta.specs.declared.cell_state.CellState.{CellState}
use Rattle.ps_delta.specs.State.{empty_cell, empty_state, joined_cell, joined_state}
use Rattle.ps_delta.specs.CellLaws.{joined_cell-empty, joined_cell-empty_right}
use Rattle.ps_delta.specs.Deltas.{Entries, cells_of, state_of}
use Rattle.ps_delta.specs.Order.{Rising, Under}

pub state_of-nil : state_of [] ≡ empty_state
unfolding state_of empty_state
state_of-nil = refl

pub state_of-here : (e : ℕ × CellState) (rest : Entries) (c : ℕ) → e.0 ≡ c → state_of (e ∷ rest) c ≡ e.1
unfolding state_of
state_of-here e rest c h = ap (λ b. if b then e.1 else state_of rest c) (eq-eqb e.0 c h)

pub state_of-there : (e : ℕ × CellState) (rest : Entries) (c : ℕ) → e.0 ≢ c → state_of (e ∷ rest) c ≡ state_of rest c
unfolding state_of
state_of-there e rest c h = ap (λ b. if b then e.1 else state_of rest c) (ne_eqb e.0 c h)

nothing : (c : ℕ) → state_of [] c ≡ empty_cell
unfolding state_of
nothing c = refl

-- past all entries, and before them, the state is empty
pub state_of-under : (n : ℕ) (es : Entries) (c : ℕ) → Under n (cells_of es) → n ≤ c → state_of es c ≡ empty_cell
state_of-under n [] c u h = nothing c
state_of-under n (e ∷ es) c u h =
    state_of-there e es c (λ p. omega (arith, p, u.0)) ∙ state_of-under n es c u.1 h

pub state_of-rising : (n : ℕ) (es : Entries) (c : ℕ) → Rising n (cells_of es) → c < n → state_of es c ≡ empty_cell
state_of-rising n [] c r h = nothing c
state_of-rising n (e ∷ es) c r h =
    state_of-there e es c (λ p. omega (arith, p, r.0, h)) ∙ state_of-rising (e.0 + 1) es c r.1 (omega (arith, r.0, h))

-- a cell of the entries is n or later
pub entry_at : (n : ℕ) (es : Entries) (i : ℕ) (d : ℕ × CellState) → Rising n (cells_of es) → i < length es
    → n ≤ (get_or es i d).0
entry_at n [] i d r h = absurd (omega (arith, h))
entry_at n (e ∷ es) zero d r h = r.0
entry_at n (e ∷ es) (suc i) d r h =
    let later : e.0 + 1 ≤ (get_or es i d).0 = entry_at (e.0 + 1) es i d r.1 (omega (arith, h)) in
    omega (arith, later, r.0)

-- the entries before one are below it
pub under_entry : (n : ℕ) (es : Entries) (i : ℕ) (d : ℕ × CellState) → Rising n (cells_of es) → i < length es
    → Under (get_or es i d).0 (cells_of (take i es))
under_entry n [] i d r h = absurd (omega (arith, h))
under_entry n (e ∷ es) zero d r h = tt
under_entry n (e ∷ es) (suc i) d r h =
    let later : e.0 + 1 ≤ (get_or es i d).0 = entry_at (e.0 + 1) es i d r.1 (omega (arith, h)) in
    (omega (arith, later), under_entry (e.0 + 1) es i d r.1 (omega (arith, h)))

-- the state of an entry stands at its cell
pub state_of-at : (n : ℕ) (es : Entries) (i : ℕ) (d : ℕ × CellState) → Rising n (cells_of es) → i < length es
    → state_of es (get_or es i d).0 ≡ (get_or es i d).1
state_of-at n [] i d r h = absurd (omega (arith, h))
state_of-at n (e ∷ es) zero d r h = state_of-here e es e.0 refl
state_of-at n (e ∷ es) (suc i) d r h =
    state_of-there e es (get_or es i d).0 (λ p. omega (arith, p, entry_at (e.0 + 1) es i d r.1 (omega (arith, h))))
    ∙ state_of-at (e.0 + 1) es i d r.1 (omega (arith, h))

-- an entry after all others is joined to their state
push_at : (es : Entries) (e : ℕ × CellState) (c : ℕ) → Under e.0 (cells_of es)
    → state_of (es ++ e ∷ []) c ≡ joined_cell (state_of es c) (state_of (e ∷ []) c)
push_at [] e c u = sym (ap (λ x. joined_cell x (state_of (e ∷ []) c)) (nothing c)
    ∙ joined_cell-empty (state_of (e ∷ []) c))
push_at (d ∷ es) e c u =
    ⊎_elim
    (λ p. state_of-here d (es ++ e ∷ []) c p ∙ sym (joined_cell-empty_right d.1)
    ∙ ap (λ x. joined_cell x empty_cell) (sym (state_of-here d es c p))
    ∙ ap (joined_cell (state_of (d ∷ es) c)) (sym (state_of-there e [] c (λ q. omega (arith, p, q, u.0)) ∙ nothing c)))
    (λ p. state_of-there d (es ++ e ∷ []) c p ∙ push_at es e c u.1
    ∙ ap (λ x. joined_cell x (state_of (e ∷ []) c)) (sym (state_of-there d es c p)))
    (cases_eq d.0 c)

pub state_of-push : (es : Entries) (e : ℕ × CellState) → Under e.0 (cells_of es)
    → state_of (es ++ e ∷ []) ≡ joined_state (state_of es) (state_of (e ∷ []))
unfolding joined_state
state_of-push es e u = fun_ext (λ c. push_at es e c u)
