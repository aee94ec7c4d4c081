-- Entries of states without formulas, at cells that no formula refers to.
use Rattle.std.proofs.Common.{◌≡◌, ℕ, Bool, true, false, not, ◌&&◌, List, [], ◌∷◌, refl, sym, ap, ◌∙◌}
use Rattle.std.specs.Prelude.{Option, Some, None, is_some}
use Rattle.std.specs.List.{All, list_all}
use Rattle.std.proofs.lemmas.List.Elements.{All-head, All-tail}
use Rattle.ps_content.specs.Order.{formula_in}
use Rattle.ps_formula.specs.Tree.{Tree}
use Rattle.ps_index.specs.Stands.{Puts, with_put}
use Rattle.ps_delta.specs.declared.cell_state.CellState.{CellState}
use Rattle.ps_delta.specs.State.{State}
use Rattle.ps_delta.specs.Deltas.{Entries, cells_of}
use Rattle.ps_cells.specs.Settled.{content_of}
use Rattle.ps_cells.specs.Inside.Alone.{is_alone, is_alone_entry, is_empty}
use Rattle.ps_cells.specs.Inside.Formulas.{with_puts}
use Rattle.ps_cells.specs.Inside.Waiting.{is_formula}
use Rattle.ps_cells.specs.Inside.Walk.{formula_at}

-- their cells are alone in a state that holds them
pub alone_cells : (t : State) (listed : ℕ → List ℕ) (es : Entries) → All (λ e. e.1 ≡ t e.0) es
    → list_all (is_alone (formula_at t) listed) (cells_of es) ≡ list_all (is_alone_entry listed) es
alone_cells t listed [] hold = refl
alone_cells t listed (e ∷ es) hold =
    ap
    (λ (x : CellState). (not (is_formula (content_of x)) && is_empty (listed e.0))
    && list_all (is_alone (formula_at t) listed) (cells_of es))
    (sym (All-head (λ (q : ℕ × CellState). q.1 ≡ t q.0) e es hold))
    ∙ ap (λ b. is_alone_entry listed e && b)
    (alone_cells t listed es (All-tail (λ (q : ℕ × CellState). q.1 ≡ t q.0) e es hold))

-- what is put where there is no formula
put_none : (o : Option Tree) (c : ℕ) (a b : Bool) (forms : Puts) → (not (is_some o) && a) && b ≡ true
    → with_put c o forms ≡ forms
put_none None c a b forms h = refl
put_none (Some t) c a b forms h = absurd (let f : false ≡ true = h in cc)

rest_alone : (a b : Bool) → a && b ≡ true → b ≡ true
rest_alone true b h = h
rest_alone false b h = absurd (let f : false ≡ true = h in cc)

-- the formulas of such entries are none
pub alone_puts : (listed : ℕ → List ℕ) (es : Entries) (forms : Puts) → list_all (is_alone_entry listed) es ≡ true
    → forms ≡ with_puts es forms
alone_puts listed [] forms h = refl
alone_puts listed (e ∷ es) forms h =
    alone_puts listed es forms (rest_alone (is_alone_entry listed e) (list_all (is_alone_entry listed) es) h)
    ∙ ap (with_puts es)
    (sym (put_none (formula_in (content_of e.1)) e.0 (is_empty (listed e.0)) (list_all (is_alone_entry listed) es) forms
    h))
