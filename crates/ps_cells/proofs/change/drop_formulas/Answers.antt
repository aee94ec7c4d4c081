use Rattle.std.proofs.Common.{◌≡◌, ◌++◌, ◌∷◌, [], ℕ, List, length, refl, ap, ◌∙◌, subst, arith}
use Rattle.ps_content.specs.Order.{formula_in}
use Rattle.ps_index.specs.Stands.{Puts, Stands, with_put}
use Rattle.ps_index.specs.declared.span.Span.{Span}
use Rattle.ps_delta.specs.Deltas.{Entries}
use Rattle.ps_delta.specs.declared.cell_state.CellState.{CellState}
use Rattle.ps_cells.specs.Settled.{content_of}
use Rattle.ps_cells.specs.Inside.Formulas.{with_puts}
use Rattle.ps_cells.proofs.PutFormulas.{with_puts-last}
use Rattle.ps_cells.proofs.change.drop_formulas.Goals as goal

-- what the formula of the last cell was put in on top of
on_top : (index : List (List Span)) (cells rest : Entries) (e : ℕ × CellState) (forms : Puts) → cells ≡ rest ++ e ∷ []
    → Stands index (with_puts cells forms)
    → Stands index (with_put e.0 (formula_in (content_of e.1)) (with_puts rest forms))
on_top index cells rest e forms is stands =
    subst (λ (f : Puts). Stands index f) (ap (λ (es : Entries). with_puts es forms) is ∙ with_puts-last rest e forms)
    stands

none_of : (cells : Entries) → length cells ≡ 0 → cells ≡ []
none_of [] none = refl
none_of (e ∷ cells) none = absurd (omega (arith, none))

pub take_formula-requires : goal.take_formula-requires
take_formula-requires c =
    let was = c.requires.stands in
    record {
      stands = (
        with_puts c.pop.new.self.items was.0,
        on_top c.cells.index c.cells.cells.items c.pop.new.self.items c.in-Some.last was.0 c.in-Some.ensures.items
            (c.cells.invariant was.0 was.1),
      );
    }

pub cells-preserved : goal.cells-preserved
cells-preserved c = λ forms stands.
    c.take_formula.ensures.taken (with_puts c.pop.new.self.items forms)
    (on_top c.cells.index c.cells.cells.items c.pop.new.self.items c.in-Some.last forms c.in-Some.ensures.items
    (c.cells.invariant forms stands))

pub cells-preserved-in-Some : goal.cells-preserved-in-Some
cells-preserved-in-Some c = λ forms stands.
    c.take_formula.ensures.taken (with_puts c.pop.new.self.items forms)
    (on_top c.cells.index c.cells.cells.items c.pop.new.self.items c.in-Some.last forms c.in-Some.ensures.items
    (c.cells.invariant forms stands))

pub cells-preserved-in-Some-2 : goal.cells-preserved-in-Some-2
cells-preserved-in-Some-2 c = λ forms stands.
    c.take_formula.ensures.taken (with_puts c.pop.new.self.items forms)
    (on_top c.cells.index c.cells.cells.items c.pop.new.self.items c.in-Some.last forms c.in-Some.ensures.items
    (c.cells.invariant forms stands))

pub returns-clause-taken : goal.returns-clause-taken
returns-clause-taken c = λ forms stands.
    let none : length c.cells.cells.items ≡ 0 =
    (let a = c.in_default.ensures.cases.0 in let b = c.cells.cells.ok in omega (arith, a, b)) in
    subst (λ (es : Entries). Stands c.cells.index (with_puts es forms)) (none_of c.cells.cells.items none)
    (c.cells.invariant forms stands)
