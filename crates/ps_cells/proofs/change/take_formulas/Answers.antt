use Rattle.std.proofs.Common.{◌≡◌, ◌<◌, ◌≤◌, ◌+◌, ◌-◌, ℕ, List, Option, Some, None, length, take, get_or, arith, sym}
use Rattle.std.proofs.Common.{subst}
use Rattle.ps_formula.specs.Tree.{Tree}
use Rattle.ps_content.specs.Order.{formula_in}
use Rattle.ps_index.specs.Stands.{Puts, Stands, with_put}
use Rattle.ps_index.specs.declared.span.Span.{Span}
use Rattle.ps_delta.specs.Deltas.{Entries}
use Rattle.ps_delta.specs.declared.cell_state.CellState.{CellState}
use Rattle.ps_cells.specs.Settled.{content_of}
use Rattle.ps_cells.specs.Inside.Formulas.{with_puts}
use Rattle.ps_cells.proofs.PutFormulas.{with_puts-more}
use Rattle.ps_cells.proofs.change.take_formulas.Goals as goal

-- what n formulas were put in on top of
put_back : (index : List (List Span)) (cells : Entries) (n : ℕ) (e : ℕ × CellState) (o : Option Tree) (forms : Puts)
    → 0 < n → n ≤ length cells → e ≡ get_or cells (n - 1) e → o ≡ formula_in (content_of e.1)
    → Stands index (with_puts (take n cells) forms)
    → Stands index (with_put e.0 o (with_puts (take (n - 1) cells) forms))
put_back index cells n e o forms some within is same stands =
    let back : n - 1 + 1 ≡ n = omega (arith, some) in
    let more : with_puts (take n cells) forms
    ≡ with_put e.0 (formula_in (content_of e.1)) (with_puts (take (n - 1) cells) forms) =
    subst (λ k. with_puts (take k cells) forms
    ≡ with_put e.0 (formula_in (content_of e.1)) (with_puts (take (n - 1) cells) forms)) back
    (with_puts-more cells (n - 1) e forms (omega (arith, some, within)) is) in
    subst (λ (p : Option Tree). Stands index (with_put e.0 p (with_puts (take (n - 1) cells) forms))) (sym same)
    (subst (λ (f : Puts). Stands index f) more stands)

pub remove-requires : goal.remove-requires
remove-requires c =
    let was = c.requires.stands in (
      with_puts (take (c.loop-left.left - 1) c.args.cells.now) was.0,
      put_back c.loop-left.index c.args.cells.now c.loop-left.left c.index-cells-left.result
          (Some c.in-Some.formula.now) was.0
          c.loop-left-test.true c.loop-left.invariant.within c.index-cells-left.is c.in-Some.ensures
          (c.loop-left.invariant.taken was.0 was.1),
    )

pub loop-left-preserved-in-Some : goal.loop-left-preserved-in-Some
loop-left-preserved-in-Some c = record {
  within = let w = c.loop-left.invariant.within in omega (arith, w);
  taken = λ forms stands. c.remove.ensures (with_puts (take (c.loop-left.left - 1) c.args.cells.now) forms)
      (put_back c.loop-left.index c.args.cells.now c.loop-left.left c.index-cells-left.result
      (Some c.in-Some.formula.now)
      forms c.loop-left-test.true c.loop-left.invariant.within c.index-cells-left.is c.in-Some.ensures
      (c.loop-left.invariant.taken forms stands));
}

pub loop-left-preserved : goal.loop-left-preserved
loop-left-preserved c = record {
  within = let w = c.loop-left.invariant.within in omega (arith, w);
  taken = λ forms stands.
      put_back c.loop-left.index c.args.cells.now c.loop-left.left c.index-cells-left.result None
      forms c.loop-left-test.true c.loop-left.invariant.within c.index-cells-left.is c.in_default.ensures
      (c.loop-left.invariant.taken forms stands);
}

pub returns : goal.returns
returns c = record {
  taken = λ forms stands.
      let none : c.loop-left.left ≡ 0 = let e = c.loop-left-test.false in omega (arith, e) in
      subst (λ n. Stands c.loop-left.index (with_puts (take n c.args.cells.now) forms)) none
      (c.loop-left.invariant.taken forms stands);
}
