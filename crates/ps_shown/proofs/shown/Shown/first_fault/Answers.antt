use Rattle.std.proofs.Common.{◌≡◌, ◌+◌, ◌-◌, ◌<◌, ap, sym, ◌∙◌, subst, is_some, None, arith}
use Rattle.ps_grid.specs.Rectangle.{cell_within}
use Rattle.ps_shown.specs.Faults.{IsFirstFault, fault_kept}
use Rattle.ps_shown.specs.Shown.{place_of, shown_at}
use Rattle.ps_shown.proofs.FaultLemmas.{FoundSoFar, column_clean, column_fault}
use Rattle.ps_shown.proofs.FaultLemmas.{found_above, found_in_all, found_in_none, found_no_more, none_below}
use Rattle.ps_shown.proofs.RunLemmas.{below_fits}
use Rattle.ps_shown.proofs.shown.Shown.first_fault.Goals as goal

pub place_of_fault-found-requires-clause-within : goal.place_of_fault-found-requires-clause-within
place_of_fault-found-requires-clause-within c =
    let a = c.args.rect in
    let g = c.area.ensures.in_grid in
    let n = c.search.across in
    let left : n < a.width = omega (arith, c.search-test.true, c.width-columns.ensures.width) in
    let top : c.place-top.result ≡ place_of (cell_within a n 0) =
    c.place-top.ensures.place ∙ ap place_of c.at.ensures in
    let fits = below_fits a n 0 g left (none_below a g) in
    omega (arith, top, fits, c.search.invariant.0.within)

pub search-init : goal.search-init
search-init c = (
  subst (λ n. FoundSoFar (shown_at c.args.self.now) c.args.rect 0 n None) (sym c.height-rows.ensures.height)
      (found_in_none (shown_at c.args.self.now) c.args.rect),
  omega arith,
)

pub search-preserved-then-found-end : goal.search-preserved-then-found-end
search-preserved-then-found-end c =
    let a = c.args.rect in
    let g = c.area.ensures.in_grid in
    let kept = c.args.self.now in
    let n = c.search.across in
    let rows = c.search.rows in
    let top = c.place-top.result in
    let r = c.place_of_fault-found.result in
    let left : n < a.width = omega (arith, c.search-test.true, c.width-columns.ensures.width) in
    let is : top ≡ place_of (cell_within a n 0) = c.place-top.ensures.place ∙ ap place_of c.at.ensures in
    let found = subst (λ p. IsFirstFault kept p (top + rows) r) is
    (subst (λ ks. IsFirstFault ks top (top + rows) r) (c.deref.ensures.value ∙ c.self.view_is)
    c.place_of_fault-found.ensures) in
    let less : r - top < rows = omega (arith, c.if-found-end.true, found.order, is) in
    let low : r - top < a.height = omega (arith, less, c.search.invariant.0.within) in
    let read = subst (λ ks. c.fault_at-first.result ≡ fault_kept ks r)
    (c.deref-then-found-end.ensures.value ∙ c.self.view_is)
    c.fault_at-first.ensures in (
      found_above (shown_at kept) a n rows (r - top) c.search.first c.fault_at-first.result c.search.invariant.0 less
          (λ y above. column_clean kept a n (top + rows) r y g left found (omega (arith, above, low))
          (omega (arith, above, is)))
          (read ∙ column_fault kept a n (r - top) r g left low (omega (arith, found.order, is)))
          (ap is_some read ∙ found.there (omega (arith, c.if-found-end.true))),
      omega (arith, c.search-test.true),
    )

pub search-preserved : goal.search-preserved
search-preserved c =
    let a = c.args.rect in
    let g = c.area.ensures.in_grid in
    let kept = c.args.self.now in
    let n = c.search.across in
    let rows = c.search.rows in
    let top = c.place-top.result in
    let r = c.place_of_fault-found.result in
    let left : n < a.width = omega (arith, c.search-test.true, c.width-columns.ensures.width) in
    let is : top ≡ place_of (cell_within a n 0) = c.place-top.ensures.place ∙ ap place_of c.at.ensures in
    let found = subst (λ p. IsFirstFault kept p (top + rows) r) is
    (subst (λ ks. IsFirstFault ks top (top + rows) r) (c.deref.ensures.value ∙ c.self.view_is)
    c.place_of_fault-found.ensures) in (
      found_no_more (shown_at kept) a n rows c.search.first c.search.invariant.0
          (λ y above. column_clean kept a n (top + rows) r y g left found
          (omega (arith, above, c.search.invariant.0.within)) (omega (arith, above, c.if-found-end.false, is))),
      omega (arith, c.search-test.true),
    )

pub returns : goal.returns
returns c =
    let end : c.search.across ≡ c.args.rect.width =
    omega (arith, c.search-test.false, c.width-columns.ensures.width, c.search.invariant.1) in
    found_in_all (shown_at c.args.self.now) c.args.rect c.search.rows c.search.first c.area.ensures.in_grid
    (subst (λ n. FoundSoFar (shown_at c.args.self.now) c.args.rect n c.search.rows c.search.first) end
    c.search.invariant.0)
