use Rattle.std.proofs.Common.{◌≡◌, ◌+◌, true, not, ◌&&◌, get_or, take, arith, refl}
use Rattle.std.proofs.Common.{sym, ap, ◌∙◌, eqb}
use Rattle.std.specs.List.{list_any}
use Rattle.std.proofs.lemmas.List.{get_or_read, take_all}
use Rattle.ps_region.proofs.TouchedLemmas.{noted_step, and_true}
use Rattle.ps_region.proofs.members.note_touched.Goals as goal

pub loop-c-preserved : goal.loop-c-preserved
loop-c-preserved g c =
    let touched = c.args.touched.now in
    let i = c.loop-c.c-index in
    let at = get_or_read touched i c.c-item.result c.loop-c-test.true c.c-item.is 0 in
    let place : c.index-place.result ≡ get_or touched i 0 = c.index-place.ensures.index ∙ at in
    record {
      fresh = λ q. noted_step (λ x. true) c.loop-c.fresh touched i c.index-place.result true c.loop-c-test.true place
          (omega (arith, c.index-place.ensures.in_grid, c.loop-c.auto.fresh, c.requires.fresh_length)) refl
          (λ x. c.loop-c.invariant.fresh x ∙ sym (and_true (list_any (eqb x) (take i touched)))) q
          ∙ and_true (list_any (eqb q) (take (i + 1) touched));
      plain = noted_step (λ x. not (g.A.After.formula c.args.after.now x)) c.loop-c.plain touched i
          c.index-place.result (not c.is_formula.result) c.loop-c-test.true place
          (omega (arith, c.index-place.ensures.in_grid, c.loop-c.auto.plain, c.requires.plain_length))
          (ap not (c.is_formula.ensures
          ∙ ap (λ x. g.A.After.formula c.args.after.now x) (sym c.index-place.ensures.index)))
          c.loop-c.invariant.plain;
    }

pub returns-clause-fresh : goal.returns-clause-fresh
returns-clause-fresh g c = λ q. c.loop-c.invariant.fresh q
    ∙ ap (λ xs. list_any (eqb q) xs) (take_all c.loop-c.c-index c.args.touched.now (omega (arith, c.loop-c-test.false)))

pub returns-clause-plain : goal.returns-clause-plain
returns-clause-plain g c = λ q. c.loop-c.invariant.plain q
    ∙ ap (λ xs. list_any (eqb q) xs && not (g.A.After.formula c.args.after.now q))
    (take_all c.loop-c.c-index c.args.touched.now (omega (arith, c.loop-c-test.false)))
