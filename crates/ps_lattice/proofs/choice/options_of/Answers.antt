use Rattle.std.proofs.Common.{Bool, false, sym, ap, ◌∙◌, cond, take, get_or}
use Rattle.std.proofs.lemmas.List.{take_all, get_or_default}
use Rattle.ps_lattice.specs.declared.choice.Pair.{Pair}
use Rattle.std.specs.List.{list_any}
use Rattle.ps_lattice.specs.Choice.{is_live}
use Rattle.ps_lattice.proofs.ChoiceLemmas.{option_fits, all_at}
use Rattle.ps_lattice.proofs.Bits.{tells_bit, live_step}
use Rattle.ps_lattice.proofs.Stretches.{any_stretch}
use Rattle.ps_lattice.proofs.choice.options_of.Goals as goal

-- a pair that isn't removed tells of all pairs of its option
pub loop-i-preserved : goal.loop-i-preserved
loop-i-preserved c =
    let es = c.args.pairs.now in
    let i = c.loop-i.i in
    let none : Pair × Bool = (record { option = 0; replica = 0; sequence = 0 }, false) in
    let e = get_or es i none in
    let inside = c.loop-i-test.true in
    let stretch = c.end_of_option-i.ensures in
    record {
      within = stretch.high;
      bits = λ k low.
          live_step c.loop-i.options k e (list_any (is_live k) (take i es)) low
          (option_fits e (all_at es i none c.requires.in_range inside)) (c.loop-i.invariant.bits k low)
          c.if-removed.false
          ∙ ap (λ b. cond b 1 0) (sym (any_stretch k es i e (get_or_default es i none e inside) c.if-removed.false
          c.end_of_option-i.result stretch));
    }

pub returns : goal.returns
returns c k within = tells_bit c.loop-i.options k (list_any (is_live k) c.args.pairs.now)
    (c.loop-i.invariant.bits k within ∙ ap (λ l. cond (list_any (is_live k) l) 1 0)
    (take_all c.loop-i.i c.args.pairs.now c.loop-i-test.false))
