use Rattle.std.proofs.Common.{refl, sym, ◌∙◌}
use Rattle.ps_value.specs.Shown.{listed, options_below}
use Rattle.ps_device.specs.declared.device.Failed.{Failed}
use Rattle.ps_device.proofs.DeviceLemmas.{Appends-nil, Sends-cut_after, Appends-append}
use Rattle.ps_value.proofs.ShownLemmas.{listed-none, is_empty-none, is_empty, listed_next, listed-front_chosen}
use Rattle.ps_value.proofs.ShownLemmas.{is_chosen-bit, is_chosen-no_bit, listed_below-chosen, listed_below-other}
use Rattle.ps_value.proofs.ShownLemmas.{is_empty_below-chosen, is_empty_below-other}
use Rattle.ps_value.proofs.shown.put_options.Goals as goal
use Rattle.ps_value.proofs.shown.put_options.Goals.{then-bits-option-eq1+in_ok-put_option, else-bits-option-eq1}

pub loop-option-init : goal.loop-option-init
loop-option-init g c = record {
  sent = rw listed-none (Appends-nil _);
  calm = refl;
  first = is_empty-none c.args.bits;
}

pub returns-in_err-put_option-clause-shown : goal.returns-in_err-put_option-clause-shown
returns-in_err-put_option-clause-shown g c =
    let n = c.loop-option.option in
    let bits = c.args.bits in
    let front = listed-front_chosen n 64 bits c.loop-option-test.true
    (is_chosen-bit bits n c.if-bits-option-eq1.true) in
    Sends-cut_after Failed _ _ _ _ (listed (options_below 64 bits)) (listed (options_below n bits))
    (listed_next (is_empty (options_below n bits)) n)
    front.0 front.1 c.from_residual.ensures.0
    c.loop-option.invariant.sent (rw c.loop-option.invariant.first at c.in_err-put_option.ensures.shown)

pub loop-option-preserved : goal.loop-option-preserved
loop-option-preserved g c =
    let n = c.loop-option.option in
    let bits = c.args.bits in
    elim c.if-bits-option-eq1.branch [
      | then-bits-option-eq1+in_ok-put_option w ↦
          let chosen = is_chosen-bit bits n w.if-bits-option-eq1.true in
          record {
            sent = rw (w.sink-is, listed_below-chosen n bits chosen)
                (Appends-append _ _ _ _ _ c.loop-option.invariant.sent
                (rw c.loop-option.invariant.first at w.in_ok-put_option.ensures.shown));
            calm = rw w.sink-is (w.in_ok-put_option.ensures.calm ∙ c.loop-option.invariant.calm);
            first = w.is_first-is ∙ sym (is_empty_below-chosen n bits chosen);
          }
      | else-bits-option-eq1 w ↦
          let other = is_chosen-no_bit bits n w.if-bits-option-eq1.false in
          record {
            sent = rw (w.sink-is, listed_below-other n bits other) c.loop-option.invariant.sent;
            calm = rw w.sink-is c.loop-option.invariant.calm;
            first = w.is_first-is ∙ c.loop-option.invariant.first ∙ sym (is_empty_below-other n bits other);
          }
    ]
