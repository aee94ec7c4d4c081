use Rattle.std.proofs.Common.{[], ◌∷◌, ◌++◌, append_assoc, ◌∙◌}
use Rattle.ps_value.specs.Shown.{choice_text, listed, options_below}
use Rattle.ps_device.specs.declared.device.Failed.{Failed}
use Rattle.ps_device.proofs.DeviceLemmas.{Sends-after, Sends-cut, Sends-cut_after, Appends-append}
use Rattle.ps_value.proofs.ShownLemmas.{choice_text-parts}
use Rattle.ps_value.proofs.shown.put_choice.Goals as goal

pub returns-in_err-put_all-clause-shown : goal.returns-in_err-put_all-clause-shown
returns-in_err-put_all-clause-shown g c =
    Sends-cut Failed _ _ _ (choice_text c.args.bits) (123 ∷ [])
    (listed (options_below 64 c.args.bits) ++ 125 ∷ [])
    (choice_text-parts c.args.bits ∙ append_assoc (123 ∷ []) (listed (options_below 64 c.args.bits))
    (125 ∷ [])) c.from_residual.ensures.0 c.in_err-put_all.ensures.sent

pub returns-in_err-put_options-clause-shown : goal.returns-in_err-put_options-clause-shown
returns-in_err-put_options-clause-shown g c =
    Sends-cut_after Failed _ _ _ _ (choice_text c.args.bits) (123 ∷ []) (listed (options_below 64 c.args.bits))
    (125 ∷ []) (choice_text-parts c.args.bits) c.from_residual-in_err-put_options.ensures.0
    c.in_ok-put_all.ensures.sent c.in_err-put_options.ensures.shown

pub returns-clause-shown : goal.returns-clause-shown
returns-clause-shown g c =
    rw (choice_text-parts c.args.bits)
    (Sends-after Failed _ _ _ _ _ (125 ∷ [])
    (Appends-append _ _ _ (123 ∷ []) _ c.in_ok-put_all.ensures.sent c.in_ok-put_options.ensures.shown)
    c.put_all-2.ensures.sent)
