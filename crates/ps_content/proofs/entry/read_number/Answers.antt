use Rattle.std.proofs.Common.{◌∙◌}
use Rattle.ps_content.proofs.NumberLemmas.{number_of-signed, number_of-unsigned}
use Rattle.ps_content.proofs.entry.read_number.Goals as goal

pub returns-in_err-magnitude : goal.returns-in_err-magnitude
returns-in_err-magnitude c =
    c.from_residual.ensures
    ∙ number_of-unsigned c.args.bytes.now _ c.split_sign-is_negative.ensures.digits
    (rw c.in_err-magnitude.was at c.read_digits.ensures)

pub returns : goal.returns
returns c =
    let found = rw c.in_ok-magnitude.was at c.read_digits.ensures in
    number_of-signed c.args.bytes.now _ _ _ _ c.split_sign-is_negative.ensures.sign
    c.split_sign-is_negative.ensures.digits found.0.0 found.1 c.signed.ensures
