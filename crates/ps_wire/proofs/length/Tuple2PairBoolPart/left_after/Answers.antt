use Rattle.std.proofs.Common.{◌≡◌, ◌+◌, ◌-◌, ◌≤◌, arith, ap, subst}
use Rattle.std.specs.Prelude.{SomeIff}
use Rattle.ps_wire.specs.Length.{size}
use Rattle.ps_wire.specs.Value.{gone_number, pair_value, whole}
use Rattle.ps_wire.proofs.SizeLemmas.{gone_digit, size_of_four}
use Rattle.ps_wire.proofs.length.Tuple2PairBoolPart.left_after.Goals as goal

pub returns : goal.returns
returns c =
    let e = c.args.self.now in
    let is : 6 + c.digits-3.result + (c.digits.result + c.digits-2.result) ≡ size (pair_value e) =
    omega (
      arith,
      c.digits.ensures.value,
      c.digits-2.ensures.value,
      c.digits-3.ensures.value,
      ap (λ n. size (whole n)) c.from.ensures,
      ap (λ n. size (whole n)) c.from-2.ensures,
      ap (λ n. size (whole n)) c.from-3.ensures,
      size_of_four (whole e.0.option) (whole e.0.replica) (whole e.0.sequence) (whole (gone_number e.1)),
      gone_digit e.1,
    ) in
    subst (λ n. SomeIff c.checked_sub.result (n ≤ c.args.left) (c.args.left - n)) is c.checked_sub.ensures
