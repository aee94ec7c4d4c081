use Rattle.std.proofs.Common.{◌≤◌, length, sym, arith}
use Rattle.ps_value.proofs.LabelLemmas.{IsLabel-short, IsStored-padded, take-padded}
use Rattle.ps_value.proofs.label.Label.new.Goals as goal

pub in_room-requires : goal.in_room-requires
in_room-requires c = IsLabel-short _ (sym c.if-not-is_text_of_one_line.ensures)

pub overflow_cast-result : goal.overflow_cast-result
overflow_cast-result c =
    let short : length c.args.bytes.now ≤ 64 = IsLabel-short _ (sym c.if-not-is_text_of_one_line.ensures) in
    omega arith

pub invariant_of-result : goal.invariant_of-result
invariant_of-result c =
    rw c.in_room.ensures (IsStored-padded _ (sym c.if-not-is_text_of_one_line.ensures))

pub returns-clause-bytes : goal.returns-clause-bytes
returns-clause-bytes c = rw c.in_room.ensures (take-padded _)
