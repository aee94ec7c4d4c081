use Rattle.std.proofs.Common.{◌+◌, ◌-◌, ◌++◌, arith, ap, ◌∙◌, length, slice_set, take}
use Rattle.std.proofs.lemmas.Slice.{take-put_mid}
use Rattle.ps_wire.proofs.SentLemmas.{quote_first}
use Rattle.ps_wire.proofs.write.put_label.Goals as goal

pub returns-clause-front : goal.returns-clause-front
returns-clause-front c =
    let label = c.args.label.now in
    let text = slice_set c.args.text.now 0 39 in
    let copied = c.copy_from_slice.new.self in
    let after = c.copy_from_slice.ensures.after in
    let first = quote_first c.args.text.now (omega arith) in
    let end = 1 + length label in
    take-put_mid 1 (end - 1) text copied end (omega (arith, ap length after)) first.1
    ∙ ap (λ bytes. take 1 text ++ bytes) after ∙ ap (λ bytes. bytes ++ label) first.0
