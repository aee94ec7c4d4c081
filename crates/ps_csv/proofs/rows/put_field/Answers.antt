use Rattle.std.proofs.Common.{◌≡◌, ◌≤◌, ◌+◌, ◌-◌, ◌^◌, length, arith, rules}
use Rattle.ps_csv.proofs.ExportLemmas.{writing-goes_on}
use Rattle.ps_csv.proofs.rows.put_field.Goals as goal

pub returns-in-Ok-clause-written : goal.returns-in-Ok-clause-written
returns-in-Ok-clause-written g c = λ text fields few writing.
    let e = c.in-Ok.ensures in
    let v = g.T.CellText.text_at c.args.texts.now c.args.cell in
    let fits : length fields + 1 ≤ 2 ^ 64 - 1 = omega (arith, few) in
    let same : c.as_slice.result.now ≡ v = search rules in
    writing-goes_on c.args.writer.now c.write_field.new.self text fields v fits writing e.same e.count
    (rw same at e.wrote) e.stays (rw same at e.text)
