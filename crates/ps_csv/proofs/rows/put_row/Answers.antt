use Rattle.std.proofs.Common.{◌≡◌, ◌<◌, length, arith}
use Rattle.ps_grid.specs.declared.size.TheConstants.{COLUMNS}
use Rattle.ps_csv.specs.Exports.{row_record}
use Rattle.ps_csv.proofs.ExportLemmas.{first_fields, first_fields-all, first_fields-length, first_fields-more}
use Rattle.ps_csv.proofs.ExportLemmas.{writing-begins, writing-ends}
use Rattle.ps_csv.proofs.rows.put_row.Goals as goal

pub loop-j-init : goal.loop-j-init
loop-j-init g c = λ text has. writing-begins _ text has

pub loop-j-preserved : goal.loop-j-preserved
loop-j-preserved g c = λ text has.
    let v = g.T.CellText.text_at c.args.texts.now in
    let size = first_fields-length v c.args.rect c.args.k c.loop-j.j in
    let few : length (first_fields v c.args.rect c.args.k c.loop-j.j) < COLUMNS = rw size (omega arith) in
    rw (first_fields-more v c.args.rect c.args.k c.loop-j.j, ← c.at.ensures)
    (c.in_ok-put_field.ensures.written text (first_fields v c.args.rect c.args.k c.loop-j.j) few
    (c.loop-j.invariant text has))

pub returns-in-Ok-clause-written : goal.returns-in-Ok-clause-written
returns-in-Ok-clause-written g c = λ text has.
    let v = g.T.CellText.text_at c.args.texts.now in
    let all : c.loop-j.j ≡ c.args.rect.width = omega arith in
    let writing = rw (all, first_fields-all v c.args.rect c.args.k) at (c.loop-j.invariant text has) in
    let end = c.in-Ok.ensures in
    writing-ends c.loop-j.writer c.end_record.new.self text (row_record v c.args.rect c.args.k) writing
    end.same end.fields end.wrote end.bytes
