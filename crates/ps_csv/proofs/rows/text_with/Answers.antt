use Rattle.std.proofs.Common.{◌≡◌, arith}
use Rattle.ps_csv.proofs.ExportLemmas.{finished, first_records, first_records-none, first_records-more}
use Rattle.ps_csv.proofs.ExportLemmas.{first_records-all}
use Rattle.ps_csv.proofs.rows.text_with.Goals as goal

pub loop-k-init : goal.loop-k-init
loop-k-init g c =
    rw (first_records-none (g.T.CellText.text_at c.args.texts.now) c.args.rect) c.new_writer-writer.ensures

pub loop-k-preserved : goal.loop-k-preserved
loop-k-preserved g c =
    let v = g.T.CellText.text_at c.args.texts.now in
    let more = first_records-more v c.args.rect c.loop-k.k in
    rw more (c.in_ok-put_row.ensures.written (first_records v c.args.rect c.loop-k.k) c.loop-k.invariant)

pub returns-clause-text : goal.returns-clause-text
returns-clause-text g c =
    let v = g.T.CellText.text_at c.args.texts.now in
    let all : c.loop-k.k ≡ c.args.rect.height = omega arith in
    let has = rw (all, first_records-all v c.args.rect) at c.loop-k.invariant in
    finished c.finish.result c.loop-k.writer _ c.finish.ensures.text has
