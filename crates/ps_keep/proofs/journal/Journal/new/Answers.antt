use Rattle.std.proofs.Common.{false}
use Rattle.ps_keep.specs.Journals.{Holds}
use Rattle.ps_keep.proofs.JournalLemmas.{holds_journal, new_holds}
use Rattle.ps_keep.proofs.journal.Journal.new.Goals as goal

pub returns-clause-journal : goal.returns-clause-journal
returns-clause-journal g c =
    let dev = g.D.Device in
    let h : Holds (dev.written c.of-durable.result.value) c.new.result.items (dev.written c.args.device) (dev.synced
    c.args.device) false (dev.is_cut c.args.device) (dev.cut_failed c.args.device) =
    rw (c.of-durable.ensures, c.new.ensures.items) (new_holds _ _ _ _ c.requires.whole c.requires.synced
    c.requires.uncut.0 c.requires.uncut.1) in
    holds_journal _ _ _ _ _ _ _ h
