use Rattle.std.proofs.Common.{◌≡◌, ◌∙◌, rules, sym, false}
use Rattle.ps_kept.proofs.StartLemmas.{told_then}
use Rattle.ps_commands.proofs.kept.keep_sheet.Goals as goal

pub returns-in-Ok-clause-kept : goal.returns-in-Ok-clause-kept
returns-in-Ok-clause-kept g c =
    let opened = c.in-Ok.ensures in
    let workers : c.in-Ok.kept.0.workers ≡ c.args.options.workers = search rules in
    let goes_on : c.in-Ok.kept.1.has_failed ≡ false = search rules in
    record {
      is_sheet = opened.sheet;
      replica_asked = opened.replica;
      workers_asked = workers;
      holds = record {
        is_journal = opened.noted.journal;
        told = rw opened.lines (told_then _ _ _ opened.read);
        kept = opened.synced ∙ sym opened.lines;
        goes_on = goes_on;
      };
      noted = opened.noted;
      kept = opened.kept;
    }
