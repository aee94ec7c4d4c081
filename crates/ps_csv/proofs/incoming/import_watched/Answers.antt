use Rattle.std.proofs.Common.{◌≡◌, length, refl, rules}
use Rattle.ps_delta.specs.Deltas.{joined_history}
use Rattle.ps_csv.proofs.ExtentLemmas.{extent}
use Rattle.ps_csv.proofs.TableLemmas.{imports_table}
use Rattle.ps_csv.proofs.incoming.import_watched.Goals as goal

pub returns-in-Ok-apply : goal.returns-in-Ok-apply
returns-in-Ok-apply g c =
    let read = c.in-Ok.ensures.read in
    let size : c.len-records.result ≡ length c.in-Ok.table.batches.items = search rules in
    record {
      imported = (
        read.0,
        read.2,
        read.3,
        imports_table read.0 read.1 c.in-Ok.table _ _ c.args.sheet.now c.apply.new.sheet read.4 read.5 read.6
            c.in-Ok-apply.ensures.assigned size
            refl,
      );
      extent = extent (joined_history c.args.sheet.now.history) read.0 read.1 c.in-Ok.table _ _ read.5 read.6 size refl;
      calm = c.in-Ok.ensures.calm;
      refused = tt;
      reader = tt;
      device = tt;
      steady = tt;
      none = tt;
      kept = tt;
      stopped = tt;
      replica = c.apply.ensures.replica;
      workers = c.apply.ensures.workers;
      sheet = c.apply.ensures.sheet;
    }
