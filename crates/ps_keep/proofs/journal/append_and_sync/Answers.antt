use Rattle.std.proofs.Common.{◌++◌, ◌∙◌, List, ℕ, ap, length, sym}
use Rattle.std.proofs.Math.Seq.{take-length}
use Rattle.ps_keep.proofs.JournalLemmas.{on_err}
use Rattle.ps_keep.proofs.journal.append_and_sync.Goals as goal

-- all of it was appended, whatever the sync came to
pub returns-clause-part : goal.returns-clause-part
returns-clause-part g c = on_err c.sync.result (
  length c.args.bytes.now,
  c.sync.ensures.same ∙ c.in_ok-append.ensures.appended
      ∙ ap (λ (l : List ℕ). g.D.Device.written c.args.device.now ++ l) (sym (take-length c.args.bytes.now)),
)
