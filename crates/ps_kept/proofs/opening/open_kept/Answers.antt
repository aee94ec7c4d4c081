use Rattle.std.proofs.Common.{ℕ, List, None, inr, subst}
use Rattle.ps_keep.specs.Lines.{whole_lines}
use Rattle.ps_kept.specs.Inside.{IsKeepFault}
use Rattle.ps_kept.specs.Starts.{IsRefusal, Reads}
use Rattle.ps_kept.specs.declared.fault.KeepFault.{KeepFault}
use Rattle.ps_kept.specs.declared.fault.KeepFault.TheVariants as faults
use Rattle.ps_kept.proofs.StartLemmas.{due_of, have_lines, noted_then}
use Rattle.ps_kept.proofs.opening.open_kept.Goals as goal

pub keep_on-requires : goal.keep_on-requires
keep_on-requires g c = record {
  due = due_of c.args.replica c.bytes.result.now _ c.in-Ok.sheet.history c.history.result.now
      c.in-Ok.ensures.read c.bytes.ensures c.history.ensures.history;
}

pub returns-in-Ok-keep_on-clause-noted : goal.returns-in-Ok-keep_on-clause-noted
returns-in-Ok-keep_on-clause-noted g c =
    noted_then c.args.replica (g.F.Found.bytes c.args.found) c.in-Ok.sheet.history c.in-Ok-keep_on.keeper
    (subst (λ b. Reads c.args.replica b c.in-Ok.sheet.history) c.bytes.ensures c.in-Ok.ensures.read)
    c.in-Ok-keep_on.ensures.journal c.in-Ok-keep_on.ensures.lines

pub returns-in-Ok-keep_on-clause-have_lines : goal.returns-in-Ok-keep_on-clause-have_lines
returns-in-Ok-keep_on-clause-have_lines g c =
    have_lines c.args.replica c.bytes.result.now c.in-Ok.sheet.history c.in-Ok.ensures.read

-- a file that can't be opened as a journal is refused; if memory was the reason, it had no whole line
refused_then : {F : Type 0} (bytes_of : F → List ℕ) (replica : ℕ) (bytes : List ℕ) (fault : KeepFault)
    → IsKeepFault (whole_lines bytes) fault → IsRefusal bytes_of replica bytes fault None
refused_then bytes_of replica bytes faults.Memory none = inr none
refused_then bytes_of replica bytes faults.Device some = tt
refused_then bytes_of replica bytes (faults.Line number) some = absurd some
refused_then bytes_of replica bytes (faults.Replica other) some = absurd some

pub returns-in-Err-keep_on-clause-refused : goal.returns-in-Err-keep_on-clause-refused
returns-in-Err-keep_on-clause-refused g c =
    refused_then g.F.Found.bytes c.args.replica (g.F.Found.bytes c.args.found) c.in-Err-keep_on.fault
    c.in-Err-keep_on.ensures.fault
