use Rattle.std.proofs.Common.{rules, List, Option, ℕ, length, take, subst, sym}
use Rattle.std.specs.Io.KnownBytes.{Appends}
use Rattle.std.proofs.Math.Seq.{take-length}
use Rattle.ps_device.proofs.DeviceLemmas.{Appends-keeps}
use Rattle.ps_commands.specs.Commands.{table_of}
use Rattle.ps_commands.proofs.table.put_table.Goals as goal

-- all of a text is its beginning too
whole : (old new : Option (List ℕ)) (text : List ℕ) → Appends old new text → Appends old new (take (length text) text)
whole old new text appends = subst (λ t. Appends old new t) (sym (take-length text)) appends

pub returns-in-Err-clause-device : goal.returns-in-Err-clause-device
returns-in-Err-clause-device g c = λ told.
    let text = table_of c.args.entries c.args.imported.records c.args.imported.fields c.args.sheet.now in
    let written : Appends (g.K.Sink.contents c.args.sink.now) (g.K.Sink.contents c.match-extent.sink) text =
    search rules in
    (length text, whole _ _ text (Appends-keeps _ _ _ text written c.hand_on.ensures.same))
