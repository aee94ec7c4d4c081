use denote.Exit.{yes}
use denote.Param.Send.{IsSend, arg_send, param_send, sendable, view_send}
use denote.Param.SendFields.{declared_send, as_row_send}
use denote.Struct.Field.{row_field}
use Rattle.std.proofs.Crossing.{crosses}
use Rattle.ps_keep.specs.contracts.digested.DigestedDevice as digested
use Rattle.ps_keep.specs.contracts.digested.DigestedDevice.TheInside as inside
use Rattle.ps_keep.specs.contracts.file.KeptFile as kept_file
use Rattle.ps_keep.specs.contracts.file.KeptFileDevice.TheImpl.{ghosts}
use Rattle.ps_commands.proofs.listening.serve_kept.Lts as Lts
use Rattle.ps_device.proofs.DeviceLemmas.{Appends-append}
use Rattle.ps_commands.proofs.listening.serve_kept.Goals as goal

file_send : IsSend kept_file.the_row
file_send = search (crosses, sendable) depth 60 fits 100000

device_send : IsSend (digested.the_row kept_file.the_row ghosts)
device_send = view_send _ _ _ _ _ (declared_send (inside.the_type kept_file.the_row ghosts) (
  as_row_send (row_field kept_file.the_row) file_send,
  (
    search (crosses, sendable) depth 60 fits 100000,
    (search (crosses, sendable) depth 60 fits 100000, (search (crosses, sendable) depth 60 fits 100000, tt)),
  ),
))

pub returns-in-Ok-tell_closed-clause-printed : goal.returns-in-Ok-tell_closed-clause-printed
returns-in-Ok-tell_closed-clause-printed g c =
    Appends-append _ _ _ _ _ c.in-Ok.ensures.printed c.in-Ok-tell_closed.ensures.printed

pub serve_with_journal-requires-send-D : goal.serve_with_journal-requires-send-D
serve_with_journal-requires-send-D g c κs within = param_send _ _ (arg_send _ yes _ device_send)
