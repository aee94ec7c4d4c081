use denote.Exit.{yes}
use denote.RattleType.{RattleType}
use denote.Param.{param}
use denote.Param.Send.{IsSend}
use denote.Param.SendFields.{declared_send, as_row_send}
use denote.Struct.Declared as S
use denote.Struct.Field.{row_field}
use Rattle.std.specs.contracts.vec.Vec as Vec
use Rattle.std.specs.contracts.alloc.Global as Global
use Rattle.std.specs.contracts.impls.GlobalAllocator.TheImpl.{ghosts}
use Rattle.ps_face.specs.contracts.book.BookPrefix as front
use Rattle.ps_face.specs.contracts.book.Head as head
use Rattle.ps_face.specs.contracts.patch.KeptPatch as patch
use Rattle.ps_face.specs.contracts.waiting.Waiting as waiting
use Rattle.ps_face.specs.contracts.writer.FaceWriter.TheInside as inside
use Rattle.ps_face.proofs.threads.writer_is_send.Goals as goal

abbrev patches : RattleType
patches = Vec.the_row patch.the_row Global.the_row ghosts

-- from what the bounds say of the parts that the whole may go to another thread
pub returns : goal.returns
returns g c =
    let R : RattleType = param 1 g.row.R in
    let h : IsSend head.the_row = record { owned = c.is_send-3.ensures.owned; leaving = λ k x w. tt } in
    let f : IsSend front.the_row = record { owned = c.is_send-4.ensures.owned; leaving = λ k x w. tt } in
    let s : IsSend patches =
    record { owned = c.is_send-5.ensures.owned; leaving = λ k. c.is_send-5.ensures.leaving yes } in
    let w : IsSend waiting.the_row = record { owned = c.is_send-6.ensures.owned; leaving = λ k x w. tt } in
    let whole : IsSend (S.row (inside.the_type g.row.L R g.L.Named g.L.Ledger)) =
    declared_send (inside.the_type g.row.L R g.L.Named g.L.Ledger) (
      record { owned = c.is_send-2.ensures.owned; leaving = λ k. c.is_send-2.ensures.leaving yes },
      (
        as_row_send head.the_field h,
        (
          as_row_send front.the_field f,
          (
            as_row_send (Vec.the_field patch.the_row Global.the_row ghosts) s,
            (as_row_send waiting.the_field w, (as_row_send (row_field R) c.type_bounds.send-R, tt)),
          ),
        ),
      ),
    ) in
    record { owned = λ d vs x. (whole.owned x.0 vs, tt); leaving = λ k d w. tt }
