use Rattle.std.proofs.Common.{subst, sym}
use Rattle.ps_kept.specs.Kept.{IsNoted}
use Rattle.ps_session.proofs.ReplicaAndLinesStay.{answered_later}
use Rattle.ps_commands.proofs.run.answer_kept.Goals as goal

pub converse-done-requires-clause-stays : goal.converse-done-requires-clause-stays
converse-done-requires-clause-stays g c lifetimes within = λ keeper old new line text answers fits.
    let later = answered_later old new line text answers in (
      subst (λ r. IsNoted r new.history keeper) (sym later.replica)
          (c.longer_histories_fit.ensures old.replica old.history new.history keeper fits.0
          (later.more, sym later.history)),
      fits.1,
    )

pub returns-clause-covered : goal.returns-clause-covered
returns-clause-covered g c =
    let told = c.converse-done.ensures.covered tt in
    (c.converse-done.new.board, told.0, told.1, told.2)

pub returns-in_err-done-clause-covered : goal.returns-in_err-done-clause-covered
returns-in_err-done-clause-covered g c =
    let told = c.converse-done.ensures.covered tt in
    (c.converse-done.new.board, told.0, told.1, told.2)
