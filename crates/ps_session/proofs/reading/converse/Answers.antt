use Rattle.std.proofs.Common.{[], Err, ap, inl, inr, refl, subst, sym}
use Rattle.std.proofs.lemmas.Result.{err_from_is_err_and}
use Rattle.std.specs.Io.KnownBytes.{IsAtEnd}
use Rattle.ps_device.specs.Device.{HoldsBack}
use Rattle.ps_lines.specs.Streams.{Lines}
use Rattle.ps_session.specs.Keeping.{IsCovered}
use Rattle.ps_session.proofs.CoveredLemmas.{covered_end, covered_ended, covered_last, covered_none, end_halted}
use Rattle.ps_session.proofs.CoveredLemmas.{fits_after, halted_ended}
use Rattle.ps_session.proofs.InputReadToEnd.{cut_ended, transcribed_flushed}
use Rattle.ps_session.proofs.PartLemmas.{breaks_ended, keep_or_other, keeps_itself}
use Rattle.ps_lines.proofs.ReadLemmas.{Consumes-nil, same_fault}
use Rattle.ps_session.proofs.reading.converse.Goals as goal

pub returns-in-Err-clause-covered : goal.returns-in-Err-clause-covered
returns-in-Err-clause-covered g c = λ holds. (
  [],
  Consumes-nil _,
  covered_none _ _ c.args.board.now _ (g.Q.Keeper.covers c.args.keeper.now) _ _ (keeps_itself _),
)

pub returns-in_err-read_on-clause-sink : goal.returns-in_err-read_on-clause-sink
returns-in_err-read_on-clause-sink g c = λ is.
    let p = err_from_is_err_and c.from_residual.result c.from_residual.ensures.1 in
    let r = c.in_err-read_on.ensures.sink (same_fault c.from_residual.result p.0 _ _ p.1 p.2 is) in
    (r.0, r.1, breaks_ended _ _ _ c.args.board.now _ _ _ _ r.2)

pub returns-in_err-read_on-clause-keep : goal.returns-in_err-read_on-clause-keep
returns-in_err-read_on-clause-keep g c = λ is.
    let p = err_from_is_err_and c.from_residual.result c.from_residual.ensures.1 in
    let r = c.in_err-read_on.ensures.keep (same_fault c.from_residual.result p.0 _ _ p.1 p.2 is) in
    (r.0, r.1, r.2, halted_ended _ ⊥ _ (λ no_end. absurd no_end) c.args.board.now _ _ _ _ r.3)

pub returns-in_err-read_on-clause-covered : goal.returns-in_err-read_on-clause-covered
returns-in_err-read_on-clause-covered g c = λ holds.
    let r = c.in_err-read_on.ensures.covered refl holds in
    (r.0, r.1, covered_ended _ ⊥ _ (λ no_end. absurd no_end) c.args.board.now _ _ _ _ _ _ r.2)

pub returns-in-Err-finish-clause-sink : goal.returns-in-Err-finish-clause-sink
returns-in-Err-finish-clause-sink g c = λ is.
    let r = c.in_ok-read_on.ensures.read in (
      r.0,
      r.1,
      inl (inl (cut_ended _ c.args.board.now _ 0 _ _ _ _ _ (λ all. r.2)
          (c.in-Err-finish.ensures.cut c.args.board.now _ r.0 r.3))),
    )

pub returns-in-Err-finish-clause-covered : goal.returns-in-Err-finish-clause-covered
returns-in-Err-finish-clause-covered g c = λ holds.
    let r = c.in_ok-read_on.ensures.read in (
      r.0,
      r.1,
      covered_last _ _ c.args.board.now _ (g.Q.Keeper.covers c.read_on.new.keeper) _ 0 r.0 _ _ _ _
          c.in_ok-read_on.ensures.kept.1 r.3 _ _
          (subst (λ w. HoldsBack (g.D.Delivery.contents c.read_on.new.sink) (g.D.Delivery.contents c.finish.new.sink) w
          (g.D.Delivery.waiting c.finish.new.sink)) c.in_ok-read_on.ensures.kept.2
          (c.in-Err-finish.ensures.held holds)) r.2
          (c.in-Err-finish.ensures.ran r.3.rest r.3.held),
    )

pub release-requires : goal.release-requires
release-requires g c =
    let r = c.in_ok-read_on.ensures.read in
    let ran = c.in-Ok-finish.ensures.ran r.3.rest r.3.held in
    record {
      fits = fits_after g.B.Board.answers g.Q.Keeper.fits c.requires.stays c.read_on.new.keeper _ _ _ _
          ran.1 c.in_ok-read_on.ensures.kept.0;
    }

pub returns-in_err-release-clause-sink : goal.returns-in_err-release-clause-sink
returns-in_err-release-clause-sink g c = λ is.
    let r = c.in_ok-read_on.ensures.read in rw c.in_err-release.ensures.same_board (
      r.0,
      r.1,
      inl (inr (inr (
        r.2,
        _,
        transcribed_flushed _ c.args.board.now _ 0 r.0 _ _ _ _ c.in_err-release.ensures.same
            (c.in-Ok-finish.ensures.transcribed c.args.board.now _ r.0 r.3),
      ))),
    )

pub returns-in_err-release-clause-keep : goal.returns-in_err-release-clause-keep
returns-in_err-release-clause-keep g c = λ is.
    let p = err_from_is_err_and c.from_residual-in_err-release.result c.from_residual-in_err-release.ensures.1 in
    let failed = c.in_err-release.ensures.keep
    (same_fault c.from_residual-in_err-release.result p.0 _ _ p.1 p.2 is) in
    let r = c.in_ok-read_on.ensures.read in (
      failed.0,
      r.0,
      r.1,
      rw c.in_err-release.ensures.same_board
          (end_halted _ _ c.args.board.now _ r.0 _ _ _ _ r.2 c.in_err-release.ensures.same
          (c.in-Ok-finish.ensures.transcribed c.args.board.now _ r.0 r.3)),
    )

pub returns-in_err-release-clause-covered : goal.returns-in_err-release-clause-covered
returns-in_err-release-clause-covered g c = λ holds.
    let r = c.in_ok-read_on.ensures.read in
    let lines = Lines g.B.Board.answers in
    let covers = g.Q.Keeper.covers c.release.new.keeper in
    let ended = IsAtEnd (g.S.Source.remaining c.read_on.new.source) in (
      r.0,
      r.1,
      rw c.in_err-release.ensures.same_board
          elim (keep_or_other c.in_err-release.field-0.0) [
            | inl kept ↦ subst
                (λ sink. IsCovered lines covers ended c.args.board.now (g.D.Delivery.contents c.args.sink.now) r.0
                c.finish.new.board (g.D.Delivery.contents sink) (g.D.Delivery.waiting sink))
                (sym (c.in_err-release.ensures.keep (ap Err kept)).1)
                (covered_last lines ended c.args.board.now _ covers _ 0 r.0 _ _ _ _
                (c.in_err-release.ensures.stays _ c.in_ok-read_on.ensures.kept.1) r.3 _ _
                (subst (λ w. HoldsBack (g.D.Delivery.contents c.read_on.new.sink)
                (g.D.Delivery.contents c.finish.new.sink) w
                (g.D.Delivery.waiting c.finish.new.sink)) c.in_ok-read_on.ensures.kept.2
                (c.in-Ok-finish.ensures.held holds)) r.2
                (c.in-Ok-finish.ensures.ran r.3.rest r.3.held))
            | inr other ↦ covered_end lines ended c.args.board.now _ covers _ r.0 _ _ _ _ r.2
                (rw c.in_err-release.ensures.same_board at c.in_err-release.ensures.covered (λ same. other cc))
                c.in_err-release.ensures.same
                (c.in-Ok-finish.ensures.transcribed c.args.board.now _ r.0 r.3)
          ],
    )

pub returns-clause-transcribed : goal.returns-clause-transcribed
returns-clause-transcribed g c =
    let r = c.in_ok-read_on.ensures.read in (
      r.0,
      r.1,
      r.2,
      rw c.in_ok-release.ensures.same_board
          (transcribed_flushed _ c.args.board.now _ 0 r.0 _ _ _ _ c.in_ok-release.ensures.same
          (c.in-Ok-finish.ensures.transcribed c.args.board.now _ r.0 r.3)),
    )

pub returns-clause-covered : goal.returns-clause-covered
returns-clause-covered g c = λ holds.
    let r = c.in_ok-read_on.ensures.read in (
      r.0,
      r.1,
      rw c.in_ok-release.ensures.same_board
          (covered_end _ _ c.args.board.now _ (g.Q.Keeper.covers c.release.new.keeper) _ r.0 _ _ _ _ r.2
          (rw c.in_ok-release.ensures.same_board at c.in_ok-release.ensures.covered (λ is. cc))
          c.in_ok-release.ensures.same
          (c.in-Ok-finish.ensures.transcribed c.args.board.now _ r.0 r.3)),
    )
