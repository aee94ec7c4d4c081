use Rattle.std.proofs.Common.{◌∙◌, ◌++◌, ap, inl, inr, subst, sym, Err}
use Rattle.std.proofs.lemmas.Result.{err_from_is_err_and}
use Rattle.ps_lines.specs.Streams.{Lines}
use Rattle.ps_session.specs.Keeping.{IsCovered}
use Rattle.ps_session.proofs.InputReadToEnd.{cut_rest, stands_more, stands_flushed}
use Rattle.ps_lines.proofs.ReadLemmas.{same_fault, turn_within}
use Rattle.ps_session.proofs.PartLemmas.{fits_after_part, keep_or_other, part_breaks, part_covered, part_cut}
use Rattle.ps_session.proofs.PartLemmas.{part_halts, part_waits, under_way_after}
use Rattle.ps_session.proofs.reading.read_piece.Goals as goal

pub returns-in-Err-clause-sink : goal.returns-in-Err-clause-sink
returns-in-Err-clause-sink g c = λ is first written read s.
    inl (cut_rest _ first written 0 read c.args.piece.now c.parts.start _ _
    (c.in-Err.ensures.cut first written 0 _ (c.parts.invariant.stands first written 0 read s)))

pub returns-in-Err-clause-covered : goal.returns-in-Err-clause-covered
returns-in-Err-clause-covered g c = λ is holds first written read s.
    part_cut _ first written read c.args.piece.now c.parts.start (g.Q.Keeper.covers c.parts.keeper) c.parts.board _ _ _
    _ _ _ _ c.parts.invariant.covers (c.parts.invariant.stands first written 0 read s) c.parts.invariant.flushed
    (c.in-Err.ensures.held holds) c.in-Err.ensures.cut

pub release-requires : goal.release-requires
release-requires g c = record {
  fits = fits_after_part g.B.Board.answers g.Q.Keeper.fits c.requires.stays c.parts.keeper _ c.parts.board
      c.answer_piece.new.board _ _ _ _ _ _
      (under_way_after (Lines g.B.Board.answers) _ _ _ _ _ _ _ _ _ c.requires.under_way c.parts.invariant.stands)
      c.in-Ok.ensures.stands c.parts.invariant.fits;
}

pub parts-preserved : goal.parts-preserved
parts-preserved g c = record {
  within = turn_within c.args.piece.now c.parts.start c.in-Ok.taken c.parts-test.true c.in-Ok.ensures.within.1;
  stands = λ first written base read s. rw c.in_ok-release.ensures.same_board
      (stands_flushed _ first written base _ _ _ _ _ _ c.in_ok-release.ensures.same
      (stands_more _ first written base read c.args.piece.now c.parts.start c.in-Ok.taken _ _ _ _
      (c.in-Ok.ensures.stands first written base _ (c.parts.invariant.stands first written base read s))));
  fits = c.in_ok-release.ensures.fits;
  covers = c.in_ok-release.ensures.covered (λ is. cc);
  flushed = c.in_ok-release.ensures.flushed;
  calm = c.in_ok-release.ensures.calm ∙ c.in-Ok.ensures.calm ∙ c.parts.invariant.calm;
}

pub returns-in_err-release-clause-sink : goal.returns-in_err-release-clause-sink
returns-in_err-release-clause-sink g c = λ is first written read s. rw c.in_err-release.ensures.same_board
    (part_breaks _ first written read c.args.piece.now c.parts.start c.in-Ok.taken _ _ _ _ _
    c.in_err-release.ensures.same
    (c.in-Ok.ensures.stands first written 0 _ (c.parts.invariant.stands first written 0 read s))
    g.D.Delivery.holds_back c.in-Ok.ensures.part)

pub returns-in_err-release-clause-keep : goal.returns-in_err-release-clause-keep
returns-in_err-release-clause-keep g c = λ is.
    let p = err_from_is_err_and c.from_residual.result c.from_residual.ensures.1 in
    let failed = c.in_err-release.ensures.keep (same_fault c.from_residual.result p.0 _ _ p.1 p.2 is) in (
      failed.0,
      λ first written read s. rw c.in_err-release.ensures.same_board
          (part_halts _ first written read c.args.piece.now c.parts.start c.in-Ok.taken _ _ _ _ _
          c.in_err-release.ensures.same
          (c.in-Ok.ensures.stands first written 0 _ (c.parts.invariant.stands first written 0 read s))),
    )

pub returns-in_err-release-clause-covered : goal.returns-in_err-release-clause-covered
returns-in_err-release-clause-covered g c = λ is holds first written read s.
    let lines = Lines g.B.Board.answers in
    let covers = g.Q.Keeper.covers c.release.new.keeper in
    let stands = c.parts.invariant.stands first written 0 read s in
    rw c.in_err-release.ensures.same_board
    elim (keep_or_other c.in_err-release.field-0.0) [
      | inl kept ↦ subst
          (λ sink. IsCovered lines covers ⊥ first written (read ++ c.args.piece.now) c.answer_piece.new.board
          (g.D.Delivery.contents sink) (g.D.Delivery.waiting sink))
          (sym (c.in_err-release.ensures.keep (ap Err kept)).1)
          (part_waits lines first written read c.args.piece.now c.parts.start covers c.parts.board _ _ _ _ _ _ _
          (c.in_err-release.ensures.stays c.parts.board c.parts.invariant.covers) stands c.parts.invariant.flushed
          (c.in-Ok.ensures.held holds) c.in-Ok.taken _ _ c.in-Ok.ensures.stands)
      | inr other ↦ part_covered lines first written read c.args.piece.now c.parts.start c.in-Ok.taken _ _ _ _ _
          c.in_err-release.ensures.same (c.in-Ok.ensures.stands first written 0 _ stands) covers _
          (rw c.in_err-release.ensures.same_board at c.in_err-release.ensures.covered (λ same. other cc))
    ]
