use Rattle.std.proofs.Common.{◌∙◌, ◌++◌, [], append-nil, arith, inl, inr, refl, subst, take}
use Rattle.std.proofs.lemmas.Result.{err_from_is_err_and}
use Rattle.ps_lines.specs.Streams.{Lines}
use Rattle.ps_session.specs.Keeping.{IsCovered}
use Rattle.ps_session.proofs.CoveredLemmas.{covered_here, covered_none, stands_halted}
use Rattle.ps_session.proofs.InputReadToEnd.{stands_answered}
use Rattle.ps_session.proofs.PartLemmas.{stands_begun}
use Rattle.ps_lines.proofs.ReadLemmas.{Consumes-append, Consumes-keeps, Consumes-nil, same_fault}
use Rattle.ps_session.proofs.reading.read_on.Goals as goal

pub returns-in_err-release-clause-sink : goal.returns-in_err-release-clause-sink
returns-in_err-release-clause-sink g c = λ is. (
  [],
  Consumes-nil _,
  inr (inl (rw c.in_err-release.ensures.same_board (stands_answered _ c.args.board.now _ 0 [] _ _ _ _
      (stands_begun _ c.args.board.now _ _ _ _ c.requires.fresh.0 c.requires.fresh.1
      c.in_err-release.ensures.same)))),
)

pub returns-in_err-release-clause-keep : goal.returns-in_err-release-clause-keep
returns-in_err-release-clause-keep g c = λ is.
    let p = err_from_is_err_and c.from_residual.result c.from_residual.ensures.1 in
    let failed = c.in_err-release.ensures.keep (same_fault c.from_residual.result p.0 _ _ p.1 p.2 is) in (
      failed.0,
      [],
      Consumes-nil _,
      rw c.in_err-release.ensures.same_board (stands_halted _ ⊥ c.args.board.now _ 0 [] [] _ _ _ _
          (stands_begun _ c.args.board.now _ _ _ _ c.requires.fresh.0 c.requires.fresh.1
          c.in_err-release.ensures.same)),
    )

pub returns-in_err-release-clause-covered : goal.returns-in_err-release-clause-covered
returns-in_err-release-clause-covered g c = λ is holds. (
  [],
  Consumes-nil _,
  rw c.in_err-release.ensures.same_board
      (covered_none _ ⊥ c.args.board.now _ (g.Q.Keeper.covers c.release.new.keeper) _ _
      c.in_err-release.ensures.same),
)

pub pieces-init : goal.pieces-init
pieces-init g c = record {
  read = [];
  consumed = Consumes-nil _;
  stands = rw c.in_ok-release.ensures.same_board
      (stands_begun _ c.args.board.now _ _ _ _ c.requires.fresh.0 c.requires.fresh.1 c.in_ok-release.ensures.same);
  fits = c.in_ok-release.ensures.fits;
  covers = c.in_ok-release.ensures.covered (λ is. cc);
  flushed = c.in_ok-release.ensures.flushed;
  calm_source = refl;
  calm = c.in_ok-release.ensures.calm;
}

pub returns-in-Err-clause-covered : goal.returns-in-Err-clause-covered
returns-in-Err-clause-covered g c = λ is holds. (
  c.pieces.invariant.read,
  Consumes-keeps _ _ _ _ c.pieces.invariant.consumed c.in-Err.ensures.bytes,
  subst (λ r. IsCovered (Lines g.B.Board.answers) (g.Q.Keeper.covers c.pieces.keeper) ⊥ c.args.board.now
      (g.D.Delivery.contents c.args.sink.now) r c.pieces.board (g.D.Delivery.contents c.pieces.sink)
      (g.D.Delivery.waiting c.pieces.sink)) (append-nil c.pieces.invariant.read)
      (covered_here _ ⊥ c.args.board.now _ (g.Q.Keeper.covers c.pieces.keeper) _ 0 c.pieces.invariant.read [] _ _ _ _
      c.pieces.invariant.covers c.pieces.invariant.stands),
)

pub pieces-preserved : goal.pieces-preserved
pieces-preserved g c = record {
  read = c.pieces.invariant.read ++ take c.in-Ok.count c.take.new.piece;
  consumed = Consumes-append _ _ _ _ _ c.pieces.invariant.consumed c.in-Ok.ensures.bytes.0;
  stands = c.in_ok-read_piece.ensures.stands _ _ 0 _ c.pieces.invariant.stands;
  fits = c.in_ok-read_piece.ensures.kept.0;
  covers = c.in_ok-read_piece.ensures.kept.1;
  flushed = c.in_ok-read_piece.ensures.kept.2;
  calm_source = omega (arith, c.in-Ok.ensures.counted, c.pieces.invariant.calm_source);
  calm = c.in_ok-read_piece.ensures.calm ∙ c.pieces.invariant.calm;
}

pub returns-in_err-read_piece-clause-sink : goal.returns-in_err-read_piece-clause-sink
returns-in_err-read_piece-clause-sink g c = λ is.
    let p = err_from_is_err_and c.from_residual-in_err-read_piece.result c.from_residual-in_err-read_piece.ensures.1
    in (
      c.pieces.invariant.read ++ take c.in-Ok.count c.take.new.piece,
      Consumes-append _ _ _ _ _ c.pieces.invariant.consumed c.in-Ok.ensures.bytes.0,
      c.in_err-read_piece.ensures.sink (same_fault c.from_residual-in_err-read_piece.result p.0 _ _ p.1 p.2 is) _ _ _
          c.pieces.invariant.stands,
    )

pub returns-in_err-read_piece-clause-keep : goal.returns-in_err-read_piece-clause-keep
returns-in_err-read_piece-clause-keep g c = λ is.
    let p = err_from_is_err_and c.from_residual-in_err-read_piece.result c.from_residual-in_err-read_piece.ensures.1 in
    let failed = c.in_err-read_piece.ensures.keep
    (same_fault c.from_residual-in_err-read_piece.result p.0 _ _ p.1 p.2 is) in (
      failed.0,
      c.pieces.invariant.read ++ take c.in-Ok.count c.take.new.piece,
      Consumes-append _ _ _ _ _ c.pieces.invariant.consumed c.in-Ok.ensures.bytes.0,
      failed.1 _ _ _ c.pieces.invariant.stands,
    )

pub returns-in_err-read_piece-clause-covered : goal.returns-in_err-read_piece-clause-covered
returns-in_err-read_piece-clause-covered g c = λ is holds. (
  c.pieces.invariant.read ++ take c.in-Ok.count c.take.new.piece,
  Consumes-append _ _ _ _ _ c.pieces.invariant.consumed c.in-Ok.ensures.bytes.0,
  c.in_err-read_piece.ensures.covered refl holds _ _ _ c.pieces.invariant.stands,
)
