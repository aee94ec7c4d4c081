use Rattle.std.proofs.lemmas.Result.{err_from_is_err_and}
use Rattle.ps_session.proofs.OnePieceMore.{line_cut, line_stands}
use Rattle.ps_session.proofs.transcript.Conversation.turn_in_parts.Goals as goal

pub returns-in_err-close-in_default : goal.returns-in_err-close-in_default
returns-in_err-close-in_default g c =
    let p = err_from_is_err_and c.from_residual.result c.from_residual.ensures.1 in
    rw (p.1) (record {
      within = tt;
      stands = tt;
      cut = λ first written base read s. line_cut _ first written base read c.args.board.now _ c.args.self.now.session
          c.feed-fed.new.self _ _ _
          c.args.piece.now c.feed-fed.result.taken c.feed-fed.result.line c.in_default.not-None c.feed-fed.ensures.fed
          c.in_err-close-in_default.ensures.replied s;
      calm = tt;
      failed = c.in_err-close-in_default.ensures.failed;
      held = c.in_err-close-in_default.ensures.held;
    })

pub returns-in_ok-close-in_default : goal.returns-in_ok-close-in_default
returns-in_ok-close-in_default g c = record {
  within = (c.feed-fed.ensures.some c.requires.some, c.feed-fed.ensures.within);
  stands = λ first written base read s. rw (c.in_ok-close-in_default.ensures.session)
      (line_stands _ first written base read c.args.board.now _ c.args.self.now.session c.feed-fed.new.self _ _ _ _ _
      c.feed-fed.result.line c.in_default.not-None c.feed-fed.ensures.fed c.in_ok-close-in_default.ensures.replied s);
  cut = tt;
  calm = c.in_ok-close-in_default.ensures.calm;
  failed = tt;
  held = c.in_ok-close-in_default.ensures.held;
}
