use Rattle.std.proofs.lemmas.Result.{err_from_is_err_and}
use Rattle.ps_session.proofs.InputReadToEnd.{end_cut, end_line, end_ran}
use Rattle.ps_session.proofs.transcript.Conversation.finish.Goals as goal

pub returns-in_err-close-in_default : goal.returns-in_err-close-in_default
returns-in_err-close-in_default g c =
    let p = err_from_is_err_and c.from_residual.result c.from_residual.ensures.1 in
    rw (p.1) (record {
      transcribed = tt;
      cut = λ first written read s. end_cut _ first written 0 read c.args.board.now _ c.args.self.now.session
          c.end.new.self _ _ _
          c.end.result c.in_default.not-None c.end.ensures c.in_err-close-in_default.ensures.replied s;
      ran = end_ran _ c.args.board.now _ c.args.self.now.session c.end.new.self c.end.result c.in_default.not-None
          c.end.ensures (λ raw holds. let r = c.in_err-close-in_default.ensures.replied raw holds in (r.0, r.2));
      calm = tt;
      failed = c.in_err-close-in_default.ensures.failed;
      held = c.in_err-close-in_default.ensures.held;
    })

pub returns-in_ok-close-in_default : goal.returns-in_ok-close-in_default
returns-in_ok-close-in_default g c = record {
  transcribed = λ first written read s. end_line _ first written 0 read c.args.board.now _ c.args.self.now.session
      c.end.new.self _ _ _ _
      c.end.result c.in_default.not-None c.end.ensures c.in_ok-close-in_default.ensures.replied s;
  cut = tt;
  ran = end_ran _ c.args.board.now _ c.args.self.now.session c.end.new.self c.end.result c.in_default.not-None
      c.end.ensures (λ raw holds. let r = c.in_ok-close-in_default.ensures.replied raw holds in (r.0, r.1));
  calm = c.in_ok-close-in_default.ensures.calm;
  failed = tt;
  held = c.in_ok-close-in_default.ensures.held;
}
