use Rattle.ps_lines.proofs.FeedLemmas.{whole_line_feeds}
use Rattle.ps_lines.proofs.line_buffer.LineBuffer.whole_line.Goals as goal

pub returns-in-Some-clause-fed : goal.returns-in-Some-clause-fed
returns-in-Some-clause-fed c = λ none.
    whole_line_feeds c.args.self.now c.args.piece.now c.in-Some.place none c.in-Some.ensures.0.high
    c.if-place-le-LINE_LIMIT.true c.in-Some.ensures.0.before c.in-Some.ensures.1
