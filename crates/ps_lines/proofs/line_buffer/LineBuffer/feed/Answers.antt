use Rattle.std.proofs.Common.{refl, sym, ap, ◌∙◌, arith, take}
use Rattle.std.proofs.Math.Seq.{take-length}
use Rattle.ps_lines.specs.Feeding.{Reading, kept_after}
use Rattle.ps_lines.proofs.FeedLemmas.{ends_line, no_feed}
use Rattle.ps_lines.proofs.line_buffer.LineBuffer.feed.Goals as goal

pub returns-in-None-clause-fed : goal.returns-in-None-clause-fed
returns-in-None-clause-fed c =
    let before = c.begin-self-inside.ensures.held ∙ ap (λ (r : Reading). r.pending) c.self.view_is in (
      no_feed c.args.piece.now _ (omega arith) c.in-None.ensures,
      c.keep-self-inside-in-None.ensures.held
          ∙ ap (λ p. kept_after p c.args.piece.now) before
          ∙ ap (kept_after c.args.self.now.pending) (sym (take-length c.args.piece.now)),
    )

pub returns-in-Some-clause-fed : goal.returns-in-Some-clause-fed
returns-in-Some-clause-fed c =
    let before = c.begin-self-inside.ensures.held ∙ ap (λ (r : Reading). r.pending) c.self.view_is in
    let keeps = c.keep-self-inside.ensures.held
    ∙ ap (λ p. kept_after p (take c.in-Some.place c.args.piece.now)) before in
    rw c.ended_line.ensures (ends_line c.args.self.now _ c.args.piece.now c.in-Some.place c.keep-self-inside.result
    c.keep-self-inside.new.bytes.items c.in-Some.ensures.0.high c.in-Some.ensures.0.before c.in-Some.ensures.1 keeps
    refl)
