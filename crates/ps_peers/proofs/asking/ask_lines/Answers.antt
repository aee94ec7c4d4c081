use Rattle.std.proofs.Common.{◌∙◌, arith, inl, inr, refl}
use Rattle.ps_peers.proofs.AskingLemmas.{asking_more, asking_none, conversed, interrupted_amid, interrupted_before}
use Rattle.ps_peers.proofs.ExchangeLemmas.{takes_none}
use Rattle.ps_peers.proofs.asking.ask_lines.Goals as goal

pub returns-in-Err-clause-interrupted : goal.returns-in-Err-clause-interrupted
returns-in-Err-clause-interrupted g c =
    let given = g.I.Source.remaining c.args.input in (
      given,
      interrupted_before c.args.peer.now c.args.peer.now _ _ given given (asking_none c.args.peer.now _ given) given
          (takes_none given given refl),
    )

pub returns-in-Err-next_line-clause-interrupted : goal.returns-in-Err-next_line-clause-interrupted
returns-in-Err-next_line-clause-interrupted g c = (
  _,
  interrupted_before c.args.peer.now c.lines.peer _ _ _ _ c.lines.invariant.asking _
      c.in-Err-next_line.ensures.taken,
)

pub returns-in-Err-answer-clause-interrupted : goal.returns-in-Err-answer-clause-interrupted
returns-in-Err-answer-clause-interrupted g c =
    let n = c.in-Ok-next_line.ensures.next in (
      _,
      interrupted_amid c.args.peer.now c.lines.peer _ _ _ _ c.lines.invariant.asking c.answer.new.peer _ _
          c.next_line.new.self.lines.line c.in-Ok-next_line.next n
          (c.in-Err-answer.ensures.broken n.raw c.next_line.new.self.lines.line n.held c.line.ensures),
    )

pub returns-then-next-clause-all : goal.returns-then-next-clause-all
returns-then-next-clause-all g c =
    let n = c.in-Ok-next_line.ensures.next in
    let a = c.in-Ok-answer.ensures.answered n.raw c.next_line.new.self.lines.line n.held c.line.ensures in (
      _,
      conversed c.args.peer.now c.lines.peer _ _ _ _ c.lines.invariant.asking c.answer.new.peer _ _
          c.next_line.new.self.lines.line c.in-Ok-next_line.next n a.0 a.1 a.2 c.if-next.true,
    )

pub lines-preserved : goal.lines-preserved
lines-preserved g c =
    let i = c.lines.invariant in
    let n = c.in-Ok-next_line.ensures.next in
    let a = c.in-Ok-answer.ensures.answered n.raw c.next_line.new.self.lines.line n.held c.line.ensures in
    record {
      asking = asking_more c.args.peer.now c.lines.peer _ _ _ _ i.asking c.answer.new.peer _ _
          c.next_line.new.self.lines.line c.in-Ok-next_line.next n a.0 a.1 a.2 c.if-next.false;
      ready = c.in-Ok-next_line.ensures.ready;
      given = c.in-Ok-next_line.ensures.calm ∙ i.given;
      first = c.in-Ok-answer.ensures.calm.0 ∙ i.first;
      second = c.in-Ok-answer.ensures.calm.1 ∙ i.second;
      flushed = λ none. elim (c.answer.ensures.flushed (i.flushed none)) [
        | inl flushed ↦ flushed
        | inr failed ↦ absurd (omega (arith, failed, c.in-Ok-answer.ensures.calm.1))
      ];
    }
