use Rattle.std.proofs.Common.{inl, inr, refl, subst, arith}
use Rattle.tungstenite.proofs.SocketLemmas.{consumes-nil}
use Rattle.ps_page.specs.Heads.{AnswersBytes}
use Rattle.ps_page.proofs.HeadLemmas.{read_further}
use Rattle.ps_page.proofs.head.read_head.Goals as goal

pub loop-init : goal.loop-init
loop-init g c = rw c.new-head.ensures.items (consumes-nil (g.S.Read.remaining c.args.reader.now))

pub loop-preserved : goal.loop-preserved
loop-preserved g c = read_further _ _ _ _ _ _ c.loop.invariant c.in-Ok.ensures.2 c.in-Ok.ensures.1

pub returns-then-len-gt-HEAD_LIMIT : goal.returns-then-len-gt-HEAD_LIMIT
returns-then-len-gt-HEAD_LIMIT g c = inr (
  c.read_piece.new.head.items,
  read_further _ _ _ _ _ _ c.loop.invariant c.in-Ok.ensures.2 c.in-Ok.ensures.1,
  inl (omega (arith, c.if-len-gt-HEAD_LIMIT.true, c.len.ensures), refl),
)

pub returns-in_default : goal.returns-in_default
returns-in_default g c = inr (
  c.read_piece.new.head.items,
  read_further _ _ _ _ _ _ c.loop.invariant c.in-Ok.ensures.2 c.in-Ok.ensures.1,
  inr (
    omega (arith, c.if-len-gt-HEAD_LIMIT.false, c.len.ensures),
    c.in_default.not-More,
    subst (λ bs. AnswersBytes bs c.answer_to.result) c.as_slice.ensures.value c.answer_to.ensures,
  ),
)
