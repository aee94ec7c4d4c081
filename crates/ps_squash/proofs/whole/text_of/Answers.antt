use Rattle.ps_delta.specs.State.{state_at}
use Rattle.ps_squash.proofs.TextLemmas.{text_same, wide_cell}
use Rattle.ps_squash.proofs.whole.text_of.Goals as goal

pub returns-in-Ok-clause-same : goal.returns-in-Ok-clause-same
returns-in-Ok-clause-same c =
    text_same c.args.told (state_at c.args.state.now) c.in_ok-entries.entries.items c.deref.result.now
    c.in_ok-text.text.items _ c.deref.ensures.value c.in_ok-entries.ensures.entries c.in_ok-entries.ensures.same
    c.in_ok-text.ensures.line c.in-Ok.ensures.lines

pub returns-clause-wide : goal.returns-clause-wide
returns-clause-wide c = λ is.
    wide_cell (state_at c.args.state.now) c.in_ok-entries.entries.items c.deref.result.now
    c.deref.ensures.value c.in_ok-entries.ensures.entries c.in_ok-entries.ensures.same (c.in-Err.ensures.wide is)
