use Rattle.std.proofs.Common.{◌≡◌, ◌∙◌, ◌+◌, ◌≤◌, arith, subst}
use Rattle.ps_join.proofs.RelayLemmas.{flushed_calm, onward_cut, onward_end, onward_group, outside_all}
use Rattle.ps_join.specs.Relays.{IsOnward, seen}
use Rattle.ps_join.proofs.relaying.write_between.Goals as goal

pub pulls-preserved : goal.pulls-preserved
pulls-preserved g c =
    let i = c.pulls.invariant in
    let h = rw c.in-Ok-Some.field-0-is at c.in-Ok-Some.ensures.written in
    let low : c.args.start ≤ c.in-Ok-Some.last = omega (arith, h.1.1.1, i.low) in
    let high : c.in-Ok-Some.last ≤ c.args.limit = omega (arith, h.1.2, i.high, c.min-most.ensures) in
    record {
      onward = λ first to_come course asked here outside.
          onward_group c.pulls.position course.numbers first c.pulls.server c.write_group.new.server to_come
          (g.O.Sink.contents c.pulls.out) (g.O.Sink.contents c.write_group.new.out)
          (i.onward first to_come course asked here outside) c.min-most.result c.in-Ok-Some.last h
          (outside_all course.numbers c.args.start c.in-Ok-Some.last c.pulls.position c.args.limit outside i.low high);
      low = low;
      high = high;
      first = c.in-Ok-Some.ensures.calm.0 ∙ i.first;
      second = c.in-Ok-Some.ensures.calm.1 ∙ i.second;
      flushed = λ waits.
          flushed_calm (g.O.Sink.failures c.pulls.out) (g.O.Sink.failures c.write_group.new.out) _
          (c.in-Ok-Some.ensures.flushed (i.flushed waits)) c.in-Ok-Some.ensures.calm.1;
      falls = omega (arith, h.0.falls, i.falls);
    }

pub returns-in-Ok-None-clause-halted : goal.returns-in-Ok-None-clause-halted
returns-in-Ok-None-clause-halted g c = λ first to_come course asked here outside held.
    onward_end c.pulls.position course.numbers first c.pulls.server c.write_group.new.server to_come
    (g.O.Sink.contents c.pulls.out) (g.O.Sink.contents c.write_group.new.out)
    (c.pulls.invariant.onward first to_come course asked here outside) c.min-most.result _ held
    (rw c.in-Ok-None.field-0-is at c.in-Ok-None.ensures.written)

pub returns-in-Err-clause-halted : goal.returns-in-Err-clause-halted
returns-in-Err-clause-halted g c = λ first to_come course asked here outside held.
    let i = c.pulls.invariant in
    onward_cut c.pulls.position course.numbers first c.pulls.server c.write_group.new.server to_come
    (g.O.Sink.contents c.pulls.out) (g.O.Sink.contents c.write_group.new.out)
    (i.onward first to_come course asked here outside) c.in-Err.fault c.min-most.result held
    c.in-Err.ensures.unwritten
    (outside_all course.numbers c.args.start (c.pulls.position + c.min-most.result) c.pulls.position c.args.limit
    outside
    i.low (omega (arith, i.high, c.min-most.ensures)))

pub returns-clause-written : goal.returns-clause-written
returns-clause-written g c = λ first to_come course asked here outside.
    let i = c.pulls.invariant in
    let is : c.pulls.position ≡ c.args.limit = omega (arith, i.high, c.pulls-test.false) in
    subst (λ n. IsOnward n course.numbers first (seen c.pulls.server to_come (g.O.Sink.contents c.pulls.out))) is
    (i.onward first to_come course asked here outside)
