use Rattle.std.proofs.Common.{sym, ap, ◌∙◌}
use Rattle.ps_delta.specs.State.{state_at}
use Rattle.ps_squash.specs.declared.selection.Selection.{Selection}
use Rattle.ps_squash.proofs.SelectLemmas.{joined_rest, joined_whole, on_ok, passed}
use Rattle.ps_squash.proofs.taken.Taken.add.Goals as goal

pub returns-then-not-count_one-clause-joined : goal.returns-then-not-count_one-clause-joined
returns-then-not-count_one-clause-joined c =
    passed (state_at c.args.self.now.state) c.args.self.now.still c.count_one.new.self c.args.delta.now
    (sym c.count_one.ensures.taken ∙ c.if-not-count_one.true) c.count_one.ensures.still

pub returns-in-None-clause-joined : goal.returns-in-None-clause-joined
returns-in-None-clause-joined c =
    on_ok c.join.result
    (λ joined. joined_whole (state_at c.args.self.now.state) (state_at c.join.new.self) c.args.self.now.still
    c.count_one.new.self c.args.delta.now
    (ap (λ (s : Selection). s.without) (sym c.count_one.ensures.still) ∙ c.in-None.is)
    (sym c.count_one.ensures.taken ∙ c.if-not-count_one.false) c.count_one.ensures.still joined)
    c.join.ensures.ok

pub returns-in-Some-clause-joined : goal.returns-in-Some-clause-joined
returns-in-Some-clause-joined c =
    on_ok c.join_without.result
    (λ joined. joined_rest (state_at c.args.self.now.state) (state_at c.join_without.new.state)
    c.args.self.now.still c.count_one.new.self c.in-Some.replica c.args.delta.now
    (ap (λ (s : Selection). s.without) (sym c.count_one.ensures.still) ∙ c.in-Some.is)
    (sym c.count_one.ensures.taken ∙ c.if-not-count_one.false) c.count_one.ensures.still joined)
    c.join_without.ensures.joined
