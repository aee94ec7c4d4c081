use Rattle.std.proofs.Common.{arith, rules, ap, ◌∙◌}
use Rattle.serde_json.specs.View.{view}
use Rattle.ps_wire.proofs.ArrayLemmas.{no_items_by}
use Rattle.ps_wire.proofs.entries.read_entries.Goals as goal

pub returns-in_err-read-clause-refused : goal.returns-in_err-read-clause-refused
returns-in_err-read-clause-refused g c =
    let item = c.item-item in
    let none = no_items_by g.E.Entry.spelled g.E.Entry.is_good c.in_ok-values.values.now c.loop-item.item-index
    item.result (omega arith) (λ e good is. c.in_err-read.ensures.refused.1 e good (ap view item.is ∙ is))
    (view c.args.value.now) c.in_ok-values.ensures.found in
    search (rules, none)
