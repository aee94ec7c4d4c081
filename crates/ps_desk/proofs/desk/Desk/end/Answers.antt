use Rattle.std.proofs.Common.{List, All, sym, subst, ◌∙◌}
use Rattle.ps_delta.specs.Deltas.{Entries}
use Rattle.ps_face.specs.Seen.{Told}
use Rattle.ps_face.specs.declared.patch.Note.{Note}
use Rattle.ps_desk.specs.Passes.{PassView}
use Rattle.ps_desk.specs.Closing.{EndsAt, HistoryBegins}
use Rattle.ps_desk.proofs.Closes.{all_begin, list_begins, counts_within}
use Rattle.ps_desk.proofs.Owners.{all_owned}
use Rattle.ps_desk.proofs.desk.Desk.end.Goals as goal

pub returns-clause-begins : goal.returns-clause-begins
returns-clause-begins g c =
    let h : List Entries = g.L.Named.opening in
    let list : List Note = c.show-shown.new.self.list in
    let passes : List PassView = c.args.passes.items in
    subst (λ (history : List Entries). HistoryBegins h history passes) (sym c.end.ensures.history)
    (all_begin h list passes (list_begins list passes
    (subst (λ (t : Told). All (EndsAt t.list) passes) c.front.ensures.front c.gather-all.ensures.ends)))

pub returns-clause-one : goal.returns-clause-one
returns-clause-one g c =
    let list : List Note = c.show-shown.new.self.list in
    let passes : List PassView = c.args.passes.items in
    let ends : All (EndsAt list) passes =
    subst (λ (t : Told). All (EndsAt t.list) passes) c.front.ensures.front c.gather-all.ensures.ends in
    let grown = c.end.ensures.grown ∙ c.gather-all.ensures.amount in record {
      list = list;
      legal = c.front.ensures.legal;
      stands = c.end.ensures.history;
      begins = list_begins list passes ends;
      grown = grown;
      owned = all_owned list passes (counts_within list passes ends) grown;
    }
