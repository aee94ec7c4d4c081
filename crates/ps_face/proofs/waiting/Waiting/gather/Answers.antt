use Rattle.std.proofs.Common.{ap, ◌∙◌, map}
use Rattle.std.proofs.lemmas.List.{map-append}
use Rattle.ps_face.specs.CellChanges.{entries_of}
use Rattle.ps_face.specs.Seen.{Turn}
use Rattle.ps_face.specs.Values.{valued}
use Rattle.ps_face.proofs.Gathered.{gathered_more}
use Rattle.ps_face.proofs.waiting.Waiting.gather.Goals as goal

pub returns-clause-turns : goal.returns-clause-turns
returns-clause-turns c x =
    let w = c.self.inside in
    let o = c.next.inside in
    let t : Turn = record {
      book = w.front.book;
      list = w.front.list;
      version = w.version;
      changes = map valued w.changes.items;
    } in
    let u : Turn = record {
      book = o.front.book;
      list = o.front.list;
      version = o.version;
      changes = map valued (entries_of o.changes);
    } in
    rw (← c.self.view_is, ← c.next.view_is)
    (gathered_more w.patches x t u (map valued c.gather.new.list.items)
    (ap (map valued) c.gather.ensures ∙ map-append valued w.changes.items (entries_of o.changes))
    (λ none. ap (map valued) (c.self.invariant.1 none)))
