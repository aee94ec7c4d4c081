use Rattle.std.proofs.Common.{List, ap, ◌∙◌, length, arith}
use Rattle.std.proofs.lemmas.List.{length-map}
use Rattle.ps_delta.specs.Deltas.{Entries}
use Rattle.ps_face.specs.declared.patch.Note.{Note}
use Rattle.ps_face.specs.CellChanges.{entries_of}
use Rattle.ps_face.specs.Legal.{history_of}
use Rattle.ps_face.specs.Seen.{Told, Turn}
use Rattle.ps_face.specs.Values.{valued}
use Rattle.ps_face.proofs.FewChanges.{few_changes}
use Rattle.ps_face.proofs.Turned.{may_show}
use Rattle.ps_face.proofs.writer.add_patch.Goals as goal

pub new-requires : goal.new-requires
new-requires g c =
    let h : List Entries = g.L.Named.opening in
    let patch : Note = c.args.patch in
    let few = few_changes (history_of h c.args.front.now.list) patch c.requires.in_grid c.delta.ensures.in_grid
    c.requires.legal in
    let changes = ap (λ (n : Note). n.changes) c.patch.view_is in
    record { few = omega (arith, few, ap length changes, length-map (entries_of c.patch.inside.changes) valued) }

pub returns-clause-turn : goal.returns-clause-turn
returns-clause-turn g c x stands same =
    let made = c.new.ensures in
    let told = c.again.ensures ∙ c.add_to.ensures in
    may_show g.L.Named.opening g.L.Named.book x c.new.result c.args.front.now.list c.args.patch stands same
    (ap (λ (t : Turn). t.book) made ∙ ap (λ (t : Told). t.book) told ∙ c.requires.book)
    (ap (λ (t : Turn). t.list) made ∙ ap (λ (t : Told). t.list) told)
    (ap (λ (t : Turn). t.version) made ∙ ap (λ (n : Note). n.number) c.patch.view_is)
    (ap (λ (t : Turn). t.changes) made ∙ ap (λ (n : Note). n.changes) c.patch.view_is)
    c.delta.ensures.in_grid c.requires.legal
