use Rattle.std.proofs.Common.{◌≡◌, List, All, [], ◌∷◌, ◌++◌, Option, sym, subst}
use Rattle.std.specs.Prelude.{option_to_list}
use Rattle.std.proofs.lemmas.List.Elements.{All-push}
use Rattle.ps_face.specs.declared.patch.Note.{Note}
use Rattle.ps_desk.specs.Passes.{PassView}
use Rattle.ps_desk.specs.Closing.{EndsAt}
use Rattle.ps_desk.proofs.close.gather.Goals as goal

pub returns-clause-ends : goal.returns-clause-ends
returns-clause-ends g c =
    let list : List Note = c.args.front.now.list in
    let passes : List PassView = c.args.passes.items in
    let rest : List PassView = c.pop.new.self.items in
    let last : PassView = c.unwrap.result in
    let is : passes ≡ rest ++ last ∷ [] =
    subst (λ (r : Option PassView). passes ≡ rest ++ option_to_list r) c.unwrap.ensures c.pop.ensures.items in
    subst (λ (ps : List PassView). All (EndsAt list) ps) (sym is)
    (All-push (EndsAt list) rest last c.merge_all.ensures.ends c.end-all.ensures.ends)
