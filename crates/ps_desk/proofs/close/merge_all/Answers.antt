use Rattle.std.proofs.Common.{◌≡◌, List, ◌∷◌, [], All, length, sym, ap, subst, arith, rules, length-append, refl, ◌∙◌}
use Rattle.std.specs.Prelude.{map}
use Rattle.std.specs.Vec.Iter.{into_iter_items, into_iter_len}
use Rattle.std.proofs.lemmas.Iterator.Adapters.{YieldsList-from_vec}
use Rattle.std.proofs.lemmas.Iterator.Consumers.{YieldsList-end}
use Rattle.std.proofs.lemmas.List.Elements.{All-push}
use Rattle.std.proofs.lemmas.List.Sums.{sum_by-append}
use Rattle.ps_face.specs.declared.patch.Note.{Note}
use Rattle.ps_desk.specs.Passes.{PassView}
use Rattle.ps_desk.specs.Closing.{EndsAt}
use Rattle.ps_desk.proofs.close.merge_all.Goals as goal

pub loop-pass-preserved : goal.loop-pass-preserved
loop-pass-preserved g c =
    let yielded : List PassView = c.loop-pass.yielded in
    let pass : PassView = c.in-Some.pass in
    let list : List Note = c.args.front.now.list in
    let i = c.loop-pass.invariant in (
      omega (arith, length-append yielded (pass ∷ []), i.0, c.merge.ensures.parts, c.end.ensures.share.0),
      omega (
        arith,
        sum_by-append (λ (p : PassView). p.appended) yielded (pass ∷ []),
        i.1,
        c.merge.ensures.amount,
        c.end.ensures.share.1,
      ),
      All-push (EndsAt list) yielded pass i.2 c.end.ensures.ends,
    )

map_same : (xs : List PassView) → map (λ y. y) xs ≡ xs
map_same [] = refl
map_same (x ∷ xs) = ap (λ l. x ∷ l) (map_same xs)

pub returns-clause-ends : goal.returns-clause-ends
returns-clause-ends g c =
    let passes : List PassView = c.args.passes.items in
    let it = c.into_iter-pass-iterator in
    let items : into_iter_items it.result ≡ passes = search rules in
    let len : into_iter_len it.result ≡ length passes = search rules in
    let seen = YieldsList-end (YieldsList-from_vec passes items len)
    c.loop-pass.yielded c.loop-pass.pass-iterator c.loop-pass.yielded_by _ c.next.new.self c.in-None.is
    c.next.ensures.steps in
    let all : c.loop-pass.yielded ≡ passes = sym (map_same c.loop-pass.yielded) ∙ seen.0 in
    subst (λ (l : List PassView). All (EndsAt c.args.front.now.list) l) all c.loop-pass.invariant.2
