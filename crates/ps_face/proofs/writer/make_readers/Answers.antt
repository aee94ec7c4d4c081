use Rattle.std.proofs.Common.{◌≡◌, ◌+◌, ℕ, All, List, sym, ap, ◌∙◌, subst}
use Rattle.std.proofs.lemmas.List.Elements.{All-push}
use Rattle.ps_face.specs.declared.rule.View.{View}
use Rattle.ps_face.specs.declared.patch.Note.{Note}
use Rattle.ps_face.specs.Rules.{newcomer}
use Rattle.ps_face.proofs.Kept.{admits}
use Rattle.ps_face.proofs.writer.make_readers.Goals as goal

pub reader-requires : goal.reader-requires
reader-requires g c = admits _ _

seen : List Note → ℕ → View
seen l n = record { list = l; enters = n }

pub loop-i-preserved : goal.loop-i-preserved
unfolding seen
loop-i-preserved g c =
    let told = c.again.ensures ∙ c.requires in
    let is_new : c.new.result ≡ newcomer =
    c.new.ensures ∙ (λ i. seen (told i).list (c.in-Ok.ensures.view i).enters) in
    let items = c.in_ok-push.ensures.items in
    let len = c.in_ok-push.ensures.len in (
      len ∙ ap (λ (n : ℕ). n + 1) c.loop-i.invariant.0,
      subst (λ (xs : List View). All (λ v. v ≡ newcomer) xs) (sym items)
          (All-push (λ v. v ≡ newcomer) c.loop-i.made.items c.new.result c.loop-i.invariant.1 is_new),
    )
