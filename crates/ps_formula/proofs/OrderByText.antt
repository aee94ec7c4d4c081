-- Between trees that texts have the order is that of their canonical texts.
use Rattle.std.proofs.Common.{◌≡◌, ℕ, refl, sym, ap, ◌∙◌, subst, List}
use Rattle.std.specs.Cmp.Lexicographic.{slice_cmp}
use Rattle.std.specs.Ordering.{nat_cmp, ordering_then}
use Rattle.std.specs.declared.cmp.Ordering.{Ordering}
use Rattle.std.specs.declared.cmp.Ordering.TheVariants.{Less, Equal, Greater}
use Rattle.std.proofs.lemmas.Cmp.{nat_list_cmp_total, tied_itself}
use Rattle.ps_formula.specs.Canonical.{canon}
use Rattle.ps_formula.specs.Formula.{HasTree}
use Rattle.ps_formula.specs.Order.{tree_numbers, tree_cmp}
use Rattle.ps_formula.specs.OrderLaws.{byte_lists_untied}
use Rattle.ps_formula.specs.Tree.{Tree}
use Rattle.ps_formula.proofs.Texts.{one_tree}

then_itself : (o p : Ordering) → (o ≡ Equal → p ≡ Equal) → ordering_then o p ≡ o
then_itself Less p h = refl
then_itself Equal p h = h refl
then_itself Greater p h = refl

-- trees that are the trees of their canonical texts are ordered by these texts
pub tree_cmp-canon : (t u : Tree) → HasTree (canon t) t → HasTree (canon u) u
    → tree_cmp t u ≡ slice_cmp nat_cmp (canon t) (canon u)
unfolding tree_cmp
tree_cmp-canon t u h k =
    then_itself (slice_cmp nat_cmp (canon t) (canon u)) (slice_cmp nat_cmp (tree_numbers t) (tree_numbers u))
    (λ e.
    let texts = byte_lists_untied (canon t) (canon u) e in
    let same = one_tree (canon u) t u (subst (λ v. HasTree v t) texts h) k in
    subst (λ v. slice_cmp nat_cmp (tree_numbers t) (tree_numbers v) ≡ Equal) same
    (tied_itself nat_list_cmp_total (tree_numbers t)))

-- the same of texts that are known to be canonical
pub tree_cmp-texts : (t u : Tree) (x y : List ℕ) → x ≡ canon t → y ≡ canon u → HasTree x t → HasTree y u
    → tree_cmp t u ≡ slice_cmp nat_cmp x y
tree_cmp-texts t u x y e f h k =
    tree_cmp-canon t u (subst (λ v. HasTree v t) e h) (subst (λ v. HasTree v u) f k)
    ∙ ap (λ v. slice_cmp nat_cmp v (canon u)) (sym e)
    ∙ ap (slice_cmp nat_cmp x) (sym f)
