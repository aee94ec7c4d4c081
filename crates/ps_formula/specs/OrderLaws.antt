-- The order of trees is total and has no ties.
use Rattle.std.specs.Prelude.{◌≡◌, ℕ, zero, suc, refl, List, [], ◌∷◌}
use Rattle.std.specs.Cmp.{IsEquivalence, IsTotalOrder}
use Rattle.std.specs.Cmp.Lexicographic.{slice_cmp}
use Rattle.std.specs.FinMap.{IsAntisymmetric, nat_cmp-IsAntisymmetric, slice_cmp-IsAntisymmetric}
use Rattle.std.specs.Ordering.{nat_cmp, ordering_then}
use Rattle.std.specs.declared.cmp.Ordering.{Ordering}
use Rattle.std.specs.declared.cmp.Ordering.TheVariants.{Less, Equal, Greater}
use Rattle.std.proofs.Common.{◌∙◌, ap, sym}
use Rattle.std.proofs.lemmas.Cmp.{eq_by_cmp_equiv, nat_list_cmp_total, on_total, then_total}
use base.Stored.{Gv, gnil, gnum, gcons}
use Rattle.ps_formula.specs.Canonical.{canon}
use Rattle.ps_formula.specs.Order.{numbers_of, tree_cmp, tree_eq, tree_numbers}
use Rattle.ps_formula.specs.Tree.{Tree}
use Rattle.ps_formula.specs.TreeCode.{tree_code}

-- the codes that a list of numbers gives back, the last one first
abbrev codes_after : List ℕ → List Gv → List Gv
codes_after [] gs = gs
codes_after (zero ∷ ns) gs = codes_after ns (gnil ∷ gs)
codes_after (suc zero ∷ n ∷ ns) gs = codes_after ns (gnum n ∷ gs)
codes_after (suc (suc k) ∷ ns) (b ∷ a ∷ gs) = codes_after ns (gcons a b ∷ gs)
codes_after _ gs = gs

codes_after-numbers_of : (g : Gv) (ns : List ℕ) (gs : List Gv)
    → codes_after (numbers_of g ns) gs ≡ codes_after ns (g ∷ gs)
codes_after-numbers_of gnil ns gs = refl
codes_after-numbers_of (gnum n) ns gs = refl
codes_after-numbers_of (gcons a b) ns gs =
    codes_after-numbers_of a (numbers_of b (2 ∷ ns)) gs ∙ codes_after-numbers_of b (2 ∷ ns) (a ∷ gs)

abbrev last_code : List Gv → Gv
last_code [] = gnil
last_code (g ∷ gs) = g

same_numbers : (t u : Tree) → tree_numbers t ≡ tree_numbers u → t ≡ u
unfolding tree_numbers
same_numbers t u e =
    tree_code.inj t u
    (ap last_code (sym (codes_after-numbers_of (tree_code.code t) [] [])) ∙ ap (λ ns. last_code (codes_after ns [])) e
    ∙ ap last_code (codes_after-numbers_of (tree_code.code u) [] []))

pub tree_cmp-total : IsTotalOrder tree_cmp
unfolding tree_cmp
tree_cmp-total = then_total (on_total canon nat_list_cmp_total) (on_total tree_numbers nat_list_cmp_total)

pub byte_lists_untied : IsAntisymmetric (slice_cmp nat_cmp)
byte_lists_untied = slice_cmp-IsAntisymmetric nat_cmp-IsAntisymmetric

second_tied : (o p : Ordering) → ordering_then o p ≡ Equal → p ≡ Equal
second_tied Less p e = cc
second_tied Equal p e = e
second_tied Greater p e = cc

-- no two trees are tied
pub tree_cmp-IsAntisymmetric : IsAntisymmetric tree_cmp
unfolding tree_cmp
tree_cmp-IsAntisymmetric t u e =
    same_numbers t u (byte_lists_untied (tree_numbers t) (tree_numbers u)
    (second_tied (slice_cmp nat_cmp (canon t) (canon u)) (slice_cmp nat_cmp (tree_numbers t) (tree_numbers u)) e))

-- equality by the order is an equivalence
pub tree_eq-equivalence : IsEquivalence tree_eq
tree_eq-equivalence = eq_by_cmp_equiv tree_cmp-total
