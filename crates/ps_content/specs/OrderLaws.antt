-- The order of contents is total and has no ties.
use Rattle.std.specs.Prelude.{◌≡◌, ℕ, ℤ, zero, suc, refl, List, Option, None, Some}
use Rattle.std.specs.Cmp.{IsEquivalence, IsTotalOrder}
use Rattle.std.specs.Cmp.Lexicographic.{slice_cmp, options_total}
use Rattle.std.specs.FinMap.{IsAntisymmetric, nat_cmp-IsAntisymmetric, int_cmp-IsAntisymmetric}
use Rattle.std.specs.FinMap.{slice_cmp-IsAntisymmetric}
use Rattle.std.specs.Option.{option_cmp}
use Rattle.std.specs.Ordering.{int_cmp, nat_cmp, ordering_then}
use Rattle.std.specs.declared.cmp.Ordering.{Ordering}
use Rattle.std.specs.declared.cmp.Ordering.TheVariants.{Less, Equal, Greater}
use Rattle.std.proofs.Common.{◌∙◌, ap, sym}
use Rattle.std.proofs.lemmas.Cmp.{eq_by_cmp_equiv, int_cmp_total, nat_cmp_total, nat_list_cmp_total, on_total}
use Rattle.std.proofs.lemmas.Cmp.{then_total}
use Rattle.ps_formula.specs.Order.{tree_cmp}
use Rattle.ps_formula.specs.OrderLaws.{tree_cmp-total, tree_cmp-IsAntisymmetric}
use Rattle.ps_formula.specs.Tree.{Tree}
use Rattle.ps_content.specs.Order.{content_cmp, content_eq, within_kind, kind_place, number_in, text_in, formula_in}
use Rattle.ps_content.specs.declared.content.Content.{Content}
use Rattle.ps_content.specs.declared.content.Content.TheVariants.{Blank, Number, Text, Formula, Tally, Choice}

pub within_kind-total : IsTotalOrder within_kind
within_kind-total =
    then_total (on_total number_in int_cmp_total)
    (then_total (on_total text_in nat_list_cmp_total) (on_total formula_in (options_total tree_cmp-total)))

pub content_cmp-total : IsTotalOrder content_cmp
unfolding content_cmp
content_cmp-total = then_total (on_total kind_place nat_cmp_total) within_kind-total

-- equality by the order is an equivalence
pub content_eq-equivalence : IsEquivalence content_eq
content_eq-equivalence = eq_by_cmp_equiv content_cmp-total

first_tied : (o p : Ordering) → ordering_then o p ≡ Equal → o ≡ Equal
first_tied Less p e = cc
first_tied Equal p e = refl
first_tied Greater p e = cc

second_tied : (o p : Ordering) → ordering_then o p ≡ Equal → p ≡ Equal
second_tied Less p e = cc
second_tied Equal p e = e
second_tied Greater p e = cc

options_untied : IsAntisymmetric (option_cmp tree_cmp)
options_untied None None e = refl
options_untied None (Some u) e = cc
options_untied (Some t) None e = cc
options_untied (Some t) (Some u) e = ap Some (tree_cmp-IsAntisymmetric t u e)

-- the content of a kind with these parts
abbrev rebuilt : ℕ → ℤ → List ℕ → Option Tree → Content
rebuilt zero n t f = Blank
rebuilt (suc zero) n t f = Number n
rebuilt (suc (suc zero)) n t f = Text t
rebuilt (suc (suc (suc k))) n t (Some f) = Formula f
rebuilt (suc (suc (suc (suc zero)))) n t None = Tally
rebuilt (suc (suc (suc k))) n t None = Choice

rebuilt_itself : (c : Content) → rebuilt (kind_place c) (number_in c) (text_in c) (formula_in c) ≡ c
rebuilt_itself Blank = refl
rebuilt_itself (Number n) = refl
rebuilt_itself (Text t) = refl
rebuilt_itself (Formula f) = refl
rebuilt_itself Tally = refl
rebuilt_itself Choice = refl

same_parts : (c d : Content) → kind_place c ≡ kind_place d → number_in c ≡ number_in d → text_in c ≡ text_in d
    → formula_in c ≡ formula_in d → c ≡ d
same_parts c d k n t f =
    let same : rebuilt (kind_place c) (number_in c) (text_in c) (formula_in c) ≡ rebuilt (kind_place d)
    (number_in d) (text_in d) (formula_in d) = cc in
    sym (rebuilt_itself c) ∙ same ∙ rebuilt_itself d

-- no two contents are tied
pub content_cmp-IsAntisymmetric : IsAntisymmetric content_cmp
unfolding content_cmp
content_cmp-IsAntisymmetric c d e =
    let kinds = nat_cmp (kind_place c) (kind_place d) in
    let numbers = int_cmp (number_in c) (number_in d) in
    let texts = slice_cmp nat_cmp (text_in c) (text_in d) in
    let formulas = option_cmp tree_cmp (formula_in c) (formula_in d) in
    let within = second_tied kinds (ordering_then numbers (ordering_then texts formulas)) e in
    let after = second_tied numbers (ordering_then texts formulas) within in
    same_parts c d
    (nat_cmp-IsAntisymmetric (kind_place c) (kind_place d) (first_tied kinds _ e))
    (int_cmp-IsAntisymmetric (number_in c) (number_in d) (first_tied numbers _ within))
    (slice_cmp-IsAntisymmetric nat_cmp-IsAntisymmetric (text_in c) (text_in d) (first_tied texts _ after))
    (options_untied (formula_in c) (formula_in d) (second_tied texts formulas after))
