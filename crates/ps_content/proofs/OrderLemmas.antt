-- The code's comparison, over plain values.
use Rattle.std.proofs.Common.{◌≡◌, ℕ, List, Option, None, Some, refl}
use denote.Bor.{Bor}
use Rattle.std.specs.Cmp.Lexicographic.{slice_cmp}
use Rattle.std.specs.Option.{option_cmp, option_copied}
use Rattle.std.specs.Ordering.{int_cmp, nat_cmp, ordering_then}
use Rattle.std.specs.declared.cmp.Ordering.{Ordering}
use Rattle.ps_formula.specs.Order.{tree_cmp}
use Rattle.ps_formula.specs.Tree.{Tree}
use Rattle.ps_content.specs.Order.{content_cmp, kind_place, number_in, text_in, formula_in}
use Rattle.ps_content.specs.declared.content.Content.{Content}

-- the order of what two references point to
pub lent_formulas : (p q : Option (Bor Tree))
    → option_cmp (λ x y. tree_cmp x.now y.now) p q ≡ option_cmp tree_cmp (option_copied p) (option_copied q)
lent_formulas None None = refl
lent_formulas None (Some y) = refl
lent_formulas (Some x) None = refl
lent_formulas (Some x) (Some y) = refl

-- the order of contents from the orders of their parts
pub content_cmp-parts : (c d : Content) {k l : ℕ} {t u : List ℕ} (p q : Option (Bor Tree))
    {kinds numbers texts formulas : Ordering}
    → k ≡ kind_place c → l ≡ kind_place d → kinds ≡ nat_cmp k l
    → numbers ≡ int_cmp (number_in c) (number_in d)
    → t ≡ text_in c → u ≡ text_in d → texts ≡ slice_cmp nat_cmp t u
    → option_copied p ≡ formula_in c → option_copied q ≡ formula_in d → formulas ≡ option_cmp
    (λ x y. tree_cmp x.now y.now) p q
    → ordering_then kinds (ordering_then numbers (ordering_then texts formulas)) ≡ content_cmp c d
unfolding content_cmp
content_cmp-parts c d p q kc kd k n tc td t fc fd f =
    rw (k, kc, kd, n, t, tc, td, f, lent_formulas p q, fc, fd) refl
