-- The greater of two values in an order without ties is a join.
use Rattle.std.specs.Prelude.{◌≡◌, Bool, true, false, if◌then◌else◌}
use Rattle.std.specs.declared.cmp.Ordering.{Ordering}
use Rattle.std.specs.declared.cmp.Ordering.TheVariants.{Less, Equal, Greater}
use Rattle.std.specs.Ordering.{is_lt, is_gt, ordering_reverse, ordering_then}
use Rattle.std.specs.Cmp.{IsTotalOrder, upto, tied_itself}
use Rattle.std.specs.FinMap.{IsAntisymmetric}
use Rattle.std.proofs.Common.{refl, sym, ap, ◌∙◌}

-- the greater of two values
abbrev pub larger : {A : Type 0} → (A → A → Ordering) → A → A → A
larger R x y = if is_lt (R x y) then y else x

lt_reverse : (r : Ordering) → is_lt (ordering_reverse r) ≡ is_gt r
lt_reverse Less = refl
lt_reverse Equal = refl
lt_reverse Greater = refl

-- both parts of a comparison that ends in a tie are ties
pub both_tied : (r s : Ordering) → ordering_then r s ≡ Equal → (r ≡ Equal) × (s ≡ Equal)
both_tied Less s e = cc
both_tied Equal s e = (refl, e)
both_tied Greater s e = cc

module _ {A : Type 0} (R : A → A → Ordering) where
  pub larger_lt : (x y : A) → is_lt (R x y) ≡ true → larger R x y ≡ y
  larger_lt x y p = ap (λ (b : Bool). if b then y else x) p

  pub larger_ge : (x y : A) → is_lt (R x y) ≡ false → larger R x y ≡ x
  larger_ge x y p = ap (λ (b : Bool). if b then y else x) p

  module _ (o : IsTotalOrder R) (same : IsAntisymmetric R) where
    lt-gt : (x y : A) → is_lt (R x y) ≡ is_gt (R y x)
    lt-gt x y = ap is_lt (o.antisymm x y) ∙ lt_reverse (R y x)

    ge_chain : (x y z : A) → is_lt (R x y) ≡ false → is_lt (R y z) ≡ false → is_lt (R x z) ≡ false
    ge_chain x y z p q = lt-gt x z ∙ upto o z y x (sym (lt-gt y z) ∙ q) (sym (lt-gt x y) ∙ p)

    lt_is : (r : Ordering) → is_lt r ≡ true → r ≡ Less
    lt_is Less p = refl
    lt_is Equal p = cc
    lt_is Greater p = cc

    lt_chain : (x y z : A) → is_lt (R x y) ≡ true → is_lt (R y z) ≡ true → is_lt (R x z) ≡ true
    lt_chain x y z p q = ap is_lt (o.trans x y z (lt_is (R x y) p) (lt_is (R y z) q))

    pub larger_idempotent : (x : A) → larger R x x ≡ x
    larger_idempotent x = larger_ge x x (ap is_lt (tied_itself o x))

    commutes_by : (x y : A) (r : Ordering) → R x y ≡ r → R y x ≡ ordering_reverse r → larger R x y ≡ larger R y x
    commutes_by x y Less p q = larger_lt x y (ap is_lt p) ∙ sym (larger_ge y x (ap is_lt q))
    commutes_by x y Equal p q = larger_ge x y (ap is_lt p) ∙ same x y p ∙ sym (larger_ge y x (ap is_lt q))
    commutes_by x y Greater p q = larger_ge x y (ap is_lt p) ∙ sym (larger_lt y x (ap is_lt q))

    pub larger_commutative : (x y : A) → larger R x y ≡ larger R y x
    larger_commutative x y = commutes_by x y (R x y) refl (o.antisymm y x)

    associates_by : (x y z : A) (a b : Bool) → is_lt (R x y) ≡ a → is_lt (R y z) ≡ b
        → larger R (larger R x y) z ≡ larger R x (larger R y z)
    associates_by x y z true true p q =
        ap (λ w. larger R w z) (larger_lt x y p) ∙ larger_lt y z q
        ∙ sym (ap (larger R x) (larger_lt y z q) ∙ larger_lt x z (lt_chain x y z p q))
    associates_by x y z true false p q =
        ap (λ w. larger R w z) (larger_lt x y p) ∙ larger_ge y z q
        ∙ sym (ap (larger R x) (larger_ge y z q) ∙ larger_lt x y p)
    associates_by x y z false true p q =
        ap (λ w. larger R w z) (larger_ge x y p) ∙ sym (ap (larger R x) (larger_lt y z q))
    associates_by x y z false false p q =
        ap (λ w. larger R w z) (larger_ge x y p) ∙ larger_ge x z (ge_chain x y z p q)
        ∙ sym (ap (larger R x) (larger_ge y z q) ∙ larger_ge x y p)

    pub larger_associative : (x y z : A) → larger R (larger R x y) z ≡ larger R x (larger R y z)
    larger_associative x y z = associates_by x y z (is_lt (R x y)) (is_lt (R y z)) refl refl
