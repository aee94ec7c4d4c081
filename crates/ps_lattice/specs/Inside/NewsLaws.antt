-- Laws of what one value has new for another one.
use Rattle.std.specs.Prelude.{◌≡◌, ℕ, max, Bool, true, false, ◌&&◌, ◌||◌, nat_le, if◌then◌else◌}
use Rattle.std.specs.Prelude.{Option, Some, None}
use Rattle.std.proofs.Common.{refl, sym, ap, ◌∙◌, arith, true≢false, unwrap_or}
use Rattle.std.proofs.lemmas.Bool.Decides.{nat_tests}
use Rattle.ps_lattice.specs.declared.tally.Count.{Count}
use Rattle.ps_lattice.specs.Maps.{both_of}
use Rattle.ps_lattice.specs.Tally.{greater_counts}
use Rattle.ps_lattice.specs.News.{IsNewsOf}
use Rattle.ps_lattice.specs.NewsLaws.{both_of-None, news_none}
use Rattle.ps_lattice.specs.Inside.News.{newer_mark, newer_total, newer_count}

some_is : {X : Type 0} (a b : X) → Some a ≡ Some b → a ≡ b
some_is a b h = ap (λ o. unwrap_or o a) h

-- to a missing value all of a value is new
pub all_new : {X : Type 0} (f : X → X → X) → ((x : X) → f x x ≡ x) → (y : X)
    → IsNewsOf (both_of f) None (Some y) (Some y)
all_new f idem y = record {
  same = refl;
  least = λ m h. ap (λ o. both_of f o (Some y)) h ∙ ap Some (idem y) ∙ sym h;
}

or_same : (a : Bool) → (a || a) ≡ a
or_same true = refl
or_same false = refl

mark_least : (m : Option Bool) → both_of ◌||◌ (Some false) m ≡ Some true → both_of ◌||◌ m (Some true) ≡ m
mark_least None h = absurd (true≢false (sym (some_is _ _ h)))
mark_least (Some true) h = refl
mark_least (Some false) h = absurd (true≢false (sym (some_is _ _ h)))

pub marks_news : (there : Option Bool) (value : Bool)
    → IsNewsOf (both_of ◌||◌) there (Some value) (newer_mark there value)
marks_news None y = all_new ◌||◌ or_same y
marks_news (Some true) y = news_none (Some true) (Some y) None (both_of-None ◌||◌) refl
marks_news (Some false) true = record { same = refl; least = mark_least }
marks_news (Some false) false = news_none (Some false) (Some false) None (both_of-None ◌||◌) refl

max_same : (a : ℕ) → max a a ≡ a
max_same a = omega arith

count_same : (x : Count) → greater_counts x x ≡ x
count_same x = λ i. record { added = max_same x.added i; subtracted = max_same x.subtracted i }

total_same : (x y : ℕ) → max x (newer_total x y) ≡ max x y
total_same x y = grind (arith, nat_tests)

total_least : (x y z : ℕ) → max x z ≡ max x y → max z (newer_total x y) ≡ z
total_least x y z h = grind (arith, nat_tests)

covered : (x y : ℕ) → nat_le y x ≡ true → max x y ≡ x
covered x y h = grind (arith, nat_tests)

covers : (x y : ℕ) → max x y ≡ x → nat_le y x ≡ true
covers x y h = grind (arith, nat_tests)

left : (a b : Bool) → (a && b) ≡ true → a ≡ true
left true b h = refl
left false b h = h

right : (a b : Bool) → (a && b) ≡ true → b ≡ true
right true b h = h
right false b h = absurd (true≢false (sym h))

both : (a b : Bool) → a ≡ true → b ≡ true → (a && b) ≡ true
both a b p q = ap (λ v. v && b) p ∙ q

count_covered : (x y : Count) → (nat_le y.added x.added && nat_le y.subtracted x.subtracted) ≡ true
    → greater_counts x y ≡ x
count_covered x y h =
    let added = covered x.added y.added (left _ _ h) in
    let subtracted = covered x.subtracted y.subtracted (right (nat_le y.added x.added) _ h) in
    λ i. record { added = added i; subtracted = subtracted i }

count_covers : (x y : Count) → greater_counts x y ≡ x
    → (nat_le y.added x.added && nat_le y.subtracted x.subtracted) ≡ true
count_covers x y h =
    both _ _ (covers x.added y.added (ap (λ (c : Count). c.added) h))
    (covers x.subtracted y.subtracted (ap (λ (c : Count). c.subtracted) h))

-- the new counts, each replaced by 0 if it isn't above the old one
abbrev above : Count → Count → Count
above x y = record { added = newer_total x.added y.added; subtracted = newer_total x.subtracted y.subtracted }

above_same : (x y : Count) → greater_counts x (above x y) ≡ greater_counts x y
above_same x y = λ i. record {
  added = total_same x.added y.added i;
  subtracted = total_same x.subtracted y.subtracted i;
}

above_least : (x y z : Count) → greater_counts x z ≡ greater_counts x y → greater_counts z (above x y) ≡ z
above_least x y z h =
    let added = total_least x.added y.added z.added (ap (λ (c : Count). c.added) h) in
    let subtracted = total_least x.subtracted y.subtracted z.subtracted (ap (λ (c : Count). c.subtracted) h) in
    λ i. record { added = added i; subtracted = subtracted i }

count_least : (x y : Count) → (nat_le y.added x.added && nat_le y.subtracted x.subtracted) ≡ false
    → (m : Option Count) → both_of greater_counts (Some x) m ≡ Some (greater_counts x y)
    → both_of greater_counts m (Some (above x y)) ≡ m
count_least x y above None h = absurd (true≢false (sym (count_covers x y (sym (some_is _ _ h))) ∙ above))
count_least x y above (Some z) h = ap Some (above_least x y z (some_is _ _ h))

count_by : (x y : Count) (b : Bool) → (nat_le y.added x.added && nat_le y.subtracted x.subtracted) ≡ b
    → IsNewsOf (both_of greater_counts) (Some x) (Some y) (if b then None else Some (above x y))
count_by x y true h = news_none (Some x) (Some y) None (both_of-None greater_counts) (ap Some (count_covered x y h))
count_by x y false h = record { same = ap Some (above_same x y); least = count_least x y h }

pub counts_news : (there : Option Count) (value : Count)
    → IsNewsOf (both_of greater_counts) there (Some value) (newer_count there value)
counts_news None y = all_new greater_counts count_same y
counts_news (Some x) y = count_by x y _ refl
