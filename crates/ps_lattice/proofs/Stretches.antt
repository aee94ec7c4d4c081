-- Stretches of pairs of one option.
use Rattle.std.proofs.Common.{◌≡◌, ℕ, zero, suc, ◌+◌, ◌-◌, ◌<◌, ◌≤◌, length, get_or, take, Bool, true, false, not}
use Rattle.std.proofs.Common.{◌&&◌, ◌||◌, ◌==◌, List, refl, sym, ap, ◌∙◌, arith, inl, inr}
use Rattle.std.specs.List.{list_any}
use Rattle.std.specs.declared.cmp.Ordering.{Ordering}
use Rattle.std.specs.declared.cmp.Ordering.TheVariants.{Less, Equal, Greater}
use Rattle.std.specs.Ordering.{nat_cmp, ordering_then}
use Rattle.std.specs.FinMap as map
use Rattle.std.proofs.lemmas.Bool.{cases_lt}
use Rattle.std.proofs.lemmas.Cmp.{ranked}
use Rattle.std.proofs.lemmas.List.{get_or_default}
use Rattle.ps_lattice.specs.declared.choice.Pair.{Pair}
use Rattle.ps_lattice.specs.Choice.{pair_cmp, is_live}
use Rattle.ps_lattice.specs.ChoiceLaws.{pairs_total}
use Rattle.ps_lattice.specs.Inside.Places.{IsStretch}
use Rattle.ps_lattice.proofs.ChoiceLemmas.{live_is}
use Rattle.ps_lattice.proofs.Bits.{any_more, or_nothing, or_something}
use Rattle.ps_lattice.proofs.Places.{sorted_far}

pub upto_by : (a b : ℕ) (r s : Ordering) → r ≡ nat_cmp a b → ordering_then r s ≡ Less → a ≤ b
upto_by a b Less s is h = let lt : a < b = ranked a b Less is in omega arith
upto_by a b Equal s is h = let same : a ≡ b = ranked a b Equal is in omega arith
upto_by a b Greater s is h = cc

-- the options rise along the list
pub options_rise : (es : List (Pair × Bool)) → map.is_sorted pair_cmp es ≡ true → (i j : ℕ) (d : Pair × Bool) → i ≤ j
    → j < length es → (get_or es i d).0.option ≤ (get_or es j d).0.option
options_rise es h i j d le within = elim (cases_lt i j) [
  | inl lt ↦ upto_by (get_or es i d).0.option (get_or es j d).0.option
      (nat_cmp (get_or es i d).0.option (get_or es j d).0.option) _ refl
      (sorted_far pair_cmp pairs_total es h i j d d lt within)
  | inr ge ↦
      let same : i ≡ j = omega (arith, ge) in
      let e : (get_or es i d).0.option ≡ (get_or es j d).0.option = ap (λ n. (get_or es n d).0.option) same in
      omega arith
]

-- the first pair alone
pub stretch_of_one : (es : List (Pair × Bool)) (from : ℕ) → from < length es → IsStretch es from (from + 1)
stretch_of_one es from within = record {
  low = omega arith;
  high = omega arith;
  same = λ j d low high.
      let same : j ≡ from = omega arith in
      ap (λ n. (get_or es n d).0.option) same;
}

-- a later pair of the option: so are those between
pub stretch_more : (es : List (Pair × Bool)) → map.is_sorted pair_cmp es ≡ true → (from end last : ℕ) (d : Pair × Bool)
    → IsStretch es from end → end ≤ last → last < length es
    → (get_or es last d).0.option ≡ (get_or es from d).0.option → IsStretch es from (last + 1)
stretch_more es h from end last d so_far after within tied =
    let low = so_far.low in
    record {
      low = omega arith;
      high = omega arith;
      same = λ j f start before.
          let up = options_rise es h j last f (omega arith) within in
          let down = options_rise es h from j f start (omega arith) in
          let at_last : (get_or es last d).0.option ≡ (get_or es last f).0.option =
          ap (λ (e : Pair × Bool). e.0.option) (get_or_default es last d f within) in
          let at_from : (get_or es from d).0.option ≡ (get_or es from f).0.option =
          ap (λ (e : Pair × Bool). e.0.option) (get_or_default es from d f (omega arith)) in
          omega arith;
    }

absorb : (done first next : Bool) → (next ≡ true → first ≡ true)
    → ((done || (first || false)) || (next || false)) ≡ (done || (first || false))
absorb done first false h = or_nothing (done || (first || false))
absorb done first true h =
    or_something (done || (first || false)) ∙ sym (ap (λ b. done || (b || false)) (h refl) ∙ or_something done)

module _ (k : ℕ) (es : List (Pair × Bool)) (i : ℕ) (e : Pair × Bool) (is : e ≡ get_or es i e) (live : e.1 ≡ false)
  where
    also : (x : Pair × Bool) → x.0.option ≡ e.0.option → is_live k x ≡ true → is_live k e ≡ true
    also x same h =
        let of_k : (e.0.option == k) ≡ true =
        ap (λ n. n == k) (sym same) ∙ (live_is (x.0.option == k) x.1 h).0 in
        (λ t. of_k t && not (live t))

    any_by : (n : ℕ) → i + 1 + n ≤ length es
        → ((j : ℕ) → i ≤ j → j < i + 1 + n → (get_or es j e).0.option ≡ e.0.option)
        → list_any (is_live k) (take (i + 1 + n) es)
        ≡ (list_any (is_live k) (take i es) || (is_live k e || false))
    any_by zero within same =
        let one : i + 1 + 0 ≡ i + 1 = omega arith in
        ap (λ m. list_any (is_live k) (take m es)) one ∙ any_more k es i e (omega arith)
        ∙ ap (λ (x : Pair × Bool). list_any (is_live k) (take i es) || (is_live k x || false)) (sym is)
    any_by (suc n) within same =
        let m = i + 1 + n in
        let one : i + 1 + suc n ≡ m + 1 = omega arith in
        ap (λ m. list_any (is_live k) (take m es)) one ∙ any_more k es m e (omega arith)
        ∙ ap (λ b. b || (is_live k (get_or es m e) || false))
        (any_by n (omega arith) (λ j low high. same j low (omega arith)))
        ∙ absorb (list_any (is_live k) (take i es)) (is_live k e) (is_live k (get_or es m e))
        (also (get_or es m e) (same m (omega arith) (omega arith)))

    -- a pair that isn't removed tells of its stretch
    pub any_stretch : (end : ℕ) → IsStretch es i end
        → list_any (is_live k) (take end es) ≡ (list_any (is_live k) (take i es) || (is_live k e || false))
    any_stretch end stretch =
        let low = stretch.low in
        let high = stretch.high in
        let sum : i + 1 + (end - (i + 1)) ≡ end = omega arith in
        ap (λ m. list_any (is_live k) (take m es)) (sym sum)
        ∙ any_by (end - (i + 1)) (omega arith) (λ j after before.
        stretch.same j e after (omega arith) ∙ ap (λ (x : Pair × Bool). x.0.option) (sym is))
