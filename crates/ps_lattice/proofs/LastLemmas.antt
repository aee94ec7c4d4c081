-- The last sequence of a replica, block by block.
use Rattle.std.proofs.Common.{◌≡◌, ℕ, zero, suc, ◌+◌, ◌<◌, ◌≤◌, max, length, get_or, take, drop, Bool, true, false, cond}
use Rattle.std.proofs.Common.{◌==◌, List, [], ◌∷◌, refl, sym, ap, ◌∙◌, arith, map as each}
use Rattle.std.specs.List.{filter}
use Rattle.std.specs.declared.cmp.Ordering.{Ordering}
use Rattle.std.specs.declared.cmp.Ordering.TheVariants.{Less, Equal, Greater}
use Rattle.std.specs.Ordering.{nat_cmp, ordering_then}
use Rattle.std.specs.FinMap as map
use Rattle.std.proofs.lemmas.Bool.{cases_lt}
use Rattle.std.proofs.Common.{inl, inr}
use Rattle.std.proofs.lemmas.Cmp.{ranked}
use Rattle.std.proofs.lemmas.Bool.{eqb-true}
use Rattle.std.proofs.lemmas.List.{get_or-drop, length-drop, drop-drop, get_or_default}
use Rattle.ps_lattice.specs.declared.choice.Pair.{Pair}
use Rattle.ps_lattice.specs.Choice.{pair_cmp, greatest, last_of}
use Rattle.ps_lattice.specs.ChoiceLaws.{pairs_total}
use Rattle.ps_lattice.proofs.Stretches.{options_rise, upto_by}
use Rattle.ps_lattice.proofs.Places.{sorted_far}

-- the last sequence of a first pair and the others
last_cons : (r : ℕ) (e : Pair × Bool) (es : List (Pair × Bool)) (b : Bool) → (e.0.replica == r) ≡ b
    → last_of r (e ∷ es) ≡ cond b (max e.0.sequence (last_of r es)) (last_of r es)
last_cons r e es true is =
    ap (λ b. greatest (each (λ (d : Pair × Bool). d.0.sequence) (cond b
    (e ∷ filter (λ (d : Pair × Bool). d.0.replica == r) es)
    (filter (λ (d : Pair × Bool). d.0.replica == r) es)))) is
last_cons r e es false is =
    ap (λ b. greatest (each (λ (d : Pair × Bool). d.0.sequence) (cond b
    (e ∷ filter (λ (d : Pair × Bool). d.0.replica == r) es)
    (filter (λ (d : Pair × Bool). d.0.replica == r) es)))) is

split_by : (a b c s : ℕ) (t : Bool) → c ≡ max a b → cond t (max s c) c ≡ max (cond t (max s a) a) b
split_by a b c s true h = omega (arith, h)
split_by a b c s false h = h

-- the greater one of a block and of the rest
pub last_split : (r n : ℕ) (es : List (Pair × Bool))
    → last_of r es ≡ max (last_of r (take n es)) (last_of r (drop n es))
last_split r zero es = omega arith
last_split r (suc n) [] = refl
last_split r (suc n) (e ∷ es) =
    last_cons r e es (e.0.replica == r) refl
    ∙ split_by (last_of r (take n es)) (last_of r (drop n es)) (last_of r es) e.0.sequence (e.0.replica == r)
    (last_split r n es)
    ∙ sym (ap (λ m. max m (last_of r (drop n es))) (last_cons r e (take n es) (e.0.replica == r) refl))

-- a block without the replica may be left out
pub last_passed : (r n : ℕ) (es : List (Pair × Bool)) → n ≤ length es
    → ((j : ℕ) (d : Pair × Bool) → j < n → ((get_or es j d).0.replica == r) ≡ false)
    → last_of r es ≡ last_of r (drop n es)
last_passed r zero es within none = refl
last_passed r (suc n) [] within none = absurd (omega arith)
last_passed r (suc n) (e ∷ es) within none =
    last_cons r e es false (none 0 e (omega arith))
    ∙ last_passed r n es (omega arith) (λ j d less. none (suc j) d (omega arith))

after_tie : (a b : ℕ) (r s : Ordering) → r ≡ nat_cmp a b → a ≡ b → ordering_then r s ≡ Less → s ≡ Less
after_tie a b Less s is same h = let lt : a < b = ranked a b Less is in absurd (omega arith)
after_tie a b Equal s is same h = h
after_tie a b Greater s is same h = cc

-- the replicas of one option rise
pub replicas_rise : (es : List (Pair × Bool)) → map.is_sorted pair_cmp es ≡ true → (i j : ℕ) (d : Pair × Bool) → i ≤ j
    → j < length es → (get_or es i d).0.option ≡ (get_or es j d).0.option
    → (get_or es i d).0.replica ≤ (get_or es j d).0.replica
replicas_rise es h i j d le within tied = elim (cases_lt i j) [
  | inl lt ↦
      let x = (get_or es i d).0 in
      let y = (get_or es j d).0 in
      upto_by x.replica y.replica (nat_cmp x.replica y.replica) (nat_cmp x.sequence y.sequence) refl
      (after_tie x.option y.option (nat_cmp x.option y.option) _ refl tied
      (sorted_far pair_cmp pairs_total es h i j d d lt within))
  | inr ge ↦
      let same : i ≡ j = omega (arith, ge) in
      let e : (get_or es i d).0.replica ≡ (get_or es j d).0.replica = ap (λ n. (get_or es n d).0.replica) same in
      omega arith
]

differs : (a r : ℕ) (b : Bool) → (a == r) ≡ b → ¬ (a ≡ r) → b ≡ false
differs a r true is apart = absurd (apart (eqb-true a r is))
differs a r false is apart = refl

module _ (es : List (Pair × Bool)) (sorted : map.is_sorted pair_cmp es ≡ true) (r i last n : ℕ) (d : Pair × Bool) where
  -- a block of one option without the replica between its ends may be left out
  pub block_passed : last + 1 ≡ i + n → i + n ≤ length es → (get_or es i d).0.option ≡ (get_or es last d).0.option
      → ¬ (((get_or es i d).0.replica ≤ r) × (r ≤ (get_or es last d).0.replica))
      → last_of r (drop i es) ≡ last_of r (drop (i + n) es)
  block_passed end within tied apart =
      let size = length-drop i es in
      last_passed r n (drop i es) (omega arith) (λ j f less.
      differs (get_or (drop i es) j f).0.replica r _ refl (λ same. apart (
      let at : (get_or (drop i es) j f).0.replica ≡ (get_or es (i + j) d).0.replica =
      ap (λ (e : Pair × Bool). e.0.replica) (get_or-drop i es j f ∙ get_or_default es (i + j) f d (omega arith)) in
      let up = options_rise es sorted i (i + j) d (omega arith) (omega arith) in
      let on = options_rise es sorted (i + j) last d (omega arith) (omega arith) in
      let low = replicas_rise es sorted i (i + j) d (omega arith) (omega arith) (omega arith) in
      let high = replicas_rise es sorted (i + j) last d (omega arith) (omega arith) (omega arith) in
      (omega arith, omega arith))))
      ∙ ap (last_of r) (drop-drop n i es)

-- a block taken in
pub block_taken : (r i n : ℕ) (es : List (Pair × Bool)) (last all : ℕ) → max last (last_of r (drop i es)) ≡ all
    → max (max last (last_of r (take n (drop i es)))) (last_of r (drop (i + n) es)) ≡ all
block_taken r i n es last all h =
    let split = last_split r n (drop i es) in
    let rest : last_of r (drop n (drop i es)) ≡ last_of r (drop (i + n) es) = ap (last_of r) (drop-drop n i es) in
    omega arith
