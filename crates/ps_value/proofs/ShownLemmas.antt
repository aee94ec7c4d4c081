-- The texts of options, one after another.
use Rattle.std.proofs.Common.{◌≡◌, ℕ, zero, suc, ◌+◌, ◌-◌, ◌/◌, ◌^◌, ◌<◌, Bool, true, false, cond, List, [], ◌∷◌}
use Rattle.std.proofs.Common.{◌++◌, map, refl, sym, ap, ◌∙◌, arith, append_assoc, append-nil, add-zero}
use Rattle.std.specs.Prelude.{decimal}
use Rattle.std.specs.List.{join_with_byte}
use Rattle.std.specs.Int.{bit_at}
use Rattle.std.specs.Prelude.{bit_and}
use Rattle.std.proofs.lemmas.Bool.{eq-eqb, ne_eqb}
use Rattle.std.proofs.lemmas.Nat.Bits.{shr_and_one}
use Rattle.std.proofs.lemmas.List.FromFn.{filter_of_map_range_with_len_more}
use Rattle.ps_value.specs.Shown.{is_chosen, options_below, listed, choice_text}

abbrev pub is_empty : List ℕ → Bool
is_empty [] = true
is_empty (x ∷ xs) = false

-- a number's text, with a comma before it unless it is the first
abbrev pub listed_next : Bool → ℕ → List ℕ
listed_next is_first number = cond is_first (decimal number) (44 ∷ decimal number)

-- one more number at the end
join_push : (xs : List (List ℕ)) (y x : List ℕ)
    → join_with_byte 44 ((y ∷ xs) ++ x ∷ []) ≡ join_with_byte 44 (y ∷ xs) ++ (44 ∷ x)
join_push [] y x = refl
join_push (z ∷ xs) y x = ap (λ l. y ++ (44 ∷ l)) (join_push xs z x) ∙ sym
    (append_assoc y (44 ∷ join_with_byte 44 (z ∷ xs)) (44 ∷ x))

map_push : (xs : List ℕ) (x : ℕ) → map decimal (xs ++ x ∷ []) ≡ map decimal xs ++ decimal x ∷ []
map_push [] x = refl
map_push (y ∷ xs) x = ap (λ l. decimal y ∷ l) (map_push xs x)

pub listed-push : (numbers : List ℕ) (number : ℕ)
    → listed (numbers ++ number ∷ []) ≡ listed numbers ++ listed_next (is_empty numbers) number
unfolding listed
listed-push [] number = refl
listed-push (x ∷ numbers) number = ap (join_with_byte 44) (map_push (x ∷ numbers) number) ∙ join_push
    (map decimal numbers) (decimal x) (decimal number)

map_same : (xs : List ℕ) → map (λ k. k) xs ≡ xs
map_same [] = refl
map_same (x ∷ xs) = ap (λ l. x ∷ l) (map_same xs)

-- one more option
pub options_below-more : (n bits : ℕ)
    → options_below (n + 1) bits ≡ options_below n bits ++ cond (is_chosen bits n) (n ∷ []) []
unfolding options_below
options_below-more n bits =
    let more = filter_of_map_range_with_len_more (is_chosen bits) (λ k. k) 0 n n (omega arith) in
    rw (map_same, map_same) at more

pub listed_below-chosen : (n bits : ℕ) → is_chosen bits n ≡ true
    → listed (options_below (n + 1) bits) ≡ listed (options_below n bits) ++ listed_next
    (is_empty (options_below n bits)) n
listed_below-chosen n bits chosen = rw (options_below-more, chosen) (listed-push (options_below n bits) n)

pub listed_below-other : (n bits : ℕ) → is_chosen bits n ≡ false
    → listed (options_below (n + 1) bits) ≡ listed (options_below n bits)
listed_below-other n bits other = rw (options_below-more, other) (ap listed (append-nil (options_below n bits)))

is_empty-push : (numbers : List ℕ) (number : ℕ) → is_empty (numbers ++ number ∷ []) ≡ false
is_empty-push [] number = refl
is_empty-push (x ∷ numbers) number = refl

pub is_empty_below-chosen : (n bits : ℕ) → is_chosen bits n ≡ true → is_empty (options_below (n + 1) bits) ≡ false
is_empty_below-chosen n bits chosen = rw (options_below-more, chosen) (is_empty-push (options_below n bits) n)

pub is_empty_below-other : (n bits : ℕ) → is_chosen bits n ≡ false
    → is_empty (options_below (n + 1) bits) ≡ is_empty (options_below n bits)
is_empty_below-other n bits other = rw (options_below-more, other) (ap is_empty (append-nil (options_below n bits)))

-- the text of fewer options is the front of the text of more
step_front : (n bits : ℕ) (chosen : Bool) → is_chosen bits n ≡ chosen
    → (rest : List ℕ) × (listed (options_below (n + 1) bits) ≡ listed (options_below n bits) ++ rest)
step_front n bits true is = (listed_next (is_empty (options_below n bits)) n, listed_below-chosen n bits is)
step_front n bits false is = ([], listed_below-other n bits is ∙ sym (append-nil (listed (options_below n bits))))

front_of_three : (n more bits : ℕ) (first others : List ℕ)
    → listed (options_below (n + 1) bits) ≡ listed (options_below n bits) ++ first
    → listed (options_below (n + 1 + more) bits) ≡ listed (options_below (n + 1) bits) ++ others
    → listed (options_below (n + suc more) bits) ≡ listed (options_below n bits) ++ (first ++ others)
front_of_three n more bits first others p q =
    let bound : n + suc more ≡ n + 1 + more = omega arith in
    rw bound (q ∙ ap (λ l. l ++ others) p ∙ append_assoc (listed (options_below n bits)) first others)

pub listed-front : (more n bits : ℕ)
    → (rest : List ℕ) × (listed (options_below (n + more) bits) ≡ listed (options_below n bits) ++ rest)
listed-front zero n bits = ([], rw add-zero (sym (append-nil (listed (options_below n bits)))))
listed-front (suc more) n bits =
    let first = step_front n bits (is_chosen bits n) refl in
    let others = listed-front more (n + 1) bits in
    (first.0 ++ others.0, front_of_three n more bits first.0 others.0 first.1 others.1)

-- the options below a bound, at the next one that is chosen, as the front of all
pub listed-front_chosen : (n bound bits : ℕ) → n < bound → is_chosen bits n ≡ true
    → (rest : List ℕ) × (listed (options_below bound bits) ≡ listed (options_below n bits) ++ listed_next
    (is_empty (options_below n bits)) n ++ rest)
listed-front_chosen n bound bits below chosen =
    let others = listed-front (bound - (n + 1)) (n + 1) bits in
    let bound_is : n + 1 + (bound - (n + 1)) ≡ bound = omega arith in
    (others.0, rw (bound_is, listed_below-chosen n bits chosen) at others.1)

pub listed-none : (bits : ℕ) → listed (options_below 0 bits) ≡ []
unfolding listed options_below
listed-none bits = refl

pub is_empty-none : (bits : ℕ) → true ≡ is_empty (options_below 0 bits)
unfolding options_below
is_empty-none bits = refl

pub choice_text-parts : (bits : ℕ) → choice_text bits ≡ 123 ∷ [] ++ listed (options_below 64 bits) ++ 125 ∷ []
unfolding choice_text
choice_text-parts bits = refl

-- the code's test of a bit
pub is_chosen-bit : (bits k : ℕ) → bit_and (bits / 2 ^ k) 1 ≡ 1 → is_chosen bits k ≡ true
is_chosen-bit bits k bit = eq-eqb (bit_at bits k) 1 (sym (shr_and_one bits k) ∙ bit)

pub is_chosen-no_bit : (bits k : ℕ) → (bit_and (bits / 2 ^ k) 1 ≡ 1 → ⊥) → is_chosen bits k ≡ false
is_chosen-no_bit bits k other = ne_eqb (bit_at bits k) 1 (λ e. other (shr_and_one bits k ∙ e))
