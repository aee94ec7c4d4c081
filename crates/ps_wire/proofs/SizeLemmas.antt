-- How long texts are, to the byte.
use Rattle.std.proofs.Common.{◌≡◌, ℕ, ◌+◌, ◌-◌, ◌/◌, ◌%◌, ◌^◌, ◌<◌, ◌≤◌}
use Rattle.std.proofs.Common.{Bool, true, false, refl, List, [], ◌∷◌, ◌++◌, map, length, take, get_or, ap, arith}
use Rattle.std.proofs.Common.{length-append}
use Rattle.std.proofs.lemmas.Fmt.{decimal_digit, decimal_nonempty, decimal_step, length-decimal-le}
use Rattle.std.proofs.lemmas.List.{take_all, take_more}
use Rattle.std.proofs.lemmas.List.Sums.{sum_by-cons, sum_by-take-le, sum_by_more}
use Rattle.std.specs.Fmt.{decimal}
use Rattle.std.specs.Prelude.{codes, sum_by}
use Rattle.json.specs.Print.{escape, escape_byte}
use Rattle.serde_json.specs.Data.{Data, Items, item, string}
use Rattle.serde_json.specs.View.{items_of}
use Rattle.serde_json.specs.Written.{items_text, compact_text}
use Rattle.ps_value.specs.declared.TheConstants.{LABEL_BYTES}
use Rattle.ps_value.specs.Label.{IsLabel}
use Rattle.ps_value.proofs.LabelLemmas.{IsLabel-short}
use Rattle.ps_wire.specs.Length.{size}
use Rattle.ps_wire.specs.Value.{array_of, gone_number, whole}
use Rattle.ps_wire.proofs.EscapeLemmas.{length-escape-append}

-- ---- arrays

pub item_later : (d : Data) (ds : Items)
    → length (items_text true (item d ds)) ≡ 1 + size d + length (items_text true ds)
item_later d ds = omega (arith, length-append (compact_text d) (items_text true ds))

pub item_first : (d : Data) (ds : Items)
    → length (items_text false (item d ds)) ≡ size d + length (items_text true ds)
item_first d ds = omega (arith, length-append (compact_text d) (items_text true ds))

pub size_of_three : (a b c : Data) → size (array_of (a ∷ b ∷ c ∷ [])) ≡ 4 + size a + size b + size c
size_of_three a b c =
    omega (
      arith,
      item_first a (items_of (b ∷ c ∷ [])),
      item_later b (items_of (c ∷ [])),
      item_later c (items_of []),
    )

pub size_of_four : (a b c d : Data)
    → size (array_of (a ∷ b ∷ c ∷ d ∷ [])) ≡ 5 + size a + size b + size c + size d
size_of_four a b c d =
    omega (
      arith,
      item_first a (items_of (b ∷ c ∷ d ∷ [])),
      item_later b (items_of (c ∷ d ∷ [])),
      item_later c (items_of (d ∷ [])),
      item_later d (items_of []),
    )

-- the items of an array of one or more, each with what comes after it: a comma or the last bracket
module _ {X : Type 0} (f : X → Data) where
  abbrev pub ended : X → ℕ
  ended x = 1 + size (f x)

  items_size : (xs : List X) → length (items_text true (items_of (map f xs))) ≡ 1 + sum_by ended xs
  items_size [] = omega arith
  items_size (x ∷ xs) =
      omega (arith, items_size xs, sum_by-cons ended x xs, item_later (f x) (items_of (map f xs)))

  pub size_of_array : (xs : List X) → 0 < length xs → size (array_of (map f xs)) ≡ 1 + sum_by ended xs
  size_of_array [] some = absurd (omega arith)
  size_of_array (x ∷ xs) some =
      omega (arith, items_size xs, sum_by-cons ended x xs, item_first (f x) (items_of (map f xs)))

  pub size_of_none : (xs : List X) → length xs ≡ 0 → size (array_of (map f xs)) ≡ 2
  size_of_none [] none = omega arith
  size_of_none (x ∷ xs) none = absurd (omega (arith, none))

  -- code that goes through the items, and keeps count of the room that they leave
  module _ (xs : List X) (i : ℕ) (x : X) (left room : ℕ) (within : i < length xs) (is : x ≡ get_or xs i x)
      (so_far : left + 1 + sum_by ended (take i xs) ≡ room) where
    one_more : sum_by ended (take (i + 1) xs) ≡ sum_by ended (take i xs) + (1 + size (f x))
    one_more =
        let here : size (f x) ≡ size (f (get_or xs i x)) = ap (λ y. size (f y)) is in
        omega (arith, sum_by_more ended xs i x within, here)

    pub taken_over : ¬ (1 + size (f x) ≤ left) → ¬ (size (array_of (map f xs)) ≤ room)
    taken_over over fits =
        over (omega (
          arith,
          fits,
          one_more,
          so_far,
          sum_by-take-le ended xs (i + 1),
          size_of_array xs (omega (arith, within)),
        ))

  pub taken_all : (xs : List X) (i left room : ℕ) → 0 < length xs → length xs ≤ i
      → left + 1 + sum_by ended (take i xs) ≡ room
      → (size (array_of (map f xs)) ≤ room) × (left ≡ room - size (array_of (map f xs)))
  taken_all xs i left room some all so_far =
      let whole = ap (sum_by ended) (take_all i xs all) in (
        omega (arith, whole, so_far, size_of_array xs some),
        omega (arith, whole, so_far, size_of_array xs some),
      )

-- ---- strings and numbers

pub size_of_string : (s : List ℕ) → size (string s) ≡ 2 + length (escape s)
size_of_string s = omega (arith, length-append (escape s) (34 ∷ []))

pub escape_more : (s : List ℕ) (i d : ℕ) → i < length s
    → length (escape (take (i + 1) s)) ≡ length (escape (take i s)) + length (escape_byte (get_or s i d))
escape_more s i d within =
    omega (
      arith,
      ap (λ t. length (escape t)) (take_more s i d within),
      length-escape-append (take i s) (get_or s i d ∷ []),
      length-append (escape_byte (get_or s i d)) [],
    )

pub some_digits : (n : ℕ) → n < 2 ^ 64 → 1 ≤ size (whole n)
some_digits n small = decimal_nonempty n small

pub few_digits : (n : ℕ) → n < 2 ^ 64 → size (whole n) ≤ 20
few_digits n small = length-decimal-le 20 n (omega arith) (omega (arith, small)) small

pub one_digit : (n : ℕ) → n < 10 → size (whole n) ≡ 1
one_digit n small = ap length (decimal_digit n small)

pub digit_more : (n : ℕ) → 10 ≤ n → n < 2 ^ 64 → size (whole n) ≡ 1 + size (whole (n / 10))
digit_more n many small =
    omega (
      arith,
      ap length (decimal_step n many small),
      length-append (decimal (n / 10)) ((48 + n % 10) ∷ []),
    )

pub gone_digit : (gone : Bool) → size (whole (gone_number gone)) ≡ 1
gone_digit true = one_digit 1 (omega arith)
gone_digit false = one_digit 0 (omega arith)

-- ---- contents

pub label_is_short : (bytes label : List ℕ) → IsLabel label → bytes ≡ label → length bytes ≤ LABEL_BYTES
label_is_short bytes label well is = omega (arith, IsLabel-short label well, ap length is)

pub size_of_label : (label : List ℕ) → size (string (codes "'" ++ label)) ≡ 1 + size (string label)
unfolding escape_byte
size_of_label label = omega arith

pub size_of_tally : size (string (codes "@tally")) ≡ 8
unfolding escape_byte
size_of_tally = refl

pub size_of_choice : size (string (codes "@choice")) ≡ 9
unfolding escape_byte
size_of_choice = refl
