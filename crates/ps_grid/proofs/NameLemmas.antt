-- The names of cells: how long a row's text is, and what is written where.
use Rattle.std.proofs.Common.{◌≡◌, ℕ, ◌+◌, ◌-◌, ◌/◌, ◌%◌, ◌^◌, ◌<◌, ◌≤◌, List, [], ◌∷◌, length, take, slice_set}
use Rattle.std.proofs.Common.{refl, ap, ◌∙◌}
use Rattle.std.proofs.Common.{arith, length-append}
use Rattle.std.proofs.lemmas.Grind.{common_steps}
use Rattle.std.proofs.Common.{Bool, zero, suc, ◌*◌, ◌++◌, drop, take_while, cond, true, false, sym, ⊎_elim}
use Rattle.std.specs.List.{list_all}
use Rattle.std.proofs.lemmas.Bool.{and_from, cases_lt}
use Rattle.std.specs.Char.{is_ascii_uppercase}
use Rattle.std.specs.Str.Parse.{AllDigits}
use Rattle.std.proofs.lemmas.Str.Parse.{digit_from_value}
use Rattle.std.proofs.lemmas.List.Sums.{take_while-cons}
use Rattle.std.proofs.Math.Seq.{take-append_seam, drop-append_seam}
use Rattle.std.specs.Fmt.{decimal}
use Rattle.std.proofs.lemmas.Fmt.{length-decimal-le, decimal_nonempty}
use Rattle.std.proofs.Common.{◌⊎◌, inl, inr}
use Rattle.std.proofs.lemmas.Fmt.{decimal_injective, decimal_is_IsNumeral, decimal_digit, decimal_step}
use Rattle.ps_grid.specs.declared.size.TheConstants.{CELLS, COLUMNS, LETTERS, NAME_BYTES, ROWS}
use Rattle.ps_grid.specs.Place.{letter_of, column_name, cell_name, column_of, row_of}

pub length-decimal-one : (n : ℕ) → n < 10 → length (decimal n) ≡ 1
length-decimal-one n h = ap length (decimal_digit n h)

pub length-decimal-more : (n : ℕ) → 10 ≤ n → n < 2 ^ 64 → length (decimal n) ≡ length (decimal (n / 10)) + 1
length-decimal-more n low high =
    ap length (decimal_step n low high) ∙ length-append (decimal (n / 10)) ((48 + n % 10) ∷ [])

pub take-two : (xs : List ℕ) (a b : ℕ) → 2 ≤ length xs → take 2 (slice_set (slice_set xs 0 a) 1 b) ≡ a ∷ b ∷ []
take-two [] a b h = absurd (omega arith)
take-two (x ∷ []) a b h = absurd (omega arith)
take-two (x ∷ y ∷ xs) a b h = refl

pub column_name-two : (column : ℕ) → LETTERS ≤ column
    → column_name column ≡ letter_of (column / LETTERS - 1) ∷ letter_of (column % LETTERS) ∷ []
column_name-two column h = grind (arith, common_steps)

pub column_name-one : (column : ℕ) → column < LETTERS → column_name column ≡ letter_of column ∷ []
column_name-one column h = grind (arith, common_steps)

-- the column that one letter names, and the one that two letters name
module _ (a b k : ℕ) where
  pub one_letter : b ∷ [] ≡ column_name k → (k < LETTERS) × (b ≡ letter_of k)
  one_letter e =
      ⊎_elim
      (λ (one : k < LETTERS). (one, let f = e ∙ column_name-one k one in cc))
      (λ (two : LETTERS ≤ k). absurd (let f = e ∙ column_name-two k two in cc))
      (cases_lt k LETTERS)

  pub two_letters : a ∷ b ∷ [] ≡ column_name k
      → (LETTERS ≤ k) × (a ≡ letter_of (k / LETTERS - 1)) × (b ≡ letter_of (k % LETTERS))
  two_letters e =
      ⊎_elim
      (λ (one : k < LETTERS). absurd (let f = e ∙ column_name-one k one in cc))
      (λ (two : LETTERS ≤ k). let f = e ∙ column_name-two k two in (two, cc, cc))
      (cases_lt k LETTERS)

-- the names of columns have one letter or two
pub length-column_name : (k : ℕ) → (length (column_name k) ≡ 1) ⊎ (length (column_name k) ≡ 2)
length-column_name k =
    ⊎_elim
    (λ one. inl (ap length (column_name-one k one)))
    (λ two. inr (ap length (column_name-two k two)))
    (cases_lt k LETTERS)

pub named_by_one : (b k : ℕ) → k < LETTERS → b ≡ letter_of k → b ∷ [] ≡ column_name k
named_by_one b k small is = ap (λ x. x ∷ []) is ∙ sym (column_name-one k small)

pub named_by_two : (a b m n : ℕ) → m < LETTERS → n < LETTERS → a ≡ letter_of m → b ≡ letter_of n
    → a ∷ b ∷ [] ≡ column_name ((m + 1) * LETTERS + n)
named_by_two a b m n ml nl first last =
    let over : m ≡ ((m + 1) * LETTERS + n) / LETTERS - 1 = omega arith in
    let rest : n ≡ ((m + 1) * LETTERS + n) % LETTERS = omega arith in
    (λ i. (first ∙ ap letter_of over) i ∷ (last ∙ ap letter_of rest) i ∷ [])
    ∙ sym (column_name-two ((m + 1) * LETTERS + n) (omega arith))

-- how long a cell's name is
pub length-cell_name : (c : ℕ) → c < CELLS → length (cell_name c) ≤ NAME_BYTES
length-cell_name c below =
    let letters = length-column_name (column_of c) in
    let digits = length-decimal-le 4 (row_of c) (omega arith) (omega arith) (omega arith) in
    let both = length-append (column_name (column_of c)) (decimal (row_of c)) in
    ⊎_elim (λ one. omega (arith, one, digits, both)) (λ two. omega (arith, two, digits, both)) letters

pub two-cell_name : (c : ℕ) → c < CELLS → 2 ≤ length (cell_name c)
two-cell_name c below =
    let letters = length-column_name (column_of c) in
    let digits = decimal_nonempty (row_of c) (omega arith) in
    let both = length-append (column_name (column_of c)) (decimal (row_of c)) in
    ⊎_elim (λ one. omega (arith, one, digits, both)) (λ two. omega (arith, two, digits, both)) letters

is_letter : (k : ℕ) → k < LETTERS → is_ascii_uppercase (letter_of k) ≡ true
is_letter k h = grind (arith, common_steps)

-- the names of columns have letters alone, and at least one
pub some_letter : (k : ℕ) → 0 < length (column_name k)
some_letter k = ⊎_elim (λ one. omega (arith, one)) (λ two. omega (arith, two)) (length-column_name k)

pub all_letters : (k : ℕ) → k < COLUMNS → list_all is_ascii_uppercase (column_name k) ≡ true
all_letters k below =
    ⊎_elim
    (λ (one : k < LETTERS).
    ap (list_all is_ascii_uppercase) (column_name-one k one) ∙ and_from _ _ (is_letter k one) refl)
    (λ (two : LETTERS ≤ k).
    ap (list_all is_ascii_uppercase) (column_name-two k two)
    ∙ and_from _ _ (is_letter (k / LETTERS - 1) (omega arith))
    (and_from _ _ (is_letter (k % LETTERS) (omega arith)) refl))
    (cases_lt k LETTERS)

-- digits are no letters
take_while-digits : (ds : List ℕ) → AllDigits 10 ds → take_while is_ascii_uppercase ds ≡ []
take_while-digits [] h = refl
take_while-digits (d ∷ ds) h =
    let range = digit_from_value d h.0 in
    let none : is_ascii_uppercase d ≡ false = grind (arith, common_steps) in
    take_while-cons is_ascii_uppercase d ds ∙ ap (λ b. cond b (d ∷ take_while is_ascii_uppercase ds) []) none

-- the letters of a name end where no letter follows
take_while-letter : (x : ℕ) (xs ys : List ℕ) → is_ascii_uppercase x ≡ true → take_while is_ascii_uppercase xs ≡ ys
    → take_while is_ascii_uppercase (x ∷ xs) ≡ x ∷ ys
take_while-letter x xs ys up rest =
    take_while-cons is_ascii_uppercase x xs ∙ (λ i. cond (up i) (x ∷ rest i) [])

take_while-name : (column : ℕ) → column < COLUMNS → (ys : List ℕ) → take_while is_ascii_uppercase ys ≡ []
    → take_while is_ascii_uppercase (column_name column ++ ys) ≡ column_name column
take_while-name column below ys none =
    ⊎_elim
    (λ (one : column < LETTERS).
    let name = column_name-one column one in
    ap (λ l. take_while is_ascii_uppercase (l ++ ys)) name
    ∙ take_while-letter (letter_of column) ys [] (is_letter column one) none
    ∙ sym name)
    (λ (two : LETTERS ≤ column).
    let name = column_name-two column two in
    ap (λ l. take_while is_ascii_uppercase (l ++ ys)) name
    ∙ take_while-letter (letter_of (column / LETTERS - 1)) (letter_of (column % LETTERS) ∷ ys)
    (letter_of (column % LETTERS) ∷ []) (is_letter (column / LETTERS - 1) (omega arith))
    (take_while-letter (letter_of (column % LETTERS)) ys [] (is_letter (column % LETTERS) (omega arith)) none)
    ∙ sym name)
    (cases_lt column LETTERS)

-- no two columns have one name
abbrev column_number : List ℕ → ℕ
column_number [] = 0
column_number (x ∷ []) = x - 65
column_number (x ∷ y ∷ rest) = (x - 64) * LETTERS + (y - 65)

column_number-name : (column : ℕ) → column < COLUMNS → column_number (column_name column) ≡ column
column_number-name column below =
    ⊎_elim
    (λ (one : column < LETTERS). ap column_number (column_name-one column one) ∙ omega arith)
    (λ (two : LETTERS ≤ column). ap column_number (column_name-two column two) ∙ omega arith)
    (cases_lt column LETTERS)

pub column_name-injective : (c d : ℕ) → c < COLUMNS → d < COLUMNS → column_name c ≡ column_name d → c ≡ d
column_name-injective c d below under same =
    sym (column_number-name c below) ∙ ap column_number same ∙ column_number-name d under

-- the text of a cell is the letters that it begins with, and its digits
module _ (c : ℕ) (below : c < CELLS) (text : List ℕ) (is : text ≡ cell_name c) (n : ℕ)
    (counted : n ≡ length (take_while is_ascii_uppercase text)) where
  pub column_below : column_of c < COLUMNS
  column_below = omega arith

  pub row_below : row_of c ≤ ROWS
  row_below = omega (arith, below)

  no_letter : take_while is_ascii_uppercase (decimal (row_of c)) ≡ []
  no_letter =
      take_while-digits (decimal (row_of c)) (decimal_is_IsNumeral (row_of c) (omega (arith, row_below))).0.1

  letters_long : n ≡ length (column_name (column_of c))
  letters_long =
      counted
      ∙ ap (λ t. length (take_while is_ascii_uppercase t)) is
      ∙ ap length (take_while-name (column_of c) column_below (decimal (row_of c)) no_letter)

  pub letters_are : take n text ≡ column_name (column_of c)
  letters_are =
      (λ i. take (letters_long i) (is i)) ∙ take-append_seam (column_name (column_of c)) (decimal (row_of c))

  pub digits_are : drop n text ≡ decimal (row_of c)
  digits_are =
      (λ i. drop (letters_long i) (is i))
      ∙ drop-append_seam (column_name (column_of c)) (decimal (row_of c))

-- the first n items have as many in front that pass the test as all items, if that is at most n
length-take_while-take : (test : ℕ → Bool) (n : ℕ) (xs : List ℕ) → length (take_while test xs) ≤ n
    → length (take_while test (take n xs)) ≡ length (take_while test xs)
length-take_while-take test zero xs few = omega (arith, few)
length-take_while-take test (suc n) [] few = refl
length-take_while-take test (suc n) (x ∷ xs) few = by (test x) refl (length-take_while-take test n xs)
  where
    by : (t : Bool) → test x ≡ t
        → (length (take_while test xs) ≤ n → length (take_while test (take n xs)) ≡ length (take_while test xs))
        → length (take_while test (x ∷ take n xs)) ≡ length (take_while test (x ∷ xs))
    by true is rest =
        let one = take_while-cons test x (take n xs) in
        let all = take_while-cons test x xs in
        let fewer : suc (length (take_while test xs)) ≤ suc n = rw (all, is) at few in
        rw (one, all, is) (ap suc (rest (omega (arith, fewer))))
    by false is rest = rw (take_while-cons test x (take n xs), take_while-cons test x xs, is) refl

-- the letters of a name are among its first two bytes
pub letters_of_two : (c : ℕ) → c < CELLS → (text : List ℕ) → text ≡ cell_name c → (n : ℕ)
    → n ≡ length (take_while is_ascii_uppercase (take 2 text)) → n ≡ length (take_while is_ascii_uppercase text)
letters_of_two c below text is n counted =
    let all = letters_long c below text is (length (take_while is_ascii_uppercase text)) refl in
    let short : length (column_name (column_of c)) ≤ 2 =
    ⊎_elim (λ one. omega (arith, one)) (λ two. omega (arith, two)) (length-column_name (column_of c)) in
    counted ∙ length-take_while-take is_ascii_uppercase 2 text (omega (arith, all, short))

-- no two cells have one name
pub cell_name-injective : (c d : ℕ) → c < CELLS → d < CELLS → cell_name c ≡ cell_name d → c ≡ d
cell_name-injective c d below under same =
    let n : ℕ = length (take_while is_ascii_uppercase (cell_name c)) in
    let columns : column_name (column_of c) ≡ column_name (column_of d) =
    sym (letters_are c below (cell_name c) refl n refl) ∙ letters_are d under (cell_name c) same n refl in
    let rows : decimal (row_of c) ≡ decimal (row_of d) =
    sym (digits_are c below (cell_name c) refl n refl) ∙ digits_are d under (cell_name c) same n refl in
    let down : row_of c ≡ row_of d =
    decimal_injective (row_of c) (row_of d) (omega arith) (omega arith) rows in
    let across = column_name-injective (column_of c) (column_of d) (omega arith) (omega arith) columns in
    omega (arith, down, across)
