-- The column that one letter names, or two.
use Rattle.std.proofs.Common.{◌≡◌, ℕ, ◌+◌, ◌*◌, ◌/◌, ◌%◌, ◌-◌, ◌<◌, ◌≤◌, ◌↔◌, List, [], ◌∷◌, length, get_or, sym}
use Rattle.std.proofs.Common.{Option, Some, None, ap, subst, ◌∙◌, arith}
use Rattle.ps_grid.specs.declared.size.TheConstants.{LETTERS}
use Rattle.ps_grid.specs.Place.{letter_of, column_name}
use Rattle.ps_grid.proofs.NameLemmas.{named_by_one, named_by_two, one_letter, two_letters}

-- the option has the number of the letter, if it is one
abbrev pub HasNumber : Option ℕ → ℕ → Type 0
HasNumber o b = (n : ℕ) → (o ≡ Some n) ↔ ((n < LETTERS) × (b ≡ letter_of n))

-- the option has the column that the letters name, if they name one
abbrev pub HasColumn : Option ℕ → List ℕ → Type 0
HasColumn o w = (k : ℕ) → (o ≡ Some k) ↔ ((k < LETTERS + LETTERS * LETTERS) × (w ≡ column_name k))

pub column_of_one : (w : List ℕ) (o : Option ℕ) → 1 ≤ length w → length w < 2 → HasNumber o (get_or w 0 0)
    → HasColumn o w
column_of_one [] o some few number k = absurd (omega arith)
column_of_one (b ∷ []) o some few number k = (
  λ e. let f = (number k).0 e in let small = f.0 in (omega arith, named_by_one b k f.0 f.1),
  λ h. (number k).1 (one_letter 0 b k h.1),
)
column_of_one (b ∷ c ∷ w) o some few number k = absurd (omega arith)

pub no_first : (w : List ℕ) (o r : Option ℕ) → 2 ≤ length w → length w < 3 → HasNumber o (get_or w 0 0)
    → o ≡ None → r ≡ None → HasColumn r w
no_first [] o r some few first none is k = absurd (omega arith)
no_first (a ∷ []) o r some few first none is k = absurd (omega arith)
no_first (a ∷ b ∷ []) o r some few first none is k = (
  λ e. absurd (let f : Some k ≡ None = sym e ∙ is in cc),
  λ h.
      let names = two_letters a b k h.1 in
      let small = h.0 in
      let large = names.0 in
      let found : o ≡ Some (k / LETTERS - 1) = (first (k / LETTERS - 1)).1 (omega arith, names.1) in
      absurd (let f : None ≡ Some (k / LETTERS - 1) = sym none ∙ found in cc),
)
no_first (a ∷ b ∷ c ∷ w) o r some few first none is k = absurd (omega arith)

pub no_last : (w : List ℕ) (o r : Option ℕ) → 2 ≤ length w → length w < 3 → HasNumber o (get_or w 1 0)
    → o ≡ None → r ≡ None → HasColumn r w
no_last [] o r some few last none is k = absurd (omega arith)
no_last (a ∷ []) o r some few last none is k = absurd (omega arith)
no_last (a ∷ b ∷ []) o r some few last none is k = (
  λ e. absurd (let f : Some k ≡ None = sym e ∙ is in cc),
  λ h.
      let names = two_letters a b k h.1 in
      let found : o ≡ Some (k % LETTERS) = (last (k % LETTERS)).1 (omega arith, names.2) in
      absurd (let f : None ≡ Some (k % LETTERS) = sym none ∙ found in cc),
)
no_last (a ∷ b ∷ c ∷ w) o r some few last none is k = absurd (omega arith)

pub column_of_two : (w : List ℕ) (o p : Option ℕ) (m n : ℕ) → 2 ≤ length w → length w < 3
    → HasNumber o (get_or w 0 0) → HasNumber p (get_or w 1 0) → o ≡ Some m → p ≡ Some n
    → HasColumn (Some ((m + 1) * LETTERS + n)) w
column_of_two [] o p m n some few first last is_m is_n k = absurd (omega arith)
column_of_two (a ∷ []) o p m n some few first last is_m is_n k = absurd (omega arith)
column_of_two (a ∷ b ∷ []) o p m n some few first last is_m is_n k =
    let f = (first m).0 is_m in
    let l = (last n).0 is_n in
    let small_m = f.0 in
    let small_n = l.0 in
    let name = named_by_two a b m n f.0 l.0 f.1 l.1 in (
      λ e. let same : (m + 1) * LETTERS + n ≡ k = cc in
          (omega arith, subst (λ x. a ∷ b ∷ [] ≡ column_name x) same name),
      λ h.
          let names = two_letters a b k h.1 in
          let large = names.0 in
          let first_is = names.1 in
          let last_is = names.2 in
          let letter_m = f.1 in
          let letter_n = l.1 in
          ap Some (omega arith),
    )
column_of_two (a ∷ b ∷ c ∷ w) o p m n some few first last is_m is_n k = absurd (omega arith)
