-- The name of a cell is one word, and so are the digits of a number.
use Rattle.std.proofs.Common.{◌≡◌, ◌<◌, ◌≤◌, ◌==◌, ◌-◌, ◌/◌, ◌%◌, ◌^◌, ℕ, false, List, [], ◌∷◌, ⊎_elim}
use Rattle.std.proofs.Common.{sym, subst, arith}
use Rattle.std.proofs.lemmas.Bool.{cases_lt, ne_eqb}
use Rattle.std.proofs.lemmas.Fmt.{decimal_is_IsNumeral}
use Rattle.std.proofs.lemmas.List.Elements.{All-append, All-cons, All-nil}
use Rattle.std.proofs.lemmas.List.Splits.{slice_split_none}
use Rattle.std.proofs.lemmas.Str.Parse.{digit_from_value}
use Rattle.std.specs.Fmt.{decimal}
use Rattle.std.specs.List.{All}
use Rattle.std.specs.Str.Parse.{AllDigits}
use Rattle.ps_grid.specs.Place.{cell_name, column_name, column_of, letter_of, row_of}
use Rattle.ps_grid.specs.declared.size.TheConstants.{CELLS, LETTERS}
use Rattle.ps_grid.proofs.NameLemmas.{column_name-one, column_name-two}
use Rattle.ps_lines.specs.Words.{words}

abbrev IsNoSpace : ℕ → Type 0
IsNoSpace b = (b == 32) ≡ false

letter : (k : ℕ) → IsNoSpace (letter_of k)
letter k = ne_eqb (letter_of k) 32 (λ e. omega (arith, e))

letters : (k : ℕ) → All IsNoSpace (column_name k)
letters k =
    ⊎_elim
    (λ (one : k < LETTERS). subst (All IsNoSpace) (sym (column_name-one k one))
    (All-cons IsNoSpace _ [] (letter k) (All-nil IsNoSpace)))
    (λ (two : LETTERS ≤ k). subst (All IsNoSpace) (sym (column_name-two k two))
    (All-cons IsNoSpace _ (letter_of (k % LETTERS) ∷ []) (letter (k / LETTERS - 1))
    (All-cons IsNoSpace _ [] (letter (k % LETTERS)) (All-nil IsNoSpace))))
    (cases_lt k LETTERS)

digits : (ds : List ℕ) → AllDigits 10 ds → All IsNoSpace ds
digits [] all = All-nil IsNoSpace
digits (d ∷ ds) all =
    let range = digit_from_value d all.0 in
    All-cons IsNoSpace d ds (ne_eqb d 32 (λ e. omega (arith, e, range))) (digits ds all.1)

name : (c : ℕ) → c < CELLS → All IsNoSpace (cell_name c)
name c below =
    All-append IsNoSpace (column_name (column_of c)) (decimal (row_of c)) (letters (column_of c))
    (digits (decimal (row_of c)) (decimal_is_IsNumeral (row_of c) (omega (arith, below))).0.1)

-- a text that names a cell is one word
pub name_is_word : (text : List ℕ) (c : ℕ) → c < CELLS → text ≡ cell_name c → words text ≡ text ∷ []
name_is_word text c below is =
    slice_split_none (λ b. b == 32) text (subst (All IsNoSpace) (sym is) (name c below))

pub number_is_word : (n : ℕ) → n < 2 ^ 64 → words (decimal n) ≡ decimal n ∷ []
number_is_word n fits =
    slice_split_none (λ b. b == 32) (decimal n) (digits (decimal n) (decimal_is_IsNumeral n fits).0.1)
