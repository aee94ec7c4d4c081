-- Reading the longest token at the front of a text. What a token is stands in `Text`, not here: the code is proved
-- equal to this reading, and laws in proofs/ tie it to `IsToken` on both sides.
use Rattle.std.specs.Prelude.{ℕ, ◌^◌, ◌&&◌, ◌==◌, List, Option, Some, None, pos, nat_lt}
use Rattle.std.specs.Prelude.{take, drop, slice_index, option_and_then, if◌then◌else◌}
use Rattle.std.specs.Char.{is_ascii_digit, is_ascii_uppercase, is_ascii_alphabetic}
use Rattle.std.specs.Fmt.{decimal}
use Rattle.std.specs.List.{find, prefix_len, range_with_len}
use Rattle.std.specs.Option.{option_map, option_or}
use Rattle.std.specs.Str.{bytes_eq, str_eq_ignore_ascii_case}
use Rattle.std.specs.Str.Parse.{digits_value}
use Rattle.ps_grid.specs.Place.{column_name, column_of, row_of}
use Rattle.ps_grid.specs.Rectangle.{spanned}
use Rattle.ps_grid.specs.declared.size.TheConstants.{CELLS}
use Rattle.ps_tokens.specs.Names.{function_name}
use Rattle.ps_tokens.specs.declared.token.TheConstants.{FUNCTIONS}
use Rattle.ps_tokens.specs.declared.token.Function.{Function}
use Rattle.ps_tokens.specs.declared.token.Operator.{Operator}
use Rattle.ps_tokens.specs.declared.token.Operator.TheVariants.{Plus, Minus, Times, Equal, NotEqual, Less}
use Rattle.ps_tokens.specs.declared.token.Operator.TheVariants.{LessOrEqual, Greater, GreaterOrEqual}
use Rattle.ps_tokens.specs.declared.token.Token.{Token}
use Rattle.ps_tokens.specs.declared.token.Token.TheVariants.{Numeral, Reference, Range, Name, Symbol, Open, Close}
use Rattle.ps_tokens.specs.declared.token.Token.TheVariants.{Separator}

-- the text after its first byte, if that is b
unfoldable pub after : ℕ → List ℕ → Option (List ℕ)
after b s = if slice_index s 0 == b then Some (drop 1 s) else None

-- the text without a `$` at its front
unfoldable pub unmarked : List ℕ → List ℕ
unmarked s = if slice_index s 0 == 36 then drop 1 s else s

-- how many digits, and how many letters, stand at the front
abbrev pub digits_at : List ℕ → ℕ
digits_at s = prefix_len is_ascii_digit s

-- how many capital letters stand at the front, at most two
abbrev pub capitals_at : List ℕ → ℕ
capitals_at s = prefix_len is_ascii_uppercase (take 2 s)

abbrev pub letters_at : List ℕ → ℕ
letters_at s = prefix_len is_ascii_alphabetic s

-- the number that the digits stand for, if it is below 2 ^ 63
unfoldable pub number_in : List ℕ → Option ℕ
number_in w = if nat_lt (digits_value 10 w) (2 ^ 63) then Some (digits_value 10 w) else None

-- the first cell below n whose column has these letters and whose row has these digits
unfoldable pub cell_below : ℕ → List ℕ → List ℕ → Option ℕ
cell_below n letters digits =
    find (λ c. bytes_eq letters (column_name (column_of c)) && bytes_eq digits (decimal (row_of c)))
    (range_with_len 0 n)

-- the cell of the grid that letters and digits name
unfoldable pub cell_in : List ℕ → List ℕ → Option ℕ
cell_in letters digits = cell_below CELLS letters digits

-- the corner at the front, and what stands after it
unfoldable pub corner_at : List ℕ → Option (ℕ × List ℕ)
corner_at s =
    let t = unmarked s in
    let u = unmarked (drop (capitals_at t) t) in
    option_map (λ c. (c, drop (digits_at u) u)) (cell_in (take (capitals_at t) t) (take (digits_at u) u))

-- the range at the front, after its `[.` and its first corner were read
unfoldable pub range_at : ℕ → List ℕ → Option (Token × List ℕ)
range_at c s =
    option_and_then
    (λ t.
    option_and_then
    (λ u.
    option_and_then
    (λ p. option_map (λ v. (Range (spanned c p.0), v)) (after 93 p.1))
    (corner_at u))
    (after 46 t))
    (after 58 s)

-- the reference at the front, after its `[.` and its corner were read
unfoldable pub reference_at : ℕ → List ℕ → Option (Token × List ℕ)
reference_at c s = option_map (λ t. (Reference c, t)) (after 93 s)

-- the reference or the range at the front, after its `[` was read
unfoldable pub bracketed_at : List ℕ → Option (Token × List ℕ)
bracketed_at s =
    option_and_then
    (λ t.
    option_and_then (λ p. option_or (reference_at p.0 p.1) (range_at p.0 p.1)) (corner_at t))
    (after 46 s)

-- the numeral at the front
unfoldable pub numeral_at : List ℕ → Option (Token × List ℕ)
numeral_at s = option_map (λ n. (Numeral (pos n), drop (digits_at s) s)) (number_in (take (digits_at s) s))

-- the function with this name, in any mix of cases
unfoldable pub function_of : List ℕ → Option Function
function_of w = find (λ f. str_eq_ignore_ascii_case w (function_name f)) FUNCTIONS

-- the name of a function at the front
unfoldable pub name_at : List ℕ → Option (Token × List ℕ)
name_at s = option_map (λ f. (Name f, drop (letters_at s) s)) (function_of (take (letters_at s) s))

-- the operator that is written with these two bytes
unfoldable pub operator_of_two : ℕ → ℕ → Option Operator
operator_of_two a b =
    if a == 60 && b == 62 then Some NotEqual
    else (if a == 60 && b == 61 then Some LessOrEqual
    else (if a == 62 && b == 61 then Some GreaterOrEqual
    else None))

-- the operator, parenthesis or separator that is written with this byte
unfoldable pub token_of_one : ℕ → Option Token
token_of_one a =
    if a == 43 then Some (Symbol Plus)
    else (if a == 45 then Some (Symbol Minus)
    else (if a == 42 then Some (Symbol Times)
    else (if a == 61 then Some (Symbol Equal)
    else (if a == 60 then Some (Symbol Less)
    else (if a == 62 then Some (Symbol Greater)
    else (if a == 40 then Some Open
    else (if a == 41 then Some Close
    else (if a == 59 then Some Separator
    else None))))))))

-- the sign at the front; an operator of two bytes is preferred
unfoldable pub sign_at : List ℕ → Option (Token × List ℕ)
sign_at s =
    option_or
    (option_map (λ x. (Symbol x, drop 2 s)) (operator_of_two (slice_index s 0) (slice_index s 1)))
    (option_map (λ x. (x, drop 1 s)) (token_of_one (slice_index s 0)))

-- the token at the front, and what stands after it
unfoldable pub token_at : List ℕ → Option (Token × List ℕ)
token_at s =
    if is_ascii_digit (slice_index s 0) then numeral_at s
    else (if is_ascii_alphabetic (slice_index s 0) then name_at s
    else (if slice_index s 0 == 91 then bracketed_at (drop 1 s)
    else sign_at s))
