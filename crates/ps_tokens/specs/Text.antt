-- How tokens are spelled, in the notation of OpenFormula (ISO/IEC 26300-2, also published by OASIS as
-- OpenDocument 1.2 part 2): numerals of digits, references `[.A1]`, ranges `[.A1:.B3]`, names in any case,
-- `;` between arguments. A token means a value, so it may be spelled in several ways.
use Rattle.std.specs.Prelude.{◌≡◌, ℕ, ◌^◌, ◌<◌, Bool, true, false, ◌||◌, ◌==◌, List, [], ◌∷◌, ◌++◌, pos, ℤ, codes}
use Rattle.std.specs.Fmt.{decimal, signed_decimal}
use Rattle.std.specs.List.{flat_map}
use Rattle.std.specs.Str.{str_to_ascii_lowercase}
use Rattle.std.specs.Str.Parse.{IsNumeral, digits_value}
use Rattle.ps_grid.specs.Place.{cell_name, column_name, column_of, row_of}
use Rattle.ps_grid.specs.Rectangle.{Area, first_cell, last_cell, spanned}
use Rattle.ps_grid.specs.declared.size.TheConstants.{CELLS}
use Rattle.ps_tokens.specs.Names.{function_name, operator_text}
use Rattle.ps_tokens.specs.declared.token.Token.{Token}
use Rattle.ps_tokens.specs.declared.token.Token.TheVariants.{Numeral, Reference, Range, Name, Symbol, Open, Close}
use Rattle.ps_tokens.specs.declared.token.Token.TheVariants.{Separator}

-- a blank: space, tab, line feed, carriage return
abbrev pub is_blank : ℕ → Bool
is_blank b = ((b == 32 || b == 9) || b == 10) || b == 13

-- `$` if a column or a row is marked as fixed, else nothing
abbrev pub mark : Bool → List ℕ
mark true = codes "$"
mark false = []

-- a corner: the letters of a cell's column and its row in decimal, each with or without `$` before it
pub record IsCorner (w : List ℕ) (c : ℕ) : Type 0 where
  pub column_fixed : Bool
  pub row_fixed : Bool
  pub in_grid : c < CELLS
  pub text : w ≡ mark column_fixed ++ (column_name (column_of c) ++ (mark row_fixed ++ decimal (row_of c)))

-- a whole number in decimal, leading zeros allowed
pub record IsNumber (w : List ℕ) (z : ℤ) : Type 0 where
  pub digits : IsNumeral 10 w
  pub small : digits_value 10 w < 2 ^ 63
  pub value : z ≡ pos (digits_value 10 w)

-- one corner in brackets
pub record IsReference (w : List ℕ) (c : ℕ) : Type 0 where
  pub corner : List ℕ
  pub is_corner : IsCorner corner c
  pub text : w ≡ codes "[." ++ (corner ++ codes "]")

-- two corners in brackets, opposite ones of the rectangle in any order
pub record IsRange (w : List ℕ) (a : Area) : Type 0 where
  pub first : List ℕ
  pub second : List ℕ
  pub from : ℕ
  pub to : ℕ
  pub is_first : IsCorner first from
  pub is_second : IsCorner second to
  pub rectangle : a ≡ spanned from to
  pub text : w ≡ codes "[." ++ (first ++ (codes ":." ++ (second ++ codes "]")))

-- w is a spelling of the token
abbrev pub IsToken : List ℕ → Token → Type 0
IsToken w (Numeral z) = IsNumber w z
IsToken w (Reference c) = IsReference w c
IsToken w (Range a) = IsRange w a
IsToken w (Name f) = str_to_ascii_lowercase w ≡ str_to_ascii_lowercase (function_name f)
IsToken w (Symbol x) = w ≡ operator_text x
IsToken w Open = w ≡ codes "("
IsToken w Close = w ≡ codes ")"
IsToken w Separator = w ≡ codes ";"

-- the text spells the tokens, one after another, with any blanks before, between and after them
pub data Spells : List ℕ → List Token → Type 0 where
  nothing : Spells [] []
  a_blank : {b : ℕ} {s : List ℕ} {ts : List Token} → is_blank b ≡ true → Spells s ts → Spells (b ∷ s) ts
  a_token : (w : List ℕ) {s : List ℕ} {x : Token} {ts : List Token} → IsToken w x → Spells s ts
      → Spells (w ++ s) (x ∷ ts)

-- the canonical spelling: no leading zeros, no `$`, corners at the top left and the bottom right, upper case
abbrev pub token_text : Token → List ℕ
token_text (Numeral z) = signed_decimal z
token_text (Reference c) = codes "[." ++ (cell_name c ++ codes "]")
token_text
    (Range a) = codes "[." ++ (cell_name (first_cell a) ++ (codes ":." ++ (cell_name (last_cell a) ++ codes "]")))
token_text (Name f) = function_name f
token_text (Symbol x) = operator_text x
token_text Open = codes "("
token_text Close = codes ")"
token_text Separator = codes ";"

-- the canonical spelling of a list of tokens, without blanks
abbrev pub tokens_text : List Token → List ℕ
tokens_text ts = flat_map token_text ts
