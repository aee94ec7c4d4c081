-- The words of a line. Each single space ends a word, so a word may be empty.
use Rattle.std.specs.Prelude.{ℕ, ◌^◌, ◌==◌, Bool, ◌&&◌, nat_lt, List, length, Option, Some, None, if◌then◌else◌}
use Rattle.std.specs.Char.{is_ascii_digit}
use Rattle.std.specs.List.{after_first, before_first, list_all, slice_split}
use Rattle.std.specs.Str.Parse.{digits_value}

-- a text divided at each separator
abbrev pub parts : ℕ → List ℕ → List (List ℕ)
parts separator text = slice_split (λ b. b == separator) text

abbrev pub first_part : ℕ → List ℕ → List ℕ
first_part separator text = before_first (λ b. b == separator) text

-- all after the first separator, with any later ones
abbrev pub after_part : ℕ → List ℕ → List ℕ
after_part separator text = after_first (λ b. b == separator) text

-- .. at each space
abbrev pub words : List ℕ → List (List ℕ)
words line = parts 32 line

abbrev pub first_word : List ℕ → List ℕ
first_word line = first_part 32 line

abbrev pub after_word : List ℕ → List ℕ
after_word line = after_part 32 line

-- one or more decimal digits, whose number has at most 64 bits
unfoldable pub is_whole : List ℕ → Bool
is_whole word = list_all is_ascii_digit word && nat_lt 0 (length word) && nat_lt (digits_value 10 word) (2 ^ 64)

-- the number that a word of decimal digits stands for
unfoldable pub whole_number : List ℕ → Option ℕ
whole_number word = if is_whole word then Some (digits_value 10 word) else None
