-- What an entry means.
use Rattle.std.specs.Prelude.{◌≡◌, ◌⊎◌, ◌==◌, ◌^◌, ℕ, ℤ, pos, negsuc, ◌<◌, ◌≤◌, Bool, true, false, ◌&&◌, ◌||◌}
use Rattle.std.specs.Prelude.{nat_lt, nat_eq, List, length, drop, codes, bytes_eq, Option, None, Some, Result, Ok}
use Rattle.std.specs.Prelude.{Err, IfOk, IfErr, MatchResult, if◌then◌else◌}
use Rattle.std.specs.List.{starts_with}
use Rattle.std.specs.Str.{all_ascii_digits}
use Rattle.std.specs.Str.Parse.{without_leading_sign, signed_digits_value}
use Rattle.ps_grid.specs.declared.refusal.Refusal.{Refusal}
use Rattle.ps_grid.specs.declared.refusal.Refusal.TheVariants as refusals
use Rattle.ps_value.specs.Label.{is_label}
use Rattle.ps_formula.specs.Tree.{Tree}
use Rattle.ps_formula.specs.Canonical.{canon}
use Rattle.ps_formula.specs.Formula.{HasTree}
use Rattle.ps_formula.specs.declared.formula.TheConstants.{LONGEST_ENTRY, LONGEST_TEXT}
use Rattle.ps_content.specs.declared.content.Content.{Content}
use Rattle.ps_content.specs.declared.content.Content.TheVariants.{Blank, Number, Text, Formula, Tally, Choice}

-- a number of 64 bits
abbrev pub fits_64 : ℤ → Bool
fits_64 (pos n) = nat_lt n (2 ^ 63)
fits_64 (negsuc n) = nat_lt n (2 ^ 63)

-- one or more digits, perhaps after a sign, whose number has 64 bits
unfoldable pub is_number : List ℕ → Bool
is_number bytes =
    let digits = without_leading_sign bytes in
    nat_lt 0 (length digits) && all_ascii_digits digits && fits_64 (signed_digits_value 10 bytes)

-- the bytes begin with `=` or `of:=`
unfoldable pub begins_formula : List ℕ → Bool
begins_formula bytes = starts_with nat_eq bytes (codes "=") || starts_with nat_eq bytes (codes "of:=")

-- the kinds of entries
pub data Kind : Type 0 where
  too_long empty formula tally choice : Kind
  number : ℤ → Kind
  text : List ℕ → Kind

-- the number that an entry spells, if it spells one
unfoldable pub number_of : List ℕ → Option ℤ
number_of bytes = if is_number bytes then Some (signed_digits_value 10 bytes) else None

-- an entry that is no number and no formula is a word or a text; one apostrophe in front is dropped
unfoldable pub word_of : List ℕ → Kind
word_of bytes =
    if bytes_eq bytes (codes "@tally") then tally
    else if bytes_eq bytes (codes "@choice") then choice
    else if starts_with nat_eq bytes (codes "'") then text (drop 1 bytes)
    else text bytes

-- the first line that fits decides
unfoldable pub kind_of : List ℕ → Kind
kind_of bytes =
    if nat_lt LONGEST_ENTRY (length bytes) then too_long
    else if length bytes == 0 then empty
    else if is_number bytes then number (signed_digits_value 10 bytes)
    else if begins_formula bytes then formula
    else word_of bytes

-- a formula entry is read as its formula by the grammar; it is refused if it is no formula, and if its canonical text
-- is too long
pub record ReadsFormula (bytes : List ℕ) (result : Result Content Refusal) : Type 0 where
  pub found : IfOk result (λ c. (tree : Tree) × (c ≡ Formula tree) × HasTree bytes tree
      × (length (canon tree) ≤ LONGEST_TEXT))
  pub read : (tree : Tree) → HasTree bytes tree → length (canon tree) ≤ LONGEST_TEXT
      → MatchResult result (λ c. c ≡ Formula tree) (λ e. e ≡ refusals.Memory)
  pub no_formula : result ≡ Err refusals.Formula → (tree : Tree) → ¬ (HasTree bytes tree)
  pub too_long : result ≡ Err refusals.TooLong
      → (tree : Tree) × HasTree bytes tree × (LONGEST_TEXT < length (canon tree))
  pub refused : IfErr result (λ e. (e ≡ refusals.Formula) ⊎ ((e ≡ refusals.TooLong) ⊎ (e ≡ refusals.Memory)))

-- a text entry is read as its text if that is a label, and is refused if it isn't
abbrev pub ReadsText : Bool → List ℕ → Result Content Refusal → Type 0
ReadsText true label result = MatchResult result (λ c. c ≡ Text label) (λ e. e ≡ refusals.Memory)
ReadsText false label result = result ≡ Err refusals.Text

-- reading an entry takes memory where it is a formula or a label
abbrev pub takes_memory : Kind → Bool
takes_memory formula = true
takes_memory (text label) = is_label label
takes_memory _ = false

-- what an entry of a kind is read as
abbrev pub Reads : Kind → List ℕ → Result Content Refusal → Type 0
Reads too_long bytes result = result ≡ Err refusals.TooLong
Reads empty bytes result = result ≡ Ok Blank
Reads (number value) bytes result = result ≡ Ok (Number value)
Reads formula bytes result = ReadsFormula bytes result
Reads tally bytes result = result ≡ Ok Tally
Reads choice bytes result = result ≡ Ok Choice
Reads (text label) bytes result = ReadsText (is_label label) label result
