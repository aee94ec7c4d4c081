-- What a cell's register holds, and its canonical text.
use Rattle.std.specs.Prelude.{FitsSigned, ℕ, ◌≤◌, List, [], ◌++◌, length, codes}
use Rattle.std.specs.Fmt.{signed_decimal}
use Rattle.std.specs.Int.{w64}
use Rattle.ps_value.specs.Label.{IsLabel}
use Rattle.ps_formula.specs.Canonical.{canon}
use Rattle.ps_formula.specs.Formula.{HasTree}
use Rattle.ps_formula.specs.declared.formula.TheConstants.{LONGEST_TEXT}
use Rattle.ps_content.specs.declared.content.Content.{Content}
use Rattle.ps_content.specs.declared.content.Content.TheVariants.{Blank, Number, Text, Formula, Tally, Choice}

-- the one text of a content
abbrev pub canonical_text : Content → List ℕ
canonical_text Blank = []
canonical_text (Number number) = signed_decimal number
canonical_text (Text label) = codes "'" ++ label
canonical_text (Formula tree) = canon tree
canonical_text Tally = codes "@tally"
canonical_text Choice = codes "@choice"

-- the contents that are allowed: a number has 64 bits, a text is a label, a formula is one by the grammar and not too
-- long
abbrev pub IsContent : Content → Type 0
IsContent (Number number) = FitsSigned w64 number
IsContent (Text label) = IsLabel label
IsContent (Formula tree) = HasTree (canon tree) tree × (length (canon tree) ≤ LONGEST_TEXT)
IsContent _ = Unit {0}
