-- Which tokens may stand side by side. A formula's definition doesn't need this. A text is read from the left, the
-- longest token first. This reading finds every list of tokens in which no two neighbours could be read as one longer
-- token. In a formula no such neighbours stand.
use Rattle.std.specs.Prelude.{◌≡◌, Bool, true, false, List, [], ◌∷◌}
use Rattle.ps_tokens.specs.declared.token.Token.{Token}
use Rattle.ps_tokens.specs.declared.token.Token.TheVariants.{Numeral, Name, Symbol}
use Rattle.ps_tokens.specs.declared.token.Operator.{Operator}
use Rattle.ps_tokens.specs.declared.token.Operator.TheVariants.{Equal, Less, Greater, GreaterOrEqual}

-- whether two operator signs, one after the other, begin like one longer operator
abbrev pub signs_join : Operator → Operator → Bool
signs_join Less Equal = true
signs_join Less Greater = true
signs_join Less GreaterOrEqual = true
signs_join Greater Equal = true
signs_join _ _ = false

-- whether two neighbours could be read as one token: digits with digits, letters with letters, signs with signs
abbrev pub join : Token → Token → Bool
join (Numeral _) (Numeral _) = true
join (Name _) (Name _) = true
join (Symbol x) (Symbol y) = signs_join x y
join _ _ = false

-- the token couldn't be read as one token with the first of those after it
abbrev pub IsApart : Token → List Token → Type 0
IsApart x [] = Unit {0}
IsApart x (y ∷ ts) = join x y ≡ false

-- no two neighbours could be read as one token
abbrev pub AreApart : List Token → Type 0
AreApart [] = Unit {0}
AreApart (x ∷ ts) = IsApart x ts × AreApart ts
