-- The byte that a token begins with, and the bytes that it would go on in.
use Rattle.std.proofs.Common.{◌≡◌, ℕ, ◌==◌, Bool, true, false, ◌||◌, List, [], ◌∷◌, ◌++◌, drop, ℤ, refl, ◌∙◌, codes}
use Rattle.std.proofs.Common.{arith}
use Rattle.std.specs.Char.{is_ascii_digit, is_ascii_alphabetic}
use Rattle.std.specs.Int.{IsInRange}
use Rattle.std.proofs.lemmas.Bool.{and_parts}
use Rattle.std.proofs.lemmas.Bool.Decides.{nat_tests}
use Rattle.std.proofs.lemmas.Str.Parse.{digit_from_value}
use Rattle.ps_tokens.specs.Apart.{join, signs_join}
use Rattle.ps_tokens.specs.Names.{operator_text}
use Rattle.ps_tokens.specs.Text.{is_blank, IsToken}
use Rattle.ps_tokens.specs.declared.token.Function.{Function}
use Rattle.ps_tokens.specs.declared.token.Operator.{Operator}
use Rattle.ps_tokens.specs.declared.token.Operator.TheVariants.{Plus, Minus, Times, Equal, NotEqual, Less}
use Rattle.ps_tokens.specs.declared.token.Operator.TheVariants.{LessOrEqual, Greater, GreaterOrEqual}
use Rattle.ps_tokens.specs.declared.token.Token.{Token}
use Rattle.ps_tokens.specs.declared.token.Token.TheVariants.{Numeral, Reference, Range, Name, Symbol, Open, Close}
use Rattle.ps_tokens.specs.declared.token.Token.TheVariants.{Separator}
use Rattle.ps_tokens.proofs.OptionLemmas.{byte_is}
use Rattle.ps_tokens.proofs.NameLemmas.{name_letters, name_some}

-- the first byte of an operator
abbrev pub sign_head : Operator → ℕ
sign_head Plus = 43
sign_head Minus = 45
sign_head Times = 42
sign_head Equal = 61
sign_head NotEqual = 60
sign_head Less = 60
sign_head LessOrEqual = 60
sign_head Greater = 62
sign_head GreaterOrEqual = 62

-- the bytes that a token may begin with
abbrev pub head_of : Token → ℕ → Bool
head_of (Numeral _) b = is_ascii_digit b
head_of (Reference _) b = b == 91
head_of (Range _) b = b == 91
head_of (Name _) b = is_ascii_alphabetic b
head_of (Symbol x) b = b == sign_head x
head_of Open b = b == 40
head_of Close b = b == 41
head_of Separator b = b == 59

-- the bytes that an operator goes on in
abbrev pub sign_goes_on : Operator → ℕ → Bool
sign_goes_on Less b = b == 61 || b == 62
sign_goes_on Greater b = b == 61
sign_goes_on _ b = false

-- the bytes that a token goes on in
abbrev pub goes_on : Token → ℕ → Bool
goes_on (Numeral _) b = is_ascii_digit b
goes_on (Name _) b = is_ascii_alphabetic b
goes_on (Symbol x) b = sign_goes_on x b
goes_on _ b = false

-- a spelling has a first byte, which the token may begin with
pub record Head (w : List ℕ) (x : Token) : Type 0 where
  pub first : ℕ
  pub others : List ℕ
  pub text : w ≡ first ∷ others
  pub fits : head_of x first ≡ true

operator_head : (x : Operator) → operator_text x ≡ sign_head x ∷ drop 1 (operator_text x)
operator_head Plus = refl
operator_head Minus = refl
operator_head Times = refl
operator_head Equal = refl
operator_head NotEqual = refl
operator_head Less = refl
operator_head LessOrEqual = refl
operator_head Greater = refl
operator_head GreaterOrEqual = refl

operator_begins : (x : Operator) → (sign_head x == sign_head x) ≡ true
operator_begins Plus = refl
operator_begins Minus = refl
operator_begins Times = refl
operator_begins Equal = refl
operator_begins NotEqual = refl
operator_begins Less = refl
operator_begins LessOrEqual = refl
operator_begins Greater = refl
operator_begins GreaterOrEqual = refl

digit_test : (b : ℕ) → IsInRange 48 57 b → is_ascii_digit b ≡ true
digit_test b r = grind (arith, nat_tests)

pub IsToken-head : (w : List ℕ) (x : Token) → IsToken w x → Head w x
IsToken-head [] (Numeral z) h = absurd (omega (arith, h.digits.0))
IsToken-head (c ∷ w) (Numeral z) h =
    record { first = c; others = w; text = refl; fits = digit_test c (digit_from_value c h.digits.1.0) }
IsToken-head w (Reference c) h =
    record { first = 91; others = 46 ∷ (h.corner ++ codes "]"); text = h.text; fits = refl }
IsToken-head w (Range a) h =
    record {
      first = 91;
      others = 46 ∷ (h.first ++ (codes ":." ++ (h.second ++ codes "]")));
      text = h.text;
      fits = refl;
    }
IsToken-head [] (Name f) h = absurd (name_some f h)
IsToken-head (c ∷ w) (Name f) h =
    record { first = c; others = w; text = refl; fits = (and_parts _ _ (name_letters (c ∷ w) f h)).0 }
IsToken-head w (Symbol x) h =
    record {
      first = sign_head x;
      others = drop 1 (operator_text x);
      text = h
          ∙ operator_head x;
      fits = operator_begins x;
    }
IsToken-head w Open h = record { first = 40; others = []; text = h; fits = refl }
IsToken-head w Close h = record { first = 41; others = []; text = h; fits = refl }
IsToken-head w Separator h = record { first = 59; others = []; text = h; fits = refl }

-- what an operator begins with is no digit, no letter and no blank
-- an operator begins with no digit, no letter and no blank
sign_is_sign : (x : Operator) → (is_ascii_digit (sign_head x) ≡ false)
    × (is_ascii_alphabetic (sign_head x) ≡ false) × (is_blank (sign_head x) ≡ false)
sign_is_sign Plus = (refl, refl, refl)
sign_is_sign Minus = (refl, refl, refl)
sign_is_sign Times = (refl, refl, refl)
sign_is_sign Equal = (refl, refl, refl)
sign_is_sign NotEqual = (refl, refl, refl)
sign_is_sign Less = (refl, refl, refl)
sign_is_sign LessOrEqual = (refl, refl, refl)
sign_is_sign Greater = (refl, refl, refl)
sign_is_sign GreaterOrEqual = (refl, refl, refl)

pub letter_no_digit : (b : ℕ) → is_ascii_alphabetic b ≡ true → is_ascii_digit b ≡ false
letter_no_digit b h = grind (arith, nat_tests)

digit_no_letter : (b : ℕ) → is_ascii_digit b ≡ true → is_ascii_alphabetic b ≡ false
digit_no_letter b h = grind (arith, nat_tests)

digit_no_blank : (b : ℕ) → is_ascii_digit b ≡ true → is_blank b ≡ false
digit_no_blank b h = grind (arith, nat_tests)

letter_no_blank : (b : ℕ) → is_ascii_alphabetic b ≡ true → is_blank b ≡ false
letter_no_blank b h = grind (arith, nat_tests)

digit_no_sign : (b : ℕ) → is_ascii_digit b ≡ true → ((b == 61 || b == 62) ≡ false) × ((b == 61) ≡ false)
digit_no_sign b h = (grind (arith, nat_tests), grind (arith, nat_tests))

letter_no_sign : (b : ℕ) → is_ascii_alphabetic b ≡ true → ((b == 61 || b == 62) ≡ false) × ((b == 61) ≡ false)
letter_no_sign b h = (grind (arith, nat_tests), grind (arith, nat_tests))

-- a token does not begin with a blank
pub head_no_blank : (x : Token) (b : ℕ) → head_of x b ≡ true → is_blank b ≡ false
head_no_blank (Numeral _) b h = digit_no_blank b h
head_no_blank (Reference _) b h = byte_is is_blank false b 91 h refl
head_no_blank (Range _) b h = byte_is is_blank false b 91 h refl
head_no_blank (Name _) b h = letter_no_blank b h
head_no_blank (Symbol x) b h = byte_is is_blank false b (sign_head x) h (sign_is_sign x).2
head_no_blank Open b h = byte_is is_blank false b 40 h refl
head_no_blank Close b h = byte_is is_blank false b 41 h refl
head_no_blank Separator b h = byte_is is_blank false b 59 h refl

-- no token goes on in a blank
pub blank_stops : (x : Token) (b : ℕ) → is_blank b ≡ true → goes_on x b ≡ false
blank_stops (Numeral _) b h = grind (arith, nat_tests)
blank_stops (Name _) b h = grind (arith, nat_tests)
blank_stops (Symbol Less) b h = grind (arith, nat_tests)
blank_stops (Symbol Greater) b h = grind (arith, nat_tests)
blank_stops _ b h = refl

-- an operator goes on in no byte but `=` and `>`
no_sign_stops : (x : Operator) (b : ℕ) → ((b == 61 || b == 62) ≡ false) × ((b == 61) ≡ false)
    → sign_goes_on x b ≡ false
no_sign_stops Less b h = h.0
no_sign_stops Greater b h = h.1
no_sign_stops _ b h = refl

signs_stop : (x y : Operator) → signs_join x y ≡ false → sign_goes_on x (sign_head y) ≡ false
signs_stop Less Equal j = cc
signs_stop Less Greater j = cc
signs_stop Less GreaterOrEqual j = cc
signs_stop Less _ j = refl
signs_stop Greater Equal j = cc
signs_stop Greater _ j = refl
signs_stop _ y j = refl

sign_stops : (x : Operator) (y : Token) (b : ℕ) → join (Symbol x) y ≡ false → head_of y b ≡ true
    → sign_goes_on x b ≡ false
sign_stops x (Numeral _) b j h = no_sign_stops x b (digit_no_sign b h)
sign_stops x (Reference _) b j h = byte_is (sign_goes_on x) false b 91 h (no_sign_stops x 91 (refl, refl))
sign_stops x (Range _) b j h = byte_is (sign_goes_on x) false b 91 h (no_sign_stops x 91 (refl, refl))
sign_stops x (Name _) b j h = no_sign_stops x b (letter_no_sign b h)
sign_stops x (Symbol y) b j h = byte_is (sign_goes_on x) false b (sign_head y) h (signs_stop x y j)
sign_stops x Open b j h = byte_is (sign_goes_on x) false b 40 h (no_sign_stops x 40 (refl, refl))
sign_stops x Close b j h = byte_is (sign_goes_on x) false b 41 h (no_sign_stops x 41 (refl, refl))
sign_stops x Separator b j h = byte_is (sign_goes_on x) false b 59 h (no_sign_stops x 59 (refl, refl))

numeral_stops : (z : ℤ) (y : Token) (b : ℕ) → join (Numeral z) y ≡ false → head_of y b ≡ true
    → is_ascii_digit b ≡ false
numeral_stops z (Numeral _) b j h = cc
numeral_stops z (Reference _) b j h = byte_is is_ascii_digit false b 91 h refl
numeral_stops z (Range _) b j h = byte_is is_ascii_digit false b 91 h refl
numeral_stops z (Name _) b j h = letter_no_digit b h
numeral_stops z (Symbol x) b j h = byte_is is_ascii_digit false b (sign_head x) h (sign_is_sign x).0
numeral_stops z Open b j h = byte_is is_ascii_digit false b 40 h refl
numeral_stops z Close b j h = byte_is is_ascii_digit false b 41 h refl
numeral_stops z Separator b j h = byte_is is_ascii_digit false b 59 h refl

name_stops : (f : Function) (y : Token) (b : ℕ) → join (Name f) y ≡ false → head_of y b ≡ true
    → is_ascii_alphabetic b ≡ false
name_stops f (Numeral _) b j h = digit_no_letter b h
name_stops f (Reference _) b j h = byte_is is_ascii_alphabetic false b 91 h refl
name_stops f (Range _) b j h = byte_is is_ascii_alphabetic false b 91 h refl
name_stops f (Name _) b j h = cc
name_stops f (Symbol x) b j h = byte_is is_ascii_alphabetic false b (sign_head x) h (sign_is_sign x).1
name_stops f Open b j h = byte_is is_ascii_alphabetic false b 40 h refl
name_stops f Close b j h = byte_is is_ascii_alphabetic false b 41 h refl
name_stops f Separator b j h = byte_is is_ascii_alphabetic false b 59 h refl

-- a token does not go on in the first byte of one that it is apart from
pub apart_stops : (x y : Token) (b : ℕ) → join x y ≡ false → head_of y b ≡ true → goes_on x b ≡ false
apart_stops (Numeral z) y b j h = numeral_stops z y b j h
apart_stops (Name f) y b j h = name_stops f y b j h
apart_stops (Symbol x) y b j h = sign_stops x y b j h
apart_stops _ y b j h = refl
