-- A name is read from a text exactly where one stands at its front.
use Rattle.std.proofs.Common.{◌≡◌, ℕ, Bool, true, false, cond, Option, Some, List, [], ◌∷◌, map, refl, ap, subst}
use Rattle.std.proofs.Common.{◌∙◌, arith}
use Rattle.std.specs.Char.{is_ascii_alphabetic, is_ascii_lowercase, to_ascii_lowercase}
use Rattle.std.specs.List.{find, list_all}
use Rattle.std.specs.Str.{bytes_eq, str_eq_ignore_ascii_case, str_to_ascii_lowercase}
use Rattle.std.proofs.lemmas.Bool.{and_from, and_parts}
use Rattle.std.proofs.lemmas.Bool.Decides.{nat_tests}
use Rattle.std.proofs.lemmas.Slice.Eq.{bytes_eq-Decides}
use Rattle.ps_tokens.specs.Inside.Lexing.{function_of}
use Rattle.ps_tokens.specs.Names.{function_name}
use Rattle.ps_tokens.specs.declared.token.TheConstants.{FUNCTIONS}
use Rattle.ps_tokens.specs.declared.token.Function.{Function}
use Rattle.ps_tokens.specs.declared.token.Function.TheVariants.{Sum, Min, Max, Count, If, Mod, Quotient, Abs, And}
use Rattle.ps_tokens.specs.declared.token.Function.TheVariants.{Or, Not, True, False}

-- what was found passes the test
find-some : {X : Type 0} (p : X → Bool) (xs : List X) (y : X) → find p xs ≡ Some y → p y ≡ true
find-some p [] y e = cc
find-some p (x ∷ xs) y e =
    let others = find-some p xs y in
    elim (p x) as (λ b. p x ≡ b → cond b (Some x) (find p xs) ≡ Some y → p y ≡ true) [
      | true ↦ λ t h. let same : x ≡ y = cc in subst (λ z. p z ≡ true) same t
      | false ↦ λ t h. others h
    ] refl e

-- a function that was found has the name
pub function_of-some : (w : List ℕ) (f : Function) → function_of w ≡ Some f
    → str_to_ascii_lowercase w ≡ str_to_ascii_lowercase (function_name f)
unfolding function_of
function_of-some w f e =
    (bytes_eq-Decides (str_to_ascii_lowercase w) (str_to_ascii_lowercase (function_name f))).0
    (find-some (λ g. str_eq_ignore_ascii_case w (function_name g)) FUNCTIONS f e)

-- the function of a name in lower case
abbrev of_lower : List ℕ → Option Function
of_lower v = find (λ g. bytes_eq v (str_to_ascii_lowercase (function_name g))) FUNCTIONS

of_lower-name : (f : Function) → of_lower (str_to_ascii_lowercase (function_name f)) ≡ Some f
of_lower-name Sum = refl
of_lower-name Min = refl
of_lower-name Max = refl
of_lower-name Count = refl
of_lower-name If = refl
of_lower-name Mod = refl
of_lower-name Quotient = refl
of_lower-name Abs = refl
of_lower-name And = refl
of_lower-name Or = refl
of_lower-name Not = refl
of_lower-name True = refl
of_lower-name False = refl

-- a function's name in any case finds it
pub function_of-name : (w : List ℕ) (f : Function)
    → str_to_ascii_lowercase w ≡ str_to_ascii_lowercase (function_name f) → function_of w ≡ Some f
unfolding function_of
function_of-name w f e = ap of_lower e ∙ of_lower-name f

-- a name has letters alone
lower_letters : (f : Function) → list_all is_ascii_lowercase (str_to_ascii_lowercase (function_name f)) ≡ true
lower_letters Sum = refl
lower_letters Min = refl
lower_letters Max = refl
lower_letters Count = refl
lower_letters If = refl
lower_letters Mod = refl
lower_letters Quotient = refl
lower_letters Abs = refl
lower_letters And = refl
lower_letters Or = refl
lower_letters Not = refl
lower_letters True = refl
lower_letters False = refl

letter_from_lower : (c : ℕ) → is_ascii_lowercase (to_ascii_lowercase c) ≡ true → is_ascii_alphabetic c ≡ true
letter_from_lower c h = grind (arith, nat_tests)

letters_from_lower : (w : List ℕ) → list_all is_ascii_lowercase (map to_ascii_lowercase w) ≡ true
    → list_all is_ascii_alphabetic w ≡ true
letters_from_lower [] h = refl
letters_from_lower (c ∷ w) h =
    let parts = and_parts _ _ h in
    and_from _ _ (letter_from_lower c parts.0) (letters_from_lower w parts.1)

pub name_letters : (w : List ℕ) (f : Function)
    → str_to_ascii_lowercase w ≡ str_to_ascii_lowercase (function_name f) → list_all is_ascii_alphabetic w ≡ true
name_letters w f e = letters_from_lower w (ap (list_all is_ascii_lowercase) e ∙ lower_letters f)

-- and at least one
pub name_some : (f : Function) → str_to_ascii_lowercase [] ≡ str_to_ascii_lowercase (function_name f) → ⊥
name_some Sum e = cc
name_some Min e = cc
name_some Max e = cc
name_some Count e = cc
name_some If e = cc
name_some Mod e = cc
name_some Quotient e = cc
name_some Abs e = cc
name_some And e = cc
name_some Or e = cc
name_some Not e = cc
name_some True e = cc
name_some False e = cc
