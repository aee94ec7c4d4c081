-- A sign is read from a text exactly where one stands at its front.
use Rattle.std.proofs.Common.{◌≡◌, ℕ, ◌==◌, true, ◌&&◌, Option, Some, None, List, [], ◌∷◌, ◌++◌, drop, get_or, refl}
use Rattle.std.proofs.Common.{sym, ap, subst, ◌∙◌, arith}
use Rattle.std.specs.Option.{option_or}
use Rattle.std.proofs.lemmas.Bool.{and_parts, eqb-true}
use Rattle.ps_tokens.specs.Inside.Lexing.{operator_of_two, sign_at, token_of_one}
use Rattle.ps_tokens.specs.Names.{operator_text}
use Rattle.ps_tokens.specs.Text.{IsToken}
use Rattle.ps_tokens.specs.declared.token.Operator.{Operator}
use Rattle.ps_tokens.specs.declared.token.Operator.TheVariants.{Plus, Minus, Times, Equal, NotEqual, Less}
use Rattle.ps_tokens.specs.declared.token.Operator.TheVariants.{LessOrEqual, Greater, GreaterOrEqual}
use Rattle.ps_tokens.specs.declared.token.Token.{Token}
use Rattle.ps_tokens.specs.declared.token.Token.TheVariants.{Symbol, Open, Close, Separator}
use Rattle.ps_tokens.proofs.OptionLemmas.{if_some_or, option_map_from}

-- the front of s is a spelling of the token, and r stands after it
pub record TakesToken (s : List ℕ) (x : Token) (r : List ℕ) : Type 0 where
  pub word : List ℕ
  pub is_token : IsToken word x
  pub text : s ≡ word ++ r

two_bytes : (a b k l : ℕ) (x y : Operator) → (a == k && b == l) ≡ true → x ≡ y → k ∷ l ∷ [] ≡ operator_text x
    → a ∷ b ∷ [] ≡ operator_text y
two_bytes a b k l x y test same text =
    let parts = and_parts _ _ test in
    let first = eqb-true a k parts.0 in
    let second = eqb-true b l parts.1 in
    ap (λ v. v ∷ b ∷ []) first ∙ ap (λ v. k ∷ v ∷ []) second ∙ text ∙ ap operator_text same

pub operator_of_two-some : (a b : ℕ) (y : Operator) → operator_of_two a b ≡ Some y → a ∷ b ∷ [] ≡ operator_text y
unfolding operator_of_two
operator_of_two-some a b y e =
    if_some_or _ NotEqual y _ (λ t s. two_bytes a b 60 62 NotEqual y t s refl)
    (if_some_or _ LessOrEqual y _ (λ t s. two_bytes a b 60 61 LessOrEqual y t s refl)
    (if_some_or _ GreaterOrEqual y _ (λ t s. two_bytes a b 62 61 GreaterOrEqual y t s refl) (λ h. cc)))
    e

one_byte : (a k : ℕ) (x y : Token) → (a == k) ≡ true → x ≡ y → IsToken (k ∷ []) x → IsToken (a ∷ []) y
one_byte a k x y test same text =
    subst (IsToken (a ∷ [])) same (subst (λ v. IsToken (v ∷ []) x) (sym (eqb-true a k test)) text)

pub token_of_one-some : (a : ℕ) (y : Token) → token_of_one a ≡ Some y → IsToken (a ∷ []) y
unfolding token_of_one
token_of_one-some a y e =
    if_some_or _ (Symbol Plus) y _ (λ t s. one_byte a 43 (Symbol Plus) y t s refl)
    (if_some_or _ (Symbol Minus) y _ (λ t s. one_byte a 45 (Symbol Minus) y t s refl)
    (if_some_or _ (Symbol Times) y _ (λ t s. one_byte a 42 (Symbol Times) y t s refl)
    (if_some_or _ (Symbol Equal) y _ (λ t s. one_byte a 61 (Symbol Equal) y t s refl)
    (if_some_or _ (Symbol Less) y _ (λ t s. one_byte a 60 (Symbol Less) y t s refl)
    (if_some_or _ (Symbol Greater) y _ (λ t s. one_byte a 62 (Symbol Greater) y t s refl)
    (if_some_or _ Open y _ (λ t s. one_byte a 40 Open y t s refl)
    (if_some_or _ Close y _ (λ t s. one_byte a 41 Close y t s refl)
    (if_some_or _ Separator y _ (λ t s. one_byte a 59 Separator y t s refl) (λ h. cc)))))))))
    e

-- the value of `option_or` comes from the first option or from the second
pub option_or_from : {X P : Type 0} (o p : Option X) (y : X) → (o ≡ Some y → P) → (p ≡ Some y → P)
    → option_or o p ≡ Some y → P
option_or_from None p y first second e = second e
option_or_from (Some x) p y first second e = first e

-- no second byte of an operator is 0
second_byte : (a : ℕ) (x : Operator) → a ∷ 0 ∷ [] ≡ operator_text x → ⊥
second_byte a Plus e = omega (arith, ap (λ v. get_or v 1 7) e)
second_byte a Minus e = omega (arith, ap (λ v. get_or v 1 7) e)
second_byte a Times e = omega (arith, ap (λ v. get_or v 1 7) e)
second_byte a Equal e = omega (arith, ap (λ v. get_or v 1 7) e)
second_byte a NotEqual e = omega (arith, ap (λ v. get_or v 1 7) e)
second_byte a Less e = omega (arith, ap (λ v. get_or v 1 7) e)
second_byte a LessOrEqual e = omega (arith, ap (λ v. get_or v 1 7) e)
second_byte a Greater e = omega (arith, ap (λ v. get_or v 1 7) e)
second_byte a GreaterOrEqual e = omega (arith, ap (λ v. get_or v 1 7) e)

two_at : (s : List ℕ) (x : Operator) → operator_of_two (get_or s 0 0) (get_or s 1 0) ≡ Some x
    → s ≡ operator_text x ++ drop 2 s
unfolding operator_of_two
two_at [] x e = cc
two_at (a ∷ []) x e = absurd (second_byte a x (operator_of_two-some a 0 x e))
two_at (a ∷ b ∷ s) x e = ap (λ v. v ++ s) (operator_of_two-some a b x e)

one_at : (s : List ℕ) (x : Token) → token_of_one (get_or s 0 0) ≡ Some x → TakesToken s x (drop 1 s)
unfolding token_of_one
one_at [] x e = cc
one_at (a ∷ s) x e = record { word = a ∷ []; is_token = token_of_one-some a x e; text = refl }

pub sign_at-some : (s : List ℕ) (x : Token) (r : List ℕ) → sign_at s ≡ Some (x, r) → TakesToken s x r
unfolding sign_at
sign_at-some s x r e =
    option_or_from _ _ (x, r)
    (option_map_from (λ (y : Operator). (Symbol y, drop 2 s)) _ (x, r)
    (λ y found same.
    let token : Symbol y ≡ x = ap (λ p. p.0) same in
    let rest : drop 2 s ≡ r = ap (λ p. p.1) same in
    subst (λ z. TakesToken s z r) token
    (subst (TakesToken s (Symbol y)) rest
    (record { word = operator_text y; is_token = refl; text = two_at s y found }))))
    (option_map_from (λ (y : Token). (y, drop 1 s)) _ (x, r)
    (λ y found same.
    let token : y ≡ x = ap (λ p. p.0) same in
    let rest : drop 1 s ≡ r = ap (λ p. p.1) same in
    subst (λ z. TakesToken s z r) token (subst (TakesToken s y) rest (one_at s y found))))
    e
