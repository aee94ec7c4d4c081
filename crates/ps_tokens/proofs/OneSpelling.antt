-- A text read token by token: what was found and what is left, against all that the text spells.
use Rattle.std.proofs.Common.{◌≡◌, ℕ, ◌<◌, ◌==◌, true, false, Option, Some, None, List, [], ◌∷◌, ◌++◌, length, drop}
use Rattle.std.proofs.Common.{get_or, refl, sym, ap, subst, ◌∙◌, append_assoc, arith, length-append}
use Rattle.std.proofs.lemmas.Bool.{eqb-true}
use Rattle.std.proofs.lemmas.List.{append-nil}
use Rattle.ps_tokens.specs.Apart.{AreApart, IsApart}
use Rattle.ps_tokens.specs.Inside.Lexing.{token_at}
use Rattle.ps_tokens.specs.Text.{is_blank, Spells}
use Rattle.ps_tokens.specs.Text.Spells.{nothing, a_blank, a_token}
use Rattle.ps_tokens.specs.declared.token.Token.{Token}
use Rattle.ps_tokens.proofs.FirstBytes.{IsToken-head, apart_stops, blank_stops, goes_on, head_no_blank}
use Rattle.ps_tokens.proofs.LongestRuns.{Stops}
use Rattle.ps_tokens.proofs.TokenLemmas.{token_at-some, token_at-token}

-- an empty text spells no token
pub nothing_spelled : (s : List ℕ) (us : List Token) → Spells s us → s ≡ [] → us ≡ []
nothing_spelled _ _ nothing e = refl
nothing_spelled _ _ (a_blank h sp) e = cc
nothing_spelled _ _ (a_token w {s} {x} token sp) e =
    let head = IsToken-head w x token in
    let begins : (head.first ∷ head.others) ++ s ≡ [] = subst (λ v. v ++ s ≡ []) head.text e in
    cc

-- after a blank the same is spelled
pub blank_spelled : (t : List ℕ) (us : List Token) → Spells t us → (b : ℕ) (s : List ℕ) → is_blank b ≡ true
    → t ≡ b ∷ s → Spells s us
blank_spelled _ _ nothing b s h e = cc
blank_spelled _ _ (a_blank {b = c} {s = r} {ts} k sp) b s h e =
    let same : r ≡ s = cc in
    subst (λ v. Spells v ts) same sp
blank_spelled _ _ (a_token w {s = r} {x} token sp) b s h e =
    let head = IsToken-head w x token in
    let begins : (head.first ∷ head.others) ++ r ≡ b ∷ s = subst (λ v. v ++ r ≡ b ∷ s) head.text e in
    let same : head.first ≡ b = cc in
    let other : is_blank b ≡ false = subst (λ v. is_blank v ≡ false) same (head_no_blank x head.first head.fits) in
    cc

-- a token does not go on where tokens begin that it is apart from
pub stops : (x : Token) (s : List ℕ) (ts : List Token) → Spells s ts → IsApart x ts → Stops (goes_on x) s
stops x _ _ nothing apart = tt
stops x _ _ (a_blank {b} h sp) apart = blank_stops x b h
stops x _ _ (a_token w {s} {x = y} token sp) apart =
    let head = IsToken-head w y token in
    subst (λ v. Stops (goes_on x) (v ++ s)) (sym head.text) (apart_stops x y head.first apart head.fits)

-- the first of tokens that are apart is the one that is read, and the others are spelled after it
pub record ReadsFirst (s : List ℕ) (us : List Token) : Type 0 where
  pub first : Token
  pub others : List Token
  pub rest : List ℕ
  pub tokens : us ≡ first ∷ others
  pub read : token_at s ≡ Some (first, rest)
  pub spelled : Spells rest others
  pub apart : AreApart others

pub token_spelled : (t : List ℕ) (us : List Token) → Spells t us → AreApart us → (b : ℕ) (s : List ℕ)
    → is_blank b ≡ false → t ≡ b ∷ s → ReadsFirst t us
token_spelled _ _ nothing apart b s h e = cc
token_spelled _ _ (a_blank {b = c} k sp) apart b s h e =
    let same : c ≡ b = cc in
    let other : is_blank b ≡ true = subst (λ v. is_blank v ≡ true) same k in
    cc
token_spelled _ _ (a_token w {s = r} {x} {ts} token sp) apart b s h e = record {
  first = x;
  others = ts;
  rest = r;
  tokens = refl;
  read = token_at-token w x r token (stops x r ts sp apart.0);
  spelled = sp;
  apart = apart.1;
}

-- the tokens found and the text that is left, against the whole text. What the rest spells makes up what the whole
-- spells. Each list of tokens that are apart begins with those found and goes on in the rest
pub record IsLeft (text : List ℕ) (found : List Token) (rest : List ℕ) : Type 0 where
  pub sound : (ts : List Token) → Spells rest ts → Spells text (found ++ ts)
  pub only : (ts : List Token) → Spells text ts → AreApart ts
      → (us : List Token) × (ts ≡ found ++ us) × Spells rest us × AreApart us

same_answer : (x : Token) (r : List ℕ) (y : Token) (s : List ℕ)
    → ◌≡◌ {A = Option (Token × List ℕ)} (Some (x, r)) (Some (y, s)) → (x ≡ y) × (r ≡ s)
same_answer x r y s e = let pair : ◌≡◌ {A = Token × List ℕ} (x, r) (y, s) = cc in
    (ap (λ p. p.0) pair, ap (λ p. p.1) pair)

no_answer : (x : Token) (r : List ℕ) → ◌≡◌ {A = Option (Token × List ℕ)} (Some (x, r)) None → ⊥
no_answer x r e = cc

pub left_start : (text : List ℕ) → IsLeft text [] text
left_start text = record { sound = λ ts h. h; only = λ ts h apart. (ts, refl, h, apart) }

pub left_blank : (text : List ℕ) (found : List Token) (b : ℕ) (s : List ℕ) → is_blank b ≡ true
    → IsLeft text found (b ∷ s) → IsLeft text found s
left_blank text found b s blank left = record {
  sound = λ ts h. left.sound ts (a_blank blank h);
  only = λ ts h apart.
      let rest = left.only ts h apart in
      (rest.0, rest.1, blank_spelled (b ∷ s) rest.0 rest.2 b s blank refl, rest.3);
}

pub left_token : (text : List ℕ) (found : List Token) (b : ℕ) (s : List ℕ) (x : Token) (r : List ℕ)
    → is_blank b ≡ false → token_at (b ∷ s) ≡ Some (x, r) → IsLeft text found (b ∷ s)
    → IsLeft text (found ++ x ∷ []) r
left_token text found b s x r other read left =
    let taken = token_at-some (b ∷ s) x r read in
    record {
      sound = λ ts h.
          let whole : Spells (b ∷ s) (x ∷ ts) = subst (λ v. Spells v (x ∷ ts)) (sym taken.text)
          (a_token taken.word taken.is_token h) in
          subst (λ v. Spells text v) (sym (append_assoc found (x ∷ []) ts)) (left.sound (x ∷ ts) whole);
      only = λ ts h apart.
          let rest = left.only ts h apart in
          let first = token_spelled (b ∷ s) rest.0 rest.2 rest.3 b s other refl in
          let same = same_answer first.first first.rest x r (sym first.read ∙ read) in
          let token : first.first ≡ x = same.0 in
          let others : first.rest ≡ r = same.1 in (
            first.others,
            rest.1 ∙ ap (λ v. found ++ v) (first.tokens ∙ ap (λ v. v ∷ first.others) token)
                ∙ sym (append_assoc found (x ∷ []) first.others),
            subst (λ v. Spells v first.others) others
                first.spelled,
            first.apart,
          );
    }

-- where no token is read, no list of tokens that are apart is spelled
pub left_none : (text : List ℕ) (found : List Token) (b : ℕ) (s : List ℕ) → is_blank b ≡ false
    → token_at (b ∷ s) ≡ None → IsLeft text found (b ∷ s) → (ts : List Token) → Spells text ts → AreApart ts → ⊥
left_none text found b s other read left ts h apart =
    let rest = left.only ts h apart in
    let first = token_spelled (b ∷ s) rest.0 rest.2 rest.3 b s other refl in
    no_answer first.first first.rest (sym first.read ∙ read)

-- at the end the tokens found are spelled, and no other list of tokens that are apart is
pub left_end : (text : List ℕ) (found : List Token) → IsLeft text found []
    → Spells text found × ((ts : List Token) → Spells text ts → AreApart ts → found ≡ ts)
left_end text found left = (
  subst (Spells text) (append-nil found) (left.sound [] nothing),
  λ ts h apart.
      let rest = left.only ts h apart in
      sym (rest.1 ∙ ap (λ v. found ++ v) (nothing_spelled [] rest.0 rest.2 refl) ∙ append-nil found),
)

-- a token has at least one byte
pub token_at-shorter : (s : List ℕ) (x : Token) (r : List ℕ) → token_at s ≡ Some (x, r) → length r < length s
token_at-shorter s x r read =
    let taken = token_at-some s x r read in
    let head = IsToken-head taken.word x taken.is_token in
    omega (arith, ap length taken.text, ap length head.text, length-append taken.word r)

-- the turns of the loop: over a blank, over a token, and where no token is read
pub turn_blank : (text : List ℕ) (found : List Token) (rest s : List ℕ) → (length rest == 0) ≡ false
    → is_blank (get_or rest 0 0) ≡ true → s ≡ drop 1 rest → IsLeft text found rest → IsLeft text found s
turn_blank text found [] s some blank others left = cc
turn_blank text found (b ∷ rest) s some blank others left =
    subst (IsLeft text found) (sym others) (left_blank text found b rest blank left)

pub turn_token : (text : List ℕ) (found new : List Token) (rest : List ℕ) (x : Token) (r : List ℕ)
    → is_blank (get_or rest 0 0) ≡ false → token_at rest ≡ Some (x, r) → new ≡ found ++ x ∷ []
    → IsLeft text found rest → IsLeft text new r
turn_token text found new [] x r other read more left = absurd (omega (arith, token_at-shorter [] x r read))
turn_token text found new (b ∷ rest) x r other read more left =
    subst (λ v. IsLeft text v r) (sym more) (left_token text found b rest x r other read left)

pub turn_none : (text : List ℕ) (found : List Token) (rest : List ℕ) → (length rest == 0) ≡ false
    → is_blank (get_or rest 0 0) ≡ false → token_at rest ≡ None → IsLeft text found rest → (ts : List Token)
    → Spells text ts → AreApart ts → ⊥
turn_none text found [] some other read left = cc
turn_none text found (b ∷ rest) some other read left = left_none text found b rest other read left

pub turn_end : (text : List ℕ) (found : List Token) (rest : List ℕ) → (length rest == 0) ≡ true
    → IsLeft text found rest → Spells text found × ((ts : List Token) → Spells text ts → AreApart ts → found ≡ ts)
turn_end text found [] none left = left_end text found left
turn_end text found (b ∷ rest) none left = absurd (omega (arith, eqb-true (length (b ∷ rest)) 0 none))

-- a text spells one list of tokens that are apart
pub one_spelled : (s : List ℕ) (ts us : List Token) → Spells s ts → AreApart ts → Spells s us → AreApart us
    → ts ≡ us
one_spelled _ _ us nothing apart other others_apart = sym (nothing_spelled [] us other refl)
one_spelled _ _ us (a_blank {b} {s} {ts} h sp) apart other others_apart =
    one_spelled s ts us sp apart (blank_spelled (b ∷ s) us other b s h refl) others_apart
one_spelled _ _ us (a_token w {s} {x} {ts} token sp) apart other others_apart =
    let head = IsToken-head w x token in
    let begins = ap (λ v. v ++ s) head.text in
    let first = token_spelled (w ++ s) us other others_apart head.first (head.others ++ s)
    (head_no_blank x head.first head.fits) begins in
    let read = token_at-token w x s token (stops x s ts sp apart.0) in
    let same = same_answer x s first.first first.rest (sym read ∙ first.read) in
    let others = one_spelled s ts first.others sp apart.1
    (subst (λ v. Spells v first.others) (sym same.1) first.spelled) first.apart in
    ap (λ v. v ∷ ts) same.0 ∙ ap (λ v. first.first ∷ v) others ∙ sym first.tokens
