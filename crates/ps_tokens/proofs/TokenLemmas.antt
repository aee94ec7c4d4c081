-- The token at the front of a text is read exactly where one stands there that does not go on.
use Rattle.std.proofs.Common.{◌≡◌, ℕ, ◌+◌, ◌<◌, ◌^◌, ◌==◌, ◌||◌, Bool, true, false, cond, Some, None, List, [], ◌∷◌}
use Rattle.std.proofs.Common.{◌++◌, length, take, drop, get_or, pos, ℤ, refl, sym, ap, subst, ◌∙◌, append_assoc}
use Rattle.std.proofs.Common.{arith}
use Rattle.std.specs.Char.{is_ascii_digit, is_ascii_alphabetic}
use Rattle.std.specs.List.{prefix_len}
use Rattle.std.specs.Option.{option_map, option_or, option_and_then}
use Rattle.std.specs.Str.Parse.{digits_value}
use Rattle.std.proofs.lemmas.Bool.{and_parts, eqb-true, ltb-true}
use Rattle.std.proofs.lemmas.List.{length-take, take-append-drop}
use Rattle.std.proofs.lemmas.Option.{option_and_then_some}
use Rattle.std.proofs.lemmas.Option.{cond_some}
use Rattle.ps_grid.specs.Rectangle.{spanned}
use Rattle.ps_tokens.specs.Inside.Lexing.{after, bracketed_at, corner_at, digits_at, function_of, letters_at, name_at}
use Rattle.ps_tokens.specs.Inside.Lexing.{number_in, numeral_at, operator_of_two, range_at, reference_at, sign_at}
use Rattle.ps_tokens.specs.Inside.Lexing.{token_at, token_of_one}
use Rattle.ps_tokens.specs.Names.{operator_text}
use Rattle.ps_tokens.specs.Text.{IsCorner, IsNumber, IsToken}
use Rattle.ps_tokens.specs.declared.token.Function.{Function}
use Rattle.ps_tokens.specs.declared.token.Operator.{Operator}
use Rattle.ps_tokens.specs.declared.token.Operator.TheVariants.{Plus, Minus, Times, Equal, NotEqual, Less}
use Rattle.ps_tokens.specs.declared.token.Operator.TheVariants.{LessOrEqual, Greater, GreaterOrEqual}
use Rattle.ps_tokens.specs.declared.token.Token.{Token}
use Rattle.ps_tokens.specs.declared.token.Token.TheVariants.{Numeral, Reference, Range, Name, Symbol, Open, Close}
use Rattle.ps_tokens.specs.declared.token.Token.TheVariants.{Separator}
use Rattle.ps_tokens.proofs.OptionLemmas.{option_map_from}
use Rattle.ps_tokens.proofs.CornerLemmas.{TakesCorner, all_digits, corner_at-corner, corner_at-some}
use Rattle.ps_tokens.proofs.FirstBytes.{goes_on, letter_no_digit, sign_goes_on}
use Rattle.ps_tokens.proofs.MarkLemmas.{after-some}
use Rattle.ps_tokens.proofs.NameLemmas.{function_of-name, function_of-some, name_letters, name_some}
use Rattle.ps_tokens.proofs.LongestRuns.{Stops, AllDigits-digits_at, drop-run, take-run}
use Rattle.ps_tokens.proofs.SignLemmas.{TakesToken, option_or_from, sign_at-some}
use Rattle.ps_tokens.proofs.DigitValues.{number_in-small}

-- the same, of another token and another rest
moved : {s r t : List ℕ} {x y : Token} → TakesToken s x r → x ≡ y → r ≡ t → TakesToken s y t
moved {s} {r} {t} {x} {y} h same rest = subst (λ z. TakesToken s z t) same (subst (TakesToken s x) rest h)

some_digits : (s : List ℕ) → is_ascii_digit (get_or s 0 0) ≡ true → 0 < length (take (digits_at s) s)
some_digits [] h = cc
some_digits (c ∷ s) h =
    let n = prefix_len is_ascii_digit s in
    subst (λ b. 0 < length (take (cond b (1 + n) 0) (c ∷ s))) (sym h) (more n)
  where
    more : (n : ℕ) → 0 < length (take (1 + n) (c ∷ s))
    more n = omega (arith, length-take (1 + n) (c ∷ s))

-- a numeral that was found stands at the front
numeral_at-some : (s : List ℕ) (x : Token) (r : List ℕ) → is_ascii_digit (get_or s 0 0) ≡ true
    → numeral_at s ≡ Some (x, r) → TakesToken s x r
unfolding numeral_at number_in
numeral_at-some s x r begins e =
    let w = take (digits_at s) s in
    option_map_from (λ (n : ℕ). (Numeral (pos n), drop (digits_at s) s)) (number_in w) (x, r)
    (λ n found same.
    let small = cond_some _ (digits_value 10 w) n found in
    let token : Numeral (pos n) ≡ x = ap (λ p. p.0) same in
    let rest : drop (digits_at s) s ≡ r = ap (λ p. p.1) same in
    let taken : TakesToken s (Numeral (pos n)) (drop (digits_at s) s) = record {
      word = w;
      is_token = record {
        digits = (some_digits s begins, AllDigits-digits_at s);
        small = ltb-true (digits_value 10 w) (2 ^ 63) small.0;
        value = ap pos (sym small.1);
      };
      text = sym (take-append-drop (digits_at s) s);
    } in
    moved taken token rest)
    e

-- a name that was found stands at the front
name_at-some : (s : List ℕ) (x : Token) (r : List ℕ) → name_at s ≡ Some (x, r) → TakesToken s x r
unfolding name_at
name_at-some s x r e =
    let w = take (letters_at s) s in
    option_map_from (λ (f : Function). (Name f, drop (letters_at s) s)) (function_of w) (x, r)
    (λ f found same.
    let token : Name f ≡ x = ap (λ p. p.0) same in
    let rest : drop (letters_at s) s ≡ r = ap (λ p. p.1) same in
    let taken : TakesToken s (Name f) (drop (letters_at s) s) = record {
      word = w;
      is_token = function_of-some w f found;
      text = sym (take-append-drop (letters_at s) s);
    } in
    moved taken token rest)
    e

-- a reference that was found ends after its corner
reference_at-some : (t : List ℕ) (c : ℕ) (u : List ℕ) (x : Token) (r : List ℕ) → TakesCorner t c u
    → reference_at c u ≡ Some (x, r) → TakesToken (91 ∷ 46 ∷ t) x r
unfolding reference_at
reference_at-some t c u x r corner e =
    option_map_from (λ (v : List ℕ). (Reference c, v)) (after 93 u) (x, r)
    (λ v found same.
    let token : Reference c ≡ x = ap (λ p. p.0) same in
    let rest : v ≡ r = ap (λ p. p.1) same in
    let ends = after-some 93 u v (omega arith) found in
    let taken : TakesToken (91 ∷ 46 ∷ t) (Reference c) v = record {
      word = 91 ∷ 46 ∷ (corner.word ++ (93 ∷ []));
      is_token = record { corner = corner.word; is_corner = corner.is_corner; text = refl };
      text = ap (λ z. 91 ∷ 46 ∷ z)
          (corner.text ∙ ap (λ z. corner.word ++ z) ends ∙ sym (append_assoc corner.word (93 ∷ []) v));
    } in
    moved taken token rest)
    e

range_pieces : (a b v : List ℕ) → (a ++ (58 ∷ 46 ∷ (b ++ (93 ∷ [])))) ++ v ≡ a ++ (58 ∷ 46 ∷ (b ++ (93 ∷ v)))
range_pieces a b v = simp append_assoc

-- a range that was found ends after its second corner
range_at-some : (t : List ℕ) (c : ℕ) (u : List ℕ) (x : Token) (r : List ℕ) → TakesCorner t c u
    → range_at c u ≡ Some (x, r) → TakesToken (91 ∷ 46 ∷ t) x r
unfolding range_at
range_at-some t c u x r corner e =
    option_and_then_some _ (after 58 u) (x, r) e
    (λ u1 colon e1.
    option_and_then_some _ (after 46 u1) (x, r) e1
    (λ u2 dot e2.
    option_and_then_some _ (corner_at u2) (x, r) e2
    (λ p second e3.
    let other = corner_at-some u2 p.0 p.1 second in
    option_map_from (λ (v : List ℕ). (Range (spanned c p.0), v)) (after 93 p.1) (x, r)
    (λ v found same.
    let token : Range (spanned c p.0) ≡ x = ap (λ q. q.0) same in
    let rest : v ≡ r = ap (λ q. q.1) same in
    let ends = after-some 93 p.1 v (omega arith) found in
    let colon_text = after-some 58 u u1 (omega arith) colon in
    let dot_text = after-some 46 u1 u2 (omega arith) dot in
    let after_colon : u ≡ 58 ∷ 46 ∷ (other.word ++ (93 ∷ v)) =
    colon_text ∙ ap (λ z. 58 ∷ z) (dot_text ∙ ap (λ z. 46 ∷ z) (other.text ∙ ap (λ z. other.word ++ z) ends)) in
    let taken : TakesToken (91 ∷ 46 ∷ t) (Range (spanned c p.0)) v = record {
      word = 91 ∷ 46 ∷ (corner.word ++ (58 ∷ 46 ∷ (other.word ++ (93 ∷ []))));
      is_token = record {
        first = corner.word;
        second = other.word;
        from = c;
        to = p.0;
        is_first = corner.is_corner;
        is_second = other.is_corner;
        rectangle = refl;
        text = refl;
      };
      text = ap (λ z. 91 ∷ 46 ∷ z)
          (corner.text ∙ ap (λ z. corner.word ++ z) after_colon ∙ sym (range_pieces corner.word other.word v));
    } in
    moved taken token rest)
    e3)))

bracketed_at-some : (s : List ℕ) (x : Token) (r : List ℕ) → bracketed_at s ≡ Some (x, r) → TakesToken (91 ∷ s) x r
unfolding bracketed_at
bracketed_at-some s x r e =
    option_and_then_some _ (after 46 s) (x, r) e
    (λ t dot e1.
    option_and_then_some _ (corner_at t) (x, r) e1
    (λ p first e2.
    let corner = corner_at-some t p.0 p.1 first in
    let text = after-some 46 s t (omega arith) dot in
    subst (λ v. TakesToken (91 ∷ v) x r) (sym text)
    (option_or_from (reference_at p.0 p.1) (range_at p.0 p.1) (x, r)
    (reference_at-some t p.0 p.1 x r corner) (range_at-some t p.0 p.1 x r corner) e2)))

bracket_first : (s : List ℕ) → (get_or s 0 0 == 91) ≡ true → s ≡ 91 ∷ drop 1 s
bracket_first [] h = cc
bracket_first (c ∷ s) h = ap (λ v. v ∷ s) (eqb-true c 91 h)

-- a token that was found stands at the front
pub token_at-some : (s : List ℕ) (x : Token) (r : List ℕ) → token_at s ≡ Some (x, r) → TakesToken s x r
unfolding token_at
token_at-some s x r e =
    elim (is_ascii_digit (get_or s 0 0)) as
    (λ b. is_ascii_digit (get_or s 0 0) ≡ b
    → cond b (numeral_at s)
    (cond (is_ascii_alphabetic (get_or s 0 0)) (name_at s)
    (cond (get_or s 0 0 == 91) (bracketed_at (drop 1 s)) (sign_at s))) ≡ Some (x, r) → TakesToken s x r) [
      | true ↦ λ t h. numeral_at-some s x r t h
      | false ↦ λ _ h.
          elim (is_ascii_alphabetic (get_or s 0 0)) as
          (λ b. cond b (name_at s) (cond (get_or s 0 0 == 91) (bracketed_at (drop 1 s)) (sign_at s)) ≡ Some
          (x, r) → TakesToken s x r) [
            | true ↦ λ k. name_at-some s x r k
            | false ↦ λ k.
                elim (get_or s 0 0 == 91) as
                (λ b. (get_or s 0 0 == 91) ≡ b → cond b (bracketed_at (drop 1 s)) (sign_at s) ≡ Some (x, r)
                → TakesToken s x r) [
                  | true ↦ λ t l. subst (λ v. TakesToken v x r) (sym (bracket_first s t))
                      (bracketed_at-some (drop 1 s) x r l)
                  | false ↦ λ _ l. sign_at-some s x r l
                ] refl k
          ] h
    ] refl e

numeral_at-number : (w : List ℕ) (z : ℤ) (s : List ℕ) → IsNumber w z → Stops is_ascii_digit s
    → numeral_at (w ++ s) ≡ Some (Numeral z, s)
unfolding numeral_at
numeral_at-number w z s number stop =
    let are_digits = all_digits w number.digits.1 in
    let t = w ++ s in
    ap (λ v. option_map (λ (n : ℕ). (Numeral (pos n), drop (digits_at t) t)) (number_in v))
    (take-run is_ascii_digit w s are_digits stop)
    ∙ ap (option_map (λ (n : ℕ). (Numeral (pos n), drop (digits_at t) t))) (number_in-small w number.small)
    ∙ ap (λ v. Some (Numeral (pos (digits_value 10 w)), v)) (drop-run is_ascii_digit w s are_digits stop)
    ∙ ap (λ v. Some (Numeral v, s)) (sym number.value)

name_at-name : (w : List ℕ) (f : Function) (s : List ℕ) → IsToken w (Name f) → Stops is_ascii_alphabetic s
    → name_at (w ++ s) ≡ Some (Name f, s)
unfolding name_at
name_at-name w f s name stop =
    let letters = name_letters w f name in
    let t = w ++ s in
    ap (λ v. option_map (λ (g : Function). (Name g, drop (letters_at t) t)) (function_of v))
    (take-run is_ascii_alphabetic w s letters stop)
    ∙ ap (option_map (λ (g : Function). (Name g, drop (letters_at t) t))) (function_of-name w f name)
    ∙ ap (λ v. Some (Name f, v)) (drop-run is_ascii_alphabetic w s letters stop)

bracketed_at-reference : (w : List ℕ) (c : ℕ) (s : List ℕ) → IsCorner w c
    → bracketed_at (46 ∷ (w ++ (93 ∷ s))) ≡ Some (Reference c, s)
unfolding bracketed_at reference_at after
bracketed_at-reference w c s corner =
    ap (option_and_then (λ (p : ℕ × List ℕ). option_or (reference_at p.0 p.1) (range_at p.0 p.1)))
    (corner_at-corner w c (93 ∷ s) corner refl)

range_at-range : (c d : ℕ) (w s : List ℕ) → IsCorner w d
    → range_at c (58 ∷ 46 ∷ (w ++ (93 ∷ s))) ≡ Some (Range (spanned c d), s)
unfolding range_at after
range_at-range c d w s corner =
    ap (option_and_then (λ (p : ℕ × List ℕ). option_map (λ v. (Range (spanned c p.0), v)) (after 93 p.1)))
    (corner_at-corner w d (93 ∷ s) corner refl)

bracketed_at-range : (v w : List ℕ) (c d : ℕ) (s : List ℕ) → IsCorner v c → IsCorner w d
    → bracketed_at (46 ∷ (v ++ (58 ∷ 46 ∷ (w ++ (93 ∷ s))))) ≡ Some (Range (spanned c d), s)
unfolding bracketed_at reference_at after
bracketed_at-range v w c d s first second =
    ap (option_and_then (λ (p : ℕ × List ℕ). option_or (reference_at p.0 p.1) (range_at p.0 p.1)))
    (corner_at-corner v c (58 ∷ 46 ∷ (w ++ (93 ∷ s))) first refl)
    ∙ range_at-range c d w s second

-- what the first byte decides
token_at-digit : (c : ℕ) (s : List ℕ) → is_ascii_digit c ≡ true → token_at (c ∷ s) ≡ numeral_at (c ∷ s)
unfolding token_at
token_at-digit c s h = ap
    (λ b. cond b (numeral_at (c ∷ s))
    (cond (is_ascii_alphabetic c) (name_at (c ∷ s)) (cond (c == 91) (bracketed_at s) (sign_at (c ∷ s))))) h

token_at-letter : (c : ℕ) (s : List ℕ) → is_ascii_alphabetic c ≡ true → token_at (c ∷ s) ≡ name_at (c ∷ s)
unfolding token_at
token_at-letter c s h =
    ap (λ b. cond b (numeral_at (c ∷ s))
    (cond (is_ascii_alphabetic c) (name_at (c ∷ s)) (cond (c == 91) (bracketed_at s) (sign_at (c ∷ s)))))
    (letter_no_digit c h)
    ∙ ap (λ b. cond b (name_at (c ∷ s)) (cond (c == 91) (bracketed_at s) (sign_at (c ∷ s)))) h

token_at-bracket : (s : List ℕ) → token_at (91 ∷ s) ≡ bracketed_at s
unfolding token_at
token_at-bracket s = refl

less_at : (s : List ℕ) → Stops (sign_goes_on Less) s → token_at (60 ∷ s) ≡ Some (Symbol Less, s)
unfolding token_at sign_at operator_of_two token_of_one
less_at [] h = refl
less_at (c ∷ s) h =
    let tests = or_false (c == 61) (c == 62) h in
    ap (λ b. option_or
    (option_map (λ (x : Operator). (Symbol x, s))
    (cond b (Some NotEqual) (cond (c == 61) (Some LessOrEqual) None))) (Some (Symbol Less, c ∷ s))) tests.1
    ∙ ap (λ b. option_or (option_map (λ (x : Operator). (Symbol x, s)) (cond b (Some LessOrEqual) None))
    (Some (Symbol Less, c ∷ s))) tests.0
  where
    or_false : (a b : Bool) → (a || b) ≡ false → (a ≡ false) × (b ≡ false)
    or_false true b e = cc
    or_false false b e = (refl, e)

greater_at : (s : List ℕ) → Stops (sign_goes_on Greater) s → token_at (62 ∷ s) ≡ Some (Symbol Greater, s)
unfolding token_at sign_at operator_of_two token_of_one
greater_at [] h = refl
greater_at (c ∷ s) h =
    ap (λ b. option_or (option_map (λ (x : Operator). (Symbol x, s)) (cond b (Some GreaterOrEqual) None))
    (Some (Symbol Greater, c ∷ s))) h

sign_at-operator : (x : Operator) (s : List ℕ) → Stops (sign_goes_on x) s
    → token_at (operator_text x ++ s) ≡ Some (Symbol x, s)
unfolding token_at sign_at operator_of_two token_of_one
sign_at-operator Plus s h = refl
sign_at-operator Minus s h = refl
sign_at-operator Times s h = refl
sign_at-operator Equal s h = refl
sign_at-operator NotEqual s h = refl
sign_at-operator Less s h = less_at s h
sign_at-operator LessOrEqual s h = refl
sign_at-operator Greater s h = greater_at s h
sign_at-operator GreaterOrEqual s h = refl

mark_at : (s : List ℕ)
    → (token_at (40 ∷ s) ≡ Some (Open, s)) × (token_at (41 ∷ s) ≡ Some (Close, s)) ×
    (token_at (59 ∷ s) ≡ Some (Separator, s))
unfolding token_at sign_at operator_of_two token_of_one
mark_at s = (refl, refl, refl)

-- a token that stands at the front and does not go on is found
pub token_at-token : (w : List ℕ) (x : Token) (s : List ℕ) → IsToken w x → Stops (goes_on x) s
    → token_at (w ++ s) ≡ Some (x, s)
token_at-token [] (Numeral z) s h stop = absurd (omega (arith, h.digits.0))
token_at-token (c ∷ w) (Numeral z) s h stop =
    token_at-digit c (w ++ s) (and_parts _ _ (all_digits (c ∷ w) h.digits.1)).0
    ∙ numeral_at-number (c ∷ w) z s h stop
token_at-token w (Reference c) s h stop =
    ap (λ v. token_at (v ++ s)) h.text
    ∙ token_at-bracket (46 ∷ ((h.corner ++ (93 ∷ [])) ++ s))
    ∙ ap (λ v. bracketed_at (46 ∷ v)) (append_assoc h.corner (93 ∷ []) s)
    ∙ bracketed_at-reference h.corner c s h.is_corner
token_at-token w (Range a) s h stop =
    ap (λ v. token_at (v ++ s)) h.text
    ∙ token_at-bracket (46 ∷ ((h.first ++ (58 ∷ 46 ∷ (h.second ++ (93 ∷ [])))) ++ s))
    ∙ ap (λ v. bracketed_at (46 ∷ v)) (range_pieces h.first h.second s)
    ∙ bracketed_at-range h.first h.second h.from h.to s h.is_first h.is_second
    ∙ ap (λ v. Some (Range v, s)) (sym h.rectangle)
token_at-token [] (Name f) s h stop = absurd (name_some f h)
token_at-token (c ∷ w) (Name f) s h stop =
    token_at-letter c (w ++ s) (and_parts _ _ (name_letters (c ∷ w) f h)).0 ∙ name_at-name (c ∷ w) f s h stop
token_at-token w (Symbol x) s h stop = ap (λ v. token_at (v ++ s)) h ∙ sign_at-operator x s stop
token_at-token w Open s h stop = ap (λ v. token_at (v ++ s)) h ∙ (mark_at s).0
token_at-token w Close s h stop = ap (λ v. token_at (v ++ s)) h ∙ (mark_at s).1
token_at-token w Separator s h stop = ap (λ v. token_at (v ++ s)) h ∙ (mark_at s).2
