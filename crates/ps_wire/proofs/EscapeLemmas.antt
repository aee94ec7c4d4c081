-- A string's content, escaped again, is no longer than its text.
use Rattle.std.proofs.Common.{◌≡◌, ℕ, ◌+◌, ◌/◌, ◌%◌, ◌≤◌, Bool, true, false, cond, ◌&&◌, ◌||◌, ◌==◌, nat_lt}
use Rattle.std.proofs.Common.{List, [], ◌∷◌, ◌++◌, length, Option, Some, None, option_and_then, refl, sym, ap}
use Rattle.std.proofs.Common.{subst, ◌∙◌, arith}
use Rattle.std.proofs.Common.{length-append}
use Rattle.std.proofs.lemmas.Bool.{false≢true, eqb-true, and_parts, ltb-true, ltb-false}
use Rattle.std.proofs.lemmas.Grind.{flat_map-append}
use Rattle.std.proofs.lemmas.Bool.Decides.{nat_tests}
use Rattle.std.specs.Prelude.{⊤}
use Rattle.std.specs.Char.{is_digit, encode_utf8, digit_char}
use Rattle.json.specs.Print.{escape, escape_byte, escape_letter}
use Rattle.json.specs.Text.{code_unit, short_escape, is_high_surrogate, is_low_surrogate, surrogate_pair}
use Rattle.json.specs.Text.{Within, plain}
use Rattle.json.specs.Text.{after_backslash, after_u, after_high, prepend, content}
use Rattle.json.specs.Word.{is_operator, is_space}
use Rattle.json.specs.Lex.{quote, backslash, operator, space, other, Mode, in_string, in_escape}
use Rattle.json.specs.Align.{span_byte, span}

-- escaped, with the closing quote, it has at most n bytes
abbrev pub Escaped : ℕ → Option (List ℕ) → Type 0
Escaped n None = ⊤
Escaped n (Some s) = length (escape s) + 1 ≤ n

abbrev mode : Within → Mode
mode plain = in_string
mode after_backslash = in_escape
mode after_u = in_string
mode (after_high h) = in_string

-- the bytes of the escape so far
abbrev begun : Within → ℕ
begun plain = 0
begun after_backslash = 1
begun after_u = 2
begun (after_high h) = 6

both : (n : ℕ) (b : Bool) (x y : Option (List ℕ)) → (b ≡ true → Escaped n x) → (b ≡ false → Escaped n y)
    → Escaped n (cond b x y)
both n true x y f g = f refl
both n false x y f g = g refl

then : (n : ℕ) (f : ℕ → Option (List ℕ)) (o : Option ℕ) → ((u : ℕ) → o ≡ Some u → Escaped n (f u))
    → Escaped n (option_and_then f o)
then n f None h = tt
then n f (Some u) h = h u refl

more : (n m : ℕ) (r : Option (List ℕ)) → Escaped m r → m ≤ n → Escaped n r
more n m None h le = tt
more n m (Some s) h le = omega arith

pub length-escape-append : (a s : List ℕ) → length (escape (a ++ s)) ≡ length (escape a) + length (escape s)
length-escape-append a s = ap length (flat_map-append escape_byte a s) ∙ length-append (escape a) (escape s)

longer : (n m : ℕ) (a : List ℕ) (r : Option (List ℕ)) → Escaped m r → length (escape a) + m ≤ n
    → Escaped n (prepend a r)
longer n m a None h le = tt
longer n m a (Some s) h le = omega (arith, length-escape-append a s)

-- ---- bytes

escaped_by : (x l h k : ℕ) (a b : Bool) (n : ℕ) → (a ≡ true → 2 ≤ n) → (b ≡ true → 6 ≤ n) → 1 ≤ n
    → length (cond a (92 ∷ l ∷ []) (cond b (92 ∷ 117 ∷ 48 ∷ 48 ∷ h ∷ k ∷ []) (x ∷ []))) ≤ n
escaped_by x l h k true b n f g one = f refl
escaped_by x l h k false true n f g one = g refl
escaped_by x l h k false false n f g one = one

escape_within : (x n : ℕ) → (nat_lt 0 (escape_letter x) ≡ true → 2 ≤ n) → (nat_lt x 32 ≡ true → 6 ≤ n) → 1 ≤ n
    → length (escape_byte x) ≤ n
unfolding escape_byte
escape_within x n f g one =
    escaped_by x (escape_letter x) (digit_char (x / 16)) (digit_char (x % 16)) (nat_lt 0 (escape_letter x))
    (nat_lt x 32) n f g one

escape_any : (x : ℕ) → length (escape_byte x) ≤ 6
escape_any x = escape_within x 6 (λ _. omega arith) (λ _. omega arith) (omega arith)

no_letter : (x : ℕ) → (x == 34) ≡ false → (x == 92) ≡ false → 32 ≤ x → escape_letter x ≡ 0
no_letter x q b l = grind (arith, nat_tests, q, b)

escape_plain : (x : ℕ) → (x == 34) ≡ false → (x == 92) ≡ false → 32 ≤ x → length (escape_byte x) ≤ 1
escape_plain x q b l =
    escape_within x 1 (λ h. omega (arith, ltb-true 0 (escape_letter x) h, no_letter x q b l))
    (λ h. omega (arith, ltb-true x 32 h)) (omega arith)

length-one : (x n : ℕ) → length (escape_byte x) ≤ n → length (escape (x ∷ [])) ≤ n
length-one x n h = omega (arith, h, length-append (escape_byte x) [])

high : (x : ℕ) → 128 ≤ x → length (escape_byte x) ≤ 1
high x h = escape_plain x (grind (arith, nat_tests)) (grind (arith, nat_tests)) (omega arith)

abbrev AreHigh : List ℕ → Type 0
AreHigh [] = ⊤
AreHigh (x ∷ xs) = (128 ≤ x) × AreHigh xs

escape_high : (xs : List ℕ) → AreHigh xs → length (escape xs) ≤ length xs
escape_high [] h = omega arith
escape_high (x ∷ xs) h = omega (arith, high x h.0, escape_high xs h.1, length-append (escape_byte x) (escape xs))

encoded_by : (u : ℕ) (a b c : Bool) (p q r s t v w x y : ℕ) → 128 ≤ p → 128 ≤ q → 128 ≤ r → 128 ≤ s → 128 ≤ t → 128 ≤ v
    → 128 ≤ w → 128 ≤ x → 128 ≤ y
    → length (escape (cond a (u ∷ []) (cond b (p ∷ q ∷ []) (cond c (r ∷ s ∷ t ∷ []) (v ∷ w ∷ x ∷ y ∷ []))))) ≤ 6
encoded_by u true b c p q r s t v w x y hp hq hr hs ht hv hw hx hy = length-one u 6 (escape_any u)
encoded_by u false true c p q r s t v w x y hp hq hr hs ht hv hw hx hy =
    omega (arith, escape_high (p ∷ q ∷ []) (hp, (hq, tt)))
encoded_by u false false true p q r s t v w x y hp hq hr hs ht hv hw hx hy =
    omega (arith, escape_high (r ∷ s ∷ t ∷ []) (hr, (hs, (ht, tt))))
encoded_by u false false false p q r s t v w x y hp hq hr hs ht hv hw hx hy =
    omega (arith, escape_high (v ∷ w ∷ x ∷ y ∷ []) (hv, (hw, (hx, (hy, tt)))))

escape_encoded : (u : ℕ) → length (escape (encode_utf8 u)) ≤ 6
unfolding encode_utf8
escape_encoded u =
    encoded_by u (nat_lt u 128) (nat_lt u 2048) (nat_lt u 65536) _ _ _ _ _ _ _ _ _ (omega arith) (omega arith)
    (omega arith) (omega arith) (omega arith) (omega arith) (omega arith) (omega arith) (omega arith)

-- what a short escape stands for is escaped in two bytes
abbrev Fine : Option ℕ → Type 0
Fine None = ⊤
Fine (Some c) = length (escape_byte c) ≤ 2

fine_if : (b : Bool) (x y : Option ℕ) → (b ≡ true → Fine x) → Fine y → Fine (cond b x y)
fine_if true x y f g = f refl
fine_if false x y f g = g

stands_for_itself : (x : ℕ) → ((x == 34) || (x == 92) || (x == 47)) ≡ true → 34 ≤ x
stands_for_itself x h = grind (arith, nat_tests, h)

short_fine : (x : ℕ) → Fine (short_escape x)
unfolding short_escape escape_byte
short_fine x =
    fine_if ((x == 34) || (x == 92) || (x == 47)) (Some x) _
    (λ h. escape_within x 2 (λ _. omega arith) (λ l. omega (arith, ltb-true x 32 l, stands_for_itself x h))
    (omega arith))
    (fine_if (x == 98) (Some 8) _ (λ _. omega arith) (fine_if (x == 102) (Some 12) _ (λ _. omega arith)
    (fine_if (x == 110) (Some 10) _ (λ _. omega arith) (fine_if (x == 114) (Some 13) _ (λ _. omega arith)
    (fine_if (x == 116) (Some 9) None (λ _. omega arith) tt)))))

fine_at : (o : Option ℕ) (c : ℕ) → Fine o → o ≡ Some c → length (escape_byte c) ≤ 2
fine_at o c h e = subst Fine e h

-- ---- how far the lexer goes within a string

passes : (o s : Bool) (k : Mode → ℕ) → span_byte in_string (cond o operator (cond s space other)) k ≡ 1 + k in_string
passes true s k = refl
passes false true k = refl
passes false false k = refl

span_plain : (x : ℕ) (xs : List ℕ) → (x == 34) ≡ false → (x == 92) ≡ false
    → span in_string (x ∷ xs) ≡ 1 + span in_string xs
unfolding span
span_plain x xs q b =
    (λ i. span_byte in_string (cond (q i) quote (cond (b i) backslash (cond (is_operator x) operator
    (cond (is_space x) space other)))) (λ n. span n xs)) ∙ passes (is_operator x) (is_space x) (λ n. span n xs)

span_quote : (x : ℕ) (xs : List ℕ) → (x == 34) ≡ true → span in_string (x ∷ xs) ≡ 1
unfolding span
span_quote x xs q = ap (λ y. span in_string (y ∷ xs)) (eqb-true x 34 q)

span_backslash : (x : ℕ) (xs : List ℕ) → (x == 92) ≡ true → span in_string (x ∷ xs) ≡ 1 + span in_escape xs
unfolding span
span_backslash x xs b = ap (λ y. span in_string (y ∷ xs)) (eqb-true x 92 b)

span_escape : (x : ℕ) (xs : List ℕ) → span in_escape (x ∷ xs) ≡ 1 + span in_string xs
unfolding span
span_escape x xs = refl

not_this : (c x : ℕ) (t : Bool) → (t ≡ true → x ≡ c) → is_digit c 16 ≡ false → is_digit x 16 ≡ true → t ≡ false
not_this c x false e never h = refl
not_this c x true e never h = absurd (false≢true (sym never ∙ ap (λ y. is_digit y 16) (sym (e refl)) ∙ h))

span_hex : (x : ℕ) (xs : List ℕ) → is_digit x 16 ≡ true → span in_string (x ∷ xs) ≡ 1 + span in_string xs
span_hex x xs h =
    span_plain x xs (not_this 34 x (x == 34) (eqb-true x 34) refl h) (not_this 92 x (x == 92) (eqb-true x 92) refl h)

hex_found : (t : Bool) (n u : ℕ) → cond t (Some n) None ≡ Some u → t ≡ true
hex_found true n u e = refl
hex_found false n u e = absurd cc

span_unit : (a b c d u : ℕ) (xs : List ℕ) → code_unit a b c d ≡ Some u
    → span in_string (a ∷ b ∷ c ∷ d ∷ xs) ≡ 4 + span in_string xs
unfolding code_unit
span_unit a b c d u xs h =
    let p = and_parts (is_digit a 16 && is_digit b 16 && is_digit c 16) (is_digit d 16) (hex_found _ _ u h) in
    let q = and_parts (is_digit a 16 && is_digit b 16) (is_digit c 16) p.0 in
    let r = and_parts (is_digit a 16) (is_digit b 16) q.0 in
    omega (
      arith,
      span_hex a (b ∷ c ∷ d ∷ xs) r.0,
      span_hex b (c ∷ d ∷ xs) r.1,
      span_hex c (d ∷ xs) q.1,
      span_hex d xs p.1,
    )

-- the content, escaped again, and what the escape so far has taken
pub content_escaped : (w : Within) (xs : List ℕ) → Escaped (span (mode w) xs + begun w) (content w xs)
unfolding content
content_escaped plain [] = tt
content_escaped plain (x ∷ xs) =
    let n = span in_string (x ∷ xs) + 0 in
    both n (x == 34) _ _ (λ q. omega (arith, span_quote x xs q))
    (λ q. both n (x == 92) _ _ (λ b. more n _ _ (content_escaped after_backslash xs)
    (omega (arith, span_backslash x xs b)))
    (λ b. both n (nat_lt x 32) _ _ (λ l. tt) (λ l. longer n _ (x ∷ []) _ (content_escaped plain xs)
    (omega (arith, span_plain x xs q b, length-one x 1 (escape_plain x q b (ltb-false x 32 l)))))))
content_escaped after_backslash [] = tt
content_escaped after_backslash (x ∷ xs) =
    let n = span in_escape (x ∷ xs) + 1 in
    both n (x == 117) _ _ (λ u. more n _ _ (content_escaped after_u xs) (omega (arith, span_escape x xs)))
    (λ u. then n _ (short_escape x) (λ c e. longer n _ (c ∷ []) _ (content_escaped plain xs)
    (omega (arith, span_escape x xs, length-one c 2 (fine_at (short_escape x) c (short_fine x) e)))))
content_escaped after_u [] = tt
content_escaped after_u (a ∷ []) = tt
content_escaped after_u (a ∷ b ∷ []) = tt
content_escaped after_u (a ∷ b ∷ c ∷ []) = tt
content_escaped after_u (a ∷ b ∷ c ∷ d ∷ xs) =
    let n = span in_string (a ∷ b ∷ c ∷ d ∷ xs) + 2 in
    then n _ (code_unit a b c d) (λ u e. both n (is_high_surrogate u) _ _
    (λ h. more n _ _ (content_escaped (after_high u) xs) (omega (arith, span_unit a b c d u xs e)))
    (λ h. both n (is_low_surrogate u) _ _ (λ l. tt) (λ l. longer n _ (encode_utf8 u) _ (content_escaped plain xs)
    (omega (arith, span_unit a b c d u xs e, escape_encoded u)))))
content_escaped (after_high h) [] = tt
content_escaped (after_high h) (s ∷ []) = tt
content_escaped (after_high h) (s ∷ u ∷ []) = tt
content_escaped (after_high h) (s ∷ u ∷ a ∷ []) = tt
content_escaped (after_high h) (s ∷ u ∷ a ∷ b ∷ []) = tt
content_escaped (after_high h) (s ∷ u ∷ a ∷ b ∷ c ∷ []) = tt
content_escaped (after_high h) (s ∷ u ∷ a ∷ b ∷ c ∷ d ∷ xs) =
    let n = span in_string (s ∷ u ∷ a ∷ b ∷ c ∷ d ∷ xs) + 6 in
    both n ((s == 92) && (u == 117)) _ _ (λ e. then n _ (code_unit a b c d) (λ l f. both n (is_low_surrogate l) _ _
    (λ y. longer n _ (encode_utf8 (surrogate_pair h l)) _ (content_escaped plain xs)
    (omega (
      arith,
      span_backslash s (u ∷ a ∷ b ∷ c ∷ d ∷ xs) (and_parts _ _ e).0,
      span_escape u (a ∷ b ∷ c ∷ d ∷ xs),
      span_unit a b c d l xs f,
      escape_encoded (surrogate_pair h l),
    ))) (λ y. tt))) (λ e. tt)
