-- The compact text of what was read is no longer than what was read.
use Rattle.std.proofs.Common.{◌≡◌, ℕ, suc, ◌+◌, ◌-◌, ◌^◌, ◌<◌, ◌≤◌, Bool, true, false, cond, ◌&&◌, ◌==◌}
use Rattle.std.proofs.Common.{not, nat_lt}
use Rattle.std.proofs.Common.{List, [], ◌∷◌, ◌++◌, length, take, drop, map, decimal, Option, Some, None, refl}
use Rattle.std.proofs.Common.{sym, ap, subst}
use Rattle.std.proofs.Common.{◌∙◌, arith}
use Rattle.std.proofs.lemmas.Bool.{and_parts, ltb-true}
use Rattle.std.proofs.lemmas.Bool.Decides.{nat_tests}
use Rattle.std.proofs.lemmas.Fmt.{length-decimal-le}
use Rattle.std.proofs.lemmas.Int.Digits.{digits_value-lt}
use Rattle.std.proofs.lemmas.List.{length-append, length-take, append-nil}
use Rattle.std.specs.Prelude.{option_map, option_and_then, slice_index}
use Rattle.std.specs.Char.{is_ascii_digit, digit_value}
use Rattle.std.specs.Float.Numeral.{scan_numeral, Parts}
use Rattle.std.specs.List.{prefix_len}
use Rattle.std.specs.Str.Parse.{AllDigits, digits_value}
use Rattle.json.specs.Json as json
use Rattle.json.specs.Json.{Json, Items}
use Rattle.json.specs.Lex.{fresh, between, lex, tokens}
use Rattle.json.specs.Token.{Token}
use Rattle.serde_json.specs.Data.{Num, unsigned, negative, float, Data, null, boolean, number, string, array, object}
use Rattle.serde_json.specs.Data.{Items as Values, no_items, item}
use Rattle.serde_json.specs.Read.{number_of, number_from, float_of, is_integer, of_json, of_items, read, max_depth}
use Rattle.serde_json.specs.View.{items_of}
use Rattle.serde_json.specs.Written.{compact_text, items_text}
use Rattle.std.specs.FinMap as maps
use Rattle.ps_lattice.specs.declared.register.Assignment.{Assignment}
use Rattle.ps_content.specs.declared.content.Content.{Content}
use Rattle.ps_delta.specs.declared.cell_state.CellState.{CellState}
use Rattle.ps_delta.specs.Deltas.{Entries}
use Rattle.ps_wire.specs.Fits.{DecodedFit}
use Rattle.ps_wire.specs.Line.{delta_text}
use Rattle.ps_wire.specs.Value.{register_value, count_value, pair_value, cell_value, delta_value}
use Rattle.ps_wire.proofs.CostLemmas.{span_of, spans_of, HasNoObject, HaveNoObject, ValuePays, value_pays}
use Rattle.ps_wire.proofs.CostLemmas.{punctuated}
use Rattle.ps_wire.proofs.LexLemmas.{lexed}
use Rattle.ps_wire.proofs.NumberLemmas.{negative_refused, no_float, not_true}

-- ---- numbers

digit_from_test : (x : ℕ) → is_ascii_digit x ≡ true → digit_value x < 10
digit_from_test x h = grind (arith, nat_tests, h)

front_digits : (s : List ℕ) → AllDigits 10 (take (prefix_len is_ascii_digit s) s)
front_digits [] = tt
front_digits (x ∷ xs) = one_digit x xs (is_ascii_digit x) refl (front_digits xs)
  where
    one_digit : (x : ℕ) (xs : List ℕ) (b : Bool) → is_ascii_digit x ≡ b
        → AllDigits 10 (take (prefix_len is_ascii_digit xs) xs)
        → AllDigits 10 (take (cond b (1 + prefix_len is_ascii_digit xs) 0) (x ∷ xs))
    one_digit x xs true e rest =
        let next : 1 + prefix_len is_ascii_digit xs ≡ suc (prefix_len is_ascii_digit xs) = omega arith in
        subst (λ n. AllDigits 10 (take n (x ∷ xs))) (sym next) (digit_from_test x e, rest)
    one_digit x xs false e rest = tt

-- the whole part of what is scanned is digits of the text
whole_digits : (s : List ℕ) → AllDigits 10 (scan_numeral s).whole × (length (scan_numeral s).whole ≤ length s)
unfolding scan_numeral
whole_digits s =
    let count = prefix_len is_ascii_digit s in
    let same : (0 + prefix_len is_ascii_digit s) - 0 ≡ prefix_len is_ascii_digit s = omega arith in
    let Front = λ (n : ℕ). AllDigits 10 (take n s) × (length (take n s) ≤ length s) in
    subst Front (sym same) (front_digits s, omega (arith, length-take count s))

no_fraction : (s : List ℕ) → (scan_numeral s).point ≡ false → (scan_numeral s).fraction ≡ []
unfolding scan_numeral
no_fraction s e = rw e refl

-- the decimal of a number is no longer than the digits that were read for it
unsigned_short : (p : Parts) (k : ℕ) → AllDigits 10 p.whole → (p.point ≡ false → p.fraction ≡ [])
    → (b : Bool) → (is_integer p && nat_lt (digits_value 10 (p.whole ++ p.fraction)) (2 ^ 64)) ≡ b
    → cond b (Some (unsigned (digits_value 10 (p.whole ++ p.fraction)))) (float_of false p) ≡ Some (unsigned k)
    → length (decimal k) ≤ length p.whole
unsigned_short p k digits alone true h e =
    let both = and_parts (is_integer p) (nat_lt (digits_value 10 (p.whole ++ p.fraction)) (2 ^ 64)) h in
    let inner = and_parts (nat_lt 0 (length p.whole) && not p.point) (length p.exponent == 0) both.0 in
    let start = and_parts (nat_lt 0 (length p.whole)) (not p.point) inner.0 in
    let text : p.whole ++ p.fraction ≡ p.whole =
    ap (λ f. p.whole ++ f) (alone (not_true p.point start.1)) ∙ append-nil p.whole in
    let value : digits_value 10 p.whole ≡ k = ap (λ t. digits_value 10 t) (sym text) ∙ cc in
    let small = ltb-true (digits_value 10 (p.whole ++ p.fraction)) (2 ^ 64) both.1 in
    length-decimal-le (length p.whole) k (ltb-true 0 (length p.whole) start.0)
    (subst (λ n. n < 10 ^ length p.whole) value (digits_value-lt 10 p.whole digits))
    (subst (λ n. n < 2 ^ 64) (ap (λ t. digits_value 10 t) text ∙ value) small)
unsigned_short p k digits alone false h e = absurd (no_float p false k e)

decimal_short : (s : List ℕ) (k : ℕ) → number_of s ≡ Some (unsigned k) → length (decimal k) ≤ length s
unfolding number_of
decimal_short s k e = by_sign (slice_index s 0 == 45) e
  where
    by_sign : (b : Bool) → cond b (number_from true (scan_numeral (drop 1 s))) (number_from false (scan_numeral s))
        ≡ Some (unsigned k) → length (decimal k) ≤ length s
    by_sign true f = absurd (negative_refused (scan_numeral (drop 1 s)) k _ _ f)
    by_sign false f =
        let whole = whole_digits s in
        omega (arith, whole.1, unsigned_short (scan_numeral s) k whole.0 (no_fraction s) _ refl f)

-- ---- values

abbrev mutual
  pub IsSimple : Data → Type 0
  IsSimple null = Unit {0}
  IsSimple (boolean b) = ⊥
  IsSimple (number (unsigned n)) = Unit {0}
  IsSimple (number (negative z)) = ⊥
  IsSimple (number (float x)) = ⊥
  IsSimple (string s) = Unit {0}
  IsSimple (array ds) = AreSimple ds
  IsSimple (object ms) = ⊥

  pub AreSimple : Values → Type 0
  AreSimple no_items = Unit {0}
  AreSimple (item d ds) = IsSimple d × AreSimple ds

-- the JSON has no object, and takes at least the bytes of the value's compact text
pub record Covers (j : Json) (d : Data) : Type 0 where
  pub flat : HasNoObject j
  pub short : length (compact_text d) ≤ span_of j

pub record Cover (later : Bool) (js : Items) (ds : Values) : Type 0 where
  pub flat : HaveNoObject js
  pub short : length (items_text later ds) ≤ spans_of later js

numbered : (s : List ℕ) (d : Data) (o : Option Num) → number_of s ≡ o → option_map number o ≡ Some d → IsSimple d
    → Covers (json.number s) d
numbered s d None is e h = absurd cc
numbered s d (Some (unsigned k)) is e h =
    let same : number (unsigned k) ≡ d = cc in
    subst (Covers (json.number s)) same (record { flat = tt; short = decimal_short s k is })
numbered s d (Some (negative z)) is e h =
    let same : number (negative z) ≡ d = cc in absurd (subst IsSimple (sym same) h)
numbered s d (Some (float x)) is e h =
    let same : number (float x) ≡ d = cc in absurd (subst IsSimple (sym same) h)

arrayed : (js : Items) (d : Data) (o : Option Values) → ((ds : Values) → o ≡ Some ds → AreSimple ds → Cover false js ds)
    → option_map array o ≡ Some d → IsSimple d → Covers (json.array js) d
arrayed js d None each e h = absurd cc
arrayed js d (Some ds) each e h =
    let same : array ds ≡ d = cc in
    let inside = each ds refl (subst IsSimple (sym same) h) in
    subst (Covers (json.array js)) same (record { flat = inside.flat; short = omega (arith, inside.short) })

objected : (ms : json.Members) (d : Data) (o : Option _) → option_map object o ≡ Some d → IsSimple d
    → Covers (json.object ms) d
objected ms d None e h = absurd cc
objected ms d (Some found) e h = let same : object found ≡ d = cc in absurd (subst IsSimple (sym same) h)

one_more : (later : Bool) (j : Json) (js : Items) (d : Data) (ds : Values) → Covers j d → Cover true js ds
    → Cover later (json.item j js) (item d ds)
one_more true j js d ds h k = record {
  flat = (h.flat, k.flat);
  short = omega (arith, h.short, k.short, length-append (compact_text d) (items_text true ds));
}
one_more false j js d ds h k = record {
  flat = (h.flat, k.flat);
  short = omega (arith, h.short, k.short, length-append (compact_text d) (items_text true ds));
}

itemed : (later : Bool) (j : Json) (js : Items) (all : Values) (o : Option Data) (p : Option Values)
    → ((d : Data) → o ≡ Some d → IsSimple d → Covers j d)
    → ((ds : Values) → p ≡ Some ds → AreSimple ds → Cover true js ds)
    → option_and_then (λ d. option_map (item d) p) o ≡ Some all → AreSimple all → Cover later (json.item j js) all
itemed later j js all None p first rest e h = absurd cc
itemed later j js all (Some d) None first rest e h = absurd cc
itemed later j js all (Some d) (Some ds) first rest e h =
    let same : item d ds ≡ all = cc in
    let simple = subst AreSimple (sym same) h in
    subst (Cover later (json.item j js)) same (one_more later j js d ds (first d refl simple.0) (rest ds refl simple.1))

mutual
  covers : (j : Json) (d : Data) → of_json j ≡ Some d → IsSimple d → Covers j d
  covers json.null d e h =
      let same : null ≡ d = cc in subst (Covers json.null) same (record { flat = tt; short = omega arith })
  covers (json.boolean b) d e h = let same : boolean b ≡ d = cc in absurd (subst IsSimple (sym same) h)
  covers (json.number s) d e h = numbered s d (number_of s) refl e h
  covers (json.string s) d e h =
      let same : string s ≡ d = cc in subst (Covers (json.string s)) same (record { flat = tt; short = omega arith })
  covers (json.array js) d e h = arrayed js d (of_items js) (λ ds f k. cover false js ds f k) e h
  covers (json.object ms) d e h = objected ms d _ e h

  cover : (later : Bool) (js : Items) (ds : Values) → of_items js ≡ Some ds → AreSimple ds → Cover later js ds
  cover later json.no_items ds e h =
      let same : no_items ≡ ds = cc in
      subst (Cover later json.no_items) same (record { flat = tt; short = omega arith })
  cover later (json.item j js) ds e h =
      itemed later j js ds (of_json j) (of_items js) (λ d f k. covers j d f k) (λ rest f k. cover true js rest f k) e h

-- ---- the whole text

whole_value : (o : Option (Json × List Token)) (d : Data)
    → option_and_then of_json (option_and_then (λ p. json.if_last p.0 p.1) o) ≡ Some d
    → (j : Json) × (o ≡ Some (j, [])) × (of_json j ≡ Some d)
whole_value None d e = absurd cc
whole_value (Some (j, [])) d e = (j, refl, e)
whole_value (Some (j, t ∷ ts)) d e = absurd cc

pub compact_short : (text : List ℕ) (d : Data) → read text ≡ Some d → IsSimple d → length (compact_text d) ≤ length text
compact_short text d e h =
    let found = whole_value (json.value max_depth (tokens text)) d e in
    let covered = covers found.0 d found.2 h in
    let pays = subst (ValuePays (tokens text)) found.1 (value_pays max_depth (tokens text)) in
    omega (arith, covered.short, pays covered.flat false, punctuated fresh (lex between text), lexed text)

-- ---- deltas

each_simple : {X : Type 0} (f : X → Data) → ((x : X) → IsSimple (f x)) → (xs : List X) → AreSimple (items_of (map f xs))
each_simple f simple [] = tt
each_simple f simple (x ∷ xs) = (simple x, each_simple f simple xs)

register_simple : (r : Option (Assignment Content)) → IsSimple (register_value r)
register_simple None = tt
register_simple (Some a) = (tt, (tt, (tt, tt)))

cell_simple : (e : ℕ × CellState) → IsSimple (cell_value e)
unfolding cell_value
cell_simple e = (
  tt,
  (
    register_simple e.1.register,
    (
      each_simple count_value (λ c. (tt, (tt, (tt, tt)))) (maps.entries e.1.tally),
      (each_simple pair_value (λ p. (tt, (tt, (tt, (tt, tt))))) (maps.entries e.1.choice), tt),
    ),
  ),
)

delta_simple : (delta : Entries) → IsSimple (delta_value delta)
unfolding delta_value
delta_simple delta = each_simple cell_value cell_simple delta

pub decoded_fit : DecodedFit
unfolding delta_text
decoded_fit bytes delta line =
    let short = compact_short bytes (delta_value delta) line.read (delta_simple delta) in
    (short, omega (arith, short, line.fits))
