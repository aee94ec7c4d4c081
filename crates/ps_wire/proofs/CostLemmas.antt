-- A JSON text has a byte for each byte of what is printed again: from lexemes to values. Texts with objects and
-- booleans, which no delta has, are left out.
use Rattle.std.proofs.Common.{◌≡◌, ℕ, zero, suc, ◌+◌, ◌≤◌, Bool, true, false, List, [], ◌∷◌, length}
use Rattle.std.proofs.Common.{Option, Some, None, refl, arith}
use Rattle.std.specs.Prelude.{option_and_then}
use Rattle.json.specs.Token.{Token, begin_object, end_object, begin_array, end_array, key, string, number}
use Rattle.json.specs.Token.{boolean, null, bad}
use Rattle.json.specs.Lex.{Lexeme, token, comma, colon, Place, fresh, after_value, after_comma, after_key, punctuate}
use Rattle.json.specs.Lex.{place_token, begins_colon}
use Rattle.json.specs.Print.{quoted}
use Rattle.json.specs.Json as json
use Rattle.json.specs.Json.{Json, Items, Parse, parse_map, after_end_array, items_step, items, value_with, value}

-- a comma, where a value stands before
abbrev comma_of : Bool → ℕ
comma_of true = 1
comma_of false = 0

-- the bytes that a token takes
abbrev pub width : Token → ℕ
width begin_object = 1
width end_object = 1
width begin_array = 1
width end_array = 1
width (key s) = length (quoted s)
width (string s) = length (quoted s)
width (number s) = length s
width (boolean b) = 0
width null = 4
width bad = 0

abbrev pub weight : List Lexeme → ℕ
weight [] = 0
weight (token t ∷ ls) = width t + weight ls
weight (comma ∷ ls) = 1 + weight ls
weight (colon ∷ ls) = 1 + weight ls

-- the bytes that the tokens take, with commas between values, up to the first fault
abbrev pub cost : Bool → List Token → ℕ
cost later [] = 0
cost later (begin_object ∷ ts) = comma_of later + (1 + cost false ts)
cost later (end_object ∷ ts) = 1 + cost true ts
cost later (begin_array ∷ ts) = comma_of later + (1 + cost false ts)
cost later (end_array ∷ ts) = 1 + cost true ts
cost later (key s ∷ ts) = comma_of later + (length (quoted s) + cost false ts)
cost later (string s ∷ ts) = comma_of later + (length (quoted s) + cost true ts)
cost later (number s ∷ ts) = comma_of later + (length s + cost true ts)
cost later (boolean b ∷ ts) = comma_of later + cost true ts
cost later (null ∷ ts) = comma_of later + (4 + cost true ts)
cost later (bad ∷ ts) = 0

one_comma : (ts : List Token) → cost true ts ≤ 1 + cost false ts
one_comma [] = omega arith
one_comma (begin_object ∷ ts) = omega arith
one_comma (end_object ∷ ts) = omega arith
one_comma (begin_array ∷ ts) = omega arith
one_comma (end_array ∷ ts) = omega arith
one_comma (key s ∷ ts) = omega arith
one_comma (string s ∷ ts) = omega arith
one_comma (number s ∷ ts) = omega arith
one_comma (boolean b ∷ ts) = omega arith
one_comma (null ∷ ts) = omega arith
one_comma (bad ∷ ts) = omega arith

-- whether a value stands right before
abbrev stands_after : Place → Bool
stands_after fresh = false
stands_after after_value = true
stands_after after_comma = false
stands_after after_key = false

-- placing a token costs at most its width; a string that is a key has a clause of its own, which splits the tokens
placed : (p : Place) (t : Token) (c : Bool) (k : Place → List Token) (w : ℕ)
    → ((next : Place) → cost (stands_after next) (k next) ≤ w)
    → cost (stands_after p) (place_token p t c k) ≤ width t + w
placed fresh (string s) true k w h = omega (arith, h after_key)
placed fresh t c k w h = omega (arith, h fresh, h after_value)
placed after_comma (string s) true k w h = omega (arith, h after_key)
placed after_comma t c k w h = omega (arith, h fresh, h after_value)
placed after_value (string s) true k w h = omega arith
placed after_value t c k w h = omega (arith, h after_value)
placed after_key (string s) true k w h = omega arith
placed after_key t c k w h = omega arith

-- the commas between lexemes pay for those that are printed
pub punctuated : (p : Place) (ls : List Lexeme) → cost (stands_after p) (punctuate p ls) ≤ weight ls
unfolding punctuate
punctuated after_value (comma ∷ ls) = omega (arith, one_comma (punctuate after_comma ls), punctuated after_comma ls)
punctuated after_key (colon ∷ ls) = omega (arith, punctuated fresh ls)
punctuated p (token t ∷ ls) =
    placed p t (begins_colon ls) (λ next. punctuate next ls) (weight ls) (λ next. punctuated next ls)
punctuated p ls = omega arith

-- ---- values

-- the bytes of a value without blanks
abbrev mutual
  pub span_of : Json → ℕ
  span_of json.null = 4
  span_of (json.boolean b) = 0
  span_of (json.number s) = length s
  span_of (json.string s) = length (quoted s)
  span_of (json.array js) = 1 + spans_of false js
  span_of (json.object ms) = 0

  -- with the commas and the closing bracket
  pub spans_of : Bool → Items → ℕ
  spans_of later json.no_items = 1
  spans_of later (json.item j js) = comma_of later + (span_of j + spans_of true js)

abbrev mutual
  pub HasNoObject : Json → Type 0
  HasNoObject json.null = Unit {0}
  HasNoObject (json.boolean b) = Unit {0}
  HasNoObject (json.number s) = Unit {0}
  HasNoObject (json.string s) = Unit {0}
  HasNoObject (json.array js) = HaveNoObject js
  HasNoObject (json.object ms) = ⊥

  pub HaveNoObject : Items → Type 0
  HaveNoObject json.no_items = Unit {0}
  HaveNoObject (json.item j js) = HasNoObject j × HaveNoObject js

-- what was read takes its bytes, and the rest takes the others
abbrev pub ValuePays : List Token → Option (Json × List Token) → Type 0
ValuePays ts None = Unit {0}
ValuePays ts (Some p) =
    HasNoObject p.0 → (later : Bool) → comma_of later + (span_of p.0 + cost true p.1) ≤ cost later ts

abbrev pub ItemsPay : Bool → List Token → Option (Items × List Token) → Type 0
ItemsPay later ts None = Unit {0}
ItemsPay later ts (Some p) = HaveNoObject p.0 → spans_of later p.0 + cost true p.1 ≤ cost later ts

abbrev EachPays : Parse Json → Type 0
EachPays p = (ts : List Token) → ValuePays ts (p ts)

closing : (later : Bool) (ts r : List Token) → after_end_array ts ≡ Some r → 1 + cost true r ≤ cost later ts
closing later [] r e = absurd cc
closing later (begin_object ∷ ts) r e = absurd cc
closing later (end_object ∷ ts) r e = absurd cc
closing later (begin_array ∷ ts) r e = absurd cc
closing later (end_array ∷ ts) r e = let same : ts ≡ r = cc in rw same (omega arith)
closing later (key s ∷ ts) r e = absurd cc
closing later (string s ∷ ts) r e = absurd cc
closing later (number s ∷ ts) r e = absurd cc
closing later (boolean b ∷ ts) r e = absurd cc
closing later (null ∷ ts) r e = absurd cc
closing later (bad ∷ ts) r e = absurd cc

joined : (later : Bool) (ts s : List Token) (j : Json)
    → (HasNoObject j → comma_of later + (span_of j + cost true s) ≤ cost later ts)
    → (o : Option (Items × List Token)) → ItemsPay true s o → ItemsPay later ts (parse_map (json.item j) o)
joined later ts s j first None rest = tt
joined later ts s j first (Some p) rest = λ flat. omega (arith, first flat.0, rest flat.1)

then_items : (later : Bool) (ts : List Token) (more : Parse Items) → ((s : List Token) → ItemsPay true s (more s))
    → (o : Option (Json × List Token)) → ValuePays ts o
    → ItemsPay later ts (option_and_then (λ p. parse_map (json.item p.0) (more p.1)) o)
then_items later ts more pays None h = tt
then_items later ts more pays (Some p) h =
    joined later ts p.1 p.0 (λ flat. h flat later) (more p.1) (pays p.1)

one_turn : (p : Parse Json) → EachPays p → (more : Parse Items) → ((s : List Token) → ItemsPay true s (more s))
    → (later : Bool) (ts : List Token) (o : Option (List Token)) → after_end_array ts ≡ o
    → ItemsPay later ts (items_step p more ts o)
one_turn p pays more rest later ts (Some r) e = λ flat. closing later ts r e
one_turn p pays more rest later ts None e = then_items later ts more rest (p ts) (pays ts)

items_pay : (p : Parse Json) → EachPays p → (n : ℕ) (later : Bool) (ts : List Token) → ItemsPay later ts (items p n ts)
unfolding items
items_pay p pays zero later ts = tt
items_pay p pays (suc n) later ts =
    one_turn p pays (items p n) (λ s. items_pay p pays n true s) later ts (after_end_array ts) refl

opened : (ts : List Token) (o : Option (Items × List Token)) → ItemsPay false ts o
    → ValuePays (begin_array ∷ ts) (parse_map json.array o)
opened ts None h = tt
opened ts (Some p) h = λ flat later. omega (arith, h flat)

no_object : (ts : List Token) (o : Option (json.Members × List Token))
    → ValuePays (begin_object ∷ ts) (parse_map json.object o)
no_object ts None = tt
no_object ts (Some p) = λ flat later. absurd flat

level : (a : Parse Items) (o : Parse json.Members) → ((ts : List Token) → ItemsPay false ts (a ts))
    → EachPays (value_with a o)
level a o pays [] = tt
level a o pays (begin_object ∷ ts) = no_object ts (o ts)
level a o pays (end_object ∷ ts) = tt
level a o pays (begin_array ∷ ts) = opened ts (a ts) (pays ts)
level a o pays (end_array ∷ ts) = tt
level a o pays (key s ∷ ts) = tt
level a o pays (string s ∷ ts) = λ flat later. omega arith
level a o pays (number s ∷ ts) = λ flat later. omega arith
level a o pays (boolean b ∷ ts) = λ flat later. omega arith
level a o pays (null ∷ ts) = λ flat later. omega arith
level a o pays (bad ∷ ts) = tt

pub value_pays : (depth : ℕ) → EachPays (value depth)
unfolding value
value_pays zero = level (λ ts. None) (λ ts. None) (λ ts. tt)
value_pays (suc depth) = level _ _ (λ ts. items_pay (value depth) (value_pays depth) (length ts) false ts)
