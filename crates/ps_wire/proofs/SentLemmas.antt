-- What a delta sends to a writer of serde, and the text that serde_json makes of it.
use Rattle.std.proofs.Common.{◌≡◌, ℕ, suc, ◌<◌, ◌≤◌, ◌^◌, Bool, true, false, List, [], ◌∷◌, map, length}
use Rattle.std.proofs.Common.{Option, Some, None, option_map, option_and_then, take, slice_set}
use Rattle.std.proofs.Common.{refl, sym, ap, ◌∙◌, arith, append-nil}
use Rattle.std.specs.Prelude.{IsUtf8}
use Rattle.std.specs.FinMap as maps
use Rattle.std.specs.List.{All, list_all}
use Rattle.std.proofs.lemmas.Bool.{and_parts}
use Rattle.std.proofs.lemmas.List.Elements.{All-head, All-tail}
use Rattle.std.proofs.lemmas.Str.{IsUtf8-append}
use Rattle.json.specs.Json as json
use Rattle.json.specs.Token.{Token}
use Rattle.json.specs.Tree.{json_tokens, HasNumbers, ItemsHaveNumbers, depth, items_depth, members_depth}
use Rattle.json.proofs.Printed.Decimals.{IsNumber-decimal}
use Rattle.json.proofs.Printed.Trees.{ArePrintable-json_tokens, value-json_tokens}
use Rattle.json.proofs.Printed.Tokens.{tokens-print}
use Rattle.json.proofs.Printed.Utf8.{IsUtf8-quoted}
use Rattle.serde.specs.Event.{Log}
use Rattle.serde_json.specs.Data.{Data, string, null, array, Items, no_items, item}
use Rattle.serde_json.specs.Data as datas
use Rattle.serde_json.specs.Events.{SendsValue, items_len}
use Rattle.serde_json.specs.Read.{read, of_json, of_items, max_depth}
use Rattle.serde_json.specs.Sent.{IsTextOf}
use Rattle.serde_json.specs.View.{items_of}
use Rattle.serde_json.specs.Written.{compact_text, items_text, outline, items_outline, members_outline, comma_if}
use Rattle.serde_json.proofs.FreeTexts.{text_of_value}
use Rattle.serde_json.proofs.Numbers.{number_of-decimal}
use Rattle.serde_json.proofs.Texts.{print-outline}
use Rattle.ps_grid.specs.Place.{cell_name}
use Rattle.ps_lattice.specs.declared.register.Assignment.{Assignment}
use Rattle.ps_lattice.specs.declared.tally.Count.{Count}
use Rattle.ps_lattice.specs.declared.choice.Pair.{Pair}
use Rattle.ps_lattice.specs.Tally.{is_count}
use Rattle.ps_lattice.specs.Choice.{is_pair}
use Rattle.ps_content.specs.Content.{canonical_text}
use Rattle.ps_content.specs.declared.content.Content.{Content}
use Rattle.ps_delta.specs.declared.cell_state.CellState.{CellState}
use Rattle.ps_delta.specs.Deltas.{Entries}
use Rattle.ps_wire.specs.Inside.{ReadsAs}
use Rattle.ps_wire.specs.Line.{IsLine, delta_text}
use Rattle.ps_wire.specs.declared.TheConstants.{DELTA_LINE_LIMIT}
use Rattle.ps_wire.specs.Value.{whole, register_value, count_value, pair_value, gone_number, cell_value}
use Rattle.ps_wire.specs.Value.{delta_value, IsLawful, IsRegister, IsState}
use Rattle.ps_wire.proofs.ArrayLemmas.{All-list_all}
use Rattle.ps_wire.proofs.AsciiLemmas.{name_utf8, tested_utf8, decimal_utf8, content_utf8}
use Rattle.ps_wire.proofs.LengthLemmas.{stamp_ranges, count_ranges, pair_ranges}
use Rattle.ps_wire.proofs.NoFloatLemmas.{delta_plain}

-- ---- what is sent

-- an array has as many items as a list
pub items_sent : {X : Type 0} (f : X → Data) (xs : List X) → items_len (items_of (map f xs)) ≡ length xs
items_sent f [] = refl
items_sent f (x ∷ xs) = ap suc (items_sent f xs)

-- a quote at the front of some bytes
pub quote_first : (bytes : List ℕ) → 0 < length bytes
    → (take 1 (slice_set bytes 0 39) ≡ 39 ∷ []) × (1 ≤ length (slice_set bytes 0 39))
quote_first [] some = absurd (omega arith)
quote_first (b ∷ bytes) some = (refl, omega arith)

-- ---- what is read in the text

-- the text of the value reads as the value, and is UTF-8
record IsReadBack (value : Data) : Type 0 where
  back : of_json (outline value) ≡ Some value
  numbers : HasNumbers (outline value)
  utf8 : IsUtf8 (compact_text value)

record AreReadBack (values : Items) : Type 0 where
  back : of_items (items_outline values) ≡ Some values
  numbers : ItemsHaveNumbers (items_outline values)
  utf8 : (later : Bool) → IsUtf8 (items_text later values)

string_back : (s : List ℕ) → IsUtf8 s → IsReadBack (string s)
string_back s utf8 = record { back = refl; numbers = tt; utf8 = IsUtf8-quoted s utf8 }

whole_back : (n : ℕ) → n < 2 ^ 64 → IsReadBack (whole n)
whole_back n within =
    record {
      back = ap (option_map datas.number) (number_of-decimal n within);
      numbers = IsNumber-decimal n within;
      utf8 = decimal_utf8 n;
    }

null_back : IsReadBack null
null_back = record { back = refl; numbers = tt; utf8 = tested_utf8 (compact_text null) refl }

none_back : AreReadBack no_items
none_back = record { back = refl; numbers = tt; utf8 = λ later. tested_utf8 (93 ∷ []) refl }

comma_utf8 : (later : Bool) → IsUtf8 (comma_if later)
comma_utf8 true = tested_utf8 (44 ∷ []) refl
comma_utf8 false = tested_utf8 [] refl

one_back : (d : Data) (ds : Items) → IsReadBack d → AreReadBack ds → AreReadBack (item d ds)
one_back d ds h k =
    record {
      back = ap (option_and_then (λ x. option_map (item x) (of_items (items_outline ds)))) h.back
          ∙ ap (option_map (item d)) k.back;
      numbers = (h.numbers, k.numbers);
      utf8 = λ later. IsUtf8-append (comma_if later) _ (comma_utf8 later)
          (IsUtf8-append (compact_text d) _ h.utf8 (k.utf8 true));
    }

array_back : (ds : Items) → AreReadBack ds → IsReadBack (array ds)
array_back ds h =
    record {
      back = ap (option_map array) h.back;
      numbers = h.numbers;
      utf8 = IsUtf8-append (91 ∷ []) (items_text false ds) (tested_utf8 (91 ∷ []) refl) (h.utf8 false);
    }

each_back : {X : Type 0} (f : X → Data) (Good : X → Type 0) → ((x : X) → Good x → IsReadBack (f x))
    → (xs : List X) → All Good xs → AreReadBack (items_of (map f xs))
each_back f Good back [] good = none_back
each_back f Good back (x ∷ xs) good =
    one_back (f x) _ (back x (All-head Good x xs good)) (each_back f Good back xs (All-tail Good x xs good))

register_back : (r : Option (Assignment Content)) → IsRegister r → IsReadBack (register_value r)
register_back None good = null_back
register_back (Some a) good =
    let ranges = stamp_ranges a.time a.replica good.0 in
    array_back _ (one_back _ _ (whole_back a.time (omega (arith, ranges.0)))
    (one_back _ _ (whole_back a.replica (omega (arith, ranges.1)))
    (one_back _ _ (string_back (canonical_text a.content) (content_utf8 a.content good.1)) none_back)))

count_back : (e : ℕ × Count) → is_count e ≡ true → IsReadBack (count_value e)
count_back e good =
    let ranges = count_ranges e good in
    array_back _ (one_back _ _ (whole_back e.0 (omega (arith, ranges.1)))
    (one_back _ _ (whole_back e.1.added (omega (arith, ranges.2)))
    (one_back _ _ (whole_back e.1.subtracted (omega (arith, ranges.3))) none_back)))

gone_back : (gone : Bool) → IsReadBack (whole (gone_number gone))
gone_back true = whole_back 1 (omega arith)
gone_back false = whole_back 0 (omega arith)

pair_back : (e : Pair × Bool) → is_pair e ≡ true → IsReadBack (pair_value e)
pair_back e good =
    let ranges = pair_ranges e good in
    array_back _ (one_back _ _ (whole_back e.0.option (omega (arith, ranges.0)))
    (one_back _ _ (whole_back e.0.replica (omega (arith, ranges.2)))
    (one_back _ _ (whole_back e.0.sequence (omega (arith, ranges.4)))
    (one_back _ _ (gone_back e.1) none_back))))

cell_back : (e : ℕ × CellState) → IsState e.1 → IsReadBack (cell_value e)
unfolding cell_value
cell_back e good =
    let counts = maps.entries e.1.tally in
    let pairs = maps.entries e.1.choice in
    let tally = each_back count_value (λ c. is_count c ≡ true) count_back counts
    (All-list_all is_count counts (and_parts _ (list_all is_count counts) good.tally).1) in
    let choice = each_back pair_value (λ p. is_pair p ≡ true) pair_back pairs
    (All-list_all is_pair pairs (and_parts _ (list_all is_pair pairs) good.choice).1) in
    array_back _ (one_back _ _ (string_back (cell_name e.0) (name_utf8 e.0))
    (one_back _ _ (register_back e.1.register good.register)
    (one_back _ _ (array_back _ tally) (one_back _ _ (array_back _ choice) none_back))))

delta_back : (delta : Entries) → All (λ e. IsState e.1) delta → IsReadBack (delta_value delta)
unfolding delta_value
delta_back delta good = array_back _ (each_back cell_value (λ e. IsState e.1) cell_back delta good)

-- the outline of a value is as deep as the value
mutual
  outline_depth : (d : Data) → depth (outline d) ≤ datas.depth d
  outline_depth null = omega arith
  outline_depth (datas.boolean b) = omega arith
  outline_depth (datas.number n) = omega arith
  outline_depth (string s) = omega arith
  outline_depth (array ds) = omega (arith, items_deep ds)
  outline_depth (datas.object ms) = omega (arith, members_deep ms)

  items_deep : (ds : Items) → items_depth (items_outline ds) ≤ datas.items_depth ds
  items_deep no_items = omega arith
  items_deep (item d ds) = omega (arith, outline_depth d, items_deep ds)

  members_deep : (ms : datas.Members) → members_depth (members_outline ms) ≤ datas.members_depth ms
  members_deep datas.no_members = omega arith
  members_deep (datas.member k d ms) = omega (arith, outline_depth d, members_deep ms)

-- the value that a text is, where nothing follows it
abbrev last_value : Option (json.Json × List Token) → Option Data
last_value parsed = option_and_then of_json (option_and_then (λ p. json.if_last p.0 p.1) parsed)

text_back : (value : Data) → IsReadBack value → datas.depth value ≤ max_depth → read (compact_text value) ≡ Some value
text_back value h shallow =
    let ts = json_tokens (outline value) in
    let again = tokens-print ts (ArePrintable-json_tokens (outline value) h.numbers) in
    let parsed = value-json_tokens (outline value) max_depth [] (omega (arith, outline_depth value, shallow)) in
    ap read (sym (print-outline value))
    ∙ ap last_value (ap (json.value max_depth) (again ∙ sym (append-nil ts)) ∙ parsed)
    ∙ h.back

-- the text of a delta is read as the delta
pub text_reads : (delta : Entries) → IsLawful delta → ReadsAs (delta_text delta) delta
unfolding delta_text
text_reads delta lawful =
    let back = delta_back delta lawful.states in
    record {
      utf8 = back.utf8;
      read = text_back (delta_value delta) back (omega (arith, (delta_plain delta).shallow));
      lawful = lawful;
    }

-- what serde_json writes for a delta is its text
pub sent_text : (delta : Entries) (log : Log) (text : List ℕ) → SendsValue (delta_value delta) (Some []) log
    → IsTextOf log text → text ≡ delta_text delta
unfolding delta_text
sent_text delta log text sent is = text_of_value (delta_value delta) log text sent is (delta_plain delta).whole

-- .. and it is a line of the delta, where it isn't too long
pub text_is_line : (delta : Entries) → length (delta_text delta) ≤ DELTA_LINE_LIMIT → IsLawful delta
    → IsLine (delta_text delta) delta
text_is_line delta fits lawful =
    let reads = text_reads delta lawful in
    record { fits = fits; utf8 = reads.utf8; read = reads.read; lawful = lawful }
