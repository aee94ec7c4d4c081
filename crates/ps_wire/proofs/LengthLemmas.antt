-- How long texts are at most.
use Rattle.std.proofs.Common.{◌≡◌, ◌⊎◌, inl, inr, ℕ, zero, suc, ◌+◌, ◌-◌, ◌*◌, ◌/◌, ◌%◌, ◌<◌}
use Rattle.std.proofs.Common.{◌≤◌, ◌^◌, Bool, true, false, cond}
use Rattle.std.proofs.Common.{List, [], ◌∷◌, map, length, get_or, Option, Some, None, refl, sym}
use Rattle.std.proofs.Common.{◌∙◌, arith}
use Rattle.std.proofs.Common.{length-append}
use Rattle.std.proofs.Math.Nat.{mul-suc}
use Rattle.std.proofs.lemmas.Bool.{and_parts}
use Rattle.std.proofs.lemmas.Fmt.{length-decimal-le, length_signed_le}
use Rattle.std.specs.Prelude.{nat_lt}
use Rattle.std.specs.Fmt.{decimal}
use Rattle.std.specs.List.{All, list_all}
use Rattle.std.specs.FinMap as maps
use Rattle.std.specs.FinMap.Entries.{below_all}
use Rattle.std.specs.declared.cmp.Ordering.{Ordering}
use Rattle.std.specs.declared.cmp.Ordering.TheVariants.{Less, Equal, Greater}
use Rattle.std.specs.Ordering.{is_lt, nat_cmp, ordering_then}
use Rattle.std.proofs.lemmas.Cmp.{ranked}
use Rattle.std.proofs.lemmas.Bool.Decides.{nat_tests}
use Rattle.std.specs.Char.{digit_char}
use Rattle.json.specs.Print.{escape, escape_byte, escape_letter}
use Rattle.serde_json.specs.Data.{Data, Items, item, string}
use Rattle.serde_json.specs.View.{items_of}
use Rattle.serde_json.specs.Written.{compact_text, items_text}
use Rattle.ps_grid.specs.Place.{cell_name, column_name, column_of, row_of, letter_of}
use Rattle.ps_grid.specs.declared.size.TheConstants.{CELLS, LETTERS}
use Rattle.ps_lattice.specs.declared.register.Assignment.{Assignment}
use Rattle.ps_lattice.specs.declared.tally.Count.{Count}
use Rattle.ps_lattice.specs.declared.choice.Pair.{Pair}
use Rattle.ps_grid.specs.declared.parties.TheConstants.{REPLICAS}
use Rattle.ps_lattice.specs.declared.limits.TheConstants.{SEQUENCES, LAST_TIME, COUNT_LIMIT}
use Rattle.ps_lattice.specs.Register.{is_stamp}
use Rattle.ps_lattice.specs.Tally.{is_count, is_tally}
use Rattle.ps_lattice.specs.Choice.{is_pair, is_choice, pair_cmp}
use Rattle.ps_value.proofs.LabelLemmas.{IsLabel-short}
use Rattle.ps_formula.specs.declared.formula.TheConstants.{LONGEST_TEXT}
use Rattle.ps_content.specs.Content.{canonical_text, IsContent}
use Rattle.ps_content.specs.declared.content.Content.{Content}
use Rattle.ps_content.specs.declared.content.Content.TheVariants.{Blank, Number, Text, Formula, Tally, Choice}
use Rattle.ps_delta.specs.declared.cell_state.CellState.{CellState}
use Rattle.ps_wire.specs.Length.{size}
use Rattle.ps_wire.specs.Value.{array_of, whole, register_value, count_value, pair_value, cell_value, gone_number}
use Rattle.ps_wire.specs.Value.{IsRegister, IsState}
use Rattle.ps_wire.proofs.ArrayLemmas.{All-list_all}

-- ---- texts of values

-- an item, a comma before it, and what stands after it
size-item : (later : Bool) (d : Data) (ds : Items)
    → length (items_text later (item d ds)) ≤ 1 + size d + length (items_text true ds)
size-item true d ds = omega (arith, length-append (compact_text d) (items_text true ds))
size-item false d ds = omega (arith, length-append (compact_text d) (items_text true ds))

pub size-three : (a b c : Data) → size (array_of (a ∷ b ∷ c ∷ [])) ≤ 5 + size a + size b + size c
size-three a b c =
    omega (
      arith,
      size-item false a (items_of (b ∷ c ∷ [])),
      size-item true b (items_of (c ∷ [])),
      size-item true c (items_of []),
    )

pub size-four : (a b c d : Data) → size (array_of (a ∷ b ∷ c ∷ d ∷ [])) ≤ 6 + size a + size b + size c + size d
size-four a b c d =
    omega (
      arith,
      size-item false a (items_of (b ∷ c ∷ d ∷ [])),
      size-item true b (items_of (c ∷ d ∷ [])),
      size-item true c (items_of (d ∷ [])),
      size-item true d (items_of []),
    )

-- items of at most m bytes
items_size : {X : Type 0} (f : X → Data) (m : ℕ) (later : Bool) (xs : List X) → All (λ x. size (f x) ≤ m) xs
    → length (items_text later (items_of (map f xs))) ≤ 1 + (m + 1) * length xs
items_size f m later [] short = omega arith
items_size f m later (x ∷ xs) short =
    let here = short 0 x (omega arith) in
    let rest = items_size f m true xs (λ i d within. short (suc i) d (omega arith)) in
    let first = size-item later (f x) (items_of (map f xs)) in
    let product = mul-suc (m + 1) (length xs) in
    omega (arith, here, rest, first, product)

pub size-each : {X : Type 0} (f : X → Data) (m : ℕ) (xs : List X) → All (λ x. size (f x) ≤ m) xs
    → size (array_of (map f xs)) ≤ 2 + (m + 1) * length xs
size-each f m xs short = omega (arith, items_size f m false xs short)

-- ---- strings

escaped_by : (x l h k : ℕ) (a b : Bool)
    → length (cond a (92 ∷ l ∷ []) (cond b (92 ∷ 117 ∷ 48 ∷ 48 ∷ h ∷ k ∷ []) (x ∷ []))) ≤ 6
escaped_by x l h k true b = omega arith
escaped_by x l h k false true = omega arith
escaped_by x l h k false false = omega arith

length-escape_byte : (x : ℕ) → length (escape_byte x) ≤ 6
unfolding escape_byte
length-escape_byte x =
    escaped_by x (escape_letter x) (digit_char (x / 16)) (digit_char (x % 16)) (nat_lt 0 (escape_letter x))
    (nat_lt x 32)

length-escape : (s : List ℕ) → length (escape s) ≤ 6 * length s
length-escape [] = omega arith
length-escape (x ∷ s) =
    omega (arith, length-escape s, length-escape_byte x, length-append (escape_byte x) (escape s))

size-string : (s : List ℕ) → size (string s) ≤ 2 + 6 * length s
size-string s = omega (arith, length-escape s, length-append (escape s) (34 ∷ []))

-- ---- parts of cells

-- a number below a power of ten
pub size-whole : (k n : ℕ) → 0 < k → n < 10 ^ k → n < 2 ^ 64 → size (whole n) ≤ k
size-whole k n some below small = length-decimal-le k n some below small

column_name-short : (column : ℕ) (b : Bool)
    → length (cond b (letter_of column ∷ []) (letter_of (column / LETTERS - 1) ∷ letter_of (column % LETTERS) ∷ [])) ≤ 2
column_name-short column true = omega arith
column_name-short column false = omega arith

pub name-short : (c : ℕ) → c < CELLS → length (cell_name c) ≤ 6
name-short c below =
    let row : row_of c < 10 ^ 4 = omega arith in
    let digits = length-decimal-le 4 (row_of c) (omega arith) row (omega arith) in
    let letters = column_name-short (column_of c) (nat_lt (column_of c) LETTERS) in
    omega (arith, digits, letters, length-append (column_name (column_of c)) (decimal (row_of c)))

content-short : (c : Content) → IsContent c → length (canonical_text c) ≤ LONGEST_TEXT
content-short Blank h = omega arith
content-short (Number z) h = omega (arith, length_signed_le 19 z (omega (arith, h.sfits)) h.sfits)
content-short (Text t) h = omega (arith, IsLabel-short t h)
content-short (Formula t) h = omega (arith, h.1)
content-short Tally h = omega arith
content-short Choice h = omega arith

-- the parts of a stamp in range
pub stamp_ranges : (time replica : ℕ) → is_stamp time replica ≡ true → (time ≤ LAST_TIME) × (replica ≤ REPLICAS)
stamp_ranges time replica h = grind (arith, nat_tests, h)

pub size-register : (r : Option (Assignment Content)) → IsRegister r → size (register_value r) ≤ 1565
size-register None h = omega arith
size-register (Some a) h =
    let ranges = stamp_ranges a.time a.replica h.0 in
    let time = size-whole 16 a.time (omega arith) (omega (arith, ranges.0)) (omega (arith, ranges.0)) in
    let replica = size-whole 2 a.replica (omega arith) (omega (arith, ranges.1)) (omega (arith, ranges.1)) in
    let text = size-string (canonical_text a.content) in
    omega (
      arith,
      time,
      replica,
      text,
      content-short a.content h.1,
      size-three (whole a.time) (whole a.replica) (string (canonical_text a.content)),
    )

pub count_ranges : (e : ℕ × Count) → is_count e ≡ true
    → (1 ≤ e.0) × (e.0 ≤ REPLICAS) × (e.1.added ≤ COUNT_LIMIT) × (e.1.subtracted ≤ COUNT_LIMIT)
count_ranges e h = grind (arith, nat_tests, h)

size-count : (e : ℕ × Count) → is_count e ≡ true → size (count_value e) ≤ 33
size-count e h =
    let ranges = count_ranges e h in
    let replica = size-whole 2 e.0 (omega arith) (omega (arith, ranges.1)) (omega (arith, ranges.1)) in
    let added = size-whole 13 e.1.added (omega arith) (omega (arith, ranges.2)) (omega (arith, ranges.2)) in
    let subtracted = size-whole 13 e.1.subtracted (omega arith) (omega (arith, ranges.3)) (omega (arith, ranges.3)) in
    omega (arith, replica, added, subtracted, size-three (whole e.0) (whole e.1.added) (whole e.1.subtracted))

pub pair_ranges : (e : Pair × Bool) → is_pair e ≡ true
    → (e.0.option < 100) × (1 ≤ e.0.replica) × (e.0.replica ≤ REPLICAS) × (1 ≤ e.0.sequence)
    × (e.0.sequence ≤ SEQUENCES)
pair_ranges e h = grind (arith, nat_tests, h)

gone_small : (b : Bool) → gone_number b < 10
gone_small true = omega arith
gone_small false = omega arith

size-pair : (e : Pair × Bool) → is_pair e ≡ true → size (pair_value e) ≤ 14
size-pair e h =
    let ranges = pair_ranges e h in
    let option = size-whole 2 e.0.option (omega arith) (omega (arith, ranges.0)) (omega (arith, ranges.0)) in
    let replica = size-whole 2 e.0.replica (omega arith) (omega (arith, ranges.2)) (omega (arith, ranges.2)) in
    let sequence = size-whole 3 e.0.sequence (omega arith) (omega (arith, ranges.4)) (omega (arith, ranges.4)) in
    let small = gone_small e.1 in
    let gone = size-whole 1 (gone_number e.1) (omega arith) (omega (arith, small)) (omega (arith, small)) in
    omega (
      arith,
      option,
      replica,
      sequence,
      gone,
      size-four (whole e.0.option) (whole e.0.replica) (whole e.0.sequence) (whole (gone_number e.1)),
    )

-- ---- how many entries rise

lt_is_less : (r : Ordering) → is_lt r ≡ true → r ≡ Less
lt_is_less Less e = refl
lt_is_less Equal e = cc
lt_is_less Greater e = cc

module _ {K X : Type 0} (R : K → K → Ordering) (Good : K → Type 0) (rank : K → ℕ)
    (rises : (x y : K) → Good x → Good y → R x y ≡ Less → rank x < rank y) where
  above : (x : K) (es : List (K × X)) → Good x → All (λ e. Good e.0) es → below_all R x es ≡ true
      → All (λ e. rank x < rank e.0) es
  above x [] here good h i d within = absurd (omega arith)
  above x (e ∷ es) here good h zero d within =
      rises x e.0 here (good 0 e (omega arith))
      (lt_is_less (R x e.0) (and_parts (is_lt (R x e.0)) (below_all R x es) h).0)
  above x (e ∷ es) here good h (suc i) d within =
      above x es here (λ k f w. good (suc k) f (omega arith)) (and_parts (is_lt (R x e.0)) (below_all R x es) h).1 i d
      (omega arith)

  -- entries whose keys rise and have ranks from low to below high
  pub how_many : (low high : ℕ) (es : List (K × X)) → maps.is_sorted R es ≡ true → All (λ e. Good e.0) es
      → All (λ e. (low ≤ rank e.0) × (rank e.0 < high)) es → length es ≤ high - low
  how_many low high [] h good ranks = omega arith
  how_many low high (e ∷ es) h good ranks =
      let first = ranks 0 e (omega arith) in
      let others = λ (k : ℕ) (f : K × X) (w : k < length es). good (suc k) f (omega arith) in
      let higher = above e.0 es (good 0 e (omega arith)) others (sorted_head_of e es h) in
      let rest = how_many (low + 1) high es (sorted_rest_of e es h) others
      (λ k f w. (omega (arith, first.0, higher k f w), (ranks (suc k) f (omega arith)).1)) in
      omega (arith, first.0, first.1, rest)
    where
      sorted_head_of : (e : K × X) (es : List (K × X)) → maps.is_sorted R (e ∷ es) ≡ true → below_all R e.0 es ≡ true
      sorted_head_of e es h = (and_parts (below_all R e.0 es) (maps.is_sorted R es) h).0

      sorted_rest_of : (e : K × X) (es : List (K × X)) → maps.is_sorted R (e ∷ es) ≡ true → maps.is_sorted R es ≡ true
      sorted_rest_of e es h = (and_parts (below_all R e.0 es) (maps.is_sorted R es) h).1

less_number : (a b : ℕ) → nat_cmp a b ≡ Less → a < b
less_number a b e = ranked a b Less (sym e)

-- at most as many counts as there are replicas
pub counts_few : (es : List (ℕ × Count)) → is_tally es ≡ true → length es ≤ REPLICAS
counts_few es h =
    let both = and_parts (maps.is_sorted nat_cmp es) (list_all is_count es) h in
    let each = All-list_all is_count es both.1 in
    how_many nat_cmp (λ _. Unit {0}) (λ k. k) (λ x y _ _ e. less_number x y e) 1 (REPLICAS + 1) es both.0 (λ _ _ _. tt)
    (λ i d within. let r = count_ranges (get_or es i d) (each i d within) in (omega (arith, r.0), omega (arith, r.1)))

-- a pair of the option, with a replica and a sequence in range
record IsOf (option : ℕ) (p : Pair) : Type 0 where
  same : p.option ≡ option
  some : 1 ≤ p.sequence
  few : p.sequence ≤ SEQUENCES

abbrev place : Pair → ℕ
place p = p.replica * SEQUENCES + p.sequence

by_replica : (a b c d : ℕ) → ordering_then (nat_cmp a b) (nat_cmp c d) ≡ Less → (a < b) ⊎ ((a ≡ b) × (c < d))
by_replica a b c d e = grind (arith, nat_tests, e)

same_option : (a b : ℕ) (o : Ordering) → a ≡ b → ordering_then (nat_cmp a b) o ≡ Less → o ≡ Less
same_option a b o same e = grind (arith, nat_tests, e)

places_rise : (option : ℕ) (p q : Pair) → IsOf option p → IsOf option q → pair_cmp p q ≡ Less → place p < place q
places_rise option p q h k e =
    let within = same_option p.option q.option _ (h.same ∙ sym k.same) e in
    elim (by_replica p.replica q.replica p.sequence q.sequence within) [
      | inl less ↦ omega (arith, less, h.few, k.some)
      | inr both ↦ omega (arith, both.0, both.1)
    ]

-- at most as many pairs of one option as there are replicas with sequences
pub pairs_few : (option : ℕ) (es : List (Pair × Bool)) → is_choice es ≡ true → All (λ e. e.0.option ≡ option) es
    → length es ≤ REPLICAS * SEQUENCES
pairs_few option es h same =
    let both = and_parts (maps.is_sorted pair_cmp es) (list_all is_pair es) h in
    let each = All-list_all is_pair es both.1 in
    how_many pair_cmp (IsOf option) place (places_rise option) (SEQUENCES + 1)
    (REPLICAS * SEQUENCES + SEQUENCES + 1) es both.0
    (λ i d within. let r = pair_ranges (get_or es i d) (each i d within) in
    record { same = same i d within; some = r.3; few = omega (arith, r.4) })
    (λ i d within. let r = pair_ranges (get_or es i d) (each i d within) in
    (omega (arith, r.1, r.3), omega (arith, r.2, r.4)))

pub size-counts : (es : List (ℕ × Count)) → is_tally es ≡ true → size (array_of (map count_value es)) ≤ 1100
size-counts es h =
    let both = and_parts (maps.is_sorted nat_cmp es) (list_all is_count es) h in
    let each = All-list_all is_count es both.1 in
    omega (
      arith,
      size-each count_value 33 es (λ i d within. size-count (get_or es i d) (each i d within)),
      counts_few es h,
    )

pub size-pairs : (option : ℕ) (es : List (Pair × Bool)) → is_choice es ≡ true → All (λ e. e.0.option ≡ option) es
    → size (array_of (map pair_value es)) ≤ 122890
size-pairs option es h same =
    let both = and_parts (maps.is_sorted pair_cmp es) (list_all is_pair es) h in
    let each = All-list_all is_pair es both.1 in
    omega (
      arith,
      size-each pair_value 14 es (λ i d within. size-pair (get_or es i d) (each i d within)),
      pairs_few option es h same,
    )

-- a cell: its name, its register, its counts and its pairs
pub size-cell : (e : ℕ × CellState) → e.0 < CELLS → IsState e.1
    → size (cell_value e) ≤ 1609 + size (array_of (map count_value (maps.entries e.1.tally)))
    + size (array_of (map pair_value (maps.entries e.1.choice)))
unfolding cell_value
size-cell e below state =
    omega (
      arith,
      name-short e.0 below,
      size-string (cell_name e.0),
      size-register e.1.register state.register,
      size-four (string (cell_name e.0)) (register_value e.1.register)
          (array_of (map count_value (maps.entries e.1.tally)))
          (array_of (map pair_value (maps.entries e.1.choice))),
    )
