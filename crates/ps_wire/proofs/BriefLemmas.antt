-- Texts in which no byte is escaped, and how long a brief cell is at most.
use Rattle.std.proofs.Common.{◌≡◌, ◌≢◌, ℕ, ℤ, pos, negsuc, zero, suc, ◌+◌, ◌-◌, ◌/◌, ◌%◌, ◌<◌, ◌≤◌, ◌==◌}
use Rattle.std.proofs.Common.{Bool, true, false, cond, List, [], ◌∷◌, ◌++◌, map as each, length, Some}
use Rattle.std.proofs.Common.{refl, ap, ap₂, ◌∙◌, arith, nat_lt}
use Rattle.std.proofs.lemmas.Grind.{flat_map-append}
use Rattle.std.proofs.lemmas.Bool.{ltb-true}
use Rattle.std.proofs.lemmas.Fmt.{length_signed_le}
use Rattle.std.specs.Fmt.{decimal, digit_glyph, digits, digits_onto, signed_decimal}
use Rattle.json.specs.Print.{escape, escape_byte}
use Rattle.json.proofs.Printed.Strings.{escape_byte_plain}
use Rattle.serde_json.specs.Data.{string}
use Rattle.ps_grid.specs.Place.{letter_of, column_name, column_of, row_of, cell_name}
use Rattle.ps_grid.specs.declared.size.TheConstants.{CELLS, LETTERS, COLUMNS}
use Rattle.std.specs.Prelude.{FitsSigned}
use Rattle.std.specs.Int.{w64}
use Rattle.std.specs.FinMap as maps
use Rattle.ps_lattice.specs.declared.register.Assignment.{Assignment}
use Rattle.ps_lattice.specs.Register.{is_stamp}
use Rattle.ps_content.specs.Content.{canonical_text}
use Rattle.ps_content.specs.declared.content.Content.{Content}
use Rattle.ps_delta.specs.declared.cell_state.CellState.{CellState}
use Rattle.ps_wire.specs.Length.{size}
use Rattle.ps_wire.specs.Value.{array_of, whole, register_value, count_value, pair_value, cell_value}
use Rattle.ps_wire.proofs.LengthLemmas.{name-short, size-whole, stamp_ranges}
use Rattle.ps_wire.proofs.SizeLemmas.{size_of_string, size_of_three, size_of_four, size_of_none}

-- its bytes stand for themselves in a string
pub record Plain (text : List ℕ) : Type 0 where
  pub same : escape text ≡ text

none : Plain []
none = record { same = refl }

one : (b : ℕ) (bs : List ℕ) → 32 ≤ b → b ≢ 34 → b ≢ 92 → Plain bs → Plain (b ∷ bs)
one b bs printed no_quote no_backslash rest =
    record { same = ap₂ (λ x y. x ++ y) (escape_byte_plain b no_quote no_backslash printed) rest.same }

both : (a b : List ℕ) → Plain a → Plain b → Plain (a ++ b)
both a b h k = record { same = flat_map-append escape_byte a b ∙ ap₂ (λ x y. x ++ y) h.same k.same }

either : (t : Bool) (a b : List ℕ) → (t ≡ true → Plain a) → (t ≡ false → Plain b) → Plain (cond t a b)
either true a b f g = f refl
either false a b f g = g refl

-- ---- numbers and names

glyph : (d : ℕ) (bs : List ℕ) → d < 10 → Plain bs → Plain (digit_glyph false d ∷ bs)
glyph d bs small rest =
    let is : digit_glyph false d ≡ 48 + d = search arith in
    one (digit_glyph false d) bs (omega (arith, is)) (λ e. omega (arith, is, e)) (λ e. omega (arith, is, e, small)) rest

digits_plain : (k n : ℕ) (rest : List ℕ) → Plain rest → Plain (digits_onto k 10 false n rest)
digits_plain zero n rest h = h
digits_plain (suc k) n rest h =
    let d = digit_glyph false (n % 10) in
    let more = glyph (n % 10) rest (omega arith) h in
    either (n / 10 == 0) (d ∷ rest) _ (λ _. more) (λ _. digits_plain k (n / 10) (d ∷ rest) more)

decimal_plain : (n : ℕ) → Plain (decimal n)
unfolding digits
decimal_plain n = digits_plain 64 n [] none

pub signed_plain : (z : ℤ) → Plain (signed_decimal z)
signed_plain (pos n) = decimal_plain n
signed_plain (negsuc n) = one 45 _ (omega arith) (λ e. omega (arith, e)) (λ e. omega (arith, e)) (decimal_plain (suc n))

letter_plain : (k : ℕ) (rest : List ℕ) → k < LETTERS → Plain rest → Plain (letter_of k ∷ rest)
letter_plain k rest below h =
    one (letter_of k) rest (omega arith) (λ e. omega (arith, e)) (λ e. omega (arith, e, below)) h

column_plain : (column : ℕ) → column < COLUMNS → (b : Bool) → nat_lt column LETTERS ≡ b
    → Plain (cond b (letter_of column ∷ []) (letter_of (column / LETTERS - 1) ∷ letter_of (column % LETTERS) ∷ []))
column_plain column below true e = letter_plain column [] (ltb-true column LETTERS e) none
column_plain column below false e =
    letter_plain (column / LETTERS - 1) (letter_of (column % LETTERS) ∷ []) (omega arith)
    (letter_plain (column % LETTERS) [] (omega arith) none)

pub name_plain : (c : ℕ) → Plain (cell_name c)
name_plain c =
    both (column_name (column_of c)) (decimal (row_of c))
    (column_plain (column_of c) (omega arith) (nat_lt (column_of c) LETTERS) refl) (decimal_plain (row_of c))

size-plain : (text : List ℕ) → Plain text → size (string text) ≡ 2 + length text
size-plain text h = omega (arith, size_of_string text, ap length h.same)

pub size-name : (c : ℕ) → c < CELLS → size (string (cell_name c)) ≤ 8
size-name c below = omega (arith, size-plain (cell_name c) (name_plain c), name-short c below)

pub size-number : (z : ℤ) → FitsSigned w64 z → size (string (signed_decimal z)) ≤ 22
size-number z h =
    omega (
      arith,
      size-plain (signed_decimal z) (signed_plain z),
      length_signed_le 19 z (omega (arith, h.sfits)) h.sfits,
    )

-- an assignment of such a content, and a cell that holds nothing else
pub size-brief_register : (a : Assignment Content) → is_stamp a.time a.replica ≡ true
    → size (string (canonical_text a.content)) ≤ 22 → size (register_value (Some a)) ≤ 44
size-brief_register a stamp few =
    let ranges = stamp_ranges a.time a.replica stamp in
    let time = size-whole 16 a.time (omega arith) (omega (arith, ranges.0)) (omega (arith, ranges.0)) in
    let replica = size-whole 2 a.replica (omega arith) (omega (arith, ranges.1)) (omega (arith, ranges.1)) in
    let three = size_of_three (whole a.time) (whole a.replica) (string (canonical_text a.content)) in
    omega (arith, time, replica, few, three)

pub size-brief_cell : (e : ℕ × CellState) → e.0 < CELLS → length (maps.entries e.1.tally) ≡ 0
    → length (maps.entries e.1.choice) ≡ 0 → size (register_value e.1.register) ≤ 44 → size (cell_value e) < 62
unfolding cell_value
size-brief_cell e below tally choice few =
    omega (
      arith,
      size-name e.0 below,
      few,
      size_of_none count_value (maps.entries e.1.tally) tally,
      size_of_none pair_value (maps.entries e.1.choice) choice,
      size_of_four (string (cell_name e.0)) (register_value e.1.register)
          (array_of (each count_value (maps.entries e.1.tally)))
          (array_of (each pair_value (maps.entries e.1.choice))),
    )
