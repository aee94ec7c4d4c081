-- The records of a table that was written are read again.
use Rattle.std.proofs.Common.{◌≡◌, ◌+◌, ◌<◌, ◌^◌, ◌%◌, ◌∷◌, ◌++◌, ◌∙◌, [], ℕ, pos, negsuc, suc, List}
use Rattle.std.proofs.Common.{length, refl, ap, sym, subst, arith, get_or, Some, None, inl, inr}
use Rattle.std.specs.Prelude.{flat_map}
use Rattle.std.specs.List.{list_any}
use Rattle.std.specs.Fmt.{decimal}
use Rattle.std.proofs.lemmas.Bool.{cases_Bool, ne_eqb}
use Rattle.std.proofs.lemmas.Fmt.{decimal_by_steps}
use Rattle.csv.specs.Machine.{next_record}
use Rattle.csv.specs.Reading.{Reached, default_config, strip_bom}
use Rattle.csv.specs.Writing.{default_writer, fields_text, is_blank, needs_byte, row_text}
use Rattle.csv.specs.declared.parser.State.{State as ReaderState}
use Rattle.csv.specs.declared.parser.State.TheVariants as states
use Rattle.csv.proofs.RoundTrip.{read-write, rows_text}
use Rattle.ps_content.specs.Content.{IsContent, canonical_text}
use Rattle.ps_content.specs.declared.content.Content.{Content}
use Rattle.ps_content.specs.declared.content.Content.TheVariants.{Blank, Number, Text, Formula, Tally, Choice}
use Rattle.ps_csv.specs.Exports.{table_text}
use Rattle.ps_csv.specs.Records.{IsTable, Record}

-- the first byte, or 0 if there is none
abbrev pub front : List ℕ → ℕ
front text = get_or text 0 0

still_ascii : (ds : List ℕ) (d : ℕ) → front ds < 128 → d < 128 → front (ds ++ d ∷ []) < 128
still_ascii [] d h low = low
still_ascii (x ∷ ds) d h low = h

decimal_ascii : (n : ℕ) → n < 2 ^ 64 → front (decimal n) < 128
decimal_ascii n small =
    decimal_by_steps (λ _ text. front text < 128) (λ m below. omega (arith, below))
    (λ m ds above h. still_ascii ds (48 + m % 10) h (omega arith)) n small

-- a canonical text begins with a byte below 128
pub canonical_ascii : (x : Content) → IsContent x → front (canonical_text x) < 128
canonical_ascii Blank is = omega arith
canonical_ascii (Number (pos n)) is = decimal_ascii n (omega (arith, is.sfits))
canonical_ascii (Number (negsuc n)) is = omega arith
canonical_ascii (Text t) is = omega arith
canonical_ascii (Formula t) is = omega arith
canonical_ascii Tally is = omega arith
canonical_ascii Choice is = omega arith

-- the first byte of a record whose first field begins so
row_ascii : (field : List ℕ) (fields : Record) (tail : List ℕ) → front field < 128
    → front (row_text default_writer (field ∷ fields) ++ tail) < 128
unfolding is_blank fields_text
row_ascii [] [] tail low = omega arith
row_ascii [] (f ∷ fs) tail low = omega arith
row_ascii (b ∷ bs) fields tail low = elim (cases_Bool (list_any (needs_byte default_writer) (b ∷ bs))) [
  | inl needs ↦ rw needs (omega arith)
  | inr plain ↦ rw plain low
]

no_mark : (text : List ℕ) → front text < 128 → strip_bom text ≡ text
unfolding strip_bom
no_mark [] low = refl
no_mark (a ∷ []) low = refl
no_mark (a ∷ b ∷ []) low = refl
no_mark (a ∷ b ∷ c ∷ rest) low = rw (ne_eqb a 239 (λ p. omega (arith, p, low))) refl

-- each record has a field, and begins with a byte below 128
pub record ArePlain (table : List Record) : Type 0 where
  pub some : (k : ℕ) → k < length table → 0 < length (get_or table k [])
  pub ascii : (k : ℕ) → k < length table → front (get_or (get_or table k []) 0 []) < 128

no_mark_in : (table : List Record) → ArePlain table → strip_bom (rows_text table) ≡ rows_text table
unfolding rows_text
no_mark_in [] plain = no_mark [] (omega arith)
no_mark_in ([] ∷ table) plain = absurd (omega (arith, plain.some 0 (omega arith)))
no_mark_in ((field ∷ fields) ∷ table) plain =
    no_mark (row_text default_writer (field ∷ fields) ++ rows_text table)
    (row_ascii field fields (rows_text table) (plain.ascii 0 (omega arith)))

same_text : (table : List Record) → flat_map (row_text default_writer) table ≡ rows_text table
unfolding rows_text
same_text [] = refl
same_text (row ∷ table) = ap (λ (t : List ℕ). row_text default_writer row ++ t) (same_text table)

read_again : (row : Record) (tail : List ℕ) → 0 < length row
    → next_record default_config states.StartRecord [] [] (row_text default_writer row ++ tail)
    ≡ Some (row, states.StartRecord, tail)
read_again [] tail some = absurd (omega (arith, some))
read_again (x ∷ xs) tail some = read-write (x ∷ xs) tail

none_at_end : next_record default_config states.StartRecord [] [] [] ≡ None
unfolding next_record
none_at_end = refl

later_plain : (row : Record) (table : List Record) → ((k : ℕ) → k < length (row ∷ table)
    → 0 < length (get_or (row ∷ table) k [])) → (k : ℕ) → k < length table → 0 < length (get_or table k [])
later_plain row table some k lt = some (suc k) (omega (arith, lt))

-- reading the text of records that have fields gives these records
reached_are : (written read : List Record) (state : ReaderState) (rest : List ℕ)
    → ((k : ℕ) → k < length written → 0 < length (get_or written k []))
    → Reached default_config states.StartRecord (rows_text written) read state rest
    → next_record default_config state [] [] rest ≡ None → read ≡ written
unfolding Reached rows_text
reached_are [] [] state rest some reached ended = refl
reached_are [] (r ∷ rs) state rest some reached ended =
    absurd (let no : None ≡ Some reached.0 = sym none_at_end ∙ reached.1 in cc)
reached_are (row ∷ written) [] state rest some reached ended =
    let gives = read_again row (rows_text written) (some 0 (omega arith)) in
    let no : next_record default_config states.StartRecord [] [] (row_text default_writer row ++ rows_text written)
    ≡ None = rw (reached.0, reached.1) ended in
    absurd (let never : None ≡ Some (row, states.StartRecord, rows_text written) = sym no ∙ gives in cc)
reached_are (row ∷ written) (r ∷ rs) state rest some reached ended =
    let gives = read_again row (rows_text written) (some 0 (omega arith)) in
    let both : Some (row, states.StartRecord, rows_text written) ≡ Some reached.0 = sym gives ∙ reached.1 in
    let same : (row, states.StartRecord, rows_text written) ≡ reached.0 = cc in
    let others = subst (λ p. Reached default_config p.1 p.2 rs state rest) (sym same) reached.3 in
    let head : r ≡ row = reached.2 ∙ ap (λ p. p.0) (sym same) in
    let tail = reached_are written rs state rest (later_plain row written some) others ended in
    rw (head, tail) refl

-- reading the text of a written table gives that table
pub reads_written : (written read : List Record) → ArePlain written → IsTable (table_text written) read
    → read ≡ written
unfolding table_text
reads_written written read plain is =
    let text : strip_bom (table_text written) ≡ rows_text written =
    ap strip_bom (same_text written) ∙ no_mark_in written plain in
    let reached = subst (λ (t : List ℕ). Reached default_config states.StartRecord t read is.0 is.1) text is.2 in
    reached_are written read is.0 is.1 plain.some reached is.3
