-- A canonical text is an entry that is read as its content.
use Rattle.std.proofs.Common.{◌≡◌, ℕ, ℤ, pos, negsuc, ◌<◌, ◌≤◌, Bool, true, false, ◌&&◌, List, [], ◌∷◌, length}
use Rattle.std.proofs.Common.{Result, Ok, Err, refl, sym, ap, ◌∙◌, subst, arith}
use Rattle.std.specs.Prelude.{FitsSigned, MatchResult, bytes_eq, ◌==◌}
use Rattle.std.specs.Fmt.{signed_decimal}
use Rattle.std.specs.Int.{w64}
use Rattle.std.specs.Str.Parse.{signed_digits_value, ParsesSigned}
use Rattle.std.proofs.lemmas.Bool.{false≢true, eq-eqb, ne_eqb}
use Rattle.std.proofs.lemmas.Fmt.{parse-signed_decimal, length_signed_le, decimal_nonempty}
use Rattle.ps_grid.specs.declared.refusal.Refusal.{Refusal}
use Rattle.ps_grid.specs.declared.refusal.Refusal.TheVariants.{Memory}
use Rattle.ps_value.specs.Label.{IsLabel, is_label}
use Rattle.ps_value.specs.declared.TheConstants.{LABEL_BYTES}
use Rattle.ps_value.proofs.LabelLemmas.{IsLabel-short}
use Rattle.ps_formula.specs.declared.formula.TheConstants.{LONGEST_ENTRY, LONGEST_TEXT}
use Rattle.ps_tokens.specs.Text.{tokens_text}
use Rattle.ps_formula.specs.Canonical.{tokens_of}
use Rattle.ps_content.specs.Content.{canonical_text, IsContent}
use Rattle.ps_content.specs.Entry.{formula, number, text, kind_of, word_of, is_number, begins_formula, Reads, ReadsText}
use Rattle.ps_content.specs.declared.content.Content.{Content}
use Rattle.ps_content.specs.declared.content.Content.TheVariants.{Blank, Number, Text, Formula, Tally, Choice}
use Rattle.ps_content.proofs.NumberLemmas.{is_number-from, is_number-to}
use Rattle.ps_content.proofs.EntryLemmas.{kind_of-number, kind_of-formula, kind_of-word}

-- the decimal text of a number writes that number
number_written : (bytes : List ℕ) (z : ℤ) → FitsSigned w64 z → bytes ≡ signed_decimal z → (t : Bool)
    → is_number bytes ≡ t
    → (is_number bytes ≡ true) × (signed_digits_value 10 bytes ≡ z)
number_written bytes z fits e true is =
    let value = signed_digits_value 10 bytes in
    let r : Result ℤ ℕ = Ok value in
    let parses : ParsesSigned w64 10 bytes r = (is_number-to bytes is, refl) in
    let same : r ≡ Ok z = parse-signed_decimal w64 z bytes r fits fits.sfits e parses in
    (is, cc same)
number_written bytes z fits e false is =
    let r : Result ℤ ℕ = Err 0 in
    let parses : ParsesSigned w64 10 bytes r = λ p. false≢true (sym is ∙ is_number-from bytes p.0 p.1) in
    let same : r ≡ Ok z = parse-signed_decimal w64 z bytes r fits fits.sfits e parses in
    cc same

signed_nonempty : (z : ℤ) → FitsSigned w64 z → 0 < length (signed_decimal z)
signed_nonempty (pos n) fits = decimal_nonempty n (omega (arith, fits.sfits))
signed_nonempty (negsuc n) fits = omega arith

is_filled-test : (bytes : List ℕ) → 0 < length bytes → (length bytes == 0) ≡ false
is_filled-test bytes some = ne_eqb (length bytes) 0 (λ e. omega arith)

kind_of_decimal : (z : ℤ) → FitsSigned w64 z → kind_of (signed_decimal z) ≡ number z
kind_of_decimal z fits =
    let written = number_written (signed_decimal z) z fits refl (is_number (signed_decimal z)) refl in
    let short : length (signed_decimal z) ≤ LONGEST_ENTRY = omega
    (arith, length_signed_le 19 z (omega (arith, fits.sfits)) fits.sfits) in
    kind_of-number (signed_decimal z) short (is_filled-test (signed_decimal z) (signed_nonempty z fits))
    written.0 ∙ ap number written.1

-- a first byte that is neither a sign nor a digit
middle_fails : (a c : Bool) → (a && false && c) ≡ false
middle_fails true c = refl
middle_fails false c = refl

not_number-39 : (bytes : List ℕ) → is_number (39 ∷ bytes) ≡ false
unfolding is_number
not_number-39 bytes = middle_fails _ _

not_number-61 : (bytes : List ℕ) → is_number (61 ∷ bytes) ≡ false
unfolding is_number
not_number-61 bytes = middle_fails _ _

kind_of_quoted : (bytes : List ℕ) → IsLabel bytes → kind_of (39 ∷ bytes) ≡ text bytes
unfolding begins_formula word_of
kind_of_quoted bytes label =
    let short : length bytes ≤ LABEL_BYTES = IsLabel-short bytes label in
    kind_of-word (39 ∷ bytes) (omega arith) (is_filled-test (39 ∷ bytes) (omega arith)) (not_number-39 bytes) refl

kind_of_equals : (bytes : List ℕ) → length (61 ∷ bytes) ≤ LONGEST_TEXT → kind_of (61 ∷ bytes) ≡ formula
unfolding begins_formula
kind_of_equals bytes short = kind_of-formula (61 ∷ bytes) (omega arith)
    (is_filled-test (61 ∷ bytes) (omega arith)) (not_number-61 bytes) refl

-- what is read of the canonical text of a content is that content, unless memory runs out
abbrev pub ReadsBack : Content → Result Content Refusal → Type 0
ReadsBack c result = MatchResult result (λ d. d ≡ c) (λ e. e ≡ Memory)

from_ok : (c : Content) (result : Result Content Refusal) → result ≡ Ok c → ReadsBack c result
from_ok c result e = rw e refl

pub reads_canonical : (c : Content) (result : Result Content Refusal) → IsContent c
    → Reads (kind_of (canonical_text c)) (canonical_text c) result → ReadsBack c result
unfolding kind_of word_of is_number begins_formula
reads_canonical Blank result is reads = from_ok Blank result reads
reads_canonical (Number z) result is reads = from_ok (Number z) result (rw (kind_of_decimal z is) at reads)
reads_canonical (Text t) result is reads =
    let read : ReadsText (is_label t) t result = rw (kind_of_quoted t is) at reads in
    subst (λ b. ReadsText b t result) is read
reads_canonical (Formula t) result is reads =
    let read = rw (kind_of_equals (tokens_text (tokens_of t)) is.1) at reads in
    read.read t is.0 is.1
reads_canonical Tally result is reads = from_ok Tally result reads
reads_canonical Choice result is reads = from_ok Choice result reads

-- the same, of bytes that are a canonical text
pub reads_back : (c : Content) (bytes : List ℕ) (result : Result Content Refusal) → IsContent c
    → bytes ≡ canonical_text c → Reads (kind_of bytes) bytes result → ReadsBack c result
reads_back c bytes result is e reads = reads_canonical c result is (rw e at reads)

bytes_eq-itself : (bytes : List ℕ) → bytes_eq bytes bytes ≡ true
bytes_eq-itself [] = refl
bytes_eq-itself (b ∷ bs) = rw (eq-eqb b b refl) (bytes_eq-itself bs)

-- a content is written as its canonical text
pub not_written : (c d : Content) (bytes : List ℕ) → d ≡ c → bytes ≡ canonical_text c
    → bytes_eq bytes (canonical_text d) ≡ false → ⊥
not_written c d bytes same e test = false≢true (sym (rw (same, ← e) at test) ∙ bytes_eq-itself bytes)
