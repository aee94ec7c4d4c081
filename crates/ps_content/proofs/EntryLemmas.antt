-- The lines of the table of entries, one for each way through the code.
use Rattle.std.proofs.Math.Seq.{take-length}
use Rattle.std.proofs.Common.{◌-◌, take, length-drop, ◌≡◌, ℕ, ◌<◌, ◌≤◌, true, false, List, length, drop, refl}
use Rattle.std.specs.Prelude.{◌==◌, nat_eq, bytes_eq, codes}
use Rattle.std.specs.List.{starts_with}
use Rattle.std.proofs.lemmas.Bool.{lt-ltb, le-ltb}
use Rattle.ps_formula.specs.declared.formula.TheConstants.{LONGEST_ENTRY}
use Rattle.ps_content.specs.Entry.{too_long, empty, tally, choice, formula, number, text, kind_of, word_of}
use Rattle.ps_content.specs.Entry.{is_number, begins_formula}
use Rattle.std.specs.Str.Parse.{signed_digits_value}

pub kind_of-too_long : (bytes : List ℕ) → LONGEST_ENTRY < length bytes → kind_of bytes ≡ too_long
unfolding kind_of
kind_of-too_long bytes long = rw (lt-ltb LONGEST_ENTRY (length bytes) long) refl

pub kind_of-empty : (bytes : List ℕ) → length bytes ≤ LONGEST_ENTRY → (length bytes == 0) ≡ true
    → kind_of bytes ≡ empty
unfolding kind_of
kind_of-empty bytes short none = rw (le-ltb LONGEST_ENTRY (length bytes) short, none) refl

pub kind_of-number : (bytes : List ℕ) → length bytes ≤ LONGEST_ENTRY → (length bytes == 0) ≡ false
    → is_number bytes ≡ true → kind_of bytes ≡ number (signed_digits_value 10 bytes)
unfolding kind_of
kind_of-number bytes short some is = rw (le-ltb LONGEST_ENTRY (length bytes) short, some, is) refl

pub kind_of-formula : (bytes : List ℕ) → length bytes ≤ LONGEST_ENTRY → (length bytes == 0) ≡ false
    → is_number bytes ≡ false → begins_formula bytes ≡ true → kind_of bytes ≡ formula
unfolding kind_of
kind_of-formula bytes short some other is = rw (le-ltb LONGEST_ENTRY (length bytes) short, some, other, is) refl

pub kind_of-word : (bytes : List ℕ) → length bytes ≤ LONGEST_ENTRY → (length bytes == 0) ≡ false
    → is_number bytes ≡ false → begins_formula bytes ≡ false → kind_of bytes ≡ word_of bytes
unfolding kind_of
kind_of-word bytes short some other plain = rw (le-ltb LONGEST_ENTRY (length bytes) short, some, other, plain) refl

pub word_of-tally : (bytes : List ℕ) → bytes_eq bytes (codes "@tally") ≡ true → word_of bytes ≡ tally
unfolding word_of
word_of-tally bytes is = rw is refl

pub word_of-choice : (bytes : List ℕ) → bytes_eq bytes (codes "@tally") ≡ false
    → bytes_eq bytes (codes "@choice") ≡ true → word_of bytes ≡ choice
unfolding word_of
word_of-choice bytes other is = rw (other, is) refl

pub word_of-quoted : (bytes : List ℕ) → bytes_eq bytes (codes "@tally") ≡ false
    → bytes_eq bytes (codes "@choice") ≡ false
    → starts_with nat_eq bytes (codes "'") ≡ true → word_of bytes ≡ text (drop 1 bytes)
unfolding word_of
word_of-quoted bytes other another is = rw (other, another, is) refl

pub word_of-text : (bytes : List ℕ) → bytes_eq bytes (codes "@tally") ≡ false
    → bytes_eq bytes (codes "@choice") ≡ false
    → starts_with nat_eq bytes (codes "'") ≡ false → word_of bytes ≡ text bytes
unfolding word_of
word_of-text bytes other another plain = rw (other, another, plain) refl

pub begins_formula-short : (bytes : List ℕ) → starts_with nat_eq bytes (codes "=") ≡ true → begins_formula bytes ≡ true
unfolding begins_formula
begins_formula-short bytes is = rw is refl

pub begins_formula-long : (bytes : List ℕ) → starts_with nat_eq bytes (codes "=") ≡ false
    → begins_formula bytes ≡ starts_with nat_eq bytes (codes "of:=")
unfolding begins_formula
begins_formula-long bytes other = rw other refl

-- the bytes after the first, as the code takes them
pub rest-range : (bytes : List ℕ) → take (length bytes - 1) (drop 1 bytes) ≡ drop 1 bytes
rest-range bytes = rw (← length-drop 1 bytes) (take-length (drop 1 bytes))
