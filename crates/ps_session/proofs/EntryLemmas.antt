-- An entry is read as a valid content.
use Rattle.std.proofs.Common.{◌≡◌, refl, sym, subst, ℕ, ℤ, Bool, true, false, List, Ok}
use Rattle.std.specs.Prelude.{FitsSigned, if◌then◌else◌}
use Rattle.std.specs.Int.{w64}
use Rattle.std.specs.Str.Parse.{signed_digits_value}
use Rattle.ps_value.specs.Label.{is_label}
use Rattle.ps_formula.proofs.Texts.{canonical_text_has_tree}
use Rattle.ps_content.specs.Content.{IsContent}
use Rattle.ps_content.specs.Entry.{Kind, Reads, ReadsText, is_number, kind_of, word_of}
use Rattle.ps_content.specs.Entry.{choice, empty, formula, number, tally, text, too_long}
use Rattle.ps_content.specs.declared.content.Content.{Content}
use Rattle.ps_content.specs.declared.content.Content.TheVariants.{Blank, Choice, Number, Tally}
use Rattle.ps_content.proofs.NumberLemmas.{is_number-to}
use Rattle.ps_lines.specs.Commands.{Read}

-- a word is no number
no_number : (t c q : Bool) (x y : List ℕ) (z : ℤ)
    → (if t then tally else if c then choice else if q then text x else text y) ≡ number z → ⊥
no_number true c q x y z is = cc
no_number false true q x y z is = cc
no_number false false true x y z is = cc
no_number false false false x y z is = cc

word_no_number : (bytes : List ℕ) (z : ℤ) → word_of bytes ≡ number z → ⊥
unfolding word_of
word_no_number bytes z is = no_number _ _ _ _ _ z is

number_by : (a b n f : Bool) (v z : ℤ) (word : Kind) → (word ≡ number z → ⊥)
    → (if a then too_long else if b then empty else if n then number v else if f then formula else word) ≡ number z
    → (n ≡ true) × (v ≡ z)
number_by true b n f v z word other is = absurd cc
number_by false true n f v z word other is = absurd cc
number_by false false true f v z word other is = (refl, cc)
number_by false false false true v z word other is = absurd cc
number_by false false false false v z word other is = absurd (other is)

-- the number that an entry writes has 64 bits
number_fits : (bytes : List ℕ) (z : ℤ) → kind_of bytes ≡ number z → FitsSigned w64 z
unfolding kind_of
number_fits bytes z is =
    let found = number_by _ _ (is_number bytes) _ (signed_digits_value 10 bytes) z (word_of bytes)
    (word_no_number bytes z) is in
    subst (λ n. FitsSigned w64 n) found.1 (is_number-to bytes found.0).1

label_read : (label : List ℕ) (b : Bool) (content : Content) → is_label label ≡ b
    → ReadsText b label (Ok content) → IsContent content
label_read label true content is read = subst IsContent (sym read) is
label_read label false content is read = absurd cc

same_content : (content other : Content) → IsContent other → ◌≡◌ {A = Read Content} (Ok content) (Ok other)
    → IsContent content
same_content content other is read = let same : other ≡ content = cc in subst IsContent same is

-- an entry is read as a valid content
read_by : (kind : Kind) (bytes : List ℕ) (content : Content) → kind_of bytes ≡ kind
    → Reads kind bytes (Ok content) → IsContent content
read_by too_long bytes content is reads = absurd cc
read_by empty bytes content is reads = same_content content Blank tt reads
read_by (number z) bytes content is reads = same_content content (Number z) (number_fits bytes z is) reads
read_by formula bytes content is reads =
    let found = reads.found in
    subst IsContent (sym found.1) (canonical_text_has_tree bytes found.0 found.2, found.3)
read_by tally bytes content is reads = same_content content Tally tt reads
read_by choice bytes content is reads = same_content content Choice tt reads
read_by (text label) bytes content is reads = label_read label (is_label label) content refl reads

pub content_read : (bytes : List ℕ) (content : Content) → Reads (kind_of bytes) bytes (Ok content) → IsContent content
content_read bytes content reads = read_by (kind_of bytes) bytes content refl reads
