-- Digest lines, and the lines between them.
use Rattle.std.proofs.Common.{◌≡◌, ◌≢◌, ◌<◌, ◌+◌, ◌*◌, ◌/◌, ◌%◌, ◌&&◌, ℕ, Bool, true, false, not, nat_eq, nat_lt}
use Rattle.std.proofs.Common.{List, [], ◌∷◌, ◌++◌, length, take, cond, refl, sym, ◌∙◌, ap, arith}
use Rattle.std.proofs.Common.{append_assoc, if◌then◌else◌}
use Rattle.std.proofs.Common.{◌-◌, drop, set, slice_index, take-append-drop}
use Rattle.std.specs.Cmp.Lexicographic.{other_text, same_text}
use Rattle.std.specs.List.{ends_with}
use lib.Pointwise.{pointwise}
use Rattle.std.proofs.lemmas.List.{append-nil, drop-set-lt, length-set, length-take-le, take-append-le, take_all}
use Rattle.std.proofs.lemmas.List.{take_more, take_more_set}
use Rattle.std.proofs.lemmas.List.Elements.{filter-append}
use Rattle.md5.specs.Md5.{md5}
use Rattle.md5.proofs.StandardFacts.{length-md5}
use Rattle.ps_keep.specs.Digests.{AreDigested, HaveNoDigests, after_line, digest_line, digest_text, digest_word, hex}
use Rattle.ps_keep.specs.Digests.{hex_digit, is_digest_line, others, since}
use Rattle.ps_keep.specs.Lines.{AreLines, IsLine, text}

pub others-append : (a b : List (List ℕ)) → others (a ++ b) ≡ others a ++ others b
others-append a b = filter-append (λ line. not (is_digest_line line)) a b

pub since-append : (before : List ℕ) (a b : List (List ℕ)) → since before (a ++ b) ≡ since (since before a) b
since-append before [] b = refl
since-append before (line ∷ a) b = since-append (after_line before line) a b

pub digested-append : (before : List ℕ) (a b : List (List ℕ)) → AreDigested before a → AreDigested (since before a) b
    → AreDigested before (a ++ b)
digested-append before [] b are more = more
digested-append before (line ∷ a) b are more = (are.0, digested-append (after_line before line) a b are.1 more)

-- a line that is no digest line
pub passes : (before line : List ℕ) → is_digest_line line ≡ false → after_line before line ≡ before ++ (line ++ 10 ∷ [])
passes before line e = ap (λ (b : Bool). if b then line ++ 10 ∷ [] else before ++ (line ++ 10 ∷ [])) e

pub begins_anew : (before line : List ℕ) → is_digest_line line ≡ true → after_line before line ≡ line ++ 10 ∷ []
begins_anew before line e = ap (λ (b : Bool). if b then line ++ 10 ∷ [] else before ++ (line ++ 10 ∷ [])) e

pub other-cons : (line : List ℕ) (lines : List (List ℕ)) → is_digest_line line ≡ false
    → others (line ∷ lines) ≡ line ∷ others lines
other-cons line lines e = ap (λ (b : Bool). cond (not b) (line ∷ others lines) (others lines)) e

pub digest-cons : (line : List ℕ) (lines : List (List ℕ)) → is_digest_line line ≡ true
    → others (line ∷ lines) ≡ others lines
digest-cons line lines e = ap (λ (b : Bool). cond (not b) (line ∷ others lines) (others lines)) e

-- lines without a digest line among them
pub plain_others : (lines : List (List ℕ)) → HaveNoDigests lines → others lines ≡ lines
plain_others [] have = refl
plain_others (line ∷ lines) have = other-cons line lines have.0
    ∙ ap (λ (ls : List (List ℕ)). line ∷ ls) (plain_others lines have.1)

pub plain_since : (before : List ℕ) (lines : List (List ℕ)) → HaveNoDigests lines
    → since before lines ≡ before ++ text lines
plain_since before [] have = sym (append-nil before)
plain_since before (line ∷ lines) have =
    ap (λ (b : List ℕ). since b lines) (passes before line have.0)
    ∙ plain_since (before ++ (line ++ 10 ∷ [])) lines have.1
    ∙ append_assoc before (line ++ 10 ∷ []) (text lines)
    ∙ ap (λ (bs : List ℕ). before ++ bs) (append_assoc line (10 ∷ []) (text lines))

pub plain_digested : (before : List ℕ) (lines : List (List ℕ)) → HaveNoDigests lines → AreDigested before lines
plain_digested before [] have = tt
plain_digested before (line ∷ lines) have = (
  (λ e. absurd (no_both (is_digest_line line) e have.0)),
  plain_digested (after_line before line) lines have.1,
)
  where
    no_both : (b : Bool) → b ≡ true → b ≡ false → ⊥
    no_both b is other = cc

pub plain_front : (a b : List (List ℕ)) → HaveNoDigests (a ++ b) → HaveNoDigests a
plain_front [] b have = tt
plain_front (line ∷ a) b have = (have.0, plain_front a b have.1)

pub plain_back : (a b : List (List ℕ)) → HaveNoDigests (a ++ b) → HaveNoDigests b
plain_back [] b have = have
plain_back (line ∷ a) b have = plain_back a b have.1

pub others_are : (lines : List (List ℕ)) → AreLines lines → AreLines (others lines)
others_are [] are = tt
others_are (line ∷ lines) are = go (is_digest_line line) (others_are lines are.1)
  where
    go : (b : Bool) → AreLines (others lines) → AreLines (cond (not b) (line ∷ others lines) (others lines))
    go true more = more
    go false more = (are.0, more)

-- digest lines have their form
pub hex_apart : (n : ℕ) → hex_digit n ≢ 10
hex_apart n = go (nat_lt n 10)
  where
    go : (b : Bool) → (if b then 48 + n else 87 + n) ≢ 10
    go true = λ e. omega arith
    go false = λ e. omega arith

pub hex_line : (bytes : List ℕ) → IsLine (hex bytes)
hex_line [] = tt
hex_line (b ∷ bytes) = (hex_apart (b / 16), (hex_apart (b % 16), hex_line bytes))

pub length-hex : (bytes : List ℕ) → length (hex bytes) ≡ 2 * length bytes
length-hex [] = refl
length-hex (b ∷ bytes) = let more = length-hex bytes in omega arith

pub length-digest_text : (bytes : List ℕ) → length (digest_text bytes) ≡ 16
length-digest_text bytes =
    let whole = length-md5 bytes in
    let eight : length (take 8 (md5 bytes)) ≡ 8 = length-take-le 8 (md5 bytes) (omega arith) in
    let both = length-hex (take 8 (md5 bytes)) in
    omega arith

pub has_form : (bytes : List ℕ) → is_digest_line (digest_line bytes) ≡ true
has_form bytes =
    let all : length (digest_line bytes) ≡ 24 = let more = length-digest_text bytes in omega arith in
    ap (λ (n : ℕ). nat_eq n 24 && true) all

pub digest_is_line : (bytes : List ℕ) → IsLine (digest_line bytes)
digest_is_line bytes = (
  (λ e. omega arith),
  (
    (λ e. omega arith),
    (
      (λ e. omega arith),
      (
        (λ e. omega arith),
        (
          (λ e. omega arith),
          ((λ e. omega arith), ((λ e. omega arith), ((λ e. omega arith), hex_line (take 8 (md5 bytes))))),
        ),
      ),
    ),
  ),
)

pub hex-append : (a b : List ℕ) → hex (a ++ b) ≡ hex a ++ hex b
hex-append [] b = refl
hex-append (x ∷ a) b = ap (λ (l : List ℕ). hex_digit (x / 16) ∷ hex_digit (x % 16) ∷ l) (hex-append a b)

-- one more byte stands in the line, as two digits
pub two_digits : (line digest : List ℕ) (i high low : ℕ) → length line ≡ 25 → length digest ≡ 16 → i < 8
    → take (8 + 2 * i) line ≡ digest_word ++ hex (take i digest) → high ≡ hex_digit (slice_index digest i / 16)
    → low ≡ hex_digit (slice_index digest i % 16)
    → take (8 + 2 * (i + 1)) (set (set line (8 + 2 * i) high) (8 + 2 * i + 1) low)
    ≡ digest_word ++ hex (take (i + 1) digest)
two_digits line digest i high low size all below so_far is_high is_low =
    let n : ℕ = 8 + 2 * i in
    let at : 8 + 2 * (i + 1) ≡ n + 1 + 1 = omega arith in
    let first = take_more_set line n high (omega arith) in
    let size_too : length (set line n high) ≡ 25 = length-set line n high ∙ size in
    let second = take_more_set (set line n high) (n + 1) low (omega arith) in
    let more : take (i + 1) digest ≡ take i digest ++ slice_index digest i ∷ [] = take_more digest i 0 (omega arith) in
    ap (λ (k : ℕ). take k (set (set line n high) (n + 1) low)) at ∙ second
    ∙ ap (λ (l : List ℕ). l ++ low ∷ []) (first ∙ ap (λ (l : List ℕ). l ++ high ∷ []) so_far)
    ∙ (λ j. ((digest_word ++ hex (take i digest)) ++ is_high j ∷ []) ++ is_low j ∷ [])
    ∙ append_assoc (digest_word ++ hex (take i digest)) _ _
    ∙ append_assoc digest_word (hex (take i digest)) _
    ∙ ap (λ (l : List ℕ). digest_word ++ l) (sym (hex-append (take i digest) (slice_index digest i ∷ [])))
    ∙ ap (λ (l : List ℕ). digest_word ++ hex l) (sym more)

pub end_stays : (line : List ℕ) (i high low : ℕ) → i < 8 → drop 24 line ≡ 10 ∷ []
    → drop 24 (set (set line (8 + 2 * i) high) (8 + 2 * i + 1) low) ≡ 10 ∷ []
end_stays line i high low below last =
    drop-set-lt 24 (set line (8 + 2 * i) high) (8 + 2 * i + 1) low (omega arith)
    ∙ drop-set-lt 24 line (8 + 2 * i) high (omega arith) ∙ last

pub whole_digest_line : (line digest held : List ℕ) → take 24 line ≡ digest_word ++ hex (take 8 digest)
    → drop 24 line ≡ 10 ∷ [] → digest ≡ md5 held → line ≡ digest_line held ++ 10 ∷ []
whole_digest_line line digest held front last is =
    sym (take-append-drop 24 line) ∙ (λ j. front j ++ last j)
    ∙ ap (λ (d : List ℕ). (digest_word ++ hex (take 8 d)) ++ 10 ∷ []) is

-- the line without its line feed
pub front_of_line : (whole held : List ℕ) → whole ≡ digest_line held ++ 10 ∷ [] → take 24 whole ≡ digest_line held
front_of_line whole held is =
    let all : length (digest_line held) ≡ 24 = let more = length-digest_text held in omega arith in
    ap (λ (l : List ℕ). take 24 l) is ∙ take-append-le 24 (digest_line held) (10 ∷ []) (omega arith)
    ∙ take_all 24 (digest_line held) (omega arith)

-- what the comparison of a line with the one that is expected says
pub compared_other : (unequal : Bool) (line expected held : List ℕ)
    → unequal ≡ not (pointwise nat_eq line (take 24 expected)) → unequal ≡ true → expected ≡ digest_line held ++ 10 ∷ []
    → line ≢ digest_line held
compared_other unequal line expected held e is whole same =
    other_text line (take 24 expected) (flips (pointwise nat_eq line (take 24 expected)) (sym e ∙ is)) (same
    ∙ sym (front_of_line expected held whole))
  where
    flips : (b : Bool) → not b ≡ true → false ≡ b
    flips true f = cc
    flips false f = refl

pub compared_same : (unequal : Bool) (line expected held : List ℕ)
    → unequal ≡ not (pointwise nat_eq line (take 24 expected)) → unequal ≡ false
    → expected ≡ digest_line held ++ 10 ∷ []
    → line ≡ digest_line held
compared_same unequal line expected held e is whole =
    same_text line (take 24 expected) (flips (pointwise nat_eq line (take 24 expected)) (sym e ∙ is))
    ∙ front_of_line expected held whole
  where
    flips : (b : Bool) → not b ≡ false → true ≡ b
    flips true f = refl
    flips false f = cc

pub ends_in_feed : (bytes : List ℕ) → ends_with nat_eq bytes (10 ∷ []) ≡ true
    → bytes ≡ take (length bytes - 1) bytes ++ 10 ∷ []
ends_in_feed bytes is = sym (take-append-drop (length bytes - 1) bytes)
    ∙ ap (λ (l : List ℕ). take (length bytes - 1) bytes ++ l) (sym (same_text (10 ∷ []) (drop (length bytes - 1) bytes)
    (sym is)))
