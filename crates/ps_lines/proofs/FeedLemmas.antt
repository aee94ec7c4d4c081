-- What the search for a line feed says about a piece, and what a buffer stores of a line.
use Rattle.std.proofs.Common.{◌≡◌, ◌≢◌, ◌+◌, ◌<◌, ◌≤◌, ℕ, suc, Bool, true, false, List, [], ◌∷◌, ◌++◌, length, take}
use Rattle.std.proofs.Common.{sym, ap, ◌∙◌, arith, rules, Some, None, refl, subst, ◌==◌, nat_le, length-append}
use Rattle.std.specs.Prelude.{if◌then◌else◌}
use Rattle.std.proofs.lemmas.Bool.{le-leb}
use Rattle.std.proofs.lemmas.Bool.Decides.{nat_tests}
use Rattle.std.proofs.lemmas.List.{get_or-take, get_or_default, length-take-le}
use Rattle.std.proofs.lemmas.Map.Views.{exact_unsigned_eq}
use Rattle.std.proofs.Math.Seq.{take-suc}
use Rattle.std.proofs.Math.ListN.{get_or}
use Rattle.memchr.specs.Find.{is_byte, Nowhere, Passes}
use Rattle.ps_lines.specs.Feeding.{Ends, Feeds, HasNoFeed, Holds, Reading, held, kept, kept_after, with_line}
use Rattle.ps_lines.specs.declared.line_buffer.TheConstants.{LINE_LIMIT}
use Rattle.ps_lines.specs.declared.line_buffer.Line.{Line}
use Rattle.ps_lines.specs.declared.line_buffer.Line.TheVariants as lines

pub no_feed : (piece : List ℕ) (n : ℕ) → n ≤ length piece → Nowhere (Passes (is_byte 10) piece) 0 n
    → HasNoFeed (take n piece)
no_feed piece n le nowhere k d lt is =
    let shorter : length (take n piece) ≡ n = length-take-le n piece le in
    let below : k < n = subst (λ m. k < m) shorter lt in
    let there : get_or piece k 0 ≡ 10 = get_or_default piece k 0 d (omega (arith, below, le))
    ∙ sym (get_or-take n piece k d below) ∙ is in
    nowhere k (omega arith) below (ap (λ b. b == 10) there)

pub through_feed : (piece : List ℕ) (place : ℕ) → place < length piece → Passes (is_byte 10) piece place
    → take (place + 1) piece ≡ take place piece ++ 10 ∷ []
through_feed piece place lt passes =
    let feed : get_or piece place 0 ≡ 10 = exact_unsigned_eq _ 10 passes in
    let next : place + 1 ≡ suc place = omega arith in
    ap (λ n. take n piece) next ∙ take-suc piece place 0 lt ∙ ap (λ b. take place piece ++ b ∷ []) feed

pub ends_line : (old new : Reading) (piece : List ℕ) (place : ℕ) (too_long : Bool) (bytes : List ℕ)
    → place < length piece → Nowhere (Passes (is_byte 10) piece) 0 place → Passes (is_byte 10) piece place
    → held too_long bytes ≡ kept_after old.pending (take place piece)
    → new ≡ record { pending = Some []; line = bytes }
    → Feeds old new (take (place + 1) piece) (if too_long then lines.TooLong else lines.Full)
ends_line old new piece place true bytes lt before passes keeps is = (
  (take place piece, through_feed piece place lt passes, no_feed piece place (omega arith) before, sym keeps),
  ap
      (λ (r : Reading). r.pending) is,
)
ends_line old new piece place false bytes lt before passes keeps is = (
  (
    take place piece,
    through_feed piece place lt passes,
    no_feed piece place (omega arith) before,
    sym keeps ∙ ap (λ (r : Reading). Some r.line) (sym is),
  ),
  ap (λ (r : Reading). r.pending) is,
)

-- a line that isn't too long is kept as it is
pub kept_short : (line : List ℕ) → length line ≤ LINE_LIMIT → kept line ≡ Some line
kept_short line short =
    ap (λ b. if b then Some line else None) (le-leb (length line) LINE_LIMIT short)

-- a line that lies whole in a piece, after nothing that is held
pub whole_line_feeds : (old : Reading) (piece : List ℕ) (place : ℕ) → old.pending ≡ Some [] → place < length piece
    → place ≤ LINE_LIMIT → Nowhere (Passes (is_byte 10) piece) 0 place → Passes (is_byte 10) piece place
    → Feeds old (with_line (take place piece)) (take (place + 1) piece) lines.Full
whole_line_feeds old piece place none lt short before passes =
    let line : List ℕ = take place piece in
    let few : length line ≤ LINE_LIMIT = omega (arith, short, length-take-le place piece (omega (arith, lt))) in
    let keeps : Some line ≡ kept_after old.pending line =
    sym (kept_short line few) ∙ ap (λ p. kept_after p line) (sym none) in
    ends_line old (with_line line) piece place false line lt before passes keeps refl

-- what is kept of a line doesn't depend on where it was cut
pub kept_cut : (raw part : List ℕ) → kept_after (kept raw) part ≡ kept (raw ++ part)
kept_cut raw part = go (nat_le (length raw) LINE_LIMIT) refl
  where
    longer : nat_le (length raw) LINE_LIMIT ≡ false → nat_le (length (raw ++ part)) LINE_LIMIT ≡ false
    longer long =
        let sum : length (raw ++ part) ≡ length raw + length part = length-append raw part in
        rw sum (grind (arith, nat_tests, long))

    go : (b : Bool) → nat_le (length raw) LINE_LIMIT ≡ b
        → kept_after (if b then Some raw else None) part ≡ kept (raw ++ part)
    go true fits = refl
    go false long = sym (ap (λ (b : Bool). if b then Some (raw ++ part) else None) (longer long))

pub fits_kept : (raw line : List ℕ) → kept raw ≡ Some line → (nat_le (length raw) LINE_LIMIT ≡ true) × (raw ≡ line)
fits_kept raw line is = go (nat_le (length raw) LINE_LIMIT) refl is
  where
    go : (b : Bool) → nat_le (length raw) LINE_LIMIT ≡ b → (if b then Some raw else None) ≡ Some line
        → (nat_le (length raw) LINE_LIMIT ≡ true) × (raw ≡ line)
    go true fits e = (fits, search (rules, e))
    go false fits e = search (rules, e)

pub long_kept : (raw : List ℕ) → kept raw ≡ None → nat_le (length raw) LINE_LIMIT ≡ false
long_kept raw is = go (nat_le (length raw) LINE_LIMIT) refl is
  where
    go : (b : Bool) → nat_le (length raw) LINE_LIMIT ≡ b → (if b then Some raw else None) ≡ None
        → nat_le (length raw) LINE_LIMIT ≡ false
    go true fits e = search (rules, e)
    go false long e = long

-- what holds nothing is empty
pub nothing_kept : (rest : List ℕ) → kept rest ≡ Some [] → rest ≡ []
nothing_kept rest is = (fits_kept rest [] is).1

long_filled : (rest : List ℕ) → kept rest ≡ None → 0 < length rest
long_filled [] is = search (rules, is)
long_filled (b ∷ bs) is = omega arith

-- what remains at the end is a line, and the buffer holds it
pub end_held : (before after : Reading) (rest : List ℕ) (line : Line)
    → line ≢ lines.None → Ends before after line → before.pending ≡ kept rest
    → Holds line after rest × (0 < length rest)
end_held before after rest lines.None some ends held = absurd (some refl)
end_held before after rest lines.Full some ends held =
    let is = sym held ∙ ends.0 in
    (is, subst (λ l. 0 < length l) (sym (fits_kept rest after.line is).1) ends.2)
end_held before after rest lines.TooLong some ends held =
    let is = sym held ∙ ends.0 in (is, long_filled rest is)
