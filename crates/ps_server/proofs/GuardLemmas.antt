-- The first line of what comes.
use Rattle.std.proofs.Common.{◌≡◌, ◌≢◌, ◌∙◌, ◌+◌, ◌==◌, ℕ, suc, Bool, true, false, cond, List, [], ◌∷◌, ◌++◌}
use Rattle.std.proofs.Common.{drop, length, take}
use Rattle.std.proofs.Common.{ap, arith, length-append, refl, subst, sym, true≢false}
use Rattle.std.specs.Prelude.{◌&&◌, codes, nat_eq, not, Option, Some, None}
use Rattle.std.specs.List.{starts_with}
use Rattle.std.specs.Io.KnownBytes.{Consumes}
use Rattle.std.specs.List.{position_or_len}
use Rattle.std.proofs.lemmas.Bool.{eqb-true}
use Rattle.std.proofs.lemmas.List.Elements.{All-cons, All-head, All-nil, All-tail}
use Rattle.ps_server.specs.Guards.{BeginsRequest, IsRequest, begins_command, begins_no_target, begins_small}
use Rattle.ps_server.specs.Guards.{is_request_line}
use Rattle.ps_lines.specs.Feeding.{HasNoFeed}
use Rattle.ps_lines.specs.Words.{after_word, first_part}

-- the first part of bytes that begin with a byte other than a line feed
grows : (c : ℕ) (bytes : List ℕ) → (c == 10) ≡ false → first_part 10 (c ∷ bytes) ≡ c ∷ first_part 10 bytes
grows c bytes other =
    let n = position_or_len (λ x. x == 10) bytes in
    let next : 1 + n ≡ suc n = omega arith in
    ap (λ (b : Bool). take (cond (not b) (1 + n) 0) (c ∷ bytes)) other ∙ ap (λ k. take k (c ∷ bytes)) next

-- .. and with a line feed
ends : (c : ℕ) (bytes : List ℕ) → (c == 10) ≡ true → first_part 10 (c ∷ bytes) ≡ []
ends c bytes feed =
    ap (λ (b : Bool). take (cond (not b) (1 + position_or_len (λ x. x == 10) bytes) 0) (c ∷ bytes)) feed

-- a line before the first line feed
pub first_is : (line more : List ℕ) → HasNoFeed line → first_part 10 (line ++ 10 ∷ more) ≡ line
first_is [] more free = refl
first_is (c ∷ line) more free =
    go (c == 10) refl (first_is line more (All-tail (λ b. b ≢ 10) c line free))
  where
    go : (b : Bool) → (c == 10) ≡ b → first_part 10 (line ++ 10 ∷ more) ≡ line
        → first_part 10 (c ∷ (line ++ 10 ∷ more)) ≡ c ∷ line
    go true feed rest = absurd (All-head (λ b. b ≢ 10) c line free (eqb-true c 10 feed))
    go false other rest = grows c (line ++ 10 ∷ more) other ∙ ap (λ l. c ∷ l) rest

-- the first part has no line feed
pub first_free : (bytes : List ℕ) → HasNoFeed (first_part 10 bytes)
first_free [] = All-nil (λ b. b ≢ 10)
first_free (c ∷ bytes) = go (c == 10) refl (first_free bytes)
  where
    go : (b : Bool) → (c == 10) ≡ b → HasNoFeed (first_part 10 bytes) → HasNoFeed (first_part 10 (c ∷ bytes))
    go true feed rest = subst HasNoFeed (sym (ends c bytes feed)) (All-nil (λ b. b ≢ 10))
    go false other rest = subst HasNoFeed (sym (grows c bytes other))
        (All-cons (λ b. b ≢ 10) c (first_part 10 bytes)
        (λ e. true≢false (sym (ap (λ (x : ℕ). x == 10) e) ∙ other)) rest)

-- the first part stays the same, whatever follows a line feed
pub first_same : (front after rest : List ℕ)
    → first_part 10 ((front ++ 10 ∷ after) ++ rest) ≡ first_part 10 (front ++ 10 ∷ after)
first_same [] after rest = refl
first_same (c ∷ front) after rest = go (c == 10) refl (first_same front after rest)
  where
    go : (b : Bool) → (c == 10) ≡ b
        → first_part 10 ((front ++ 10 ∷ after) ++ rest) ≡ first_part 10 (front ++ 10 ∷ after)
        → first_part 10 (c ∷ ((front ++ 10 ∷ after) ++ rest)) ≡ first_part 10 (c ∷ (front ++ 10 ∷ after))
    go true feed same = ends c ((front ++ 10 ∷ after) ++ rest) feed ∙ sym (ends c (front ++ 10 ∷ after) feed)
    go false other same =
        grows c ((front ++ 10 ∷ after) ++ rest) other ∙ ap (λ l. c ∷ l) same
        ∙ sym (grows c (front ++ 10 ∷ after) other)

-- bytes with a line feed have one
pub has_feed : (line more : List ℕ) → HasNoFeed (line ++ 10 ∷ more) → ⊥
has_feed [] more free = All-head (λ b. b ≢ 10) 10 more free refl
has_feed (c ∷ line) more free = has_feed line more (All-tail (λ b. b ≢ 10) c (line ++ 10 ∷ more) free)

-- bytes with a line feed aren't their own first part
pub is_longer : (bytes line more : List ℕ) → bytes ≡ line → bytes ≡ line ++ 10 ∷ more → ⊥
is_longer bytes line more same is =
    let e : length line ≡ length line + length (10 ∷ more) =
    ap length (sym same ∙ is) ∙ length-append line (10 ∷ more) in
    omega (arith, e)

-- the first part of bytes without a line feed, and of what follows them
pub first_goes_on : (front rest : List ℕ) → HasNoFeed front
    → first_part 10 (front ++ rest) ≡ front ++ first_part 10 rest
first_goes_on [] rest free = refl
first_goes_on (c ∷ front) rest free =
    go (c == 10) refl (first_goes_on front rest (All-tail (λ b. b ≢ 10) c front free))
  where
    go : (b : Bool) → (c == 10) ≡ b → first_part 10 (front ++ rest) ≡ front ++ first_part 10 rest
        → first_part 10 (c ∷ (front ++ rest)) ≡ c ∷ (front ++ first_part 10 rest)
    go true feed same = absurd (All-head (λ b. b ≢ 10) c front free (eqb-true c 10 feed))
    go false other same = grows c (front ++ rest) other ∙ ap (λ l. c ∷ l) same

-- what comes after the first word, where the first byte ends it, and where it doesn't
after_space : (c : ℕ) (bytes : List ℕ) → (c == 32) ≡ true → after_word (c ∷ bytes) ≡ bytes
after_space c bytes space = search (space)

after_other : (c : ℕ) (bytes : List ℕ) → (c == 32) ≡ false → after_word (c ∷ bytes) ≡ after_word bytes
after_other c bytes other =
    let n = position_or_len (λ x. x == 32) bytes in
    let next : (1 + n) + 1 ≡ suc (n + 1) = omega arith in
    ap (λ (b : Bool). drop (cond (not b) (1 + n) 0 + 1) (c ∷ bytes)) other ∙ ap (λ k. drop k (c ∷ bytes)) next

-- what can't begin a target can't whatever follows
argument_goes_on : (bytes rest : List ℕ) → begins_no_target bytes ≡ true → begins_no_target (bytes ++ rest) ≡ true
argument_goes_on [] rest is = absurd (true≢false (sym is))
argument_goes_on (b ∷ bs) rest is = is

after_goes_on : (bytes rest : List ℕ) → begins_no_target (after_word bytes) ≡ true
    → begins_no_target (after_word (bytes ++ rest)) ≡ true
after_goes_on [] rest is = absurd (true≢false (sym is))
after_goes_on (c ∷ bytes) rest is = go (c == 32) refl (after_goes_on bytes rest)
  where
    go : (b : Bool) → (c == 32) ≡ b
        → (begins_no_target (after_word bytes) ≡ true → begins_no_target (after_word (bytes ++ rest)) ≡ true)
        → begins_no_target (after_word (c ∷ (bytes ++ rest))) ≡ true
    go true space next =
        ap begins_no_target (after_space c (bytes ++ rest) space)
        ∙ argument_goes_on bytes rest (sym (ap begins_no_target (after_space c bytes space)) ∙ is)
    go false other next =
        ap begins_no_target (after_other c (bytes ++ rest) other)
        ∙ next (sym (ap begins_no_target (after_other c bytes other)) ∙ is)

-- the beginning of a command is one whatever follows
pub command_goes_on : (bytes rest : List ℕ) → begins_command bytes ≡ true → begins_command (bytes ++ rest) ≡ true
command_goes_on [] rest is = absurd (true≢false (sym is))
command_goes_on (b ∷ bs) rest is =
    and_both (begins_small (b ∷ bs)) _ (and_left (begins_small (b ∷ bs)) _ is)
    (after_goes_on (b ∷ bs) rest (and_right (begins_small (b ∷ bs)) _ is))
  where
    and_left : (x y : Bool) → (x && y) ≡ true → x ≡ true
    and_left true y e = refl
    and_left false y e = e

    and_right : (x y : Bool) → (x && y) ≡ true → y ≡ true
    and_right true y e = e
    and_right false y e = absurd (true≢false (sym e))

    and_both : (x y : Bool) → x ≡ true → y ≡ true → (x && y) ≡ true
    and_both true true _ _ = refl
    and_both true false _ e = e
    and_both false y e _ = absurd (true≢false (sym e))

-- a line that begins as a command does is no request line
pub command_no_request : (line : List ℕ) → begins_command line ≡ true → is_request_line line ≡ true → ⊥
command_no_request line is request =
    true≢false (sym request ∙ ap (λ b. not b && starts_with nat_eq (after_word (after_word line)) (codes "HTTP/")) is)

-- if what was read begins no request, whatever follows it, no request comes
pub no_request : (old new : Option (List ℕ)) (front : List ℕ) → Consumes old new front
    → ((rest : List ℕ) → IsRequest (front ++ rest) → ⊥) → BeginsRequest old → ⊥
no_request None new front read none begins = begins
no_request (Some bytes) None front read none begins = read
no_request (Some bytes) (Some rest) front read none begins = none rest (subst IsRequest read begins)
