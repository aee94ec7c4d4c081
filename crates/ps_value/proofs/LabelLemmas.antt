-- What follows of a label's bytes.
use Rattle.std.proofs.Common.{◌≡◌, ℕ, ◌≤◌, Bool, true, false, ◌&&◌, List, ◌++◌, length, take, drop, Result, Ok, Err}
use Rattle.std.proofs.Common.{refl, sym, arith}
use Rattle.std.specs.Prelude.{IsUtf8, MatchResult, replicate, is_ok, nat_le}
use Rattle.std.specs.List.{list_all}
use Rattle.std.specs.Str.{is_utf8}
use Rattle.std.proofs.lemmas.Bool.{leb-true}
use Rattle.std.proofs.lemmas.Str.{is_utf8-from_IsUtf8, IsUtf8-from_is_utf8}
use Rattle.std.proofs.lemmas.List.{drop-replicate}
use Rattle.std.proofs.Math.Seq.{take-append_seam}
use Rattle.std.proofs.Common.{length-append}
use Rattle.ps_value.specs.declared.TheConstants.{LABEL_BYTES}
use Rattle.ps_value.specs.Label.{is_label, is_printed, IsLabel, padded, IsStored}

-- a test that can't be true is false
test_fails : (b : Bool) → (b ≡ true → ⊥) → false ≡ b
test_fails true refuted = absurd (refuted refl)
test_fails false refuted = refl

-- what `from_utf8` returns is the test
pub is_ok-utf8 : {X E : Type 0} (A : X → Type 0) (B : E → Type 0) (bytes : List ℕ) (r : Result X E) →
    MatchResult r (λ s. A s × IsUtf8 bytes) (λ e. ¬ (IsUtf8 bytes) × B e) → is_ok r ≡ is_utf8 bytes
is_ok-utf8 A B bytes (Ok s) said = sym (is_utf8-from_IsUtf8 bytes said.1)
is_ok-utf8 A B bytes (Err e) said = test_fails (is_utf8 bytes) (λ holds. said.0 (IsUtf8-from_is_utf8 bytes holds))

left_of_and : (a b : Bool) → (a && b) ≡ true → a ≡ true
left_of_and true b both = refl
left_of_and false b both = both

right_of_and : (a b : Bool) → (a && b) ≡ true → b ≡ true
right_of_and true b both = both
right_of_and false b both = absurd (cc)

-- a label is no longer than its room
pub IsLabel-short : (bytes : List ℕ) → IsLabel bytes → length bytes ≤ LABEL_BYTES
unfolding is_label
IsLabel-short bytes label =
    let some = nat_le 1 (length bytes) in
    let short = nat_le (length bytes) LABEL_BYTES in
    let printed = list_all is_printed bytes in
    leb-true (length bytes) LABEL_BYTES
    (right_of_and some short (left_of_and (some && short) printed
    (left_of_and (some && short && printed) (is_utf8 bytes) label)))

-- the bytes in front of zeros
pub padded_front : (bytes : List ℕ) → bytes ++ drop (length bytes) (replicate LABEL_BYTES 0) ≡ padded bytes
unfolding padded
padded_front bytes = simp drop-replicate

pub take-padded : (bytes : List ℕ) → take (length bytes) (padded bytes) ≡ bytes
unfolding padded
take-padded bytes = take-append_seam _ _

pub IsStored-padded : (bytes : List ℕ) → IsLabel bytes → IsStored (padded bytes) (length bytes)
unfolding padded
IsStored-padded bytes label = record {
  within = simp length-append (omega arith);
  zeros = rw take-padded refl;
  label = rw take-padded label;
}
