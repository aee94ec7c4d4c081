-- Kept sheets whose files have digest lines.
use Rattle.std.proofs.Common.{◌≡◌, ◌≤◌, ◌+◌, ◌&&◌, ℕ, Bool, true, false, nat_eq, List, [], ◌∷◌, ◌++◌, length}
use Rattle.std.proofs.Common.{refl, sym, ◌∙◌, ap, subst, arith, inl, inr, length-append}
use Rattle.std.specs.Prelude.{codes, decimal}
use Rattle.std.specs.List.{starts_with}
use Rattle.std.proofs.lemmas.Bool.{ne_eqb}
use Rattle.std.proofs.lemmas.Fmt.{length-decimal-le}
use mathlib.Core.List.{IsPrefix}
use Rattle.ps_grid.specs.declared.parties.TheConstants.{REPLICAS}
use Rattle.ps_delta.specs.Deltas.{Entries}
use Rattle.ps_lines.specs.PushLine.{push_word}
use Rattle.ps_lines.specs.ReplicaLine.{replica_line}
use Rattle.ps_keep.specs.Digests.{HaveNoDigests, IsClean, ReadsAs, digest_word, is_digest_line, others}
use Rattle.ps_keep.specs.Lines.{text, whole_lines}
use Rattle.ps_keep.proofs.DigestLemmas.{plain_front}
use Rattle.ps_keep.proofs.LineLemmas.{front_lines}
use Rattle.ps_kept.specs.Kept.{PushAll, TellHistory}
use Rattle.ps_kept.specs.Laws.{CrashesKeepDigested, ToldLinesHaveNoDigests}
use Rattle.ps_kept.specs.Starts.{Reads}
use Rattle.ps_kept.proofs.LawLemmas.{crashes_keep}

and_false : (b : Bool) → (b && false) ≡ false
and_false true = refl
and_false false = refl

-- the first line is shorter than a digest line
first_plain : (replica : ℕ) → replica ≤ REPLICAS → is_digest_line (replica_line replica) ≡ false
first_plain replica le =
    let digits = length-decimal-le 2 replica (omega arith) (omega arith) (omega arith) in
    let all : length (replica_line replica) ≡ 8 + length (decimal replica) = length-append (codes "replica ") (decimal
    replica) in
    ap (λ (b : Bool). b && starts_with nat_eq (replica_line replica) digest_word) (ne_eqb (length (replica_line
    replica)) 24 (λ e. omega arith))

-- .. and the others begin otherwise
push_plain : (line after : List ℕ) → line ≡ push_word ++ after → is_digest_line line ≡ false
push_plain line after is = ap (λ (l : List ℕ). is_digest_line l) is ∙ and_false (nat_eq (length (push_word ++ after))
    24)

pushes_plain : (lines : List (List ℕ)) (history : List Entries) → PushAll lines history → HaveNoDigests lines
pushes_plain [] history all = tt
pushes_plain (line ∷ lines) [] all = absurd all
pushes_plain (line ∷ lines) (d ∷ history) all = (
  push_plain line all.0.0 all.0.1,
  pushes_plain lines history all.1,
)

pub told_plain : ToldLinesHaveNoDigests
told_plain replica [] history le told = absurd told
told_plain replica (first ∷ others) history le told = (
  ap (λ (l : List ℕ). is_digest_line l) told.0 ∙ first_plain replica le,
  pushes_plain others history told.1,
)

some_line : (l : List ℕ) (ls : List (List ℕ)) → l ∷ ls ≡ [] → ⊥
some_line l ls e = cc

-- what is read of the other lines is what is read of these bytes
reads_clean : (replica : ℕ) (left bytes clean : List ℕ) (history : List Entries) → ReadsAs left bytes
    → IsClean left clean
    → Reads replica bytes history → Reads replica clean history
reads_clean replica left bytes clean history reads is (inl (empty, none)) = inl (
  record {
    no_line = is.lines ∙ sym reads.lines ∙ empty.no_line;
    torn = torn (whole_lines left) refl;
  },
  none,
)
  where
    torn : (lines : List (List ℕ)) → whole_lines left ≡ lines → IsPrefix clean (replica_line replica)
    torn [] e = subst (λ (l : List ℕ). IsPrefix l (replica_line replica)) (reads.no_line e ∙ sym
        (is.no_line e)) empty.torn
    torn (l ∷ ls) e =
        let nothing : clean ≡ [] = is.some_line (λ f. some_line l ls (sym e ∙ f)) ∙ ap text (sym reads.lines
        ∙ empty.no_line) in
        subst (λ (b : List ℕ). IsPrefix b (replica_line replica)) (sym nothing) (replica_line replica, refl)
reads_clean replica left bytes clean history reads is (inr begun) = inr (record {
  told = subst (λ (ls : List (List ℕ)). TellHistory replica ls history) (reads.lines ∙ sym is.lines) begun.told;
  fresh = begun.fresh;
})

pub crashes_keep_digested : CrashesKeepDigested
crashes_keep_digested replica kept history j raw on_disk le is_kept noted fresh survives left is =
    let first = front_lines j.written j.lines noted.journal.each noted.journal.noted in
    let plain = plain_front (whole_lines j.written) first.0 (subst HaveNoDigests (sym first.1) (told_plain replica
    j.lines noted.noted le noted.told)) in
    let r = survives plain left is in
    let found = crashes_keep replica kept history j is_kept noted fresh r.0 r.1 in (
      r.2.digested,
      λ clean is_clean. (found.0, reads_clean replica left r.0 clean found.0 r.2 is_clean found.1, found.2, found.3),
    )
