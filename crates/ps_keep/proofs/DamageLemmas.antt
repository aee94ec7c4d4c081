-- The last right digest line of a file, and the first wrong one.
use Rattle.std.proofs.Common.{◌≡◌, ◌+◌, ◌-◌, ℕ, true, false, List, [], ◌∷◌, ◌++◌, length, take, inl, inr}
use Rattle.std.proofs.Common.{refl, sym, ◌∙◌, ap, subst, arith, append_assoc, length-append}
use Rattle.std.proofs.lemmas.List.{append-nil, take-append-le, take_all}
use Rattle.ps_keep.specs.Digests.{HaveNoDigests, IsLastDigest, IsWrongDigest, is_digest_line}
use Rattle.ps_keep.specs.Digested.{IsDamage}
use Rattle.ps_keep.specs.Lines.{whole_lines}

-- the last digest line before the rest has this number
pub record IntactSoFar (bytes rest : List ℕ) (number intact : ℕ) : Type 0 where
  pub before : List (List ℕ)
  pub is : whole_lines bytes ≡ before ++ whole_lines rest
  pub counts : number ≡ length before
  pub last : IsLastDigest before intact

pub intact_nothing : (bytes : List ℕ) → IntactSoFar bytes bytes 0 0
intact_nothing bytes = record {
  before = [];
  is = refl;
  counts = refl;
  last = record { up_to = []; after = []; is = refl; counts = refl; ends = inl refl; none = tt };
}

one_more : (before after : List (List ℕ)) (line : List ℕ) (all : List (List ℕ)) → all ≡ before ++ line ∷ after
    → all ≡ (before ++ line ∷ []) ++ after
one_more before after line all e = e ∙ sym (append_assoc before (line ∷ []) after)

no_more : (lines : List (List ℕ)) (line : List ℕ) → HaveNoDigests lines → is_digest_line line ≡ false
    → HaveNoDigests (lines ++ line ∷ [])
no_more [] line none form = (form, tt)
no_more (l ∷ lines) line none form = (none.0, no_more lines line none.1 form)

pub intact_other : (bytes rest after line : List ℕ) (number intact : ℕ) → IntactSoFar bytes rest number intact
    → whole_lines rest ≡ line ∷ whole_lines after → is_digest_line line ≡ false
    → IntactSoFar bytes after (number + 1) intact
intact_other bytes rest after line number intact r first form = record {
  before = r.before ++ line ∷ [];
  is = one_more r.before (whole_lines after) line (whole_lines bytes)
      (r.is ∙ ap (λ (ls : List (List ℕ)). r.before ++ ls) first);
  counts = let c = r.counts in let l = length-append r.before (line ∷ []) in omega arith;
  last = record {
    up_to = r.last.up_to;
    after = r.last.after ++ line ∷ [];
    is = ap (λ (ls : List (List ℕ)). ls ++ line ∷ []) r.last.is ∙ append_assoc r.last.up_to r.last.after (line ∷ []);
    counts = r.last.counts;
    ends = r.last.ends;
    none = no_more r.last.after line r.last.none form;
  };
}

pub intact_digest : (bytes rest after line : List ℕ) (number intact : ℕ) → IntactSoFar bytes rest number intact
    → whole_lines rest ≡ line ∷ whole_lines after → is_digest_line line ≡ true
    → IntactSoFar bytes after (number + 1) (number + 1)
intact_digest bytes rest after line number intact r first form = record {
  before = r.before ++ line ∷ [];
  is = one_more r.before (whole_lines after) line (whole_lines bytes)
      (r.is ∙ ap (λ (ls : List (List ℕ)). r.before ++ ls) first);
  counts = let c = r.counts in let l = length-append r.before (line ∷ []) in omega arith;
  last = record {
    up_to = r.before ++ line ∷ [];
    after = [];
    is = sym (append-nil (r.before ++ line ∷ []));
    counts = let c = r.counts in let l = length-append r.before (line ∷ []) in omega arith;
    ends = inr (r.before, line, refl, form);
    none = tt;
  };
}

-- the lines before the rest
lines_before : (bytes rest : List ℕ) (number intact : ℕ) (r : IntactSoFar bytes rest number intact)
    → take ((number + 1) - 1) (whole_lines bytes) ≡ r.before
lines_before bytes rest number intact r =
    let c = r.counts in
    let count : (number + 1) - 1 ≡ length r.before = omega arith in
    ap (λ (n : ℕ). take n (whole_lines bytes)) count
    ∙ ap (λ (ls : List (List ℕ)). take (length r.before) ls) r.is
    ∙ take-append-le (length r.before) r.before (whole_lines rest) (omega arith)
    ∙ take_all (length r.before) r.before (omega arith)

pub damaged_after : (bytes rest : List ℕ) (number intact : ℕ) → IntactSoFar bytes rest number intact
    → IsWrongDigest (whole_lines bytes) (number + 1)
    → IsDamage (whole_lines bytes) (record { wrong = number + 1; intact = intact })
damaged_after bytes rest number intact r wrong = record {
  wrong = wrong;
  intact = subst (λ (ls : List (List ℕ)). IsLastDigest ls intact) (sym (lines_before bytes rest number intact r)) r.last;
}
