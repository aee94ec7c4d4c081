-- A file that is appended to ends in a digest line.
use Rattle.std.proofs.Common.{◌≡◌, ◌<◌, ◌-◌, ℕ, Bool, true, false, nat_eq, List, [], ◌∷◌, ◌++◌, length, drop}
use Rattle.std.proofs.Common.{refl, sym, ◌∙◌, ap, subst, arith, length-append}
use Rattle.std.proofs.lemmas.List.{append-nil}
use Rattle.std.specs.List.{ends_with}
use Rattle.md5.specs.Md5.{Holds}
use Rattle.md5.specs.declared.Md5.{Md5}
use Rattle.ps_keep.specs.Digests.{EndsInDigest, EndsLine, HaveNoDigests, digest_line}
use Rattle.ps_keep.specs.Digested.{IsCovered, IsDigested}
use Rattle.ps_keep.specs.Lines.{whole_lines}
use lib.Pointwise.{pointwise}
use Rattle.ps_keep.proofs.MirrorLemmas.{plain_beginning}

apart : (failed : Bool) → failed ≡ true → failed ≡ false → ⊥
apart failed e f = cc

pub cover_failed : (opened raw written : List ℕ) (failed : Bool) → failed ≡ true → IsCovered opened raw written failed
cover_failed opened raw written failed e = record { is = λ well _ _ _. absurd (apart failed e well) }

-- nothing was written yet
pub cover_opened : (opened raw written : List ℕ) (failed : Bool) → opened ≡ written
    → IsCovered opened raw written failed
cover_opened opened raw written failed e = record {
  is = λ _ _ more _. absurd (let same = ap (λ (l : List ℕ). length l) e in omega arith);
}

-- a digest line was written
pub cover_digest : (was failed : Bool) (opened raw raw2 written written2 bytes line : List ℕ) (on_disk synced : ℕ)
    (hasher between : Md5) → IsDigested raw on_disk written synced was hasher → was ≡ false
    → raw2 ≡ (raw ++ bytes) ++ line → written2 ≡ written ++ bytes
    → ((held : List ℕ) → Holds hasher held → Holds between (held ++ bytes))
    → ((held : List ℕ) → Holds between held → line ≡ digest_line held ++ 10 ∷ [])
    → IsCovered opened raw2 written2 failed
cover_digest was failed opened raw raw2 written written2 bytes line on_disk synced hasher between d going has given
    takes
    is = record {
      is = λ well have _ _.
          let h = d.going going (plain_beginning written bytes (subst (λ (l : List ℕ). HaveNoDigests
          (whole_lines l)) given have)) in (
            raw ++ bytes,
            h.held ++ bytes,
            has ∙ ap (λ (l : List ℕ). (raw ++ bytes) ++ l) (is (h.held ++ bytes) (takes h.held h.hashed)),
          );
    }

feed_alone : (x : List ℕ) → ends_with nat_eq (x ++ 10 ∷ []) (10 ∷ []) ≡ true
feed_alone x =
    let at : length (x ++ 10 ∷ []) - 1 ≡ length x = let l = length-append x (10 ∷ []) in omega arith in
    let rest : drop (length (x ++ 10 ∷ []) - 1) (x ++ 10 ∷ []) ≡ 10 ∷ [] =
    ap (λ (n : ℕ). drop n (x ++ 10 ∷ [])) at ∙ drop_front x in
    ap (λ (l : List ℕ). pointwise nat_eq (10 ∷ []) l) rest
  where
    drop_front : (y : List ℕ) → drop (length y) (y ++ 10 ∷ []) ≡ 10 ∷ []
    drop_front [] = refl
    drop_front (b ∷ y) = drop_front y

-- what ends in a line feed has it in its last part
last_part : (w : List ℕ) (b : ℕ) (bytes front : List ℕ) → w ++ b ∷ bytes ≡ front ++ 10 ∷ []
    → (x : List ℕ) × (b ∷ bytes ≡ x ++ 10 ∷ [])
last_part [] b bytes front e = (front, e)
last_part (c ∷ w) b bytes [] e = absurd (none w (cc))
  where
    none : (l : List ℕ) → l ++ b ∷ bytes ≡ [] → ⊥
    none [] f = cc
    none (d ∷ l) f = cc
last_part (c ∷ w) b bytes (d ∷ front) e = last_part w b bytes front (cc)

-- bytes were written that end no line
pub cover_more : (was failed : Bool) (opened raw raw2 written written2 bytes : List ℕ)
    → IsCovered opened raw written was
    → was ≡ false → raw2 ≡ raw ++ bytes → written2 ≡ written ++ bytes → ends_with nat_eq bytes (10 ∷ []) ≡ false
    → IsCovered opened raw2 written2 failed
cover_more was failed opened raw raw2 written written2 [] old going has given other =
    let same : raw2 ≡ raw = has ∙ append-nil raw in
    let same_too : written2 ≡ written = given ∙ append-nil written in
    record {
      is = λ well have more ends.
          subst EndsInDigest (sym same) (old.is going (subst (λ (l : List ℕ).
          HaveNoDigests (whole_lines l)) same_too have) (subst (λ (l : List ℕ). length opened < length l)
          same_too more) (subst EndsLine same_too ends));
    }
cover_more was failed opened raw raw2 written written2 (b ∷ bytes) old going has given other = record {
  is = λ well have more ends.
      let part = last_part written b bytes ends.0 (sym given ∙ ends.1) in
      absurd (apart (ends_with nat_eq (b ∷ bytes) (10 ∷ [])) (ap (λ (l : List ℕ). ends_with nat_eq l (10 ∷ [])) part.1
      ∙ feed_alone part.0) other);
}

pub cover_same : (was failed : Bool) (opened raw raw2 written written2 : List ℕ) → IsCovered opened raw written was
    → was ≡ false → raw2 ≡ raw → written2 ≡ written → IsCovered opened raw2 written2 failed
cover_same was failed opened raw raw2 written written2 old going has given = record {
  is = λ well have more ends.
      subst EndsInDigest (sym has) (old.is going (subst (λ (l : List ℕ). HaveNoDigests
      (whole_lines l)) given have) (subst (λ (l : List ℕ). length opened < length l) given more)
      (subst EndsLine given ends));
}
