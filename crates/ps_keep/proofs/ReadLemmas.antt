-- Reading a file with digest lines.
use Rattle.std.proofs.Common.{◌≡◌, ◌≢◌, ◌≤◌, ◌<◌, ◌+◌, ◌^◌, ℕ, true, false, List, [], ◌∷◌, ◌++◌, length, take, drop}
use Rattle.std.proofs.Common.{refl, sym, ◌∙◌, ap, subst, arith, append_assoc, length-append}
use Rattle.std.proofs.lemmas.List.{append-nil, drop-append-le, drop_all, length-take-le}
use Rattle.md5.specs.Md5.{Holds}
use Rattle.md5.specs.declared.Md5.{Md5}
use Rattle.ps_keep.specs.Digests.{AreDigested, AreNumbered, IsWrongDigest, digest_line, is_digest_line, others}
use Rattle.ps_keep.specs.Digests.{others_before, since}
use Rattle.ps_keep.specs.Digested.{IsRead}
use Rattle.ps_keep.specs.Lines.{AreLines, text, whole_lines}
use Rattle.ps_keep.proofs.DigestLemmas.{begins_anew, digest-cons, digested-append, other-cons, others-append}
use Rattle.ps_keep.proofs.DigestLemmas.{others_are, passes}
use Rattle.ps_keep.proofs.DigestLemmas.{since-append}
use Rattle.ps_keep.proofs.NumberLemmas.{numbers_digest, numbers_other}
use Rattle.ps_keep.proofs.LineLemmas.{text-append, whole_are, whole_of_text}

-- the lines before the rest are right, and those of them that aren't digest lines are copied. Of the copy, the hasher
-- hasn't taken in what comes after so many bytes
pub record ReadSoFar (bytes rest clean : List ℕ) (hasher : Md5) (hashed number : ℕ) (digests : List ℕ) (count : ℕ) :
    Type 0 where
  pub before : List (List ℕ)
  pub is : whole_lines bytes ≡ before ++ whole_lines rest
  pub copied : clean ≡ text (others before)
  pub digested : AreDigested [] before
  pub held : List ℕ
  pub holds : Holds hasher held
  pub has_hashed : hashed ≤ length clean
  pub waits : held ++ drop hashed clean ≡ since [] before
  pub counts : number ≡ length before
  pub within : number + length rest ≤ length bytes
  pub numbered : digests ≡ others_before 0 before
  pub counted : count ≡ length (others before)

pub read_nothing : (bytes : List ℕ) (hasher : Md5) → Holds hasher [] → ReadSoFar bytes bytes [] hasher 0 0 [] 0
read_nothing bytes hasher holds = record {
  before = [];
  is = refl;
  copied = refl;
  digested = tt;
  held = [];
  holds = holds;
  has_hashed = omega arith;
  waits = refl;
  counts = refl;
  within = omega arith;
  numbered = refl;
  counted = refl;
}

one_more : (before after : List (List ℕ)) (line : List ℕ) (all : List (List ℕ)) → all ≡ before ++ line ∷ after
    → all ≡ (before ++ line ∷ []) ++ after
one_more before after line all e = e ∙ sym (append_assoc before (line ∷ []) after)

-- what waits for the hasher, where a line is added
waits_more : (clean copied line held before : List ℕ) (hashed : ℕ) → hashed ≤ length clean
    → held ++ drop hashed clean ≡ before → copied ≡ (clean ++ line) ++ 10 ∷ []
    → held ++ drop hashed copied ≡ before ++ (line ++ 10 ∷ [])
waits_more clean copied line held before hashed within is adds =
    let all : copied ≡ clean ++ (line ++ 10 ∷ []) = adds ∙ append_assoc clean line (10 ∷ []) in
    let rest : drop hashed copied ≡ drop hashed clean ++ (line ++ 10 ∷ []) =
    ap (λ (l : List ℕ). drop hashed l) all ∙ drop-append-le hashed clean (line ++ 10 ∷ []) within in
    ap (λ (l : List ℕ). held ++ l) rest ∙ sym (append_assoc held (drop hashed clean) (line ++ 10 ∷ []))
    ∙ ap (λ (l : List ℕ). l ++ (line ++ 10 ∷ [])) is

pub read_other : (bytes rest after clean copied line digests : List ℕ) (hasher : Md5) (hashed number count : ℕ)
    → ReadSoFar bytes rest clean hasher hashed number digests count → whole_lines rest ≡ line ∷ whole_lines after
    → length after < length rest → is_digest_line line ≡ false → copied ≡ (clean ++ line) ++ 10 ∷ []
    → ReadSoFar bytes after copied hasher hashed (number + 1) digests (count + 1)
read_other bytes rest after clean copied line digests hasher hashed number count r first shorter form adds = record {
  before = r.before ++ line ∷ [];
  is = one_more r.before (whole_lines after) line (whole_lines bytes)
      (r.is ∙ ap (λ (ls : List (List ℕ)). r.before ++ ls) first);
  copied = adds ∙ append_assoc clean line (10 ∷ []) ∙ ap (λ (l : List ℕ). l ++ (line ++ 10 ∷ [])) r.copied
      ∙ sym (text-append (others r.before) (line ∷ []))
      ∙ ap text (ap (λ (ls : List (List ℕ)). others r.before ++ ls) (sym (other-cons line [] form))
      ∙ sym (others-append r.before (line ∷ [])));
  digested = digested-append [] r.before (line ∷ []) r.digested ((λ is. absurd (no_both is)), tt);
  held = r.held;
  holds = r.holds;
  has_hashed =
      let h = r.has_hashed in
      let all : copied ≡ clean ++ (line ++ 10 ∷ []) = adds ∙ append_assoc clean line (10 ∷ []) in
      let more = ap (λ (l : List ℕ). length l) all in
      let both = length-append clean (line ++ 10 ∷ []) in
      omega arith;
  waits = waits_more clean copied line r.held (since [] r.before) hashed r.has_hashed r.waits adds
      ∙ sym (since-append [] r.before (line ∷ []) ∙ passes (since [] r.before) line form);
  counts = let c = r.counts in let l = length-append r.before (line ∷ []) in omega arith;
  within = let w = r.within in omega arith;
  numbered = r.numbered ∙ sym (numbers_other r.before line form);
  counted =
      let c = r.counted in
      let l = length-append (others r.before) (line ∷ []) in
      let more : length (others (r.before ++ line ∷ [])) ≡ length (others r.before ++ line ∷ []) = ap (λ (ls : List
      (List
      ℕ)). length ls) (others-append r.before (line ∷ []) ∙ ap (λ (ls : List (List ℕ)). others r.before ++ ls)
      (other-cons line [] form)) in
      omega arith;
}
  where
    no_both : is_digest_line line ≡ true → ⊥
    no_both is = let other = form in cc

pub read_digest : (bytes rest after clean line digests more_digests : List ℕ) (hasher next : Md5)
    (hashed number count all : ℕ) → ReadSoFar bytes rest clean hasher hashed number digests count
    → whole_lines rest ≡ line ∷ whole_lines after → length after < length rest → is_digest_line line ≡ true
    → all ≡ length clean → ((held : List ℕ) → Holds hasher held
    → (line ≡ digest_line (held ++ drop hashed clean)) × Holds next (line ++ 10 ∷ []))
    → more_digests ≡ digests ++ count ∷ []
    → ReadSoFar bytes after clean next all (number + 1) more_digests count
read_digest bytes rest after clean line digests more_digests hasher next hashed number count all r first shorter form
    is_all right adds = record {
      before = r.before ++ line ∷ [];
      is = one_more r.before (whole_lines after) line (whole_lines bytes)
          (r.is ∙ ap (λ (ls : List (List ℕ)). r.before ++ ls) first);
      copied = r.copied ∙ ap text (sym (append-nil (others r.before))
          ∙ ap (λ (ls : List (List ℕ)). others r.before ++ ls) (sym (digest-cons line [] form))
          ∙ sym (others-append r.before (line ∷ [])));
      digested = digested-append [] r.before (line ∷ []) r.digested
          ((λ _. (right r.held r.holds).0 ∙ ap digest_line r.waits), tt);
      held = line ++ 10 ∷ [];
      holds = (right r.held r.holds).1;
      has_hashed = omega arith;
      waits = ap (λ (l : List ℕ). (line ++ 10 ∷ []) ++ l) (drop_all all clean (omega arith))
          ∙ append-nil (line ++ 10 ∷ [])
          ∙ sym (since-append [] r.before (line ∷ []) ∙ begins_anew (since [] r.before) line form);
      counts = let c = r.counts in let l = length-append r.before (line ∷ []) in omega arith;
      within = let w = r.within in omega arith;
      numbered = adds ∙ (λ i. r.numbered i ++ r.counted i ∷ []) ∙ sym (numbers_digest r.before line form);
      counted = r.counted ∙ ap (λ (ls : List (List ℕ)). length ls) (sym (others-append r.before (line ∷ [])
          ∙ ap (λ (ls : List (List ℕ)). others r.before ++ ls) (digest-cons line [] form) ∙ append-nil
          (others r.before)));
    }

pub read_wrong : (bytes rest after clean line digests : List ℕ) (hasher : Md5) (hashed number count : ℕ)
    → ReadSoFar bytes rest clean hasher hashed number digests count → whole_lines rest ≡ line ∷ whole_lines after
    → is_digest_line line ≡ true
    → ((held : List ℕ) → Holds hasher held → line ≢ digest_line (held ++ drop hashed clean))
    → IsWrongDigest (whole_lines bytes) (number + 1)
read_wrong bytes rest after clean line digests hasher hashed number count r first form wrong = record {
  before = r.before;
  line = line;
  after = whole_lines after;
  is = r.is ∙ ap (λ (ls : List (List ℕ)). r.before ++ ls) first;
  counts = ap (λ (n : ℕ). n + 1) r.counts;
  digested = r.digested;
  has_form = form;
  wrong = λ same. wrong r.held r.holds (same ∙ ap digest_line (sym r.waits));
}

no_text : (lines : List (List ℕ)) → text lines ≡ [] → lines ≡ []
no_text [] e = refl
no_text (line ∷ lines) e = absurd (none line e)
  where
    none : (l : List ℕ) → l ++ 10 ∷ text lines ≡ [] → ⊥
    none [] f = cc
    none (b ∷ l) f = cc

at_end : (bytes rest clean digests : List ℕ) (hasher : Md5) (hashed number count : ℕ)
    (r : ReadSoFar bytes rest clean hasher hashed number digests count) → whole_lines rest ≡ []
    → whole_lines bytes ≡ r.before
at_end bytes rest clean digests hasher hashed number count r none =
    r.is ∙ ap (λ (ls : List (List ℕ)). r.before ++ ls) none ∙ append-nil r.before

-- the hasher has taken in the rest of the copy
abbrev pub IsNext : (clean : List ℕ) (hashed : ℕ) (hasher next : Md5) → Type 0
IsNext clean hashed hasher next = (held : List ℕ) → Holds hasher held → Holds next (held ++ drop hashed clean)

all_hashed : (bytes rest clean digests : List ℕ) (hasher next : Md5) (hashed number count : ℕ)
    (r : ReadSoFar bytes rest clean hasher hashed number digests count) → whole_lines rest ≡ []
    → IsNext clean hashed hasher next → Holds next (since [] (whole_lines bytes))
all_hashed bytes rest clean digests hasher next hashed number count r none takes =
    let lines = at_end bytes rest clean digests hasher hashed number count r none in
    subst (Holds next) (r.waits ∙ ap (λ (ls : List (List ℕ)). since [] ls) (sym lines)) (takes r.held r.holds)

-- a file without a whole line is taken as it is
pub read_no_line : (bytes rest clean digests : List ℕ) (hasher next : Md5) (hashed number count whole : ℕ)
    → ReadSoFar bytes rest clean hasher hashed number digests count → whole_lines rest ≡ []
    → IsNext clean hashed hasher next → take whole bytes ≡ text (whole_lines bytes) → whole ≡ 0
    → IsRead bytes (clean ++ bytes) whole next
read_no_line bytes rest clean digests hasher next hashed number count whole r none takes up_to zero =
    let lines = at_end bytes rest clean digests hasher hashed number count r none in
    let empty : whole_lines bytes ≡ [] = no_text (whole_lines bytes) (sym up_to ∙ ap (λ (n : ℕ). take n bytes) zero) in
    let nothing : r.before ≡ [] = sym lines ∙ empty in
    let same : clean ++ bytes ≡ bytes = ap (λ (l : List ℕ). l ++ bytes) (r.copied ∙ ap (λ (ls : List (List ℕ)). text
    (others ls)) nothing) in
    record {
      is_clean = record {
        digested = subst (AreDigested []) (sym lines) r.digested;
        lines = ap whole_lines same ∙ empty ∙ ap others (sym empty);
        some_line = λ some. absurd (some empty);
        no_line = λ _. same;
      };
      within = omega arith;
      ends = up_to;
      hashed = all_hashed bytes rest clean digests hasher next hashed number count r none takes;
    }

pub read_all : (bytes rest clean digests : List ℕ) (hasher next : Md5) (hashed number count whole : ℕ)
    → ReadSoFar bytes rest clean hasher hashed number digests count → whole_lines rest ≡ []
    → IsNext clean hashed hasher next → take whole bytes ≡ text (whole_lines bytes) → whole ≤ length bytes → whole ≢ 0
    → IsRead bytes clean whole next
read_all bytes rest clean digests hasher next hashed number count whole r none takes up_to within some =
    let lines = at_end bytes rest clean digests hasher hashed number count r none in
    record {
      is_clean = record {
        digested = subst (AreDigested []) (sym lines) r.digested;
        lines = ap whole_lines r.copied
            ∙ whole_of_text (others r.before) (others_are r.before
            (subst (λ (ls : List (List ℕ)). AreLines ls) lines (whole_are bytes)))
            ∙ ap others (sym lines);
        some_line = λ _. r.copied ∙ ap (λ (ls : List (List ℕ)). text (others ls)) (sym lines);
        no_line = λ empty. absurd (not_none (sym (up_to ∙ ap text empty)));
      };
      within = within;
      ends = up_to;
      hashed = all_hashed bytes rest clean digests hasher next hashed number count r none takes;
    }
  where
    not_none : [] ≡ take whole bytes → ⊥
    not_none e = some (front_of whole bytes within e)
      where
        front_of : (n : ℕ) (l : List ℕ) → n ≤ length l → [] ≡ take n l → n ≡ 0
        front_of n l le f = let len = ap length f in let t = length-take-le n l le in omega arith

-- the digest lines are numbered
pub read_numbers : (bytes rest clean digests : List ℕ) (hasher : Md5) (hashed number count : ℕ)
    → ReadSoFar bytes rest clean hasher hashed number digests count → whole_lines rest ≡ [] → length bytes < 2 ^ 64
    → AreNumbered (whole_lines bytes) digests
read_numbers bytes rest clean digests hasher hashed number count r none fits =
    let lines = at_end bytes rest clean digests hasher hashed number count r none in
    record {
      is = r.numbered ∙ ap (λ (ls : List (List ℕ)). others_before 0 ls) (sym lines);
      fits =
          let c = r.counts in
          let w = r.within in
          let l : length (whole_lines bytes) ≡ length r.before = ap (λ (ls : List (List ℕ)). length ls) lines in
          omega arith;
    }
