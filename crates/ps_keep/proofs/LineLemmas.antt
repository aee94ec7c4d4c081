-- Bytes and their lines.
use Rattle.std.proofs.Common.{◌≡◌, ◌≢◌, ℕ, List, [], ◌∷◌, ◌++◌, refl}
use Rattle.std.proofs.Common.{sym, ◌∙◌, ap, subst, arith, append_assoc, inl, inr}
use Rattle.std.proofs.lemmas.Bool.{cases_eq}
use Rattle.std.proofs.lemmas.Bool.Decides.{nat_tests}
use Rattle.std.proofs.lemmas.List.{append-nil}
use mathlib.Core.List.{IsPrefix}
use Rattle.ps_keep.specs.Lines.{AreLines, IsLine, lines_after, text, whole_lines}

at_feed : (front bs : List ℕ) → lines_after front (10 ∷ bs) ≡ front ∷ whole_lines bs
at_feed front bs = refl

past_byte : (front : List ℕ) (b : ℕ) (bs : List ℕ) → b ≢ 10 → lines_after front (b ∷ bs)
    ≡ lines_after (front ++ b ∷ []) bs
past_byte front b bs apart = grind (arith, nat_tests)

-- a line and its line feed begin the lines
pub lines_text : (front line bs : List ℕ) → IsLine line → lines_after front (line ++ 10 ∷ bs)
    ≡ (front ++ line) ∷ whole_lines bs
lines_text front [] bs is = ap (λ (l : List ℕ). l ∷ whole_lines bs) (sym (append-nil front))
lines_text front (b ∷ line) bs is =
    past_byte front b (line ++ 10 ∷ bs) is.0 ∙ lines_text (front ++ b ∷ []) line bs is.1
    ∙ ap (λ (l : List ℕ). l ∷ whole_lines bs) (append_assoc front (b ∷ []) line)

pub no_lines : (front rest : List ℕ) → IsLine rest → lines_after front rest ≡ []
no_lines front [] is = refl
no_lines front (b ∷ rest) is = past_byte front b rest is.0 ∙ no_lines (front ++ b ∷ []) rest is.1

pub whole_text : (lines : List (List ℕ)) (bs : List ℕ) → AreLines lines → whole_lines (text lines ++ bs)
    ≡ lines ++ whole_lines bs
whole_text [] bs are = refl
whole_text (line ∷ lines) bs are =
    ap whole_lines (append_assoc line (10 ∷ text lines) bs) ∙ lines_text [] line (text lines ++ bs) are.0
    ∙ ap (λ (ls : List (List ℕ)). line ∷ ls) (whole_text lines bs are.1)

pub whole_of_text : (lines : List (List ℕ)) → AreLines lines → whole_lines (text lines) ≡ lines
whole_of_text lines are = ap whole_lines (sym (append-nil (text lines))) ∙ whole_text lines [] are ∙ append-nil lines

pub text-append : (a b : List (List ℕ)) → text (a ++ b) ≡ text a ++ text b
text-append [] b = refl
text-append (line ∷ a) b = ap (λ (bs : List ℕ). line ++ 10 ∷ bs) (text-append a b)
    ∙ sym (append_assoc line (10 ∷ text a) (text b))

pub AreLines-append : (a b : List (List ℕ)) → AreLines a → AreLines b → AreLines (a ++ b)
AreLines-append [] b are more = more
AreLines-append (line ∷ a) b are more = (are.0, AreLines-append a b are.1 more)

-- bytes are whole lines and a rest with no line feed
pub record Parts (bytes : List ℕ) : Type 0 where
  pub lines : List (List ℕ)
  pub rest : List ℕ
  pub each : AreLines lines
  pub open_end : IsLine rest
  pub is : bytes ≡ text lines ++ rest

with_byte : (b : ℕ) (bs : List ℕ) → b ≢ 10 → Parts bs → Parts (b ∷ bs)
with_byte b bs apart p = go p.lines p.each p.is
  where
    go : (ls : List (List ℕ)) → AreLines ls → bs ≡ text ls ++ p.rest → Parts (b ∷ bs)
    go [] are is = record {
      lines = [];
      rest = b ∷ p.rest;
      each = tt;
      open_end = (
        apart,
        p.open_end,
      );
      is = ap (λ (l : List ℕ). b ∷ l) is;
    }
    go (l ∷ ls) are is = record {
      lines = (b ∷ l) ∷ ls;
      rest = p.rest;
      each = (
        (apart, are.0),
        are.1,
      );
      open_end = p.open_end;
      is = ap (λ (l : List ℕ). b ∷ l) is;
    }

pub parts : (bytes : List ℕ) → Parts bytes
parts [] = record { lines = []; rest = []; each = tt; open_end = tt; is = refl }
parts (b ∷ bs) = elim (cases_eq b 10) [
  | inl feed ↦
      let p = parts bs in
      record {
        lines = [] ∷ p.lines;
        rest = p.rest;
        each = (
          tt,
          p.each,
        );
        open_end = p.open_end;
        is = (λ i. feed i ∷ p.is i);
      }
  | inr apart ↦ with_byte b bs apart (parts bs)
]

pub parts_lines : (bytes : List ℕ) (p : Parts bytes) → whole_lines bytes ≡ p.lines
parts_lines bytes p = ap whole_lines p.is ∙ whole_text p.lines p.rest p.each
    ∙ ap (λ (ls : List (List ℕ)). p.lines ++ ls) (no_lines [] p.rest p.open_end) ∙ append-nil p.lines

pub whole_are : (bytes : List ℕ) → AreLines (whole_lines bytes)
whole_are bytes = let p = parts bytes in subst AreLines (sym (parts_lines bytes p)) p.each

-- the first line feed stands at one place
pub first_feed : (x y u v : List ℕ) → IsLine x → IsLine y → x ++ 10 ∷ u ≡ y ++ 10 ∷ v → (x ≡ y) × (u ≡ v)
first_feed [] [] u v a b e = (refl, cc)
first_feed [] (d ∷ y) u v a b e = absurd (b.0 (cc))
first_feed (c ∷ x) [] u v a b e = absurd (a.0 (cc))
first_feed (c ∷ x) (d ∷ y) u v a b e =
    let same : c ≡ d = cc in
    let rest : x ++ 10 ∷ u ≡ y ++ 10 ∷ v = cc in
    let r = first_feed x y u v a.1 b.1 rest in
    ((λ i. same i ∷ r.0 i), r.1)

no_bytes : (line bs : List ℕ) → line ++ 10 ∷ bs ≡ [] → ⊥
no_bytes [] bs e = cc
no_bytes (b ∷ line) bs e = cc

-- whole lines at the front of a text are its first lines
pub lines_begin : (lines all : List (List ℕ)) (rest : List ℕ) → AreLines lines → AreLines all → text lines ++ rest
    ≡ text all → IsPrefix lines all
lines_begin [] all rest are those e = (all, refl)
lines_begin (line ∷ lines) [] rest are those e = absurd (no_bytes line (text lines ++ rest) (sym (append_assoc line (10
    ∷ text lines) rest) ∙ e))
lines_begin (line ∷ lines) (first ∷ all) rest are those e =
    let r = first_feed line first (text lines ++ rest) (text all) are.0 those.0 (sym (append_assoc line (10 ∷ text
    lines) rest) ∙ e) in
    let more = lines_begin lines all rest are.1 those.1 r.1 in
    (more.0, λ i. r.0 i ∷ more.1 i)

-- the lines of a beginning of a text are its first lines
pub front_lines : (left : List ℕ) (all : List (List ℕ)) → AreLines all → IsPrefix left (text all)
    → IsPrefix (whole_lines left) all
front_lines left all those begins =
    let p = parts left in
    let joined : text p.lines ++ (p.rest ++ begins.0) ≡ text all =
    sym (append_assoc (text p.lines) p.rest begins.0) ∙ ap (λ (l : List ℕ). l ++ begins.0) (sym p.is) ∙ begins.1 in
    subst (λ (ls : List (List ℕ)). IsPrefix ls all) (sym (parts_lines left p)) (lines_begin p.lines all (p.rest ++
    begins.0) p.each those joined)

-- where bytes begin with a text, their lines begin with its lines
pub text_first : (lines : List (List ℕ)) (left : List ℕ) → AreLines lines → IsPrefix (text lines) left
    → IsPrefix lines (whole_lines left)
text_first lines left are begins = (whole_lines begins.0, sym (whole_text lines begins.0 are) ∙ ap whole_lines begins.1)

pub text_of_beginning : (lines all : List (List ℕ)) → IsPrefix lines all → IsPrefix (text lines) (text all)
text_of_beginning lines all begins = (text begins.0, sym (text-append lines begins.0) ∙ ap text begins.1)
