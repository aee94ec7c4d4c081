-- What a crash leaves of a journal.
use Rattle.std.proofs.Common.{◌≡◌, ◌≤◌, ℕ, false, true, zero, suc, List, [], ◌∷◌, ◌++◌, length, take}
use Rattle.std.proofs.Common.{drop, refl, sym, ◌∙◌, ap, subst, arith, append_assoc, take-append-drop}
use Rattle.std.proofs.lemmas.List.{append-nil}
use mathlib.Core.List.{IsPrefix}
use Rattle.ps_keep.specs.Lines.{AreLines, IsLine, text, whole_lines}
use Rattle.ps_keep.specs.Crash.{IsLeft, SurvivesCrashes, SurvivesTears}
use Rattle.ps_keep.specs.Journals.{IsJournal, JournalView}
use Rattle.ps_keep.proofs.LineLemmas.{front_lines, no_lines, parts, parts_lines, text_first, whole_are, whole_of_text}
use Rattle.ps_keep.proofs.LineLemmas.{whole_text}

-- of two beginnings of one list the shorter begins the longer
pub shorter_begins : (a b all : List ℕ) → IsPrefix a all → IsPrefix b all → length a ≤ length b → IsPrefix a b
shorter_begins [] b all p q le = (b, refl)
shorter_begins (x ∷ a) [] all p q le = absurd (omega arith)
shorter_begins (x ∷ a) (y ∷ b) [] p q le = absurd (no_bytes (a ++ p.0) p.1)
  where
    no_bytes : (l : List ℕ) → x ∷ l ≡ [] → ⊥
    no_bytes l e = cc
shorter_begins (x ∷ a) (y ∷ b) (z ∷ all) p q le =
    let first : x ≡ y = let s = p.1 in let t = q.1 in cc in
    let tail_a : a ++ p.0 ≡ all = let s = p.1 in cc in
    let tail_b : b ++ q.0 ≡ all = let t = q.1 in cc in
    let more = shorter_begins a b all (p.0, tail_a) (q.0, tail_b) (omega arith) in
    (more.0, λ i. first i ∷ more.1 i)

pub prefix_trans : {A : Type 0} (a b c : List A) → IsPrefix a b → IsPrefix b c → IsPrefix a c
prefix_trans a b c p q = (p.0 ++ q.0, sym (append_assoc a p.0 q.0) ∙ ap (λ l. l ++ q.0) p.1 ∙ q.1)

pub front_are : (lines all : List (List ℕ)) → AreLines all → IsPrefix lines all → AreLines lines
front_are [] all are p = tt
front_are (line ∷ lines) [] are p = absurd (none (lines ++ p.0) p.1)
  where
    none : (l : List (List ℕ)) → line ∷ l ≡ [] → ⊥
    none l e = cc
front_are (line ∷ lines) (first ∷ all) are p =
    let same : line ≡ first = let s = p.1 in cc in
    let rest : lines ++ p.0 ≡ all = let s = p.1 in cc in
    (subst IsLine (sym same) are.0, front_are lines all are.1 (p.0, rest))

-- a crash between two moments: the file was given no less than what was synced before, and no more than what it has now
pub survives : (kept lines : List (List ℕ)) (written : List ℕ) (synced : ℕ) → AreLines lines → IsPrefix kept lines
    → IsPrefix (text kept) written → IsPrefix written (text lines) → length (text kept) ≤ synced
    → SurvivesCrashes written synced kept lines
survives kept lines written synced are begins holds noted enough left is = record {
  all_acknowledged = text_first kept left (front_are kept lines are begins) (shorter_begins (text kept) left written
      holds is.front (omega (arith, enough, is.enough)));
  nothing_else = front_lines left lines are (prefix_trans left written (text lines) is.front noted);
}

pub journal_survives : (j : JournalView) → IsJournal j → SurvivesCrashes j.written j.synced j.kept j.lines
journal_survives j is = survives j.kept j.lines j.written j.synced is.each is.begins is.holds is.noted is.synced

take_front : (n : ℕ) (l : List ℕ) → IsPrefix (take n l) l
take_front n l = (drop n l, take-append-drop n l)

take_within : (a all : List ℕ) (n : ℕ) → IsPrefix a all → length a ≤ n → IsPrefix a (take n all)
take_within [] all n p le = (take n all, refl)
take_within (x ∷ a) [] n p le = absurd (none (a ++ p.0) p.1)
  where
    none : (l : List ℕ) → x ∷ l ≡ [] → ⊥
    none l e = cc
take_within (x ∷ a) (y ∷ all) zero p le = absurd (omega arith)
take_within (x ∷ a) (y ∷ all) (suc n) p le =
    let same : x ≡ y = let s = p.1 in cc in
    let rest : a ++ p.0 ≡ all = let s = p.1 in cc in
    let more = take_within a all n (p.0, rest) (omega arith) in
    (more.0, λ i. same i ∷ more.1 i)

pub journal_torn : (j : JournalView) → IsJournal j → SurvivesTears j.written j.synced j.kept
journal_torn j is left torn =
    let inside = take_within (text j.kept) j.written j.synced is.holds is.synced in
    let there = prefix_trans (text j.kept) (take j.synced left) left (subst (IsPrefix (text j.kept)) (sym torn.same)
    inside) (take_front j.synced left) in
    text_first j.kept left (front_are j.kept j.lines is.each is.begins) there

pub journal_found : (j : JournalView) → IsJournal j → j.has_failed ≡ true → j.cut_failed ≡ false
    → (j.found ≡ text j.kept) × (whole_lines j.found ≡ j.kept)
journal_found j is failed went =
    let cut = is.cut failed went in
    (cut, ap whole_lines cut ∙ whole_of_text j.kept (front_are j.kept j.lines is.each is.begins))

pub read_twice : (bytes : List ℕ) → whole_lines (text (whole_lines bytes)) ≡ whole_lines bytes
read_twice bytes = whole_of_text (whole_lines bytes) (whole_are bytes)

pub front_line : (u t r : List ℕ) → u ++ t ≡ r → IsLine r → IsLine u
front_line [] t r e is = tt
front_line (x ∷ u) t [] e is = absurd (none (u ++ t) e)
  where
    none : (l : List ℕ) → x ∷ l ≡ [] → ⊥
    none l f = cc
front_line (x ∷ u) t (y ∷ r) e is =
    let same : x ≡ y = cc in
    let rest : u ++ t ≡ r = cc in
    ((λ feed. is.0 (sym same ∙ feed)), front_line u t r rest is.1)

same_front : (a b c : List ℕ) → a ++ b ≡ a ++ c → b ≡ c
same_front [] b c e = e
same_front (x ∷ a) b c e = let rest : a ++ b ≡ a ++ c = cc in same_front a b c rest

-- a start that cuts off what comes after the last line, and crashes, leaves the same lines
pub start_again : (bytes left : List ℕ) → IsLeft bytes (length (text (whole_lines bytes))) left → whole_lines left
    ≡ whole_lines bytes
start_again bytes left is =
    let p = parts bytes in
    let lines = parts_lines bytes p in
    let enough : length (text p.lines) ≤ length left = subst (λ (ls : List (List ℕ)). length (text ls) ≤ length left)
    lines is.enough in
    let there = shorter_begins (text p.lines) left bytes (p.rest, sym p.is) is.front enough in
    let tails : there.0 ++ is.front.0 ≡ p.rest =
    same_front (text p.lines) (there.0 ++ is.front.0) p.rest
    (sym (append_assoc (text p.lines) there.0 is.front.0) ∙ ap (λ (l : List ℕ). l ++ is.front.0) there.1 ∙ is.front.1
    ∙ p.is) in
    ap whole_lines (sym there.1) ∙ whole_text p.lines there.0 p.each
    ∙ ap (λ (ls : List (List ℕ)). p.lines ++ ls) (no_lines [] there.0 (front_line there.0 is.front.0 p.rest tails
    p.open_end))
    ∙ append-nil p.lines ∙ sym lines
