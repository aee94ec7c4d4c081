-- The first line of bytes, and the last line feed among them.
use Rattle.std.proofs.Common.{◌≡◌, ◌==◌, ◌≤◌, ◌<◌, ◌+◌, ℕ, zero, suc, List, [], ◌∷◌, ◌++◌, length, take, drop}
use Rattle.std.proofs.Common.{get_or, sym, ◌∙◌, ap, arith, append_assoc, length-append, take-append-drop}
use Rattle.std.proofs.lemmas.List.{append-nil, drop_more, length-take-le, take_at}
use Rattle.std.proofs.lemmas.Map.Views.{exact_unsigned_eq}
use Rattle.memchr.specs.Find.{is_byte, Nowhere, Passes}
use Rattle.ps_keep.specs.Lines.{AreLines, IsLine, text, whole_lines}
use Rattle.ps_keep.proofs.LineLemmas.{AreLines-append, lines_text, no_lines, parts, text-append, whole_text}

-- where no line feed was found there is none
nowhere_line : (bs : List ℕ) (n : ℕ) → n ≤ length bs → Nowhere (Passes (is_byte 10) bs) 0 n → IsLine (take n bs)
nowhere_line bs zero le none = tt
nowhere_line [] (suc n) le none = tt
nowhere_line (b ∷ bs) (suc n) le none = (
  (λ is. none 0 (omega arith) (omega arith) (ap (λ x. x == 10) is)),
  nowhere_line bs n (omega arith) (λ k low high passes. none (suc k) (omega arith) (omega arith) passes),
)

nowhere_at_all : (bs : List ℕ) → Nowhere (Passes (is_byte 10) bs) 0 (length bs) → IsLine bs
nowhere_at_all [] none = tt
nowhere_at_all (b ∷ bs) none = (
  (λ is. none 0 (omega arith) (omega arith) (ap (λ x. x == 10) is)),
  nowhere_at_all bs (λ k low high passes. none (suc k) (omega arith) (omega arith) passes),
)

-- .. after a place
nowhere_after : (bs : List ℕ) (n : ℕ) → Nowhere (Passes (is_byte 10) bs) n (length bs) → IsLine (drop n bs)
nowhere_after bs zero none = nowhere_at_all bs none
nowhere_after [] (suc n) none = tt
nowhere_after (b ∷ bs) (suc n) none =
    nowhere_after bs n (λ k low high passes. none (suc k) (omega arith) (omega arith) passes)

at_place : (bs : List ℕ) (n : ℕ) → n < length bs → Passes (is_byte 10) bs n → bs ≡ take n bs ++ 10 ∷ drop (n + 1) bs
at_place bs n lt passes =
    let feed : get_or bs n 0 ≡ 10 = exact_unsigned_eq _ 10 passes in
    sym (take-append-drop n bs) ∙ ap (λ (l : List ℕ). take n bs ++ l) (drop_more bs n 0 lt
    ∙ ap (λ b. b ∷ drop (n + 1) bs) feed)

-- the line before the first line feed, and the lines of all after it
pub first_of_lines : (bs : List ℕ) (n : ℕ) → n < length bs → Nowhere (Passes (is_byte 10) bs) 0 n
    → Passes (is_byte 10) bs n → whole_lines bs ≡ take n bs ∷ whole_lines (drop (n + 1) bs)
first_of_lines bs n lt none passes =
    ap whole_lines (at_place bs n lt passes)
    ∙ lines_text [] (take n bs) (drop (n + 1) bs) (nowhere_line bs n (omega arith) none)

pub none_of_lines : (bs : List ℕ) → Nowhere (Passes (is_byte 10) bs) 0 (length bs) → whole_lines bs ≡ []
none_of_lines bs none = no_lines [] bs (nowhere_at_all bs none)

-- all up to a line feed that no other one follows are whole lines
up_to_feed : (front rest : List ℕ) → IsLine rest → text (whole_lines (front ++ 10 ∷ rest)) ≡ front ++ 10 ∷ []
up_to_feed front rest open_end =
    let p = parts front in
    let lines = p.lines ++ p.rest ∷ [] in
    let each : AreLines lines = AreLines-append p.lines (p.rest ∷ []) p.each (p.open_end, tt) in
    let spelled : text lines ≡ front ++ 10 ∷ [] =
    text-append p.lines (p.rest ∷ []) ∙ sym (append_assoc (text p.lines) p.rest (10 ∷ []))
    ∙ ap (λ (l : List ℕ). l ++ 10 ∷ []) (sym p.is) in
    let divided : front ++ 10 ∷ rest ≡ text lines ++ rest =
    sym (append_assoc front (10 ∷ []) rest) ∙ ap (λ (l : List ℕ). l ++ rest) (sym spelled) in
    let read : whole_lines (front ++ 10 ∷ rest) ≡ lines =
    ap whole_lines divided ∙ whole_text lines rest each
    ∙ ap (λ (ls : List (List ℕ)). lines ++ ls) (no_lines [] rest open_end) ∙ append-nil lines in
    ap text read ∙ spelled

pub whole_up_to : (bs : List ℕ) (n : ℕ) → n < length bs → Nowhere (Passes (is_byte 10) bs) (n + 1) (length bs)
    → Passes (is_byte 10) bs n → take (n + 1) bs ≡ text (whole_lines bs)
whole_up_to bs n lt none passes =
    let all = at_place bs n lt passes in
    let front = take n bs ++ 10 ∷ [] in
    let size : length front ≡ n + 1 = omega (
      arith,
      length-append (take n bs) (10 ∷ []),
      length-take-le n bs (omega
          arith),
    ) in
    let divided : bs ≡ front ++ drop (n + 1) bs = all ∙ sym (append_assoc (take n bs) (10 ∷ []) (drop (n + 1) bs)) in
    ap (λ (l : List ℕ). take (n + 1) l) divided ∙ take_at front (drop (n + 1) bs) (n + 1) size
    ∙ sym (up_to_feed (take n bs) (drop (n + 1) bs) (nowhere_after bs (n + 1) none))
    ∙ ap (λ (l : List ℕ). text (whole_lines l)) (sym all)

pub none_whole : (bs : List ℕ) → Nowhere (Passes (is_byte 10) bs) 0 (length bs) → take 0 bs ≡ text (whole_lines bs)
none_whole bs none = ap text (sym (none_of_lines bs none))
