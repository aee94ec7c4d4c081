-- A file with digest lines whose end a crash has torn.
use Rattle.std.proofs.Common.{◌≡◌, ◌≢◌, ◌≤◌, ℕ, true, List, [], ◌∷◌, ◌++◌, length, take, drop}
use Rattle.std.proofs.Common.{sym, ◌∙◌, ap, subst, arith, append_assoc, take-append-drop}
use mathlib.Core.List.{IsPrefix}
use Rattle.ps_keep.specs.Digests.{AreDigested, ReadsAs, WrongAfterTears, after_line, digest_line, is_digest_line, since}
use Rattle.ps_keep.specs.Lines.{text, whole_lines}
use Rattle.ps_keep.proofs.LineLemmas.{parts, parts_lines, whole_text}

-- the lines of a beginning are the first ones
first_lines : (a b : List ℕ) → IsPrefix (whole_lines a) (whole_lines (a ++ b))
first_lines a b =
    let p = parts a in (
      whole_lines (p.rest ++ b),
      ap (λ (ls : List (List ℕ)). ls ++ whole_lines (p.rest ++ b)) (parts_lines a p)
          ∙ sym (ap (λ (l : List ℕ). whole_lines (l ++ b)) p.is ∙ ap whole_lines (append_assoc (text p.lines) p.rest b)
          ∙ whole_text p.lines (p.rest ++ b) p.each),
    )

-- no line of those that are digested is wrong
after_digested : (start : List ℕ) (right more before after : List (List ℕ)) (line : List ℕ)
    → right ++ more ≡ before ++ line ∷ after → AreDigested start right → is_digest_line line ≡ true
    → line ≢ digest_line (since start before) → length right ≤ length before
after_digested start [] more before after line e are form wrong = omega arith
after_digested start (l ∷ right) more [] after line e are form wrong =
    let same : l ≡ line = cc in
    absurd (wrong (sym same ∙ are.0 (ap (λ (x : List ℕ). is_digest_line x) same ∙ form)))
after_digested start (l ∷ right) more (b ∷ before) after line e are form wrong =
    let same : l ≡ b = cc in
    let rest : right ++ more ≡ before ++ line ∷ after = cc in
    let fewer = after_digested (after_line start b) right more before after line rest (subst (λ (x : List ℕ).
    AreDigested (after_line start x) right) same are.1) form wrong in
    omega arith

pub wrong_after : (raw bytes : List ℕ) (on_disk : ℕ) → ReadsAs (take on_disk raw) bytes → WrongAfterTears raw on_disk
wrong_after raw bytes on_disk as_synced left number torn wrong =
    let first = first_lines (take on_disk left) (drop on_disk left) in
    let e : whole_lines (take on_disk raw) ++ first.0 ≡ wrong.before ++ wrong.line ∷ wrong.after =
    ap (λ (l : List ℕ). whole_lines l ++ first.0) (sym torn.same) ∙ first.1
    ∙ ap whole_lines (take-append-drop on_disk left) ∙ wrong.is in
    let fewer = after_digested [] (whole_lines (take on_disk raw)) first.0 wrong.before wrong.after wrong.line e
    as_synced.digested wrong.has_form wrong.wrong in
    let counts = wrong.counts in
    omega arith
