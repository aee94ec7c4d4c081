use Rattle.std.proofs.Common.{List, ℕ, ◌≡◌, sym, ◌∙◌, ap, take}
use Rattle.ps_keep.specs.Lines.{text, whole_lines}
use Rattle.ps_keep.proofs.CrashLemmas.{read_twice}
use Rattle.ps_keep.proofs.LineLemmas.{whole_are}
use Rattle.ps_keep.proofs.opening.open.Goals as goal

-- the file has the whole lines that it was found with
keeps_lines : (written found bytes : List ℕ) (count : ℕ) → written ≡ take count found → bytes ≡ found
    → take count bytes ≡ text (whole_lines bytes) → written ≡ text (whole_lines found)
keeps_lines written found bytes count kept are whole =
    kept ∙ ap (λ (l : List ℕ). take count l) (sym are) ∙ whole ∙ ap (λ (l : List ℕ). text (whole_lines l)) are

pub new-requires-clause-whole : goal.new-requires-clause-whole
new-requires-clause-whole g c = record {
  lines = whole_lines (g.F.Found.bytes c.args.found);
  each = whole_are (g.F.Found.bytes c.args.found);
  is = keeps_lines _ _ _ _ c.in-Ok.ensures.kept c.bytes.ensures c.count_whole-count.ensures.lines;
}

pub returns-in-Ok-clause-kept : goal.returns-in-Ok-clause-kept
returns-in-Ok-clause-kept g c =
    c.new.ensures.kept
    ∙ ap whole_lines (keeps_lines _ _ _ _ c.in-Ok.ensures.kept c.bytes.ensures c.count_whole-count.ensures.lines)
    ∙ read_twice (g.F.Found.bytes c.args.found)

pub returns-in-Ok-clause-lines : goal.returns-in-Ok-clause-lines
returns-in-Ok-clause-lines g c = c.new.ensures.lines ∙ returns-in-Ok-clause-kept g c
