use Rattle.std.proofs.Common.{◌++◌, length, sym, ap, ◌∙◌, arith}
use Rattle.std.proofs.lemmas.List.{take-append-drop}
use Rattle.ps_grid.proofs.NameLemmas.{length-cell_name, two-cell_name, letters_of_two, letters_are, digits_are}
use Rattle.ps_grid.proofs.cell.Cell.read.Goals as goal

pub returns-then-text-lt2 : goal.returns-then-text-lt2
returns-then-text-lt2 c = λ cell. (
  λ e. absurd (cc),
  λ h. absurd (omega (arith, two-cell_name cell h.0, ap length h.1)),
)

pub returns-then-text-gt-NAME_BYTES : goal.returns-then-text-gt-NAME_BYTES
returns-then-text-gt-NAME_BYTES c = λ cell. (
  λ e. absurd (cc),
  λ h. absurd (omega (arith, length-cell_name cell h.0, ap length h.1)),
)

pub returns : goal.returns
returns c = λ cell.
    let text = c.args.text.now in
    let n = c.letter_count.result in
    let front = c.split_at.ensures.front in
    let back = c.split_at.ensures.back in (
      λ e.
          let named = (c.named.ensures cell).0 e in (
            named.0,
            sym (take-append-drop n text)
                ∙ (λ i. (sym front ∙ named.1) i ++ (sym back ∙ named.2) i),
          ),
      λ h.
          let counted = letters_of_two cell h.0 text h.1 n c.letter_count.ensures.counted in
          (c.named.ensures cell).1 (
            h.0,
            front ∙ letters_are cell h.0 text h.1 n counted,
            back ∙ digits_are cell h.0 text h.1 n counted,
          ),
    )
