-- Squashing in part, with the selection that takes everything.
use Rattle.std.proofs.Common.{◌≡◌, ℕ, List, Option, None, ap, ap₂, ◌∙◌}
use Rattle.ps_delta.specs.State.{State}
use Rattle.ps_delta.specs.Deltas.{Entries, joined_history}
use Rattle.ps_squash.specs.Squashed.{HasWideCell, IsSquashed, SayTogether}
use Rattle.ps_squash.specs.Selected.{HasWideCellInPart, IsSquashedInPart, SelectedTogether, each_without, first_of}
use Rattle.ps_squash.specs.Selected.{selected}
use Rattle.ps_squash.specs.declared.selection.Selection.{Selection}

all_selected : (asked : Selection) (ds : List Entries) → asked.until ≡ None → asked.without ≡ None
    → selected asked ds ≡ ds
all_selected asked ds until without =
    ap₂ (λ (u : Option ℕ) (w : Option ℕ). each_without w (first_of u ds)) until without

all_together : (asked : Selection) (bytes : List ℕ) (told : Option ℕ) (state : State) → asked.until ≡ None
    → asked.without ≡ None → SelectedTogether asked bytes told state → SayTogether bytes told state
all_together asked bytes told state until without s = record {
  lines = s.lines;
  rest = s.rest;
  split = s.split;
  deltas = s.deltas;
  said = s.said;
  joined = s.joined ∙ ap joined_history (all_selected asked s.deltas until without);
}

pub all_squashed : (asked : Selection) (bytes text : List ℕ) → asked.until ≡ None → asked.without ≡ None
    → IsSquashedInPart asked bytes text → IsSquashed bytes text
all_squashed asked bytes text until without s = record {
  told = s.told;
  state = s.state;
  given = all_together asked bytes s.told s.state until without s.given;
  fewer = s.fewer;
  cells = s.cells;
  ordered = s.ordered;
  divide = s.divide;
  spelled = s.spelled;
  same = s.same;
}

pub all_wide : (asked : Selection) (bytes : List ℕ) → asked.until ≡ None → asked.without ≡ None
    → HasWideCellInPart asked bytes → HasWideCell bytes
all_wide asked bytes until without w = record {
  told = w.told;
  state = w.state;
  given = all_together asked bytes w.told w.state until without w.given;
  cell = w.cell;
  wide = w.wide;
}
