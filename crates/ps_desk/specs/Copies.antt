-- Copies of a rectangle's cells: what they show or hold, row by row.
use Rattle.std.specs.Prelude.{◌≡◌, ℕ, true, slice_index_or}
use Rattle.ps_grid.specs.Rectangle.{Area, is_inside, place_of}
use Rattle.ps_value.specs.declared.value.Value.TheVariants.{Empty}
use Rattle.ps_eval.specs.Items.{Assignment}
use Rattle.ps_content.specs.declared.content.Content.TheVariants.{Blank}
use Rattle.ps_csv.specs.Exports.{Holdings}
use Rattle.ps_desk.specs.declared.copied.CopiedContents.{CopiedContents}
use Rattle.ps_desk.specs.declared.copied.CopiedValues.{CopiedValues}

-- SAME IN: both functions agree on each cell of the rectangle
abbrev pub SameIn : {A : Type 0} → Area → (ℕ → A) → (ℕ → A) → Type 0
SameIn a f g = (c : ℕ) → is_inside a c ≡ true → f c ≡ g c

-- what a copy shows for each cell of its rectangle; `Empty` beyond the end of its list
abbrev pub shows_in : CopiedValues → Assignment
shows_in copy c = slice_index_or copy.values.items (place_of copy.rect c) Empty

-- what a copy holds for each cell of its rectangle; `Blank` beyond the end of its list
abbrev pub holds_in : CopiedContents → Holdings
holds_in copy c = slice_index_or copy.contents.items (place_of copy.rect c) Blank
