-- The change that is staged in a sheet, and its patch.
use Rattle.std.specs.Prelude.{◌≡◌, ℕ, true, false, List, [], ◌∷◌, ◌++◌, Option, Some, None, is_some, map, unwrap_or}
use Rattle.ps_value.specs.declared.value.Value.{Value}
use Rattle.ps_eval.specs.Items.{Assignment}
use Rattle.ps_shown.specs.Shown.{shown_at}
use Rattle.ps_sheet.specs.Prepared.{PreparedView}
use Rattle.ps_sheet.specs.Staging.{StagedView, StagingView, prepared_of}
use Rattle.ps_face.specs.declared.patch.Note.{Note}

-- a change that changes nothing
abbrev pub no_change : StagedView
no_change = record {
  delta = [];
  fresh = false;
  olds = [];
  changed = [];
  changes = [];
  report = record { version = 0; evaluated = 0; cyclic = 0; levels = 0 };
}

-- the change that is staged in a sheet, or `no_change` if none is
abbrev pub staged_in : StagingView → StagedView
staged_in x = unwrap_or x.staged no_change

-- the same change, together with the sheet before it and after it
abbrev pub change_in : StagingView → PreparedView
change_in x = prepared_of x (staged_in x)

-- a cell with what it shows
abbrev pub shown_of : Assignment → ℕ → ℕ × Value
shown_of v c = (c, v c)

-- the cells that show another value after the change: the one that was returned, or those that the sheet listed
abbrev pub found_in : StagingView → Option ℕ → List ℕ
found_in x (Some c) = c ∷ []
found_in x None = (staged_in x).changed

-- the patch of the staged change, by a call of this session slot: it has these cells with what they show afterwards
abbrev pub note_of : StagingView → List ℕ → ℕ → Note
note_of x cells seat = record {
  number = (staged_in x).report.version;
  delta = (staged_in x).delta;
  changes = map (shown_of (shown_at x.shown)) cells;
  owner = seat;
}

-- the same change is staged in y as in x, over the same history
pub record KeepsChange (x y : StagingView) : Type 0 where
  pub staged : is_some y.staged ≡ true
  pub replica : y.replica ≡ x.replica
  pub history : y.history ≡ x.history
  pub delta : (staged_in y).delta ≡ (staged_in x).delta
  pub fresh : (staged_in y).fresh ≡ (staged_in x).fresh
  pub report : (staged_in y).report ≡ (staged_in x).report

-- NOTED: the list `now` is `seen` with one more patch, which has this change and this session slot
pub record IsNoted (p : PreparedView) (seat : ℕ) (seen now : List Note) : Type 0 where
  pub patch : Note
  pub last : now ≡ seen ++ patch ∷ []
  pub number : patch.number ≡ p.report.version
  pub delta : patch.delta ≡ p.delta
  pub owner : patch.owner ≡ seat
