-- Lines that were written, and the cells that are left.
use Rattle.std.proofs.Common.{◌≡◌, ◌≢◌, ℕ, ◌<◌, List, [], ◌∷◌, ◌++◌, length, take, drop, refl, sym, ap, ◌∙◌}
use Rattle.std.proofs.Common.{Option, subst, append_assoc, append-nil}
use Rattle.std.proofs.lemmas.Grind.{flat_map-append}
use Rattle.std.proofs.lemmas.List.{take-append-drop}
use Rattle.std.proofs.lemmas.List.Elements.{All-drop, All-nil, All-push, All-take}
use Rattle.ps_delta.specs.State.{State, empty_cell}
use Rattle.ps_delta.specs.Deltas.{AreEntries, Entries, IsDelta, cells_of, state_of}
use Rattle.ps_delta.specs.Order.{Rising}
use Rattle.ps_delta.proofs.EntryLemmas.{state_of-at}
use Rattle.ps_wire.specs.Fits.{FitsLine}
use Rattle.ps_wire.specs.Line.{IsLine, delta_text}
use Rattle.ps_squash.specs.Squashed.{AreFull, Divide, HasNoRoomFor, cells_in, ended_line, push_lines}
use Rattle.ps_squash.specs.Squashed.{told_line}
use Rattle.ps_squash.specs.Inside.{AreWritten, HasWide, IsText}
use Rattle.ps_squash.proofs.CellLemmas.{divided_history, front_is_delta, rising_of, rising_right}
use Rattle.ps_squash.proofs.RoomLemmas.{IsCount, full_push}

pub written_none : (es : Entries) (before : List ℕ) → AreEntries es → AreWritten es es before before
written_none es before e = record {
  deltas = [];
  spelled = sym (append-nil before);
  whole = refl;
  lawful = All-nil IsDelta;
  each = All-nil (λ d. IsLine (delta_text d) d);
  full = tt;
  rising = rising_of es e;
  none_empty = e.none_empty;
}

pub front_delta : (es left : Entries) (before text : List ℕ) (n : ℕ) → AreWritten es left before text
    → 0 < length (take n left) → IsDelta (take n left)
front_delta es left before text n w some =
    front_is_delta 0 (take n left) (drop n left)
    (subst (λ xs. Rising 0 (cells_of xs)) (sym (take-append-drop n left)) w.rising)
    (All-take (λ e. e.1 ≢ empty_cell) n left w.none_empty) some

pub written_more : (es left : Entries) (before text : List ℕ) (n : ℕ) → (w : AreWritten es left before text)
    → 0 < length (take n left) → IsLine (delta_text (take n left)) (take n left)
    → HasNoRoomFor (take n left) (drop n left)
    → AreWritten es (drop n left) before (text ++ ended_line (take n left))
written_more es left before text n w some line full =
    let front = take n left in
    let rest = drop n left in
    let parts : front ++ rest ≡ left = take-append-drop n left in record {
      deltas = w.deltas ++ front ∷ [];
      spelled = ap (λ t. t ++ ended_line front) w.spelled
          ∙ append_assoc before (push_lines w.deltas) (ended_line front)
          ∙ ap (λ t. before ++ (push_lines w.deltas ++ t)) (sym (append-nil (ended_line front)))
          ∙ ap (λ t. before ++ t) (sym (flat_map-append ended_line w.deltas (front ∷ [])));
      whole = ap (λ t. t ++ rest) (flat_map-append (λ d. d) w.deltas (front ∷ []))
          ∙ append_assoc (cells_in w.deltas) (front ++ []) rest
          ∙ ap (λ t. cells_in w.deltas ++ (t ++ rest)) (append-nil front)
          ∙ ap (λ t. cells_in w.deltas ++ t) parts ∙ w.whole;
      lawful = All-push IsDelta w.deltas front w.lawful (front_delta es left before text n w some);
      each = All-push (λ d. IsLine (delta_text d) d) w.deltas front w.each line;
      full = full_push w.deltas front rest some (subst (AreFull w.deltas) (sym parts) w.full) full;
      rising = rising_right 0 front rest (subst (λ xs. Rising 0 (cells_of xs)) (sym parts) w.rising);
      none_empty = All-drop (λ e. e.1 ≢ empty_cell) n left w.none_empty;
    }

pub written_all : (es left : Entries) (before text : List ℕ) → AreWritten es left before text → left ≡ []
    → (deltas : List Entries) × Divide deltas es × (text ≡ before ++ push_lines deltas)
written_all es left before text w none = (
  w.deltas,
  record {
    whole = sym (append-nil (cells_in w.deltas)) ∙ ap (λ t. cells_in w.deltas ++ t) (sym none) ∙ w.whole;
    lawful = w.lawful;
    each = w.each;
    full = subst (AreFull w.deltas) none w.full;
  },
  w.spelled,
)

-- one line more, as the code writes it
pub written_step : (es left : Entries) (before text : List ℕ) (n : ℕ) (front rest : Entries) (new : List ℕ)
    → AreWritten es left before text → IsCount n left → front ≡ take n left → rest ≡ drop n left
    → new ≡ text ++ ended_line front → IsLine (delta_text front) front → AreWritten es rest before new
written_step es left before text n front rest new w k is_front is_rest is_new line =
    let more = written_more es left before text n w k.front
    (subst (λ f. IsLine (delta_text f) f) is_front line) k.full in
    rw (is_rest, is_new, is_front) more

-- all lines push just the state that the cells stand for
pub text_same : (told : Option ℕ) (s : State) (cells es : Entries) (begun text : List ℕ) → es ≡ cells → AreEntries cells
    → state_of cells ≡ s → begun ≡ told_line told
    → ((deltas : List Entries) × Divide deltas es × (text ≡ begun ++ push_lines deltas)) → IsText told s text
text_same told s cells es begun text same e gives begins lines = record {
  fewer = lines.0;
  cells = es;
  ordered = subst AreEntries (sym same) e;
  divide = lines.1;
  spelled = lines.2 ∙ ap (λ t. t ++ push_lines lines.0) begins;
  same =
      divided_history 0 lines.0
      (subst (λ xs. Rising 0 (cells_of xs)) (sym (lines.1.whole ∙ same)) (rising_of cells e))
      ∙ ap state_of (lines.1.whole ∙ same) ∙ gives;
}

-- a cell that has no line by itself
pub wide_cell : (s : State) (cells es : Entries) → es ≡ cells → AreEntries cells → state_of cells ≡ s → HasWide es
    → (c : ℕ) × ¬ FitsLine ((c, s c) ∷ [])
wide_cell s cells es same e gives wide =
    let found = subst HasWide same wide in
    let at = state_of-at 0 cells found.1.0 found.0 (rising_of cells e) found.1.1 in
    let holds = subst (λ d. state_of cells d.0 ≡ d.1) found.1.2 at in (
      found.0.0,
      subst (λ x. ¬ FitsLine ((found.0.0, x) ∷ []))
          (sym holds ∙ ap (λ (t : State). t found.0.0) gives) found.2,
    )
