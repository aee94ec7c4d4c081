-- The change that is staged in a sheet, and its patch.
use Rattle.std.proofs.Common.{◌≡◌, ℕ, true, false, List, [], ◌∷◌, map, refl, sym, ap, subst, All}
use Rattle.std.proofs.Common.{Option, Some, None, is_some}
use Rattle.std.specs.Prelude.{IsSomeAnd, unwrap_or}
use Rattle.std.specs.List.Sorted.{IsStrictlyIncreasing}
use Rattle.std.proofs.lemmas.List.Elements.{All-cons, All-nil}
use Rattle.ps_grid.specs.Chains.{In}
use Rattle.ps_value.specs.declared.value.Value.{Value}
use Rattle.ps_eval.specs.Items.{Assignment}
use Rattle.ps_cells.specs.ChangedCells.{IsChanged, IsChanges}
use Rattle.ps_sheet.specs.Prepared.{PreparedView, shown_after, shown_before}
use Rattle.ps_sheet.specs.Staging.{IsListed, IsSameChange, IsStagedAs, IsStaging, IsWorkedOut}
use Rattle.ps_sheet.specs.Staging.{StagedView, StagingView, prepared_of}
use Rattle.ps_face.specs.Legal.{Follows}
use Rattle.ps_face.proofs.Noted.{prepared_follows}
use Rattle.ps_desk.specs.Patches.{KeepsChange, change_in, no_change, note_of, shown_of}

-- what holds of the staged change holds of `staged_in`
pub at_staged : (P : StagedView → Type 0) (o : Option StagedView) → IsSomeAnd o P → P (unwrap_or o no_change)
at_staged P None h = absurd h
at_staged P (Some p) h = h

pub is_there : (P : StagedView → Type 0) (o : Option StagedView) → IsSomeAnd o P → is_some o ≡ true
is_there P None h = absurd h
is_there P (Some p) h = refl

staged_as : (x : StagingView) (o : Option StagedView) → is_some o ≡ true → IsStagedAs x o
    → IsWorkedOut (prepared_of x (unwrap_or o no_change))
staged_as x None there is = absurd (let f : false ≡ true = there in cc)
staged_as x (Some p) there is = is

pub worked_out : (x : StagingView) → is_some x.staged ≡ true → IsStaging x → IsWorkedOut (change_in x)
worked_out x there is = staged_as x x.staged there is

-- the same change is staged after its cells were listed
same_by : (o q : Option StagedView) → IsSomeAnd o (λ p. IsSomeAnd q (IsSameChange p))
    → IsSameChange (unwrap_or o no_change) (unwrap_or q no_change) × (is_some q ≡ true)
same_by None q h = absurd h
same_by (Some p) None h = absurd h
same_by (Some p) (Some q) h = (h, refl)

pub keeps_listed : (x y : StagingView) → IsListed x y → KeepsChange x y
keeps_listed x y is =
    let same = same_by x.staged y.staged is.staged in
    record {
      staged = same.1;
      replica = is.replica;
      history = is.history;
      delta = same.0.delta;
      fresh = same.0.fresh;
      report = same.0.report;
    }

pub keeps_itself : (x : StagingView) → is_some x.staged ≡ true → KeepsChange x x
keeps_itself x there = record {
  staged = there;
  replica = refl;
  history = refl;
  delta = refl;
  fresh = refl;
  report = refl;
}

-- the cells that changed, each with what it shows, are the changes of a patch
firsts_of : (w : Assignment) (cells : List ℕ) → map (λ (e : ℕ × Value). e.0) (map (shown_of w) cells) ≡ cells
firsts_of w [] = refl
firsts_of w (c ∷ cells) = ap (λ xs. c ∷ xs) (firsts_of w cells)

values_of : (w : Assignment) (cells : List ℕ) → All (λ (e : ℕ × Value). e.1 ≡ w e.0) (map (shown_of w) cells)
values_of w [] = All-nil (λ (e : ℕ × Value). e.1 ≡ w e.0)
values_of w (c ∷ cells) =
    All-cons (λ (e : ℕ × Value). e.1 ≡ w e.0) (shown_of w c) (map (shown_of w) cells) refl (values_of w cells)

changes_of : (v w : Assignment) (cells : List ℕ) → IsChanged v w cells → IsChanges v w (map (shown_of w) cells)
changes_of v w cells is =
    let same = firsts_of w cells in
    record {
      ascending = subst IsStrictlyIncreasing (sym same) is.ascending;
      exact = λ c. (
        (λ i. (is.exact c).0 (subst (λ xs. In xs c) same i)),
        (λ ne. subst (λ xs. In xs c) (sym same) ((is.exact c).1 ne)),
      );
      values = values_of w cells;
    }

-- the patch of a fresh change whose cells were found follows the history of the sheet
pub staged_follows : (x : StagingView) (cells : List ℕ) (seat : ℕ) → IsWorkedOut (change_in x)
    → (change_in x).fresh ≡ true → IsChanged (shown_before (change_in x)) (shown_after (change_in x)) cells
    → Follows x.history (note_of x cells seat)
staged_follows x cells seat is fresh found =
    let changes = (note_of x cells seat).changes in
    let p : PreparedView = record (change_in x) { changes = changes } in
    prepared_follows p (note_of x cells seat) (record {
      takes = is.takes;
      fresh = is.fresh;
      before = is.before;
      after = is.after;
      version = is.version;
      report = is.report;
      changes = changes_of (shown_before (change_in x)) (shown_after (change_in x)) cells found;
    }) fresh refl refl refl
