-- A staged change after its cells were listed, and after it was made.
use Rattle.std.proofs.Common.{◌≡◌, ◌++◌, ◌∷◌, [], ℕ, ◌+◌, ◌⊎◌, Bool, true, false, Option, Some, None, List, map}
use Rattle.std.proofs.Common.{Result, Ok, Err, refl, sym, ap, ◌∙◌, subst, arith, ⊎_elim}
use Rattle.std.specs.Prelude.{IsSomeAnd, IsOk, IsOkAnd, IsErrOf, IfOk, IfErr, OnOk, if◌then◌else◌}
use Rattle.ps_grid.specs.declared.refusal.Refusal.{Refusal}
use Rattle.ps_grid.specs.declared.refusal.Refusal.TheVariants.{Memory}
use Rattle.ps_eval.specs.Items.{Assignment}
use Rattle.ps_shown.specs.declared.kept.Kept.{Kept}
use Rattle.ps_shown.specs.Shown.{shown_at}
use Rattle.ps_delta.specs.State.{IsBelow}
use Rattle.ps_delta.specs.Deltas.{Entries, state_of, joined_history}
use Rattle.ps_cells.specs.ChangedCells.{IsChanged, put_back}
use Rattle.ps_cells.proofs.ChangeLists.{changes_of}
use Rattle.ps_sheet.specs.Edits.{delta_of_edit}
use Rattle.ps_sheet.specs.Prepared.{IsDeltaOf, IsOf, IsPrepared, IsRefusedBy, IsToAppend, PreparedView}
use Rattle.ps_sheet.specs.Prepared.{history_after, shown_before}
use Rattle.ps_sheet.specs.Reports.{IsReport}
use Rattle.ps_sheet.specs.Sheet.{IsSheet, SheetView, Takes}
use Rattle.ps_sheet.specs.Staging.{IsIdle, IsSameChange, IsStagedAs, IsStaging, IsWorkedOut, StagedView, StagingView}
use Rattle.ps_sheet.specs.Staging.{prepared_of, sheet_of}
use Rattle.ps_sheet.specs.Inside.Kept.{Makes, Prepares}
use Rattle.ps_delta.specs.declared.edit.Edit.{Edit}
use Rattle.ps_delta.specs.declared.edit.Change.{Change}
use Rattle.ps_delta.specs.declared.edit.Change.TheVariants.{Edit as ByEdit}
use Rattle.ps_sheet.specs.declared.sheet.Report.{Report}

-- a sheet in which nothing is staged
pub idle_is_sheet : (x : StagingView) → x.staged ≡ None → IsStaging x → IsSheet (sheet_of x)
idle_is_sheet x none staging = subst (IsStagedAs x) none staging

-- what holds of a change that is worked out doesn't depend on what was listed
worked_same : (p q : PreparedView) → q.history ≡ p.history → q.delta ≡ p.delta → q.fresh ≡ p.fresh
    → q.shown ≡ p.shown → q.olds ≡ p.olds → q.report ≡ p.report → IsWorkedOut p → IsWorkedOut q
worked_same p q history delta fresh shown olds report worked =
    let with : List Entries → Entries → Bool → List Kept → List (ℕ × Kept) → Report → PreparedView =
    λ h d b ks os r. record {
      replica = q.replica;
      history = h;
      delta = d;
      fresh = b;
      shown = ks;
      olds = os;
      changes = q.changes;
      report = r;
      workers = q.workers;
    } in
    let same : IsWorkedOut (with p.history p.delta p.fresh p.shown p.olds p.report) = record {
      takes = worked.takes;
      fresh = worked.fresh;
      before = worked.before;
      after = worked.after;
      version = worked.version;
      report = worked.report;
    } in
    subst (λ (h : List Entries). IsWorkedOut (with h q.delta q.fresh q.shown q.olds q.report)) (sym history)
    (subst (λ (d : Entries). IsWorkedOut (with p.history d q.fresh q.shown q.olds q.report)) (sym delta)
    (subst (λ (b : Bool). IsWorkedOut (with p.history p.delta b q.shown q.olds q.report)) (sym fresh)
    (subst (λ (ks : List Kept). IsWorkedOut (with p.history p.delta p.fresh ks q.olds q.report)) (sym shown)
    (subst (λ (os : List (ℕ × Kept)). IsWorkedOut (with p.history p.delta p.fresh p.shown os q.report)) (sym olds)
    (subst (λ (r : Report). IsWorkedOut (with p.history p.delta p.fresh p.shown p.olds r)) (sym report) same)))))

-- a change after its cells were listed, and then what they show
pub listed_prepared : (x y z : StagingView) (a b e : Option StagedView)
    → IsSomeAnd a (λ p. IsWorkedOut (prepared_of x p)) → y.history ≡ x.history → y.shown ≡ x.shown
    → z.history ≡ y.history → z.shown ≡ y.shown → IsSomeAnd a (λ p. IsSomeAnd b (IsSameChange p))
    → IsSomeAnd b (λ p. IsSomeAnd e (IsSameChange p))
    → IsSomeAnd b (λ p. IsChanged (shown_before (prepared_of y p)) (shown_at y.shown) p.changed)
    → IsSomeAnd b (λ p. IsSomeAnd e (λ q. q.changed ≡ p.changed))
    → IsSomeAnd e (λ p. p.changes ≡ map (λ c. (c, shown_at z.shown c)) p.changed)
    → IsSomeAnd e (λ p. IsPrepared (prepared_of z p))
listed_prepared x y z None b e worked h s h2 s2 first second changed kept values = absurd worked
listed_prepared x y z (Some p) None e worked h s h2 s2 first second changed kept values = absurd first
listed_prepared x y z (Some p) (Some q) None worked h s h2 s2 first second changed kept values = absurd second
listed_prepared x y z (Some p) (Some q) (Some r) worked h s h2 s2 first second changed kept values =
    let all : IsWorkedOut (prepared_of z r) =
    worked_same (prepared_of x p) (prepared_of z r) (h2 ∙ h) (second.delta ∙ first.delta) (second.fresh ∙ first.fresh)
    (s2 ∙ s) (second.olds ∙ first.olds) (second.report ∙ first.report) worked in
    let exact : IsChanged (shown_before (prepared_of z r)) (shown_at z.shown) r.changed =
    subst (λ (ks : List Kept). IsChanged (put_back r.olds (shown_at ks)) (shown_at ks) r.changed) (sym s2)
    (subst (λ (os : List (ℕ × Kept)). IsChanged (put_back os (shown_at y.shown)) (shown_at y.shown) r.changed)
    (sym second.olds)
    (subst (IsChanged (put_back q.olds (shown_at y.shown)) (shown_at y.shown)) (sym kept) changed)) in
    record {
      takes = all.takes;
      fresh = all.fresh;
      before = all.before;
      after = all.after;
      version = all.version;
      report = all.report;
      changes = changes_of (shown_before (prepared_of z r)) (shown_at z.shown) r.changed r.changes exact values;
    }

not_fresh : (b : Bool) → ¬ (b ≡ true) → b ≡ false
not_fresh true h = absurd (h refl)
not_fresh false h = refl

-- the sheet after a staged change was made
pub makes : (x y z : StagingView) (v : SheetView) (c : Change) (r q : Report) (o : Option StagedView) → sheet_of x ≡ v
    → y.history ≡ x.history → IsSomeAnd o (λ p. IsWorkedOut (prepared_of y p))
    → IsSomeAnd o (λ p. IsDeltaOf x.replica (joined_history x.history) c p.delta)
    → IsSomeAnd o (λ p. IsToAppend x.replica (joined_history x.history) c → p.fresh ≡ true)
    → IsSomeAnd o (λ p. p.fresh ≡ false → IsIdle (sheet_of x) (sheet_of y) r) → IsSomeAnd o (λ p. p.report ≡ r)
    → IsSomeAnd o (λ p. IsOf (sheet_of z) y.replica (history_after (prepared_of y p)) (shown_at y.shown))
    → IsSomeAnd o (λ p. p.fresh ≡ false → sheet_of z ≡ sheet_of y) → IsSomeAnd o (λ p. p.report ≡ q)
    → Makes v (sheet_of z) c q
makes x y z v c r q None is history worked delta fresh none staged made same told = absurd worked
makes x y z v c r q (Some p) is history worked delta fresh none staged made same told =
    subst (λ (w : SheetView). Makes w (sheet_of z) c q) is
    (record {
      delta = p.delta;
      of = delta;
      takes = subst (λ (k : List Entries). Takes p.delta x.history k) (sym made.history)
          (subst (λ (h : List Entries). Takes p.delta h (history_after (prepared_of y p))) history worked.takes);
      appended = λ new. made.history
          ∙ (ap (λ (b : Bool). if b then (y.history ++ p.delta ∷ []) else y.history) (fresh new)
          ∙ ap (λ (h : List Entries). h ++ p.delta ∷ []) history);
      idle = λ below.
          let off : p.fresh ≡ false =
          not_fresh p.fresh
          (λ on. worked.fresh.0 on
          (subst (λ (h : List Entries). IsBelow (state_of p.delta) (joined_history h)) (sym history) below)) in
          let still : IsIdle (sheet_of x) (sheet_of y) r = none off in
          let reports : q ≡ r = sym told ∙ staged in
          record {
            same = same off ∙ still.same;
            evaluated = ap (λ (t : Report). t.evaluated) reports ∙ still.evaluated;
            cyclic = ap (λ (t : Report). t.cyclic) reports ∙ still.cyclic;
            levels = ap (λ (t : Report). t.levels) reports ∙ still.levels;
          };
    })

-- its report
pub made_report : (x y z : StagingView) (v : SheetView) (q : Report) (o : Option StagedView) → sheet_of x ≡ v
    → y.history ≡ x.history → IsSomeAnd o (λ p. IsWorkedOut (prepared_of y p))
    → IsSomeAnd o (λ p. shown_before (prepared_of y p) ≡ shown_at x.shown)
    → IsSomeAnd o (λ p. IsOf (sheet_of z) y.replica (history_after (prepared_of y p)) (shown_at y.shown))
    → IsSomeAnd o (λ p. p.report ≡ q)
    → IsReport (joined_history v.history) (joined_history z.history) (shown_at v.shown) (shown_at z.shown) q
made_report x y z v q None is history worked before made told = absurd worked
made_report x y z v q (Some p) is history worked before made told =
    let change : PreparedView = prepared_of y p in
    subst (IsReport (joined_history v.history) (joined_history z.history) (shown_at v.shown) (shown_at z.shown)) told
    (subst
    (λ (w : Assignment). IsReport (joined_history v.history) (joined_history z.history) (shown_at v.shown) w p.report)
    (sym made.shown)
    (subst
    (λ (w : Assignment). IsReport (joined_history v.history) (joined_history z.history) w (shown_at y.shown) p.report)
    (before ∙ ap (λ (w : SheetView). shown_at w.shown) is)
    (subst
    (λ (h : List Entries).
    IsReport (joined_history v.history) (joined_history h) (shown_before change) (shown_at y.shown) p.report)
    (sym made.history)
    (subst
    (λ (h : List Entries).
    IsReport (joined_history h) (joined_history (history_after change)) (shown_before change) (shown_at y.shown)
    p.report)
    (history ∙ ap (λ (w : SheetView). w.history) is) worked.report))))

-- the change q was prepared over the sheet v: it has the replica and the history of v, and is worked out over what v
-- shows
pub prepared_over : (x y : StagingView) (v : SheetView) (q : PreparedView) (o : Option StagedView) → sheet_of x ≡ v
    → y.replica ≡ x.replica → y.history ≡ x.history
    → IsSomeAnd o (λ p. shown_before (prepared_of y p) ≡ shown_at x.shown)
    → IsSomeAnd o (λ p. Prepares (prepared_of y p) q)
    → (q.replica ≡ v.replica) × (q.history ≡ v.history) × (shown_before q ≡ shown_at v.shown)
prepared_over x y v q None is replica history before same = absurd before
prepared_over x y v q (Some p) is replica history before same = (
  same.replica ∙ replica ∙ ap (λ (w : SheetView). w.replica) is,
  same.history ∙ history ∙ ap (λ (w : SheetView). w.history) is,
  ap (λ olds. put_back olds (shown_at q.shown)) same.olds
      ∙ ap (λ shown. put_back p.olds (shown_at shown)) same.shown
      ∙ before ∙ ap (λ (w : SheetView). shown_at w.shown) is,
)

-- if P holds of the delta of each made edit, it holds of the delta of this edit
pub edit_made : (x y : SheetView) (e : Edit) (res : Result Report Refusal) (P : Entries → Type 0)
    → ((r : Report) (m : Makes x y (ByEdit e) r) → P m.delta) → IfOk res (λ r. Makes x y (ByEdit e) r)
    → OnOk res (IsOkAnd (delta_of_edit x.replica (joined_history x.history) e) P)
edit_made x y e (Ok r) P f m = subst (λ (o : Result Entries Refusal). IsOkAnd o P) (sym m.of) (f r m)
edit_made x y e (Err z) P f m = tt

-- if P holds of the delta of each made change, it holds of the received delta d
pub delta_made : (x y : SheetView) (c : Change) (d : Entries) (res : Result Report Refusal) (P : Entries → Type 0)
    → ((e : Entries) → IsDeltaOf x.replica (joined_history x.history) c e → e ≡ d)
    → ((r : Report) (m : Makes x y c r) → P m.delta) → IfOk res (λ r. Makes x y c r) → OnOk res (P d)
delta_made x y c d (Ok r) P is f m = subst P (is m.delta m.of) (f r m)
delta_made x y c d (Err z) P is f m = tt

-- what follows from out of memory, and: a change with no other refusal fails only when out of memory
pub memory_asked : (res : Result Report Refusal) (A : Type 0) → IfErr res (λ e. e ≡ Memory → A) → IsErrOf res Memory → A
memory_asked (Ok r) A asked is = absurd (cc)
memory_asked (Err e) A asked is = asked (cc)

pub memory_alone : (res : Result Report Refusal) → IfErr res (λ e. (e ≡ Memory) ⊎ ⊥) → IfErr res (λ e. e ≡ Memory)
memory_alone (Ok r) refused = tt
memory_alone (Err e) refused = ⊎_elim (λ is. is) (λ never. absurd never) refused

-- a delta below the state is accepted, and the sheet stays as it is
pub below_made : (x y : SheetView) (c : Change) (d : Entries) (m n : ℕ) (res : Result Report Refusal)
    → ((e : Entries) → IsDeltaOf x.replica (joined_history x.history) c e → e ≡ d)
    → ((e : Refusal) → ¬ IsRefusedBy x.replica (joined_history x.history) c e)
    → (IsToAppend x.replica (joined_history x.history) c → ¬ IsBelow (state_of d) (joined_history x.history))
    → IfOk res (λ r. Makes x y c r) → IfOk res (λ r. n ≡ m + r.evaluated)
    → IfErr res (λ e. (e ≡ Memory) ⊎ IsRefusedBy x.replica (joined_history x.history) c e)
    → IfErr res (λ e. e ≡ Memory → IsToAppend x.replica (joined_history x.history) c)
    → IsBelow (state_of d) (joined_history x.history) → IsOk res × (y ≡ x) × (n ≡ m)
below_made x y c d m n (Ok r) is never new made metered refused asked below =
    let idle : IsIdle x y r =
    made.idle (subst (λ (e : Entries). IsBelow (state_of e) (joined_history x.history)) (sym (is made.delta made.of))
    below) in
    (refl, idle.same, (let none = idle.evaluated in omega (arith, metered, none)))
below_made x y c d m n (Err z) is never new made metered refused asked below =
    absurd (⊎_elim (λ memory. new (asked memory) below) (λ other. never z other) refused)

pub below_idle : (x y : SheetView) (c : Change) (d : Entries) (res : Result Report Refusal)
    → ((e : Entries) → IsDeltaOf x.replica (joined_history x.history) c e → e ≡ d) → IfOk res (λ r. Makes x y c r)
    → IsBelow (state_of d) (joined_history x.history)
    → IfOk res (λ r. (r.evaluated ≡ 0) × (r.cyclic ≡ 0) × (r.levels ≡ 0))
below_idle x y c d (Ok r) is made below =
    let idle : IsIdle x y r =
    made.idle (subst (λ (e : Entries). IsBelow (state_of e) (joined_history x.history)) (sym (is made.delta made.of))
    below) in
    (idle.evaluated, idle.cyclic, idle.levels)
below_idle x y c d (Err z) is made below = tt
