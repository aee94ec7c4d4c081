-- The invariant of a sheet after a change is staged, committed or cancelled in it.
use Rattle.std.proofs.Common.{◌≡◌, ◌++◌, ◌∷◌, [], ℕ, ◌+◌, ◌<◌, ◌≤◌, Bool, true, false, Option, Some, None, List, map}
use Rattle.std.proofs.Common.{is_some, refl, sym, ap, ◌∙◌, subst, length}
use Rattle.std.proofs.Common.{Result, Ok, Err}
use Rattle.std.specs.Prelude.{IsSomeAnd, IfOk, OnOk, if◌then◌else◌, vec_len, vec_capacity}
use Rattle.ps_grid.specs.declared.refusal.Refusal.{Refusal}
use Rattle.ps_grid.specs.declared.parties.TheConstants.{REPLICAS}
use Rattle.ps_shown.specs.declared.kept.Kept.{Kept}
use Rattle.ps_shown.specs.Shown.{shown_at}
use Rattle.ps_delta.specs.State.{State, IsBelow, IsInGrid, empty_state, joined_state, state_at}
use Rattle.ps_delta.specs.Deltas.{Entries, state_of, joined_history}
use Rattle.ps_delta.proofs.HistoryLemmas.{joined_history-nil, joined_history-push}
use Rattle.ps_cells.specs.Cells.{CellsView, state_before, state_now}
use Rattle.ps_cells.specs.ChangedCells.{put_back}
use Rattle.ps_cells.specs.Recalculated.{IsRecalculated}
use Rattle.ps_cells.specs.Settled.{IsSettled}
use Rattle.ps_cells.proofs.ScreenLemmas.{back_none}
use Rattle.ps_sheet.specs.Prepared.{IsOf, IsPrepared, PreparedView, history_after, shown_before}
use Rattle.ps_sheet.specs.Sheet.{IsFresh, IsSheet, SheetView}
use Rattle.ps_sheet.specs.Staging.{IsIdle, IsStagedAs, IsWorkedOut, Stages, StagedView, StagingView}
use Rattle.ps_sheet.specs.Staging.{prepared_of, sheet_of}
use Rattle.ps_sheet.specs.Inside.Kept.{IsKept, IsStagedBy, prepared_by, staged_of, view_of}
use Rattle.ps_sheet.specs.declared.sheet.Report.{Report}
use Rattle.ps_sheet.specs.declared.staging.Staged.{Staged}
use Rattle.ps_sheet.specs.declared.staging.Staging.TheInside.{Inside}
use Rattle.ps_sheet.proofs.EmptySheets.{sheet_open}
use Rattle.ps_sheet.proofs.Staged.{idle_before, idle_holds, idle_sheet, of_some}
use Rattle.ps_sheet.proofs.WorkedOut.{after_fresh, after_joined, worked_idle, worked_made}

abbrev pub history_of : Inside → List Entries
history_of x = x.history.items

-- nothing is there
pub none_there : {A : Type 0} (o : Option A) → is_some o ≡ false → o ≡ None
none_there None off = refl
none_there (Some a) off = absurd (let f : true ≡ false = off in cc)

-- a sheet in which nothing is staged
pub kept_idle : (x : Inside) → x.staged ≡ None → IsSheet (sheet_of (view_of x))
    → state_now x.cells ≡ joined_history (history_of x) → x.cells.staged ≡ None → x.cells.olds ≡ [] → IsKept x
kept_idle x none sheet holds unstaged still = record {
  staging = subst (IsStagedAs (view_of x)) (sym (ap (staged_of x.cells) none)) sheet;
  holds = subst (IsStagedBy (view_of x) x.cells) (sym (ap (staged_of x.cells) none)) (holds, unstaged);
  before = idle_before x.cells unstaged ∙ holds;
  room = λ on. absurd (let f : is_some x.cells.staged ≡ false = ap is_some unstaged in
      let g : true ≡ false = sym on ∙ f in cc);
  still = λ e. still;
  fresh = sheet.fresh;
  in_grid = sheet.in_grid;
  in_grid_now = subst IsInGrid (sym holds) sheet.in_grid;
  replica = sheet.replica;
}

-- the empty one
pub opened_sheet : (x : Inside) → x.history.items ≡ [] → IsSettled (state_now x.cells) (shown_at x.cells.shown)
    → state_now x.cells ≡ empty_state → (1 ≤ x.replica) × (x.replica ≤ REPLICAS) → IsSheet (sheet_of (view_of x))
opened_sheet x none settled empty range =
    sheet_open x.replica (history_of x) x.cells.shown x.cells.workers none range
    (subst (λ (s : State). IsSettled s (shown_at x.cells.shown)) empty settled)

pub kept_open : (x : Inside) → x.staged ≡ None → x.history.items ≡ []
    → IsSettled (state_now x.cells) (shown_at x.cells.shown) → state_now x.cells ≡ empty_state
    → (x.cells.staged ≡ None) × (x.cells.olds ≡ []) → (1 ≤ x.replica) × (x.replica ≤ REPLICAS) → IsKept x
kept_open x unstaged none settled empty still range =
    kept_idle x unstaged (opened_sheet x none settled empty range)
    (empty ∙ (sym joined_history-nil ∙ ap joined_history (sym none))) still.0 still.1

-- the staged change, where there is one
abbrev pub staged_view : Inside → Staged → StagedView
staged_view x s = record {
  delta = s.delta;
  fresh = is_some x.cells.staged;
  olds = x.cells.olds;
  changed = x.cells.changed;
  changes = x.cells.changes;
  report = s.report;
}

abbrev pub change_of : Inside → Staged → PreparedView
change_of x s = prepared_of (view_of x) (staged_view x s)

kept_worked : (x : Inside) (s : Staged) → x.staged ≡ Some s → IsKept x → IsWorkedOut (change_of x s)
kept_worked x s is kept = subst (IsStagedAs (view_of x)) (ap (staged_of x.cells) is) kept.staging

kept_state : (x : Inside) (s : Staged) → x.staged ≡ Some s → IsKept x
    → state_now x.cells ≡ joined_history (history_after (change_of x s))
kept_state x s is kept = subst (IsStagedBy (view_of x) x.cells) (ap (staged_of x.cells) is) kept.holds

-- the sheet after the change was made
module _ (x y : Inside) (s : Staged) (is : x.staged ≡ Some s) (fresh : true ≡ is_some x.cells.staged) (kept : IsKept x)
    (replica : y.replica ≡ x.replica) (pushed : y.history.items ≡ x.history.items ++ s.delta ∷ [])
    (grid : y.cells.grid ≡ x.cells.grid) (shown : y.cells.shown ≡ x.cells.shown) where
  after_push : history_of y ≡ history_after (change_of x s)
  after_push =
      pushed
      ∙ ap (λ (b : Bool). if b then (history_of x ++ s.delta ∷ []) else history_of x) fresh

  committed_state : state_now y.cells ≡ joined_history (history_of y)
  committed_state = ap state_at grid ∙ (kept_state x s is kept ∙ ap joined_history (sym after_push))

  pub committed_sheet : IsSheet (sheet_of (view_of y))
  committed_sheet = record {
    settled = subst (λ (h : List Entries). IsSettled (joined_history h) (shown_at y.cells.shown)) (sym after_push)
        (subst (λ (ks : List Kept). IsSettled (joined_history (history_after (change_of x s))) (shown_at ks))
        (sym shown)
        (kept_worked x s is kept).after);
    fresh = subst IsFresh (sym after_push)
        (after_fresh (history_of x) s.delta (is_some x.cells.staged) kept.fresh
        (kept_worked x s is kept).fresh.0);
    in_grid = subst IsInGrid (kept_state x s is kept ∙ ap joined_history (sym after_push)) kept.in_grid_now;
    replica = subst (λ (r : ℕ). (1 ≤ r) × (r ≤ REPLICAS)) (sym replica) kept.replica;
  }

  pub kept_committed : y.staged ≡ None → (y.cells.staged ≡ None) × (y.cells.olds ≡ []) → IsKept y
  kept_committed none still = kept_idle y none committed_sheet committed_state still.0 still.1

-- what the sheet showed before the change
settled_before : (x : Inside) (o : Option Staged) → x.staged ≡ o → is_some (staged_of x.cells o) ≡ true → IsKept x
    → IsSettled (joined_history (history_of x)) (put_back x.cells.olds (shown_at x.cells.shown))
settled_before x None is some kept = absurd (let f : false ≡ true = some in cc)
settled_before x (Some s) is some kept = (kept_worked x s is kept).before

-- the sheet after the change was given up
pub kept_cancelled : (x y : Inside) (v : StagingView) → view_of x ≡ v → is_some v.staged ≡ true → IsKept x
    → y.staged ≡ None → y.replica ≡ x.replica → history_of y ≡ history_of x
    → (y.cells.staged ≡ None) × (y.cells.olds ≡ []) → state_now y.cells ≡ state_before x.cells
    → shown_at y.cells.shown ≡ put_back x.cells.olds (shown_at x.cells.shown) → IsKept y
kept_cancelled x y v is some kept none replica history still state shown =
    let before = settled_before x x.staged refl (ap (λ (w : StagingView). is_some w.staged) is ∙ some) kept in
    kept_idle y none
    (record {
      settled = subst (λ (h : List Entries). IsSettled (joined_history h) (shown_at y.cells.shown)) (sym history)
          (subst (IsSettled (joined_history (history_of x))) (sym shown) before);
      fresh = subst IsFresh (sym history) kept.fresh;
      in_grid = subst (λ (h : List Entries). IsInGrid (joined_history h)) (sym history) kept.in_grid;
      replica = subst (λ (r : ℕ). (1 ≤ r) × (r ≤ REPLICAS)) (sym replica) kept.replica;
    })
    (state ∙ (kept.before ∙ ap joined_history (sym history))) still.0 still.1

-- giving up a change that changes nothing
pub cancelled_idle : (x y : Inside) (v : StagingView) → view_of x ≡ v → is_some v.staged ≡ true → IsKept x
    → is_some x.cells.staged ≡ false → y.replica ≡ x.replica → history_of y ≡ history_of x
    → y.cells.shown ≡ x.cells.shown
    → IsSomeAnd v.staged (λ p. IsOf (sheet_of (view_of y)) v.replica v.history (shown_before (prepared_of v p)))
cancelled_idle x y v is some kept off replica history shown =
    subst
    (λ (w : StagingView). is_some w.staged ≡ true
    → IsSomeAnd w.staged (λ p. IsOf (sheet_of (view_of y)) w.replica w.history (shown_before (prepared_of w p))))
    is
    (idle_cases x.staged)
    some
  where
    still : x.cells.olds ≡ []
    still = kept.still (none_there x.cells.staged off)

    idle_cases : (o : Option Staged) → is_some (staged_of x.cells o) ≡ true
        → IsSomeAnd (staged_of x.cells o)
        (λ p. IsOf (sheet_of (view_of y)) x.replica (history_of x) (put_back p.olds (shown_at x.cells.shown)))
    idle_cases None there = absurd (let f : false ≡ true = there in cc)
    idle_cases (Some s) there = record {
      replica = replica;
      history = history;
      shown = ap shown_at shown ∙ sym (back_none x.cells.olds (shown_at x.cells.shown) (ap length still));
    }

-- making a change that isn't fresh
pub committed_idle : (x : Inside) (v : StagingView) (z : SheetView) → view_of x ≡ v → is_some v.staged ≡ true
    → (is_some x.cells.staged ≡ false → z ≡ sheet_of (view_of x))
    → IsSomeAnd v.staged (λ p. p.fresh ≡ false → z ≡ sheet_of v)
committed_idle x v z is some same =
    subst
    (λ (w : StagingView). is_some w.staged ≡ true → IsSomeAnd w.staged (λ p. p.fresh ≡ false → z ≡ sheet_of w))
    is
    (idle_cases x.staged)
    some
  where
    idle_cases : (o : Option Staged) → is_some (staged_of x.cells o) ≡ true
        → IsSomeAnd (staged_of x.cells o) (λ p. p.fresh ≡ false → z ≡ sheet_of (view_of x))
    idle_cases None there = absurd (let f : false ≡ true = there in cc)
    idle_cases (Some s) there = same

-- a sheet in which a change is staged
kept_staged : (y : Inside) (s : Staged) → y.staged ≡ Some s → IsWorkedOut (change_of y s)
    → state_now y.cells ≡ joined_history (history_after (change_of y s))
    → state_before y.cells ≡ joined_history (history_of y)
    → (is_some y.cells.staged ≡ true → vec_len y.history < vec_capacity y.history)
    → (y.cells.staged ≡ None → y.cells.olds ≡ []) → IsFresh (history_of y) → IsInGrid (joined_history (history_of y))
    → IsInGrid (state_now y.cells) → (1 ≤ y.replica) × (y.replica ≤ REPLICAS) → IsKept y
kept_staged y s is worked holds before room still fresh in_grid in_grid_now replica = record {
  staging = subst (IsStagedAs (view_of y)) (sym (ap (staged_of y.cells) is)) worked;
  holds = subst (IsStagedBy (view_of y) y.cells) (sym (ap (staged_of y.cells) is)) holds;
  before = before;
  room = room;
  still = still;
  fresh = fresh;
  in_grid = in_grid;
  in_grid_now = in_grid_now;
  replica = replica;
}

-- a change below the state
module _ (x : Inside) (v : StagingView) (is : view_of x ≡ v) (none : v.staged ≡ None) (kept : IsKept x) (s : Staged)
    (n : ℕ) (report : s.report ≡ record { version = n; evaluated = 0; cyclic = 0; levels = 0 })
    (version : n ≡ length (history_of x))
    (below : IsBelow (state_of s.delta) (joined_history v.history)) where
  abbrev pub idle_staging : Inside
  idle_staging = record { replica = x.replica; history = x.history; cells = x.cells; staged = Some s }

  unstaged : x.cells.staged ≡ None
  unstaged = (idle_holds x v is none kept).1

  idle_worked : IsWorkedOut (change_of idle_staging s)
  idle_worked = subst
      (λ (r : Report). IsWorkedOut (record {
        replica = x.replica;
        history = history_of x;
        delta = s.delta;
        fresh = is_some x.cells.staged;
        shown = x.cells.shown;
        olds = x.cells.olds;
        changes = x.cells.changes;
        report = r;
        workers = x.cells.workers;
      }))
      (sym report)
      (worked_idle x.replica (history_of x) s.delta x.cells.shown x.cells.olds x.cells.changes n
      x.cells.workers (is_some x.cells.staged) (ap is_some unstaged) (kept.still unstaged)
      (idle_sheet x v is none kept).settled
      (subst (λ (w : StagingView). IsBelow (state_of s.delta) (joined_history w.history)) (sym is) below)
      version)

  pub kept_staged_idle : IsKept idle_staging
  kept_staged_idle = kept_staged idle_staging s refl idle_worked
      (after_joined (history_of x) s.delta (is_some x.cells.staged) (state_now x.cells)
      (λ on. absurd (let f : is_some x.cells.staged ≡ false = ap is_some unstaged in
      let g : true ≡ false = sym on ∙ f in cc))
      (λ off. (idle_holds x v is none kept).0))
      kept.before kept.room kept.still kept.fresh kept.in_grid kept.in_grid_now kept.replica

  pub stages_idle : Stages v (view_of idle_staging) s.report
  stages_idle = record {
    replica = ap (λ (w : StagingView). w.replica) is;
    history = ap (λ (w : StagingView). w.history) is;
    workers = ap (λ (w : StagingView). w.workers) is;
    worked_out = idle_worked;
    before = back_none x.cells.olds (shown_at x.cells.shown) (ap length (kept.still unstaged))
        ∙ ap (λ (w : StagingView). shown_at w.shown) is;
    report = refl;
  }

-- a change that isn't below it
module _ (x y : Inside) (v : StagingView) (is : view_of x ≡ v) (none : v.staged ≡ None) (kept : IsKept x) (s : Staged)
    (n evaluated cyclic levels : ℕ)
    (report : s.report ≡ record { version = n + 1; evaluated = evaluated; cyclic = cyclic; levels = levels })
    (staged : y.staged ≡ Some s) (replica : y.replica ≡ x.replica) (history : history_of y ≡ history_of x)
    (version : n ≡ length (history_of y))
    (new : ¬ IsBelow (state_of s.delta) (joined_history v.history))
    (joined : state_now y.cells ≡ joined_state (state_now x.cells) (state_of s.delta))
    (settled : IsSettled (state_now y.cells) (shown_at y.cells.shown)) (on : is_some y.cells.staged ≡ true)
    (before : (state_before y.cells ≡ state_now x.cells)
    × (put_back y.cells.olds (shown_at y.cells.shown) ≡ shown_at x.cells.shown))
    (workers : y.cells.workers ≡ x.cells.workers)
    (work : IsRecalculated (state_now x.cells) (state_now y.cells) (shown_at x.cells.shown) (shown_at y.cells.shown)
    evaluated cyclic levels) where
  was : state_now x.cells ≡ joined_history (history_of y)
  was = (idle_holds x v is none kept).0 ∙ ap joined_history (sym history)

  becomes : state_now y.cells ≡ joined_history (history_of y ++ s.delta ∷ [])
  becomes = joined ∙ (ap (λ (q : State). joined_state q (state_of s.delta)) was
      ∙ sym (joined_history-push (history_of y) s.delta))

  as_in : v.history ≡ history_of y
  as_in = sym (ap (λ (w : StagingView). w.history) is) ∙ sym history

  fresh_worked : IsWorkedOut (change_of y s)
  fresh_worked = subst
      (λ (r : Report). IsWorkedOut (record {
        replica = y.replica;
        history = history_of y;
        delta = s.delta;
        fresh = is_some y.cells.staged;
        shown = y.cells.shown;
        olds = y.cells.olds;
        changes = y.cells.changes;
        report = r;
        workers = y.cells.workers;
      }))
      (sym report)
      (worked_made y.replica (history_of y) s.delta y.cells.shown y.cells.olds y.cells.changes
      (shown_at x.cells.shown) (state_now x.cells) (state_now y.cells) n evaluated cyclic levels y.cells.workers
      (is_some y.cells.staged) on
      (subst (λ (h : List Entries). ¬ IsBelow (state_of s.delta) (joined_history h)) as_in new)
      before.1 was becomes
      (subst (λ (q : State). IsSettled q (shown_at x.cells.shown)) (sym (idle_holds x v is none kept).0)
      (idle_sheet x v is none kept).settled)
      settled version work)

  pub kept_staged_fresh : vec_len y.history < vec_capacity y.history → IsInGrid (state_now y.cells) → IsKept y
  kept_staged_fresh room in_grid = kept_staged y s staged fresh_worked
      (after_joined (history_of y) s.delta (is_some y.cells.staged) (state_now y.cells) (λ e. becomes)
      (λ off. absurd (let g : true ≡ false = sym on ∙ off in cc)))
      (before.0 ∙ was) (λ e. room)
      (λ off. absurd (let f : is_some y.cells.staged ≡ false = ap is_some off in
      let g : true ≡ false = sym on ∙ f in cc))
      (subst IsFresh (sym history) kept.fresh)
      (subst (λ (h : List Entries). IsInGrid (joined_history h)) (sym history) kept.in_grid) in_grid
      (subst (λ (r : ℕ). (1 ≤ r) × (r ≤ REPLICAS)) (sym replica) kept.replica)

  pub stages_fresh : Stages v (view_of y) s.report
  stages_fresh = record {
    replica = replica ∙ ap (λ (w : StagingView). w.replica) is;
    history = history ∙ ap (λ (w : StagingView). w.history) is;
    workers = workers ∙ ap (λ (w : StagingView). w.workers) is;
    worked_out = subst (λ (o : Option StagedView). IsSomeAnd o (λ p. IsWorkedOut (prepared_of (view_of y) p)))
        (sym (ap (staged_of y.cells) staged)) fresh_worked;
    before = subst
        (λ (o : Option StagedView). IsSomeAnd o (λ p. shown_before (prepared_of (view_of y) p) ≡ shown_at v.shown))
        (sym (ap (staged_of y.cells) staged)) (before.1 ∙ ap (λ (w : StagingView). shown_at w.shown) is);
    report = subst (λ (o : Option StagedView). IsSomeAnd o (λ p. p.report ≡ s.report))
        (sym (ap (staged_of y.cells) staged)) refl;
  }

-- what is said of a change that is fresh
pub fresh_on : (A : Type 0) (res : Result Report Refusal) (o : Option StagedView)
    → OnOk res (IsSomeAnd o (λ p. p.fresh ≡ true)) → OnOk res (IsSomeAnd o (λ p. A → p.fresh ≡ true))
fresh_on A (Ok r) o fresh = of_some (λ p. p.fresh ≡ true) (λ p. A → p.fresh ≡ true) o (λ p on a. on) fresh
fresh_on A (Err e) o fresh = tt

pub fresh_idle : (x y : SheetView) (res : Result Report Refusal) (o : Option StagedView)
    → OnOk res (IsSomeAnd o (λ p. p.fresh ≡ true)) → IfOk res (λ r. IsSomeAnd o (λ p. p.fresh ≡ false → IsIdle x y r))
fresh_idle x y (Ok r) o fresh =
    of_some (λ p. p.fresh ≡ true) (λ p. p.fresh ≡ false → IsIdle x y r) o
    (λ p on off. absurd (let f : true ≡ false = sym on ∙ off in cc)) fresh
fresh_idle x y (Err e) o fresh = tt

-- what the listed cells show
pub listed_values : (x y : CellsView) (o : Option Staged) → is_some (staged_of x o) ≡ true
    → y.changes ≡ map (λ c. (c, shown_at x.shown c)) x.changed → y.shown ≡ x.shown → y.changed ≡ x.changed
    → IsSomeAnd (staged_of y o) (λ p. p.changes ≡ map (λ c. (c, shown_at y.shown c)) p.changed)
listed_values x y None there values shown changed = absurd (let f : false ≡ true = there in cc)
listed_values x y (Some s) there values shown changed =
    values ∙ (ap (λ (ks : List Kept). map (λ c. (c, shown_at ks c)) x.changed) (sym shown)
    ∙ ap (λ (cs : List ℕ). map (λ c. (c, shown_at y.shown c)) cs) (sym changed))

-- a prepared change is the staged one
pub ready_prepared : (x : StagingView) (o : Option StagedView) → IsSomeAnd o (λ p. IsPrepared (prepared_of x p))
    → IsPrepared (prepared_by x o)
ready_prepared x None ready = absurd ready
ready_prepared x (Some p) ready = ready
