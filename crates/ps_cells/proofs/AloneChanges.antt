-- What a change of cells that are alone recalculates: these show their first values, and nothing is evaluated.
use Rattle.std.proofs.Common.{◌≡◌, ℕ, true, false, List, [], ◌∷◌, refl, sym, ap, ◌∙◌, subst, inl}
use Rattle.std.specs.Prelude.{None}
use Rattle.std.specs.List.{list_all}
use Rattle.ps_grid.specs.Chains.{In}
use Rattle.ps_eval.specs.Items.{Assignment}
use Rattle.ps_shown.specs.declared.kept.Kept.{Kept}
use Rattle.ps_shown.specs.Kept.{value_of as value_kept}
use Rattle.ps_shown.specs.Shown.{shown_at, with_value}
use Rattle.ps_region.specs.CellSets.{has_cell}
use Rattle.ps_region.specs.Listed.{listed}
use Rattle.ps_delta.specs.State.{state_at}
use Rattle.ps_cells.specs.declared.tables.Tables.{Tables}
use Rattle.ps_cells.specs.Inside.Alone.{is_alone}
use Rattle.ps_cells.specs.Inside.Kept.{MayRecalculate, Recalculates}
use Rattle.ps_cells.specs.Inside.Screens.{ScreenView, cells_in, put_back}
use Rattle.ps_cells.specs.Inside.Waiting.{first_value}
use Rattle.ps_cells.specs.Inside.Walk.{formula_at}
use Rattle.ps_cells.proofs.AloneCells.{settled_alone, counted_alone}
use Rattle.ps_cells.proofs.AloneCells.{cyclic_alone, closes_alone, deepest_alone}
use Rattle.ps_cells.proofs.ChangeLists.{back_absent}
use Rattle.ps_cells.proofs.PutFirsts.{put_shows}

-- one value is put
pub put_sole : (v : Assignment) (c : ℕ) (k : Kept) → put_back ((c, k) ∷ []) v ≡ with_value v c (value_kept k)
unfolding put_back
put_sole v c k = refl

module _ (x : Tables) (first : List (ℕ × Kept)) (screen : ScreenView) (may : MayRecalculate x (cells_in first) first)
    (alone : list_all (is_alone (formula_at (state_at x.grid)) (listed x.index)) (cells_in first) ≡ true)
    (none : (c : ℕ) → has_cell x.cyclic c ≡ false) (put : shown_at screen.kept ≡ put_back first (shown_at x.shown.kept)) where
  nothing_done : Recalculates x (record x { shown = screen; source = None }) (cells_in first) 0 0 0
  nothing_done =
      let t = state_at x.grid in
      let v = shown_at x.shown.kept in
      let touched = cells_in first in
      let list = listed x.index in
      let u = shown_at screen.kept in
      let firsts : (q : ℕ) → In touched q → u q ≡ first_value (t q) =
      λ q i. ap (λ (w : Assignment). w q) put ∙ put_shows t first v may.values q i in
      let others : (q : ℕ) → ¬ In touched q → u q ≡ v q =
      λ q out. ap (λ (w : Assignment). w q) put ∙ back_absent first v q out in
      record {
        grid = refl;
        index = refl;
        workers = refl;
        settled = settled_alone may.before t v touched may.change may.inside may.once list may.lists alone u firsts
            others;
        tidy = record {
          cyclic = cyclic_alone may.before t v touched may.change may.inside may.once list may.lists alone x.cyclic none
              may.tidy.cyclic;
          length = may.tidy.length;
          off = may.tidy.off;
          level = may.tidy.level;
          workers = may.tidy.workers;
          region = tt;
        };
        works = counted_alone may.before t v touched may.change may.inside may.once list may.lists alone u firsts
            others;
        closes = closes_alone may.before t v touched may.change may.inside may.once list may.lists alone;
        deepest = deepest_alone may.before t v touched may.change may.inside may.once list may.lists alone;
        reached = inl refl;
      }

  pub recalculates_alone : (evaluated cyclic levels : ℕ) → evaluated ≡ 0 → cyclic ≡ 0 → levels ≡ 0
      → Recalculates x (record x { shown = screen; source = None }) (cells_in first) evaluated cyclic levels
  recalculates_alone evaluated cyclic levels no_value no_circle no_level =
      subst (λ n. Recalculates x (record x { shown = screen; source = None }) (cells_in first) n cyclic levels)
      (sym no_value)
      (subst (λ n. Recalculates x (record x { shown = screen; source = None }) (cells_in first) 0 n levels)
      (sym no_circle)
      (subst (λ n. Recalculates x (record x { shown = screen; source = None }) (cells_in first) 0 0 n) (sym no_level)
      nothing_done))
