use Rattle.std.proofs.Common.{◌≡◌, ◌⊎◌, ◌≤◌, ◌+◌, ℕ, Bool, List, [], true, map, length, refl, sym, ap, ◌∙◌, subst}
use Rattle.std.specs.Vec.{with_items}
use Rattle.std.proofs.lemmas.List.{with_items_is}
use Rattle.ps_grid.specs.Chains.{In, InRegion, IsDepth}
use Rattle.ps_delta.specs.State.{state_at}
use Rattle.ps_region.specs.Found.{IsFound, level_cells, level_count}
use Rattle.ps_region.specs.Listed.{listed}
use Rattle.ps_shown.specs.declared.kept.Kept.{Kept}
use Rattle.ps_shown.specs.Shown.{shown_at}
use Rattle.ps_cells.specs.Settled.{refers_to, Cyclic}
use Rattle.ps_cells.specs.Inside.Steps.{flag_at}
use Rattle.ps_cells.specs.Inside.Walk.{formula_at, Begun, IsCount, InFrame, IsPassed, Walked}
use Rattle.ps_cells.proofs.FirstValues.{begun_start}
use Rattle.ps_cells.proofs.FoundLevels.{walked_flags, walked_settled, walked_counted, cyclic_counted}
use Rattle.ps_cells.proofs.Recalculations.{may_walk, levels_found}
use Rattle.ps_cells.proofs.Recalculations.{walked_now, cyclic_now}
use Rattle.ps_cells.proofs.Recalculations.{deepest_now, reached_now}
use Rattle.ps_cells.proofs.tables.Tables.recalculate_region.Given.{Over}
use Rattle.ps_cells.proofs.tables.Tables.recalculate_region.Goals as goal
use Rattle.ps_cells.proofs.tables.Tables.recalculate_region.Goals.{After-deref_mut-3, After-settle_frame-arg-4-1}

pub find_region-requires-clause-change : goal.find_region-requires-clause-change
find_region-requires-clause-change g c = (
  c.requires.before,
  shown_at c.args.self.now.shown.kept,
  c.requires.change,
  c.requires.tidy.cyclic,
  c.requires.tidy.region,
)

-- what is known of the region
found : (g : Over) (c : After-settle_frame-arg-4-1 g)
    → IsFound (refers_to (state_at c.args.self.now.grid)) (formula_at (state_at c.args.self.now.grid))
    c.args.touched.now
    c.find_region.new.region
found g c = c.find_region.ensures.found

-- the flags after the touched cells were dealt with
flags_first : (g : Over) (c : After-settle_frame-arg-4-1 g) → c.deref_mut-2.result.now ≡ c.show_all_first.new.flags
flags_first g c =
    c.deref_mut-2.ensures.value
    ∙ with_items_is c.args.self.now.flags c.show_all_first.new.flags
    (c.show_all_first.auto.flags ∙ c.deref_mut.ensures.len)

begun_first : (g : Over) (c : After-settle_frame-arg-4-1 g)
    → Begun (state_at c.args.self.now.grid) (shown_at c.args.self.now.shown.kept) c.args.touched.now
    (map (λ (e : ℕ × Kept). e.0) c.args.first.now) [] (shown_at c.show_all_first.new.shown.kept)
    (flag_at c.show_all_first.new.flags)
begun_first g c =
    c.show_all_first.ensures.begun (shown_at c.args.self.now.shown.kept) c.args.touched.now c.requires.lists
    (λ q i. let j : In c.args.touched.now q = subst (λ xs. In xs q) c.requires.cells i in (j, c.requires.inside q j))
    (begun_start (state_at c.args.self.now.grid) (shown_at c.args.self.now.shown.kept) c.args.touched.now
    (shown_at c.args.self.now.shown.kept) (flag_at c.deref_mut.result.now) (λ q. refl)
    (λ q. ap (λ (xs : List Bool). flag_at xs q) c.deref_mut.ensures.value ∙ c.requires.tidy.off q))

begun_all : (g : Over) (c : After-settle_frame-arg-4-1 g)
    → Begun (state_at c.args.self.now.grid) (shown_at c.args.self.now.shown.kept) c.args.touched.now
    c.args.touched.now c.find_region.new.region.cyclic (shown_at c.close_all.new.shown.kept)
    (flag_at c.deref_mut-2.result.now)
begun_all g c =
    let t = state_at c.args.self.now.grid in
    let v = shown_at c.args.self.now.shown.kept in
    let touched = c.args.touched.now in
    let closed = c.close_all.ensures.closed t v touched (map (λ (e : ℕ × Kept). e.0) c.args.first.now)
    (flag_at c.show_all_first.new.flags)
    (λ q i. let z = (found g c).cyclic_sound q (subst (λ xs. In xs q) c.cyclic.ensures i) in (z.0, z.2))
    (begun_first g c) in
    subst (λ (xs : List Bool). Begun t v touched touched c.find_region.new.region.cyclic
    (shown_at c.close_all.new.shown.kept) (flag_at xs))
    (sym (flags_first g c))
    (subst (λ (xs : List ℕ). Begun t v touched touched xs (shown_at c.close_all.new.shown.kept)
    (flag_at c.show_all_first.new.flags)) c.cyclic.ensures
    (subst (λ (xs : List ℕ). Begun t v touched xs c.cyclic.result.now (shown_at c.close_all.new.shown.kept)
    (flag_at c.show_all_first.new.flags)) c.requires.cells closed))

pub settle_frame-evaluated-requires-clause-begun :
    goal.settle_frame-evaluated-requires-clause-begun
settle_frame-evaluated-requires-clause-begun g c κs within =
    may_walk c.requires.before (state_at c.args.self.now.grid) (shown_at c.args.self.now.shown.kept) c.args.touched.now
    c.requires.change c.requires.inside c.find_region.new.region (found g c) (listed c.args.self.now.index)
    c.requires.lists
    (shown_at c.close_all.new.shown.kept) (flag_at c.deref_mut-2.result.now) (begun_all g c)

-- what was done after the last level
walked : (g : Over) (c : After-deref_mut-3 g)
    → Walked (state_at c.args.self.now.grid) (shown_at c.args.self.now.shown.kept) c.args.touched.now
    (IsPassed (level_cells c.find_region.new.region) (level_count c.find_region.new.region + 1) [])
    (shown_at c.settle_frame-evaluated.new.shown.kept) (flag_at c.settle_frame-evaluated.new.flags)
    c.settle_frame-evaluated.result
walked g c =
    walked_now c.requires.before (state_at c.args.self.now.grid) (shown_at c.args.self.now.shown.kept)
    c.args.touched.now c.requires.change c.requires.inside c.find_region.new.region c.find_region.ensures.found
    (listed c.args.self.now.index) c.requires.lists (shown_at c.close_all.new.shown.kept)
    (shown_at c.settle_frame-evaluated.new.shown.kept) (flag_at c.deref_mut-2.result.now)
    (flag_at c.settle_frame-evaluated.new.flags) c.settle_frame-evaluated.result
    (begun_all g (goal.at.clear-requires-clause-within g c).After-settle_frame-arg-4-1)
    c.settle_frame-evaluated.ensures.settled

-- the flags after the last level
flags_last : (g : Over) (c : After-deref_mut-3 g) → c.deref_mut-3.result.now ≡ c.settle_frame-evaluated.new.flags
flags_last g c =
    c.deref_mut-3.ensures.value
    ∙ with_items_is (with_items c.args.self.now.flags c.show_all_first.new.flags) c.settle_frame-evaluated.new.flags
    (c.settle_frame-evaluated.auto.flags ∙ c.deref_mut-2.ensures.len)

pub clear-requires-clause-within : goal.clear-requires-clause-within
clear-requires-clause-within g c = λ q on.
    let f = c.find_region.new.region in
    let now = c.find_region.ensures.found in
    subst (λ xs. In xs q) (sym c.members.ensures)
    (walked_flags c.requires.before (state_at c.args.self.now.grid) (shown_at c.args.self.now.shown.kept)
    c.args.touched.now c.requires.change (level_cells f) (level_count f)
    (levels_found c.requires.before (state_at c.args.self.now.grid) (shown_at c.args.self.now.shown.kept)
    c.args.touched.now c.requires.change c.requires.inside f now)
    (shown_at c.settle_frame-evaluated.new.shown.kept) (flag_at c.settle_frame-evaluated.new.flags)
    c.settle_frame-evaluated.result (walked g c) f.members now.region_sound now.region_complete q
    (subst (λ (xs : List Bool). flag_at xs q ≡ true) (flags_last g c) on))

pub returns-clause-done : goal.returns-clause-done
returns-clause-done g c =
    let t = state_at c.args.self.now.grid in
    let v = shown_at c.args.self.now.shown.kept in
    let touched = c.args.touched.now in
    let f = c.find_region.new.region in
    let now = c.find_region.ensures.found in
    let at = goal.at.returns-clause-done g c in
    let first = flags_first g at.After-settle_frame-arg-4-1 in
    let last = flags_last g at.After-deref_mut-3 in
    let w = walked g at.After-deref_mut-3 in
    let w2 = with_items (with_items c.args.self.now.flags c.show_all_first.new.flags)
    c.settle_frame-evaluated.new.flags in
    let clean : (with_items w2 c.clear.new.flags).items ≡ c.clear.new.flags =
    with_items_is w2 c.clear.new.flags (c.clear.auto.flags ∙ c.deref_mut-3.ensures.len) in
    let levels = levels_found c.requires.before t v touched c.requires.change c.requires.inside f now in
    let u3 = shown_at c.settle_frame-evaluated.new.shown.kept in
    let flags3 = flag_at c.settle_frame-evaluated.new.flags in
    let n = c.settle_frame-evaluated.result in
    let top = sym c.levels.ensures in
    record {
      grid = refl;
      index = refl;
      workers = refl;
      settled = walked_settled c.requires.before t v touched c.requires.change (level_cells f) (level_count f) levels
          u3 flags3 n
          w f.members now.region_sound now.region_complete;
      tidy = record {
        cyclic = cyclic_now c.requires.before t v touched c.requires.change c.requires.inside f now
            c.args.self.now.cyclic c.renew.new.cyclic c.requires.tidy.cyclic c.renew.ensures;
        length = ap length clean ∙ c.clear.auto.flags ∙ ap length last ∙ c.settle_frame-evaluated.auto.flags
            ∙ ap length first ∙ c.show_all_first.auto.flags ∙ ap length c.deref_mut.ensures.value
            ∙ c.requires.tidy.length;
        off = λ p. ap (λ (xs : List Bool). flag_at xs p) clean ∙ c.clear.ensures.clear p;
        level = c.settle_frame-evaluated.ensures.room;
        workers = c.requires.tidy.workers;
        region = c.find_region.ensures.source;
      };
      works = walked_counted c.requires.before t v touched c.requires.change (level_cells f) (level_count f) levels u3
          flags3 n
          w f.members now.region_sound now.region_complete;
      closes = subst (λ k. IsCount (λ q. InRegion (refers_to t) touched q × (formula_at t q ≡ true) × Cyclic t q) k)
          (ap length (sym c.cyclic-2.ensures))
          (cyclic_counted t touched f.cyclic now.cyclic_sound now.cyclic_complete now.cyclic_once);
      deepest = λ q frame.
          let k = deepest_now c.requires.before t v touched c.requires.change c.requires.inside f now q frame in
          (k.0, k.1, subst (λ m. k.0 ≤ m) top k.2);
      reached = subst (λ m. (m ≡ 0) ⊎ ((q : ℕ) × InFrame t touched q × IsDepth (refers_to t) (InFrame t touched) q m))
          top
          (reached_now c.requires.before t v touched c.requires.change c.requires.inside f now);
    }
