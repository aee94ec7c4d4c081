use Rattle.std.proofs.Common.{◌≡◌, ◌+◌, ◌++◌, ◌<◌, ◌∷◌, [], ℕ, List, map, take, drop, length, get_or}
use Rattle.std.proofs.Common.{sym, ap, ◌∙◌, subst, eqb, arith, rules}
use Rattle.std.specs.List.{All, IsDistinct}
use Rattle.std.proofs.lemmas.List.{map-append, get_or-set_other, take_more, take-append-drop, drop_more}
use Rattle.ps_grid.specs.Chains.{In}
use Rattle.ps_shown.specs.declared.kept.Kept.{Kept}
use Rattle.ps_shown.specs.Kept.{value_of as value_kept}
use Rattle.ps_shown.specs.Shown.{shown_at}
use Rattle.ps_delta.specs.State.{state_at}
use Rattle.ps_region.specs.Listed.{listed}
use Rattle.ps_cells.specs.Inside.Waiting.{first_value}
use Rattle.ps_cells.specs.Inside.Steps.{BeginsAll, flag_at}
use Rattle.ps_cells.proofs.Middles.{fresh_middle, All-middle}
use Rattle.ps_cells.proofs.WalkSteps.{begins_more}
use Rattle.ps_cells.proofs.walk.show_all_first.Goals as goal

pub loop-i-preserved : goal.loop-i-preserved
loop-i-preserved c =
    let t = state_at c.args.grid.now in
    let xs = c.args.first.now in
    let i = c.loop-i.i in
    let r : ℕ × Kept = c.index-first-i.result in
    let e : ℕ × Kept = get_or c.loop-i.first i r in
    let kept = c.replace-kept.result in
    let ys = take i xs in
    let rest = drop (i + 1) xs in
    let inside : i < length xs = omega (arith, c.loop-i-test.true, c.loop-i.invariant.places, c.loop-i.auto.i-end) in
    let is : get_or xs i r ≡ e = sym (c.loop-i.invariant.others i r (omega arith)) in
    let whole : ys ++ e ∷ rest ≡ xs =
    ap (λ (q : ℕ × Kept). ys ++ q ∷ rest) (sym is)
    ∙ (ap (λ (zs : List (ℕ × Kept)). ys ++ zs) (sym (drop_more xs i r inside)) ∙ take-append-drop i xs) in
    let longer : take (i + 1) xs ≡ ys ++ e ∷ [] =
    take_more xs i r inside ∙ ap (λ (q : ℕ × Kept). ys ++ q ∷ []) is in
    let fresh : ¬ In (map (λ (q : ℕ × Kept). q.0) ys) e.0 =
    fresh_middle (map (λ (q : ℕ × Kept). q.0) ys) (map (λ (q : ℕ × Kept). q.0) rest) e.0
    (subst (λ (zs : List ℕ). IsDistinct eqb zs) (map-append (λ (q : ℕ × Kept). q.0) ys (e ∷ rest))
    (subst (λ (zs : List (ℕ × Kept)). IsDistinct eqb (map (λ q. q.0) zs)) (sym whole) c.requires.once)) in
    let value : value_kept kept ≡ first_value (t e.0) =
    ap value_kept c.replace-kept.ensures.value
    ∙ All-middle (λ (q : ℕ × Kept). value_kept q.1 ≡ first_value (t q.0)) ys rest e
    (subst (λ (zs : List (ℕ × Kept)). All (λ q. value_kept q.1 ≡ first_value (t q.0)) zs) (sym whole)
    c.requires.values) in
    record {
      begun = subst (λ (zs : List ℕ). BeginsAll t (listed c.args.index.now) zs (shown_at c.args.shown.now.kept)
          (shown_at c.show_first.new.shown.kept) (flag_at c.args.flags.now) (flag_at c.show_first.new.flags))
          (sym (ap (map (λ (q : ℕ × Kept). q.0)) longer ∙ map-append (λ (q : ℕ × Kept). q.0) ys (e ∷ [])))
          (begins_more t (listed c.args.index.now) (map (λ (q : ℕ × Kept). q.0) ys) e.0
          (value_kept kept) (shown_at c.args.shown.now.kept) (shown_at c.loop-i.shown.kept)
          (shown_at c.show_first.new.shown.kept) (flag_at c.args.flags.now) (flag_at c.loop-i.flags)
          (flag_at c.show_first.new.flags) c.loop-i.invariant.begun fresh value c.show_first.ensures.first);
      before = c.show_first.ensures.before ∙ c.loop-i.invariant.before;
      others = λ j d le. get_or-set_other c.loop-i.first i j _ d
          (λ same. omega (arith, le, same)) ∙ c.loop-i.invariant.others j d (omega (arith, le));
      places = search rules;
    }
