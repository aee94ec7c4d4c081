use Rattle.std.proofs.Common.{◌≡◌, ◌≤◌, refl, sym, ap, ◌∙◌, subst, unwrap_or}
use Rattle.std.specs.Option.{option_map_or}
use Rattle.std.specs.Ordering.{nat_cmp}
use Rattle.std.specs.FinMap as map
use Rattle.std.specs.FinMap.{get-entries}
use Rattle.std.specs.List.{list_all}
use Rattle.ps_lattice.specs.declared.tally.Count.{Count}
use Rattle.ps_lattice.specs.declared.limits.TheConstants.{COUNT_LIMIT}
use Rattle.ps_lattice.specs.Tally.{is_count}
use Rattle.ps_lattice.proofs.Rising.{and_right}
use Rattle.ps_lattice.proofs.TallyLemmas.{part-unwrap_or, found_fits}
use Rattle.ps_lattice.proofs.tally.Tally.count_of.Goals as goal

-- what the search found, or nothing
pub returns : goal.returns
returns c =
    let es = c.as_slice.result.now in
    let r = c.args.replica in
    let none : Count = record { added = 0; subtracted = 0 } in
    let all = and_right (map.is_sorted nat_cmp es) (list_all is_count es) c.as_slice.ensures.in_range in
    let got =
    ap (map.find nat_cmp r) (c.as_slice.ensures.value ∙ ap map.entries c.parts.ensures.value)
    ∙ sym (get-entries c.args.self.now r) in
    let is : c.unwrap_or.result ≡ unwrap_or (map.find nat_cmp r es) none =
    c.unwrap_or.ensures ∙ ap (λ o. unwrap_or o none) c.value_at.ensures in
    let fits = found_fits r es all in
    record {
      added = ap (λ (k : Count). k.added) is ∙ part-unwrap_or (λ k. k.added) refl (map.find nat_cmp r es)
          ∙ ap (λ o. option_map_or (λ (k : Count). k.added) o 0) got;
      subtracted = ap (λ (k : Count). k.subtracted) is ∙ part-unwrap_or (λ k. k.subtracted) refl (map.find nat_cmp r es)
          ∙ ap (λ o. option_map_or (λ (k : Count). k.subtracted) o 0) got;
      added_fits = subst (λ (k : Count). k.added ≤ COUNT_LIMIT) (sym is) fits.0;
      subtracted_fits = subst (λ (k : Count). k.subtracted ≤ COUNT_LIMIT) (sym is) fits.1;
    }
