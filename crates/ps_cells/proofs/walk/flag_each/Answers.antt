use Rattle.std.proofs.Common.{◌||◌, ℕ, List, sym, ap, ◌∙◌, eqb}
use Rattle.std.specs.Iterator.{AlwaysYields}
use Rattle.std.specs.List.{list_any}
use Rattle.std.proofs.lemmas.Iterator.{YieldsList}
use Rattle.std.proofs.lemmas.Iterator.Consumers.{YieldsList-at, YieldsList-end}
use Rattle.std.proofs.lemmas.List.{map-id}
use Rattle.ps_cells.specs.Inside.Steps.{flag_at}
use Rattle.ps_cells.proofs.walk.flag_each.Goals as goal

pub returns : goal.returns
returns g c = record {
  flagged = λ (cells : List ℕ) (walks : AlwaysYields g.W.Iterator.next_gives (λ (x : ℕ). x) c.args.walk cells) (q : ℕ).
      let road : YieldsList g.W.Iterator.next_gives (λ (x : ℕ). x) c.args.walk cells = record { runs = walks } in
      let end = YieldsList-end (YieldsList-at c.into_iter-dependent-iterator.ensures.into_iter_gives road)
      c.loop-dependent.yielded _ c.loop-dependent.yielded_by _ _ c.in-None.is c.next.ensures.steps in
      c.loop-dependent.invariant.flagged q
      ∙ ap (λ xs. flag_at c.args.flags.now q || list_any (eqb q) xs)
      (sym (map-id c.loop-dependent.yielded) ∙ end.0);
}
