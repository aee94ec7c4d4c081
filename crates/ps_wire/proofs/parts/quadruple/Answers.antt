use Rattle.std.proofs.Common.{[], ◌∷◌, refl, sym, ◌∙◌, arith}
use Rattle.std.proofs.lemmas.Grind.{common_steps}
use Rattle.ps_wire.proofs.ArrayLemmas.{array_length}
use Rattle.ps_wire.proofs.parts.quadruple.Goals as goal
use Rattle.ps_wire.proofs.parts.quadruple.Goals.{in_default-via-then-branch-lt4}
use Rattle.ps_wire.proofs.parts.quadruple.Goals.{in_default-via-else-branch-lt4+else-this-lt5}

-- the array has another number of items
pub returns-in_default-clause-refused : goal.returns-in_default-clause-refused
returns-in_default-clause-refused c =
    let count = array_length c.in_ok-items.field-0.now in
    let found = c.in_ok-items.ensures.found in
    elim c.in_default.branch [
      | in_default-via-then-branch-lt4 w ↦
          (refl, λ a b d f e. grind (arith, common_steps, w, count (a ∷ b ∷ d ∷ f ∷ []) (sym found ∙ e)))
      | in_default-via-else-branch-lt4+else-this-lt5 w ↦
          (refl, λ a b d f e. grind (arith, common_steps, w, count (a ∷ b ∷ d ∷ f ∷ []) (sym found ∙ e)))
    ]
