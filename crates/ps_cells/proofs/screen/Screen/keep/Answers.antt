use Rattle.std.proofs.Common.{◌∙◌, arith}
use Rattle.ps_cells.proofs.ScreenLemmas.{noted_none_in}
use Rattle.ps_cells.proofs.screen.Screen.keep.Goals as goal

pub invariant_of-self : goal.invariant_of-self
invariant_of-self c =
    let room = c.self.invariant.1 in
    let more = c.forget.ensures.room in (
      noted_none_in c.self.inside.is_put c.forget.new.olds.items c.forget.new.is_put c.forget.ensures.none
          (c.forget.auto.is_put ∙ c.deref_mut.ensures.len) c.self.invariant.0.length c.forget.ensures.off,
      omega (arith, room, more),
      c.self.invariant.2,
      c.self.invariant.3,
      c.self.invariant.4,
    )
