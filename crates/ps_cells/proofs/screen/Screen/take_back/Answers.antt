use Rattle.std.proofs.Common.{◌∙◌, arith}
use Rattle.ps_cells.proofs.ScreenLemmas.{noted_none_in}
use Rattle.ps_cells.proofs.screen.Screen.take_back.Goals as goal

pub invariant_of-self : goal.invariant_of-self
invariant_of-self c =
    let room = c.self.invariant.1 in
    let more = c.put_olds.ensures.room in (
      noted_none_in c.self.inside.is_put c.put_olds.new.olds.items c.put_olds.new.is_put c.put_olds.ensures.none
          (c.put_olds.auto.is_put ∙ c.deref_mut.ensures.len) c.self.invariant.0.length c.put_olds.ensures.off,
      omega (arith, room, more),
      c.self.invariant.2,
      c.self.invariant.3,
      c.self.invariant.4,
    )
