use Rattle.std.proofs.Common.{◌∙◌, arith, refl}
use Rattle.ps_delta.specs.State.{state_at}
use Rattle.ps_delta.proofs.ChangeLemmas.{exchange-step, place_there, room_after, room_kept, swapped-all}
use Rattle.ps_delta.proofs.grid.Grid.exchange.Goals as goal

pub loop-i-init : goal.loop-i-init
loop-i-init c = record { given = refl; listed = refl; room = c.requires.ready }

pub swap-requires : goal.swap-requires
swap-requires c =
    place_there _ (state_at c.args.self.now) c.args.cells.now _ c.loop-i.i _ c.loop-i.invariant.room
    (omega (arith, c.loop-i-test.true)) c.loop-i.invariant.listed

pub loop-i-preserved : goal.loop-i-preserved
loop-i-preserved c =
    let step = exchange-step (state_at c.args.self.now) _ _ c.args.cells.now _ c.loop-i.i _ _ c.requires.once
    (omega (arith, c.loop-i-test.true)) c.index-cells-i.is c.loop-i.invariant.given c.loop-i.invariant.listed
    c.swap.ensures.given c.swap.ensures.taken in record {
      given = step.0;
      listed = step.1;
      room = room_kept _ _ c.args.cells.now c.swap.ensures.places c.loop-i.invariant.room;
    }

pub returns-clause-taken : goal.returns-clause-taken
returns-clause-taken c =
    c.loop-i.invariant.listed
    ∙ swapped-all (state_at c.args.self.now) c.loop-i.i c.args.cells.now (omega (arith, c.loop-i-test.false))

pub returns-clause-ready : goal.returns-clause-ready
returns-clause-ready c =
    room_after _ (state_at c.args.self.now) c.args.cells.now _ c.loop-i.invariant.room
    (c.loop-i.invariant.listed
    ∙ swapped-all (state_at c.args.self.now) c.loop-i.i c.args.cells.now (omega (arith, c.loop-i-test.false)))
