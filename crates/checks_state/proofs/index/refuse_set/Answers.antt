use Rattle.checks_state.proofs.index.refuse_set.Goals as goal

pub set_again-requires : goal.set_again-requires
set_again-requires c = (c.in_ok-index.ensures.0, c.in_ok-index.ensures.1)

pub set-requires : goal.set-requires
set-requires c = (c.in_ok-twin.ensures.0, c.in_ok-twin.ensures.1)

pub set_again-requires-2 : goal.set_again-requires-2
set_again-requires-2 c =
    (c.in_ok-index.ensures.0, c.in_ok-is_put.ensures c.in_ok-index.ensures.0 c.in_ok-index.ensures.1)
