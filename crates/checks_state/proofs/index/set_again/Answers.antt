use Rattle.std.specs.Option.{option_copied}
use Rattle.ps_index.specs.Stands.{with_put}
use Rattle.checks_state.proofs.index.set_again.Goals as goal

pub set-requires-in-Err : goal.set-requires-in-Err
set-requires-in-Err c =
    let forms = with_put c.args.cell (option_copied c.args.old) c.requires.0 in
    (c.requires.0, c.in-Err.ensures.err forms c.requires.1)

pub returns-in_ok-set-in-Err : goal.returns-in_ok-set-in-Err
returns-in_ok-set-in-Err c forms stands =
    c.in_ok-set-in-Err.ensures.ok forms
    (c.in-Err.ensures.err (with_put c.args.cell (option_copied c.args.old) forms) stands)
