use Rattle.ps_eval.specs.Items.{first_fault}
use Rattle.ps_shown.specs.Blocks.{block_items}
use Rattle.ps_shown.proofs.FaultLemmas.{clean_block, none_there}
use Rattle.ps_shown.proofs.blocks.is_free_of_faults.Goals as goal

pub returns-in-Some : goal.returns-in-Some
returns-in-Some c = λ free p low high.
    let items = block_items c.args.kept.now c.args.block in
    let known = c.requires c.args.block c.in-Some.known.now c.in-Some.ensures in
    clean_block c.args.kept.now c.args.block p
    (none_there c.has_fault.result (first_fault items) free (c.has_fault.ensures items known)) low high
