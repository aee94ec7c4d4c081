use Rattle.ps_lattice.specs.Choice.{is_chosen}
use Rattle.ps_lattice.specs.declared.limits.TheConstants.{OPTIONS}
use Rattle.ps_cells.proofs.SetsAsNumbers.{is_bits_of}
use Rattle.ps_cells.proofs.contents.options_of.Goals as goal

pub returns : goal.returns
returns c = is_bits_of (is_chosen c.args.choice.now) OPTIONS c.options.result c.options.type_inv c.options.ensures
