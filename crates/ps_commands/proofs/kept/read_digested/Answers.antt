use Rattle.std.proofs.Common.{inl, refl}
use Rattle.ps_keep.specs.declared.file.FileCause.TheVariants as causes
use Rattle.ps_commands.proofs.kept.read_digested.Goals as goal

pub returns-in-Memory-clause-refused : goal.returns-in-Memory-clause-refused
returns-in-Memory-clause-refused g c = inl (causes.Unknown, inl refl)
