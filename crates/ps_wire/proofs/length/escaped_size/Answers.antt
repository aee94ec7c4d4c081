use Rattle.std.proofs.Common.{rules}
use Rattle.json.specs.Print.{escape_byte}
use Rattle.ps_wire.proofs.length.escaped_size.Goals as goal

pub returns-then-escape_letter-gt0-clause-value : goal.returns-then-escape_letter-gt0-clause-value
unfolding escape_byte
returns-then-escape_letter-gt0-clause-value c = search rules

pub returns-then-byte-lt32-clause-value : goal.returns-then-byte-lt32-clause-value
unfolding escape_byte
returns-then-byte-lt32-clause-value c = search rules

pub returns-else-byte-lt32-clause-value : goal.returns-else-byte-lt32-clause-value
unfolding escape_byte
returns-else-byte-lt32-clause-value c = search rules
