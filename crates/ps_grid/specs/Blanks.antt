-- Blanks, which open ledgers. A ledger is a ghost sum of std.
use Rattle.std.specs.Prelude.{◌≡◌, ℕ, ◌<◌}
use Rattle.std.specs.declared.sync.ledger.Blank.{Blank}

-- the blank opens the ledger with this name, whose shares have this many parts in all, at least one
pub record IsBlankOf (blank : Blank) (name parts : ℕ) : Type 0 where
  pub name_is : blank.name ≡ name
  pub parts_are : blank.parts ≡ parts
  pub some : 0 < parts
