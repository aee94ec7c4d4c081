use Rattle.std.proofs.Common.{◌≤◌, arith, rules}
use Rattle.std.specs.Fmt.{signed_decimal}
use Rattle.serde_json.specs.Data.{string}
use Rattle.ps_wire.specs.Length.{size}
use Rattle.ps_wire.proofs.SizeLemmas.{size_of_choice, size_of_tally}
use Rattle.ps_wire.proofs.room.is_brief_content.Goals as goal

pub returns-in-Number : goal.returns-in-Number
returns-in-Number c =
    let short : size (string (signed_decimal c.in-Number.number)) ≤ 22 = search rules in rw c.in-Number.is short

pub returns-in-Tally : goal.returns-in-Tally
returns-in-Tally c = rw c.in-Tally.is (omega (arith, size_of_tally))

pub returns-in-Choice : goal.returns-in-Choice
returns-in-Choice c = rw c.in-Choice.is (omega (arith, size_of_choice))
