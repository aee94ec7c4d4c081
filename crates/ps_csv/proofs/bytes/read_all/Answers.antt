use Rattle.std.proofs.Common.{◌≡◌, ◌<◌, ◌++◌, refl, length, take, arith, inr}
use Rattle.std.proofs.KnownBytes.{Consumes-trans}
use Rattle.std.proofs.lemmas.List.{length-append, length-take-le}
use Rattle.ps_csv.specs.declared.bytes.TheConstants.{LONGEST_TABLE}
use Rattle.ps_csv.proofs.bytes.read_all.Goals as goal

pub returns-then-count-len-clause-refused : goal.returns-then-count-len-clause-refused
returns-then-count-len-clause-refused g c =
    let more = take c.in-Ok.count c.take.new.piece in
    let size : length more ≡ c.in-Ok.count
    = length-take-le c.in-Ok.count c.take.new.piece (c.in-Ok.ensures.within) in
    let beyond : LONGEST_TABLE < length (c.pieces.bytes.items ++ more)
    = omega (arith, size, length-append c.pieces.bytes.items more) in
    inr (inr (
      refl,
      record {
        bytes = c.pieces.bytes.items ++ more;
        consumed = Consumes-trans _ _ _ c.pieces.bytes.items more c.pieces.invariant.consumed c.in-Ok.ensures.bytes.0;
        beyond = beyond;
      },
    ))
