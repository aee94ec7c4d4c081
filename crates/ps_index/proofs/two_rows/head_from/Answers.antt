use Rattle.std.proofs.Common.{inl, inr, arith}
use Rattle.std.proofs.lemmas.Bool.{cases_lt}
use Rattle.ps_index.specs.declared.span.Span.{Span}
use Rattle.ps_index.proofs.two_rows.head_from.Goals as goal

pub returns : goal.returns
returns c =
    let d : Span = record { from = 0; to = 0; cell = 0 } in
    let past = c.passed-place.ensures in
    let cell = c.cell_at.ensures in
    record {
      from = past.from;
      to = past.to;
      passed = past.passed;
      at = record { small = cell.small; none = cell.none; is = cell.there; has_row = past.has_row };
      later = elim (cases_lt c.passed-place.result c.args.to) [
        | inl lt ↦ omega (arith, cell.there lt d, past.from_least lt d)
        | inr ge ↦ omega (arith, cell.none ge, c.requires.least)
      ];
    }
