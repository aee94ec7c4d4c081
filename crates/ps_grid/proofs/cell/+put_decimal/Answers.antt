use Rattle.std.proofs.Common.{◌+◌, ◌/◌, ◌%◌, [], ◌∷◌, ◌++◌, take, sym, ap, ◌∙◌, arith, append_assoc}
use Rattle.std.specs.Fmt.{decimal}
use Rattle.std.proofs.lemmas.Fmt.{decimal_digit, decimal_step}
use Rattle.std.proofs.lemmas.List.{take_more_set}
use Rattle.ps_grid.proofs.NameLemmas.{length-decimal-one, length-decimal-more}
use Rattle.ps_grid.proofs.cell.+put_decimal.Goals as goal

pub bounds-out-place : goal.bounds-out-place
bounds-out-place t c = omega (arith, length-decimal-one c.args.row c.if-row-lt10.true)

pub put_decimal-end-requires : goal.put_decimal-end-requires
put_decimal-end-requires t c =
    let more = length-decimal-more c.args.row c.if-row-lt10.false (omega arith) in
    (omega arith, omega arith)

pub bounds-out-end : goal.bounds-out-end
bounds-out-end t c =
    let more = length-decimal-more c.args.row c.if-row-lt10.false (omega arith) in
    omega (arith, c.put_decimal-end.ensures.length)

pub returns-then-row-lt10-clause-digits : goal.returns-then-row-lt10-clause-digits
returns-then-row-lt10-clause-digits t c =
    take_more_set c.args.out.now c.args.place (48 + c.args.row)
    (omega (arith, length-decimal-one c.args.row c.if-row-lt10.true))
    ∙ ap (λ d. take c.args.place c.args.out.now ++ d) (sym (decimal_digit c.args.row c.if-row-lt10.true))

pub returns-then-row-lt10-clause-length : goal.returns-then-row-lt10-clause-length
returns-then-row-lt10-clause-length t c = omega (arith, length-decimal-one c.args.row c.if-row-lt10.true)

pub returns-else-row-lt10-clause-digits : goal.returns-else-row-lt10-clause-digits
returns-else-row-lt10-clause-digits t c =
    let more = length-decimal-more c.args.row c.if-row-lt10.false (omega arith) in
    take_more_set c.put_decimal-end.new.out c.put_decimal-end.result (48 + c.args.row % 10)
    (omega (arith, c.put_decimal-end.ensures.length))
    ∙ ap (λ l. l ++ (48 + c.args.row % 10) ∷ []) c.put_decimal-end.ensures.digits
    ∙ append_assoc (take c.args.place c.args.out.now) (decimal (c.args.row / 10)) ((48 + c.args.row % 10) ∷ [])
    ∙ ap (λ d. take c.args.place c.args.out.now ++ d)
    (sym (decimal_step c.args.row c.if-row-lt10.false (omega arith)))

pub returns-else-row-lt10-clause-length : goal.returns-else-row-lt10-clause-length
returns-else-row-lt10-clause-length t c =
    let more = length-decimal-more c.args.row c.if-row-lt10.false (omega arith) in
    omega (arith, c.put_decimal-end.ensures.length)
