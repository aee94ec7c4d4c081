use Rattle.std.proofs.Common.{◌+◌, ◌*◌, ◌/◌, arith}
use Rattle.ps_index.proofs.PlacesCovered.{IsAt, covers_place-true, covers_place-false}
use Rattle.ps_index.proofs.runs.first_run.Goals as goal

pub returns-then-place-sides : goal.returns-then-place-sides
returns-then-place-sides c = record {
  from = omega (arith);
  to = omega (arith, c.sides_of-sides.ensures.in_grid);
  none_before = λ q from to. covers_place-false _ q (λ (i : IsAt c.args.rect q). omega (arith, from, to));
  some = λ _. omega (arith, c.sides_of-sides.ensures.in_grid);
  top = omega (arith, c.sides_of-sides.ensures.in_grid);
  all = λ q from to. covers_place-true _ q (omega (arith, from, to, c.sides_of-sides.ensures.in_grid));
  after = λ _. covers_place-false _ _
      (λ (i : IsAt c.args.rect (c.sides_of-sides.result.first + c.height.result)).
      omega (arith, c.sides_of-sides.ensures.in_grid));
}

pub returns-then-sides-place : goal.returns-then-sides-place
returns-then-sides-place c = record {
  from = c.requires.place;
  to = omega arith;
  none_before = λ q from to. covers_place-false _ q (λ (i : IsAt c.args.rect q). omega arith);
  some = λ lt. absurd (omega (arith, lt));
  top = omega arith;
  all = λ q from to. absurd (omega (arith, from, to));
  after = λ lt. absurd (omega (arith, lt));
}

pub returns-then-sides : goal.returns-then-sides
returns-then-sides c = record {
  from = omega (arith);
  to = omega (arith, c.sides_of-sides.ensures.in_grid);
  none_before = λ q from to. covers_place-false _ q (λ (i : IsAt c.args.rect q). omega (arith, from, to));
  some = λ _. omega (arith, c.sides_of-sides.ensures.in_grid);
  top = omega (arith, c.sides_of-sides.ensures.in_grid);
  all = λ q from to. covers_place-true _ q (omega (arith, from, to, c.sides_of-sides.ensures.in_grid));
  after = λ _. covers_place-false _ _
      (λ (i : IsAt c.args.rect (c.sides_of-sides.result.last + 1)).
      omega (arith, c.sides_of-sides.ensures.in_grid));
}

pub returns-then-row-sides : goal.returns-then-row-sides
returns-then-row-sides c = record {
  from = omega (arith, c.max.ensures);
  to = omega (arith, c.sides_of-sides.ensures.in_grid, c.max.ensures);
  none_before = λ q from to. covers_place-false _ q
      (λ (i : IsAt c.args.rect q). omega (arith, from, to, c.max.ensures));
  some = λ _. omega (arith, c.sides_of-sides.ensures.in_grid, c.max.ensures);
  top = omega (arith, c.sides_of-sides.ensures.in_grid, c.max.ensures);
  all = λ q from to. covers_place-true _ q (omega (arith, from, to, c.sides_of-sides.ensures.in_grid, c.max.ensures));
  after = λ _. covers_place-false _ _
      (λ (i : IsAt c.args.rect (c.args.place / 1025 * 1025 + c.sides_of-sides.result.bottom + 1)).
      omega (arith, c.sides_of-sides.ensures.in_grid, c.max.ensures));
}

pub returns-else-row-sides : goal.returns-else-row-sides
returns-else-row-sides c = record {
  from = omega (arith);
  to = omega (arith, c.sides_of-sides.ensures.in_grid);
  none_before = λ q from to. covers_place-false _ q (λ (i : IsAt c.args.rect q). omega (arith, from, to));
  some = λ _. omega (arith, c.sides_of-sides.ensures.in_grid);
  top = omega (arith, c.sides_of-sides.ensures.in_grid);
  all = λ q from to. covers_place-true _ q (omega (arith, from, to, c.sides_of-sides.ensures.in_grid));
  after = λ _. covers_place-false _ _
      (λ (i : IsAt c.args.rect ((c.args.place / 1025 + 1) * 1025 + c.sides_of-sides.result.bottom + 1)).
      omega (arith, c.sides_of-sides.ensures.in_grid));
}
