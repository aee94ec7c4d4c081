use Rattle.std.proofs.Common.{◌-◌, arith, sym}
use Rattle.ps_index.proofs.ColumnsSorted.{ends_rise}
use Rattle.ps_index.proofs.WalksInOrder.{IsWalk-start, cells_on, heads_on, two_runs}
use Rattle.ps_index.specs.declared.span.Span.{Span}
use Rattle.ps_index.proofs.two_rows.TwoRowReaders.new.Goals as goal

pub invariant_of-result : goal.invariant_of-result
invariant_of-result c =
    let is = c.requires.column in
    let walk = rw (
      sym c.kept_at-at_row.ensures.from,
      sym c.kept_at-at_row.ensures.to,
      sym c.kept_at-above.ensures.from,
      sym c.kept_at-above.ensures.to,
    ) at (IsWalk-start _ _ is.0 is.1 _ _ _ _ is.2 is.3
    (two_runs _ is.0 is.1 _ c.args.key is.4 c.requires.some c.requires.in_grid is.5 c.requires.key_some
    c.requires.key_in_grid)) in
    heads_on _ _ _ _ 0 _ _ _ _ _ _ walk c.head_from-own.ensures c.head_from-upper.ensures

pub returns : goal.returns
returns c =
    let is = c.requires.column in
    let walk = rw (
      sym c.kept_at-at_row.ensures.from,
      sym c.kept_at-at_row.ensures.to,
      sym c.kept_at-above.ensures.from,
      sym c.kept_at-above.ensures.to,
    ) at (IsWalk-start _ _ is.0 is.1 _ _ _ _ is.2 is.3
    (two_runs _ is.0 is.1 _ c.args.key is.4 c.requires.some c.requires.in_grid is.5 c.requires.key_some
    c.requires.key_in_grid)) in
    sym (cells_on _ _ _ _ 0 _ _ _ _ _ _ walk c.head_from-own.ensures c.head_from-upper.ensures)

pub head_from-own-requires-clause-ordered : goal.head_from-own-requires-clause-ordered
head_from-own-requires-clause-ordered c =
    let is = c.requires.column in
    let d : Span = record { from = 0; to = 0; cell = 0 } in
    rw (c.kept_at-at_row.ensures.from, c.kept_at-at_row.ensures.to)
    (ends_rise _ _ is.0 is.2 (c.args.row - 1) c.args.row d (omega arith) c.requires.in_grid)

pub head_from-upper-requires-clause-ordered : goal.head_from-upper-requires-clause-ordered
head_from-upper-requires-clause-ordered c =
    let is = c.requires.column in
    let d : Span = record { from = 0; to = 0; cell = 0 } in
    rw (c.kept_at-above.ensures.from, c.kept_at-above.ensures.to)
    (ends_rise _ _ is.0 is.2 (c.args.key - 1) c.args.key d (omega arith) c.requires.key_in_grid)
