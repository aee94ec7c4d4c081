use Rattle.std.proofs.Common.{◌≡◌, ◌<◌, ◌||◌, ℕ, [], ◌∷◌, length, sym, ap, ◌∙◌, eqb, arith}
use Rattle.std.specs.List.{list_any}
use Rattle.ps_region.specs.Listed.{listed}
use Rattle.ps_region.proofs.ListedLemmas.{listed_is, walks_listed}
use Rattle.ps_cells.specs.Inside.Steps.{flag_at}
use Rattle.ps_cells.proofs.FlagTables.{flags_pushed, flags_start}
use Rattle.ps_cells.proofs.walk.flag_dependents.Goals as goal

pub returns-in-Nobody : goal.returns-in-Nobody
returns-in-Nobody c = record {
  flagged = λ q. flags_start (flag_at c.args.flags.now) q
      ∙ ap (λ xs. flag_at c.args.flags.now q || list_any (eqb q) xs)
      (listed_is c.args.index.now c.args.cell [] (sym (c.readers.ensures.nobody c.in-Nobody.is)));
}

pub returns-in-One : goal.returns-in-One
returns-in-One c =
    let flags = c.args.flags.now in
    let e = c.in-One.reader in
    let is = c.index.ensures.index in
    let low : c.index.result < length flags =
    (let small = c.index.ensures.in_grid in let whole = c.requires.whole in omega (arith, small, whole)) in
    let here : c.index.result ∷ [] ≡ listed c.args.index.now c.args.cell =
    ap (λ (q : ℕ). q ∷ []) is
    ∙ listed_is c.args.index.now c.args.cell (e ∷ []) (sym (c.readers.ensures.one e c.in-One.is))
    in
    record {
      flagged = λ q. flags_pushed (flag_at flags) flags [] c.index.result low (flags_start (flag_at flags)) q
          ∙ ap (λ xs. flag_at flags q || list_any (eqb q) xs) here;
    }

pub returns-in-Row : goal.returns-in-Row
returns-in-Row c = record {
  flagged = c.flag_each.ensures.flagged (listed c.args.index.now c.args.cell)
      (walks_listed c.args.index.now c.args.cell (c.readers.ensures.row c.in-Row.walk c.in-Row.is));
}

pub returns-in-TwoRows : goal.returns-in-TwoRows
returns-in-TwoRows c = record {
  flagged = c.flag_each-in-TwoRows.ensures.flagged (listed c.args.index.now c.args.cell)
      (walks_listed c.args.index.now c.args.cell (c.readers.ensures.two_rows c.in-TwoRows.walk c.in-TwoRows.is));
}

pub returns-in-Several : goal.returns-in-Several
returns-in-Several c = record {
  flagged = c.flag_each-in-Several.ensures.flagged (listed c.args.index.now c.args.cell)
      (walks_listed c.args.index.now c.args.cell c.dependents.ensures.list);
}
