use Rattle.std.proofs.Common.{◌≡◌, [], All, List, ap, arith, length, sym, subst, ◌∙◌}
use Rattle.ps_desk.specs.Passes.{PassView}
use Rattle.ps_kept_desk.proofs.NewPasses.{count, first_is, nothing_seen, some_first}
use Rattle.ps_kept_desk.proofs.keeper.DeskKeeper.new.Goals as goal

pub bounds-passes-0 : goal.bounds-passes-0
bounds-passes-0 g c =
    omega (arith, ap length c.requires.passes, count c.args.desk.now, c.seats.ensures.seats, c.seats.ensures.some)

pub unwrap-requires : goal.unwrap-requires
unwrap-requires g c =
    let all : All (λ (p : PassView). p.list ≡ []) c.args.passes.now =
    subst (λ (ps : List PassView). All (λ (p : PassView). p.list ≡ []) ps) (sym c.requires.passes)
    (nothing_seen c.args.desk.now) in
    some_first c.shown.result c.shown.ensures.unknown (ap (λ (p : PassView). p.list) c.index-passes-0.is
    ∙ all 0 c.index-passes-0.result
    (omega (arith, ap length c.requires.passes, count c.args.desk.now, c.seats.ensures.seats, c.seats.ensures.some)))

pub new-requires-clause-shown : goal.new-requires-clause-shown
new-requires-clause-shown g c =
    let all : All (λ (p : PassView). p.list ≡ []) c.args.passes.now =
    subst (λ (ps : List PassView). All (λ (p : PassView). p.list ≡ []) ps) (sym c.requires.passes)
    (nothing_seen c.args.desk.now) in
    first_is c.shown.result c.unwrap.result c.unwrap.ensures c.shown.ensures.shown
    (ap (λ (p : PassView). p.list) c.index-passes-0.is ∙ all 0 c.index-passes-0.result
    (omega (arith, ap length c.requires.passes, count c.args.desk.now, c.seats.ensures.seats, c.seats.ensures.some)))
