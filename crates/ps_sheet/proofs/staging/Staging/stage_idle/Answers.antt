use Rattle.std.proofs.Common.{◌≡◌, ℕ, ap, ◌∙◌, arith}
use Rattle.ps_cells.specs.declared.tables.Work.{Work}
use Rattle.ps_sheet.specs.Reports.{report_of}
use Rattle.ps_sheet.specs.Staging.{sheet_of}
use Rattle.ps_sheet.specs.declared.sheet.Report.{Report}
use Rattle.ps_sheet.proofs.StagedChanges.{kept_staged_idle, stages_idle}
use Rattle.ps_sheet.proofs.staging.Staging.stage_idle.Goals as goal

-- the report of no work
idle_report : (n : ℕ) (w : Work) → w.evaluated ≡ 0 → w.cyclic ≡ 0 → w.levels ≡ 0
    → report_of n w ≡ record { version = n; evaluated = 0; cyclic = 0; levels = 0 }
idle_report n w no_value no_circle no_level =
    let told : ℕ → ℕ → ℕ → Report =
    λ e c l. record { version = n; evaluated = e; cyclic = c; levels = l } in
    ap (λ e. told e w.cyclic w.levels) no_value
    ∙ (ap (λ c. told 0 c w.levels) no_circle ∙ ap (λ l. told 0 0 l) no_level)

pub invariant_of-self : goal.invariant_of-self
invariant_of-self c =
    let x = c.self.inside in
    let no = c.none.ensures in
    kept_staged_idle x c.args.self.now c.self.view_is c.requires.none c.self.invariant
    (record { delta = c.args.delta; report = c.of-report.result }) c.len.result
    (c.of-report.ensures ∙ idle_report c.len.result c.none.result no.evaluated no.cyclic no.levels)
    (omega (arith, c.len.ensures)) c.requires.below

pub returns-clause-staged : goal.returns-clause-staged
returns-clause-staged c =
    let x = c.self.inside in
    let no = c.none.ensures in
    stages_idle x c.args.self.now c.self.view_is c.requires.none c.self.invariant
    (record { delta = c.args.delta; report = c.of-report.result }) c.len.result
    (c.of-report.ensures ∙ idle_report c.len.result c.none.result no.evaluated no.cyclic no.levels)
    (omega (arith, c.len.ensures)) c.requires.below

pub returns-clause-idle : goal.returns-clause-idle
returns-clause-idle c =
    let no = c.none.ensures in
    record {
      same = ap sheet_of c.self.view_is;
      evaluated = ap (λ (r : Report). r.evaluated) c.of-report.ensures ∙ no.evaluated;
      cyclic = ap (λ (r : Report). r.cyclic) c.of-report.ensures ∙ no.cyclic;
      levels = ap (λ (r : Report). r.levels) c.of-report.ensures ∙ no.levels;
    }
