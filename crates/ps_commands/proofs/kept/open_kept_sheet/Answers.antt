use Rattle.std.proofs.Common.{inl, inr, subst, sym}
use Rattle.ps_commands.specs.Kept.{IsInFile}
use Rattle.ps_commands.proofs.kept.open_kept_sheet.Goals as goal

pub returns-in-Err-clause-refused : goal.returns-in-Err-clause-refused
returns-in-Err-clause-refused g c = elim c.in-Err.ensures.refused [
  | inl unusable ↦ inl unusable
  | inr others ↦ elim others [
    | inl busy ↦ inr (inl busy)
    | inr damage ↦ inr (inr (inl damage))
  ]
]

pub returns-clause-refused : goal.returns-clause-refused
returns-clause-refused g c = elim c.with_reason.ensures [
  | inl same ↦ inr (inr (inr (
    c.in-Ok.opened.0.raw,
    (
      c.in-Ok.opened.0.clean,
      c.in-Err-keep_sheet.fault,
      c.in-Ok.ensures.clean,
      c.in-Err-keep_sheet.ensures.refused,
      subst (λ f. IsInFile c.in-Err-keep_sheet.fault f) (sym same) c.in_file-fault.ensures,
    ),
  )))
  | inr unusable ↦ inl unusable
]
