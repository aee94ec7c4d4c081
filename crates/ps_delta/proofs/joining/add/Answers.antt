use Rattle.std.proofs.Common.{◌≡◌, ◌<◌, ◌-◌, ◌∙◌, ◌∷◌, [], ◌++◌, ℕ, length, ap, sym, arith, true≢false, eq-eqb, eqb→eq}
use Rattle.std.proofs.lemmas.List.{get_or_default}
use Rattle.ps_lattice.proofs.Rising.{to_T}
use Rattle.ps_delta.specs.declared.cell_state.CellState.{CellState}
use Rattle.ps_delta.proofs.JoiningLemmas.{joined_there, kept_there, joined_after, kept_after}
use Rattle.ps_delta.proofs.JoiningLemmas.{EndsApart, none_apart, last_apart}
use Rattle.ps_delta.proofs.joining.add.Goals.{
  else-count-gt0-via-then-count-gt0+else-eq,
  else-count-gt0-via-else-count-gt0,
}
use Rattle.ps_delta.proofs.joining.add.Goals as goal

pub returns-then-eq-clause-joined : goal.returns-then-eq-clause-joined
returns-then-eq-clause-joined c =
    let within : c.len-count.result - 1 < length c.args.cells.now.items = omega
    (arith, c.if-count-gt0.true, c.len-count.ensures) in
    let same : c.index_mut.result.now.0 ≡ c.args.entry.now.0 =
    ap (λ (b : ℕ × CellState). b.0) (c.index_mut.ensures.value
    ∙ get_or_default c.args.cells.now.items _ c.index_mut.result.now c.index.result.now within
    ∙ sym c.index.ensures)
    ∙ eqb→eq _ _ (to_T _ (sym c.eq.ensures ∙ c.if-eq.true)) in
    joined_there _ c.args.entry.now c.requires.cells _ _ _ within c.index_mut.ensures.value c.in_ok-join.ensures.ok
    same

pub returns-then-eq-clause-cells : goal.returns-then-eq-clause-cells
returns-then-eq-clause-cells c =
    let within : c.len-count.result - 1 < length c.args.cells.now.items = omega
    (arith, c.if-count-gt0.true, c.len-count.ensures) in
    kept_there _ c.args.entry.now c.requires.cells _ _ _ within c.index_mut.ensures.value c.in_ok-join.ensures.ok

-- the last cell, if there is one, is another one
apart : (c : goal.In_ok-push) → EndsApart c.args.cells.now.items c.args.entry.now.0
apart c = elim c.else-count-gt0.branch [
  | else-count-gt0-via-then-count-gt0+else-eq w ↦
      last_apart _ _ _ _ (omega (arith, w.if-count-gt0.true, c.len-count.ensures)) w.index.ensures
      (λ same. true≢false (sym (w.eq.ensures ∙ eq-eqb _ _ same) ∙ w.if-eq.false))
  | else-count-gt0-via-else-count-gt0 w ↦ none_apart _ _ (omega (arith, w.if-count-gt0.false, c.len-count.ensures))
]

pub returns-clause-joined : goal.returns-clause-joined
returns-clause-joined c =
    joined_after _ _ _ c.requires.cells c.requires.entry c.requires.last (apart c)
    (c.in_ok-push.ensures.items ∙ ap (λ s. c.args.cells.now.items ++ (c.args.entry.now.0, s) ∷ [])
    c.in_ok-twin.ensures.equal)

pub returns-clause-cells : goal.returns-clause-cells
returns-clause-cells c =
    kept_after _ _ _ c.requires.cells c.requires.entry c.requires.last (apart c)
    (c.in_ok-push.ensures.items ∙ ap (λ s. c.args.cells.now.items ++ (c.args.entry.now.0, s) ∷ [])
    c.in_ok-twin.ensures.equal)
