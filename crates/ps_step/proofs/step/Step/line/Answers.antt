use Rattle.std.proofs.Common.{◌≡◌, ◌∙◌, ℕ, List, [], ◌∷◌, ap, refl, sym, true≢false}
use Rattle.std.proofs.lemmas.Result.{IfOk-weaker}
use Rattle.ps_step.specs.Steps.{even_text, step_text, uneven_text}
use Rattle.ps_step.proofs.step.Step.line.Goals as goal

even : (from to : ℕ) (cells : List ℕ) → cells ≡ [] → even_text from to ≡ step_text from to cells
even from to [] is = refl
even from to (cell ∷ cells) is = cc

uneven : (from to : ℕ) (cells : List ℕ) → ¬ (cells ≡ []) → uneven_text cells ≡ step_text from to cells
uneven from to [] some = absurd (some refl)
uneven from to (cell ∷ cells) some = refl

pub returns-then-is_even : goal.returns-then-is_even
returns-then-is_even c =
    IfOk-weaker c.even_line.result _ _ (λ line is. is ∙ even _ _ _ (c.is_even.ensures.0 c.if-is_even.true))
    c.even_line.ensures

pub returns-else-is_even : goal.returns-else-is_even
returns-else-is_even c =
    IfOk-weaker c.uneven_line.result _ _
    (λ line is. is ∙ ap uneven_text c.deref.ensures.value
    ∙ uneven _ _ _ (λ none. true≢false (sym (c.is_even.ensures.1 none) ∙ c.if-is_even.false)))
    c.uneven_line.ensures
