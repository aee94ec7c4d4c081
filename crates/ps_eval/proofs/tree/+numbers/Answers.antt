use Rattle.std.proofs.Common.{◌≡◌, ◌+◌, ◌∷◌, [], ◌++◌, map, take, ap, refl, sym, ◌∙◌, subst, arith}
use Rattle.std.proofs.lemmas.List.{take_more}
use Rattle.ps_formula.specs.Tree.{in_row}
use Rattle.ps_formula.specs.TreeOf.{item_of}
use Rattle.ps_tokens.specs.declared.token.Function.TheVariants.{If, Mod, Quotient, Abs, Not, True, False}
use Rattle.ps_eval.specs.Value.{items_of, values_of}
use Rattle.ps_eval.specs.Summarized.{Judges, SummarizesArguments}
use Rattle.ps_eval.proofs.CallLemmas.{items_of-push, values_of-push, if_many, fewer_than_two, more_than_two}
use Rattle.ps_eval.proofs.CallLemmas.{more_than_one, more_than_none}
use Rattle.ps_eval.proofs.tree.+numbers.Goals as goal

pub absolute_of-returns-in_default-2 : goal.absolute_of-returns-in_default-2
absolute_of-returns-in_default-2 g t c =
    more_than_one Abs (λ items values m n. refl) c.args.arguments.now (g.K.Look.value_at c.args.look.now) (omega arith)

pub negation_of-returns-in_default-2 : goal.negation_of-returns-in_default-2
negation_of-returns-in_default-2 g t c =
    more_than_one Not (λ items values m n. refl) c.args.arguments.now (g.K.Look.value_at c.args.look.now) (omega arith)

pub choice-returns-in_default : goal.choice-returns-in_default
choice-returns-in_default g t c =
    fewer_than_two If (λ items. refl) (λ items m. refl)
    c.args.arguments.now (g.K.Look.value_at c.args.look.now) (omega arith)

pub choice-returns-in_default-2 : goal.choice-returns-in_default-2
choice-returns-in_default-2 g t c = if_many c.args.arguments.now (g.K.Look.value_at c.args.look.now) (omega arith)

pub modulo_of-returns-in_default : goal.modulo_of-returns-in_default
modulo_of-returns-in_default g t c =
    fewer_than_two Mod (λ items. refl) (λ items m. refl)
    c.args.arguments.now (g.K.Look.value_at c.args.look.now) (omega arith)

pub modulo_of-returns-in_default-2 : goal.modulo_of-returns-in_default-2
modulo_of-returns-in_default-2 g t c =
    more_than_two Mod (λ items values m n k. refl)
    c.args.arguments.now (g.K.Look.value_at c.args.look.now) (omega arith)

pub quotient_of-returns-in_default : goal.quotient_of-returns-in_default
quotient_of-returns-in_default g t c =
    fewer_than_two Quotient (λ items. refl) (λ items m. refl)
    c.args.arguments.now (g.K.Look.value_at c.args.look.now) (omega arith)

pub quotient_of-returns-in_default-2 : goal.quotient_of-returns-in_default-2
quotient_of-returns-in_default-2 g t c =
    more_than_two Quotient (λ items values m n k. refl)
    c.args.arguments.now (g.K.Look.value_at c.args.look.now) (omega arith)

pub value_of_call-returns-in_default : goal.value_of_call-returns-in_default
value_of_call-returns-in_default g t c =
    more_than_none c.args.function True c.in-True.is (λ items values m. refl) c.args.arguments.now
    (g.K.Look.value_at c.args.look.now) (omega arith)

pub value_of_call-returns-in_default-arguments : goal.value_of_call-returns-in_default-arguments
value_of_call-returns-in_default-arguments g t c =
    more_than_none c.args.function False c.in-False.is (λ items values m. refl) c.args.arguments.now
    (g.K.Look.value_at c.args.look.now) (omega arith)

pub items-loop-argument-preserved : goal.items-loop-argument-preserved
items-loop-argument-preserved g t c =
    let xs = c.args.arguments.now in
    let v = g.K.Look.value_at c.args.look.now in
    let i = c.loop-argument.argument-index in
    let x = c.argument-item.result in
    let before = items_of (in_row (map item_of (take i xs))) v in
    let more : take (i + 1) xs ≡ take i xs ++ x ∷ [] = take_more xs i x (omega arith)
    ∙ ap (λ y. take i xs ++ y ∷ []) (sym c.argument-item.is) in
    let items = ap (λ ys. items_of (in_row (map item_of ys)) v) more ∙ items_of-push (take i xs) x v in
    let few = c.items_of_one.ensures.count in
    let fewer = c.loop-argument.invariant.1 in
    let one_more = c.join.ensures.count in (
      subst (λ ns. SummarizesArguments ns c.join.new.self) (sym items)
          (c.join.ensures.items before _ c.loop-argument.invariant.0 c.items_of_one.ensures.items),
      omega arith,
    )

pub operands-loop-argument-preserved : goal.operands-loop-argument-preserved
operands-loop-argument-preserved g t c =
    let xs = c.args.arguments.now in
    let v = g.K.Look.value_at c.args.look.now in
    let i = c.loop-argument.argument-index in
    let x = c.argument-item.result in
    let before = values_of (in_row (map item_of (take i xs))) v in
    let more : take (i + 1) xs ≡ take i xs ++ x ∷ [] = take_more xs i x (omega arith)
    ∙ ap (λ y. take i xs ++ y ∷ []) (sym c.argument-item.is) in
    let values = ap (λ ys. values_of (in_row (map item_of ys)) v) more ∙ values_of-push (take i xs) x v
    ∙ ap (λ n. before ++ n ∷ []) (sym c.operand.ensures) in
    subst (λ ns. Judges ns c.take.new.self) (sym values) (c.take.ensures before c.loop-argument.invariant)
