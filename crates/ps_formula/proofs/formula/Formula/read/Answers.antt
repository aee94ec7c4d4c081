use Rattle.std.proofs.Common.{◌≡◌, ◌≤◌, ◌∙◌, sym, ap, subst, length, arith, inr, Err}
use Rattle.std.proofs.lemmas.Result.{err_from_is_err_and}
use Rattle.ps_grid.specs.declared.refusal.Refusal.TheVariants.{Formula}
use Rattle.ps_tokens.specs.Text.{Spells}
use Rattle.ps_formula.specs.TreeOf.{tree_of}
use Rattle.ps_formula.specs.Canonical.{canon}
use Rattle.ps_formula.specs.Inside.Parts.{in_line}
use Rattle.ps_formula.specs.declared.formula.TheConstants.{LONGEST_TEXT}
use Rattle.ps_formula.proofs.Texts.{no_opening, no_tokens, no_tree, one_tree, found_tree, kept, length-canon}
use Rattle.ps_formula.proofs.Texts.{memory_alone}
use Rattle.ps_formula.proofs.formula.Formula.read.Goals as goal

pub returns-in_default-clause-read : goal.returns-in_default-clause-read
returns-in_default-clause-read c =
    λ t short h fits. absurd (no_opening c.args.bytes.now c.in_default.ensures.none t h)

pub returns-in_default-clause-no_formula : goal.returns-in_default-clause-no_formula
returns-in_default-clause-no_formula c =
    λ is. (c.if-bytes-gt-LONGEST_ENTRY.false, no_opening c.args.bytes.now c.in_default.ensures.none)

pub returns-in_err-found-clause-read : goal.returns-in_err-found-clause-read
returns-in_err-found-clause-read c = λ t short h fits.
    let p = err_from_is_err_and c.from_residual.result c.from_residual.ensures.1 in
    rw (p.1, p.2) (memory_alone c.in_err-found.field-0.0 c.in_err-found.ensures.refused
    (λ is. no_tokens c.args.bytes.now c.in-Some.rest.now c.in-Some.ensures.found
    (c.in_err-found.ensures.formula (ap Err is)) t h))

pub returns-in_err-found-clause-no_formula : goal.returns-in_err-found-clause-no_formula
returns-in_err-found-clause-no_formula c = λ is.
    let p = err_from_is_err_and c.from_residual.result c.from_residual.ensures.1 in
    let refused : c.in_err-found.field-0.0 ≡ Formula = cc (p.1, p.2, is) in (
      c.if-bytes-gt-LONGEST_ENTRY.false,
      no_tokens c.args.bytes.now c.in-Some.rest.now c.in-Some.ensures.found
          (c.in_err-found.ensures.formula (ap Err refused)),
    )

pub returns-in_err-tree-clause-read : goal.returns-in_err-tree-clause-read
returns-in_err-tree-clause-read c = λ t short h fits.
    let p = err_from_is_err_and c.from_residual-in_err-tree.result c.from_residual-in_err-tree.ensures.1 in
    rw (p.1, p.2) (memory_alone c.in_err-tree.field-0.0 c.in_err-tree.ensures.refused
    (λ is. no_tree c.args.bytes.now c.in-Some.rest.now c.deref-tokens.result.now c.in-Some.ensures.found
    (λ us s a. c.deref-tokens.ensures.value ∙ c.in_ok-found.ensures.only us s a)
    (c.in_err-tree.ensures.none (ap Err is)) t h))

pub returns-in_err-tree-clause-no_formula : goal.returns-in_err-tree-clause-no_formula
returns-in_err-tree-clause-no_formula c = λ is.
    let p = err_from_is_err_and c.from_residual-in_err-tree.result c.from_residual-in_err-tree.ensures.1 in
    let refused : c.in_err-tree.field-0.0 ≡ Formula = cc (p.1, p.2, is) in (
      c.if-bytes-gt-LONGEST_ENTRY.false,
      no_tree c.args.bytes.now c.in-Some.rest.now c.deref-tokens.result.now c.in-Some.ensures.found
          (λ us s a. c.deref-tokens.ensures.value ∙ c.in_ok-found.ensures.only us s a)
          (c.in_err-tree.ensures.none (ap Err refused)),
    )

pub returns-then-len-gt-LONGEST_TEXT-clause-read : goal.returns-then-len-gt-LONGEST_TEXT-clause-read
returns-then-len-gt-LONGEST_TEXT-clause-read c = λ t short h fits.
    let spelled = subst (λ v. Spells c.in-Some.rest.now v)
    (sym c.deref-tokens.ensures.value) c.in_ok-found.ensures.spelled in
    let mine = found_tree c.args.bytes.now c.in-Some.rest.now c.deref-tokens.result.now
    (tree_of c.in_ok-tree.tree) c.in-Some.ensures.found spelled c.in_ok-tree.ensures.found in
    let same = one_tree c.args.bytes.now (tree_of c.in_ok-tree.tree) t mine h in
    let long : length
    (canon (tree_of c.in_ok-tree.tree)) ≡ length c.in_ok-text.text.items =
    length-canon c.deref-tokens.result.now
    (tree_of c.in_ok-tree.tree) c.in_ok-text.text.items c.in_ok-tree.ensures.found c.in_ok-text.ensures.text in
    let mine_fits : length (canon (tree_of c.in_ok-tree.tree)) ≤ LONGEST_TEXT = subst
    (λ u. length (canon u) ≤ LONGEST_TEXT) (sym same) fits in
    absurd (omega (arith, long, mine_fits, c.len.ensures, c.if-len-gt-LONGEST_TEXT.true))

pub returns-then-len-gt-LONGEST_TEXT-clause-too_long : goal.returns-then-len-gt-LONGEST_TEXT-clause-too_long
returns-then-len-gt-LONGEST_TEXT-clause-too_long c = λ is.
    let spelled = subst (λ v. Spells c.in-Some.rest.now v)
    (sym c.deref-tokens.ensures.value) c.in_ok-found.ensures.spelled in
    let long : length
    (canon (tree_of c.in_ok-tree.tree)) ≡ length c.in_ok-text.text.items =
    length-canon c.deref-tokens.result.now
    (tree_of c.in_ok-tree.tree) c.in_ok-text.text.items c.in_ok-tree.ensures.found c.in_ok-text.ensures.text in
    inr (
      tree_of c.in_ok-tree.tree,
      found_tree c.args.bytes.now c.in-Some.rest.now c.deref-tokens.result.now
          (tree_of c.in_ok-tree.tree) c.in-Some.ensures.found spelled c.in_ok-tree.ensures.found,
      omega (arith, long, c.len.ensures, c.if-len-gt-LONGEST_TEXT.true),
    )

pub invariant_of-result : goal.invariant_of-result
invariant_of-result c =
    let spelled = subst (λ v. Spells c.in-Some.rest.now v)
    (sym c.deref-tokens.ensures.value) c.in_ok-found.ensures.spelled in
    kept c.in-Some.rest.now c.deref-tokens.result.now
    (tree_of c.in_ok-tree.tree) c.in_ok-text.text.items (in_line c.in_ok-rects.rects)
    spelled c.in_ok-tree.ensures.found c.in_ok-text.ensures.text
    (omega (arith, c.len.ensures, c.if-len-gt-LONGEST_TEXT.false)) c.in_ok-rects.ensures.rects

pub returns-clause-fits : goal.returns-clause-fits
returns-clause-fits c =
    let long : length
    (canon (tree_of c.in_ok-tree.tree)) ≡ length c.in_ok-text.text.items =
    length-canon c.deref-tokens.result.now
    (tree_of c.in_ok-tree.tree) c.in_ok-text.text.items c.in_ok-tree.ensures.found c.in_ok-text.ensures.text in
    omega (arith, long, c.len.ensures, c.if-len-gt-LONGEST_TEXT.false)

pub returns-clause-read : goal.returns-clause-read
returns-clause-read c = λ t short h fits.
    let spelled = subst (λ v. Spells c.in-Some.rest.now v)
    (sym c.deref-tokens.ensures.value) c.in_ok-found.ensures.spelled in
    let mine = found_tree c.args.bytes.now c.in-Some.rest.now c.deref-tokens.result.now
    (tree_of c.in_ok-tree.tree) c.in-Some.ensures.found spelled c.in_ok-tree.ensures.found in
    one_tree c.args.bytes.now (tree_of c.in_ok-tree.tree) t mine h
