-- The patch of a fresh change follows the history that the change was prepared over. The tests use it.
use Rattle.std.proofs.Common.{◌≡◌, ◌≢◌, ℕ, true, false, List, [], ◌∷◌, ◌++◌, length, map, refl, sym, ap, ◌∙◌, subst}
use Rattle.std.proofs.Common.{⊎_elim, length-append, All}
use Rattle.std.specs.Prelude.{if◌then◌else◌}
use Rattle.std.proofs.Math.Path.{fun_ext}
use Rattle.std.proofs.lemmas.Bool.{cases_eq}
use Rattle.std.proofs.lemmas.List.Elements.{All-head, All-tail}
use Rattle.ps_grid.specs.Chains.{In}
use Rattle.ps_grid.proofs.ChainLemmas.{In-cases, In-decided}
use Rattle.ps_eval.specs.Items.{Assignment}
use Rattle.ps_shown.specs.Shown.{with_value}
use Rattle.ps_delta.specs.State.{IsBelow}
use Rattle.ps_delta.specs.Deltas.{Entries, joined_history, state_of}
use Rattle.ps_cells.specs.Settled.{IsSettled}
use Rattle.ps_cells.specs.ChangedCells.{IsChanges}
use Rattle.ps_sheet.specs.Prepared.{IsPrepared, PreparedView, history_after, shown_after, shown_before}
use Rattle.ps_cells.proofs.PutValues.{with_value-here, with_value-there}
use Rattle.ps_face.specs.Legal.{AreShownChanges, Follows}
use Rattle.ps_face.specs.Values.{Changes, overlaid}
use Rattle.ps_face.specs.declared.patch.Note.{Note}
use Rattle.ps_face.proofs.Decided.{value_decided}

module _ (w : Assignment) where
  -- a cell that shows its value in w still does after changes to values of w
  same_after : (changes : Changes) (v : Assignment) (c : ℕ) → All (λ e. e.1 ≡ w e.0) changes → v c ≡ w c
      → overlaid v changes c ≡ w c
  same_after [] v c gives is = is
  same_after (e ∷ changes) v c gives is =
      same_after changes (with_value v e.0 e.1) c (All-tail (λ x. x.1 ≡ w x.0) e changes gives)
      (⊎_elim
      (λ (here : c ≡ e.0). subst (λ q. with_value v e.0 e.1 q ≡ w q) (sym here)
      (with_value-here v e.0 e.1 ∙ All-head (λ x. x.1 ≡ w x.0) e changes gives))
      (λ (there : c ≢ e.0). with_value-there v e.0 c e.1 there ∙ is)
      (cases_eq c e.0))

  -- a cell that is changed shows its value in w
  changed_after : (changes : Changes) (v : Assignment) (c : ℕ) → All (λ e. e.1 ≡ w e.0) changes
      → In (map (λ e. e.0) changes) c → overlaid v changes c ≡ w c
  changed_after [] v c gives i = absurd (let f : false ≡ true = i in cc)
  changed_after (e ∷ changes) v c gives i =
      let rest = All-tail (λ x. x.1 ≡ w x.0) e changes gives in
      ⊎_elim
      (λ (here : c ≡ e.0). same_after changes (with_value v e.0 e.1) c rest
      (subst (λ q. with_value v e.0 e.1 q ≡ w q) (sym here)
      (with_value-here v e.0 e.1 ∙ All-head (λ x. x.1 ≡ w x.0) e changes gives)))
      (λ (there : In (map (λ x. x.0) changes) c). changed_after changes (with_value v e.0 e.1) c rest there)
      (In-cases c e.0 (map (λ x. x.0) changes) i)

  overlaid_all : (v : Assignment) (changes : Changes) → IsChanges v w changes → overlaid v changes ≡ w
  overlaid_all v changes is = fun_ext (λ c. ⊎_elim
      (λ (i : In (map (λ e. e.0) changes) c). changed_after changes v c is.values i)
      (λ (out : ¬ In (map (λ e. e.0) changes) c). same_after changes v c is.values
      (⊎_elim (λ (e : w c ≡ v c). sym e) (λ ne. absurd (out ((is.exact c).1 ne))) (value_decided (w c) (v c))))
      (In-decided (map (λ e. e.0) changes) c))

  pub are_changes : (v : Assignment) (changes : Changes) → IsChanges v w changes → AreShownChanges v w changes
  are_changes v changes is = record {
    ascending = is.ascending;
    exact = is.exact;
    gives = overlaid_all v changes is;
  }

-- the history after a fresh change ends with its delta
pub after_fresh : (p : PreparedView) (d : Entries) → p.fresh ≡ true → d ≡ p.delta
    → history_after p ≡ p.history ++ d ∷ []
after_fresh p d fresh delta =
    ap (λ b. if b then (p.history ++ p.delta ∷ []) else p.history) fresh
    ∙ ap (λ (e : Entries). p.history ++ e ∷ []) (sym delta)

-- LAW: the patch of a fresh change follows the history that the change was prepared over
pub prepared_follows : (p : PreparedView) (n : Note) → IsPrepared p → p.fresh ≡ true → n.number ≡ p.report.version
    → n.delta ≡ p.delta → n.changes ≡ p.changes → Follows p.history n
prepared_follows p n is fresh number delta changes =
    let after : history_after p ≡ p.history ++ p.delta ∷ [] = after_fresh p p.delta fresh refl in
    record {
      number = number ∙ is.version ∙ ap length after ∙ length-append p.history (p.delta ∷ []);
      fresh = subst (λ (d : Entries). ¬ IsBelow (state_of d) (joined_history p.history)) (sym delta) (is.fresh.0 fresh);
      before = shown_before p;
      after = shown_after p;
      settled = is.before;
      settles = subst (λ (h : List Entries). IsSettled (joined_history h) (shown_after p))
          (after ∙ ap (λ (d : Entries). p.history ++ d ∷ []) (sym delta)) is.after;
      changes = subst (λ (cs : Changes). AreShownChanges (shown_before p) (shown_after p) cs) (sym changes)
          (are_changes (shown_after p) (shown_before p) p.changes is.changes);
    }
