-- The steps of `release`, over plain lists.
use Rattle.std.proofs.Common.{◌≡◌, ◌≢◌, ℕ, ◌+◌, ◌-◌, ◌<◌, Bool, true, false, ◌&&◌}
use Rattle.std.proofs.Common.{◌||◌, inl, inr, List, [], ◌∷◌, ◌++◌, length, refl, sym, ap, ◌∙◌, arith, ⊎_elim, eqb}
use Rattle.std.proofs.Common.{subst, get_or, set}
use Rattle.std.proofs.lemmas.Bool.{cases_eq}
use Rattle.std.proofs.lemmas.Bool.Decides.{nat_tests}
use Rattle.std.proofs.lemmas.List.{get_or-set_same, get_or-set_other, append-nil, append_assoc, length-set}
use Rattle.std.proofs.lemmas.Cmp.{nat_eq_equiv}
use Rattle.std.proofs.lemmas.Map.Keys.{IsDistinct-push}
use Rattle.std.specs.List.{list_any}
use Rattle.ps_grid.specs.Chains.{References, In}
use Rattle.ps_region.specs.Inside.Counts.{as_one, Queued, Released}
use Rattle.ps_region.proofs.CellListLemmas.{bool_cases, any-append, in-push_same, in-push_other, in-push_old}
use Rattle.ps_region.proofs.CellListLemmas.{in-push_cases}

pub and_false : (a : Bool) → (a && false) ≡ false
and_false true = refl
and_false false = refl

-- what is in a list is in one that goes on
pub in-grows : (xs ys more : List ℕ) → ys ≡ xs ++ more → (c : ℕ) → In xs c → In ys c
in-grows xs ys more e c h = rw e (any-append c xs more ∙ ap (λ b. b || list_any (eqb c) more) h)

module _ (refers : References) (d k : ℕ) where
  pub Released-start : (left level order : List ℕ) → Queued left order
      → Released refers d k [] left level order left level order
  Released-start left level order q = record {
    queued = q;
    counted = λ c. omega arith;
    grows = ([], sym (append-nil order));
    fresh = λ c h. inl h;
    kept = λ c h. refl;
    found = λ c h r z. absurd (let f : false ≡ true = h in cc);
  }

  pub Released-skip : (walked left level order left2 level2 order2 : List ℕ) (e : ℕ)
      → Released refers d k walked left level order left2 level2 order2
      → refers e d ≡ false
      → Released refers d k (walked ++ e ∷ []) left level order left2 level2 order2
  Released-skip walked left level order left2 level2 order2 e rel no_ref = record {
    queued = rel.queued;
    counted = λ c.
        ⊎_elim
        (λ same. let r : refers c d ≡ false = subst (λ x. refers x d ≡ false) (sym same) no_ref in
        let o = rw (r, and_false (list_any (eqb c) walked)) at (rel.counted c) in
        rw (r, and_false (list_any (eqb c) (walked ++ e ∷ []))) o)
        (λ ne. rw (in-push_other walked c e ne) (rel.counted c))
        (cases_eq c e);
    grows = rel.grows;
    fresh = rel.fresh;
    kept = rel.kept;
    found = λ c h r z.
        ⊎_elim
        (λ old. rel.found c old r z)
        (λ eq. absurd (let f : true ≡ false = sym r ∙ subst (λ x. refers x d ≡ false) (sym eq) no_ref in cc))
        (in-push_cases walked c e h);
  }

  -- e refers to d, and has a count of v + 1; where v is 0 it goes to the queue's end
  pub Released-more : (walked left level order left2 level2 order2 : List ℕ) (e v : ℕ)
      → Released refers d k walked left level order left2 level2 order2
      → refers e d ≡ true → list_any (eqb e) walked ≡ false → e < length left2 → length left2 ≡ length level2
      → get_or left2 e 0 ≡ v + 1
      → 0 < v
      → Released refers d k (walked ++ e ∷ []) left level order (set left2 e v) level2 order2
  Released-more walked left level order left2 level2 order2 e v rel ref new lt long was some =
      let other : (c : ℕ) → c ≢ e → get_or (set left2 e v) c 0 ≡ get_or left2 c 0 =
      λ c ne. get_or-set_other left2 e c v 0 ne in
      let here : get_or (set left2 e v) e 0 ≡ v = get_or-set_same left2 e v 0 lt in
      let apart : (c : ℕ) → get_or left2 c 0 ≡ 0 → c ≢ e =
      λ c z eq. (let w : get_or left2 c 0 ≡ v + 1 = subst (λ x. get_or left2 x 0 ≡ v + 1) (sym eq) was in
      omega arith) in
      record {
        queued = record {
          none_left = λ c h. other c (apart c (rel.queued.none_left c h)) ∙ rel.queued.none_left c h;
          below = λ c h. rw (length-set left2 e v) (rel.queued.below c h);
          once = rel.queued.once;
        };
        counted = λ c.
            ⊎_elim
            (λ eq. subst (λ x. get_or left x 0 ≡ get_or (set left2 e v) x 0
            + as_one (list_any (eqb x) (walked ++ e ∷ []) && refers x d)) (sym eq)
            (let o = rw (new, was) at (rel.counted e) in rw (here, in-push_same walked e, ref) (omega arith)))
            (λ ne. rw (other c ne, in-push_other walked c e ne) (rel.counted c))
            (cases_eq c e);
        grows = rel.grows;
        fresh = rel.fresh;
        kept = rel.kept;
        found = λ c h r z.
            ⊎_elim
            (λ eq. absurd (let w : get_or (set left2 e v) c 0 ≡ v =
            subst (λ x. get_or (set left2 e v) x 0 ≡ v) (sym eq) here in omega arith))
            (λ ne. rel.found c (sym (in-push_other walked c e ne) ∙ h) r (sym (other c ne) ∙ z))
            (cases_eq c e);
      }

  pub Released-last : (walked left level order left2 level2 order2 : List ℕ) (e : ℕ)
      → Released refers d k walked left level order left2 level2 order2
      → refers e d ≡ true → list_any (eqb e) walked ≡ false → e < length left2 → length left2 ≡ length level2
      → get_or left2 e 0 ≡ 1
      → Released refers d k (walked ++ e ∷ []) left level order (set left2 e 0) (set level2 e k) (order2 ++ e ∷ [])
  Released-last walked left level order left2 level2 order2 e rel ref new lt long was =
      let other : (c : ℕ) → c ≢ e → get_or (set left2 e 0) c 0 ≡ get_or left2 c 0 =
      λ c ne. get_or-set_other left2 e c 0 0 ne in
      let here : get_or (set left2 e 0) e 0 ≡ 0 = get_or-set_same left2 e 0 0 lt in
      let other_level : (c : ℕ) → c ≢ e → get_or (set level2 e k) c 0 ≡ get_or level2 c 0 =
      λ c ne. get_or-set_other level2 e c k 0 ne in
      let here_level : get_or (set level2 e k) e 0 ≡ k = get_or-set_same level2 e k 0 (omega arith) in
      let apart : (c : ℕ) → In order2 c → c ≢ e =
      λ c i eq. (let z = rel.queued.none_left c i in let w : get_or left2 c 0 ≡ 1 =
      subst (λ x. get_or left2 x 0 ≡ 1) (sym eq) was in omega arith) in
      let absent : list_any (eqb e) order2 ≡ false =
      ⊎_elim (λ i. absurd (apart e i refl)) (λ f. f) (bool_cases (list_any (eqb e) order2)) in
      record {
        queued = record {
          none_left = λ c h. ⊎_elim
              (λ old. other c (apart c old) ∙ rel.queued.none_left c old)
              (λ eq. subst (λ x. get_or (set left2 e 0) x 0 ≡ 0) (sym eq) here)
              (in-push_cases order2 c e h);
          below = λ c h. rw (length-set left2 e 0) (⊎_elim
              (λ old. rel.queued.below c old)
              (λ eq. subst (λ x. x < length left2) (sym eq) lt)
              (in-push_cases order2 c e h));
          once = IsDistinct-push nat_eq_equiv order2 e rel.queued.once absent;
        };
        counted = λ c.
            ⊎_elim
            (λ eq. subst (λ x. get_or left x 0 ≡ get_or (set left2 e 0) x 0
            + as_one (list_any (eqb x) (walked ++ e ∷ []) && refers x d)) (sym eq)
            (let o = rw (new, was) at (rel.counted e) in rw (here, in-push_same walked e, ref) (omega arith)))
            (λ ne. rw (other c ne, in-push_other walked c e ne) (rel.counted c))
            (cases_eq c e);
        grows = (rel.grows.0 ++ e ∷ [], ap (λ xs. xs ++ e ∷ []) rel.grows.1 ∙ append_assoc order rel.grows.0 (e ∷ []));
        fresh = λ c h. ⊎_elim
            (λ old. ⊎_elim
            (λ o. inl o)
            (λ n. inr (n.0, other_level c (apart c old) ∙ n.1))
            (rel.fresh c old))
            (λ eq. inr (
              subst (λ x. refers x d ≡ true) (sym eq) ref,
              subst (λ x. get_or (set level2 e k) x 0 ≡ k) (sym eq) here_level,
            ))
            (in-push_cases order2 c e h);
        kept = λ c h. other_level c (apart c (in-grows order order2 rel.grows.0 rel.grows.1 c h)) ∙ rel.kept c h;
        found = λ c h r z.
            ⊎_elim
            (λ eq. subst (λ x. In (order2 ++ e ∷ []) x) (sym eq) (in-push_same order2 e))
            (λ ne. in-push_old order2 c e
            (rel.found c (sym (in-push_other walked c e ne) ∙ h) r (sym (other c ne) ∙ z)))
            (cases_eq c e);
      }

  -- by the clauses of `lower`
  pub Released-lower : (walked left level order left2 level2 order2 left3 level3 order3 : List ℕ) (e : ℕ)
      → Released refers d k walked left level order left2 level2 order2
      → refers e d ≡ true → list_any (eqb e) walked ≡ false → e < length left2 → length left2 ≡ length level2
      → 0 < get_or left2 e 0
      → left3 ≡ set left2 e (get_or left2 e 0 - 1)
      → (get_or left2 e 0 ≢ 1 → (level3 ≡ level2) × (order3 ≡ order2))
      → (get_or left2 e 0 ≡ 1 → (level3 ≡ set level2 e k) × (order3 ≡ order2 ++ e ∷ []))
      → Released refers d k (walked ++ e ∷ []) left level order left3 level3 order3
  Released-lower walked left level order left2 level2 order2 left3 level3 order3 e rel ref new lt long some lowered
      more last =
      ⊎_elim
      (λ one.
      let l = last one in
      let z : get_or left2 e 0 - 1 ≡ 0 = omega arith in
      let lz : left3 ≡ set left2 e 0 = lowered ∙ ap (λ v. set left2 e v) z in
      rw (lz, l.0, l.1) (Released-last walked left level order left2 level2 order2 e rel ref new lt long one))
      (λ not_one.
      let m = more not_one in
      rw (lowered, m.0, m.1)
      (Released-more walked left level order left2 level2 order2 e (get_or left2 e 0 - 1) rel ref new lt long
      (omega arith) (omega arith)))
      (cases_eq (get_or left2 e 0) 1)

  -- those of one cell, and then of another
  pub Released-both : (left level order left2 level2 order2 left3 level3 order3 : List ℕ) (e f : ℕ) → e ≢ f
      → Released refers d k (e ∷ []) left level order left2 level2 order2
      → Released refers d k (f ∷ []) left2 level2 order2 left3 level3 order3
      → Released refers d k (e ∷ f ∷ []) left level order left3 level3 order3
  Released-both left level order left2 level2 order2 left3 level3 order3 e f apart one two =
      let before : (c : ℕ) → In order2 c → In order3 c =
      in-grows order2 order3 two.grows.0 two.grows.1 in
      record {
        queued = two.queued;
        counted = λ c. ⊎_elim
            (λ at. let other : eqb c f ≡ false = other_than c f (λ same. apart (sym at ∙ same)) in
            let here : eqb c e ≡ true = same_as c e at in
            let a = rw here at (one.counted c) in
            let b = rw other at (two.counted c) in
            rw here (omega arith))
            (λ ne. let not_e : eqb c e ≡ false = other_than c e ne in
            let a = rw not_e at (one.counted c) in
            let b = two.counted c in
            rw not_e (omega arith))
            (cases_eq c e);
        grows = (
          one.grows.0 ++ two.grows.0,
          two.grows.1 ∙ ap (λ xs. xs ++ two.grows.0) one.grows.1 ∙ append_assoc order one.grows.0 two.grows.0,
        );
        fresh = λ c h. ⊎_elim
            (λ old. ⊎_elim
            (λ o. inl o)
            (λ n. inr (n.0, two.kept c old ∙ n.1))
            (one.fresh c old))
            (λ n. inr n)
            (two.fresh c h);
        kept = λ c h. two.kept c (in-grows order order2 one.grows.0 one.grows.1 c h) ∙ one.kept c h;
        found = λ c h r z. ⊎_elim
            (λ at. let other : eqb c f ≡ false = other_than c f (λ same. apart (sym at ∙ same)) in
            let here : eqb c e ≡ true = same_as c e at in
            let b = rw other at (two.counted c) in
            before c (one.found c (rw here refl) r (omega arith)))
            (λ ne. let not_e : eqb c e ≡ false = other_than c e ne in
            two.found c (rw not_e at h) r z)
            (cases_eq c e);
      }
    where
      other_than : (c x : ℕ) → c ≢ x → eqb c x ≡ false
      other_than c x ne = grind (arith, nat_tests, ne)

      same_as : (c x : ℕ) → c ≡ x → eqb c x ≡ true
      same_as c x e = grind (arith, nat_tests, e)
