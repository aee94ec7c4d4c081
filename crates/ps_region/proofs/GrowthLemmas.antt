-- The growth of the region, over plain lists.
use Rattle.std.proofs.Common.{◌≡◌, ℕ, ◌+◌, ◌<◌, ◌≤◌, true, ◌⊎◌, ◌||◌, List, []}
use Rattle.std.proofs.Common.{length, sym, ap, ◌∙◌, arith, ⊎_elim, eqb, subst, get_or}
use Rattle.std.proofs.lemmas.Bool.{cases_lt}
use Rattle.std.proofs.lemmas.List.{get_or_append_left, length-append}
use Rattle.std.specs.List.{list_any}
use Rattle.ps_grid.specs.Chains.{References, In, InRegion}
use Rattle.ps_region.specs.Inside.Cells.{with_all}
use Rattle.ps_region.proofs.CellListLemmas.{or_cases, or_true, in-with_all, with_all-prefix, place_of, in-get_or}
use Rattle.ps_grid.proofs.RegionLemmas.{InRegion-touched, InRegion-step, InRegion-least}

-- the members so far: the touched cells are there, all are of the region, and the cells listed for those before
-- `head` are there
pub record Grown (refers : References) (listed : ℕ → List ℕ) (touched : List ℕ) (head : ℕ) (members : List ℕ) : Type
    0 where
  pub walked : head ≤ length members
  pub holds : (c : ℕ) → In touched c → In members c
  pub sound : (c : ℕ) → In members c → InRegion refers touched c
  pub closed : (p : ℕ) → p < head → (c : ℕ) → In (listed (get_or members p 0)) c → In members c

module _ (refers : References) (listed : ℕ → List ℕ) (touched : List ℕ) where
  pub Grown-start : Grown refers listed touched 0 (with_all [] touched)
  Grown-start = record {
    walked = omega arith;
    holds = λ c h. in-with_all [] touched c ∙ h;
    sound = λ c h. InRegion-touched refers touched c (sym (in-with_all [] touched c) ∙ h);
    closed = λ p lt c h. absurd (omega arith);
  }

  pub Grown-step : (head : ℕ) (members : List ℕ)
      → ((c : ℕ) → In (listed (get_or members head 0)) c → (refers c (get_or members head 0) ≡ true) ⊎ In touched c)
      → Grown refers listed touched head members → head < length members
      → Grown refers listed touched (head + 1) (with_all members (listed (get_or members head 0)))
  Grown-step head members extra g lt =
      let d : ℕ = get_or members head 0 in
      let more = with_all-prefix members (listed d) in
      let all : List ℕ = with_all members (listed d) in
      let same : (p : ℕ) → p < length members → get_or all p 0 ≡ get_or members p 0 =
      λ p l. ap (λ xs. get_or xs p 0) more.1 ∙ get_or_append_left members more.0 0 p l in
      let stays : (c : ℕ) → In members c → In all c =
      λ c h. in-with_all members (listed d) c ∙ ap (λ b. b || list_any (eqb c) (listed d)) h in
      record {
        walked = let e = ap length more.1 in let f = length-append members more.0 in omega arith;
        holds = λ c h. stays c (g.holds c h);
        sound = λ c h.
            ⊎_elim
            (λ old. g.sound c old)
            (λ fresh. ⊎_elim
            (λ r. InRegion-step refers touched c d r (g.sound d (in-get_or members head 0 lt)))
            (λ t. InRegion-touched refers touched c t)
            (extra c fresh))
            (or_cases (list_any (eqb c) members) (list_any (eqb c) (listed d))
            (sym (in-with_all members (listed d) c) ∙ h));
        closed = λ p l c h.
            ⊎_elim
            (λ before. stays c (g.closed p before c
            (subst (λ x. In (listed x) c) (same p (let w = g.walked in omega arith)) h)))
            (λ here.
            let at : p ≡ head = omega arith in
            let there : In (listed d) c =
            subst (λ x. In (listed x) c) (same p (omega arith) ∙ ap (λ i. get_or members i 0) at) h in
            in-with_all members (listed d) c
            ∙ (ap (λ b. list_any (eqb c) members || b) there ∙ or_true (list_any (eqb c) members)))
            (cases_lt p head);
      }

  pub Grown-complete : ((c d : ℕ) → refers c d ≡ true → In (listed d) c)
      → (head : ℕ) (members : List ℕ) → Grown refers listed touched head members → length members ≤ head
      → (c : ℕ) → InRegion refers touched c → In members c
  Grown-complete lists head members g le c r =
      InRegion-least refers touched (λ x. In members x) g.holds
      (λ a d ref i.
      let p = place_of members d i in
      g.closed p.0 (let lt = p.1 in omega arith) a (subst (λ x. In (listed x) a) (sym p.2) (lists a d ref)))
      c r
