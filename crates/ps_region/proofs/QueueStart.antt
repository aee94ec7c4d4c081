-- The queue as the walk begins: the formula cells of the region whose count is 0.
use Rattle.std.proofs.Common.{◌≡◌, ℕ, ◌<◌, Bool, true, false, ◌&&◌, List, []}
use Rattle.std.proofs.Common.{length, refl, sym, ap, ◌∙◌, arith, eqb, eqb-true, subst, get_or}
use Rattle.std.specs.List.{All, list_any, IsDistinct, filter}
use Rattle.ps_grid.specs.Chains.{References, In, InRegion}
use Rattle.ps_region.specs.Inside.Cells.{Marked}
use Rattle.ps_region.specs.Inside.Counts.{cells_left}
use Rattle.ps_region.specs.Inside.LevelWalk.{Levelling, Levels, is_frame, is_pending, is_ready}
use Rattle.ps_region.proofs.CellListLemmas.{in-get_or, in-filter, distinct-filter, marked_below}
use Rattle.ps_region.proofs.CountLemmas.{and_true_left, and_true_right}
use Rattle.ps_grid.proofs.RegionLemmas.{InRegion-step}
use Rattle.ps_region.proofs.LevellingLemmas.{Levelling-start, frame_pending, frame_back}

pub members_within : (marks : List Bool) (members : List ℕ) → Marked marks members → All (λ c. c < length marks) members
members_within marks members m k d lt = marked_below marks members m (get_or members k d) (in-get_or members k d lt)

-- the marked cells are closed, where they are those of the region
pub marks_closed : (refers : References) (touched members : List ℕ) (marks : List Bool) → Marked marks members
    → ((c : ℕ) → In members c → InRegion refers touched c) → ((c : ℕ) → InRegion refers touched c → In members c)
    → (c d : ℕ) → refers c d ≡ true → get_or marks d false ≡ true → get_or marks c false ≡ true
marks_closed refers touched members marks m sound complete c d r t =
    m.same c ∙ complete c (InRegion-step refers touched c d r (sound d (sym (m.same d) ∙ t)))

pub starting : (refers : References) (formula was : ℕ → Bool) (marks : List Bool) (members left level order : List ℕ)
    (n : ℕ) → length left ≡ n
    → ((c d : ℕ) → refers c d ≡ true → d < n)
    → ((c d : ℕ) → refers c d ≡ true → formula c ≡ true)
    → ((c d : ℕ) → refers c d ≡ true → get_or marks d false ≡ true → get_or marks c false ≡ true)
    → Marked marks members → length marks ≡ n
    → ((c : ℕ) → get_or marks c false ≡ true
    → get_or left c 0 ≡ cells_left refers (is_pending formula was marks) [] n c)
    → order ≡ filter (is_ready formula left) members
    → ((c : ℕ) → In order c → get_or level c 0 ≡ 1)
    → Levelling refers (is_pending formula was marks) (is_frame formula marks) n 0 0 (length order) 1 left level order
starting refers formula was marks members left level order n size below has closed m long counts is first =
    let parts : (c : ℕ) → In order c → (list_any (eqb c) members && is_ready formula left c) ≡ true =
    λ c i. sym (in-filter (is_ready formula left) members c) ∙ (ap (λ xs. list_any (eqb c) xs) (sym is) ∙ i) in
    let member : (c : ℕ) → In order c → In members c =
    λ c i. and_true_left (list_any (eqb c) members) (is_ready formula left c) (parts c i) in
    let ready : (c : ℕ) → In order c → is_ready formula left c ≡ true =
    λ c i. and_true_right (list_any (eqb c) members) (is_ready formula left c) (parts c i) in
    Levelling-start refers (is_pending formula was marks) (is_frame formula marks) n
    below (frame_pending formula was marks) (frame_back refers formula marks closed has)
    left level order
    (record {
      none_left = λ c i. eqb-true (get_or left c 0) 0
          (and_true_right (formula c) (eqb (get_or left c 0) 0) (ready c i));
      below = λ c i. let b = marked_below marks members m c (member c i) in omega arith;
      once = subst (λ xs. IsDistinct eqb xs) (sym is) (distinct-filter (is_ready formula left) members m.once);
    })
    (λ c f. counts c (and_true_left (get_or marks c false) (formula c) f))
    (λ c f z.
    let i : In members c = sym (m.same c) ∙ and_true_left (get_or marks c false) (formula c) f in
    let h : formula c ≡ true = and_true_right (get_or marks c false) (formula c) f in
    subst (λ xs. In xs c) (sym is) (in-filter (is_ready formula left) members c ∙ rw (i, h, z) refl))
    (λ c i.
    let h : formula c ≡ true = and_true_left (formula c) (eqb (get_or left c 0) 0) (ready c i) in
    let t : get_or marks c false ≡ true = m.same c ∙ member c i in
    rw (t, h) refl)
    first

-- no marks
pub Marked-none : Marked [] []
unfolding IsDistinct
Marked-none = record { same = λ c. refl; once = tt }

-- no levels
pub Levels-none : (order level : List ℕ) → Levels [] order level
Levels-none order level = record {
  first = refl;
  rises = λ j lt. absurd (omega arith);
  inside = λ j lt. absurd (omega arith);
  each = λ j q lt lo hi. absurd (omega arith);
}
