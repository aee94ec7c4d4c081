-- The counts that grow with the region, and with the cyclic cells outside it.
use Rattle.std.proofs.Common.{◌≡◌, ◌≢◌, ℕ, suc, zero, ◌+◌, ◌<◌, ◌≤◌, Bool, true, false, cond, ◌&&◌, List}
use Rattle.std.proofs.Common.{[], ◌∷◌, ◌++◌, length, refl, sym, ap, ◌∙◌, arith, ⊎_elim, eqb, subst, get_or, set, take}
use Rattle.std.proofs.Common.{eqb-true, not, ◌==◌}
use Rattle.std.proofs.lemmas.Bool.{cases_eq}
use Rattle.std.proofs.lemmas.List.{get_or-set_same, get_or-set_other, take_more}
use Rattle.std.specs.List.{list_any, IsDistinct}
use Rattle.ps_grid.specs.Chains.{References, In}
use Rattle.ps_region.specs.Inside.Cells.{Marked, with_all}
use Rattle.ps_region.specs.Inside.Counts.{as_one, count_below, waiting, cells_left, is_in, is_walked, counted_in}
use Rattle.ps_region.specs.Inside.LevelWalk.{is_pending}
use Rattle.ps_region.specs.Inside.Touched.{not_plain}
use Rattle.ps_region.proofs.CellListLemmas.{bool_cases, or_cases, in-push_same, in-push_other, in-take_apart}
use Rattle.ps_region.proofs.CellListLemmas.{with_all-prefix}
use Rattle.ps_region.proofs.CountLemmas.{count_below-same, count_below-clear, and_false}

pub count_below-zero : (p : ℕ → Bool) (n : ℕ) → ((k : ℕ) → p k ≡ false) → count_below p n ≡ 0
unfolding count_below
count_below-zero p zero none = refl
count_below-zero p (suc n) none = rw (none n) (let ih = count_below-zero p n none in omega arith)

-- where one below n doesn't pass, fewer than n pass
pub count_below-lt : (p : ℕ → Bool) (n h : ℕ) → h < n → p h ≡ false → count_below p n < n
unfolding count_below
count_below-lt p zero h lt off = absurd (omega arith)
count_below-lt p (suc n) h lt off =
    ⊎_elim
    (λ (e : n ≡ h). let here : p n ≡ false = subst (λ x. p x ≡ false) (sym e) off in
    let le = most p n in rw here (omega arith))
    (λ (ne : n ≢ h).
    let ih = count_below-lt p n h (omega arith) off in
    ⊎_elim (λ (t : p n ≡ true). rw t (omega arith)) (λ (f : p n ≡ false). rw f (omega arith)) (bool_cases (p n)))
    (cases_eq n h)
  where
    most : (p : ℕ → Bool) (n : ℕ) → count_below p n ≤ n
    most p zero = omega arith
    most p (suc n) =
        let ih = most p n in
        ⊎_elim (λ (t : p n ≡ true). rw t (omega arith)) (λ (f : p n ≡ false). rw f (omega arith)) (bool_cases (p n))

pub cells_left-same : (refers : References) (p p2 : ℕ → Bool) (n q : ℕ) → ((k : ℕ) → p k ≡ p2 k)
    → cells_left refers p [] n q ≡ cells_left refers p2 [] n q
cells_left-same refers p p2 n q same =
    count_below-same (λ d. refers q d && waiting p [] d) (λ d. refers q d && waiting p2 [] d) n
    (λ k lt. ap (λ b. refers q k && (b && true)) (same k))

pub cells_left-lt : (refers : References) (p : ℕ → Bool) (n q h : ℕ) → h < n → p h ≡ false
    → cells_left refers p [] n q < n
cells_left-lt refers p n q h lt off =
    count_below-lt (λ d. refers q d && waiting p [] d) n h lt
    (ap (λ b. refers q h && (b && true)) off ∙ and_false (refers q h))

-- one more cell is counted
pub cells_left-add : (refers : References) (p p2 : ℕ → Bool) (n q h : ℕ) → h < n → p h ≡ false → p2 h ≡ true
    → ((k : ℕ) → k ≢ h → p2 k ≡ p k)
    → cells_left refers p2 [] n q ≡ cells_left refers p [] n q + as_one (refers q h)
cells_left-add refers p p2 n q h lt off on same =
    ⊎_elim
    (λ (r : refers q h ≡ true).
    let c = count_below-clear (λ d. refers q d && waiting p2 [] d) (λ d. refers q d && waiting p [] d) h n lt
    (ap (λ b. refers q h && (b && true)) on ∙ ap (λ b. b && true) r)
    (ap (λ b. refers q h && (b && true)) off ∙ and_false (refers q h))
    (λ k ne. ap (λ b. refers q k && (b && true)) (same k ne)) in
    c ∙ ap (λ b. cells_left refers p [] n q + as_one b) (sym r))
    (λ (r : refers q h ≡ false).
    let c = count_below-same (λ d. refers q d && waiting p2 [] d) (λ d. refers q d && waiting p [] d) n
    (λ k l. ⊎_elim
    (λ (e : k ≡ h). subst (λ x. (refers q x && waiting p2 [] x) ≡ (refers q x && waiting p [] x)) (sym e)
    (ap (λ b. b && waiting p2 [] h) r ∙ sym (ap (λ b. b && waiting p [] h) r)))
    (λ (ne : k ≢ h). ap (λ b. refers q k && (b && true)) (same k ne))
    (cases_eq k h)) in
    let z : as_one (refers q h) ≡ 0 = ap as_one r in
    omega (arith, c, z))
    (bool_cases (refers q h))

-- ---- the counts of the cells of a list

pub counted_in-enter : (marks : List Bool) (members left : List ℕ) (c : ℕ) → Marked marks members
    → get_or marks c false ≡ false → c < length left
    → (q : ℕ) → counted_in (members ++ c ∷ []) (set left c 0) q ≡ counted_in members left q
counted_in-enter marks members left c m none lt q =
    ⊎_elim
    (λ (e : q ≡ c). subst (λ x. counted_in (members ++ c ∷ []) (set left c 0) x ≡ counted_in members left x) (sym e)
    (let absent : list_any (eqb c) members ≡ false = sym (m.same c) ∙ none in
    rw (in-push_same members c, absent, get_or-set_same left c 0 0 lt) refl))
    (λ (ne : q ≢ c). rw (in-push_other members q c ne, get_or-set_other left c q 0 0 ne) refl)
    (cases_eq q c)

pub counted_yes : (f : ℕ → Bool) (walked : List ℕ) (base : ℕ → ℕ) (members left : List ℕ) (e : ℕ)
    → ((q : ℕ) → counted_in members left q ≡ base q + as_one (list_any (eqb q) walked && f q))
    → In members e → f e ≡ true → list_any (eqb e) walked ≡ false → e < length left
    → (q : ℕ) → counted_in members (set left e (get_or left e 0 + 1)) q ≡ base q
    + as_one (list_any (eqb q) (walked ++ e ∷ []) && f q)
counted_yes f walked base members left e so_far inside yes_f new lt q =
    ⊎_elim
    (λ (eq : q ≡ e). subst
    (λ x. counted_in members (set left e (get_or left e 0 + 1)) x ≡ base x
    + as_one (list_any (eqb x) (walked ++ e ∷ []) && f x)) (sym eq)
    (let o = rw (new, inside) at (so_far e) in
    rw (inside, get_or-set_same left e (get_or left e 0 + 1) 0 lt, in-push_same walked e, yes_f) (omega arith)))
    (λ (ne : q ≢ e). rw (get_or-set_other left e q (get_or left e 0 + 1) 0 ne, in-push_other walked q e ne) (so_far q))
    (cases_eq q e)

pub counted_no : (f : ℕ → Bool) (walked : List ℕ) (base : ℕ → ℕ) (members left : List ℕ) (e : ℕ)
    → ((q : ℕ) → counted_in members left q ≡ base q + as_one (list_any (eqb q) walked && f q))
    → f e ≡ false
    → (q : ℕ) → counted_in members left q ≡ base q + as_one (list_any (eqb q) (walked ++ e ∷ []) && f q)
counted_no f walked base members left e so_far no_f q =
    ⊎_elim
    (λ (eq : q ≡ e). subst
    (λ x. counted_in members left x ≡ base x + as_one (list_any (eqb x) (walked ++ e ∷ []) && f x)) (sym eq)
    (so_far e ∙ ap (λ b. base e + as_one b)
    (ap (λ b. list_any (eqb e) walked && b) no_f ∙ and_false (list_any (eqb e) walked)
    ∙ sym (ap (λ b. list_any (eqb e) (walked ++ e ∷ []) && b) no_f ∙ and_false (list_any (eqb e) (walked ++ e ∷ []))))))
    (λ (ne : q ≢ e). rw (in-push_other walked q e ne) (so_far q))
    (cases_eq q e)

take_start : (xs more : List ℕ) (i : ℕ) → i ≤ length xs → take i (xs ++ more) ≡ take i xs
take_start xs more zero le = refl
take_start [] more (suc i) le = absurd (omega arith)
take_start (x ∷ xs) more (suc i) le = ap (λ l. x ∷ l) (take_start xs more i (omega arith))

get_start : (xs more : List ℕ) (i : ℕ) → i < length xs → get_or (xs ++ more) i 0 ≡ get_or xs i 0
get_start [] more i lt = absurd (omega arith)
get_start (x ∷ xs) more zero lt = refl
get_start (x ∷ xs) more (suc i) lt = get_start xs more i (omega arith)

longer : (xs more : List ℕ) (i : ℕ) → i < length xs → i < length (xs ++ more)
longer [] more i lt = absurd (omega arith)
longer (x ∷ xs) more zero lt = omega arith
longer (x ∷ xs) more (suc i) lt = let ih = longer xs more i (omega arith) in omega arith

-- the next member is walked
pub counts_step : (refers : References) (formula : ℕ → Bool) (members deps left left2 : List ℕ) (head n : ℕ)
    → head < length members
    → IsDistinct eqb members → get_or members head 0 < n
    → ((c : ℕ) → refers c (get_or members head 0) ≡ true → In deps c)
    → ((q : ℕ) → counted_in members left q ≡ cells_left refers (is_walked formula (take head members)) [] n q)
    → ((q : ℕ) → counted_in (with_all members deps) left2 q ≡ counted_in members left q
    + as_one (list_any (eqb q) deps && (formula (get_or members head 0) && refers q (get_or members head 0))))
    → (q : ℕ) → counted_in (with_all members deps) left2 q
    ≡ cells_left refers (is_walked formula (take (head + 1) (with_all members deps))) [] n q
counts_step refers formula members deps left left2 head n lt once below lists before step q =
    let d : ℕ = get_or members head 0 in
    let more = with_all-prefix members deps in
    let is : take (head + 1) (with_all members deps) ≡ take head members ++ d ∷ [] =
    ap (λ xs. take (head + 1) xs) more.1
    ∙ (take_more (members ++ more.0) head 0 (longer members more.0 head lt)
    ∙ (ap (λ xs. xs ++ get_or (members ++ more.0) head 0 ∷ []) (take_start members more.0 head (omega arith))
    ∙ ap (λ x. take head members ++ x ∷ []) (get_start members more.0 head lt))) in
    let new : list_any (eqb d) (take head members) ≡ false = in-take_apart members head once lt in
    let to : cells_left refers (is_walked formula (take head members ++ d ∷ [])) [] n q
    ≡ cells_left refers (is_walked formula (take (head + 1) (with_all members deps))) [] n q =
    ap (λ xs. cells_left refers (is_walked formula xs) [] n q) (sym is) in
    ⊎_elim
    (λ (f : formula d ≡ true).
    let add = cells_left-add refers (is_walked formula (take head members))
    (is_walked formula (take head members ++ d ∷ [])) n q d below
    (ap (λ b. b && formula d) new)
    (ap (λ b. b && formula d) (in-push_same (take head members) d) ∙ f)
    (λ k ne. ap (λ b. b && formula k) (in-push_other (take head members) k d ne)) in
    let one : (list_any (eqb q) deps && (formula d && refers q d)) ≡ refers q d =
    ⊎_elim
    (λ (r : refers q d ≡ true). ap (λ b. b && (formula d && refers q d)) (lists q r) ∙ ap (λ b. b && refers q d) f)
    (λ (r : refers q d ≡ false). ap (λ b. list_any (eqb q) deps && (formula d && b)) r
    ∙ ap (λ b. list_any (eqb q) deps && b) (and_false (formula d)) ∙ and_false (list_any (eqb q) deps) ∙ sym r)
    (bool_cases (refers q d)) in
    step q ∙ (ap (λ m. m + as_one (list_any (eqb q) deps && (formula d && refers q d))) (before q)
    ∙ (ap (λ b. cells_left refers (is_walked formula (take head members)) [] n q + as_one b) one ∙ (sym add ∙ to))))
    (λ (f : formula d ≡ false).
    let same = cells_left-same refers (is_walked formula (take head members))
    (is_walked formula (take head members ++ d ∷ [])) n q
    (λ k. ⊎_elim
    (λ (e : k ≡ d). subst
    (λ x. is_walked formula (take head members) x ≡ is_walked formula (take head members ++ d ∷ []) x) (sym e)
    (ap (λ b. list_any (eqb d) (take head members) && b) f ∙ and_false (list_any (eqb d) (take head members))
    ∙ sym (ap (λ b. list_any (eqb d) (take head members ++ d ∷ []) && b) f
    ∙ and_false (list_any (eqb d) (take head members ++ d ∷ [])))))
    (λ (ne : k ≢ d). sym (ap (λ b. b && formula k) (in-push_other (take head members) k d ne)))
    (cases_eq k d)) in
    let none : (list_any (eqb q) deps && (formula d && refers q d)) ≡ false =
    ap (λ b. list_any (eqb q) deps && (b && refers q d)) f ∙ and_false (list_any (eqb q) deps) in
    let z : as_one (list_any (eqb q) deps && (formula d && refers q d)) ≡ 0 = ap as_one none in
    let s = step q in
    let b = before q in
    omega (arith, s, b, z, same, to))
    (bool_cases (formula d))

-- before any is walked
pub counts_start : (refers : References) (formula : ℕ → Bool) (members touched left left2 : List ℕ) (n : ℕ)
    → members ≡ []
    → ((q : ℕ) → counted_in (with_all members touched) left2 q ≡ counted_in members left q)
    → (q : ℕ) → counted_in (with_all [] touched) left2 q ≡ cells_left refers (is_walked formula []) [] n q
counts_start refers formula members touched left left2 n empty same q =
    let s = rw empty at (same q) in
    s ∙ sym (count_below-zero (λ d. refers q d && waiting (is_walked formula []) [] d) n (λ k. and_false (refers q k)))

-- what is counted when all are walked, by the marks
pub counts_by_marks : (refers : References) (formula : ℕ → Bool) (marks : List Bool) (members left : List ℕ) (n : ℕ)
    → Marked marks members
    → ((q : ℕ) → counted_in members left q ≡ cells_left refers (is_walked formula members) [] n q)
    → (c : ℕ) → get_or marks c false ≡ true
    → get_or left c 0 ≡ cells_left refers (is_pending formula (is_in []) marks) [] n c
counts_by_marks refers formula marks members left n m counts c t =
    let inside : list_any (eqb c) members ≡ true = sym (m.same c) ∙ t in
    let here : counted_in members left c ≡ get_or left c 0 = ap (λ b. cond b (get_or left c 0) 0) inside in
    sym here ∙ (counts c ∙ cells_left-same refers (is_walked formula members) (is_pending formula (is_in []) marks) n c
    (λ k. ap (λ b. b && formula k) (sym (m.same k)) ∙ by_case (get_or marks k false) (formula k)))
  where
    by_case : (a b : Bool) → (a && b) ≡ cond a b false
    by_case true b = refl
    by_case false b = refl

-- one more cyclic cell outside
pub outside_more : (refers : References) (formula : ℕ → Bool) (marks : List Bool) (done : List ℕ) (n q h : ℕ) → h < n
    → get_or marks h false ≡ false → list_any (eqb h) done ≡ false
    → cells_left refers (is_pending formula (is_in (done ++ h ∷ [])) marks) [] n q
    ≡ cells_left refers (is_pending formula (is_in done) marks) [] n q + as_one (refers q h)
outside_more refers formula marks done n q h lt off new =
    cells_left-add refers (is_pending formula (is_in done) marks) (is_pending formula (is_in (done ++ h ∷ [])) marks)
    n q h lt
    (ap (λ b. cond b (formula h) (list_any (eqb h) done)) off ∙ new)
    (ap (λ b. cond b (formula h) (list_any (eqb h) (done ++ h ∷ []))) off ∙ in-push_same done h)
    (λ k ne. ap (λ b. cond (get_or marks k false) (formula k) b) (in-push_other done k h ne))

-- one that isn't outside
pub outside_skip : (refers : References) (formula : ℕ → Bool) (marks : List Bool) (done : List ℕ) (n q h : ℕ)
    → get_or marks h false ≡ true
    → cells_left refers (is_pending formula (is_in (done ++ h ∷ [])) marks) [] n q
    ≡ cells_left refers (is_pending formula (is_in done) marks) [] n q
outside_skip refers formula marks done n q h on =
    cells_left-same refers (is_pending formula (is_in (done ++ h ∷ [])) marks)
    (is_pending formula (is_in done) marks) n q
    (λ k. ⊎_elim
    (λ (e : k ≡ h). subst
    (λ x. is_pending formula (is_in (done ++ h ∷ [])) marks x ≡ is_pending formula (is_in done) marks x) (sym e)
    (ap (λ b. cond b (formula h) (list_any (eqb h) (done ++ h ∷ []))) on
    ∙ sym (ap (λ b. cond b (formula h) (list_any (eqb h) done)) on)))
    (λ (ne : k ≢ h). ap (λ b. cond (get_or marks k false) (formula k) b) (in-push_other done k h ne))
    (cases_eq k h))

pub outside_small : (refers : References) (formula : ℕ → Bool) (marks : List Bool) (done : List ℕ) (n q h : ℕ) → h < n
    → get_or marks h false ≡ false → list_any (eqb h) done ≡ false
    → cells_left refers (is_pending formula (is_in done) marks) [] n q < n
outside_small refers formula marks done n q h lt off new =
    cells_left-lt refers (is_pending formula (is_in done) marks) n q h lt
    (ap (λ b. cond b (formula h) (list_any (eqb h) done)) off ∙ new)

-- a cell of a list where none passes doesn't pass
none_of : (p : ℕ → Bool) (xs : List ℕ) (c : ℕ) → list_any p xs ≡ false → In xs c → p c ≡ false
none_of p [] c none i = absurd (let f : false ≡ true = i in cc)
none_of p (x ∷ xs) c none i =
    ⊎_elim
    (λ (t : p x ≡ true). absurd (let f : true ≡ false = rw t at none in cc))
    (λ (f : p x ≡ false).
    let later : list_any p xs ≡ false = rw f at none in
    ⊎_elim
    (λ (e : eqb c x ≡ true). subst (λ y. p y ≡ false) (sym (eqb-true c x e)) f)
    (λ (there : list_any (eqb c) xs ≡ true). none_of p xs c later there)
    (or_cases (eqb c x) (list_any (eqb c) xs) i))
    (bool_cases (p x))

-- where no member has a formula, or no cell is outside, none outside is counted
pub outside_none : (refers : References) (formula : ℕ → Bool) (marks plain : List Bool) (members outside : List ℕ)
    (n : ℕ) → Marked marks members
    → ((c d : ℕ) → refers c d ≡ true → formula c ≡ true)
    → ((c : ℕ) → In members c → not_plain plain c ≡ formula c)
    → (not (length outside == 0) && list_any (not_plain plain) members) ≡ false
    → (c : ℕ) → get_or marks c false ≡ true
    → cells_left refers (is_pending formula (is_in []) marks) [] n c
    ≡ cells_left refers (is_pending formula (is_in outside) marks) [] n c
outside_none refers formula marks plain members [] n m has known none c t = refl
outside_none refers formula marks plain members (e ∷ more) n m has known none c t =
    let inside : In members c = sym (m.same c) ∙ t in
    let plain_all : list_any (not_plain plain) members ≡ false =
    ⊎_elim
    (λ (t : (length (e ∷ more) == 0) ≡ true).
    absurd (let z : length (e ∷ more) ≡ 0 = eqb-true (length (e ∷ more)) 0 t in omega arith))
    (λ (f : (length (e ∷ more) == 0) ≡ false). rw f at none)
    (bool_cases (length (e ∷ more) == 0)) in
    let no : formula c ≡ false = sym (known c inside) ∙ none_of (not_plain plain) members c plain_all inside in
    let nowhere : (d : ℕ) → refers c d ≡ false =
    λ d. ⊎_elim
    (λ (r : refers c d ≡ true). absurd (let f : true ≡ false = sym (has c d r) ∙ no in cc))
    (λ (r : refers c d ≡ false). r)
    (bool_cases (refers c d)) in
    zero_left (is_pending formula (is_in []) marks) nowhere
    ∙ sym (zero_left (is_pending formula (is_in (e ∷ more)) marks) nowhere)
  where
    zero_left : (p : ℕ → Bool) → ((d : ℕ) → refers c d ≡ false) → cells_left refers p [] n c ≡ 0
    zero_left p nowhere =
        count_below-zero (λ d. refers c d && waiting p [] d) n (λ d. ap (λ b. b && waiting p [] d) (nowhere d))
