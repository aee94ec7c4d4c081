-- Lemmas on lists of cells without doubles.
use Rattle.std.proofs.Common.{◌≡◌, ◌≢◌, ℕ, suc, zero, ◌+◌, ◌<◌, ◌≤◌, Bool, true, false, ◌⊎◌, ◌||◌, ◌&&◌, inl}
use Rattle.std.proofs.Common.{inr, List, [], ◌∷◌, ◌++◌, length, refl, sym, ap, ◌∙◌, arith, ⊎_elim, eqb}
use Rattle.std.proofs.Common.{eqb-true, eq-eqb, ne_eqb, subst, get_or, set, take, drop}
use Rattle.std.proofs.lemmas.Grind.{common_steps}
use Rattle.std.proofs.lemmas.Bool.{cases_eq, cases_lt}
use Rattle.std.specs.List.{list_any, IsDistinct, AllByRecursion, filter}
use Rattle.std.proofs.lemmas.List.{take_more, append-nil, append_assoc, get_or-set_same}
use Rattle.std.proofs.lemmas.List.{get_or-set_other, get_or_past, length_push, length-take-le, get_or-take, drop_more}
use Rattle.std.proofs.lemmas.List.{drop_all}
use Rattle.std.proofs.lemmas.Map.Keys.{IsDistinct-push, IsDistinct-head, IsDistinct-tail, IsDistinct-cons}
use Rattle.std.proofs.lemmas.Map.Keys.{apart_from_distinct}
use Rattle.std.proofs.lemmas.Map.Steps.{length-le_from_distinct_below}
use Rattle.std.proofs.lemmas.Cmp.{nat_eq_equiv}
use Rattle.ps_region.specs.Inside.Cells.{with_cell, with_all, Marked}

pub bool_cases : (b : Bool) → (b ≡ true) ⊎ (b ≡ false)
bool_cases true = inl refl
bool_cases false = inr refl

pub or_true : (a : Bool) → (a || true) ≡ true
or_true true = refl
or_true false = refl

pub or_cases : (a b : Bool) → (a || b) ≡ true → (a ≡ true) ⊎ (b ≡ true)
or_cases true b h = inl refl
or_cases false b h = inr h

pub or_false : (b a : Bool) → (a || (b || false)) ≡ (a || b)
or_false true a = refl
or_false false a = refl

pub any-append : (q : ℕ) (xs ys : List ℕ) → list_any (eqb q) (xs ++ ys) ≡ (list_any (eqb q) xs || list_any (eqb q) ys)
any-append q [] ys = refl
any-append q (x ∷ xs) ys = let ih = any-append q xs ys in grind (arith, common_steps)

-- one more cell of the other list
pub with_all_more : (xs cs : List ℕ) (i d : ℕ) → i < length cs
    → with_all xs (take (i + 1) cs) ≡ with_cell (with_all xs (take i cs)) (get_or cs i d)
with_all_more xs cs i d h = rw (take_more cs i d h) (step xs (take i cs) (get_or cs i d))
  where
    step : (xs cs : List ℕ) (c : ℕ) → with_all xs (cs ++ c ∷ []) ≡ with_cell (with_all xs cs) c
    step xs [] c = refl
    step xs (x ∷ cs) c = step (with_cell xs x) cs c

in-same : (xs : List ℕ) (c q : ℕ) → q ≡ c → list_any (eqb c) xs ≡ true → list_any (eqb q) xs ≡ true
in-same xs c q e h = subst (λ x. list_any (eqb x) xs ≡ true) (sym e) h

pub in-with_cell : (xs : List ℕ) (c q : ℕ) → list_any (eqb q) (with_cell xs c) ≡ (list_any (eqb q) xs || eqb q c)
in-with_cell xs c q =
    ⊎_elim
    (λ yes.
    ⊎_elim (λ e. let k = in-same xs c q e yes in grind (arith, common_steps)) (λ ne. grind (arith, common_steps))
    (cases_eq q c))
    (λ none. let e = any-append q xs (c ∷ []) in grind (arith, common_steps))
    (bool_cases (list_any (eqb c) xs))

-- a cell that was put into a list is in it
pub now_in : (members new : List ℕ) (e : ℕ) → new ≡ with_cell members e → list_any (eqb e) new ≡ true
now_in members new e is =
    rw is (in-with_cell members e e
    ∙ (ap (λ b. list_any (eqb e) members || b) (eq-eqb e e refl) ∙ or_true (list_any (eqb e) members)))

pub in-with_all : (xs cs : List ℕ) (q : ℕ)
    → list_any (eqb q) (with_all xs cs) ≡ (list_any (eqb q) xs || list_any (eqb q) cs)
in-with_all xs [] q = grind (arith, common_steps)
in-with_all xs (c ∷ cs) q =
    let ih = in-with_all (with_cell xs c) cs q in
    let e = in-with_cell xs c q in grind (arith, common_steps)

-- the list goes on
with_cell-prefix : (xs : List ℕ) (c : ℕ) → (more : List ℕ) × (with_cell xs c ≡ xs ++ more)
with_cell-prefix xs c =
    ⊎_elim
    (λ yes. ([], rw yes (sym (append-nil xs))))
    (λ none. (c ∷ [], rw none))
    (bool_cases (list_any (eqb c) xs))

pub with_all-prefix : (xs cs : List ℕ) → (more : List ℕ) × (with_all xs cs ≡ xs ++ more)
with_all-prefix xs [] = ([], sym (append-nil xs))
with_all-prefix xs (c ∷ cs) =
    let f = with_cell-prefix xs c in
    let m = with_all-prefix (with_cell xs c) cs in
    (f.0 ++ m.0, m.1 ∙ (ap (λ l. l ++ m.0) f.1 ∙ append_assoc xs f.0 m.0))

-- what is in the list is below the length of the table
pub marked_below : (marks : List Bool) (members : List ℕ) → Marked marks members → (q : ℕ)
    → list_any (eqb q) members ≡ true → q < length marks
marked_below marks members m q i =
    ⊎_elim
    (λ lt. lt)
    (λ le. let e = m.same q in let p = get_or_past marks q false le in absurd (let f : false ≡ true = cc in cc))
    (cases_lt q (length marks))

-- PIGEONHOLE, as room: a table that marks just the cells of a list has room for one that is not marked
pub marked_room : (marks : List Bool) (members : List ℕ) (c : ℕ) → Marked marks members → c < length marks
    → get_or marks c false ≡ false
    → length members < length marks
marked_room marks members c m below none =
    let absent : list_any (eqb c) members ≡ false = sym (m.same c) ∙ none in
    let once = IsDistinct-push nat_eq_equiv members c m.once absent in
    let le = length-le_from_distinct_below (members ++ c ∷ []) (length marks) once
    (λ q i. ⊎_elim
    (λ old. marked_below marks members m q old)
    (λ fresh. subst (λ x. x < length marks) (sym (eqb-true q c fresh)) below)
    (or_cases (list_any (eqb q) members) (eqb q c)
    (sym (or_false (eqb q c) (list_any (eqb q) members)) ∙ (sym (any-append q members (c ∷ [])) ∙ i)))) in
    let l = length_push members c in omega arith

-- at most as many as the table is long
pub marked_le : (marks : List Bool) (members : List ℕ) → Marked marks members → length members ≤ length marks
marked_le marks members m = length-le_from_distinct_below members (length marks) m.once (marked_below marks members m)

-- a mark and the cell at the end of the list
pub Marked-push : (marks : List Bool) (members : List ℕ) (c : ℕ) → Marked marks members → c < length marks
    → get_or marks c false ≡ false
    → Marked (set marks c true) (members ++ c ∷ [])
Marked-push marks members c m below none = record {
  same = λ q.
      ⊎_elim
      (λ e. let a = any-append q members (c ∷ []) in let s = get_or-set_same marks c true false below in
      grind (arith, common_steps))
      (λ ne. let a = any-append q members (c ∷ []) in let s = get_or-set_other marks c q true false ne in let o =
      m.same q in grind (arith, common_steps))
      (cases_eq q c);
  once = IsDistinct-push nat_eq_equiv members c m.once (sym (m.same c) ∙ none);
}

-- what stands in a list is in it
pub in-get_or : (xs : List ℕ) (i d : ℕ) → i < length xs → list_any (eqb (get_or xs i d)) xs ≡ true
in-get_or [] i d h = absurd (omega arith)
in-get_or (x ∷ xs) zero d h = grind (arith, common_steps)
in-get_or (x ∷ xs) (suc i) d h = let ih = in-get_or xs i d (omega arith) in grind (arith, common_steps)

-- and what is in a list stands somewhere
pub place_of : (xs : List ℕ) (q : ℕ) → list_any (eqb q) xs ≡ true → (p : ℕ) × (p < length xs) × (get_or xs p 0 ≡ q)
place_of [] q h = absurd (let f : false ≡ true = h in cc)
place_of (x ∷ xs) q h =
    ⊎_elim
    (λ e. (0, omega arith, sym (eqb-true q x e)))
    (λ i. let r = place_of xs q i in (suc r.0, (let lt = r.1 in omega arith), r.2))
    (or_cases (eqb q x) (list_any (eqb q) xs) h)

-- a list with one more at its end
pub in-push_same : (xs : List ℕ) (e : ℕ) → list_any (eqb e) (xs ++ e ∷ []) ≡ true
in-push_same [] e = grind (arith, common_steps)
in-push_same (x ∷ xs) e = let ih = in-push_same xs e in rw ih (or_true (eqb e x))

pub in-push_other : (xs : List ℕ) (c e : ℕ) → c ≢ e → list_any (eqb c) (xs ++ e ∷ []) ≡ list_any (eqb c) xs
in-push_other [] c e ne = grind (arith, common_steps)
in-push_other (x ∷ xs) c e ne = ap (λ b. eqb c x || b) (in-push_other xs c e ne)

pub in-push_old : (xs : List ℕ) (c e : ℕ) → list_any (eqb c) xs ≡ true → list_any (eqb c) (xs ++ e ∷ []) ≡ true
in-push_old xs c e h = any-append c xs (e ∷ []) ∙ ap (λ b. b || list_any (eqb c) (e ∷ [])) h

pub in-push_cases : (xs : List ℕ) (c e : ℕ) → list_any (eqb c) (xs ++ e ∷ []) ≡ true
    → (list_any (eqb c) xs ≡ true) ⊎ (c ≡ e)
in-push_cases xs c e h = ⊎_elim (λ eq. inr eq) (λ ne. inl (sym (in-push_other xs c e ne) ∙ h)) (cases_eq c e)

-- PIGEONHOLE, as room: numbers below n, each once, without c, are fewer than n
pub room_for : (xs : List ℕ) (n c : ℕ) → IsDistinct eqb xs → ((q : ℕ) → list_any (eqb q) xs ≡ true → q < n) → c < n
    → list_any (eqb c) xs ≡ false
    → length xs < n
room_for xs n c once below lt absent =
    let le = length-le_from_distinct_below (xs ++ c ∷ []) n (IsDistinct-push nat_eq_equiv xs c once absent)
    (λ q i. ⊎_elim (λ old. below q old) (λ eq. subst (λ x. x < n) (sym eq) lt) (in-push_cases xs q c i)) in
    let l = length_push xs c in omega arith

-- what stands at a place is not among the ones before, where each is there once
pub in-take_apart : (xs : List ℕ) (i : ℕ) → IsDistinct eqb xs → i < length xs
    → list_any (eqb (get_or xs i 0)) (take i xs) ≡ false
in-take_apart xs i once lt =
    ⊎_elim
    (λ t.
    let p = place_of (take i xs) (get_or xs i 0) t in
    let short = length-take-le i xs (omega arith) in
    let before : p.0 < i = (let l = p.1 in omega arith) in
    let same : get_or xs p.0 0 ≡ get_or xs i 0 = sym (get_or-take i xs p.0 0 before) ∙ p.2 in
    let differ = apart_from_distinct eqb xs p.0 i 0 once before lt in
    absurd (let f : true ≡ false = sym (eq-eqb (get_or xs p.0 0) (get_or xs i 0) same) ∙ differ in cc))
    (λ f. f)
    (bool_cases (list_any (eqb (get_or xs i 0)) (take i xs)))

-- marks are taken away one after another
pub cleared_step : (marks : List Bool) (items : List ℕ) (i : ℕ) → i < length items → get_or items i 0 < length marks
    → ((q : ℕ) → get_or marks q false ≡ true → list_any (eqb q) (drop i items) ≡ true)
    → (q : ℕ) → get_or (set marks (get_or items i 0) false) q false ≡ true
    → list_any (eqb q) (drop (i + 1) items) ≡ true
cleared_step marks items i lt inside so_far q h =
    let e : ℕ = get_or items i 0 in
    ⊎_elim
    (λ (eq : q ≡ e).
    let gone : get_or (set marks e false) q false ≡ false =
    subst (λ x. get_or (set marks e false) x false ≡ false) (sym eq) (get_or-set_same marks e false false inside) in
    absurd (let f : true ≡ false = sym h ∙ gone in cc))
    (λ (ne : q ≢ e).
    let was : list_any (eqb q) (drop i items) ≡ true = so_far q (sym (get_or-set_other marks e q false false ne) ∙ h) in
    let cons : list_any (eqb q) (e ∷ drop (i + 1) items) ≡ true = rw (drop_more items i 0 lt) at was in
    ⊎_elim
    (λ here. absurd (ne (eqb-true q e here)))
    (λ rest. rest)
    (or_cases (eqb q e) (list_any (eqb q) (drop (i + 1) items)) cons))
    (cases_eq q e)

pub cleared_end : (marks : List Bool) (items : List ℕ) (i : ℕ) → length items ≤ i
    → ((q : ℕ) → get_or marks q false ≡ true → list_any (eqb q) (drop i items) ≡ true)
    → Marked marks []
unfolding IsDistinct
cleared_end marks items i le so_far = record {
  same = λ q. ⊎_elim
      (λ (t : get_or marks q false ≡ true).
      let was = rw (drop_all i items le) at (so_far q t) in absurd (let f : false ≡ true = was in cc))
      (λ f. f)
      (bool_cases (get_or marks q false));
  once = tt;
}

-- what a filter keeps
pub in-filter : (p : ℕ → Bool) (xs : List ℕ) (q : ℕ) → list_any (eqb q) (filter p xs) ≡ (list_any (eqb q) xs && p q)
in-filter p [] q = refl
in-filter p (x ∷ xs) q =
    let ih = in-filter p xs q in
    ⊎_elim
    (λ (t : p x ≡ true). ⊎_elim
    (λ (e : q ≡ x). rw (t, eq-eqb q x e) (sym (subst (λ y. p y ≡ true) (sym e) t)))
    (λ (ne : q ≢ x). rw (t, ne_eqb q x ne) ih)
    (cases_eq q x))
    (λ (f : p x ≡ false). ⊎_elim
    (λ (e : q ≡ x).
    let pq : p q ≡ false = subst (λ y. p y ≡ false) (sym e) f in
    rw (f, eq-eqb q x e, pq) (ih ∙ (ap (λ b. list_any (eqb q) xs && b) pq ∙ and_no (list_any (eqb q) xs))))
    (λ (ne : q ≢ x). rw (f, ne_eqb q x ne) ih)
    (cases_eq q x))
    (bool_cases (p x))
  where
    and_no : (a : Bool) → (a && false) ≡ false
    and_no true = refl
    and_no false = refl

absent_all : (x : ℕ) (xs : List ℕ) → AllByRecursion (λ y. eqb x y ≡ false) xs → list_any (eqb x) xs ≡ false
absent_all x [] h = refl
absent_all x (y ∷ ys) h = rw h.0 (absent_all x ys h.1)

pub all_absent : (x : ℕ) (xs : List ℕ) → list_any (eqb x) xs ≡ false → AllByRecursion (λ y. eqb x y ≡ false) xs
all_absent x [] h = tt
all_absent x (y ∷ ys) h =
    ⊎_elim
    (λ (t : eqb x y ≡ true). absurd (let f : true ≡ false = rw t at h in cc))
    (λ (f : eqb x y ≡ false). (f, all_absent x ys (rw f at h)))
    (bool_cases (eqb x y))

pub distinct-filter : (p : ℕ → Bool) (xs : List ℕ) → IsDistinct eqb xs → IsDistinct eqb (filter p xs)
distinct-filter p [] once = once
distinct-filter p (x ∷ xs) once =
    let ih = distinct-filter p xs (IsDistinct-tail eqb x xs once) in
    let absent : list_any (eqb x) (filter p xs) ≡ false =
    in-filter p xs x ∙ ap (λ b. b && p x) (absent_all x xs (IsDistinct-head eqb x xs once)) in
    ⊎_elim
    (λ (t : p x ≡ true). rw t (IsDistinct-cons eqb x (filter p xs) (all_absent x (filter p xs) absent) ih))
    (λ (f : p x ≡ false). rw f ih)
    (bool_cases (p x))
