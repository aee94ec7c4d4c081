-- A level whose due cells are evaluated together, and then shown one after the other.
use Rattle.std.proofs.Common.{◌≡◌, ◌≢◌, ◌||◌, ℕ, Bool, ◌+◌, ◌<◌, ◌≤◌, zero, suc, true, false, ◌⊎◌, inl, inr, List}
use Rattle.std.proofs.Common.{[], ◌∷◌, ◌++◌, length, take, map, filter, get_or, refl, sym, ap, ◌∙◌, arith, ⊎_elim, eqb}
use Rattle.std.proofs.Common.{subst}
use Rattle.std.specs.List.{list_any, IsDistinct}
use Rattle.std.proofs.lemmas.List.{take_all, take_more}
use Rattle.ps_grid.specs.Chains.{In}
use Rattle.ps_grid.proofs.ChainLemmas.{bool_cases, In-self, In-more}
use Rattle.ps_value.specs.declared.value.Value.{Value}
use Rattle.ps_eval.specs.Items.{Assignment}
use Rattle.ps_region.proofs.CellListLemmas.{distinct-filter}
use Rattle.ps_shown.specs.declared.kept.Kept.{Kept}
use Rattle.ps_shown.specs.Kept.{value_of as value_kept}
use Rattle.ps_workers.specs.Level.{formula_value, kept_values, values_of}
use Rattle.ps_content.specs.declared.content.Content.{Content}
use Rattle.ps_content.specs.declared.content.Content.TheVariants.{Blank, Number, Text, Formula, Tally, Choice}
use Rattle.ps_content.specs.Order.{formula_in}
use Rattle.ps_delta.specs.State.{State}
use Rattle.ps_delta.specs.declared.cell_state.CellState.{CellState}
use Rattle.ps_cells.specs.Settled.{content_of, refers_to, value_by, value_of}
use Rattle.ps_cells.specs.Inside.Waiting.{is_formula}
use Rattle.ps_cells.specs.Inside.Walk.{formula_at, InFrame, Shows, Walked, IsPassed}
use Rattle.ps_cells.specs.Inside.Steps.{Road, ShowsAll, StepsLevel, values_at}
use Rattle.ps_cells.proofs.SettledValues.{true_not_false, formula_below, value_by-agrees}
use Rattle.ps_cells.proofs.CyclicLists.{In-filter, In-filtered}
use Rattle.ps_cells.proofs.ListedCells.{In-pushed, In-end, In-pushed_cases, In-place, fresh_place}
use Rattle.ps_cells.proofs.Walks.{weaker, evaluate, evaluate_unread, quiet}

-- a list of one cell has just that one
In-only : (x c : ℕ) → In (x ∷ []) c → c ≡ x
In-only x c i =
    ⊎_elim (λ before. absurd (let f : false ≡ true = before in cc)) (λ same. same) (In-pushed_cases [] x c i)

-- a list with one place has just what is at that place
pub sole : {X : Type 0} (xs : List X) (x : X) → 1 ≤ length xs → length xs < 2 → x ≡ get_or xs 0 x → x ∷ [] ≡ xs
sole [] x some few at = absurd (omega (arith, some))
sole {X} (y ∷ []) x some few at = ap (λ (q : X). q ∷ []) at
sole (y ∷ z ∷ xs) x some few at = absurd (omega (arith, few))

-- the first i of the cells are shown
abbrev pub ShowsPart : Bool → (ℕ → List ℕ) → List ℕ → List Value → ℕ → Assignment → Assignment → (ℕ → Bool)
    → (ℕ → Bool) → Type 0
ShowsPart is_last listed cells values i u u2 flags flags2 =
    (t : State) (v : Assignment) (touched : List ℕ) (level : ℕ → List ℕ) (top k m : ℕ) → Road t listed v touched
    level top
    → 0 < k → k ≤ top → (is_last ≡ true → k ≡ top) → IsDistinct eqb cells
    → ((c : ℕ) → In cells c → In (level k) c × (flags c ≡ true))
    → values ≡ map (λ c. value_of (t c) u) cells
    → Walked t v touched (IsPassed level k []) u flags m
    → Walked t v touched (IsPassed level k (take i cells)) u2 flags2 (m + i)
    × ((c : ℕ) → ¬ In (level k) c → u2 c ≡ u c) × ((c : ℕ) → In (level k) c → flags2 c ≡ flags c)

pub shows_none : (is_last : Bool) (listed : ℕ → List ℕ) (cells : List ℕ) (values : List Value) (u : Assignment)
    (flags : ℕ → Bool) → ShowsPart is_last listed cells values 0 u u flags flags
shows_none is_last listed cells values u flags t v touched level top k m road some within last once among is w =
    let same : m ≡ m + 0 = omega arith in
    (subst (λ q. Walked t v touched (IsPassed level k []) u flags q) same w, (λ c out. refl), (λ c here. refl))

get_or-map : (f : ℕ → Value) (xs : List ℕ) (i d : ℕ) (e : Value) → i < length xs
    → get_or (map f xs) i e ≡ f (get_or xs i d)
get_or-map f [] i d e lt = absurd (omega (arith, lt))
get_or-map f (x ∷ xs) zero d e lt = refl
get_or-map f (x ∷ xs) (suc i) d e lt = get_or-map f xs i d e (omega (arith, lt))

value_of_formula : (k : Content) (x : CellState) (v : Assignment) → is_formula k ≡ true
    → formula_value v (formula_in k) ≡ value_by k x v
value_of_formula Blank x v h = absurd (true_not_false true refl (sym h))
value_of_formula (Number n) x v h = absurd (true_not_false true refl (sym h))
value_of_formula (Text text) x v h = absurd (true_not_false true refl (sym h))
value_of_formula (Formula tree) x v h = refl
value_of_formula Tally x v h = absurd (true_not_false true refl (sym h))
value_of_formula Choice x v h = absurd (true_not_false true refl (sym h))

-- the values of the formulas are those of the cells
pub formula_values : (t : State) (u : Assignment) (cells : List ℕ) → ((c : ℕ) → In cells c → formula_at t c ≡ true)
    → values_of (λ c. formula_in (content_of (t c))) u cells ≡ values_at t u cells
formula_values t u [] formulas = refl
formula_values t u (c ∷ cells) formulas =
    let here = value_of_formula (content_of (t c)) (t c) u (formulas c (In-self c cells)) in
    let others = formula_values t u cells (λ q i. formulas q (In-more q c cells i)) in
    rw (here, others) refl

-- the value of the formula is that of the cell
pub formula_values_one : (t : State) (u : Assignment) (c : ℕ) → formula_at t c ≡ true
    → values_of (λ q. formula_in (content_of (t q))) u (c ∷ []) ≡ values_at t u (c ∷ [])
formula_values_one t u c formula =
    formula_values t u (c ∷ []) (λ q i. subst (λ x. formula_at t x ≡ true) (sym (In-only c q i)) formula)

-- what is kept at a place has the value at that place
pub kept_at : (xs : List Kept) (i : ℕ) (d : Kept) → get_or (kept_values xs) i (value_kept d) ≡ value_kept
    (get_or xs i d)
kept_at [] i d = refl
kept_at (x ∷ xs) zero d = refl
kept_at (x ∷ xs) (suc i) d = kept_at xs i d

-- the cells of a level lie in the frame, refer to no cell of it, and are of no other level
module _ (t : State) (listed : ℕ → List ℕ) (v : Assignment) (touched : List ℕ) (level : ℕ → List ℕ) (top k : ℕ)
    (road : Road t listed v touched level top) (some : 0 < k) (within : k ≤ top) where
  frame : (c : ℕ) → In (level k) c → InFrame t touched c
  frame c here = road.levels.sound k c some within here

  lower_alone : (c e : ℕ) → In (level k) c → refers_to t c e ≡ true → ¬ In (level k) e
  lower_alone c e here r there =
      let j = road.levels.falls k c e some within here r (frame e there) in
      let high = j.2 in
      let same = road.levels.apart j.0 k e j.1 (omega (arith, high, within)) some within j.3 there in
      omega (arith, high, same)

  not_lower : (c : ℕ) → In (level k) c → ((j : ℕ) × (0 < j) × (j < k) × In (level j) c) → ⊥
  not_lower c here j =
      let high = j.2 in
      let same = road.levels.apart j.0 k c j.1 (omega (arith, high, within)) some within j.3 here in
      omega (arith, high, same)

  not_passed : (c : ℕ) → In (level k) c → ¬ IsPassed level k [] c
  not_passed c here p =
      ⊎_elim (λ j. not_lower c here j) (λ i. let f : false ≡ true = i in cc) p

  -- no cell of the frame refers to one of the last level
  unread : k ≡ top → (x : ℕ) → In (level k) x → (c : ℕ) → InFrame t touched c → ¬ (refers_to t c x ≡ true)
  unread last x here c f r =
      let at = road.levels.complete c f in
      let j = road.levels.falls at.0 c x at.1 at.2 at.3 r (frame x here) in
      let high = j.2 in
      let most = at.2 in
      let same = road.levels.apart j.0 k x j.1 (omega (arith, high, most)) some within j.3 here in
      omega (arith, high, most, same, last)

  passed_below : (cells : List ℕ) (c e : ℕ) → In (level k) c → refers_to t c e ≡ true → InFrame t touched e
      → IsPassed level k cells e
  passed_below cells c e here r f =
      let j = road.levels.falls k c e some within here r f in inl (j.0, j.1, j.2, j.3)

  -- no cell of the level is flagged since another one of it shows another value
  flag_stays : (u : Assignment) (flags : ℕ → Bool) (m : ℕ) → Walked t v touched (IsPassed level k []) u flags m
      → (x : ℕ) → In (level k) x → (c : ℕ) → In (level k) c → flags c ≡ false → list_any (eqb c) (listed x) ≡ false
  flag_stays u flags m w x there c here off =
      ⊎_elim
      (λ (i : In (listed x) c). absurd (⊎_elim
      (λ r. lower_alone c x here r there)
      (λ touch. (w.quiet c (frame c here) (not_passed c here) off).0 touch)
      ((road.lists x (formula_below t road.change.after x (frame x there).1)).extra c i)))
      (λ none. none)
      (bool_cases (list_any (eqb c) (listed x)))

or_off : (a b : Bool) → (a ≡ false → b ≡ false) → (a || b) ≡ a
or_off true b h = refl
or_off false b h = h refl

-- a cell shows a value: the cells that refer to it are flagged, or none has to be since it is of the last level
abbrev pub ShowsOne : Bool → ℕ → Value → List ℕ → Assignment → Assignment → (ℕ → Bool) → (ℕ → Bool) → Type 0
ShowsOne is_last x y listed u u2 flags flags2 =
    Shows x y listed u u2 flags flags2
    ⊎ ((is_last ≡ true) × (u2 x ≡ y) × ((c : ℕ) → c ≢ x → u2 c ≡ u c) × (flags2 ≡ flags))

one_others : (is_last : Bool) (x : ℕ) (y : Value) (listed : List ℕ) (u u2 : Assignment) (flags flags2 : ℕ → Bool)
    → ShowsOne is_last x y listed u u2 flags flags2 → (c : ℕ) → c ≢ x → u2 c ≡ u c
one_others is_last x y listed u u2 flags flags2 one c ne =
    ⊎_elim
    (λ (shows : Shows x y listed u u2 flags flags2). shows.others c ne)
    (λ (put : (is_last ≡ true) × (u2 x ≡ y) × ((c : ℕ) → c ≢ x → u2 c ≡ u c) × (flags2 ≡ flags)). put.2 c ne)
    one

-- STEP: the next due cell shows its value
pub shows_more : (is_last : Bool) (listed : ℕ → List ℕ) (cells : List ℕ) (values : List Value) (i d : ℕ) (y e : Value)
    (u u2 u3 : Assignment) (flags flags2 flags3 : ℕ → Bool)
    → ShowsPart is_last listed cells values i u u2 flags flags2
    → i < length cells → y ≡ get_or values i e
    → ShowsOne is_last (get_or cells i d) y (listed (get_or cells i d)) u2 u3 flags2 flags3
    → ShowsPart is_last listed cells values (i + 1) u u3 flags flags3
shows_more is_last listed cells values i d y e u u2 u3 flags flags2 flags3 so_far lt y_is one t v touched level top k m
    road some within last once among is w =
    let so = so_far t v touched level top k m road some within last once among is w in
    let x : ℕ = get_or cells i d in
    let place = among x (In-place cells i d lt) in
    let here : In (level k) x = place.0 in
    let inside : InFrame t touched x = frame t listed v touched level top k road some within x here in
    let fresh : ¬ IsPassed level k (take i cells) x = λ p.
    ⊎_elim
    (λ j. not_lower t listed v touched level top k road some within x here j)
    (λ q. fresh_place cells i d once lt q)
    p in
    let agrees : value_of (t x) u ≡ value_of (t x) u2 =
    value_by-agrees (content_of (t x)) (t x) u u2
    (λ q r. sym (so.1 q (lower_alone t listed v touched level top k road some within x q here r))) in
    let value : y ≡ value_of (t x) u2 =
    y_is ∙ (ap (λ (vs : List Value). get_or vs i e) is ∙ (get_or-map (λ c. value_of (t c) u) cells i d e lt ∙
    agrees)) in
    let one2 : ShowsOne is_last x (value_of (t x) u2) (listed x) u2 u3 flags2 flags3 =
    subst (λ z. ShowsOne is_last x z (listed x) u2 u3 flags2 flags3) value one in
    let below : (q : ℕ) → refers_to t x q ≡ true → InFrame t touched q → IsPassed level k (take i cells) q =
    λ q r f. passed_below t listed v touched level top k road some within (take i cells) x q here r f in
    let on : flags2 x ≡ true = so.2 x here ∙ place.1 in
    let w3 : Walked t v touched (λ c. IsPassed level k (take i cells) c ⊎ (c ≡ x)) u3 flags3 ((m + i) + 1) =
    ⊎_elim
    (λ (shows : Shows x (value_of (t x) u2) (listed x) u2 u3 flags2 flags3).
    evaluate road.before t v touched road.change (IsPassed level k (take i cells)) u2 flags2 (m + i) x so.0
    inside fresh below (listed x) u3 flags3 on (road.lists x (formula_below t road.change.after x inside.1)) shows)
    (λ (put : (is_last ≡ true) × (u3 x ≡ value_of (t x) u2) × ((c : ℕ) → c ≢ x → u3 c ≡ u2 c) × (flags3 ≡ flags2)).
    subst (λ fs. Walked t v touched (λ c. IsPassed level k (take i cells) c ⊎ (c ≡ x)) u3 fs ((m + i) + 1)) (sym put.3)
    (evaluate_unread road.before t v touched road.change (IsPassed level k (take i cells)) u2 flags2 (m + i) x so.0
    inside fresh below u3 on put.1 put.2
    (unread t listed v touched level top k road some within (last put.0) x here)))
    one2 in
    let longer : take (i + 1) cells ≡ take i cells ++ x ∷ [] = take_more cells i d lt in
    let count : (m + i) + 1 ≡ m + (i + 1) = omega arith in (
      subst (λ q. Walked t v touched (IsPassed level k (take (i + 1) cells)) u3 flags3 q) count
          (weaker t v touched (λ c. IsPassed level k (take i cells) c ⊎ (c ≡ x)) (IsPassed level k (take (i + 1) cells))
          u3 flags3 ((m + i) + 1) w3
          (λ c p. subst (λ xs. IsPassed level k xs c) (sym longer) (⊎_elim
          (λ q. ⊎_elim (λ j. inl j) (λ before. inr (In-pushed (take i cells) x c before)) q)
          (λ same. inr (subst (In (take i cells ++ x ∷ [])) (sym same) (In-end (take i cells) x)))
          p))
          (λ c p. ⊎_elim
          (λ j. inl (inl j))
          (λ q. ⊎_elim (λ before. inl (inr before)) (λ same. inr same)
          (In-pushed_cases (take i cells) x c (subst (λ xs. In xs c) longer q)))
          p)),
      (λ c out. one_others is_last x y (listed x) u2 u3 flags2 flags3 one c
          (λ same. out (subst (In (level k)) (sym same) here)) ∙ so.1 c out),
      (λ c there. ⊎_elim
          (λ (shows : Shows x y (listed x) u2 u3 flags2 flags3). ⊎_elim
          (λ same. same.1 c ∙ so.2 c there)
          (λ spread. spread.1 c
          ∙ (ap (λ b. b || list_any (eqb c) (listed x)) (so.2 c there)
          ∙ or_off (flags c) (list_any (eqb c) (listed x))
          (λ off. flag_stays t listed v touched level top k road some within u flags m w x here c there off)))
          shows.spread)
          (λ (put : (is_last ≡ true) × (u3 x ≡ y) × ((c : ℕ) → c ≢ x → u3 c ≡ u2 c) × (flags3 ≡ flags2)).
          ap (λ (fs : ℕ → Bool). fs c) put.3 ∙ so.2 c there)
          one),
    )

pub shows_end : (is_last : Bool) (listed : ℕ → List ℕ) (cells : List ℕ) (values : List Value) (i : ℕ)
    (u u2 : Assignment) (flags flags2 : ℕ → Bool) → ShowsPart is_last listed cells values i u u2 flags flags2
    → i ≡ length cells → ShowsAll is_last listed cells values u u2 flags flags2
shows_end is_last listed cells values i u u2 flags flags2 so_far all t v touched level top k m road some within last
    once among is w =
    let so = so_far t v touched level top k m road some within last once among is w in (
      subst (λ q. Walked t v touched (IsPassed level k cells) u2 flags2 (m + q)) all
          (subst (λ xs. Walked t v touched (IsPassed level k xs) u2 flags2 (m + i))
          (take_all i cells (omega (arith, all)))
          so.0),
      so.1,
      so.2,
    )

-- END: the cells of a level that are not due keep their values
module _ (t : State) (listed : ℕ → List ℕ) (v : Assignment) (touched : List ℕ) (level : ℕ → List ℕ) (top k : ℕ)
    (road : Road t listed v touched level top) (some : 0 < k) (within : k ≤ top) (flags flags2 : ℕ → Bool)
    (u2 : Assignment) (m : ℕ) (stay : (c : ℕ) → In (level k) c → flags2 c ≡ flags c)
    (w : Walked t v touched (IsPassed level k (filter flags (level k))) u2 flags2 m) where
  abbrev due : List ℕ
  due = filter flags (level k)

  abbrev Done : ℕ → ℕ → Type 0
  Done n c = IsPassed level k due c ⊎ In (take n (level k)) c

  quiet_more : (n : ℕ) → n < length (level k) → Walked t v touched (Done n) u2 flags2 m
      → Walked t v touched (Done (n + 1)) u2 flags2 m
  quiet_more n lt w2 =
      let x : ℕ = get_or (level k) n 0 in
      let here : In (level k) x = In-place (level k) n 0 lt in
      let longer : take (n + 1) (level k) ≡ take n (level k) ++ x ∷ [] = take_more (level k) n 0 lt in
      let to_end : (c : ℕ) → In (take n (level k)) c ⊎ (c ≡ x) → In (take (n + 1) (level k)) c = λ c p.
      subst (λ xs. In xs c) (sym longer) (⊎_elim
      (λ before. In-pushed (take n (level k)) x c before)
      (λ same. subst (In (take n (level k) ++ x ∷ [])) (sym same) (In-end (take n (level k)) x))
      p) in
      let from_end : (c : ℕ) → In (take (n + 1) (level k)) c → In (take n (level k)) c ⊎ (c ≡ x) = λ c i.
      In-pushed_cases (take n (level k)) x c (subst (λ xs. In xs c) longer i) in
      ⊎_elim
      (λ (on : flags x ≡ true).
      weaker t v touched (Done n) (Done (n + 1)) u2 flags2 m w2
      (λ c p. ⊎_elim (λ q. inl q) (λ before. inr (to_end c (inl before))) p)
      (λ c p. ⊎_elim
      (λ q. inl q)
      (λ i. ⊎_elim
      (λ before. inr before)
      (λ same. inl (inr (subst (In due) (sym same) (In-filter flags (level k) x here on))))
      (from_end c i))
      p))
      (λ (off : flags x ≡ false).
      weaker t v touched (λ c. Done n c ⊎ (c ≡ x)) (Done (n + 1)) u2 flags2 m
      (quiet road.before t v touched road.change (Done n) u2 flags2 m x w2
      (frame t listed v touched level top k road some within x here)
      (λ done. ⊎_elim
      (λ passed. ⊎_elim
      (λ j. not_lower t listed v touched level top k road some within x here j)
      (λ i. true_not_false (flags x) (In-filtered flags (level k) x i).1 off)
      passed)
      (λ before. fresh_place (level k) n 0 (road.levels.once k some within) lt before)
      done)
      (λ q r f. inl (passed_below t listed v touched level top k road some within due x q here r f))
      (stay x here ∙ off))
      (λ c p. ⊎_elim
      (λ q. ⊎_elim (λ passed. inl passed) (λ before. inr (to_end c (inl before))) q)
      (λ same. inr (to_end c (inr same)))
      p)
      (λ c p. ⊎_elim
      (λ passed. inl (inl passed))
      (λ i. ⊎_elim (λ before. inl (inr before)) (λ same. inr same) (from_end c i))
      p))
      (bool_cases (flags x))

  quiet_first : (n : ℕ) → n ≤ length (level k) → Walked t v touched (Done n) u2 flags2 m
  quiet_first zero all =
      weaker t v touched (IsPassed level k due) (Done 0) u2 flags2 m w
      (λ c p. inl p)
      (λ c p. ⊎_elim (λ q. q) (λ i. absurd (let f : false ≡ true = i in cc)) p)
  quiet_first (suc n) all =
      let next : n + 1 ≡ suc n = omega arith in
      subst (λ q. Walked t v touched (Done q) u2 flags2 m) next
      (quiet_more n (omega (arith, all)) (quiet_first n (omega (arith, all))))

  pub quiet_all : Walked t v touched (IsPassed level k (level k)) u2 flags2 m
  quiet_all =
      let whole : take (length (level k)) (level k) ≡ level k = take_all (length (level k)) (level k) (omega arith) in
      weaker t v touched (Done (length (level k))) (IsPassed level k (level k)) u2 flags2 m
      (quiet_first (length (level k)) (omega arith))
      (λ c p. ⊎_elim
      (λ q. ⊎_elim (λ j. inl j) (λ i. inr (In-filtered flags (level k) c i).0) q)
      (λ i. inr (subst (λ xs. In xs c) whole i))
      p)
      (λ c p. ⊎_elim (λ j. inl (inl j)) (λ i. inr (subst (λ xs. In xs c) (sym whole) i)) p)

-- THE LEVEL: its due cells show the values that they have where the cells show what they showed before it
pub level_stepped : (t : State) (listed : ℕ → List ℕ) (cells : List ℕ) (is_last : Bool) (values : List Value)
    (u u2 : Assignment) (flags flags2 : ℕ → Bool) → values ≡ map (λ c. value_of (t c) u) (filter flags cells)
    → ShowsAll is_last listed (filter flags cells) values u u2 flags flags2
    → StepsLevel t listed cells is_last u u2 flags flags2 (length (filter flags cells))
level_stepped t listed cells is_last values u u2 flags flags2 is shown v touched level top k m road some within last
    same w =
    subst
    (λ xs. values ≡ map (λ c. value_of (t c) u) (filter flags xs)
    → ShowsAll is_last listed (filter flags xs) values u u2 flags flags2
    → Walked t v touched (IsPassed level k xs) u2 flags2 (m + length (filter flags xs)))
    same
    (λ is2 shown2.
    let so = shown2 t v touched level top k m road some within last
    (distinct-filter flags (level k) (road.levels.once k some within)) (λ c i. In-filtered flags (level k) c i) is2 w in
    quiet_all t listed v touched level top k road some within flags flags2 u2 (m + length (filter flags (level k))) so.2
    so.0)
    is shown

-- no more cells are due than the level has
pub few_due : (flags : ℕ → Bool) (cells : List ℕ) → length (filter flags cells) ≤ length cells
few_due flags [] = omega arith
few_due flags (c ∷ cells) =
    let few = few_due flags cells in
    ⊎_elim (λ (on : flags c ≡ true). rw on (omega (arith, few)))
    (λ (off : flags c ≡ false). rw off (omega (arith, few)))
    (bool_cases (flags c))

-- THE ONLY CELL of a level, which is due
pub shows_one : (is_last : Bool) (listed : ℕ → List ℕ) (x : ℕ) (y : Value) (u u2 : Assignment) (flags flags2 : ℕ → Bool)
    → ShowsOne is_last x y (listed x) u u2 flags flags2 → ShowsAll is_last listed (x ∷ []) (y ∷ []) u u2 flags flags2
shows_one is_last listed x y u u2 flags flags2 one =
    shows_end is_last listed (x ∷ []) (y ∷ []) 1 u u2 flags flags2
    (shows_more is_last listed (x ∷ []) (y ∷ []) 0 x y y u u u2 flags flags flags2
    (shows_none is_last listed (x ∷ []) (y ∷ []) u flags) (omega arith) refl one)
    refl

filter_on : (flags : ℕ → Bool) (x : ℕ) → flags x ≡ true → filter flags (x ∷ []) ≡ x ∷ []
filter_on flags x on = rw on refl

filter_off : (flags : ℕ → Bool) (x : ℕ) → flags x ≡ false → filter flags (x ∷ []) ≡ []
filter_off flags x off = rw off refl

-- the only cell of a level is due, and shows its value
pub one_stepped : (t : State) (listed : ℕ → List ℕ) (x : ℕ) (is_last : Bool) (u u2 : Assignment)
    (flags flags2 : ℕ → Bool) → flags x ≡ true
    → ShowsAll is_last listed (x ∷ []) (values_at t u (x ∷ [])) u u2 flags flags2
    → StepsLevel t listed (x ∷ []) is_last u u2 flags flags2 1
one_stepped t listed x is_last u u2 flags flags2 on shown =
    let due : filter flags (x ∷ []) ≡ x ∷ [] = filter_on flags x on in
    subst (λ (xs : List ℕ). StepsLevel t listed (x ∷ []) is_last u u2 flags flags2 (length xs)) due
    (level_stepped t listed (x ∷ []) is_last (values_at t u (filter flags (x ∷ []))) u u2 flags flags2 refl
    (subst (λ (xs : List ℕ). ShowsAll is_last listed xs (values_at t u xs) u u2 flags flags2) (sym due) shown))

-- the only cell of a level isn't due
pub none_stepped : (t : State) (listed : ℕ → List ℕ) (x : ℕ) (is_last : Bool) (u : Assignment) (flags : ℕ → Bool)
    → flags x ≡ false → StepsLevel t listed (x ∷ []) is_last u u flags flags 0
none_stepped t listed x is_last u flags off =
    let due : filter flags (x ∷ []) ≡ [] = filter_off flags x off in
    subst (λ (xs : List ℕ). StepsLevel t listed (x ∷ []) is_last u u flags flags (length xs)) due
    (level_stepped t listed (x ∷ []) is_last (values_at t u (filter flags (x ∷ []))) u u flags flags refl
    (subst (λ (xs : List ℕ). ShowsAll is_last listed xs (values_at t u xs) u u flags flags) (sym due)
    (shows_end is_last listed [] [] 0 u u flags flags (shows_none is_last listed [] [] u flags) refl)))
