-- What in a list of entries is new to another list.
use Rattle.std.proofs.Common.{◌≡◌, ℕ, Bool, true, false, cond, ◌&&◌, List, [], ◌∷◌}
use Rattle.std.proofs.Common.{Option, Some, None, refl, sym, ap, ◌∙◌, subst, arith, ◌||◌, nat_le, unwrap_or}
use Rattle.std.specs.Prelude.{if◌then◌else◌}
use Rattle.std.proofs.lemmas.Bool.Decides.{nat_tests}
use Rattle.ps_lattice.specs.declared.choice.Pair.{Pair}
use Rattle.ps_lattice.specs.declared.tally.Count.{Count}
use Rattle.ps_lattice.specs.declared.limits.TheConstants.{COUNT_LIMIT}
use Rattle.ps_lattice.specs.Limits.{is_replica}
use Rattle.ps_lattice.specs.Choice.{is_pair}
use Rattle.ps_lattice.specs.Tally.{is_count}
use Rattle.std.specs.List.{list_all}
use Rattle.std.specs.declared.cmp.Ordering.{Ordering}
use Rattle.std.specs.Ordering.{eq_by_cmp, is_lt}
use Rattle.std.specs.Cmp.{IsTotalOrder, Equal-is}
use Rattle.std.specs.FinMap as map
use Rattle.std.specs.FinMap.{IsAntisymmetric, get-from_sorted}
use Rattle.std.specs.FinMap.Entries.{below_all, find_tied}
use Rattle.ps_lattice.specs.Maps.{both_of, joined_maps}
use Rattle.ps_lattice.specs.News.{IsNewsOf}
use Rattle.ps_lattice.specs.NewsLaws.{both_of-None, maps_news}
use Rattle.ps_lattice.specs.Inside.News.{kept_before, news_entries, newer_mark, newer_total, newer_count}
use Rattle.ps_lattice.proofs.Rising.{to_T, and_left, and_right, and_both, sorted_head, sorted_rest, find_tied_below}

module _ {K X : Type 0} (R : K → K → Ordering) (g : Option X → X → Option X) where
  below_kept : (k : K) (e : K × X) (rest : List (K × X)) (v : Option X) → is_lt (R k e.0) ≡ true
      → below_all R k rest ≡ true → below_all R k (kept_before e.0 v rest) ≡ true
  below_kept k e rest None less h = h
  below_kept k e rest (Some x) less h = and_both (is_lt (R k e.0)) (below_all R k rest) less h

  -- what is below each key of the list is below each key of what is new of it
  below_news : (k : K) (mine theirs : List (K × X)) → below_all R k theirs ≡ true
      → below_all R k (news_entries R g mine theirs) ≡ true
  below_news k mine [] h = refl
  below_news k mine (e ∷ es) h =
      below_kept k e (news_entries R g mine es) (g (map.find R e.0 mine) e.1)
      (and_left (is_lt (R k e.0)) (below_all R k es) h)
      (below_news k mine es (and_right (is_lt (R k e.0)) (below_all R k es) h))

  sorted_kept : (e : K × X) (rest : List (K × X)) (v : Option X) → below_all R e.0 rest ≡ true
      → map.is_sorted R rest ≡ true → map.is_sorted R (kept_before e.0 v rest) ≡ true
  sorted_kept e rest None below h = h
  sorted_kept e rest (Some x) below h = and_both (below_all R e.0 rest) (map.is_sorted R rest) below h

  -- a fact of each entry that doesn't end with what is new of it
  module _ (fits : K × X → Bool)
      (keeps : (there : Option X) (e : K × X) (x : X) → fits e ≡ true → g there e.1 ≡ Some x → fits (e.0, x) ≡ true)
    where
      all_kept : (e : K × X) (rest : List (K × X)) (v : Option X) → ((x : X) → v ≡ Some x → fits (e.0, x) ≡ true)
          → list_all fits rest ≡ true → list_all fits (kept_before e.0 v rest) ≡ true
      all_kept e rest None one h = h
      all_kept e rest (Some x) one h = and_both (fits (e.0, x)) (list_all fits rest) (one x refl) h

      pub all_news : (mine theirs : List (K × X)) → list_all fits theirs ≡ true
          → list_all fits (news_entries R g mine theirs) ≡ true
      all_news mine [] h = refl
      all_news mine (e ∷ es) h =
          all_kept e (news_entries R g mine es) (g (map.find R e.0 mine) e.1)
          (λ x is. keeps (map.find R e.0 mine) e x (and_left (fits e) (list_all fits es) h) is)
          (all_news mine es (and_right (fits e) (list_all fits es) h))

  module _ (o : IsTotalOrder R) where
    pub sorted_news : (mine theirs : List (K × X)) → map.is_sorted R theirs ≡ true
        → map.is_sorted R (news_entries R g mine theirs) ≡ true
    sorted_news mine [] h = refl
    sorted_news mine (e ∷ es) h =
        sorted_kept e (news_entries R g mine es) (g (map.find R e.0 mine) e.1)
        (below_news e.0 mine es (sorted_head R o e es h))
        (sorted_news mine es (sorted_rest R o e es h))

    find_here : (q : K) (e : K × X) (rest : List (K × X)) (v : Option X) → eq_by_cmp R q e.0 ≡ true
        → below_all R e.0 rest ≡ true → v ≡ map.find R q (kept_before e.0 v rest)
    find_here q e rest None tied below = sym (find_tied_below R o q e.0 rest tied below)
    find_here q e rest (Some x) tied below = sym (ap (λ b. cond b (Some x) (map.find R q rest)) tied)

    find_there : (q : K) (e : K × X) (rest : List (K × X)) (v : Option X) → eq_by_cmp R q e.0 ≡ false
        → map.find R q rest ≡ map.find R q (kept_before e.0 v rest)
    find_there q e rest None apart = refl
    find_there q e rest (Some x) apart = sym (ap (λ b. cond b (Some x) (map.find R q rest)) apart)

    module _ (f : X → X → X)
        (is_news : (there : Option X) (value : X) → IsNewsOf (both_of f) there (Some value) (g there value)) where
      news_step : (q : K) (mine : List (K × X)) (e : K × X) (es : List (K × X)) → map.is_sorted R (e ∷ es) ≡ true
          → IsNewsOf (both_of f) (map.find R q mine) (map.find R q es) (map.find R q (news_entries R g mine es))
          → (b : Bool) → eq_by_cmp R q e.0 ≡ b
          → IsNewsOf (both_of f) (map.find R q mine) (cond b (Some e.1) (map.find R q es))
          (map.find R q (news_entries R g mine (e ∷ es)))
      news_step q mine e es h before true tied =
          let new = g (map.find R e.0 mine) e.1 in
          subst (λ v. IsNewsOf (both_of f) (map.find R q mine) (Some e.1) v)
          (find_here q e (news_entries R g mine es) new tied (below_news e.0 mine es (sorted_head R o e es h)))
          (subst (λ v. IsNewsOf (both_of f) v (Some e.1) new)
          (find_tied R o q e.0 ((Equal-is (R q e.0)).0 tied) mine)
          (is_news (map.find R e.0 mine) e.1))
      news_step q mine e es h before false apart =
          subst (λ v. IsNewsOf (both_of f) (map.find R q mine) (map.find R q es) v)
          (find_there q e (news_entries R g mine es) (g (map.find R e.0 mine) e.1) apart) before

      -- the value at a key of the result is the new part of the value at that key
      find_news : (q : K) (mine theirs : List (K × X)) → map.is_sorted R theirs ≡ true
          → IsNewsOf (both_of f) (map.find R q mine) (map.find R q theirs)
          (map.find R q (news_entries R g mine theirs))
      find_news q mine [] h = record { same = refl; least = λ m same. both_of-None f m }
      find_news q mine (e ∷ es) h =
          news_step q mine e es h (find_news q mine es (sorted_rest R o e es h)) (eq_by_cmp R q e.0) refl

      seen_at : (q : K) (es : List (K × X)) → map.is_sorted R es ≡ true
          → map.find R q es ≡ map.get (map.from_sorted {R = R} es) q
      seen_at q es h = sym (get-from_sorted R es q (to_T _ h))

      pub news_at : (mine theirs : List (K × X)) → map.is_sorted R mine ≡ true → map.is_sorted R theirs ≡ true → (q : K)
          → IsNewsOf (both_of f) (map.get (map.from_sorted {R = R} mine) q) (map.get (map.from_sorted {R = R} theirs) q)
          (map.get (map.from_sorted {R = R} (news_entries R g mine theirs)) q)
      news_at mine theirs hm ht q =
          subst (λ v. IsNewsOf (both_of f) v (map.get (map.from_sorted {R = R} theirs) q)
          (map.get (map.from_sorted {R = R} (news_entries R g mine theirs)) q)) (seen_at q mine hm)
          (subst (λ v. IsNewsOf (both_of f) (map.find R q mine) v
          (map.get (map.from_sorted {R = R} (news_entries R g mine theirs)) q)) (seen_at q theirs ht)
          (subst (λ v. IsNewsOf (both_of f) (map.find R q mine) (map.find R q theirs) v)
          (seen_at q (news_entries R g mine theirs) (sorted_news mine theirs ht))
          (find_news q mine theirs ht)))

      -- as a map, the result is what is new in the map of the second list
      pub seen_news : IsAntisymmetric R → (mine theirs news : List (K × X)) (s d : map.FinMap R X)
          → map.is_sorted R mine ≡ true → map.is_sorted R theirs ≡ true
          → news ≡ news_entries R g mine theirs → map.from_sorted mine ≡ s → map.from_sorted theirs ≡ d
          → IsNewsOf (joined_maps f) s d (map.from_sorted news)
      seen_news same mine theirs news s d hm ht is seen_mine seen_theirs =
          subst (λ v. IsNewsOf (joined_maps f) v d (map.from_sorted news)) seen_mine
          (subst (λ v. IsNewsOf (joined_maps f) (map.from_sorted mine) v (map.from_sorted news)) seen_theirs
          (subst (λ es. IsNewsOf (joined_maps f) (map.from_sorted {R = R} mine) (map.from_sorted {R = R} theirs)
          (map.from_sorted {R = R} es)) (sym is)
          (maps_news R f o same _ _ _ (news_at mine theirs hm ht))))

module _ {K X : Type 0} (R : K → K → Ordering) (g : Option X → X → Option X) (o : IsTotalOrder R)
    (fits : K × X → Bool)
    (keeps : (there : Option X) (e : K × X) (x : X) → fits e ≡ true → g there e.1 ≡ Some x → fits (e.0, x) ≡ true)
  where
    -- what is new of entries in order and in range is in order and in range
    pub news_in_range : (mine theirs news : List (K × X)) → (map.is_sorted R theirs && list_all fits theirs) ≡ true
        → news ≡ news_entries R g mine theirs → (map.is_sorted R news && list_all fits news) ≡ true
    news_in_range mine theirs news h is =
        ap (λ es. map.is_sorted R es && list_all fits es) is
        ∙ and_both (map.is_sorted R (news_entries R g mine theirs)) (list_all fits (news_entries R g mine theirs))
        (sorted_news R g o mine theirs (and_left (map.is_sorted R theirs) (list_all fits theirs) h))
        (all_news R g fits keeps mine theirs (and_right (map.is_sorted R theirs) (list_all fits theirs) h))

-- a pair that is new is in range
pub mark_fits : (there : Option Bool) (e : Pair × Bool) (x : Bool) → is_pair e ≡ true → newer_mark there e.1 ≡ Some x
    → is_pair (e.0, x) ≡ true
mark_fits there e x h is = h

total_fits : (x y n : ℕ) → nat_le y n ≡ true → nat_le (newer_total x y) n ≡ true
total_fits x y n h = grind (arith, nat_tests)

one_above : (x y u v : ℕ) → (nat_le y x && nat_le v u) ≡ false
    → (nat_le 1 (newer_total x y) || nat_le 1 (newer_total u v)) ≡ true
one_above x y u v h = grind (arith, nat_tests)

some_is : {X : Type 0} (a b : X) → Some a ≡ Some b → a ≡ b
some_is a b h = ap (λ o. unwrap_or o a) h

above_fits : (e : ℕ × Count) (t x : Count) (b : Bool)
    → (nat_le e.1.added t.added && nat_le e.1.subtracted t.subtracted) ≡ b
    → is_count e ≡ true
    → (if b then None else Some (record {
      added = newer_total t.added e.1.added;
      subtracted = newer_total t.subtracted e.1.subtracted;
    })) ≡ Some x → is_count (e.0, x) ≡ true
above_fits e t x true covered h is = cc
above_fits e t x false apart h is =
    let replica = is_replica e.0 in
    let added = nat_le e.1.added COUNT_LIMIT in
    let subtracted = nat_le e.1.subtracted COUNT_LIMIT in
    let some = nat_le 1 e.1.added || nat_le 1 e.1.subtracted in
    let all = and_left ((replica && added) && subtracted) some h in
    let two = and_left (replica && added) subtracted all in
    ap (λ c. is_count (e.0, c)) (sym (some_is _ _ is))
    ∙ and_both _ _
    (and_both _ _
    (and_both _ _ (and_left replica added two)
    (total_fits t.added e.1.added COUNT_LIMIT (and_right replica added two)))
    (total_fits t.subtracted e.1.subtracted COUNT_LIMIT (and_right (replica && added) subtracted all)))
    (one_above t.added e.1.added t.subtracted e.1.subtracted apart)

-- counts that are new are in range
pub count_fits : (there : Option Count) (e : ℕ × Count) (x : Count) → is_count e ≡ true
    → newer_count there e.1 ≡ Some x → is_count (e.0, x) ≡ true
count_fits None e x h is = ap (λ c. is_count (e.0, c)) (sym (some_is _ _ is)) ∙ h
count_fits (Some t) e x h is = above_fits e t x _ refl h is
