-- Two lists joined place by place.
use Rattle.std.proofs.Common.{◌≡◌, ℕ, zero, suc, ◌+◌, ◌<◌, ◌≤◌, List, [], ◌∷◌, ◌++◌, length, get_or, take, drop}
use Rattle.std.proofs.Common.{refl, sym, ap, ◌∙◌, arith}
use Rattle.std.proofs.lemmas.List.{get_or_default, length-take, take-append-drop, take_all, take_more}
use Rattle.ps_delta.specs.Places.{joined_places}

module _ {X : Type 0} (f : X → X → X) where
  pub joined_places-none : joined_places f [] [] ≡ []
  unfolding joined_places
  joined_places-none = refl

  -- one more place of both, of the first one past the end of the second one, and the other way round
  push_both : (xs ys : List X) (x y : X) → length xs ≡ length ys
      → joined_places f (xs ++ x ∷ []) (ys ++ y ∷ []) ≡ joined_places f xs ys ++ f x y ∷ []
  unfolding joined_places
  push_both [] [] x y h = refl
  push_both [] (b ∷ ys) x y h = absurd (omega (arith, h))
  push_both (a ∷ xs) [] x y h = absurd (omega (arith, h))
  push_both (a ∷ xs) (b ∷ ys) x y h = ap (λ l. f a b ∷ l) (push_both xs ys x y (omega (arith, h)))

  push_first : (xs ys zs : List X) → length ys ≤ length xs
      → joined_places f (xs ++ zs) ys ≡ joined_places f xs ys ++ zs
  unfolding joined_places
  push_first [] [] [] h = refl
  push_first [] [] (z ∷ zs) h = refl
  push_first [] (b ∷ ys) zs h = absurd (omega (arith, h))
  push_first (a ∷ xs) [] zs h = refl
  push_first (a ∷ xs) (b ∷ ys) zs h = ap (λ l. f a b ∷ l) (push_first xs ys zs (omega (arith, h)))

  push_second : (xs ys : List X) (y : X) → length xs ≤ length ys
      → joined_places f xs (ys ++ y ∷ []) ≡ joined_places f xs ys ++ y ∷ []
  unfolding joined_places
  push_second [] ys y h = refl
  push_second (a ∷ xs) [] y h = absurd (omega (arith, h))
  push_second (a ∷ xs) (b ∷ ys) y h = ap (λ l. f a b ∷ l) (push_second xs ys y (omega (arith, h)))

  length_first : (xs ys : List X) (i : ℕ) → i < length xs → i < length ys → length (take i xs) ≡ length (take i ys)
  length_first xs ys i hx hy = length-take i xs ∙ omega (arith, hx, hy) ∙ sym (length-take i ys)

  pub both-more : (xs ys : List X) (i : ℕ) (x y : X) → i < length xs → i < length ys → x ≡ get_or xs i x
      → y ≡ get_or ys i y
      → joined_places f (take (i + 1) xs) (take (i + 1) ys) ≡ joined_places f (take i xs) (take i ys) ++ f x y ∷ []
  both-more xs ys i x y hx hy is_x is_y =
      (λ k. joined_places f (take_more xs i x hx k) (take_more ys i y hy k))
      ∙ sym (λ k. joined_places f (take i xs ++ is_x k ∷ []) (take i ys ++ is_y k ∷ []))
      ∙ push_both (take i xs) (take i ys) x y (length_first xs ys i hx hy)

  pub first-more : (xs ys : List X) (i : ℕ) (x : X) → i < length xs → length ys ≤ i → x ≡ get_or xs i x
      → joined_places f (take (i + 1) xs) (take (i + 1) ys) ≡ joined_places f (take i xs) (take i ys) ++ x ∷ []
  first-more xs ys i x hx hy is_x =
      (λ k. joined_places f (take_more xs i x hx k) (take_all (i + 1) ys (omega (arith, hy)) k))
      ∙ sym (λ k. joined_places f (take i xs ++ is_x k ∷ []) (take_all i ys hy k))
      ∙ push_first (take i xs) (take i ys) (x ∷ [])
      (omega (arith, length-take i xs, length-take i ys, hx))

  pub second-more : (xs ys : List X) (i : ℕ) (y : X) → length xs ≤ i → i < length ys → y ≡ get_or ys i y
      → joined_places f xs (take (i + 1) ys) ≡ joined_places f xs (take i ys) ++ y ∷ []
  second-more xs ys i y hx hy is_y =
      ap (joined_places f xs) (take_more ys i y hy ∙ sym (ap (λ d. take i ys ++ d ∷ []) is_y))
      ∙ push_second xs (take i ys) y (omega (arith, length-take i ys, hx, hy))

  -- a join is no shorter than either list
  pub length-joined : (xs ys : List X) → length ys ≤ length (joined_places f xs ys)
  unfolding joined_places
  length-joined [] ys = omega arith
  length-joined (x ∷ xs) [] = omega arith
  length-joined (x ∷ xs) (y ∷ ys) = let rest = length-joined xs ys in omega (arith, rest)

  at_both : (xs ys : List X) (i : ℕ) (d : X) → i < length xs → i < length ys
      → get_or (joined_places f xs ys) i d ≡ f (get_or xs i d) (get_or ys i d)
  unfolding joined_places
  at_both [] ys i d hx hy = absurd (omega (arith, hx))
  at_both (x ∷ xs) [] i d hx hy = absurd (omega (arith, hy))
  at_both (x ∷ xs) (y ∷ ys) zero d hx hy = refl
  at_both (x ∷ xs) (y ∷ ys) (suc i) d hx hy = at_both xs ys i d (omega (arith, hx)) (omega (arith, hy))

  -- where the join changes nothing, it changes nothing at a place
  pub same_at_place : (xs ys : List X) (i : ℕ) (x y : X) → i < length xs → i < length ys
      → x ≡ get_or xs i x → y ≡ get_or ys i y → joined_places f ys xs ≡ ys → f y x ≡ y
  same_at_place xs ys i x y hx hy is_x is_y same =
      (λ k. f (is_y k) ((is_x ∙ get_or_default xs i x y hx) k)) ∙ sym (at_both ys xs i y hy hx)
      ∙ ap (λ l. get_or l i y) same ∙ sym is_y

  -- one more place at which the join changes nothing
  pub same-more : (xs ys : List X) (i : ℕ) (x y : X) → i < length xs → i < length ys → x ≡ get_or xs i x
      → y ≡ get_or ys i y → f y x ≡ y → joined_places f (take i ys) (take i xs) ≡ take i ys
      → joined_places f (take (i + 1) ys) (take (i + 1) xs) ≡ take (i + 1) ys
  same-more xs ys i x y hx hy is_x is_y below so_far =
      both-more ys xs i y x hy hx is_y is_x ∙ (λ k. so_far k ++ below k ∷ []) ∙ ap (λ d. take i ys ++ d ∷ []) is_y
      ∙ sym (take_more ys i y hy)

  -- what comes after the end of the shorter list stays
  pub same-all : (xs ys : List X) (i : ℕ) → length xs ≤ i → length xs ≤ length ys
      → joined_places f (take i ys) (take i xs) ≡ take i ys → joined_places f ys xs ≡ ys
  same-all xs ys i hx hy same =
      (λ k. joined_places f (sym (take-append-drop i ys) k) xs)
      ∙ push_first (take i ys) xs (drop i ys) (omega (arith, length-take i ys, hx, hy))
      ∙ ap (λ l. l ++ drop i ys) (ap (joined_places f (take i ys)) (sym (take_all i xs hx)) ∙ same)
      ∙ take-append-drop i ys

  pub length-same : (xs ys : List X) → length xs ≡ length ys → length (joined_places f xs ys) ≡ length xs
  unfolding joined_places
  length-same [] ys h = sym h
  length-same (x ∷ xs) [] h = refl
  length-same (x ∷ xs) (y ∷ ys) h = ap suc (length-same xs ys (omega (arith, h)))
