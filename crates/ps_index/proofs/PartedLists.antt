-- Lists with free places in them.
use Rattle.std.proofs.Common.{◌≡◌, ℕ, ◌+◌, ◌-◌, ◌<◌, ◌≤◌, inl, inr, sym, ◌∙◌, ap, arith, List, length, get_or, set}
use Rattle.std.proofs.Common.{take, drop, ◌++◌}
use Rattle.std.specs.List.{insert, remove}
use Rattle.std.proofs.lemmas.Bool.{cases_lt}
use Rattle.std.proofs.lemmas.List.{get_or-append_right, get_or-drop, get_or-set_other, get_or-set_same}
use Rattle.std.proofs.lemmas.List.{get_or-take, get_or_append_left, length-append, length-drop, length-set}
use Rattle.std.proofs.lemmas.List.{length-take-le, same_lists}
use Rattle.std.proofs.lemmas.List.Edits.{get_or-insert_above, get_or-insert_at, get_or-insert_below, length-insert}
use Rattle.std.proofs.lemmas.List.Edits.{get_or-remove_above, get_or-remove_below, length-remove}
use Rattle.ps_index.specs.declared.span.Span.{Span}
use Rattle.ps_index.specs.Inside.Parted.{parted}

-- its length
pub length-parted : (xs : List Span) (f n : ℕ) → f + n ≤ length xs → length (parted xs f n) + n ≡ length xs
unfolding parted
length-parted xs f n le =
    let a : length (take f xs) ≡ f = length-take-le f xs (omega arith) in
    let b : length (drop (f + n) xs) ≡ length xs - (f + n) = length-drop (f + n) xs in
    let c : length (take f xs ++ drop (f + n) xs) ≡ length (take f xs) + length (drop (f + n) xs) =
    length-append (take f xs) (drop (f + n) xs) in
    omega (arith, a, b, c)

-- the spans before the free places, and those after them
pub parted_front : (xs : List Span) (f n i : ℕ) (d : Span) → f + n ≤ length xs → i < f
    → get_or (parted xs f n) i d ≡ get_or xs i d
unfolding parted
parted_front xs f n i d le lt =
    let a : length (take f xs) ≡ f = length-take-le f xs (omega arith) in
    get_or_append_left (take f xs) (drop (f + n) xs) d i (omega (arith, a)) ∙ get_or-take f xs i d lt

pub parted_back : (xs : List Span) (f n i : ℕ) (d : Span) → f + n ≤ length xs → f ≤ i
    → get_or (parted xs f n) i d ≡ get_or xs (i + n) d
unfolding parted
parted_back xs f n i d le ge =
    let a : length (take f xs) ≡ f = length-take-le f xs (omega arith) in
    let e : f + n + (i - f) ≡ i + n = omega arith in
    get_or-append_right (take f xs) (drop (f + n) xs) f i d a ge ∙ get_or-drop (f + n) xs (i - f) d
    ∙ ap (λ j. get_or xs j d) e

-- the free places move, and the spans between go to the other side of them
pub moved_down : (xs ys : List Span) (f n t : ℕ) → f + n ≤ length xs → t < f → length ys ≡ length xs
    → ((k : ℕ) (d : Span) → t + n ≤ k → k < t + n + (f - t) → get_or ys k d ≡ get_or xs (t + (k - (t + n))) d)
    → ((k : ℕ) (d : Span) → k < t + n → get_or ys k d ≡ get_or xs k d)
    → ((k : ℕ) (d : Span) → t + n + (f - t) ≤ k → get_or ys k d ≡ get_or xs k d)
    → parted ys t n ≡ parted xs f n
moved_down xs ys f n t le lt len copied before after =
    let a : length (parted ys t n) + n ≡ length ys = length-parted ys t n (omega arith) in
    let b : length (parted xs f n) + n ≡ length xs = length-parted xs f n le in
    same_lists (parted ys t n) (parted xs f n) (omega (arith, a, b, len))
    (λ (k : ℕ) (d : Span) (within : k < length (parted ys t n)). elim (cases_lt k t) [
      | inl l ↦ parted_front ys t n k d (omega arith) l ∙ before k d (omega arith)
          ∙ sym (parted_front xs f n k d le (omega arith))
      | inr g ↦ (elim (cases_lt k f) [
        | inl l ↦ (let e : t + (k + n - (t + n)) ≡ k = omega arith in parted_back ys t n k d (omega arith) g
            ∙ copied (k + n) d (omega arith) (omega arith) ∙ ap (λ j. get_or xs j d) e
            ∙ sym (parted_front xs f n k d le l))
        | inr h ↦ parted_back ys t n k d (omega arith) g ∙ after (k + n) d (omega arith)
            ∙ sym (parted_back xs f n k d le h)
      ])
    ])

pub moved_up : (xs ys : List Span) (f n t : ℕ) → f ≤ t → t + n ≤ length xs → length ys ≡ length xs
    → ((k : ℕ) (d : Span) → f ≤ k → k < f + (t + n - (f + n)) → get_or ys k d ≡ get_or xs (f + n + (k - f)) d)
    → ((k : ℕ) (d : Span) → k < f → get_or ys k d ≡ get_or xs k d)
    → ((k : ℕ) (d : Span) → f + (t + n - (f + n)) ≤ k → get_or ys k d ≡ get_or xs k d)
    → parted ys t n ≡ parted xs f n
moved_up xs ys f n t lt le len copied before after =
    let a : length (parted ys t n) + n ≡ length ys = length-parted ys t n (omega arith) in
    let b : length (parted xs f n) + n ≡ length xs = length-parted xs f n (omega arith) in
    same_lists (parted ys t n) (parted xs f n) (omega (arith, a, b, len))
    (λ (k : ℕ) (d : Span) (within : k < length (parted ys t n)). elim (cases_lt k f) [
      | inl l ↦ parted_front ys t n k d (omega arith) (omega arith) ∙ before k d l
          ∙ sym (parted_front xs f n k d (omega arith) l)
      | inr g ↦ (elim (cases_lt k t) [
        | inl l ↦ (let e : f + n + (k - f) ≡ k + n = omega arith in parted_front ys t n k d (omega arith) l
            ∙ copied k d g (omega arith) ∙ ap (λ j. get_or xs j d) e
            ∙ sym (parted_back xs f n k d (omega arith) g))
        | inr h ↦ parted_back ys t n k d (omega arith) h ∙ after (k + n) d (omega arith)
            ∙ sym (parted_back xs f n k d (omega arith) g)
      ])
    ])

-- a span is written into the first free place
pub parted_put : (xs : List Span) (i n : ℕ) (x : Span) → 0 < n → i + n ≤ length xs
    → parted (set xs i x) (i + 1) (n - 1) ≡ insert (parted xs i n) i x
parted_put xs i n x some le =
    let s : length (set xs i x) ≡ length xs = length-set xs i x in
    let a : length (parted (set xs i x) (i + 1) (n - 1)) + (n - 1) ≡ length (set xs i x) =
    length-parted (set xs i x) (i + 1) (n - 1) (omega arith) in
    let b : length (parted xs i n) + n ≡ length xs = length-parted xs i n le in
    let c : length (insert (parted xs i n) i x) ≡ length (parted xs i n) + 1 =
    length-insert (parted xs i n) i x (omega (arith, b)) in
    same_lists (parted (set xs i x) (i + 1) (n - 1)) (insert (parted xs i n) i x) (omega (arith, a, b, c, s))
    (λ (k : ℕ) (d : Span) (within : k < length (parted (set xs i x) (i + 1) (n - 1))). elim (cases_lt k i) [
      | inl l ↦ parted_front (set xs i x) (i + 1) (n - 1) k d (omega (arith, s)) (omega arith)
          ∙ get_or-set_other xs i k x d (omega arith) ∙ sym (parted_front xs i n k d le l)
          ∙ sym (get_or-insert_below (parted xs i n) i x d k l (omega (arith, b)))
      | inr g ↦ (elim (cases_lt i k) [
        | inl l ↦ (let e : k + (n - 1) ≡ (k - 1) + n = omega arith in
            let up : (k - 1) + 1 ≡ k = omega arith in
            parted_back (set xs i x) (i + 1) (n - 1) k d (omega (arith, s)) (omega arith)
            ∙ get_or-set_other xs i (k + (n - 1)) x d (omega arith) ∙ ap (λ j. get_or xs j d) e
            ∙ sym (parted_back xs i n (k - 1) d le (omega arith))
            ∙ sym (get_or-insert_above (parted xs i n) i x d (k - 1) (omega arith) (omega (arith, b)))
            ∙ ap (λ j. get_or (insert (parted xs i n) i x) j d) up)
        | inr h ↦ (let here : k ≡ i = omega arith in
            ap (λ j. get_or (parted (set xs i x) (i + 1) (n - 1)) j d) here
            ∙ parted_front (set xs i x) (i + 1) (n - 1) i d (omega (arith, s)) (omega arith)
            ∙ get_or-set_same xs i x d (omega arith)
            ∙ sym (get_or-insert_at (parted xs i n) i x d (omega (arith, b)))
            ∙ ap (λ j. get_or (insert (parted xs i n) i x) j d) (sym here))
      ])
    ])

-- the place of the span after the free ones becomes free
pub parted_taken : (xs : List Span) (i n : ℕ) → i + n < length xs
    → parted xs i (n + 1) ≡ remove (parted xs i n) i
parted_taken xs i n lt =
    let a : length (parted xs i (n + 1)) + (n + 1) ≡ length xs = length-parted xs i (n + 1) (omega arith) in
    let b : length (parted xs i n) + n ≡ length xs = length-parted xs i n (omega arith) in
    let c : length (remove (parted xs i n) i) + 1 ≡ length (parted xs i n) =
    length-remove (parted xs i n) i (omega (arith, b)) in
    same_lists (parted xs i (n + 1)) (remove (parted xs i n) i) (omega (arith, a, b, c))
    (λ (k : ℕ) (d : Span) (within : k < length (parted xs i (n + 1))). elim (cases_lt k i) [
      | inl l ↦ parted_front xs i (n + 1) k d (omega arith) l ∙ sym (parted_front xs i n k d (omega arith) l)
          ∙ sym (get_or-remove_below (parted xs i n) i d k l (omega (arith, b)))
      | inr g ↦ (let e : k + (n + 1) ≡ k + 1 + n = omega arith in
          parted_back xs i (n + 1) k d (omega arith) g ∙ ap (λ j. get_or xs j d) e
          ∙ sym (parted_back xs i n (k + 1) d (omega arith) (omega arith))
          ∙ sym (get_or-remove_above (parted xs i n) i d k g (omega (arith, b))))
    ])

-- new places behind a list without free ones are free
pub parted_longer : (xs ys : List Span) (f n : ℕ) → f ≤ length xs → length ys ≡ length xs + n
    → ((k : ℕ) (d : Span) → k < length xs → get_or ys k d ≡ get_or xs k d)
    → parted ys (length xs) n ≡ parted xs f 0
parted_longer xs ys f n le len same =
    let a : length (parted ys (length xs) n) + n ≡ length ys = length-parted ys (length xs) n (omega (arith, len)) in
    let b : length (parted xs f 0) + 0 ≡ length xs = length-parted xs f 0 (omega arith) in
    same_lists (parted ys (length xs) n) (parted xs f 0) (omega (arith, a, b, len))
    (λ (k : ℕ) (d : Span) (within : k < length (parted ys (length xs) n)).
    parted_front ys (length xs) n k d (omega (arith, len)) (omega (arith, a, len))
    ∙ same k d (omega (arith, a, len)) ∙ elim (cases_lt k f) [
      | inl l ↦ sym (parted_front xs f 0 k d (omega arith) l)
      | inr g ↦ (let e : k ≡ k + 0 = omega arith in
          ap (λ j. get_or xs j d) e ∙ sym (parted_back xs f 0 k d (omega arith) g))
    ])
