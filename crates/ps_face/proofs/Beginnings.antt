-- Beginnings of one list.
use Rattle.std.proofs.Common.{◌≡◌, ◌≤◌, List, [], ◌∷◌, ◌++◌, length, refl, ap, sym, ◌∙◌, arith, append_assoc}
use mathlib.Core.List.{IsPrefix}

-- each list begins with itself
pub begins_itself : {A : Type 0} (xs : List A) → IsPrefix xs xs
begins_itself [] = ([], refl)
begins_itself (x ∷ xs) = let rest = begins_itself xs in (rest.0, ap (λ ys. x ∷ ys) rest.1)

pub begins_trans : {A : Type 0} (xs ys zs : List A) → IsPrefix xs ys → IsPrefix ys zs → IsPrefix xs zs
begins_trans xs ys zs p q = (p.0 ++ q.0, sym (append_assoc xs p.0 q.0) ∙ (ap (λ w. w ++ q.0) p.1 ∙ q.1))

-- the shorter of two beginnings of one list is a beginning of the longer
pub begins_longer : {A : Type 0} (xs ys zs : List A) → IsPrefix xs zs → IsPrefix ys zs → length xs ≤ length ys
    → IsPrefix xs ys
begins_longer [] ys zs p q le = (ys, refl)
begins_longer (x ∷ xs) [] zs p q le = absurd (omega arith)
begins_longer (x ∷ xs) (y ∷ ys) [] p q le = absurd (cc (p.1))
begins_longer (x ∷ xs) (y ∷ ys) (z ∷ zs) p q le =
    let heads : x ≡ y = cc (p.1, q.1) in
    let rest = begins_longer xs ys zs (p.0, cc (p.1)) (q.0, cc (q.1)) (omega arith) in
    (rest.0, cc (heads, rest.1))

-- a beginning as long as the whole is the whole
pub begins_whole : {A : Type 0} (xs ys : List A) → IsPrefix xs ys → length ys ≤ length xs → xs ≡ ys
begins_whole [] [] p le = refl
begins_whole [] (y ∷ ys) p le = absurd (omega arith)
begins_whole (x ∷ xs) [] p le = absurd (cc (p.1))
begins_whole (x ∷ xs) (y ∷ ys) p le =
    let rest = begins_whole xs ys (p.0, cc (p.1)) (omega arith) in cc (p.1, rest)
