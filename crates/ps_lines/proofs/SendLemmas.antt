-- Pieces that are sent one after another.
use Rattle.std.proofs.Common.{◌≡◌, ◌+◌, ◌<◌, ℕ, suc, List, [], ◌∷◌, ◌++◌, length, take, drop, flat_map, Option}
use Rattle.std.proofs.Common.{sym, ap, subst, ◌∙◌, arith, append_assoc, append-nil, length-append}
use Rattle.std.specs.Io.KnownBytes.{Appends}
use Rattle.std.proofs.lemmas.List.{take-append-le, take-append-drop}
use Rattle.std.proofs.lemmas.Grind.{flat_map-append}
use Rattle.std.proofs.Math.Seq.{take-suc}
use Rattle.std.proofs.Math.ListN.{get_or}
use Rattle.ps_device.proofs.DeviceLemmas.{cut_after}

-- a cut in the first piece is a cut in both
pub cut_first : (old new : Option (List ℕ)) (first second : List ℕ) → (count : ℕ) × (count < length first)
    × Appends old new (take count first)
    → (count : ℕ) × (count < length (first ++ second)) × Appends old new (take count (first ++ second))
cut_first old new first second p =
    (p.0, simp length-append (omega (arith, p.1)), rw (take-append-le p.0 first second (omega (arith, p.1))) p.2)

flat_map-take : {X : Type 0} (f : X → List ℕ) (xs : List X) (i : ℕ) (d : X) → i < length xs
    → flat_map f (take (i + 1) xs) ≡ flat_map f (take i xs) ++ f (get_or xs i d)
flat_map-take f xs i d lt =
    let next : i + 1 ≡ suc i = omega arith in
    ap (λ n. flat_map f (take n xs)) next ∙ ap (flat_map f) (take-suc xs i d lt)
    ∙ flat_map-append f (take i xs) (get_or xs i d ∷ [])
    ∙ ap (λ t. flat_map f (take i xs) ++ t) (append-nil (f (get_or xs i d)))

flat_map-split : {X : Type 0} (f : X → List ℕ) (xs : List X) (i : ℕ) (d : X) → i < length xs
    → flat_map f xs ≡ flat_map f (take i xs) ++ (f (get_or xs i d) ++ flat_map f (drop (i + 1) xs))
flat_map-split f xs i d lt =
    ap (flat_map f) (sym (take-append-drop (i + 1) xs)) ∙ flat_map-append f (take (i + 1) xs) (drop (i + 1) xs)
    ∙ ap (λ t. t ++ flat_map f (drop (i + 1) xs)) (flat_map-take f xs i d lt)
    ∙ append_assoc (flat_map f (take i xs)) (f (get_or xs i d)) (flat_map f (drop (i + 1) xs))

-- one more piece, cut
pub pieces_cut : {X : Type 0} (f : X → List ℕ) (xs : List X) (i : ℕ) (d : X) (old middle new : Option (List ℕ))
    → i < length xs
    → Appends old middle (flat_map f (take i xs))
    → (count : ℕ) × (count < length (f (get_or xs i d))) × Appends middle new (take count (f (get_or xs i d)))
    → (count : ℕ) × (count < length (flat_map f xs)) × Appends old new (take count (flat_map f xs))
pieces_cut f xs i d old middle new lt p q =
    let rest : List ℕ = flat_map f (drop (i + 1) xs) in
    subst (λ t. (count : ℕ) × (count < length t) × Appends old new (take count t)) (sym (flat_map-split f xs i d lt))
    (cut_after old middle new (flat_map f (take i xs)) (f (get_or xs i d) ++ rest) p (cut_first middle new (f
    (get_or xs i d)) rest q))
