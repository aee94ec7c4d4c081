-- The passes of a desk that was just opened.
use Rattle.std.proofs.Common.{◌≡◌, ◌≢◌, ◌∙◌, ℕ, zero, suc, List, [], ◌∷◌, All, Option, Some, None, length, arith}
use Rattle.std.proofs.Common.{length-append, refl, subst}
use Rattle.std.specs.Prelude.{IfNone, IfSome, IsSome}
use Rattle.std.proofs.lemmas.List.Elements.{All-nil, All-push}
use Rattle.ps_face.specs.declared.patch.Note.{Note}
use Rattle.ps_desk.specs.Opening.{new_pass, new_passes}
use Rattle.ps_desk.specs.Passes.{PassView}

pub count : (n : ℕ) → length (new_passes n) ≡ n
unfolding new_passes
count zero = refl
count (suc n) = omega (arith, count n, length-append (new_passes n) (new_pass n ∷ []))

pub nothing_seen : (n : ℕ) → All (λ (p : PassView). p.list ≡ []) (new_passes n)
unfolding new_passes
nothing_seen zero = All-nil (λ (p : PassView). p.list ≡ [])
nothing_seen (suc n) = All-push (λ (p : PassView). p.list ≡ []) (new_passes n) (new_pass n) (nothing_seen n) refl

-- an empty list is known to be shown
pub some_first : (r : Option (List Note)) {l : List Note} → IfNone r (l ≢ []) → l ≡ [] → IsSome r
some_first (Some s) unlike is = refl
some_first None unlike is = absurd (unlike is)

pub first_is : (r : Option (List Note)) (x : List Note) {l : List Note} → r ≡ Some x → IfSome r (λ s. s ≡ l) → l ≡ []
    → x ≡ []
first_is r x {l} is same none = subst (λ (o : Option (List Note)). IfSome o (λ s. s ≡ l)) is same ∙ none
