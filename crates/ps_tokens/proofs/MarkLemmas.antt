-- The pieces of a corner: a byte that must stand there, and a `$`.
use Rattle.std.proofs.Common.{◌≡◌, ℕ, ◌<◌, ◌==◌, Bool, true, false, cond}
use Rattle.std.proofs.Common.{Some, None, List, [], ◌∷◌, ◌++◌, refl, ap, ◌∙◌, arith}
use Rattle.std.proofs.lemmas.Bool.{eqb-true, eq-eqb}
use Rattle.ps_tokens.specs.Inside.Lexing.{after, unmarked}
use Rattle.ps_tokens.specs.Text.{mark}
use Rattle.std.proofs.lemmas.Option.{cond_some}
use Rattle.ps_tokens.proofs.LongestRuns.{Stops}

-- a byte that was found stands there
pub after-some : (b : ℕ) (s r : List ℕ) → 0 < b → after b s ≡ Some r → s ≡ b ∷ r
unfolding after
after-some b [] r h e = absurd (omega (arith, eqb-true 0 b (cond_some (0 == b) [] r e).0))
after-some b (c ∷ s) r h e =
    let found = cond_some (c == b) s r e in
    let same = eqb-true c b found.0 in
    ap (λ v. v ∷ s) same ∙ ap (λ v. b ∷ v) found.1

-- and what stands there is found
pub after-there : (b : ℕ) (s : List ℕ) → after b (b ∷ s) ≡ Some s
unfolding after
after-there b s = ap (λ v. cond v (Some s) None) (eq-eqb b b refl)

-- a text has a `$` at its front or none
pub unmarked_text : (s : List ℕ) → (fixed : Bool) × (s ≡ mark fixed ++ unmarked s)
unfolding unmarked
unmarked_text [] = (false, refl)
unmarked_text (c ∷ s) =
    elim (c == 36) as (λ b. (c == 36) ≡ b → (fixed : Bool) × (c ∷ s ≡ mark fixed ++ cond b s (c ∷ s))) [
      | true ↦ λ e. (true, ap (λ v. v ∷ s) (eqb-true c 36 e))
      | false ↦ λ e. (false, refl)
    ] refl

-- a `$` is dropped where one stands, and nothing else
pub unmarked-mark : (fixed : Bool) (s : List ℕ) → Stops (λ c. c == 36) s → unmarked (mark fixed ++ s) ≡ s
unfolding unmarked
unmarked-mark true s h = refl
unmarked-mark false [] h = refl
unmarked-mark false (c ∷ s) h = ap (λ b. cond b s (c ∷ s)) h
