-- The passes of a server's slots: they pass from session to session, and come back.
use Rattle.std.proofs.Common.{◌≡◌, ◌+◌, refl, sym, subst, arith, ℕ, zero, suc, Result, Ok, Err}
use Rattle.std.proofs.Common.{List, [], ◌∷◌, ◌++◌, length, length-append}
use Rattle.std.specs.Prelude.{MatchResult}
use Rattle.ps_delta.specs.Deltas.{Entries}
use Rattle.ps_desk.specs.Opening.{new_passes}
use Rattle.ps_desk.specs.Passes.{PassView}
use Rattle.ps_server.specs.Sessions.{Attended, Back, IsAttended, Turns}

module _ (r : ℕ) (h : List Entries) where
  pub Back-push : (olds : List Turns) (news : List PassView) (old : Turns) (new : PassView) → Back r h olds news
      → Attended r h old.begun old.first new → Back r h (olds ++ old ∷ []) (news ++ new ∷ [])
  Back-push [] [] old new back on = (on, tt)
  Back-push [] (y ∷ ys) old new back on = absurd back
  Back-push (x ∷ xs) [] old new back on = absurd back
  Back-push (x ∷ xs) (y ∷ ys) old new back on = (back.0, Back-push xs ys old new back.1 on)

  -- one session more
  pub one_more : (n k : ℕ) (first pass new : PassView) → k ≡ n + 1 → Attended r h n first pass
      → IsAttended r h pass new → Attended r h k first new
  one_more n k first pass new next some one =
      let is : suc n ≡ k = omega (arith, next) in subst (λ j. Attended r h j first new) is (pass, some, one)

  -- .. which has begun, or has ended already
  pub begun : {H : Type 0} (given : H → PassView) (state : Result H PassView) (n k : ℕ) (first pass : PassView)
      → k ≡ n + 1 → Attended r h n first pass
      → MatchResult state (λ s. given s ≡ pass) (λ p. IsAttended r h pass p)
      → MatchResult state (λ s. (m : ℕ) × (k ≡ m + 1) × Attended r h m first (given s)) (λ p. Attended r h k first p)
  begun given (Ok s) n k first pass next some is =
      (n, next, subst (λ p. Attended r h n first p) (sym is) some)
  begun given (Err p) n k first pass next some one = one_more n k first pass p next some one

pub new_passes-length : (seats : ℕ) → length (new_passes seats) ≡ seats
unfolding new_passes
new_passes-length zero = refl
new_passes-length (suc seats) = simp length-append (omega (arith, new_passes-length seats))
