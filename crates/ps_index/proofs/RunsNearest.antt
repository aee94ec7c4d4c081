-- The nearest of the first runs of several rectangles.
use Rattle.std.proofs.Common.{◌≡◌, ℕ, ◌<◌, ◌≤◌, ◌∙◌, inl, inr, refl, arith, min, true, false, Bool, ◌||◌}
use Rattle.ps_index.proofs.BoolTests.{true_or_false}
use Rattle.ps_index.specs.Inside.Places.{IsFirstRun}
use Rattle.ps_index.specs.declared.runs.TheConstants.{PLACES}

-- the nearest of some first runs, and a place that none of the others begins before
pub record IsNearest (test : ℕ → Bool) (place first stop other : ℕ) : Type 0 where
  pub from : place ≤ first
  pub to : first ≤ PLACES
  pub none_before : (q : ℕ) → place ≤ q → q < first → test q ≡ false
  pub some : first < PLACES → first < stop
  pub top : stop ≤ PLACES
  pub all : (q : ℕ) → first ≤ q → q < stop → test q ≡ true
  pub apart : first < PLACES → stop < other → test stop ≡ false

neither : (a b : Bool) → a ≡ false → b ≡ false → (a || b) ≡ false
neither a b e f = rw (e, f) refl

one : (a b : Bool) → a ≡ true → (a || b) ≡ true
one a b e = rw e refl

another : (a b : Bool) → b ≡ true → (a || b) ≡ true
another a b e = elim (true_or_false a) [
  | inl is ↦ one a b is
  | inr never ↦ rw (never, e) refl
]

module _ (p r more : ℕ → Bool) (both : (q : ℕ) → more q ≡ (p q || r q)) (place first stop other f s : ℕ)
    (near : IsNearest p place first stop other) (run : IsFirstRun r place f s) where
  -- a run that begins no earlier
  pub nearest_stays : first ≤ f → IsNearest more place first stop (min other f)
  nearest_stays later = record {
    from = near.from;
    to = near.to;
    none_before = λ (q : ℕ) (from : place ≤ q) (to : q < first).
        both q ∙ neither (p q) (r q) (near.none_before q from to) (run.none_before q from (omega arith));
    some = near.some;
    top = near.top;
    all = λ (q : ℕ) (from : first ≤ q) (to : q < stop). both q ∙ one (p q) (r q) (near.all q from to);
    apart = λ (lt : first < PLACES) (before : stop < min other f).
        both stop
        ∙ neither (p stop) (r stop) (near.apart lt (omega arith))
        (run.none_before stop (omega (arith, near.from, near.some lt)) (omega arith));
  }

  -- one that begins earlier
  pub nearest_moves : f < first → IsNearest more place f s first
  nearest_moves earlier = record {
    from = run.from;
    to = run.to;
    none_before = λ (q : ℕ) (from : place ≤ q) (to : q < f).
        both q ∙ neither (p q) (r q) (near.none_before q from (omega arith)) (run.none_before q from to);
    some = run.some;
    top = run.top;
    all = λ (q : ℕ) (from : f ≤ q) (to : q < s). both q ∙ another (p q) (r q) (run.all q from to);
    apart = λ (lt : f < PLACES) (before : s < first).
        both s
        ∙ neither (p s) (r s) (near.none_before s (omega (arith, run.from, run.some lt)) before) (run.after lt);
  }
