-- The loop passes over a function whose name is another, however many functions there are.
use Rattle.std.proofs.Common.{◌≡◌, ◌+◌, ◌<◌, ◌∷◌, ℕ, suc, Bool, List, Option, drop, length, get_or, sym, ap, ◌∙◌, arith}
use Rattle.std.proofs.Common.{true, false, refl}
use Rattle.std.proofs.Math.Seq.{drop-cons}
use Rattle.std.proofs.lemmas.Slice.Eq.{bytes_eq-Decides}
use Rattle.std.specs.List.{find}
use Rattle.std.specs.Str.{str_to_ascii_lowercase}
use Rattle.ps_tokens.specs.Names.{function_name}
use Rattle.ps_tokens.specs.declared.token.TheConstants.{FUNCTIONS}
use Rattle.ps_tokens.specs.declared.token.Function.TheVariants.{Sum}
use Rattle.ps_tokens.proofs.front.function.Goals as goal

not_true : (b : Bool) → (b ≡ true → ⊥) → b ≡ false
not_true true h = absurd (h refl)
not_true false h = refl

find_rest : {X : Type 0} (p : X → Bool) (x : X) (xs : List X) (r : Option X) → p x ≡ false → find p (x ∷ xs) ≡ r
    → find p xs ≡ r
find_rest p x xs r e h = rw e at h

find_step : {X : Type 0} (p : X → Bool) (xs : List X) (i : ℕ) (d : X) (r : Option X) → i < length xs
    → p (get_or xs i d) ≡ false → find p (drop i xs) ≡ r → find p (drop (i + 1) xs) ≡ r
find_step p xs i d r lt e h =
    let next : i + 1 ≡ suc i = omega arith in
    rw next (find_rest p (get_or xs i d) (drop (suc i) xs) r e (rw (drop-cons xs i d lt) at h))

pub loop-function-preserved : goal.loop-function-preserved
loop-function-preserved c =
    let i = c.loop-function.function-index in
    let test = c.if-eq_ignore_ascii_case.ensures.test in
    let fails = not_true _ (λ t.
    let same = (bytes_eq-Decides (str_to_ascii_lowercase c.args.name.now)
    (str_to_ascii_lowercase (function_name (get_or FUNCTIONS i Sum)))).0 t in
    let name = c.as_bytes.ensures.value ∙ c.name.ensures in
    let yes : false ≡ true = test.1 (same ∙ ap str_to_ascii_lowercase (sym name)) in
    absurd (cc)) in
    find_step _ FUNCTIONS i Sum _ (omega arith) fails c.loop-function.invariant
