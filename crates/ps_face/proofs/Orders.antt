-- The values of all cells in order, with one of them written.
use Rattle.std.proofs.Common.{◌≡◌, ◌≢◌, ℕ, zero, suc, ◌<◌, ◌≤◌, List, [], ◌∷◌, ◌++◌, length, get_or, set}
use Rattle.std.proofs.Common.{refl, sym, ap, ◌∙◌, arith, ⊎_elim, length-append}
use Rattle.std.proofs.Math.ListN.{get_or-append}
use Rattle.std.proofs.Math.Seq.{get_or-append_seam, set-append_seam}
use Rattle.std.proofs.lemmas.Bool.{cases_eq, cases_lt}
use Rattle.std.proofs.lemmas.List.{set-append_left, set_past}
use Rattle.ps_value.specs.declared.value.Value.{Value}
use Rattle.ps_shown.specs.Shown.{with_value}
use Rattle.ps_eval.specs.Items.{Assignment}
use Rattle.ps_cells.proofs.PutValues.{with_value-here, with_value-there}
use Rattle.ps_face.specs.Values.{Changes, listed, overlaid, written}

pub length-listed : (v : Assignment) (n : ℕ) → length (listed v n) ≡ n
unfolding listed
length-listed v zero = refl
length-listed v (suc n) = omega (arith, length-append (listed v n) (v n ∷ []), length-listed v n)

pub get-listed : (v : Assignment) (n c : ℕ) (d : Value) → c < n → get_or (listed v n) c d ≡ v c
unfolding listed
get-listed v zero c d h = absurd (omega arith)
get-listed v (suc n) c d h =
    let len = length-listed v n in
    ⊎_elim
    (λ (below : c < n).
    get_or-append (listed v n) (v n ∷ []) d c (omega (arith, len, below)) ∙ get-listed v n c d below)
    (λ (above : n ≤ c).
    let last : c ≡ length (listed v n) = omega (arith, len, above, h) in
    ap (λ k. get_or (listed v n ++ v n ∷ []) k d) last ∙ get_or-append_seam (listed v n) (v n) [] d
    ∙ ap v (sym (last ∙ len)))
    (cases_lt c n)

-- if one cell's value is changed, the list of the values is the old list with the new value written
pub listed-set : (v : Assignment) (n c : ℕ) (x : Value) → listed (with_value v c x) n ≡ set (listed v n) c x
unfolding listed
listed-set v zero c x = sym (set_past [] c x (omega arith))
listed-set v (suc n) c x =
    let len = length-listed v n in
    let front : listed (with_value v c x) n ++ with_value v c x n ∷ [] ≡ set (listed v n) c x ++ with_value v c x n ∷ []
    = ap (λ (vs : List Value). vs ++ with_value v c x n ∷ []) (listed-set v n c x) in
    front ∙ ⊎_elim
    (λ (here : c ≡ n).
    let at : c ≡ length (listed v n) = omega (arith, len, here) in
    ap (λ (vs : List Value). vs ++ with_value v c x n ∷ []) (set_past (listed v n) c x (omega (arith, at)))
    ∙ ap (λ y. listed v n ++ y ∷ []) (ap (with_value v c x) (sym here) ∙ with_value-here v c x)
    ∙ sym (set-append_seam (listed v n) (v n) [] x)
    ∙ ap (λ k. set (listed v n ++ v n ∷ []) k x) (sym at))
    (λ (there : c ≢ n).
    ap (λ y. set (listed v n) c x ++ y ∷ []) (with_value-there v c n x (λ p. there (sym p)))
    ∙ ⊎_elim
    (λ (below : c < n). sym (set-append_left (listed v n) (v n ∷ []) c x (omega (arith, len, below))))
    (λ (above : n ≤ c).
    ap (λ (vs : List Value). vs ++ v n ∷ []) (set_past (listed v n) c x (omega (arith, len, above)))
    ∙ sym (set_past (listed v n ++ v n ∷ []) c x
    (omega (arith, len, above, there, length-append (listed v n) (v n ∷ [])))))
    (cases_lt c n))
    (cases_eq c n)

-- the same for several changes, one after another
pub listed-overlaid : (v : Assignment) (n : ℕ) (changes : Changes)
    → listed (overlaid v changes) n ≡ written (listed v n) changes
listed-overlaid v n [] = refl
listed-overlaid v n (e ∷ changes) =
    listed-overlaid (with_value v e.0 e.1) n changes
    ∙ ap (λ (vs : List Value). written vs changes) (listed-set v n e.0 e.1)
