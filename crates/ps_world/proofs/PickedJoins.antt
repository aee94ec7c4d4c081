-- The deltas whose numbers are in a set, and their join.
use Rattle.std.proofs.Common.{◌≡◌, ◌≢◌, ℕ, zero, suc, ◌+◌, ◌≤◌, Bool, true, false, cond, ⊎_elim}
use Rattle.std.proofs.Common.{List, [], ◌∷◌, ◌++◌, length, refl, sym, ap, ◌∙◌, arith, Some}
use Rattle.std.specs.Prelude.{map, filter, slice_get}
use Rattle.std.specs.List.{enumerate_from}
use Rattle.ps_delta.specs.State.{State, joined_state}
use Rattle.ps_delta.specs.Deltas.{Entries, state_of, joined_history}
use Rattle.ps_delta.proofs.StateLemmas.{joined_state-assoc, joined_state-comm}
use Rattle.ps_delta.proofs.HistoryLemmas.{joined_history-cons, joined_history-contains}
use Rattle.ps_grid.proofs.ChainLemmas.{bool_cases}
use Rattle.ps_world.specs.World.{Numbers, picked}

-- the first delta, in the set or not
picked-in : (p : Numbers) (n : ℕ) (d : Entries) (ds : List Entries) → p n ≡ true
    → picked p n (d ∷ ds) ≡ d ∷ picked p (n + 1) ds
picked-in p n d ds h =
    let rest : List (ℕ × Entries) = filter (λ e. p e.0) (enumerate_from (n + 1) ds) in
    ap (λ (b : Bool). map (λ (e : ℕ × Entries). e.1) (cond b ((n, d) ∷ rest) rest)) h

picked-out : (p : Numbers) (n : ℕ) (d : Entries) (ds : List Entries) → p n ≡ false
    → picked p n (d ∷ ds) ≡ picked p (n + 1) ds
picked-out p n d ds h =
    let rest : List (ℕ × Entries) = filter (λ e. p e.0) (enumerate_from (n + 1) ds) in
    ap (λ (b : Bool). map (λ (e : ℕ × Entries). e.1) (cond b ((n, d) ∷ rest) rest)) h

-- sets with the same numbers from n on
pub picked_same : (p q : Numbers) (n : ℕ) (ds : List Entries) → ((k : ℕ) → n ≤ k → q k ≡ p k)
    → picked q n ds ≡ picked p n ds
picked_same p q n [] same = refl
picked_same p q n (d ∷ ds) same =
    let rest : picked q (n + 1) ds ≡ picked p (n + 1) ds = picked_same p q (n + 1) ds (λ k le. same k (omega arith)) in
    ⊎_elim
    (λ (h : p n ≡ true).
    picked-in q n d ds (same n (omega arith) ∙ h) ∙ (ap (λ xs. d ∷ xs) rest ∙ sym (picked-in p n d ds h)))
    (λ (h : p n ≡ false).
    picked-out q n d ds (same n (omega arith) ∙ h) ∙ (rest ∙ sym (picked-out p n d ds h)))
    (bool_cases (p n))

-- one more delta, whose number is not in the set
pub picked-append : (p : Numbers) (n : ℕ) (ds : List Entries) (d : Entries)
    → ((k : ℕ) → k ≡ n + length ds → p k ≡ false)
    → picked p n (ds ++ d ∷ []) ≡ picked p n ds
picked-append p n [] d out = picked-out p n d [] (out n (omega arith))
picked-append p n (e ∷ ds) d out =
    let rest : picked p (n + 1) (ds ++ d ∷ []) ≡ picked p (n + 1) ds =
    picked-append p (n + 1) ds d (λ k is. out k (omega arith)) in
    ⊎_elim
    (λ (h : p n ≡ true).
    picked-in p n e (ds ++ d ∷ []) h ∙ (ap (λ xs. e ∷ xs) rest ∙ sym (picked-in p n e ds h)))
    (λ (h : p n ≡ false). picked-out p n e (ds ++ d ∷ []) h ∙ (rest ∙ sym (picked-out p n e ds h)))
    (bool_cases (p n))

-- the join where one more number is in the set: that of the first delta, or of a later one
joined_here : (p q : Numbers) (n : ℕ) (d : Entries) (ds : List Entries) → q n ≡ true
    → ((k : ℕ) → n + 1 ≤ k → q k ≡ p k)
    → joined_history (picked q n (d ∷ ds)) ≡ joined_state (joined_history (picked p n (d ∷ ds))) (state_of d)
joined_here p q n d ds here same =
    let rest : picked q (n + 1) ds ≡ picked p (n + 1) ds = picked_same p q (n + 1) ds same in
    let now : joined_history (picked q n (d ∷ ds)) ≡ joined_history (d ∷ picked p (n + 1) ds) =
    ap joined_history (picked-in q n d ds here ∙ ap (λ xs. d ∷ xs) rest) in
    ⊎_elim
    (λ (h : p n ≡ true).
    now ∙ (sym (joined_history-contains (d ∷ picked p (n + 1) ds) d (0, omega arith, refl))
    ∙ ap (λ xs. joined_state (joined_history xs) (state_of d)) (sym (picked-in p n d ds h))))
    (λ (h : p n ≡ false).
    now ∙ (joined_history-cons d (picked p (n + 1) ds)
    ∙ (joined_state-comm (state_of d) (joined_history (picked p (n + 1) ds))
    ∙ ap (λ xs. joined_state (joined_history xs) (state_of d)) (sym (picked-out p n d ds h)))))
    (bool_cases (p n))

joined_there : (p q : Numbers) (n : ℕ) (e d : Entries) (ds : List Entries) → q n ≡ p n
    → joined_history (picked q (n + 1) ds) ≡ joined_state (joined_history (picked p (n + 1) ds)) (state_of d)
    → joined_history (picked q n (e ∷ ds)) ≡ joined_state (joined_history (picked p n (e ∷ ds))) (state_of d)
joined_there p q n e d ds same rest =
    ⊎_elim
    (λ (h : p n ≡ true).
    ap joined_history (picked-in q n e ds (same ∙ h)) ∙ (joined_history-cons e (picked q (n + 1) ds)
    ∙ (ap (joined_state (state_of e)) rest
    ∙ (sym (joined_state-assoc (state_of e) (joined_history (picked p (n + 1) ds)) (state_of d))
    ∙ (ap (λ (s : State). joined_state s (state_of d)) (sym (joined_history-cons e (picked p (n + 1) ds)))
    ∙ ap (λ xs. joined_state (joined_history xs) (state_of d)) (sym (picked-in p n e ds h)))))))
    (λ (h : p n ≡ false).
    ap joined_history (picked-out q n e ds (same ∙ h)) ∙ (rest
    ∙ ap (λ xs. joined_state (joined_history xs) (state_of d)) (sym (picked-out p n e ds h))))
    (bool_cases (p n))

pub joined_more : (p q : Numbers) (k : ℕ) (d : Entries) (n i : ℕ) (ds : List Entries) → slice_get ds i ≡ Some d
    → k ≡ n + i → q k ≡ true → ((j : ℕ) → j ≢ k → q j ≡ p j)
    → joined_history (picked q n ds) ≡ joined_state (joined_history (picked p n ds)) (state_of d)
joined_more p q k d n i [] found is here same = cc
joined_more p q k d n zero (e ∷ ds) found is here same =
    let first : e ≡ d = cc in
    let at : k ≡ n = omega arith in
    let start : q n ≡ true = ap q (sym at) ∙ here in
    let later : (j : ℕ) → n + 1 ≤ j → q j ≡ p j = λ j le. same j (omega arith) in
    joined_here p q n e ds start later
    ∙ ap (λ (x : Entries). joined_state (joined_history (picked p n (e ∷ ds))) (state_of x)) first
joined_more p q k d n (suc i) (e ∷ ds) found is here same =
    joined_there p q n e d ds (same n (omega arith))
    (joined_more p q k d (n + 1) i ds found (omega arith) here same)
