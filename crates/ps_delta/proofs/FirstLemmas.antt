-- The cells that a state has, one after another.
use Rattle.std.proofs.Common.{◌≡◌, ◌≢◌, ℕ, ◌+◌, ◌*◌, ◌/◌, ◌%◌, ◌<◌, ◌≤◌, List, [], ◌∷◌, ◌++◌, refl, sym, ap, ◌∙◌}
use Rattle.std.proofs.Common.{arith, get_or, length, subst, ⊎_elim}
use Rattle.std.proofs.Math.Path.{fun_ext}
use Rattle.std.proofs.lemmas.Bool.{cases_eq, cases_lt}
use Rattle.std.proofs.lemmas.List.{get_or_read, map-append}
use Rattle.std.proofs.lemmas.List.Elements.{All-push, All-nil}
use Rattle.ps_delta.specs.declared.cell_state.CellState.{CellState}
use Rattle.ps_delta.specs.declared.block.TheConstants.{BLOCK}
use Rattle.ps_delta.specs.declared.grid.TheConstants.{BLOCKS}
use Rattle.ps_delta.specs.State.{Blocks, State, empty_cell, joined_cell, state_at}
use Rattle.ps_delta.specs.CellLaws.{joined_cell-empty, joined_cell-empty_right}
use Rattle.ps_delta.specs.Deltas.{AreEntries, Entries, cells_of, state_of}
use Rattle.ps_delta.specs.Order.{Rising, Under}
use Rattle.ps_delta.proofs.BlockLemmas.{state_at-is}
use Rattle.ps_delta.proofs.CellLists.{Rising-push, increasing_from_rising}
use Rattle.ps_delta.proofs.EntryLemmas.{state_of-here, state_of-push, state_of-there, state_of-under}
use Rattle.ps_delta.proofs.StateLemmas.{joined_state-at}
use Rattle.ps_delta.specs.Inside.Firsts.{AreFirst}

nothing : (c : ℕ) → state_of [] c ≡ empty_cell
unfolding state_of
nothing c = refl

under_weaker : (m n : ℕ) (es : Entries) → m ≤ n → Under m (cells_of es) → Under n (cells_of es)
under_weaker m n [] h u = tt
under_weaker m n (e ∷ es) h u = (omega (arith, h, u.0), under_weaker m n es h u.1)

under_push : (n : ℕ) (es : Entries) (x : CellState) → Under n (cells_of es)
    → Under (n + 1) (cells_of (es ++ (n, x) ∷ []))
under_push n [] x u = (omega arith, tt)
under_push n (e ∷ es) x u = (omega (arith, u.0), under_push n es x u.1)

pub first_none : (s : State) → AreFirst s 0 []
first_none s = record {
  rising = tt;
  under = tt;
  none_empty = All-nil (λ e. e.1 ≢ empty_cell);
  gives = λ c h. absurd (omega (arith, h));
}

module _ (s : State) (n : ℕ) (es : Entries) (first : AreFirst s n es) where
  none_at : (c : ℕ) → n ≤ c → state_of es c ≡ empty_cell
  none_at c h = state_of-under n es c first.under h

  -- cells that hold nothing are passed over
  pub first_over : (m : ℕ) → n ≤ m → ((c : ℕ) → n ≤ c → c < m → s c ≡ empty_cell) → AreFirst s m es
  first_over m h empty = record {
    rising = first.rising;
    under = under_weaker n m es h first.under;
    none_empty = first.none_empty;
    gives = λ c lt. ⊎_elim (λ (p : c < n). first.gives c p) (λ p. none_at c p ∙ sym (empty c p lt)) (cases_lt c n);
  }

  pub first_same : (x : CellState) → x ≡ s n → x ≡ empty_cell → AreFirst s (n + 1) es
  first_same x is empty = first_over (n + 1) (omega arith)
      (λ c h lt. ap s (omega (arith, h, lt)) ∙ sym is ∙ empty)

  pub first_more : (x : CellState) → x ≡ s n → x ≢ empty_cell → AreFirst s (n + 1) (es ++ (n, x) ∷ [])
  first_more x is some = record {
    rising = subst (Rising 0) (sym (map-append (λ e. e.0) es ((n, x) ∷ [])))
        (Rising-push 0 (cells_of es) n first.rising first.under (omega arith));
    under = under_push n es x first.under;
    none_empty = All-push (λ e. e.1 ≢ empty_cell) es (n, x) first.none_empty some;
    gives = λ c h.
        ap (λ (t : State). t c) (state_of-push es (n, x) first.under)
        ∙ joined_state-at (state_of es) (state_of ((n, x) ∷ [])) c
        ∙ ⊎_elim
        (λ (p : n ≡ c).
        ap (λ y. joined_cell y (state_of ((n, x) ∷ []) c)) (none_at c (omega (arith, p)))
        ∙ joined_cell-empty (state_of ((n, x) ∷ []) c) ∙ state_of-here (n, x) [] c p ∙ is ∙ ap s p)
        (λ p.
        ap (joined_cell (state_of es c)) (state_of-there (n, x) [] c p ∙ nothing c)
        ∙ joined_cell-empty_right (state_of es c) ∙ first.gives c (omega (arith, h, p)))
        (cases_eq n c);
  }

  pub first_entries : AreEntries es
  first_entries = record {
    ascending = increasing_from_rising 0 (cells_of es) first.rising;
    none_empty = first.none_empty;
  }

  pub first_all : ((c : ℕ) → n ≤ c → s c ≡ empty_cell) → state_of es ≡ s
  first_all outside =
      fun_ext (λ c. ⊎_elim (λ (h : c < n). first.gives c h) (λ h. none_at c h ∙ sym (outside c h)) (cases_lt c n))

-- a block that was never made holds nothing
pub unmade_block : (blocks seen : Blocks) (b c : ℕ) (block : List CellState) → seen ≡ blocks
    → length blocks ≡ BLOCKS → b < BLOCKS → block ≡ get_or seen b block → block ≡ [] → b * BLOCK ≤ c
    → c < (b + 1) * BLOCK → state_at blocks c ≡ empty_cell
unmade_block blocks seen b c block same size in_grid is empty from to =
    let here : c / BLOCK ≡ b = omega (arith, from, to) in
    let within : b < length blocks = omega (arith, size, in_grid) in
    let read : block ≡ get_or blocks b [] =
    get_or_read blocks b block within (is ∙ ap (λ bs. get_or bs b block) same) [] in
    state_at-is blocks c
    ∙ ap (λ i. get_or (get_or blocks i []) (c % BLOCK) empty_cell) here
    ∙ ap (λ l. get_or l (c % BLOCK) empty_cell) (sym read ∙ empty)
