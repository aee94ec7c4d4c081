-- Legal lists and copies, one patch later.
use Rattle.std.proofs.Common.{◌≡◌, ℕ, ◌<◌, ◌≤◌, List, [], ◌∷◌, ◌++◌, length, map, refl, ap, sym, subst, ◌∙◌}
use Rattle.std.proofs.Common.{All, append_assoc, arith, length-append}
use Rattle.std.proofs.Math.Path.{fun_ext}
use Rattle.std.proofs.lemmas.List.{append-nil}
use Rattle.std.proofs.lemmas.List.Elements.{All-head, All-tail}
use Rattle.logbook.specs.Pages.{Book}
use Rattle.ps_grid.specs.declared.size.TheConstants.{CELLS}
use Rattle.ps_value.specs.declared.value.Value.{Value}
use Rattle.ps_eval.specs.Items.{Assignment}
use Rattle.ps_delta.specs.CellLaws.{joined_cell-empty}
use Rattle.ps_delta.specs.State.{State, IsInGrid, empty_cell, empty_state, joined_cell, joined_state}
use Rattle.ps_delta.specs.Deltas.{AreInGrid, Entries, joined_history, state_of}
use Rattle.ps_delta.proofs.EntryLemmas.{state_of-nil, state_of-there}
use Rattle.ps_delta.proofs.HistoryLemmas.{joined_history-push}
use Rattle.ps_cells.proofs.SettledValues.{settled_at_most_once}
use Rattle.ps_face.specs.declared.patch.Note.{Note}
use Rattle.ps_face.specs.Values.{in_order, written}
use Rattle.ps_face.specs.Legal.{Follows, IsLegal, Shows, delta_of, history_of}
use Rattle.ps_face.specs.Seen.{Copy, CopyStands, Turn, turned}
use Rattle.ps_face.proofs.Orders.{listed-overlaid}

pub legal_more : (h : List Entries) (ps : List Note) (p : Note) → IsLegal h ps → Follows (history_of h ps) p
    → IsLegal h (ps ++ p ∷ [])
legal_more h [] p l f = (subst (λ (g : List Entries). Follows g p) (append-nil h) f, tt)
legal_more h (q ∷ ps) p l f = (
  l.0,
  legal_more (h ++ q.delta ∷ []) ps p l.1
      (subst (λ (g : List Entries). Follows g p) (sym (append_assoc h (q.delta ∷ []) (map delta_of ps))) f),
)

pub history_more : (h : List Entries) (ps : List Note) (p : Note)
    → history_of h (ps ++ p ∷ []) ≡ history_of h ps ++ p.delta ∷ []
history_more h ps p = ap (λ ds. h ++ ds) (deltas ps) ∙ sym (append_assoc h (map delta_of ps) (p.delta ∷ []))
  where
    deltas : (qs : List Note) → map delta_of (qs ++ p ∷ []) ≡ map delta_of qs ++ p.delta ∷ []
    deltas [] = refl
    deltas (q ∷ qs) = ap (λ ds. q.delta ∷ ds) (deltas qs)

nothing_empty : (c : ℕ) → empty_state c ≡ empty_cell
unfolding empty_state
nothing_empty c = refl

-- a delta of cells below n holds nothing from n on
delta_below : (n : ℕ) (d : Entries) → All (λ e. e.0 < n) d → (c : ℕ) → n ≤ c → state_of d c ≡ empty_cell
delta_below n [] low c out = ap (λ (s : State). s c) state_of-nil ∙ nothing_empty c
delta_below n (e ∷ d) low c out =
    let here : e.0 < n = All-head (λ x. x.0 < n) e d low in
    state_of-there e d c (λ p. omega (arith, p, here, out)) ∙ delta_below n d (All-tail (λ x. x.0 < n) e d low) c out

-- the join of a history of such deltas holds nothing from n on either
pub one_more_below : (n : ℕ) (h : List Entries) (d : Entries) → All (λ e. e.0 < n) d
    → ((c : ℕ) → n ≤ c → joined_history h c ≡ empty_cell) → (c : ℕ) → n ≤ c
    → joined_history (h ++ d ∷ []) c ≡ empty_cell
unfolding joined_state
one_more_below n h d low none c out =
    ap (λ (s : State). s c) (joined_history-push h d) ∙ ap (λ x. joined_cell x (state_of d c)) (none c out)
    ∙ joined_cell-empty (state_of d c) ∙ delta_below n d low c out

-- the values of all cells after the changes of the patch are written
shows_next : (h : List Entries) (p : Note) (values : List Value) → IsInGrid (joined_history h) → Shows h values
    → Follows h p → Shows (h ++ p.delta ∷ []) (written values p.changes)
shows_next h p values in_grid s f =
    let v : Assignment = s.0 in
    let same : v ≡ f.before = fun_ext (settled_at_most_once (joined_history h) v f.before in_grid s.1 f.settled) in (
      f.after,
      f.settles,
      ap (λ (vs : List Value). written vs p.changes) (s.2 ∙ ap in_order same)
          ∙ sym (listed-overlaid f.before CELLS p.changes) ∙ ap in_order f.changes.gives,
    )

-- a copy that takes in the patch after its list stands too
pub stands_next : (h : List Entries) (b : Book) (x : Copy) (t : Turn) (p : Note) → CopyStands h b x → t.book ≡ b
    → t.list ≡ x.list ++ p ∷ [] → t.version ≡ p.number → t.changes ≡ p.changes → AreInGrid p.delta
    → Follows (history_of h x.list) p → CopyStands h b (turned x t)
stands_next h b x t p s book is version changes inside f =
    let old : List Entries = history_of h x.list in
    let history : history_of h t.list ≡ old ++ p.delta ∷ [] = ap (history_of h) is ∙ history_more h x.list p in record {
      book = book;
      legal = subst (IsLegal h) (sym is) (legal_more h x.list p s.legal f);
      version = version ∙ f.number ∙ sym (ap length history ∙ length-append old (p.delta ∷ []));
      in_grid = subst (λ (g : List Entries). IsInGrid (joined_history g)) (sym history)
          (one_more_below CELLS old p.delta inside s.in_grid);
      shows = subst (λ (z : List Entries × List Value). Shows z.0 z.1)
          (λ i. (sym history i, written x.values (sym changes i))) (shows_next old p x.values s.in_grid s.shows f);
    }
