-- The records of a table, assigned one after another.
use Rattle.std.proofs.Common.{◌≡◌, ◌≢◌, ◌⊎◌, ◌+◌, ◌<◌, ◌≤◌, ◌∷◌, ◌++◌, ◌∙◌, [], ℕ, List, map, length, take, drop, Bool}
use Rattle.std.proofs.Common.{true, false, inl, inr}
use Rattle.std.proofs.Common.{refl, ap, sym, subst, arith, append_assoc, Result, Ok, Err, get_or}
use Rattle.std.specs.Result.{IsOkAnd}
use Rattle.std.specs.Global.{Vec}
use Rattle.std.specs.List.{list_any}
use Rattle.std.specs.List.Sorted.{IsStrictlyIncreasing}
use Rattle.std.proofs.lemmas.List.{append-nil, drop_more, length-drop, take-append-drop}
use Rattle.std.proofs.lemmas.List.{take_more}
use Rattle.ps_grid.specs.declared.refusal.Refusal.{Refusal}
use Rattle.ps_grid.specs.declared.refusal.Refusal.TheVariants.{ClockFull}
use Rattle.ps_content.specs.declared.content.Content.{Content}
use Rattle.ps_delta.specs.State.{State, empty_cell, joined_cell}
use Rattle.ps_delta.specs.CellLaws.{joined_cell-empty_right}
use Rattle.ps_delta.specs.Deltas.{Entries, cells_of, joined_history, state_of}
use Rattle.ps_delta.specs.Order.{Under}
use Rattle.ps_delta.proofs.EntryLemmas.{state_of-under}
use Rattle.ps_delta.proofs.HistoryLemmas.{joined_history-push}
use Rattle.ps_delta.proofs.StateLemmas.{joined_state-at}
use Rattle.ps_delta.specs.Batches.{IsBatch}
use Rattle.ps_sheet.specs.Edits.{assigned, delta_of_edit, is_clock_full, refused_if}
use Rattle.ps_delta.specs.declared.edit.Edit.TheVariants.{SetAll}
use Rattle.ps_csv.specs.Imports.{Assigned}
use Rattle.ps_csv.specs.Records.{Cells, FieldsSay, Record, RecordsSay, place}
use Rattle.ps_csv.specs.Inside.{cells_of_each}
use Rattle.ps_csv.proofs.RecordLemmas.{clocks_free, fields_say-ascending, fields_say-under}

-- the value of an answer
pub ok_and : {T E : Type 0} (r : Result T E) (Q : T → Type 0) → IsOkAnd r Q → (x : T) × (r ≡ Ok x) × Q x
ok_and (Ok x) Q h = (x, refl, h)
ok_and (Err e) Q h = absurd h

-- one record with a field that isn't empty, and one without
pub assigned_one : (r : ℕ) (h k : List Entries) (cells batch : Cells) → IsBatch cells → batch ≡ cells
    → IsOkAnd (delta_of_edit r (joined_history h) (SetAll batch)) (λ d. k ≡ h ++ d ∷ []) → Assigned r h (cells ∷ []) k
unfolding Assigned
assigned_one r h k [] batch some is made = absurd (omega (arith, some.some))
assigned_one r h k (c ∷ cs) batch some is made =
    let Makes = λ (xs : Cells). IsOkAnd (delta_of_edit r (joined_history h) (SetAll xs)) (λ d. k ≡ h ++ d ∷ []) in
    let made_of = subst Makes is made in
    ok_and (delta_of_edit r (joined_history h) (SetAll (c ∷ cs))) (λ d. k ≡ h ++ d ∷ []) made_of

-- an edit that was made over a history and later deltas was made over the history with these deltas appended
pub made_after : (h xs ys : List Entries) (answer : Result Entries Refusal)
    → IsOkAnd answer (λ d. ys ≡ xs ++ d ∷ []) → IsOkAnd answer (λ d. h ++ ys ≡ (h ++ xs) ++ d ∷ [])
made_after h xs ys (Ok d) is = ap (λ (ds : List Entries). h ++ ds) is ∙ sym (append_assoc h xs (d ∷ []))
made_after h xs ys (Err e) is = absurd is

pub assigned_none : (r : ℕ) (h : List Entries) (cells : Cells) → (IsBatch cells → ⊥)
    → IsStrictlyIncreasing (map (λ e. e.0) cells)
    → Assigned r h (cells ∷ []) h
unfolding Assigned
assigned_none r h [] none ascending = refl
assigned_none r h (c ∷ cs) none ascending = absurd (none (record { some = omega arith; ascending = ascending }))

-- one record more
pub assigned-push : (r : ℕ) (h k m : List Entries) (batches : List Cells) (cells : Cells) → Assigned r h batches k
    → Assigned r k (cells ∷ []) m → Assigned r h (batches ++ cells ∷ []) m
unfolding Assigned
assigned-push r h k m [] cells so_far one = subst (λ (g : List Entries). Assigned r g (cells ∷ []) m) so_far one
assigned-push r h k m ([] ∷ batches) cells so_far one = assigned-push r h k m batches cells so_far one
assigned-push r h k m ((c ∷ cs) ∷ batches) cells so_far one =
    (so_far.0, so_far.1, assigned-push r (h ++ so_far.0 ∷ []) k m batches cells so_far.2 one)

-- an edit that isn't refused
pub not_refused : (full : Bool) (e : Refusal) (d x : Entries) → refused_if full e (Ok x) ≡ Ok d → x ≡ d
not_refused true e d x is = cc
not_refused false e d x is = cc

-- the delta of a batch names the batch's cells
pub under_batch : (r : ℕ) (s : State) (n : ℕ) (cells : Cells) → Under n (map (λ e. e.0) cells)
    → Under n (cells_of (map (λ e. (e.0, assigned r (s e.0) e.1)) cells))
under_batch r s n [] under = tt
under_batch r s n (c ∷ cs) under = (under.0, under_batch r s n cs under.1)

-- nothing changes after a record
pub unchanged_after : (r n : ℕ) (h k : List Entries) (cells : Cells) → Under n (map (λ e. e.0) cells)
    → Assigned r h (cells ∷ []) k
    → (c : ℕ) → n ≤ c → joined_history k c ≡ joined_history h c
unfolding Assigned
unchanged_after r n h k [] under one c le = ap (λ (g : List Entries). joined_history g c) one
unchanged_after r n h k (e ∷ es) under one c le =
    let delta = map (λ (x : ℕ × Content). (x.0, assigned r (joined_history h x.0) x.1)) (e ∷ es) in
    let is : delta ≡ one.0 = not_refused (list_any (λ x. is_clock_full (joined_history h x.0)) (e ∷ es))
    ClockFull one.0 delta one.1 in
    let none : state_of one.0 c ≡ empty_cell
    = ap (λ (d : Entries). state_of d c) (sym is)
    ∙ state_of-under n delta c (under_batch r (joined_history h) n (e ∷ es) under) le in
    ap (λ (g : List Entries). joined_history g c) one.2
    ∙ ap (λ (s : State). s c) (joined_history-push h one.0)
    ∙ joined_state-at (joined_history h) (state_of one.0) c
    ∙ ap (λ (x : _). joined_cell (joined_history h c) x) none
    ∙ joined_cell-empty_right (joined_history h c)

-- on the way: the first n of all records were assigned after the history h, which is k now; the cells of the others are
-- as before
pub record IsApplying (r : ℕ) (h : List Entries) (all : List Cells) (n : ℕ) (rest : List Cells)
    (k : List Entries) : Type 0 where
  pub table : List Record
  pub said : RecordsSay (joined_history h) n table rest
  pub so_far : Assigned r h (take n all) k
  pub left : drop n all ≡ rest
  pub untouched : (c : ℕ) → place n 0 ≤ c → joined_history k c ≡ joined_history h c

pub assigned-nothing : (r : ℕ) (h : List Entries) (all : List Cells) → Assigned r h (take 0 all) h
unfolding Assigned
assigned-nothing r h [] = refl
assigned-nothing r h (c ∷ cs) = refl

pub assigned_all_none : (r : ℕ) (h : List Entries) (items : List (Vec (ℕ × Content))) → items ≡ []
    → Assigned r h (cells_of_each items) h
unfolding Assigned
assigned_all_none r h [] none = refl
assigned_all_none r h (x ∷ items) none = absurd (cc)

pub assigned_so_few : (r : ℕ) (h k : List Entries) (all : List Cells) (n : ℕ) → n ≡ 0 → k ≡ h
    → Assigned r h (take n all) k
assigned_so_few r h k all n none is =
    subst (λ (m : ℕ). Assigned r h (take m all) k) (sym none)
    (subst (λ (g : List Entries). Assigned r h (take 0 all) g) (sym is) (assigned-nothing r h all))

drop_none : (xs : List Cells) → drop 0 xs ≡ xs
drop_none [] = refl
drop_none (x ∷ xs) = refl

pub applying_starts : (r : ℕ) (h : List Entries) (all : List Cells) (table : List Record)
    → RecordsSay (joined_history h) 0 table all
    → IsApplying r h all 0 all h
applying_starts r h all table said = record {
  table = table;
  said = said;
  so_far = assigned-nothing r h all;
  left = drop_none all;
  untouched = λ c le. refl;
}

-- the record that is next
pub next_says : (s : State) (n : ℕ) (table : List Record) (cells : Cells) (rest : List Cells)
    → RecordsSay s n table (cells ∷ rest)
    → (fields : Record) × (others : List Record) × FieldsSay s n 0 fields cells × RecordsSay s (n + 1) others rest
unfolding RecordsSay
next_says s n [] cells rest said = absurd (cc)
next_says s n (fields ∷ others) cells rest said =
    let head : said.0 ≡ cells = cc in
    let tail : said.1 ≡ rest = cc in (
      fields,
      others,
      subst (λ (xs : Cells). FieldsSay s n 0 fields xs) head said.3,
      subst (λ (xs : List Cells). RecordsSay s (n + 1) others xs) tail said.4,
    )

pub next_ascends : (r : ℕ) (h k : List Entries) (all rest : List Cells) (n : ℕ) (cells : Cells)
    → IsApplying r h all n (cells ∷ rest) k
    → IsStrictlyIncreasing (map (λ e. e.0) cells)
next_ascends r h k all rest n cells on =
    let next = next_says (joined_history h) n on.table cells rest on.said in
    fields_say-ascending (joined_history h) n next.0 cells next.2

-- no register of the next record has the last time, so its edit isn't refused for that
pub next_is_free : (r q : ℕ) (h k : List Entries) (all rest : List Cells) (n : ℕ) (cells : Cells) (e : Refusal)
    → IsApplying r h all n (cells ∷ rest) k → delta_of_edit q (joined_history k) (SetAll cells) ≡ Err e → ⊥
next_is_free r q h k all rest n cells e on refused =
    let next = next_says (joined_history h) n on.table cells rest on.said in
    let free = clocks_free (joined_history h) (joined_history k) n 0 next.0 cells next.2 on.untouched in
    let answer = rw free at refused in
    cc

pub next_is_there : (r : ℕ) (h k : List Entries) (all rest : List Cells) (n : ℕ) (cells : Cells)
    → IsApplying r h all n (cells ∷ rest) k
    → n < length all
next_is_there r h k all rest n cells on =
    let size = ap (λ (xs : List Cells). length xs) on.left in
    omega (arith, size, length-drop n all)

pub applying_goes_on : (r : ℕ) (h k m : List Entries) (all rest : List Cells) (n : ℕ) (cells : Cells)
    → IsApplying r h all n (cells ∷ rest) k → Assigned r k (cells ∷ []) m → IsApplying r h all (n + 1) rest m
applying_goes_on r h k m all rest n cells on one =
    let next = next_says (joined_history h) n on.table cells rest on.said in
    let there = next_is_there r h k all rest n cells on in
    let split : get_or all n [] ∷ drop (n + 1) all ≡ cells ∷ rest = sym (drop_more all n [] there) ∙ on.left in
    let head : get_or all n [] ≡ cells = cc in
    let tail : drop (n + 1) all ≡ rest = cc in
    let front : take (n + 1) all ≡ take n all ++ cells ∷ []
    = take_more all n [] there ∙ ap (λ (xs : Cells). take n all ++ xs ∷ []) head in
    let under = fields_say-under (joined_history h) n 0 next.0 cells next.2 in
    record {
      table = next.1;
      said = next.3;
      so_far = subst (λ (xs : List Cells). Assigned r h xs m) (sym front)
          (assigned-push r h k m (take n all) cells on.so_far one);
      left = tail;
      untouched = λ c le. unchanged_after r (place (n + 1) 0) k m cells under one c le
          ∙ on.untouched c (omega (arith, le));
    }

pub applying_ends : (r : ℕ) (h k : List Entries) (all : List Cells) (n : ℕ) → IsApplying r h all n [] k
    → Assigned r h all k
applying_ends r h k all n on =
    let whole : take n all ≡ all
    = sym (append-nil (take n all)) ∙ ap (λ (xs : List Cells). take n all ++ xs) (sym on.left)
    ∙ take-append-drop n all in
    subst (λ (xs : List Cells). Assigned r h xs k) whole on.so_far

-- the same, where the cells of the other records are given as a list
pub applying_from : (r : ℕ) (h : List Entries) (all : List Cells) (items left : List (Vec (ℕ × Content)))
    (table : List Record)
    → left ≡ items → all ≡ cells_of_each items → RecordsSay (joined_history h) 0 table all
    → IsApplying r h all 0 (cells_of_each left) h
applying_from r h all items left table is of said =
    let same : all ≡ cells_of_each left = of ∙ ap (λ (xs : List (Vec (ℕ × Content))). cells_of_each xs) (sym is) in
    subst (λ (xs : List Cells). IsApplying r h all 0 xs h) same (applying_starts r h all table said)

pub applying_next : (r : ℕ) (h k : List Entries) (all : List Cells) (n : ℕ)
    (items rest : List (Vec (ℕ × Content))) (x : Vec (ℕ × Content))
    → items ≡ x ∷ rest → IsApplying r h all n (cells_of_each items) k
    → IsApplying r h all n (x.items ∷ cells_of_each rest) k
applying_next r h k all n items rest x is on =
    subst (λ (xs : List (Vec (ℕ × Content))). IsApplying r h all n (cells_of_each xs) k) is on

-- memory ends after n records, with these deltas, and m is reported
pub stopped_at : (r : ℕ) (h made deltas : List Entries) (all rest : List Cells) (n m : ℕ)
    → IsApplying r h all n rest (h ++ made) → deltas ≡ made
    → ((deltas ≡ []) × (m ≡ 0)) ⊎ ((deltas ≢ []) × (m ≡ n))
    → Assigned r h (take m all) (h ++ deltas)
stopped_at r h made deltas all rest n m on kept (inl none) =
    assigned_so_few r h (h ++ deltas) all m none.1
    (ap (λ (ds : List Entries). h ++ ds) none.0 ∙ append-nil h)
stopped_at r h made deltas all rest n m on kept (inr some) =
    rw (kept, some.1) on.so_far
