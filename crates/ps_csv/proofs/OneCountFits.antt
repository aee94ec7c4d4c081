-- If an import stops amid the records, one count of assigned records fits.
use Rattle.std.proofs.Common.{◌≡◌, ◌+◌, ◌∷◌, ◌++◌, ◌∙◌, [], ℕ, zero, suc, List, map, length, drop, take}
use Rattle.std.proofs.Common.{Bool, true, false, None, refl, ap, sym, subst, arith}
use Rattle.std.proofs.lemmas.List.{length-append}
use Rattle.csv.specs.Machine.{Read, next_record}
use Rattle.csv.specs.Reading.{AreRecords, Reached, default_config, strip_bom}
use Rattle.csv.specs.declared.parser.Config.{Config}
use Rattle.csv.specs.declared.parser.State.{State as ReaderState}
use Rattle.csv.specs.declared.parser.State.TheVariants as states
use Rattle.ps_delta.specs.State.{State}
use Rattle.ps_delta.specs.Deltas.{Entries, joined_history}
use Rattle.ps_csv.specs.Imports.{Assigned, BeginsFilled}
use Rattle.ps_csv.specs.Laws.{OneCountFits}
use Rattle.ps_csv.specs.Records.{Cells, FieldSays, FieldsSay, Record, RecordsSay}

-- a text has one table
same_records : (cfg : Config) (s : ReaderState) (xs : List ℕ) (rows others : List Record)
    → AreRecords cfg s xs rows → AreRecords cfg s xs others → rows ≡ others
unfolding Reached
same_records cfg s xs [] [] a b = refl
same_records cfg s xs [] (t ∷ ts) a b =
    let ends : next_record cfg s [] [] xs ≡ None = rw (a.2.0, a.2.1) a.3 in
    let goes = b.2.1 in
    cc
same_records cfg s xs (r ∷ rs) [] a b =
    let ends : next_record cfg s [] [] xs ≡ None = rw (b.2.0, b.2.1) b.3 in
    let goes = a.2.1 in
    cc
same_records cfg s xs (r ∷ rs) (t ∷ ts) a b =
    let is_a = a.2.1 in
    let is_b = b.2.1 in
    let same : b.2.0 ≡ a.2.0 = cc in
    let head : r ≡ t = a.2.2 ∙ ap (λ (p : Read). p.0) (sym same) ∙ sym b.2.2 in
    let rest = subst (λ (p : Read). Reached cfg p.1 p.2 ts b.0 b.1) same b.2.3 in
    let tail : rs ≡ ts = same_records cfg a.2.0.1 a.2.0.2 rs ts (a.0, a.1, a.2.3, a.3) (b.0, b.1, rest, b.3) in
    cc

-- whether a record has cells
abbrev has_cells : Cells → Bool
has_cells [] = false
has_cells (c ∷ cs) = true

-- the number of records that have cells
abbrev filled : List Cells → ℕ
filled [] = 0
filled ([] ∷ batches) = filled batches
filled ((c ∷ cs) ∷ batches) = 1 + filled batches

-- the fields of a record decide whether it has cells
same_fields : (s : State) (n j : ℕ) (fields : Record) (a b : Cells)
    → FieldsSay s n j fields a → FieldsSay s n j fields b → has_cells a ≡ has_cells b
unfolding FieldsSay FieldSays
same_fields s n j [] a b x y = ap has_cells (x ∙ sym y)
same_fields s n j ([] ∷ fields) a b x y =
    let of_a : a ≡ x.1 = x.5 ∙ ap (λ (cs : Cells). cs ++ x.1) x.3 in
    let of_b : b ≡ y.1 = y.5 ∙ ap (λ (cs : Cells). cs ++ y.1) y.3 in
    ap has_cells of_a ∙ same_fields s n (j + 1) fields x.1 y.1 x.4 y.4 ∙ sym (ap has_cells of_b)
same_fields s n j ((c ∷ cs) ∷ fields) a b x y =
    let of_a : has_cells a ≡ true = ap has_cells x.5 ∙ ap (λ (cells : Cells). has_cells (cells ++ x.1)) x.3.3 in
    let of_b : has_cells b ≡ true = ap has_cells y.5 ∙ ap (λ (cells : Cells). has_cells (cells ++ y.1)) y.3.3 in
    of_a ∙ sym of_b

same_filled : (s : State) (n : ℕ) (table : List Record) (a b : List Cells)
    → RecordsSay s n table a → RecordsSay s n table b → map has_cells a ≡ map has_cells b
unfolding RecordsSay
same_filled s n [] a b x y = ap (λ (xs : List Cells). map has_cells xs) (x ∙ sym y)
same_filled s n (fields ∷ table) a b x y =
    let head = same_fields s n 0 fields x.0 y.0 x.3 y.3 in
    let tail = same_filled s (n + 1) table x.1 y.1 x.4 y.4 in
    ap (λ (xs : List Cells). map has_cells xs) x.5
    ∙ ap (λ (z : Bool). z ∷ map has_cells x.1) head
    ∙ ap (λ (zs : List Bool). has_cells y.0 ∷ zs) tail
    ∙ sym (ap (λ (xs : List Cells). map has_cells xs) y.5)

-- a history grows by one for each record that has cells
grows_by : (r : ℕ) (h : List Entries) (batches : List Cells) (k : List Entries) → Assigned r h batches k
    → length k ≡ length h + filled batches
unfolding Assigned
grows_by r h [] k is =
    let size : length k ≡ length h = ap (λ (ds : List Entries). length ds) is in
    omega (arith, size)
grows_by r h ([] ∷ batches) k is = grows_by r h batches k is
grows_by r h ((c ∷ cs) ∷ batches) k is =
    let rest = grows_by r (h ++ is.0 ∷ []) batches k is.2 in
    omega (arith, rest, length-append h (is.0 ∷ []))

unfilled : (cells : Cells) (batches : List Cells) → has_cells cells ≡ false → BeginsFilled (cells ∷ batches) → ⊥
unfilled [] batches none a = let e = a.3 in let head : a.0 ≡ [] = cc in a.2 head
unfilled (c ∷ cs) batches none a = cc

nothing_filled : (n : ℕ) → BeginsFilled (drop n []) → ⊥
nothing_filled zero a = let e = a.3 in cc
nothing_filled (suc n) a = let e = a.3 in cc

-- where a record has cells, the records before it that have cells tell its place
one_place : (a b : List Cells) (n m : ℕ) → map has_cells a ≡ map has_cells b
    → BeginsFilled (drop n a) → BeginsFilled (drop m b) → filled (take n a) ≡ filled (take m b) → n ≡ m
one_place [] b n m same x y is = absurd (nothing_filled n x)
one_place (c ∷ a) [] n m same x y is = absurd (nothing_filled m y)
one_place (c ∷ a) (d ∷ b) zero zero same x y is = refl
one_place (c ∷ a) ([] ∷ b) zero (suc m) same x y is = let is_c : has_cells c ≡ false = cc in absurd (unfilled c a is_c x)
one_place (c ∷ a) ((d ∷ ds) ∷ b) zero (suc m) same x y is =
    let e : 0 ≡ 1 + filled (take m b) = is in
    absurd (omega (arith, e))
one_place ([] ∷ a) (d ∷ b) (suc n) zero same x y is = let is_d : has_cells d ≡ false = cc in absurd (unfilled d b is_d y)
one_place ((c ∷ cs) ∷ a) (d ∷ b) (suc n) zero same x y is =
    let e : 1 + filled (take n a) ≡ 0 = is in
    absurd (omega (arith, e))
one_place ([] ∷ a) ([] ∷ b) (suc n) (suc m) same x y is =
    let rest : map has_cells a ≡ map has_cells b = cc in
    ap (λ (k : ℕ). suc k) (one_place a b n m rest x y is)
one_place ([] ∷ a) ((d ∷ ds) ∷ b) (suc n) (suc m) same x y is = cc
one_place ((c ∷ cs) ∷ a) ([] ∷ b) (suc n) (suc m) same x y is = cc
one_place ((c ∷ cs) ∷ a) ((d ∷ ds) ∷ b) (suc n) (suc m) same x y is =
    let rest : map has_cells a ≡ map has_cells b = cc in
    let e : 1 + filled (take n a) ≡ 1 + filled (take m b) = is in
    ap (λ (k : ℕ). suc k) (one_place a b n m rest x y (omega (arith, e)))

pub one_count_fits : OneCountFits
one_count_fits bytes old new n m a b =
    let table = same_records default_config states.StartRecord (strip_bom bytes) b.table a.table b.read a.read in
    let said = subst (λ (t : List Record). RecordsSay (joined_history old.history) 0 t b.batches) table b.said in
    let same = same_filled (joined_history old.history) 0 a.table a.batches b.batches a.said said in
    let of_a = grows_by old.replica old.history (take n a.batches) new.history a.assigned in
    let of_b = grows_by old.replica old.history (take m b.batches) new.history b.assigned in
    one_place a.batches b.batches n m same a.next b.next (omega (arith, of_a, of_b))
