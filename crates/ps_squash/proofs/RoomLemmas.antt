-- How many cells a line has room for.
use Rattle.std.proofs.Common.{◌≡◌, ℕ, ◌+◌, ◌<◌, ◌≤◌, List, [], ◌∷◌, ◌++◌, length, take, drop, refl, sym, ap}
use Rattle.std.proofs.Common.{◌∙◌, arith, map, subst, length-append}
use Rattle.std.proofs.Math.Seq.{take-add}
use Rattle.std.proofs.lemmas.List.{length-map, length-take-le, take-append-drop, take-map}
use Rattle.std.proofs.lemmas.List.Sums.{sum_by-cons}
use Rattle.std.specs.Prelude.{sum_by}
use Rattle.ps_delta.specs.Deltas.{Entries}
use Rattle.ps_delta.specs.declared.cell_state.CellState.{CellState}
use Rattle.ps_wire.specs.Fits.{FitsLine}
use Rattle.ps_wire.specs.Line.{delta_text}
use Rattle.ps_wire.specs.Value.{cell_value, delta_value}
use Rattle.ps_wire.specs.declared.TheConstants.{DELTA_LINE_LIMIT}
use Rattle.ps_wire.proofs.SizeLemmas.{size_of_array}
use Rattle.ps_squash.specs.Squashed.{AreFull, HasNoRoomFor}
use Rattle.ps_squash.specs.Inside.{cell_size, ended_size}

-- a cell's text with what comes after it
abbrev ended : ℕ × CellState → ℕ
ended e = 1 + cell_size e

delta_size : (es : Entries) → 0 < length es → length (delta_text es) ≡ 1 + sum_by ended es
unfolding delta_text delta_value
delta_size es some = size_of_array cell_value es some

sum_of_sizes : (es : Entries) → sum_by ended_size (map cell_size es) ≡ sum_by ended es
sum_of_sizes [] = refl
sum_of_sizes (e ∷ es) =
    omega (
      arith,
      sum_by-cons ended_size (cell_size e) (map cell_size es),
      sum_by-cons ended e es,
      sum_of_sizes es,
    )

sum_of_front : (n : ℕ) (es : Entries) → sum_by ended_size (take n (map cell_size es)) ≡ sum_by ended (take n es)
sum_of_front n es = ap (sum_by ended_size) (take-map cell_size n es) ∙ sum_of_sizes (take n es)

-- the line of one cell
pub size_alone : (e : ℕ × CellState) → length (delta_text (e ∷ [])) ≡ cell_size e + 2
size_alone e = omega (arith, delta_size (e ∷ []) (omega arith), sum_by-cons ended e [])

-- the first n cells have room in a line
pub front_fits : (n : ℕ) (es : Entries) (sizes : List ℕ) → sizes ≡ map cell_size es → 0 < n → n ≤ length es
    → 1 + sum_by ended_size (take n sizes) ≤ DELTA_LINE_LIMIT → FitsLine (take n es)
front_fits n es sizes is some within fits =
    let sum = ap (λ ns. sum_by ended_size (take n ns)) is ∙ sum_of_front n es in
    let whole = delta_size (take n es) (subst (λ k. 0 < k) (sym (length-take-le n es within)) some) in
    omega (arith, fits, sum, whole)

-- .. and no more
no_more : (xs ys : Entries) → (0 < length ys → DELTA_LINE_LIMIT < 1 + sum_by ended (xs ++ take 1 ys))
    → HasNoRoomFor xs ys
no_more xs [] over = tt
no_more xs (y ∷ ys) over = λ fits.
    let some : 0 < length (xs ++ y ∷ []) = omega (arith, length-append xs (y ∷ [])) in
    let most : DELTA_LINE_LIMIT < 1 + sum_by ended (xs ++ y ∷ []) = over (omega arith) in
    omega (arith, most, delta_size (xs ++ y ∷ []) some, fits)

length-left : (n : ℕ) (es : Entries) → n ≤ length es → 0 < length (drop n es) → n < length es
length-left n es within some =
    let whole = sym (length-append (take n es) (drop n es)) ∙ ap length (take-append-drop n es) in
    omega (arith, some, within, whole, length-take-le n es within)

pub front_full : (n : ℕ) (es : Entries) (sizes : List ℕ) → sizes ≡ map cell_size es → n ≤ length es
    → (n < length es → DELTA_LINE_LIMIT < 1 + sum_by ended_size (take (n + 1) sizes))
    → HasNoRoomFor (take n es) (drop n es)
front_full n es sizes is within over =
    no_more (take n es) (drop n es)
    (λ some.
    let sum = ap (λ ns. sum_by ended_size (take (n + 1) ns)) is ∙ sum_of_front (n + 1) es
    ∙ ap (sum_by ended) (take-add n 1 es) in
    let most = over (length-left n es within some) in omega (arith, most, sum))

-- the first cells, as many as a line has room for, make a line
pub record IsCount (n : ℕ) (es : Entries) : Type 0 where
  pub some : 0 < n
  pub within : n ≤ length es
  pub front : 0 < length (take n es)
  pub fits : FitsLine (take n es)
  pub full : HasNoRoomFor (take n es) (drop n es)

pub counted : (n : ℕ) (es : Entries) (sizes : List ℕ) → sizes ≡ map cell_size es → 0 < length es
    → (0 < length sizes → 0 < n) → n ≤ length sizes → 1 + sum_by ended_size (take n sizes) ≤ DELTA_LINE_LIMIT
    → (n < length sizes → DELTA_LINE_LIMIT < 1 + sum_by ended_size (take (n + 1) sizes)) → IsCount n es
counted n es sizes is filled some within fits full =
    let long : length sizes ≡ length es = ap length is ∙ length-map es cell_size in
    let few : n ≤ length es = omega (arith, within, long) in
    let least : 0 < n = some (omega (arith, filled, long)) in record {
      some = least;
      within = few;
      front = subst (λ k. 0 < k) (sym (length-take-le n es few)) least;
      fits = front_fits n es sizes is least few fits;
      full = front_full n es sizes is few (λ less. full (omega (arith, less, long)));
    }

-- one line more, after lines that were full
pub full_push : (ds : List Entries) (g rest : Entries) → 0 < length g → AreFull ds (g ++ rest) → HasNoRoomFor g rest
    → AreFull (ds ++ g ∷ []) rest
full_push [] g rest some full last = last
full_push (d ∷ []) [] rest some full last = absurd (omega (arith, some))
full_push (d ∷ []) (x ∷ g) rest some full last = (full, last)
full_push (d ∷ e ∷ ds) g rest some full last = (full.0, full_push (e ∷ ds) g rest some full.1 last)
