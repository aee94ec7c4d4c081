-- The items between two places of the table, and the summaries of blocks that are remembered.
use Rattle.std.proofs.Common.{◌≡◌, ◌≢◌, ℕ, ◌+◌, ◌-◌, ◌*◌, ◌/◌, ◌<◌, ◌≤◌, List, Option, Some, None, [], ◌++◌, length}
use Rattle.std.proofs.Common.{append-nil, get_or, set, take, drop, flat_map, ap, sym, ◌∙◌, subst, arith}
use Rattle.std.proofs.Common.{get_or-set_same, get_or-set_other, length-set, zero, suc, refl, ⊎_elim}
use Rattle.std.specs.List.{range_with_len}
use Rattle.std.specs.Int.{div_ceil}
use Rattle.std.proofs.Math.Seq.{take-add}
use Rattle.std.proofs.lemmas.Bool.{cases_eq}
use Rattle.std.proofs.lemmas.Grind.{div_ceil_times}
use Rattle.std.proofs.lemmas.List.{drop-drop, drop_all, get_or_past, get_or_read, take_all}
use Rattle.std.proofs.lemmas.List.Concat.{flat_map-append}
use Rattle.std.proofs.lemmas.List.FromFn.{length-range_with_len}
use Rattle.std.proofs.lemmas.Nat.{div-add-mod', div-mul-add, mod_below}
use Rattle.ps_value.specs.declared.operand.Operand.{Operand}
use Rattle.ps_value.specs.Operand.{operand_of}
use Rattle.ps_eval.specs.Items.{cell_items, numbers_in}
use Rattle.ps_eval.specs.Inside.Operands.{items_from, items_from-operand}
use Rattle.ps_eval.specs.Summarized.{Summarizes}
use Rattle.ps_eval.specs.declared.summary.Summary.{Summary}
use Rattle.ps_eval.proofs.RangeItems.{fewer_items}
use Rattle.ps_eval.proofs.SummaryLemmas.{fewer_numbers}
use Rattle.ps_shown.specs.declared.kept.Kept.{Kept}
use Rattle.ps_shown.specs.declared.kept.Kept.TheVariants.{Empty}
use Rattle.ps_shown.specs.declared.blocks.TheConstants.{BLOCK}
use Rattle.ps_shown.specs.Kept.{value_of}
use Rattle.ps_shown.specs.Sums.{items_kept}
use Rattle.ps_shown.specs.Blocks.{AreRemembered, block_items, items_between}
use Rattle.ps_shown.proofs.RunLemmas.{run_items}

-- the items between two places, place by place
by_places : (kept : List Kept) (p q : ℕ)
    → items_between kept p q
    ≡ flat_map (λ j. cell_items (value_of (get_or kept (p + j) Empty))) (range_with_len 0 (q - p))
by_places kept p q =
    let here : p ≡ p + 0 = omega arith in
    ap (λ d. items_kept (take (q - p) (drop d kept))) here ∙ run_items kept p 0 (q - p)

-- there are no more numbers between two places than places
pub few_between : (kept : List Kept) (p q : ℕ) → length (numbers_in (items_between kept p q)) ≤ q - p
few_between kept p q =
    let few = fewer_numbers (items_between kept p q) in
    let fewer = fewer_items (λ j. value_of (get_or kept (p + j) Empty)) (range_with_len 0 (q - p)) in
    omega (arith, few, fewer, ap length (by_places kept p q), length-range_with_len 0 (q - p))

-- the items up to a place, and those from there on
pub between_join : (kept : List Kept) (p q r : ℕ) → p ≤ q → q ≤ r
    → items_between kept p q ++ items_between kept q r ≡ items_between kept p r
between_join kept p q r low high =
    let parts : r - p ≡ (q - p) + (r - q) = omega arith in
    let next : p + (q - p) ≡ q = omega arith in
    ap (λ xs. items_kept (take (q - p) (drop p kept)) ++ items_kept (take (r - q) xs))
    (sym (drop-drop (q - p) p kept ∙ ap (λ d. drop d kept) next))
    ∙ sym (flat_map-append (λ k. cell_items (value_of k)) (take (q - p) (drop p kept))
    (take (r - q) (drop (q - p) (drop p kept))))
    ∙ ap items_kept (sym (ap (λ n. take n (drop p kept)) parts ∙ take-add (q - p) (r - q) (drop p kept)))

-- the items up to a block, and those of the block
pub block_more : (kept : List Kept) (p b : ℕ) → p ≤ b * BLOCK
    → items_between kept p (b * BLOCK) ++ block_items kept b ≡ items_between kept p ((b + 1) * BLOCK)
block_more kept p b low =
    let next : b * BLOCK + BLOCK ≡ (b + 1) * BLOCK = omega arith in
    between_join kept p (b * BLOCK) (b * BLOCK + BLOCK) low (omega arith) ∙ ap (items_between kept p) next

-- where the same is kept at each place between
pub same_between : (kept others : List Kept) (p q : ℕ)
    → ((j : ℕ) → p ≤ j → j < q → get_or kept j Empty ≡ get_or others j Empty)
    → items_between kept p q ≡ items_between others p q
same_between kept others p q same =
    by_places kept p q ∙ each 0 (q - p) (λ j low high. same (p + j) (omega arith) (omega arith))
    ∙ sym (by_places others p q)
  where
    each : (k n : ℕ) → ((j : ℕ) → k ≤ j → j < k + n → get_or kept (p + j) Empty ≡ get_or others (p + j) Empty)
        → flat_map (λ j. cell_items (value_of (get_or kept (p + j) Empty))) (range_with_len k n)
        ≡ flat_map (λ j. cell_items (value_of (get_or others (p + j) Empty))) (range_with_len k n)
    each k zero alike = refl
    each k (suc n) alike =
        (λ i. cell_items (value_of (alike k (omega arith) (omega arith) i))
        ++ each (k + 1) n (λ j low high. alike j (omega arith) (omega arith)) i)

-- where nothing is kept between
pub nothing_between : (kept : List Kept) (p q : ℕ) → ((j : ℕ) → p ≤ j → j < q → get_or kept j Empty ≡ Empty)
    → items_between kept p q ≡ []
nothing_between kept p q none =
    same_between kept [] p q (λ j low high. none j low high ∙ sym (get_or_past [] j Empty (omega arith)))
    ∙ ap (λ xs. items_kept (take (q - p) xs)) (drop_all p [] (omega arith))
    ∙ ap items_kept (take_all (q - p) [] (omega arith))

-- a place in a block tells the block
pub in_block : (b j : ℕ) → b * BLOCK ≤ j → j < b * BLOCK + BLOCK → j / BLOCK ≡ b
in_block b j low high =
    let is : j ≡ b * BLOCK + (j - b * BLOCK) = omega arith in
    ap (λ n. n / BLOCK) is ∙ div-mul-add b BLOCK (j - b * BLOCK) (omega arith)

-- the first block from a place on
pub from_ceil : (p : ℕ) → p ≤ div_ceil p BLOCK * BLOCK
from_ceil p = (div_ceil_times p BLOCK (omega arith)).0

-- the last block up to a place
pub to_floor : (q : ℕ) → q / BLOCK * BLOCK ≤ q
to_floor q = omega (arith, div-add-mod' q BLOCK)

-- the block of a place: what lies before the place, what is kept there, and what lies after it
pub block_parts : (kept : List Kept) (place : ℕ)
    → block_items kept (place / BLOCK)
    ≡ items_between kept (place / BLOCK * BLOCK) place ++ cell_items (value_of (get_or kept place Empty))
    ++ items_between kept (place + 1) (place / BLOCK * BLOCK + BLOCK)
block_parts kept place =
    let low = place / BLOCK * BLOCK in
    let high = low + BLOCK in
    let whole = div-add-mod' place BLOCK in
    let rest = mod_below place BLOCK (omega arith) in
    sym (between_join kept low (place + 1) high (omega (arith, whole)) (omega (arith, whole, rest)))
    ∙ ap (λ ns. ns ++ items_between kept (place + 1) high)
    (sym (between_join kept low place (place + 1) (omega (arith, whole)) (omega arith))
    ∙ ap (λ ns. items_between kept low place ++ ns) (one_place kept place))
  where
    one_place : (kept : List Kept) (p : ℕ)
        → items_between kept p (p + 1) ≡ cell_items (value_of (get_or kept p Empty))
    one_place kept p =
        let one : p + 1 - p ≡ 1 = omega arith in
        let here : p + 0 ≡ p = omega arith in
        by_places kept p (p + 1)
        ∙ ap (λ n. flat_map (λ j. cell_items (value_of (get_or kept (p + j) Empty))) (range_with_len 0 n)) one
        ∙ append-nil (cell_items (value_of (get_or kept (p + 0) Empty)))
        ∙ ap (λ q. cell_items (value_of (get_or kept q Empty))) here

-- the same after another one was put there
block_put : (kept : List Kept) (place : ℕ) (x : Kept) → place < length kept
    → block_items (set kept place x) (place / BLOCK)
    ≡ items_between kept (place / BLOCK * BLOCK) place ++ cell_items (value_of x)
    ++ items_between kept (place + 1) (place / BLOCK * BLOCK + BLOCK)
block_put kept place x within =
    let low = place / BLOCK * BLOCK in
    let high = low + BLOCK in
    let before = same_between (set kept place x) kept low place
    (λ j least below. get_or-set_other kept place j x Empty (λ e. omega (arith, below, e))) in
    let after = same_between (set kept place x) kept (place + 1) high
    (λ j least below. get_or-set_other kept place j x Empty (λ e. omega (arith, least, e))) in
    block_parts (set kept place x) place
    ∙ (λ i. before i ++ cell_items (value_of (get_or-set_same kept place x Empty within i)) ++ after i)

-- what is known of a block has one operand for each place of it
pub block_among : (kept : List Kept) (place : ℕ) (x : Kept) (o : Operand) (s : Summary) → place < length kept
    → x ≡ get_or kept place x → o ≡ operand_of (value_of x) → Summarizes (block_items kept (place / BLOCK)) s
    → Summarizes (items_between kept (place / BLOCK * BLOCK) place ++ items_from o
    ++ items_between kept (place + 1) (place / BLOCK * BLOCK + BLOCK)) s
block_among kept place x o s within is read known =
    let low = place / BLOCK * BLOCK in
    let high = low + BLOCK in
    let cell = ap items_from read ∙ items_from-operand (value_of x)
    ∙ ap (λ y. cell_items (value_of y)) (get_or_read kept place x within is Empty) in
    subst (λ ns. Summarizes ns s)
    (block_parts kept place
    ∙ ap (λ ns. items_between kept low place ++ ns ++ items_between kept (place + 1) high) (sym cell)) known

-- and with the operand of what is put it is known of the block then
pub block_follows : (kept : List Kept) (place : ℕ) (x : Kept) (o : Operand) (s : Summary) → place < length kept
    → o ≡ operand_of (value_of x)
    → Summarizes (items_between kept (place / BLOCK * BLOCK) place ++ items_from o
    ++ items_between kept (place + 1) (place / BLOCK * BLOCK + BLOCK)) s
    → Summarizes (block_items (set kept place x) (place / BLOCK)) s
block_follows kept place x o s within read known =
    let low = place / BLOCK * BLOCK in
    let high = low + BLOCK in
    let cell = ap items_from read ∙ items_from-operand (value_of x) in
    subst (λ ns. Summarizes ns s)
    (ap (λ ns. items_between kept low place ++ ns ++ items_between kept (place + 1) high) cell
    ∙ sym (block_put kept place x within)) known

-- what is read of the summaries is known of its block
pub known_there : (kept : List Kept) (sums : List (Option Summary)) (b : ℕ) (x : Option Summary) (s : Summary)
    → AreRemembered kept sums → b < length sums → x ≡ get_or sums b x → x ≡ Some s
    → Summarizes (block_items kept b) s
known_there kept sums b x s are within read is = are b s (sym (get_or_read sums b x within read None) ∙ is)

-- where the same is kept at each place
pub remembered_same : (kept others : List Kept) (sums : List (Option Summary))
    → AreRemembered kept sums → ((p : ℕ) → get_or others p Empty ≡ get_or kept p Empty) → AreRemembered others sums
remembered_same kept others sums are same b s is =
    subst (λ ns. Summarizes ns s)
    (same_between kept others (b * BLOCK) (b * BLOCK + BLOCK) (λ j low high. sym (same j))) (are b s is)

summary_or : Summary → Option Summary → Summary
summary_or d None = d
summary_or d (Some s) = s

-- a cell that is put changes no block but its own
pub remembered_put : (kept : List Kept) (sums olds : List (Option Summary)) (place : ℕ) (x : Kept)
    → AreRemembered kept olds
    → ((b : ℕ) → b ≢ place / BLOCK → get_or sums b None ≡ get_or olds b None)
    → ((s : Summary) → get_or sums (place / BLOCK) None ≡ Some s
    → Summarizes (block_items (set kept place x) (place / BLOCK)) s)
    → AreRemembered (set kept place x) sums
remembered_put kept sums olds place x are others own b s is =
    ⊎_elim
    (λ (here : place / BLOCK ≡ b).
    subst (λ n. Summarizes (block_items (set kept place x) n) s) here
    (own s (ap (λ n. get_or sums n None) here ∙ is)))
    (λ (other : place / BLOCK ≢ b).
    subst (λ ns. Summarizes ns s)
    (same_between kept (set kept place x) (b * BLOCK) (b * BLOCK + BLOCK) (λ j low high.
    sym (get_or-set_other kept place j x Empty (λ e. other (ap (λ n. n / BLOCK) (sym e) ∙ in_block b j low high)))))
    (are b s (sym (others b (λ e. other (sym e))) ∙ is)))
    (cases_eq (place / BLOCK) b)

-- where nothing is remembered of its block
pub remembered_past : (kept : List Kept) (sums : List (Option Summary)) (place : ℕ) (x : Kept)
    → AreRemembered kept sums → length sums ≤ place / BLOCK → AreRemembered (set kept place x) sums
remembered_past kept sums place x are past =
    remembered_put kept sums sums place x are (λ b other. refl)
    (λ s is. absurd (let no : None ≡ Some s = sym (get_or_past sums (place / BLOCK) None past) ∙ is in cc))

-- or where something is
pub remembered_new : (kept : List Kept) (sums : List (Option Summary)) (place : ℕ) (x : Kept) (known : Option Summary)
    → AreRemembered kept sums → place / BLOCK < length sums
    → ((s : Summary) → known ≡ Some s → Summarizes (block_items (set kept place x) (place / BLOCK)) s)
    → AreRemembered (set kept place x) (set sums (place / BLOCK) known)
remembered_new kept sums place x known are within is =
    remembered_put kept (set sums (place / BLOCK) known) sums place x are
    (λ b other. get_or-set_other sums (place / BLOCK) b known None other)
    (λ s found. is s (sym (get_or-set_same sums (place / BLOCK) known None within) ∙ found))

-- a summary that followed
pub remembered_known : (kept : List Kept) (sums : List (Option Summary)) (place : ℕ) (x : Kept) (known : Summary)
    → AreRemembered kept sums → place / BLOCK < length sums
    → Summarizes (block_items (set kept place x) (place / BLOCK)) known
    → AreRemembered (set kept place x) (set sums (place / BLOCK) (Some known))
unfolding summary_or
remembered_known kept sums place x known are within is =
    remembered_new kept sums place x (Some known) are within
    (λ s same. subst (Summarizes (block_items (set kept place x) (place / BLOCK))) (ap (summary_or known) same) is)

-- a summary that couldn't
pub remembered_not : (kept : List Kept) (sums : List (Option Summary)) (place : ℕ) (x : Kept) (known : Option Summary)
    → AreRemembered kept sums → place / BLOCK < length sums
    → AreRemembered (set kept place x) (set (set sums (place / BLOCK) known) (place / BLOCK) None)
remembered_not kept sums place x known are within =
    let b = place / BLOCK in
    let long = length-set sums b known in
    remembered_put kept (set (set sums b known) b None) sums place x are
    (λ n other. get_or-set_other (set sums b known) b n None None other ∙ get_or-set_other sums b n known None other)
    (λ s found. absurd (let no : None ≡ Some s =
    sym (get_or-set_same (set sums b known) b None None (omega (arith, long, within))) ∙ found in cc))

-- the summary of one more block
pub remembered_more : (kept : List Kept) (sums reached : List (Option Summary)) (block : ℕ) (known : Summary)
    → AreRemembered kept sums → ((b : ℕ) → get_or reached b None ≡ get_or sums b None)
    → block < length reached → Summarizes (block_items kept block) known
    → AreRemembered kept (set reached block (Some known))
unfolding summary_or
remembered_more kept sums reached block known are same within is b s found =
    ⊎_elim
    (λ (here : block ≡ b).
    let it : Some known ≡ Some s = sym (get_or-set_same reached block (Some known) None within)
    ∙ ap (λ n. get_or (set reached block (Some known)) n None) here ∙ found in
    subst (λ x. Summarizes (block_items kept b) x) (ap (summary_or known) it)
    (subst (λ n. Summarizes (block_items kept n) known) here is))
    (λ (other : block ≢ b).
    are b s (sym (same b) ∙ sym (get_or-set_other reached block b (Some known) None (λ e. other (sym e))) ∙ found))
    (cases_eq block b)
