-- A line is read in only one way. The one exception: memory may run out.
use Rattle.std.proofs.Common.{◌≡◌, ◌≢◌, ◌⊎◌, inl, inr, ℕ, Bool, true, false, List, [], ◌∷◌, Option, Some, None}
use Rattle.std.proofs.Common.{Ok, Err, refl, sym, ap, subst, ◌∙◌}
use Rattle.std.specs.Prelude.{MatchOption, drop}
use Rattle.ps_grid.specs.declared.refusal.Refusal.{Refusal}
use Rattle.ps_grid.specs.declared.refusal.Refusal.TheVariants as refusals
use Rattle.ps_value.specs.Label.{is_label}
use Rattle.ps_formula.proofs.Texts.{one_tree}
use Rattle.ps_content.specs.Entry.{Kind, Reads, ReadsFormula, ReadsText, kind_of}
use Rattle.ps_content.specs.Entry.Kind.{too_long, empty, formula, tally, choice, number, text}
use Rattle.ps_content.specs.declared.content.Content.{Content}
use Rattle.ps_content.specs.declared.content.Content.TheVariants as contents
use Rattle.ps_delta.specs.declared.edit.Edit.{Edit}
use Rattle.ps_lines.specs.Commands.{group_size, AsksOfCell, AsksOfRectangle, AtCell, AtNumber, Assigns, NamesCell}
use Rattle.ps_lines.specs.Commands.{Read, ReadsChange, ReadsCorners, ReadsDelta, ReadsLine, ReadsOneCell, ReadsPair}
use Rattle.ps_lines.specs.Commands.{ReadsPull, ReadsRectangle, ReadsReplica, ReadsSet, ReadsTakingIn, ReadsVerb}
use Rattle.ps_lines.specs.Commands.{ReadsWait, read_unnumbered, replica_number, verb_of, with_part}
use Rattle.ps_delta.specs.Deltas.{Entries}
use Rattle.ps_lines.specs.Words.{after_word, first_word, parts, whole_number, words}
use Rattle.ps_lines.specs.declared.command.Command.{Command}
use Rattle.ps_lines.specs.declared.command.Command.TheVariants as commands
use Rattle.ps_lines.specs.declared.verb.Verb.{Verb}
use Rattle.ps_lines.specs.declared.verb.Verb.TheVariants.{Add, Choose, Entries as AllEntries, Entry, Get, Merge}
use Rattle.ps_lines.specs.declared.verb.Verb.TheVariants.{Pull, Push, Replica, Rows, Set, Sub, Unchoose, Wait}

-- memory didn't run out
abbrev IsAmple : {X : Type 0} → Read X → Type 0
IsAmple read = read ≢ Err refusals.Memory

formula_found : (bytes : List ℕ) (c : Content) (b : Read Content) → ReadsFormula bytes (Ok c) → ReadsFormula bytes b
    → IsAmple b → Ok c ≡ b
formula_found bytes c (Ok d) x y ample =
    let same : x.found.0 ≡ y.found.0 = one_tree bytes x.found.0 y.found.0 x.found.2 y.found.2 in
    ap Ok (x.found.1 ∙ ap contents.Formula same ∙ sym y.found.1)
formula_found bytes c (Err e) x y ample = absurd (ample (ap Err (y.read x.found.0 x.found.2 x.found.3)))

-- a text isn't refused both as no formula and as a formula that is too long
not_both : (bytes : List ℕ) → ReadsFormula bytes (Err refusals.Formula) → ReadsFormula bytes (Err refusals.TooLong)
    → ⊥
not_both bytes x y = x.no_formula refl (y.too_long refl).0 (y.too_long refl).1

formula_refused : (bytes : List ℕ) (e f : Refusal) → ReadsFormula bytes (Err e) → ReadsFormula bytes (Err f)
    → IsAmple {X = Content} (Err e) → IsAmple {X = Content} (Err f) → e ≡ f
formula_refused bytes e f x y ample_x ample_y = by x.refused y.refused
  where
    by : (e ≡ refusals.Formula) ⊎ ((e ≡ refusals.TooLong) ⊎ (e ≡ refusals.Memory))
        → (f ≡ refusals.Formula) ⊎ ((f ≡ refusals.TooLong) ⊎ (f ≡ refusals.Memory)) → e ≡ f
    by (inl p) (inl q) = p ∙ sym q
    by (inl p) (inr (inl q)) = absurd (not_both bytes (rw p at x) (rw q at y))
    by (inl p) (inr (inr q)) = absurd (ample_y (ap Err q))
    by (inr (inl p)) (inl q) = absurd (not_both bytes (rw q at y) (rw p at x))
    by (inr (inl p)) (inr (inl q)) = p ∙ sym q
    by (inr (inl p)) (inr (inr q)) = absurd (ample_y (ap Err q))
    by (inr (inr p)) q = absurd (ample_x (ap Err p))

formula_once : (bytes : List ℕ) (a b : Read Content) → ReadsFormula bytes a → ReadsFormula bytes b → IsAmple a
    → IsAmple b → a ≡ b
formula_once bytes (Ok c) b x y ample_x ample_y = formula_found bytes c b x y ample_y
formula_once bytes (Err e) (Ok d) x y ample_x ample_y = sym (formula_found bytes d (Err e) y x ample_x)
formula_once bytes (Err e) (Err f) x y ample_x ample_y = ap Err (formula_refused bytes e f x y ample_x ample_y)

text_once : (is : Bool) (label : List ℕ) (a b : Read Content) → ReadsText is label a → ReadsText is label b → IsAmple a
    → IsAmple b → a ≡ b
text_once true label (Ok c) (Ok d) x y ample_a ample_b = ap Ok (x ∙ sym y)
text_once true label (Ok c) (Err f) x y ample_a ample_b = absurd (ample_b (ap Err y))
text_once true label (Err e) b x y ample_a ample_b = absurd (ample_a (ap Err x))
text_once false label a b x y ample_a ample_b = x ∙ sym y

entry_once : (kind : Kind) (bytes : List ℕ) (a b : Read Content) → Reads kind bytes a → Reads kind bytes b
    → IsAmple a → IsAmple b → a ≡ b
entry_once too_long bytes a b x y ample_a ample_b = x ∙ sym y
entry_once empty bytes a b x y ample_a ample_b = x ∙ sym y
entry_once (number z) bytes a b x y ample_a ample_b = x ∙ sym y
entry_once formula bytes a b x y ample_a ample_b = formula_once bytes a b x y ample_a ample_b
entry_once tally bytes a b x y ample_a ample_b = x ∙ sym y
entry_once choice bytes a b x y ample_a ample_b = x ∙ sym y
entry_once (text label) bytes a b x y ample_a ample_b = text_once (is_label label) label a b x y ample_a ample_b

cell_once : (word : List ℕ) (f g : Option ℕ) → NamesCell word f → NamesCell word g → f ≡ g
cell_once word (Some c) g x y = sym ((y c).1 ((x c).0 refl))
cell_once word None (Some d) x y = (x d).1 ((y d).0 refl)
cell_once word None None x y = refl

at_cell_once : {X : Type 0} (word : List ℕ) (a b : Read X) (P Q : ℕ → Type 0) → AtCell word a P → AtCell word b Q
    → ((c : ℕ) → P c → Q c → a ≡ b) → a ≡ b
at_cell_once {X} word a b P Q x y same = at x.0 y.0 (cell_once word x.0 y.0 x.1 y.1) x.2 y.2
  where
    at : (f g : Option ℕ) → f ≡ g → MatchOption f (a ≡ Err refusals.Cell) P → MatchOption g (b ≡ Err refusals.Cell) Q
        → a ≡ b
    at None None e p q = p ∙ sym q
    at None (Some d) e p q = cc
    at (Some c) None e p q = cc
    at (Some c) (Some d) e p q = let there : d ≡ c = cc in same c p (subst Q there q)

pair_once : (refusal : Refusal) (others : List (List ℕ)) (a b : Read (ℕ × ℕ)) → ReadsPair refusal others a
    → ReadsPair refusal others b → a ≡ b
pair_once refusal [] a b x y = x ∙ sym y
pair_once refusal (cell ∷ []) a b x y = x ∙ sym y
pair_once refusal (cell ∷ digits ∷ third ∷ more) a b x y = x ∙ sym y
pair_once refusal (cell ∷ digits ∷ []) a b x y = at_cell_once cell a b _ _ x y (at (whole_number digits))
  where
    at : (n : Option ℕ) (c : ℕ) → MatchOption n (a ≡ Err refusal) (λ n. a ≡ Ok (c, n))
        → MatchOption n (b ≡ Err refusal) (λ n. b ≡ Ok (c, n)) → a ≡ b
    at None c p q = p ∙ sym q
    at (Some n) c p q = p ∙ sym q

change_once : (change : ℕ → ℕ → Edit) (refusal : Refusal) (others : List (List ℕ)) (a b : Read Command)
    → ReadsChange change refusal others a → ReadsChange change refusal others b → a ≡ b
change_once change refusal others a b x y =
    x.2 ∙ ap (with_part _) (pair_once refusal others x.0 y.0 x.1 y.1) ∙ sym y.2

one_cell_once : (others : List (List ℕ)) (a b : Read ℕ) → ReadsOneCell others a → ReadsOneCell others b → a ≡ b
one_cell_once [] a b x y = x ∙ sym y
one_cell_once (cell ∷ []) a b x y = at_cell_once cell a b _ _ x y (λ c p q. p ∙ sym q)
one_cell_once (cell ∷ second ∷ more) a b x y = x ∙ sym y

of_cell_once : (question : ℕ → Command) (others : List (List ℕ)) (a b : Read Command) → AsksOfCell question others a
    → AsksOfCell question others b → a ≡ b
of_cell_once question others a b x y =
    x.2 ∙ ap (with_part _) (one_cell_once others x.0 y.0 x.1 y.1) ∙ sym y.2

assigned_once : (c : ℕ) (entry : List ℕ) (a b : Read Command) → Assigns c entry a → Assigns c entry b → IsAmple a
    → IsAmple b → a ≡ b
assigned_once c entry a b x y ample_a ample_b =
    x.2 ∙ ap (with_part _) (entry_once (kind_of entry) entry x.0 y.0 x.1 y.1
    (λ e. ample_a (x.2 ∙ ap (with_part _) e)) (λ e. ample_b (y.2 ∙ ap (with_part _) e))) ∙ sym y.2

set_once : (others : List (List ℕ)) (entry : List ℕ) (a b : Read Command) → ReadsSet others entry a
    → ReadsSet others entry b → IsAmple a → IsAmple b → a ≡ b
set_once [] entry a b x y ample_a ample_b = x ∙ sym y
set_once (cell ∷ more) entry a b x y ample_a ample_b =
    at_cell_once cell a b _ _ x y (λ c p q. assigned_once c entry a b p q ample_a ample_b)

corners_once : (corners : List (List ℕ)) (a b : Read (ℕ × ℕ)) → ReadsCorners corners a → ReadsCorners corners b
    → a ≡ b
corners_once [] a b x y = x ∙ sym y
corners_once (first ∷ []) a b x y = x ∙ sym y
corners_once (first ∷ last ∷ []) a b x y =
    at_cell_once first a b _ _ x y (λ c p q. at_cell_once last a b _ _ p q (λ d r s. r ∙ sym s))
corners_once (first ∷ last ∷ third ∷ more) a b x y = x ∙ sym y

both_once : (others : List (List ℕ)) (a b : Read (ℕ × ℕ)) → ReadsRectangle others a → ReadsRectangle others b
    → a ≡ b
both_once [] a b x y = x ∙ sym y
both_once (corners ∷ []) a b x y = corners_once (parts 58 corners) a b x y
both_once (corners ∷ second ∷ more) a b x y = x ∙ sym y

of_rectangle_once : (question : ℕ → ℕ → Command) (others : List (List ℕ)) (a b : Read Command)
    → AsksOfRectangle question others a → AsksOfRectangle question others b → a ≡ b
of_rectangle_once question others a b x y =
    x.2 ∙ ap (with_part _) (both_once others x.0 y.0 x.1 y.1) ∙ sym y.2

delta_refused : (e f : Refusal) → (e ≡ refusals.Delta) ⊎ (e ≡ refusals.Memory)
    → (f ≡ refusals.Delta) ⊎ (f ≡ refusals.Memory) → IsAmple {X = Entries} (Err e) → IsAmple {X = Entries} (Err f)
    → e ≡ f
delta_refused e f (inl p) (inl q) ample_e ample_f = p ∙ sym q
delta_refused e f (inr p) q ample_e ample_f = absurd (ample_e (ap Err p))
delta_refused e f (inl p) (inr q) ample_e ample_f = absurd (ample_f (ap Err q))

delta_once : (bytes : List ℕ) (a b : Read Entries) → ReadsDelta bytes a → ReadsDelta bytes b → IsAmple a → IsAmple b
    → a ≡ b
delta_once bytes (Ok d) (Ok e) x y ample_a ample_b = ap Ok (x.only e y.line)
delta_once bytes (Ok d) (Err e) x y ample_a ample_b = absurd (ample_b (ap Err (y.only d x.line)))
delta_once bytes (Err e) (Ok d) x y ample_a ample_b = absurd (ample_a (ap Err (x.only d y.line)))
delta_once bytes (Err e) (Err f) x y ample_a ample_b =
    ap Err (delta_refused e f x.refused y.refused ample_a ample_b)

taking_in_once : (asked : Entries → Command) (others : List (List ℕ)) (line : List ℕ) (a b : Read Command)
    → ReadsTakingIn asked others line a → ReadsTakingIn asked others line b → IsAmple a → IsAmple b → a ≡ b
taking_in_once asked [] line a b x y ample_a ample_b = x ∙ sym y
taking_in_once asked (word ∷ others) line a b x y ample_a ample_b =
    x.2 ∙ ap (with_part _) (delta_once line x.0 y.0 x.1 y.1 (λ e. ample_a (x.2 ∙ ap (with_part _) e))
    (λ e. ample_b (y.2 ∙ ap (with_part _) e))) ∙ sym y.2

at_number_once : (n : Option ℕ) (a b : Read Command) (P Q : ℕ → Type 0) → AtNumber n a P → AtNumber n b Q
    → ((m : ℕ) → P m → Q m → a ≡ b) → a ≡ b
at_number_once None a b P Q x y same = x ∙ sym y
at_number_once (Some m) a b P Q x y same = same m x y

pull_once : (others : List (List ℕ)) (a b : Read Command) → ReadsPull others a → ReadsPull others b → a ≡ b
pull_once [] a b x y = x ∙ sym y
pull_once (from ∷ []) a b x y = at_number_once (whole_number from) a b _ _ x y (λ n p q. p ∙ sym q)
pull_once (from ∷ most ∷ []) a b x y = at_number_once (whole_number from) a b _ _ x y
    (λ n p q. at_number_once (group_size (whole_number most)) a b _ _ p q (λ m r s. r ∙ sym s))
pull_once (from ∷ most ∷ third ∷ more) a b x y = x ∙ sym y

replica_once : (others : List (List ℕ)) (a b : Read Command) → ReadsReplica others a → ReadsReplica others b → a ≡ b
replica_once [] a b x y = x ∙ sym y
replica_once (word ∷ []) a b x y = at (replica_number (whole_number word)) x y
  where
    at : (n : Option ℕ) → MatchOption n (a ≡ read_unnumbered word) (λ n. a ≡ Ok (commands.Replica (Some n)))
        → MatchOption n (b ≡ read_unnumbered word) (λ n. b ≡ Ok (commands.Replica (Some n))) → a ≡ b
    at None p q = p ∙ sym q
    at (Some n) p q = p ∙ sym q
replica_once (word ∷ second ∷ more) a b x y = x ∙ sym y

wait_once : (others : List (List ℕ)) (a b : Read Command) → ReadsWait others a → ReadsWait others b → a ≡ b
wait_once [] a b x y = x ∙ sym y
wait_once (seen ∷ []) a b x y = at_number_once (whole_number seen) a b _ _ x y (λ n p q. p ∙ sym q)
wait_once (seen ∷ second ∷ more) a b x y = x ∙ sym y

verb_once : (verb : Option Verb) (others : List (List ℕ)) (rest : List ℕ) (a b : Read Command)
    → ReadsVerb verb others rest a → ReadsVerb verb others rest b → IsAmple a → IsAmple b → a ≡ b
verb_once None others rest a b x y ample_a ample_b = x ∙ sym y
verb_once (Some Get) others rest a b x y ample_a ample_b = of_cell_once _ others a b x y
verb_once (Some Set) others rest a b x y ample_a ample_b =
    set_once others (after_word rest) a b x y ample_a ample_b
verb_once (Some Add) others rest a b x y ample_a ample_b = change_once _ refusals.Amount others a b x y
verb_once (Some Sub) others rest a b x y ample_a ample_b = change_once _ refusals.Amount others a b x y
verb_once (Some Choose) others rest a b x y ample_a ample_b = change_once _ refusals.OptionRange others a b x y
verb_once (Some Unchoose) others rest a b x y ample_a ample_b = change_once _ refusals.OptionRange others a b x y
verb_once (Some Rows) others rest a b x y ample_a ample_b = of_rectangle_once _ others a b x y
verb_once (Some Entry) others rest a b x y ample_a ample_b = of_cell_once _ others a b x y
verb_once (Some AllEntries) others rest a b x y ample_a ample_b = of_rectangle_once _ others a b x y
verb_once (Some Push) others rest a b x y ample_a ample_b =
    taking_in_once (λ d. commands.Push d) others rest a b x y ample_a ample_b
verb_once (Some Merge) others rest a b x y ample_a ample_b =
    taking_in_once (λ d. commands.Merge d) others rest a b x y ample_a ample_b
verb_once (Some Pull) others rest a b x y ample_a ample_b = pull_once others a b x y
verb_once (Some Replica) others rest a b x y ample_a ample_b = replica_once others a b x y
verb_once (Some Wait) others rest a b x y ample_a ample_b = wait_once others a b x y

-- two readings of one line are the same, if memory ran out in neither
pub reads_once : (line : List ℕ) (a b : Read Command) → ReadsLine line a → ReadsLine line b
    → a ≢ Err refusals.Memory → b ≢ Err refusals.Memory → a ≡ b
reads_once line a b x y ample_a ample_b =
    verb_once (verb_of (first_word line)) (drop 1 (words line)) (after_word line) a b x y ample_a
    ample_b
