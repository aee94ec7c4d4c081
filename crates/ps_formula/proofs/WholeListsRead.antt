-- A whole list of tokens: the reader reads a tree and leaves no token exactly where the tokens have that tree.
use Rattle.std.proofs.Common.{◌≡◌, ℕ, ◌+◌, ◌*◌, ◌<◌, sym, ap, ◌∙◌, subst, List, [], ◌∷◌, length, append-nil, arith}
use Rattle.std.specs.Prelude.{Option, Some, None}
use Rattle.ps_tokens.specs.declared.token.Token.{Token}
use Rattle.ps_formula.specs.Grammar.{Has}
use Rattle.ps_formula.specs.Inside.Reading.{level_at, Refuses}
use Rattle.ps_grid.specs.declared.refusal.Refusal.{Refusal}
use Rattle.ps_grid.specs.declared.refusal.Refusal.TheVariants.{Formula}
use Rattle.ps_formula.specs.Tree.{Tree, reference}
use Rattle.ps_formula.proofs.ReaderIsSound.{takes_level}
use Rattle.ps_formula.proofs.ReaderIsComplete.{again_level, all_read}

-- the tree that was read
abbrev tree_in : Option (Tree × List Token) → Tree
tree_in None = reference 0
tree_in (Some x) = x.0

pub read_whole : (n : ℕ) (ts : List Token) (a : Tree) (rest : List Token) → level_at n 3 ts ≡ Some (a, rest)
    → length rest ≡ 0 → Has 3 ts a
read_whole n ts a [] e none =
    let taken = takes_level n 3 ts (a, []) e in
    subst (λ v. Has 3 v a) (sym (taken.splits ∙ append-nil taken.front)) taken.has
read_whole n ts a (x ∷ rest) e none = absurd (omega (arith, none))

pub reads_whole : (ts : List Token) (t : Tree) → Has 3 ts t → level_at (8 * length ts + 4) 3 ts ≡ Some (t, [])
reads_whole ts t h =
    let n = 8 * length ts + 4 in
    let goes = again_level h n 3 [] (omega arith) (omega arith) tt in
    ap (level_at n 3) (sym (append-nil ts)) ∙ all_read n 3 ts [] t goes (omega arith) tt

-- a list of tokens has one tree
pub one_tree_of : (ts : List Token) (t u : Tree) → Has 3 ts t → Has 3 ts u → t ≡ u
one_tree_of ts t u h k =
    ap tree_in (sym (reads_whole ts t h) ∙ reads_whole ts u k)

-- the level that is asked for ends nowhere, so nothing has a tree
pub nothing_read : (ts : List Token) → level_at (8 * length ts + 4) 3 ts ≡ None → (t : Tree) → Has 3 ts t → ⊥
nothing_read ts e t h = let found = reads_whole ts t h in cc

-- how many tokens are left
abbrev left_of : Option (Tree × List Token) → ℕ
left_of None = 0
left_of (Some x) = length x.1

-- some token is left, so nothing has a tree
pub not_all_read : (ts : List Token) (a : Tree) (rest : List Token)
    → level_at (8 * length ts + 4) 3 ts ≡ Some (a, rest) → 0 < length rest → (t : Tree) → Has 3 ts t → ⊥
not_all_read ts a rest e left t h =
    let found = reads_whole ts t h in
    let none : length rest ≡ 0 = ap left_of (sym e ∙ found) in omega (arith, left, none)

-- a refusal as a formula says that nothing was read
pub refused_none : {Y : Type 0} (e : Refusal) (read : Option Y) → Refuses e read → e ≡ Formula → read ≡ None
refused_none e read h is = let same : Refuses Formula read = subst (λ r. Refuses r read) is h in same
