-- Which tree a text has.
use Rattle.std.specs.Prelude.{ℕ, ◌≡◌, ◌⊎◌, ◌++◌, List, codes}
use Rattle.ps_tokens.specs.declared.token.Token.{Token}
use Rattle.ps_tokens.specs.Text.{Spells}
use Rattle.ps_formula.specs.Tree.{Tree}
use Rattle.ps_formula.specs.Canonical.{canon}
use Rattle.ps_formula.specs.Grammar.{Has}

-- a formula begins with `=`, in documents often with `of:=`
abbrev pub Opens : List ℕ → List ℕ → Type 0
Opens bytes rest = (bytes ≡ codes "=" ++ rest) ⊎ (bytes ≡ codes "of:=" ++ rest)

-- the bytes are a formula with this tree: after the opening they spell tokens that are a comparison with the tree
pub record HasTree (bytes : List ℕ) (t : Tree) : Type 0 where
  pub rest : List ℕ
  pub tokens : List Token
  pub opening : Opens bytes rest
  pub spelled : Spells rest tokens
  pub has : Has 3 tokens t

-- no two trees for one text
abbrev pub OneTree : Type 0
OneTree = (bytes : List ℕ) (t u : Tree) → HasTree bytes t → HasTree bytes u → t ≡ u

-- the canonical text of a tree that some text has is a formula with that tree too
abbrev pub CanonicalTextHasTree : Type 0
CanonicalTextHasTree = (bytes : List ℕ) (t : Tree) → HasTree bytes t → HasTree (canon t) t
