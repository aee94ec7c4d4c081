-- The book that holds the list of patches, and what adding to it means.
use Rattle.std.specs.Prelude.{ℕ, ◌≡◌, ◌==◌, true, List, [], ◌∷◌, ◌++◌, length}
use Rattle.std.specs.Bool.{OnTrue}
use Rattle.logbook.specs.Pages.{Cell, Step, View, Book, Named}
use Rattle.ps_face.specs.declared.patch.Note.{Note}

-- the first word is the length of the list. A book has two words; here the second stays 0
pub record CountsPatches (cells : List Cell) (log : List Note) : Type 0 where
  pub words : cells ≡ (length log, true) ∷ (0, true) ∷ []

-- the word that is the length of the list
abbrev pub head_of : Book → Named
head_of b = record { tracked = true; key = 0; book = b }

-- if the exchange found the word as expected, the patch was added to all that had been seen
abbrev pub Adds : Step Note → View Note ℕ → ℕ → View Note ℕ → Type 0
Adds s v found w = OnTrue (found == s.old) (w.0 ≡ v.0 ++ s.ask ∷ [])
