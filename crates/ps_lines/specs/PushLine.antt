-- The line that pushes a delta.
use Rattle.std.specs.Prelude.{◌≡◌, ℕ, List, [], ◌∷◌, ◌++◌, codes}
use Rattle.ps_delta.specs.Deltas.{Entries}
use Rattle.ps_wire.specs.Line.{IsLine, delta_text}

-- the line's first word, with its space
abbrev pub push_word : List ℕ
push_word = codes "push "

-- the line begins with `push` and a space
abbrev pub IsPush : List ℕ → Type 0
IsPush line = (text : List ℕ) × (line ≡ push_word ++ text)

-- the line pushes the delta, in whatever spelling
abbrev pub Pushes : List ℕ → Entries → Type 0
Pushes line delta = (text : List ℕ) × (line ≡ push_word ++ text) × IsLine text delta

-- the line that pushes a delta in its compact spelling, without a line feed
abbrev pub push_line : Entries → List ℕ
push_line delta = push_word ++ delta_text delta

-- the `push` line for the text of a delta, with its line feed
abbrev pub push_text : List ℕ → List ℕ
push_text delta = push_word ++ (delta ++ 10 ∷ [])
