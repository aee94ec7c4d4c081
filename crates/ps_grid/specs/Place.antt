-- Where a cell lies in the grid, and what it is called. A cell is its index.
use Rattle.std.specs.Prelude.{ℕ, ◌+◌, ◌-◌, ◌*◌, ◌/◌, ◌%◌, List, [], ◌∷◌, ◌++◌, nat_lt, if◌then◌else◌}
use Rattle.std.specs.Fmt.{decimal}
use Rattle.ps_grid.specs.declared.size.TheConstants.{COLUMNS, LETTERS}

-- the cell of a column, from 0, and a row, from 1
abbrev pub cell_at : ℕ → ℕ → ℕ
cell_at column row = (row - 1) * COLUMNS + column

-- the column of a cell, from 0
abbrev pub column_of : ℕ → ℕ
column_of c = c % COLUMNS

-- the row of a cell, from 1
abbrev pub row_of : ℕ → ℕ
row_of c = c / COLUMNS + 1

-- the letter of a number: A for 0, B for 1, to Z for 25
abbrev pub letter_of : ℕ → ℕ
letter_of k = 65 + k

-- A to Z, and then AA, AB and so on
abbrev pub column_name : ℕ → List ℕ
column_name column =
    if nat_lt column LETTERS then letter_of column ∷ []
    else (letter_of (column / LETTERS - 1) ∷ letter_of (column % LETTERS) ∷ [])

-- the text of a cell: the letters of its column and its row in decimal
abbrev pub cell_name : ℕ → List ℕ
cell_name c = column_name (column_of c) ++ decimal (row_of c)
