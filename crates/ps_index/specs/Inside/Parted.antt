-- A list with free places in it.
use Rattle.std.specs.Prelude.{ℕ, ◌+◌, List, ◌++◌, take, drop}
use Rattle.ps_index.specs.declared.span.Span.{Span}

-- the spans of these places: all places except the `free` ones behind the first `front`
unfoldable pub parted : List Span → ℕ → ℕ → List Span
parted places front free = take front places ++ drop (front + free) places
