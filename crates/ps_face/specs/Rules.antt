-- The rule over the two copies, and its two kinds of step.
use Rattle.std.specs.Prelude.{◌≡◌, ℕ, ◌+◌, List, []}
use mathlib.Core.Option.{some}
use mathlib.Core.List.{IsPrefix}
use lib.ListN.{get_elem?}
use Rattle.logbook.specs.Pages.{Book}
use Rattle.ps_delta.specs.Deltas.{Entries}
use Rattle.ps_face.specs.declared.rule.View.{View}
use Rattle.ps_face.specs.Seen.{Copy, CopyStands}

-- the view of a reader that has seen nothing yet
abbrev pub newcomer : View
newcomer = record { list = []; enters = 0 }

-- KEEPS: the published copy stands, and the list of each view is a beginning of the copy's list
abbrev pub Keeps : List Entries → Book → Copy → List View → Type 0
Keeps h b x views =
    CopyStands h b x × ((seat : ℕ) (v : View) → get_elem? views seat ≡ some v → IsPrefix v.list x.list)

-- PUBLISH: the list of the writer's view becomes that of the copy y, which begins with it
abbrev pub Publishes : View → Copy → Copy → View → Type 0
Publishes v x y w = IsPrefix v.list w.list × (w.list ≡ y.list) × (w.enters ≡ v.enters)

-- ENTER: the list of the reader's view becomes that of the copy y, which begins with it, and one more entry is counted
abbrev pub Enters : List Entries → Book → View → Copy → Copy → View → Type 0
Enters h b v x y w = IsPrefix v.list w.list × (w.list ≡ y.list) × (w.enters ≡ v.enters + 1) × CopyStands h b y
