-- A step that only adds to the list keeps the rule.
use Rattle.std.proofs.Common.{◌≡◌, ◌≢◌, ◌+◌, ℕ, List, set, refl, sym, subst, ⊎_elim}
use mathlib.Core.Option.{some}
use mathlib.Core.List.{IsPrefix}
use lib.ListN.{get_elem?}
use Rattle.logbook.specs.Pages.{Book}
use Rattle.left_right.specs.Register.{Admits, TurnsAt}
use Rattle.atomic_table.proofs.Lists.{at_set, at_snoc}
use Rattle.ps_delta.specs.Deltas.{Entries}
use Rattle.ps_face.specs.declared.patch.Note.{Note}
use Rattle.ps_face.specs.declared.rule.View.{View}
use Rattle.ps_face.specs.Seen.{Copy, CopyStands}
use Rattle.ps_face.specs.Rules.{Keeps, newcomer, Publishes, Enters}
use Rattle.ps_face.proofs.Beginnings.{begins_itself, begins_trans}

module _ (h : List Entries) (b : Book) where
  pub admits : Admits (Keeps h b) newcomer
  admits x views k = (
    k.0,
    λ seat v at. ⊎_elim (k.1 seat v)
        (λ (e : newcomer ≡ v). subst (λ (w : View). IsPrefix w.list x.list) e (x.list, refl))
        (at_snoc views newcomer v seat at),
  )

  -- the view at this slot becomes the list of y, which begins with the list of x
  kept : (x y : Copy) (views : List View) (seat : ℕ) (w : View) → IsPrefix x.list y.list → w.list ≡ y.list
      → CopyStands h b y → Keeps h b x views → Keeps h b y (set views seat w)
  kept x y views seat w up is s k =
      let own : IsPrefix w.list y.list =
      subst (λ (l : List Note). IsPrefix l y.list) (sym is) (begins_itself y.list) in (
        s,
        λ j u e. ⊎_elim (λ (t : (j ≡ seat) × (w ≡ u)). subst (λ (v : View). IsPrefix v.list y.list) t.1 own)
            (λ (t : (j ≢ seat) × (get_elem? views j ≡ some u)). begins_trans u.list x.list y.list (k.1 j u t.1) up)
            (at_set views seat j w u e),
      )

  pub publishes : (seat : ℕ) (v : View) (x y : Copy) → IsPrefix x.list y.list → CopyStands h b y
      → TurnsAt (Keeps h b) seat v x y Publishes
  publishes seat v x y up s views k at =
      let w : View = record { list = y.list; enters = v.enters } in
      (w, kept x y views seat w up refl s k, (begins_trans v.list x.list y.list (k.1 seat v at) up, refl, refl))

  pub enters : (seat : ℕ) (v : View) (x : Copy) → TurnsAt (Keeps h b) seat v x x (Enters h b)
  enters seat v x views k at =
      let w : View = record { list = x.list; enters = v.enters + 1 } in
      (w, kept x x views seat w (begins_itself x.list) refl k.0 k, (k.1 seat v at, refl, refl, k.0))
