-- Worlds, one event further.
use Rattle.std.proofs.Common.{◌≡◌, ◌≢◌, ℕ, zero, suc, ◌+◌, ◌-◌, ◌<◌, ◌≤◌, Bool, true, false, cond, ◌⊎◌, ⊎_elim}
use Rattle.std.proofs.Common.{◌&&◌, ◌||◌, eqb, List, [], ◌∷◌, ◌++◌, length, refl, sym, ap, subst, ◌∙◌, arith}
use Rattle.std.proofs.Common.{inl, inr, Option, Some, None, Result, Ok, Err, length-append}
use Rattle.std.specs.Prelude.{slice_get}
use Rattle.std.specs.Result.{IsOkAnd}
use Rattle.std.specs.Option.{option_map_or}
use Rattle.std.specs.Ordering.{nat_cmp}
use Rattle.std.specs.BTreeSet.{BTreeSet, IsEmpty, Updates, contains}
use Rattle.std.proofs.Math.ListN.{set}
use Rattle.std.proofs.lemmas.Bool.{cases_eq}
use Rattle.std.proofs.lemmas.Grind.{common_steps}
use Rattle.ps_grid.specs.declared.refusal.Refusal.{Refusal}
use Rattle.ps_delta.specs.State.{State, joined_state}
use Rattle.ps_delta.specs.Deltas.{Entries, state_of, joined_history}
use Rattle.ps_delta.proofs.HistoryLemmas.{joined_history-push}
use Rattle.ps_grid.proofs.ChainLemmas.{bool_cases}
use Rattle.ps_cells.proofs.SettledValues.{true_not_false}
use Rattle.ps_sheet.specs.Sheet.{IsSheet}
use Rattle.ps_world.specs.World.{Numbers, WorldState, empty_world, picked, joined_of, with_delta, with_taken}
use Rattle.ps_world.specs.World.{is_up_to, after, after_edit}
use Rattle.ps_world.specs.declared.event.Event.{Event}
use Rattle.ps_world.specs.declared.event.Event.TheVariants.{Edit, Deliver}
use Rattle.ps_delta.specs.declared.edit.Edit.{Edit as Change}
use Rattle.ps_sheet.specs.Edits.{delta_of_edit}
use Rattle.std.proofs.lemmas.Option.{slice_get_within}
use Rattle.std.proofs.Math.ListN.{length-set}
use Rattle.std.specs.Result.{IsErr}
use Rattle.ps_world.specs.Replicas.{ReplicaView, WorldView, replica_at, has_taken, world_of, IsReplica, IsWorld}
use Rattle.ps_world.specs.Replicas.{ShowsSettled, SameTakenShowTheSame}
use Rattle.ps_world.specs.Inside.Steps.{IsNew, AreNew, IsAfter}
use Rattle.ps_shown.specs.Shown.{shown_at}
use Rattle.ps_cells.specs.Settled.{IsSettled}
use Rattle.ps_sheet.proofs.AcceptedRuns.{same_shown}
use Rattle.ps_world.proofs.PickedJoins.{picked-append, joined_more}

-- the world of these deltas and these replicas
abbrev pub viewed : List Entries → List ReplicaView → WorldView
viewed deltas replicas = record { deltas = deltas; replicas = replicas }

-- the last of a list with one more at its end
get_seam : {X : Type 0} (h : List X) (d : X) → slice_get (h ++ d ∷ []) (length h) ≡ Some d
get_seam [] d = refl
get_seam (e ∷ h) d = get_seam h d

-- the delta that an edit made is the last one, and is joined in
pub made_joins : (h k : List Entries) (made : Result Entries Refusal) (d : Entries)
    → IsOkAnd made (λ e. k ≡ h ++ e ∷ []) → slice_get k (length k - 1) ≡ Some d
    → joined_history k ≡ joined_state (joined_history h) (state_of d)
made_joins h k (Err e) d is last = absurd is
made_joins h k (Ok e) d is last =
    let long : length k ≡ length h + 1 = ap length is ∙ length-append h (e ∷ []) in
    let at : length k - 1 ≡ length h = omega arith in
    let end : slice_get (h ++ e ∷ []) (length h) ≡ Some d =
    subst (λ (xs : List Entries). slice_get xs (length h) ≡ Some d) is
    (subst (λ (n : ℕ). slice_get k n ≡ Some d) at last) in
    let seam : slice_get (h ++ e ∷ []) (length h) ≡ Some e = get_seam h e in
    let same : e ≡ d = cc in
    ap joined_history is ∙ (joined_history-push h e
    ∙ ap (λ (x : Entries). joined_state (joined_history h) (state_of x)) same)

-- what a list holds after a write, and after one more
get-set_same : {X : Type 0} (xs : List X) (i : ℕ) (x y : X) → slice_get xs i ≡ Some x
    → slice_get (set xs i y) i ≡ Some y
get-set_same [] i x y h = cc
get-set_same (z ∷ xs) zero x y h = refl
get-set_same (z ∷ xs) (suc i) x y h = get-set_same xs i x y h

get-set_other : {X : Type 0} (xs : List X) (i j : ℕ) (y : X) → j ≢ i → slice_get (set xs i y) j ≡ slice_get xs j
get-set_other [] i j y h = refl
get-set_other (z ∷ xs) zero zero y h = absurd (h refl)
get-set_other (z ∷ xs) zero (suc j) y h = refl
get-set_other (z ∷ xs) (suc i) zero y h = refl
get-set_other (z ∷ xs) (suc i) (suc j) y h = get-set_other xs i j y (λ e. h (ap suc e))

-- an element of a list with one more at its end is that one, or one of the others
get-append : {X : Type 0} (xs : List X) (d x : X) (i : ℕ) → slice_get (xs ++ d ∷ []) i ≡ Some x
    → ((i ≡ length xs) × (d ≡ x)) ⊎ (slice_get xs i ≡ Some x)
get-append [] d x zero h = inl (refl, cc)
get-append [] d x (suc i) h = absurd (cc)
get-append (e ∷ xs) d x zero h = inr h
get-append (e ∷ xs) d x (suc i) h =
    ⊎_elim (λ (at : (i ≡ length xs) × (d ≡ x)). inl (omega (arith, at.0), at.1)) (λ before. inr before)
    (get-append xs d x i h)

-- one more new replica
pub new_push : (xs : List ReplicaView) (n : ℕ) (x : ReplicaView) → length xs ≡ n → AreNew xs → IsNew (n + 1) x
    → AreNew (xs ++ x ∷ [])
new_push xs n x long new is zero y h = absurd (cc)
new_push xs n x long new is (suc i) y h =
    ⊎_elim
    (λ (at : (i ≡ length xs) × (x ≡ y)).
    let number : n + 1 ≡ suc i = omega (arith, at.0, long) in
    subst (λ (r : ℕ). IsNew r y) number (subst (λ (z : ReplicaView). IsNew (n + 1) z) at.1 is))
    (λ (before : slice_get xs i ≡ Some y). new (suc i) y before)
    (get-append xs x y i h)

-- no replica has taken a delta that its set does not have
none_in : (s : BTreeSet ℕ) (k : ℕ) → IsEmpty s → contains nat_cmp s k ≡ false
none_in s k empty = ap (λ (keys : List ℕ). contains nat_cmp (record { keys = keys }) k) empty

abbrev taken_of : Option ReplicaView → ℕ → Bool
taken_of o k = option_map_or (λ x. contains nat_cmp x.taken k) o false

new_taken : (o : Option ReplicaView) (k : ℕ) → ((x : ReplicaView) → o ≡ Some x → IsEmpty x.taken)
    → taken_of o k ≡ false
new_taken None k new = refl
new_taken (Some x) k new = none_in x.taken k (new x refl)

-- new replicas took nothing, and are the world without deltas
pub new_state : (xs : List ReplicaView) → AreNew xs → world_of (record { deltas = []; replicas = xs }) ≡ empty_world
new_state xs new =
    λ t. record { deltas = []; took = λ r k. new_taken (replica_at xs r) k (λ x h. (new r x h).taken) t }

pub new_world : (w : WorldView) → w.deltas ≡ [] → AreNew w.replicas → IsWorld w
new_world w none new r x h =
    let is = new r x h in
    record {
      sheet = is.sheet;
      own = is.own;
      joined = ap joined_history is.history
          ∙ ap (λ (ds : List Entries). joined_history (picked (has_taken w.replicas r) 1 ds)) (sym none);
      known = λ k taken. absurd (true_not_false (has_taken w.replicas r k) taken
          (new_taken (replica_at w.replicas r) k (λ y e. (new r y e).taken)));
    }

-- whether a number is one of 1 to n
up_to : (n k : ℕ) → 1 ≤ k → k ≤ n → is_up_to n k ≡ true
up_to n k low high = grind (arith, common_steps)

not_up_to : (n k : ℕ) → (k < 1) ⊎ (n < k) → is_up_to n k ≡ false
not_up_to n k h =
    ⊎_elim (λ (low : k < 1). grind (arith, common_steps)) (λ (high : n < k). grind (arith, common_steps)) h

-- the worlds of two views where the second has one more delta
pub added : (w : WorldView) (d : Entries) → IsWorld w
    → IsWorld (record { deltas = w.deltas ++ d ∷ []; replicas = w.replicas })
added w d world r x h =
    let is = world r x h in
    let more : length (w.deltas ++ d ∷ []) ≡ length w.deltas + 1 = length-append w.deltas (d ∷ []) in
    record {
      sheet = is.sheet;
      own = is.own;
      joined = is.joined ∙ ap joined_history (sym (picked-append (has_taken w.replicas r) 1 w.deltas d
          (λ k at. ⊎_elim
          (λ (taken : has_taken w.replicas r k ≡ true). absurd (omega (arith, is.known k taken, at)))
          (λ (out : has_taken w.replicas r k ≡ false). out)
          (bool_cases (has_taken w.replicas r k)))));
      known = λ k taken. omega (arith, is.known k taken, more);
    }

-- who took what, after replica i + 1 took the delta with number k
taken_here : (s t : BTreeSet ℕ) (k : ℕ) → Updates nat_cmp s t k true → (j : ℕ)
    → contains nat_cmp t j ≡ (contains nat_cmp s j || eqb j k)
taken_here s t k updates j =
    ⊎_elim
    (λ (is : j ≡ k). updates.0 j ∙ grind (arith, common_steps))
    (λ (other : j ≢ k). updates.0 j ∙ grind (arith, common_steps))
    (cases_eq j k)

module _ (xs : List ReplicaView) (i k : ℕ) (x y : ReplicaView) (at : slice_get xs i ≡ Some x)
    (updates : Updates nat_cmp x.taken y.taken k true) where
  taken_set : (r j : ℕ) → has_taken (set xs i y) r j ≡ (has_taken xs r j || (eqb r (suc i) && eqb j k))
  taken_set zero j = grind (arith, common_steps)
  taken_set (suc r) j =
      ⊎_elim
      (λ (is : r ≡ i).
      let same : eqb (suc r) (suc i) ≡ true = grind (arith, common_steps) in
      let after : slice_get (set xs i y) r ≡ Some y =
      subst (λ (n : ℕ). slice_get (set xs i y) n ≡ Some y) (sym is) (get-set_same xs i x y at) in
      let before : slice_get xs r ≡ Some x = subst (λ (n : ℕ). slice_get xs n ≡ Some x) (sym is) at in
      ap (λ (o : Option ReplicaView). taken_of o j) after
      ∙ (taken_here x.taken y.taken k updates j
      ∙ (ap (λ (o : Option ReplicaView). taken_of o j || eqb j k) (sym before)
      ∙ ap (λ (b : Bool). has_taken xs (suc r) j || (b && eqb j k)) (sym same))))
      (λ (other : r ≢ i).
      let apart : eqb (suc r) (suc i) ≡ false = grind (arith, common_steps) in
      ap (λ (o : Option ReplicaView). taken_of o j) (get-set_other xs i r y other)
      ∙ (grind (arith, common_steps) ∙ ap (λ (b : Bool). has_taken xs (suc r) j || (b && eqb j k)) (sym apart)))
      (cases_eq r i)

-- replica i + 1 takes the delta with number k
module _ (w : WorldView) (i k : ℕ) (x y : ReplicaView) (d : Entries) (world : IsWorld w)
    (at : slice_get w.replicas i ≡ Some x) (low : 1 ≤ k) (high : k ≤ length w.deltas)
    (delta : slice_get w.deltas (k - 1) ≡ Some d)
    (joined : joined_history y.sheet.history ≡ joined_state (joined_history x.sheet.history) (state_of d))
    (updates : Updates nat_cmp x.taken y.taken k true) (own : y.sheet.replica ≡ x.sheet.replica)
    (sheet : IsSheet y.sheet) where
  abbrev view_after : WorldView
  view_after = record { deltas = w.deltas; replicas = set w.replicas i y }

  abbrev state_after : WorldState
  state_after = with_taken (world_of w) (suc i) k

  pub taken_state : world_of view_after ≡ state_after
  taken_state = λ t. record {
    deltas = w.deltas;
    took = λ r j. taken_set w.replicas i k x y at updates r j t;
  }

  taken_more : joined_of state_after (suc i) ≡ joined_state (joined_of (world_of w) (suc i)) (state_of d)
  taken_more =
      joined_more (has_taken w.replicas (suc i)) (state_after.took (suc i)) k d 1 (k - 1) w.deltas delta (omega arith)
      (grind (arith, common_steps))
      (λ j other. grind (arith, common_steps))

  taken_there : IsReplica state_after (suc i) y
  taken_there =
      let is = world (suc i) x at in
      record {
        sheet = sheet;
        own = own ∙ is.own;
        joined = joined ∙ (ap (λ (s : State). joined_state s (state_of d)) is.joined ∙ sym taken_more);
        known = λ j taken. ⊎_elim (λ (here : j ≡ k). omega arith)
            (λ (other : j ≢ k). is.known j (grind (arith, common_steps))) (cases_eq j k);
      }

  untaken : (r : ℕ) → r ≢ suc i → state_after.took r ≡ has_taken w.replicas r
  untaken r other =
      let apart : eqb r (suc i) ≡ false = grind (arith, common_steps) in
      λ t j. untaken_at j apart t
    where
      untaken_at : (j : ℕ) → eqb r (suc i) ≡ false → state_after.took r j ≡ has_taken w.replicas r j
      untaken_at j apart = grind (arith, common_steps)

  taken_elsewhere : (r : ℕ) (z : ReplicaView) → r ≢ suc i → IsReplica (world_of w) r z → IsReplica state_after r z
  taken_elsewhere r z other is = record {
    sheet = is.sheet;
    own = is.own;
    joined = is.joined ∙ ap (λ (p : Numbers). joined_history (picked p 1 w.deltas)) (sym (untaken r other));
    known = λ j taken. is.known j (ap (λ (p : Numbers). p j) (sym (untaken r other)) ∙ taken);
  }

  taken_each : (r : ℕ) (z : ReplicaView) → replica_at (set w.replicas i y) r ≡ Some z → IsReplica state_after r z
  taken_each zero z h = absurd (cc)
  taken_each (suc r) z h =
      ⊎_elim
      (λ (is : r ≡ i).
      let here : slice_get (set w.replicas i y) i ≡ Some y = get-set_same w.replicas i x y at in
      let there : slice_get (set w.replicas i y) i ≡ Some z =
      subst (λ (n : ℕ). slice_get (set w.replicas i y) n ≡ Some z) is h in
      let same : y ≡ z = cc in
      subst (λ (n : ℕ). IsReplica state_after (suc n) z) (sym is)
      (subst (λ (v : ReplicaView). IsReplica state_after (suc i) v) same taken_there))
      (λ (other : r ≢ i).
      taken_elsewhere (suc r) z (λ e. other (omega arith))
      (world (suc r) z (sym (get-set_other w.replicas i r y other) ∙ h)))
      (cases_eq r i)

  pub taken_world : IsWorld view_after
  taken_world r z h = subst (λ (t : WorldState). IsReplica t r z) (sym taken_state) (taken_each r z h)

-- the world v follows the world w, and is one
pub record Goes (e : Event) (w v : WorldView) : Type 0 where
  pub follows : IsAfter e w v
  pub world : IsWorld v

-- a delivery, one event further
pub delivered : (w : WorldView) (r k i : ℕ) (x y : ReplicaView) (d : Entries) → IsWorld w → r ≡ suc i
    → slice_get w.replicas i ≡ Some x → 1 ≤ k → k ≤ length w.deltas → slice_get w.deltas (k - 1) ≡ Some d
    → joined_history y.sheet.history ≡ joined_state (joined_history x.sheet.history) (state_of d)
    → Updates nat_cmp x.taken y.taken k true → y.sheet.replica ≡ x.sheet.replica → IsSheet y.sheet
    → Goes (Deliver r k) w (record { deltas = w.deltas; replicas = set w.replicas i y })
delivered w r k i x y d world is at low high delta joined updates own sheet =
    let within : i < length w.replicas = slice_get_within w.replicas i x at in
    let tests : (is_up_to (length w.replicas) (suc i) && is_up_to (length w.deltas) k) ≡ true =
    ap (λ (b : Bool). b && is_up_to (length w.deltas) k) (up_to (length w.replicas) (suc i) (omega arith) (omega arith))
    ∙ up_to (length w.deltas) k low high in
    subst (λ (n : ℕ). Goes (Deliver n k) w (record { deltas = w.deltas; replicas = set w.replicas i y })) (sym is)
    (record {
      follows = record {
        replicas = length-set w.replicas i y;
        state = taken_state w i k x y d world at low high delta joined updates own sheet
            ∙ ap (λ (b : Bool). cond b (with_taken (world_of w) (suc i) k) (world_of w)) (sym tests);
      };
      world = taken_world w i k x y d world at low high delta joined updates own sheet;
    })

-- an edit at a replica that is there
edit_known : (w : WorldView) (i : ℕ) (e : Change) → i < length w.replicas
    → after_edit (world_of w) (suc i) (delta_of_edit (suc i) (joined_of (world_of w) (suc i)) e)
    ≡ after (length w.replicas) (world_of w) (Edit (suc i) e)
edit_known w i e within =
    let made : WorldState =
    after_edit (world_of w) (suc i) (delta_of_edit (suc i) (joined_of (world_of w) (suc i)) e) in
    ap (λ (b : Bool). cond b made (world_of w)) (sym (up_to (length w.replicas) (suc i) (omega arith) (omega arith)))

-- an edit that makes a delta, one event further
pub edited : (w : WorldView) (r k i : ℕ) (x y : ReplicaView) (e : Change) (d : Entries) → IsWorld w → r ≡ suc i
    → slice_get w.replicas i ≡ Some x → k ≡ length w.deltas + 1
    → delta_of_edit x.sheet.replica (joined_history x.sheet.history) e ≡ Ok d
    → joined_history y.sheet.history ≡ joined_state (joined_history x.sheet.history) (state_of d)
    → Updates nat_cmp x.taken y.taken k true → y.sheet.replica ≡ x.sheet.replica → IsSheet y.sheet
    → Goes (Edit r e) w (record { deltas = w.deltas ++ d ∷ []; replicas = set w.replicas i y })
edited w r k i x y e d world is at last made joined updates own sheet =
    let more : WorldView = record { deltas = w.deltas ++ d ∷ []; replicas = w.replicas } in
    let long : length (w.deltas ++ d ∷ []) ≡ length w.deltas + 1 = length-append w.deltas (d ∷ []) in
    let within : i < length w.replicas = slice_get_within w.replicas i x at in
    let was : IsReplica (world_of w) (suc i) x = world (suc i) x at in
    let end : slice_get (w.deltas ++ d ∷ []) (k - 1) ≡ Some d =
    subst (λ (n : ℕ). slice_get (w.deltas ++ d ∷ []) n ≡ Some d) (omega arith) (get_seam w.deltas d) in
    let makes : delta_of_edit (suc i) (joined_of (world_of w) (suc i)) e ≡ Ok d =
    ap (λ (s : State). delta_of_edit (suc i) s e) (sym was.joined)
    ∙ (ap (λ (n : ℕ). delta_of_edit n (joined_history x.sheet.history) e) (sym was.own) ∙ made) in
    subst
    (λ (n : ℕ). Goes (Edit n e) w (record { deltas = w.deltas ++ d ∷ []; replicas = set w.replicas i y }))
    (sym is)
    (record {
      follows = record {
        replicas = length-set w.replicas i y;
        state = taken_state more i k x y d (added w d world) at (omega arith) (omega arith) end joined updates own sheet
            ∙ (ap (λ (n : ℕ). with_taken (with_delta (world_of w) d) (suc i) n) last
            ∙ (ap (after_edit (world_of w) (suc i)) (sym makes)
            ∙ edit_known w i e within));
      };
      world = taken_world more i k x y d (added w d world) at (omega arith) (omega arith) end joined updates own sheet;
    })

-- writing back what stands there changes nothing
set_back : {X : Type 0} (xs : List X) (i : ℕ) (x : X) → slice_get xs i ≡ Some x → set xs i x ≡ xs
set_back [] i x h = refl
set_back (z ∷ xs) zero x h = cc
set_back (z ∷ xs) (suc i) x h = ap (λ ys. z ∷ ys) (set_back xs i x h)

after_refused : (w : WorldState) (r : ℕ) (made : Result Entries Refusal) → IsErr made → after_edit w r made ≡ w
after_refused w r (Ok d) h = cc
after_refused w r (Err e) h = refl

-- a refused edit, one event further
pub refused : (w : WorldView) (r i : ℕ) (x : ReplicaView) (e : Change) → IsWorld w → r ≡ suc i
    → slice_get w.replicas i ≡ Some x → IsErr (delta_of_edit x.sheet.replica (joined_history x.sheet.history) e)
    → Goes (Edit r e) w (record { deltas = w.deltas; replicas = set w.replicas i x })
refused w r i x e world is at err =
    let within : i < length w.replicas = slice_get_within w.replicas i x at in
    let was : IsReplica (world_of w) (suc i) x = world (suc i) x at in
    let same : delta_of_edit x.sheet.replica (joined_history x.sheet.history) e
    ≡ delta_of_edit (suc i) (joined_of (world_of w) (suc i)) e =
    ap (λ (n : ℕ). delta_of_edit n (joined_history x.sheet.history) e) was.own
    ∙ ap (λ (s : State). delta_of_edit (suc i) s e) was.joined in
    let made : Result Entries Refusal = delta_of_edit (suc i) (joined_of (world_of w) (suc i)) e in
    let fails : IsErr made = subst (λ (m : Result Entries Refusal). IsErr m) same err in
    let stays : Goes (Edit (suc i) e) w w = record {
      follows = record {
        replicas = refl;
        state = sym (after_refused (world_of w) (suc i) made fails) ∙ edit_known w i e within;
      };
      world = world;
    } in
    subst (λ (xs : List ReplicaView). Goes (Edit r e) w (record { deltas = w.deltas; replicas = xs }))
    (sym (set_back w.replicas i x at))
    (subst (λ (n : ℕ). Goes (Edit n e) w w) (sym is) stays)

-- what a world shows
pub shows_settled : (w : WorldView) → IsWorld w → ShowsSettled w
shows_settled w world r x h =
    let is = world r x h in
    subst (λ (s : State). IsSettled s (shown_at x.sheet.shown)) is.joined is.sheet.settled

pub same_taken_shows_the_same : (w : WorldView) → IsWorld w → SameTakenShowTheSame w
same_taken_shows_the_same w world q r x y at_q at_r same =
    let of_q = world q x at_q in
    let of_r = world r y at_r in
    let sets : has_taken w.replicas q ≡ has_taken w.replicas r = λ t k. same k t in
    same_shown x.sheet y.sheet of_q.sheet of_r.sheet
    (of_q.joined ∙ (ap (λ (p : Numbers). joined_history (picked p 1 w.deltas)) sets ∙ sym of_r.joined))
