-- A pull that may join at most `room` deltas returns the same from all deltas after a number as from the first `room`
-- of them.
use Rattle.std.proofs.Common.{◌≡◌, ◌⊎◌, ◌<◌, ◌≤◌, ◌-◌, ℕ, List, [], ◌∷◌, length, take, drop, inl, inr}
use Rattle.std.proofs.Common.{sym, ap, subst, arith, min, Ok, ◌∙◌}
use Rattle.std.proofs.lemmas.List.{length-drop, length-take, take-take, take_all}
use Rattle.std.proofs.lemmas.Bool.{cases_lt}
use Rattle.ps_grid.specs.declared.refusal.Refusal.{Refusal}
use Rattle.ps_grid.specs.declared.refusal.Refusal.TheVariants as refusals
use Rattle.ps_delta.specs.Deltas.{Entries}
use Rattle.ps_lines.specs.PullReplies.{HasNone, IsGreatest, IsGroupLine, IsJoint, IsPullReply, RepliesWith}
use Rattle.ps_lines.specs.PullReplies.{ReturnsGroup}
use Rattle.ps_lines.specs.Replies.{refusal_text}

-- at most n of what comes after the first k
module _ (xs : List Entries) (k n : ℕ) where
  abbrev rest : List Entries
  rest = take (length xs - k) (drop k xs)

  cut_twice : take (min n (length rest)) rest ≡ take n rest
  cut_twice = elim (cases_lt n (length rest)) [
    | inl lt ↦ ap (λ m. take m rest) (let few : min n (length rest) ≡ n = omega (arith, lt) in few)
    | inr le ↦ ap (λ m. take m rest) (let all : min n (length rest) ≡ length rest = omega (arith, le) in all)
        ∙ take_all (length rest) rest (omega arith) ∙ sym (take_all n rest le)
  ]

  pub pulled_part : take (min n (length rest)) rest ≡ take n (drop k xs)
  pulled_part =
      cut_twice ∙ ap (take n) (take_all (length xs - k) (drop k xs) (omega (arith, length-drop k xs)))

module _ (deltas : List Entries) (room n : ℕ) (line : List ℕ) (few : n ≤ room) where
  group_of_all : IsGroupLine (take room deltas) n line → IsGroupLine deltas n line
  group_of_all g = record {
    within = omega (arith, g.within, length-take room deltas);
    delta = g.delta;
    joint = subst (λ ds. IsJoint ds g.delta) (take-take n room deltas few) g.joint;
    is = g.is;
    fits = g.fits;
  }

  group_of_first : IsGroupLine deltas n line → IsGroupLine (take room deltas) n line
  group_of_first g = record {
    within = omega (arith, few, g.within, length-take room deltas);
    delta = g.delta;
    joint = subst (λ ds. IsJoint ds g.delta) (sym (take-take n room deltas few)) g.joint;
    is = g.is;
    fits = g.fits;
  }

module _ (deltas : List Entries) (room most : ℕ) (wide : most ≤ room) where
  greatest_of_all : (n : ℕ) (line : List ℕ) → IsGreatest (take room deltas) most n line
      → IsGreatest deltas most n line
  greatest_of_all n line g = record {
    some = g.some;
    within = g.within;
    grouped = group_of_all deltas room n line (omega (arith, wide, g.within)) g.grouped;
    greatest = λ k longer above within group.
        g.greatest k longer above within (group_of_first deltas room k longer (omega (arith, wide, within)) group);
  }

  none_of_all : HasNone (take room deltas) most → HasNone deltas most
  none_of_all none k line some within group =
      none k line some within (group_of_first deltas room k line (omega (arith, wide, within)) group)

  returned_of_all : (from : ℕ) (text : List ℕ) → ReturnsGroup from most (take room deltas) text
      → ReturnsGroup from most deltas text
  returned_of_all from text (inl found) = inl (found.0, found.1, greatest_of_all found.0 found.1 found.2, found.3)
  returned_of_all from text (inr none) = inr (none_of_all none.0, none.1)

-- a reply made of the first `room` deltas after a number is the history's reply to that pull; or memory has run out,
-- before the history's end
pub pull_reply : (history : List Entries) (from most room : ℕ) (deltas : List Entries) (text : List ℕ)
    → deltas ≡ take room (drop from history) → from ≤ length history → most ≤ room → 1 ≤ room
    → RepliesWith from most (Ok deltas) text
    → IsPullReply history from most text ⊎ ((from < length history) × (text ≡ refusal_text refusals.Memory))
pull_reply history from most room [] text is there wide some told = inl (record {
  beyond = λ lt. absurd (omega (arith, lt, there));
  at_end = λ _. told;
  before_end = λ lt. absurd (omega (
    arith,
    lt,
    some,
    ap length is,
    length-take room (drop from history),
    length-drop from history,
  ));
})
pull_reply history from most room (d ∷ ds) text is there wide some (inl group) =
    let inside : from < length history = omega (
      arith,
      there,
      ap length is,
      length-take room (drop from history),
      length-drop from history,
    ) in
    inl (record {
      beyond = λ lt. absurd (omega (arith, lt, there));
      at_end = λ at. absurd (omega (arith, at, inside));
      before_end = λ _. returned_of_all (drop from history) room most wide from text
          (subst (λ es. ReturnsGroup from most es text) is group);
    })
pull_reply history from most room (d ∷ ds) text is there wide some (inr memory) = inr (
  omega (arith, there, ap length is, length-take room (drop from history), length-drop from history),
  memory,
)

-- the refusal of a pull: the deltas have no line, or memory has run out
pub replies_refusal : (from most : ℕ) (deltas : List Entries) (refusal : Refusal) → 0 < length deltas
    → (refusal ≡ refusals.TooLong) ⊎ (refusal ≡ refusals.Memory)
    → (refusal ≡ refusals.TooLong → HasNone deltas most) → RepliesWith from most (Ok deltas) (refusal_text refusal)
replies_refusal from most [] refusal some is none = absurd (omega (arith, some))
replies_refusal from most (d ∷ ds) refusal some (inl long) none = inl (inr (none long, ap refusal_text long))
replies_refusal from most (d ∷ ds) refusal some (inr memory) none = inr (ap refusal_text memory)
