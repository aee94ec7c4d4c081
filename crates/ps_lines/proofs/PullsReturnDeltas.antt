-- If each delta of a history fits on a line, no pull is refused as too long.
use Rattle.std.proofs.Common.{◌≡◌, ◌+◌, ◌<◌, ◌≤◌, inl, inr, refl, sym, arith, ℕ, List, [], ◌∷◌, length, drop}
use Rattle.std.proofs.lemmas.List.{length-drop}
use Rattle.std.proofs.lemmas.List.Elements.{All-drop, All-head}
use Rattle.std.specs.List.{All}
use Rattle.ps_delta.specs.Deltas.{Entries}
use Rattle.ps_delta.proofs.HistoryLemmas.{joined_history-one}
use Rattle.ps_wire.specs.Line.{delta_text}
use Rattle.ps_lines.specs.PullReplies.{HasLine, IsGreatest, IsGroupLine, PullsReturnDeltas, ReturnsGroup}
use Rattle.ps_lines.specs.Replies.{group_text}

-- the first of the deltas alone has a line
first_line : (d : Entries) (others : List Entries) → HasLine d → IsGroupLine (d ∷ others) 1 (delta_text d)
first_line d others line = record {
  within = omega arith;
  delta = d;
  joint = record { lawful = line.lawful.cells; joined = sym (joined_history-one d) };
  is = refl;
  fits = line.fits;
}

group_returned : (from most : ℕ) (deltas : List Entries) (text : List ℕ) → All HasLine deltas → 0 < length deltas
    → 1 ≤ most → ReturnsGroup from most deltas text
    → (n : ℕ) × (line : List ℕ) × IsGreatest deltas most n line × (text ≡ group_text (from + n) line)
group_returned from most deltas text have some most_some (inl found) = found
group_returned from most [] text have some most_some (inr none) = absurd (omega (arith, some))
group_returned from most (d ∷ others) text have some most_some (inr none) =
    absurd (none.0 1 (delta_text d) (omega arith) most_some
    (first_line d others (All-head HasLine d others have)))

pub pulls_return_deltas : PullsReturnDeltas
pulls_return_deltas history from most text have inside some replied =
    group_returned from most (drop from history) text (All-drop HasLine from history have)
    (omega (arith, inside, length-drop from history)) some (replied.before_end inside)
