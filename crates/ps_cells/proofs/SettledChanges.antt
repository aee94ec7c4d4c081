-- What a change of the state leaves as it was shown.
use Rattle.std.proofs.Common.{ℕ, List, ap, sym, ◌∙◌}
use Rattle.ps_value.specs.declared.value.Value.{Value}
use Rattle.ps_value.specs.declared.value.Value.TheVariants.{Err}
use Rattle.ps_value.specs.declared.value.Fault.{Fault}
use Rattle.ps_eval.specs.Items.{Assignment}
use Rattle.ps_delta.specs.State.{State}
use Rattle.ps_region.specs.Values.{IsChange}
use Rattle.ps_region.proofs.ValueLaws.{quiet_keeps, outside_keeps}
use Rattle.ps_cells.specs.Recalculated.{IsSettledChange, OutsideShowsTheSame, QuietShowsTheSame}
use Rattle.ps_cells.specs.Settled.{content_of, content_mentions, refers_to, value_of}
use Rattle.ps_cells.proofs.ChangedStates.{value_cycle}
use Rattle.ps_cells.proofs.SettledValues.{refers_below, value_by-agrees}

-- it is a change of what the cells are worth
is_change : (s t : State) (touched : List ℕ) (v w : Assignment) → IsSettledChange s t touched v w
    → IsChange Value (refers_to s) (refers_to t) touched (λ c x. value_of (s c) x) (λ c x. value_of (t c) x)
    (Err Fault.Cycle) v w
is_change s t touched v w change = record {
  old_in_grid = refers_below s change.before;
  new_in_grid = refers_below t change.after;
  differs = λ c d out. ap (λ x. content_mentions (content_of x) d) (change.same c out);
  stays = λ c out x y agree.
      ap (λ z. value_of z x) (change.same c out) ∙ value_by-agrees (content_of (t c)) (t c) x y agree;
  cycle_comes = λ c is. value_cycle (content_of (t c)) (t c) w is;
  settled_before = record {
    at_cycle = λ c cyc. (change.settled_before.cycle c).1 cyc;
    at_other = change.settled_before.value;
  };
  settled_after = record {
    at_cycle = λ c cyc. (change.settled_after.cycle c).1 cyc;
    at_other = change.settled_after.value;
  };
}

pub outside_shows_the_same : OutsideShowsTheSame
outside_shows_the_same s t touched v w change c out =
    outside_keeps Value (refers_to s) (refers_to t) touched (λ q x. value_of (s q) x) (λ q x. value_of (t q) x)
    (Err Fault.Cycle) v w (is_change s t touched v w change) c out

pub quiet_shows_the_same : QuietShowsTheSame
quiet_shows_the_same s t touched v w change c frame out kept =
    sym (quiet_keeps Value (refers_to s) (refers_to t) touched (λ q x. value_of (s q) x) (λ q x. value_of (t q) x)
    (Err Fault.Cycle) v w (is_change s t touched v w change) c frame.2 out (λ d r. sym (kept d r)))
