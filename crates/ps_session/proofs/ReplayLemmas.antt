-- Where no reply is out of memory, the replica, the history and the bytes decide the transcript.
use Rattle.std.proofs.Common.{◌≡◌, ◌<◌, ◌∙◌, inl, inr, refl, sym, ap, ap₂, subst, ℕ, Bool, true, false, List, [], ◌∷◌}
use Rattle.std.proofs.Common.{◌++◌, length, nat_le, Result, Ok, Err}
use Rattle.std.specs.Prelude.{MatchBool, unwrap_or}
use Rattle.std.specs.List.{All}
use Rattle.std.proofs.Math.Path.{fun_ext}
use Rattle.ps_grid.specs.declared.refusal.Refusal.{Refusal}
use Rattle.ps_grid.specs.declared.size.TheConstants.{CELLS}
use Rattle.ps_grid.specs.Rectangle.{spanned}
use Rattle.ps_csv.specs.Exports.{exported}
use Rattle.ps_eval.specs.Items.{Assignment}
use Rattle.ps_delta.specs.State.{IsInGrid, State}
use Rattle.ps_delta.specs.Deltas.{Entries, joined_history, state_of}
use Rattle.ps_delta.proofs.HistoryLemmas.{joined_history-push}
use Rattle.ps_delta.proofs.NewsLemmas.{least_news}
use Rattle.ps_sheet.specs.Edits.{delta_of_edit}
use Rattle.ps_sheet.specs.Merges.{IsNewsDelta}
use Rattle.ps_sheet.specs.Sheet.{SheetView, Takes}
use Rattle.ps_cells.proofs.SettledValues.{settled_at_most_once}
use Rattle.ps_session.proofs.GridHistories.{in_grid_after}
use Rattle.ps_session.specs.Answers.{AmpleLines, Edited, IsMerged, Obeys, Serves}
use Rattle.ps_lines.specs.Commands.{Read}
use Rattle.ps_lines.specs.Feeding.{without_return}
use Rattle.ps_session.specs.Laws.{IsSameSheet, TranscriptIsDecided}
use Rattle.ps_lines.specs.PullReplies.{HasLine}
use Rattle.ps_lines.specs.Replies.{done_text, rows_text, same_text, value_text}
use Rattle.ps_lines.specs.Streams.{Replies, Run, with_last}
use Rattle.ps_session.specs.Transcript.{answered_count}
use Rattle.ps_lines.specs.declared.command.Command.{Command}
use Rattle.ps_lines.specs.declared.command.Command.TheVariants as commands
use Rattle.ps_lines.specs.declared.line_buffer.TheConstants.{LINE_LIMIT}
use Rattle.ps_session.proofs.AskedInRange.{AsksInRange, line_in_range, made_in_grid}
use Rattle.ps_session.proofs.NewsLines.{news_line}
use Rattle.ps_lines.proofs.GreatestGroup.{pull_reply_once, same_entries}
use Rattle.ps_lines.proofs.ReadingLaws.{reads_once}
use Rattle.ps_lines.proofs.SplitLemmas.{divides_one_way}

-- what an edit comes to, given what was made of it
edited_once : (made : Result Entries Refusal) (history next after : List Entries) (text second : List ℕ)
    → Edited made history text next → Edited made history second after → (text ≡ second) × (next ≡ after)
edited_once (Ok d) history next after text second a b =
    let same : next ≡ after = a.0 ∙ sym b.0 in
    (a.1 ∙ ap (λ (h : List Entries). done_text (length h)) same ∙ sym b.1, same)
edited_once (Err e) history next after text second a b = (a.1 ∙ sym b.1, a.0 ∙ sym b.0)

taken_once : (d : Entries) (history next after : List Entries) → Takes d history next → Takes d history after
    → next ≡ after
taken_once d history next after (inl a) (inl b) = a.1 ∙ sym b.1
taken_once d history next after (inl a) (inr b) = absurd (b.0 a.0)
taken_once d history next after (inr a) (inl b) = absurd (a.0 b.0)
taken_once d history next after (inr a) (inr b) = a.1 ∙ sym b.1

-- one delta is the news of another one over a state
news_delta_once : (s : State) (d n m : Entries) → IsNewsDelta s d n → IsNewsDelta s d m → n ≡ m
news_delta_once s d n m v w =
    same_entries n m v.delta w.delta ((least_news s (state_of d) (state_of n) v.news).once (state_of m) w.news)

merged_once : (d : Entries) (history next after : List Entries) (text second : List ℕ) → IsMerged d history text next
    → IsMerged d history second after → (text ≡ second) × (next ≡ after)
merged_once d history next after text second (inl a) (inl b) =
    let news = news_delta_once (joined_history history) d a.0 b.0 a.1 b.1 in
    let same : next ≡ after = a.2 ∙ ap (λ (n : Entries). history ++ n ∷ []) news ∙ sym b.2 in
    (a.3 ∙ ap (λ (h : List Entries). done_text (length h)) same ∙ sym b.3, same)
merged_once d history next after text second (inl a) (inr b) = absurd (a.1.some b.0)
merged_once d history next after text second (inr a) (inl b) = absurd (b.1.some a.0)
merged_once d history next after text second (inr a) (inr b) =
    let same : next ≡ after = a.1 ∙ sym b.1 in
    (a.2 ∙ ap (λ (h : List Entries). same_text (length h)) same ∙ sym b.2, same)

obeyed_once : (r : ℕ) (history next after : List Entries) (asked : Read Command) (text second : List ℕ)
    → IsInGrid (joined_history history) → Obeys r history asked text next → Obeys r history asked second after
    → (text ≡ second) × (next ≡ after)
obeyed_once r history next after (Ok (commands.Edit edit)) text second inside a b =
    edited_once (delta_of_edit r (joined_history history) edit) history next after text second a b
obeyed_once r history next after (Ok (commands.Get c)) text second inside a b =
    let same : a.1 c ≡ b.1 c = settled_at_most_once (joined_history history) a.1 b.1 inside a.2 b.2 c in
    (a.3 ∙ ap value_text same ∙ sym b.3, a.0 ∙ sym b.0)
obeyed_once r history next after (Ok (commands.Rows c d)) text second inside a b =
    let same : a.1 ≡ b.1 = fun_ext (λ e. settled_at_most_once (joined_history history) a.1 b.1 inside a.2 b.2 e) in (
      a.3 ∙ ap (λ (v : Assignment). rows_text ((spanned c d).height) (exported v (spanned c d))) same ∙ sym b.3,
      a.0 ∙ sym b.0,
    )
obeyed_once r history next after (Ok (commands.Entry c)) text second inside a b = (a.1 ∙ sym b.1, a.0 ∙ sym b.0)
obeyed_once r history next after (Ok (commands.Entries c d)) text second inside a b = (a.1 ∙ sym b.1, a.0 ∙ sym b.0)
obeyed_once r history next after (Ok (commands.Pull from most)) text second inside a b =
    (pull_reply_once history from (unwrap_or most 1) text second a.1 b.1, a.0 ∙ sym b.0)
obeyed_once r history next after (Ok (commands.Push d)) text second inside a b =
    let same : next ≡ after = taken_once d history next after a.0 b.0 in
    (a.1 ∙ ap (λ (h : List Entries). done_text (length h)) same ∙ sym b.1, same)
obeyed_once r history next after (Ok (commands.Merge d)) text second inside a b =
    merged_once d history next after text second a b
obeyed_once r history next after (Ok (commands.Replica named)) text second inside a b = (a.1 ∙ sym b.1, a.0 ∙ sym b.0)
obeyed_once r history next after (Ok (commands.Wait seen)) text second inside a b = (a.1 ∙ sym b.1, a.0 ∙ sym b.0)
obeyed_once r history next after (Err e) text second inside a b = (a.1 ∙ sym b.1, a.0 ∙ sym b.0)

pushed_in_grid : (d : Entries) (history next : List Entries) → IsInGrid (joined_history history)
    → All (λ e. e.0 < CELLS) d → next ≡ history ++ d ∷ [] → IsInGrid (joined_history next)
pushed_in_grid d history next inside all is =
    subst (λ (h : List Entries). IsInGrid (joined_history h)) (sym is)
    (subst IsInGrid (sym (joined_history-push history d)) (in_grid_after (joined_history history) d inside all))

taken_in_grid : (d : Entries) (history next : List Entries) → IsInGrid (joined_history history)
    → All (λ e. e.0 < CELLS) d → Takes d history next → IsInGrid (joined_history next)
taken_in_grid d history next inside all (inl below) =
    subst (λ (h : List Entries). IsInGrid (joined_history h)) (sym below.1) inside
taken_in_grid d history next inside all (inr fresh) = pushed_in_grid d history next inside all fresh.1

merged_in_grid : (d : Entries) (history next : List Entries) (text : List ℕ) → IsInGrid (joined_history history)
    → HasLine d → IsMerged d history text next → IsInGrid (joined_history next)
merged_in_grid d history next text inside line (inl new) =
    let there = news_line (joined_history history) d new.0 line new.1 in
    pushed_in_grid new.0 history next inside there.lawful.in_grid new.2
merged_in_grid d history next text inside line (inr known) =
    subst (λ (h : List Entries). IsInGrid (joined_history h)) (sym known.1) inside

edited_in_grid : (made : Result Entries Refusal) (history next : List Entries) (text : List ℕ)
    → IsInGrid (joined_history history) → ((d : Entries) → made ≡ Ok d → All (λ e. e.0 < CELLS) d)
    → Edited made history text next → IsInGrid (joined_history next)
edited_in_grid (Ok d) history next text inside all edited =
    pushed_in_grid d history next inside (all d refl) edited.0
edited_in_grid (Err e) history next text inside all edited =
    subst (λ (h : List Entries). IsInGrid (joined_history h)) (sym edited.0) inside

obeyed_in_grid : (r : ℕ) (history next : List Entries) (asked : Read Command) (text : List ℕ) → AsksInRange asked
    → IsInGrid (joined_history history) → Obeys r history asked text next → IsInGrid (joined_history next)
obeyed_in_grid r history next (Ok (commands.Edit edit)) text asks inside obeys =
    edited_in_grid (delta_of_edit r (joined_history history) edit) history next text inside
    (λ d is. made_in_grid r (joined_history history) edit d asks is) obeys
obeyed_in_grid r history next (Ok (commands.Get c)) text asks inside obeys =
    subst (λ (h : List Entries). IsInGrid (joined_history h)) (sym obeys.0) inside
obeyed_in_grid r history next (Ok (commands.Rows c d)) text asks inside obeys =
    subst (λ (h : List Entries). IsInGrid (joined_history h)) (sym obeys.0) inside
obeyed_in_grid r history next (Ok (commands.Entry c)) text asks inside obeys =
    subst (λ (h : List Entries). IsInGrid (joined_history h)) (sym obeys.0) inside
obeyed_in_grid r history next (Ok (commands.Entries c d)) text asks inside obeys =
    subst (λ (h : List Entries). IsInGrid (joined_history h)) (sym obeys.0) inside
obeyed_in_grid r history next (Ok (commands.Pull from most)) text asks inside obeys =
    subst (λ (h : List Entries). IsInGrid (joined_history h)) (sym obeys.0) inside
obeyed_in_grid r history next (Ok (commands.Push d)) text asks inside obeys =
    taken_in_grid d history next inside asks.lawful.in_grid obeys.0
obeyed_in_grid r history next (Ok (commands.Merge d)) text asks inside obeys =
    merged_in_grid d history next text inside asks obeys
obeyed_in_grid r history next (Ok (commands.Wait seen)) text asks inside obeys =
    subst (λ (h : List Entries). IsInGrid (joined_history h)) (sym obeys.0) inside
obeyed_in_grid r history next (Ok (commands.Replica named)) text asks inside obeys =
    subst (λ (h : List Entries). IsInGrid (joined_history h)) (sym obeys.0) inside
obeyed_in_grid r history next (Err e) text asks inside obeys =
    subst (λ (h : List Entries). IsInGrid (joined_history h)) (sym obeys.0) inside

-- two steps from the same sheet with the same reply to the same sheet
record IsSameStep (last end : SheetView) (text second : List ℕ) : Type 0 where
  text_same : text ≡ second
  sheet_same : IsSameSheet last end
  inside : IsInGrid (joined_history last.history)

module _ (a b last end : SheetView) (text second : List ℕ) (same : IsSameSheet a b)
    (inside : IsInGrid (joined_history a.history)) where
  served_once : (line : List ℕ) → Serves a line text last → Serves b line second end → IsSameStep last end text second
  served_once line s t =
      let asked : s.asked ≡ t.asked = reads_once line s.asked t.asked s.reads t.reads s.ample t.ample in
      let other : Obeys a.replica a.history s.asked second end.history =
      subst (λ r. Obeys r a.history s.asked second end.history) (sym same.replica)
      (subst (λ (h : List Entries). Obeys b.replica h s.asked second end.history) (sym same.history)
      (subst (λ (q : Read Command). Obeys b.replica b.history q second end.history) (sym asked) t.obeys)) in
      let once = obeyed_once a.replica a.history last.history end.history s.asked text second inside s.obeys other in
      record {
        text_same = once.0;
        sheet_same = record { replica = s.replica ∙ same.replica ∙ sym t.replica; history = once.1 };
        inside = obeyed_in_grid a.replica a.history last.history s.asked text (line_in_range line s.asked s.reads)
            inside s.obeys;
      }

  stays_once : (reply : List ℕ) → (text ≡ reply) × (last ≡ a) → (second ≡ reply) × (end ≡ b)
      → IsSameStep last end text second
  stays_once reply s t = record {
    text_same = s.0 ∙ sym t.0;
    sheet_same = record {
      replica = ap (λ x. x.replica) s.1 ∙ same.replica ∙ sym (ap (λ x. x.replica) t.1);
      history = ap (λ x. x.history) s.1 ∙ same.history ∙ sym (ap (λ x. x.history) t.1);
    };
    inside = subst (λ (x : SheetView). IsInGrid (joined_history x.history)) (sym s.1) inside;
  }

  replied_once : (line : List ℕ) → Replies Serves a line text last → Replies Serves b line second end
      → IsSameStep last end text second
  replied_once [] s t = stays_once [] s t
  replied_once (c ∷ cs) s t = served_once (c ∷ cs) s t

  handled_once : (line refused : List ℕ) (fits : Bool)
      → MatchBool fits (Replies Serves a line text last) ((text ≡ refused) × (last ≡ a))
      → MatchBool fits (Replies Serves b line second end) ((second ≡ refused) × (end ≡ b))
      → IsSameStep last end text second
  handled_once line refused true s t = replied_once line s t
  handled_once line refused false s t = stays_once refused s t

  line_once : (line : List ℕ) → AmpleLines a line text last → AmpleLines b line second end
      → IsSameStep last end text second
  line_once line s t = handled_once (without_return line) _ (nat_le (length line) LINE_LIMIT) s t

run_once : (lines : List (List ℕ)) (a b last end : SheetView) (text second : List ℕ) → IsSameSheet a b
    → IsInGrid (joined_history a.history) → Run AmpleLines a lines text last → Run AmpleLines b lines second end
    → IsSameStep last end text second
run_once [] a b last end text second same inside s t = stays_once a b last end text second same inside [] s t
run_once (line ∷ lines) a b last end text second same inside s t =
    let first = line_once a b s.1 t.1 s.0 t.0 same inside line s.3 t.3 in
    let others = run_once lines s.1 t.1 last end s.2 t.2 first.sheet_same first.inside s.5 t.5 in
    record {
      text_same = s.4 ∙ ap₂ (λ x y. x ++ y) first.text_same others.text_same ∙ sym t.4;
      sheet_same = others.sheet_same;
      inside = others.inside;
    }

pub transcript_is_decided : TranscriptIsDecided
transcript_is_decided a b last end read before after written contents n m sheet same t u =
    let split = divides_one_way read t.lines u.lines t.rest u.rest t.split u.split in
    let lines : with_last t.lines t.rest ≡ with_last u.lines u.rest = ap₂ with_last split.0 split.1 in
    let other : Run AmpleLines b (with_last t.lines t.rest) u.text end =
    subst (λ (ls : List (List ℕ)). Run AmpleLines b ls u.text end) (sym lines) u.run in
    let step = run_once (with_last t.lines t.rest) a b last end t.text u.text same sheet.in_grid t.run other in
    (step.text_same, step.sheet_same, t.counted ∙ ap answered_count lines ∙ sym u.counted)
