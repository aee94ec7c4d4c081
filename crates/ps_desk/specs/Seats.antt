-- How a session at a desk answers a line. The answer depends on two members of the desk's name, the replica r and the
-- opening history h. It also depends on the session's pass before and after the line, as contracts see it.
use Rattle.std.specs.Prelude.{◌≡◌, ◌≢◌, ◌⊎◌, ℕ, ◌+◌, ◌<◌, ◌≤◌, ⊤, List, Ok, Err, IsOk, if◌then◌else◌, unwrap_or}
use Rattle.std.specs.Prelude.{drop, length, take}
use mathlib.Core.List.{IsPrefix}
use Rattle.ps_grid.specs.declared.refusal.Refusal.{Refusal}
use Rattle.ps_grid.specs.declared.refusal.Refusal.TheVariants as refusals
use Rattle.ps_grid.specs.Rectangle.{Area, spanned}
use Rattle.ps_value.specs.declared.value.Value.{Value}
use Rattle.ps_eval.specs.Items.{Assignment}
use Rattle.ps_delta.specs.Deltas.{Entries, joined_history}
use Rattle.ps_cells.specs.Settled.{IsSettled}
use Rattle.ps_sheet.specs.Edits.{delta_of_edit}
use Rattle.ps_sheet.specs.Merges.{IsMergedAs}
use Rattle.ps_delta.specs.declared.edit.Edit.{Edit as SheetEdit}
use Rattle.ps_csv.specs.Exports.{Holdings, entry_text, exported, exported_entries, held_in}
use Rattle.ps_face.specs.Legal.{IsLegal, history_of}
use Rattle.ps_session.specs.Answers.{TakesMemory}
use Rattle.ps_session.specs.Boards.{Calls, answer_text, merged_text}
use Rattle.ps_session.specs.declared.board.Merged.{Merged}
use Rattle.ps_lines.specs.Commands.{Read, ReadsLine}
use Rattle.ps_lines.specs.PullReplies.{IsPullReply}
use Rattle.ps_lines.specs.Replies.{done_text, entries_reply, entry_reply, refusal_text, replica_text, rows_text}
use Rattle.ps_lines.specs.Replies.{value_text, version_text}
use Rattle.ps_lines.specs.Streams.{Answering, Lines}
use Rattle.ps_lines.specs.declared.command.Command.{Command}
use Rattle.ps_lines.specs.declared.command.Command.TheVariants.{Edit, Entries as AllEntries, Entry, Get, Merge}
use Rattle.ps_lines.specs.declared.command.Command.TheVariants.{Pull, Push, Replica, Rows, Wait}
use Rattle.ps_desk.specs.Passes.{PassView}
use Rattle.ps_desk.specs.Receipts.{IsAppended, IsReceipt, ReceiptView, merged_of}

-- an edit was made: the list ends with a patch of this session slot. The patch has the edit's delta over all before it,
-- and the reply has the patch's number
pub record IsEdited (r : ℕ) (h : List Entries) (edit : SheetEdit) (old : PassView) (text : List ℕ) (new : PassView) :
    Type 0 where
  pub legal : IsLegal h new.list
  pub receipt : ReceiptView
  pub appended : IsAppended (λ s d. delta_of_edit r s edit ≡ Ok d) h old.list new.list old.seat receipt
  pub replied : text ≡ done_text receipt.number
  pub counted : new.appended ≡ old.appended + 1
  pub entered : new.enters ≡ old.enters

-- an edit was refused: it has no delta over the whole published history
pub record IsRefused (r : ℕ) (h : List Entries) (edit : SheetEdit) (old : PassView) (text : List ℕ) (new : PassView) :
    Type 0 where
  pub legal : IsLegal h new.list
  pub refusal : Refusal
  pub refused : delta_of_edit r (joined_history (history_of h new.list)) edit ≡ Err refusal
  pub replied : text ≡ refusal_text refusal
  pub counted : new.appended ≡ old.appended
  pub entered : new.enters ≡ old.enters

-- the published copies were read once: the list is legal, and the reply follows from the settled values of the history
-- that the list stands for
pub record IsLook (h : List Entries) (reply : Assignment → List ℕ) (old : PassView) (text : List ℕ) (new : PassView) :
    Type 0 where
  pub legal : IsLegal h new.list
  pub values : Assignment
  pub settled : IsSettled (joined_history (history_of h new.list)) values
  pub replied : text ≡ reply values
  pub counted : new.appended ≡ old.appended
  pub entered : new.enters ≡ old.enters + 1

-- the published copies are gone, and nothing was read
pub record IsGone (old : PassView) (text : List ℕ) (new : PassView) : Type 0 where
  pub replied : text ≡ refusal_text refusals.Seat
  pub same : new.list ≡ old.list
  pub counted : new.appended ≡ old.appended

-- the reply follows from what the cells hold after the whole published history
pub record IsHeld (h : List Entries) (reply : Holdings → List ℕ) (old : PassView) (text : List ℕ) (new : PassView) :
    Type 0 where
  pub legal : IsLegal h new.list
  pub replied : text ≡ reply (held_in (history_of h new.list))
  pub counted : new.appended ≡ old.appended
  pub entered : new.enters ≡ old.enters

-- the reply answers a pull from the whole published history
pub record IsReturned (h : List Entries) (from most : ℕ) (old : PassView) (text : List ℕ) (new : PassView) : Type 0
  where
    pub legal : IsLegal h new.list
    pub replied : IsPullReply (history_of h new.list) from most text
    pub counted : new.appended ≡ old.appended
    pub entered : new.enters ≡ old.enters

-- a delta was accepted: it was appended, or is included, and the reply has the receipt's number
pub record IsTakenIn (h : List Entries) (delta : Entries) (old : PassView) (text : List ℕ) (new : PassView) : Type 0
  where
    pub legal : IsLegal h new.list
    pub receipt : ReceiptView
    pub tells : IsReceipt (λ s d. d ≡ delta) h old.list new.list old.seat receipt
    pub replied : text ≡ done_text receipt.number
    pub counted : new.appended ≡ old.appended + (if receipt.fresh then 1 else 0)
    pub entered : new.enters ≡ old.enters

-- a delta was merged: its new part was appended, or it had nothing new. The reply says which, and has the receipt's
-- number
pub record IsMergedIn (h : List Entries) (delta : Entries) (old : PassView) (text : List ℕ) (new : PassView) : Type 0
  where
    pub legal : IsLegal h new.list
    pub receipt : ReceiptView
    pub tells : IsReceipt (λ s d. IsMergedAs s delta d) h old.list new.list old.seat receipt
    pub replied : text ≡ merged_text (merged_of receipt.number receipt.fresh)
    pub counted : new.appended ≡ old.appended + (if receipt.fresh then 1 else 0)
    pub entered : new.enters ≡ old.enters

-- the changes were counted: the whole published history has this number of them
pub record IsCounted (h : List Entries) (number : ℕ) (old new : PassView) : Type 0 where
  pub legal : IsLegal h new.list
  pub all : number ≡ length (history_of h new.list)
  pub counted : new.appended ≡ old.appended
  pub entered : new.enters ≡ old.enters

-- what a session does with a line that is read so: the reply, and the session's pass afterwards
abbrev pub SeatObeys : ℕ → List Entries → Read Command → PassView → List ℕ → PassView → Type 0
SeatObeys r h (Ok (Edit edit)) old text new = IsEdited r h edit old text new ⊎ IsRefused r h edit old text new
SeatObeys r h (Ok (Get cell)) old text new = IsLook h (λ v. value_text (v cell)) old text new ⊎ IsGone old text new
SeatObeys r h (Ok (Rows first last)) old text new =
    IsLook h (λ v. rows_text ((spanned first last).height) (exported v (spanned first last))) old text new
    ⊎ IsGone old text new
SeatObeys r h (Ok (Entry cell)) old text new = IsHeld h (λ held. entry_reply (entry_text held cell)) old text new
SeatObeys r h (Ok (AllEntries first last)) old text new = IsHeld h
    (λ held. entries_reply ((spanned first last).height) (exported_entries held (spanned first last))) old text new
SeatObeys r h (Ok (Pull from most)) old text new = IsReturned h from (unwrap_or most 1) old text new
SeatObeys r h (Ok (Push delta)) old text new = IsTakenIn h delta old text new
SeatObeys r h (Ok (Merge delta)) old text new = IsMergedIn h delta old text new
SeatObeys r h (Ok (Replica named)) old text new = (new ≡ old) × (text ≡ replica_text r)
SeatObeys r h (Ok (Wait seen)) old text new =
    (number : ℕ) × IsCounted h number old new × (text ≡ version_text number)
SeatObeys r h (Err refusal) old text new = (new ≡ old) × (text ≡ refusal_text refusal)

-- memory ran out for a request that takes memory, and nothing was appended
pub record IsLacking (takes : Type 0) (old : PassView) (text : List ℕ) (new : PassView) : Type 0 where
  pub some : takes
  pub replied : text ≡ refusal_text refusals.Memory
  pub counted : new.appended ≡ old.appended

-- GOES ON: what a pass has seen begins with what it had seen, it appended no less, and it has the same slot
pub record GoesOn (old new : PassView) : Type 0 where
  pub later : IsPrefix old.list new.list
  pub appended : old.appended ≤ new.appended
  pub seat : new.seat ≡ old.seat

-- deltas were pulled: at most `most` of the whole published history, after its first `from`, which it has
pub record IsPulled (h : List Entries) (from most : ℕ) (deltas : List Entries) (old new : PassView) : Type 0 where
  pub legal : IsLegal h new.list
  pub there : from ≤ length (history_of h new.list)
  pub part : deltas ≡ take most (drop from (history_of h new.list))
  pub counted : new.appended ≡ old.appended
  pub entered : new.enters ≡ old.enters

-- a pull was refused: the whole published history has fewer than `from` deltas, or memory ran out and it has more
pub record IsUnpulled (h : List Entries) (from : ℕ) (refusal : Refusal) (old new : PassView) : Type 0 where
  pub legal : IsLegal h new.list
  pub cause : ((refusal ≡ refusals.Version) × (length (history_of h new.list) < from))
      ⊎ ((refusal ≡ refusals.Memory) × (from < length (history_of h new.list)))
  pub counted : new.appended ≡ old.appended
  pub entered : new.enters ≡ old.enters

-- what each call of a `Seat` answers; each goes on from what the pass had seen
abbrev pub SeatEdits : ℕ → List Entries → PassView → SheetEdit → Read ℕ → PassView → Type 0
SeatEdits r h old edit answer new =
    ((IsEdited r h edit old (answer_text done_text answer) new
    ⊎ IsRefused r h edit old (answer_text done_text answer) new)
    ⊎ IsLacking (IsOk (delta_of_edit r (joined_history (history_of h new.list)) edit)) old
    (answer_text done_text answer) new)
    × GoesOn old new

abbrev pub SeatReceives : List Entries → PassView → Entries → Read ℕ → PassView → Type 0
SeatReceives h old delta answer new =
    (IsTakenIn h delta old (answer_text done_text answer) new ⊎ IsLacking ⊤ old (answer_text done_text answer) new)
    × GoesOn old new

abbrev pub SeatMerges : List Entries → PassView → Entries → Read Merged → PassView → Type 0
SeatMerges h old delta answer new =
    (IsMergedIn h delta old (answer_text merged_text answer) new ⊎ IsLacking ⊤ old (answer_text merged_text answer) new)
    × GoesOn old new

abbrev pub SeatShows : List Entries → PassView → ℕ → Read Value → PassView → Type 0
SeatShows h old cell answer new =
    (IsLook h (λ v. value_text (v cell)) old (answer_text value_text answer) new
    ⊎ IsGone old (answer_text value_text answer) new)
    × GoesOn old new

abbrev pub Tabled : List Entries → PassView → Area → Read (List ℕ) → PassView → Type 0
Tabled h old rect answer new =
    (IsLook h (λ v. rows_text rect.height (exported v rect)) old (answer_text (rows_text rect.height) answer) new
    ⊎ IsGone old (answer_text (rows_text rect.height) answer) new)
    ⊎ IsLacking ⊤ old (answer_text (rows_text rect.height) answer) new

abbrev pub SeatTables : List Entries → PassView → Area → Read (List ℕ) → PassView → Type 0
SeatTables h old rect answer new = Tabled h old rect answer new × GoesOn old new

abbrev pub SeatHolds : List Entries → PassView → ℕ → Read (List ℕ) → PassView → Type 0
SeatHolds h old cell answer new =
    (IsHeld h (λ held. entry_reply (entry_text held cell)) old (answer_text entry_reply answer) new
    ⊎ IsLacking ⊤ old (answer_text entry_reply answer) new)
    × GoesOn old new

abbrev pub SeatLists : List Entries → PassView → Area → Read (List ℕ) → PassView → Type 0
SeatLists h old rect answer new =
    (IsHeld h (λ held. entries_reply rect.height (exported_entries held rect)) old
    (answer_text (entries_reply rect.height) answer) new
    ⊎ IsLacking ⊤ old (answer_text (entries_reply rect.height) answer) new)
    × GoesOn old new

abbrev pub SeatPulls : List Entries → PassView → ℕ → ℕ → Read (List Entries) → PassView → Type 0
SeatPulls h old from most (Ok deltas) new = IsPulled h from most deltas old new × GoesOn old new
SeatPulls h old from most (Err refusal) new = IsUnpulled h from refusal old new × GoesOn old new

-- after any wait, the changes are counted
abbrev pub SeatWaits : List Entries → PassView → ℕ → ℕ → PassView → Type 0
SeatWaits h old seen number new = IsCounted h number old new × GoesOn old new

-- the answer is the desk's replica, and the pass stays the same
abbrev pub SeatReplica : ℕ → PassView → ℕ → PassView → Type 0
SeatReplica r old number new = (number ≡ r) × (new ≡ old)

abbrev pub SeatCalls : ℕ → List Entries → Calls PassView
SeatCalls r h = record {
  edits = SeatEdits r h;
  receives = SeatReceives h;
  merges = SeatMerges h;
  shows = SeatShows h;
  tables = SeatTables h;
  holds = SeatHolds h;
  lists = SeatLists h;
  pulls = SeatPulls h;
  waits = SeatWaits h;
  replica = SeatReplica r;
}

-- a line was read and answered, and memory was enough
pub record SeatServes (r : ℕ) (h : List Entries) (old : PassView) (line text : List ℕ) (new : PassView) : Type 0 where
  pub asked : Read Command
  pub reads : ReadsLine line asked
  pub ample : asked ≢ Err refusals.Memory
  pub obeys : SeatObeys r h asked old text new
  pub goes_on : GoesOn old new

-- memory ran out for a line, and nothing was appended. Reading the line takes memory, or its request does, over all
-- that the pass has then seen
pub record SeatLacksMemory (r : ℕ) (h : List Entries) (old : PassView) (line text : List ℕ) (new : PassView) : Type 0
  where
    pub asked : Read Command
    pub reads : ReadsLine line asked
    pub lacks : IsLacking (TakesMemory r (history_of h new.list) asked) old text new
    pub goes_on : GoesOn old new

-- ANSWER: what a session at a desk answers a line that isn't empty, and its pass afterwards
abbrev pub SeatAnswers : ℕ → List Entries → Answering PassView
SeatAnswers r h old line text new = SeatServes r h old line text new ⊎ SeatLacksMemory r h old line text new

-- .. given the bytes of the line between line feeds
abbrev pub SeatLines : ℕ → List Entries → Answering PassView
SeatLines r h = Lines (SeatAnswers r h)
