mod CoveredLemmas
mod HeldLemmas
mod NewsLines
mod OneLineMore
mod HoldsLemmas
mod OnePieceMore
mod InputReadToEnd
mod PartLemmas
pub mod Runs
pub mod AnswerLemmas
pub mod ReplicaAndLinesStay
mod AskedInRange
mod ReplayLemmas
mod GridHistories
mod RangeLemmas
mod EditLineLemmas
mod EntryLemmas
