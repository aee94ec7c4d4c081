pub mod ReadLemmas
pub mod FeedLemmas
pub mod StreamLemmas
pub mod SplitLemmas
mod SendLemmas
mod IncomingLemmas
mod WordLemmas
mod WordCounts
mod NamesAreWords
mod VerbLemmas
pub mod KeptLineLemmas
pub mod ReadingLaws
pub mod GreatestGroup
mod JointLemmas
mod PullsReturnDeltas
pub mod PulledDeltas
