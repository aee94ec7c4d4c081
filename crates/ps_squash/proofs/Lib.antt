pub mod CellLemmas
pub mod LineLemmas
mod RoomLemmas
pub mod SelectLemmas
mod StandsLemmas
mod TextLemmas
pub mod WholeLemmas
