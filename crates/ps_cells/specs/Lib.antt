pub mod Cells
pub mod CellsCode
pub mod ChangedCells
pub mod Inside
pub mod Recalculated
pub mod ScreenCode
pub mod Settled
