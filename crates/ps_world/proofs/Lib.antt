pub mod PickedJoins
pub mod WorldSteps
