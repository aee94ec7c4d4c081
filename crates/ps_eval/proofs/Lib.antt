pub mod Agreement
pub mod CallLemmas
pub mod CycleFaults
pub mod ModuloLemmas
pub mod RangeItems
pub mod SummaryLemmas
