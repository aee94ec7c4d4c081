mod NewPasses
mod RecordLemmas
