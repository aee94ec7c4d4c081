mod JoinLemmas
mod RelayLemmas
