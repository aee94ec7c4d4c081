pub mod ExchangeLemmas
pub mod AskingLemmas
