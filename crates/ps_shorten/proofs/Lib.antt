pub mod ShortenLemmas
