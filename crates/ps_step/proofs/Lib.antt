mod ApartLemmas
mod PullLemmas
