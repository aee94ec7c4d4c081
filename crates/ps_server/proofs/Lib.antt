mod Attending
mod Backs
mod GuardLemmas
