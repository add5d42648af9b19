pub mod ArenaLemmas
pub mod ClausesLemmas
pub mod CountingLemmas
pub mod FoundLemmas
mod HeadsLemmas
pub mod LiteralsLemmas
pub mod LookUpLemmas
mod BoundLemmas
mod NamesLemmas
pub mod ReorderLemmas
mod ValuesLemmas
