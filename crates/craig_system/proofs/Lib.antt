mod JoinLemmas
mod LeafLemmas
mod LiteralLemmas
mod MarkingLemmas
pub mod ResultLemmas
