pub mod ChainEdgeLemmas
pub mod CutTracerLemmas
pub mod CutsLemmas
pub mod InterpolationLemmas
pub mod JoinLemmas
pub mod LeafLemmas
pub mod NeededPartLemmas
mod OutputsLemmas
pub mod PartialValuesLemmas
pub mod SequenceLemmas
pub mod SharedLemmas
pub mod SpansLemmas
pub mod StandingLemmas
pub mod StepEdgeLemmas
pub mod TestLemmas
pub mod ToldEdgesLemmas
pub mod TwoLabellingsLemmas
mod WalkLemmas
