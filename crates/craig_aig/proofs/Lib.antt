mod ArenaLemmas
mod ChoiceLemmas
mod ConjunctionLemmas
mod ConstantLemmas
mod DependenceLemmas
mod EdgeLemmas
mod FromFrontLemmas
mod FunctionLemmas
pub mod GrowthLemmas
mod KnownLemmas
mod NodeLemmas
mod ShareLemmas
mod TrueVariablesLemmas
mod ValuesLemmas
