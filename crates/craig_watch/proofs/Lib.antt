pub mod TrailLemmas
mod HeldFieldsLemmas
mod HeldLemmas
mod StoredLemmas
pub mod PlacesLemmas
pub mod LevelsLemmas
pub mod AssignmentLemmas
mod AssignedLemmas
pub mod ReasonLemmas
mod RestedLemmas
mod WatchesLemmas
mod SettledLemmas
mod SwapLemmas
mod TakenLemmas
mod ReorderedLemmas
mod ListedLemmas
mod StateLemmas
mod VisitLemmas
mod LookLemmas
mod PropagateLemmas
mod KeepingLemmas
mod RestingLemmas
mod GoneLemmas
mod SweptLemmas
mod CameLemmas
mod AssertingLemmas
mod ShownLemmas
