pub mod LeavesLemmas
pub mod JournalLemmas
pub mod TellsLemmas
pub mod CoversLemmas
pub mod PlaceLemmas
pub mod ReadyLemmas
pub mod LearntLemmas
pub mod SearchingLemmas
pub mod MeasureLemmas
pub mod VerdictLemmas
pub mod LawLemmas
pub mod UnitLemmas
pub mod AssumingLemmas
pub mod NegatedLemmas
pub mod UnitChainLemmas
pub mod FailureLemmas
pub mod FailedLemmas
pub mod FlatLemmas
pub mod LimitLemmas
pub mod FingerprintLemmas
mod StoredJournalLemmas
pub mod ForgottenLemmas
pub mod ReasonLemmas
pub mod ReducingLemmas
mod TurnLemmas
mod DerivedUnitLemmas
