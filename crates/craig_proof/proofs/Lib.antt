pub mod AppendsLemmas
pub mod CallerLemmas
pub mod ChainGrowthLemmas
pub mod ChainLemmas
pub mod CoversLemmas
pub mod FollowsLemmas
mod LentLemmas
mod MarkingLemmas
pub mod FindingLemmas
pub mod OldOrNextLemmas
pub mod PackedLemmas
pub mod PairLemmas
mod RowLemmas
mod SlidingLemmas
pub mod PartLemmas
pub mod ReclaimLemmas
pub mod ReplayLemmas
pub mod RootLemmas
pub mod StoredLemmas
pub mod ToldLemmas
