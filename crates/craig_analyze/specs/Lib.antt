pub mod Decision
pub mod Learnt
pub mod Core
pub mod Marks
pub mod Resolvent
