pub mod Answer
pub mod Settling
pub mod Told
pub mod Solver
pub mod State
