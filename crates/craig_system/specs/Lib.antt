pub mod Building
pub mod Marking
pub mod Rules
