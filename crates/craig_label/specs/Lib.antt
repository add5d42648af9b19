pub mod Sides
pub mod Marks
