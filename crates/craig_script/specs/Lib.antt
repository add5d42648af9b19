pub mod Appended
pub mod Generator
pub mod Lines
pub mod NumberWords
pub mod Reading
pub mod Refusals
pub mod Words
pub mod Writing
