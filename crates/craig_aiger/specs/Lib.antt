pub mod OutNames
pub mod Layouts
pub mod AsciiText
pub mod BinaryText
pub mod Texts
pub mod Appending
pub mod RoundTrip
