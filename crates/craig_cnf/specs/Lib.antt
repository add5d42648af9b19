pub mod ScriptClauses
pub mod LayoutClauses
pub mod Extension
