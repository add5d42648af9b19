pub mod Trail
pub mod Held
pub mod HeldFields
pub mod Assigned
pub mod Watches
pub mod WatchedState
pub mod LawsOfTrails
