pub mod Visits
pub mod OrderFiles
pub mod Ways
pub mod Stretches
pub mod Idle
pub mod Inside
pub mod Laws
