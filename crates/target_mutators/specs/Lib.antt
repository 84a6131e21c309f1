pub mod Arch
pub mod Groups
pub mod Idle
pub mod Images
pub mod Laws
pub mod Targets
