pub mod Deps
pub mod Idle
pub mod Inside
pub mod Laws
pub mod Links
pub mod Plugins
pub mod Sources
pub mod Wanting
