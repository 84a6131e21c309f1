pub mod Idle
pub mod OneVariant
pub mod Seeing
