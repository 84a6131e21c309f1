pub mod Behind
pub mod Known
pub mod Gives
pub mod Turns
pub mod OneGroup
pub mod InPlace
pub mod Listed
pub mod Once
