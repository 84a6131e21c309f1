pub mod Parts
pub mod Named
pub mod Numbered
pub mod Puts
pub mod ByLine
pub mod Outside
pub mod Growth
pub mod Levels
pub mod Turned
pub mod Focused
pub mod Clustered
pub mod Chains
pub mod Drawings
pub mod Once
pub mod OneReading
pub mod Printed
mod Inputs
mod Runs
