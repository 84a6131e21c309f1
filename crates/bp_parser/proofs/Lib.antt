mod Firsts
mod OneTree
pub mod OneMeaning
mod Language
mod Runs
mod FirstFlaw
mod TokensAt
mod Steps
mod PartsRead
mod DefsRead
mod Tracks
mod Distinct
mod SomeMeaning
mod Integers
mod Fresh
mod KnownNames
