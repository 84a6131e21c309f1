pub mod Digits
pub mod Numbers
pub mod Entries
pub mod Pieces
pub mod Read
pub mod Some
pub mod One
pub mod Back
