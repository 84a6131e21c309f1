pub mod ValueRead
pub mod SignRead
pub mod FormRead
pub mod BookSteps
pub mod Outs
pub mod ReadAll
pub mod OutsDiffer
