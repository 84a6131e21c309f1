pub mod Links
pub mod Settled
pub mod Verdicts
pub mod Making
pub mod Passes
pub mod Tasks
pub mod Runs
