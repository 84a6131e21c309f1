pub mod Search
pub mod Entries
pub mod Consequences
