pub mod Visits
pub mod Ways
pub mod Counters
pub mod Workers
