pub mod Graphs
pub mod Walks
pub mod Planned
pub mod Laws
pub mod Cycles
pub mod Search
