pub mod Cuts
pub mod TextBehind
pub mod LinesRead
pub mod Glue
pub mod JoinedAt
