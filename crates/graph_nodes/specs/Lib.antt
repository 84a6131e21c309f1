pub mod Axes
pub mod Names
pub mod Numbered
pub mod Nodes
pub mod Laws
pub mod Inside
pub mod GraphText
pub mod Same
