pub mod Fits
pub mod Paths
pub mod Laws
pub mod Inside
