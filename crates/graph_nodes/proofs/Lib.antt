pub mod Numbers
pub mod Spelled
pub mod PlainNames
pub mod Standing
pub mod Lines
pub mod Sames
