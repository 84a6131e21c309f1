mod Chars
mod Places
mod TokenKinds
mod Runs
mod Rivals
mod Columns
mod Idents
mod Ints
mod Bodies
mod Quotes
mod Comments
mod Marks
mod Cover
pub mod OneMeaning
pub mod Boundary
mod Plain
pub mod Numbers
mod Unescape
pub mod ListedTokens
mod Longest
mod Rising
mod Within
mod Outcome
