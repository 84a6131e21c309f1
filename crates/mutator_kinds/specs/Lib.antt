pub mod TopDown
pub mod BottomUp
pub mod Answers
pub mod Inside
pub mod Laws
