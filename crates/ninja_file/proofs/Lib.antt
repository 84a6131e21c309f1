pub mod Firsts
pub mod TextSets
pub mod Wholes
