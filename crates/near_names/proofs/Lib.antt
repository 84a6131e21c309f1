mod Edits
mod Least
