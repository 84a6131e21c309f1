mod Boards
mod Numbered
