mod KindNamed
mod Differing
mod Idle
mod BuiltOnce
