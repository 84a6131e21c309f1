mod BareNodes
mod Tested
