mod Begun
mod Calls
