mod Alike
mod Begins
mod Twins
mod Same
mod Spending
mod Opened
mod Ends
