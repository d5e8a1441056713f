mod Told
mod Readings
mod Widths
