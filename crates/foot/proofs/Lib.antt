mod Feet
mod Printed
