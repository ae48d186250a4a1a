mod Appended
mod Comparing
mod Printing
mod Crossing
