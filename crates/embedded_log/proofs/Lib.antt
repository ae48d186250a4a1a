mod Leading
mod Stepping
mod Calls
mod Serving
mod Left
mod Lacking
