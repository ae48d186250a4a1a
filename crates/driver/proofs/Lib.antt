mod Calls
mod Completed
mod Programs
mod Runs
mod Steps
mod Working
