pub mod Arguments
pub mod Acts
pub mod Forms
pub mod Script
pub mod Threads
pub mod ScriptFault
