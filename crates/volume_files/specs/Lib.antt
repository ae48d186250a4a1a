pub mod Export
pub mod Dump
pub mod Failures
pub mod Layouts
pub mod Migration
