pub mod Tlb
