-- Definitions that connect private code with the definitions in public contracts.
pub mod Paging
pub mod Changing
pub mod Made
pub mod Trying
pub mod Reading
pub mod Faults
