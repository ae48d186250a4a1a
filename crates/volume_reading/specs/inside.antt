-- Definitions that connect private code with the definitions in public contracts.
pub mod Pages
