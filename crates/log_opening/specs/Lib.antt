pub mod Opening
pub mod CutOff
pub mod Volume
pub mod inside
