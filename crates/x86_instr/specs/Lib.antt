pub mod Registers
pub mod Classes
pub mod Groups
pub mod Kinds
pub mod Fits
