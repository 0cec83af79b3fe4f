pub mod Width
pub mod LowBits
pub mod Integers
pub mod Arithmetic
pub mod Condition
pub mod Shifts
pub mod Wide
