pub mod LowBitLaws
pub mod Laws
