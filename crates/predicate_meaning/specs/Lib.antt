pub mod Sat
pub mod Begin
pub mod Returns
