pub mod Views
pub mod Led
pub mod Left
pub mod Kept
pub mod Returned
pub mod Restored
