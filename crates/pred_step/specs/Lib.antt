pub mod Led
pub mod Restored
pub use Rattle.pred_moves.specs.Views
