pub mod CasesAt
pub use Rattle.pred_moves.specs.Views
pub use Rattle.bank_values.specs.ReadBack
pub use Rattle.term_bank.specs.Terms
