-- What the rules know of a site, of the code's view of it.
pub use Rattle.step_values.specs.Views.{view_of}
