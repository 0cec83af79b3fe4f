pub mod StepLaw
pub mod Fork
