pub mod Names
pub mod InstructionText
