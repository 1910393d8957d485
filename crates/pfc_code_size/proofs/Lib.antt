pub mod CallLengths
pub mod Lengths
pub mod Lone
pub mod Nodes
pub mod ProgramLengths
pub mod StatementLengths
pub mod Values
