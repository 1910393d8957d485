pub mod Arms
pub mod Branches
pub mod Forms
pub mod Leading
pub mod Loops
pub mod Making
pub mod Nodes
pub mod Selects
