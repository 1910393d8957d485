pub mod Arms
pub mod Branches
pub mod Forms
pub mod Leading
