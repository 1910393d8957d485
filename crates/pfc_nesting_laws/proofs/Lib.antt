pub mod Chains
pub mod Numbered
pub mod Apart
pub mod Layouts
pub mod Programs
