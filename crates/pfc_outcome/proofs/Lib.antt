pub mod Command
pub mod Given
pub mod Made
pub mod Numbers
pub mod One
