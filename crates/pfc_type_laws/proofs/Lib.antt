pub mod WalkTypes
pub mod WalkBlocks
pub mod SoundTables
pub mod ValueTypes
pub mod Filled
