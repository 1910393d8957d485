pub mod LabelPlaces
pub mod CalledBlocks
