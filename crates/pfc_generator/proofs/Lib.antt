pub mod AllPieces
pub mod BlockPieces
pub mod KnownPrograms
pub mod NextPieces
pub mod Ordering
pub mod Placed
pub mod Whole
pub mod WholeImage
