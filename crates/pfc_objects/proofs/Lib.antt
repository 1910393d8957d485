pub mod ObjectCells
