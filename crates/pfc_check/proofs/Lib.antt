mod Arrays
mod Endings
mod Labels
mod Lengths
