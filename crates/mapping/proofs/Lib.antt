-- Laws of decoding, images and the edges of a path.
pub mod Decoding
pub mod Viewing
pub mod Fitting
pub mod Imaging
pub mod ImageTable
pub mod Sides
pub mod Counting
pub mod PathEdges
pub mod FirstEdges
pub mod Chains
