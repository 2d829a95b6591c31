-- Laws of decoding, of heights and of the counts of paths.
pub mod Decoding
pub mod GraphEdges
pub mod Following
pub mod NodeHeights
pub mod Tallies
pub mod Judging
pub mod SoundSchema
pub mod Chains
