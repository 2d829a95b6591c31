-- Laws of the table of paths and its walks, and of classes.
pub mod PathNumbers
pub mod PathParents
pub mod Chaining
pub mod Filling
pub mod Joining
pub mod PathWalks
pub mod PathBlocks
pub mod FollowerPairs
pub mod JoinedClasses
pub mod JoinedNumbers
pub mod EquationPairs
pub mod TablePaths
