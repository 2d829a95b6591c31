-- Laws of chains: the fronts of a path, what a step makes in the table of paths, and the loops and tests that find it; levels; the least step that comes
-- nearer, the steps down the levels, the chain found.
pub mod PathFronts
pub mod StepPlaces
pub mod Collecting
pub mod LandingTests
pub mod Marking
pub mod LevelSteps
pub mod LevelDistances
pub mod LeastSteps
pub mod Descending
pub mod FoundChains
