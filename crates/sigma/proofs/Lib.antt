-- Laws of joined lists and of Sigma as a whole.
pub mod Joining
pub mod Pushing
