-- What the contracts of matchings say: the test of a list, and its turnings.
pub mod Compared
pub mod Turned
