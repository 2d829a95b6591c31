-- What the contracts of chains say: one step in the table of paths, levels, the least step that comes nearer, the chain found.
pub mod Places
pub mod Levels
pub mod Nearer
pub mod Found
