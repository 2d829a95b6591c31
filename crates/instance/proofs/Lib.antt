-- Laws of what is stored in working arrays, of the tests of an instance, what the walks of the table list share, and that accepted tables are valid.
pub mod Storing
pub mod Chains
pub mod Columns
pub mod Decoding
pub mod Following
pub mod Walking
pub mod TableList
pub mod Rooms
pub mod Validity
