-- Laws of opened sheets and migrated tables, of trays, demand 3, and what an export's number says.
pub mod Trays
pub mod Pushing
pub mod Joining
pub mod Validity
pub mod Checking
pub mod Judging
pub mod Grouping
pub mod Turning
pub mod Demand3
pub mod Encoding
