-- Laws of a query's opened sheets and of its steps.
pub mod Opening
pub mod SizeTests
pub mod Joining
pub mod Pulling
pub mod Rooms
pub mod Answering
