-- What the contracts of Sigma say: joined columns, lifted rows, and tables pushed.
pub mod Joined
pub mod Lifted
pub mod Pushed
