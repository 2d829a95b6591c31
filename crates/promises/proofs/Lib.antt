-- Each promise, proved.
pub mod Promises
