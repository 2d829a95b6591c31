-- What the contracts on reading say.
pub mod Read
