-- What the contracts of evenness and lifts say.
pub mod Even
pub mod Lifts
