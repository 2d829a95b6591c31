-- What the contracts of Pi say: components, rules, families, links, values, and Pi as a whole.
pub mod Components
pub mod Given
pub mod Gathering
pub mod Rules
pub mod Families
pub mod Links
pub mod Values
pub mod Tables
