-- What the contracts of the steps say: answers, opened sheets, tests, runs, migrated tables, texts.
pub mod Answers
pub mod Opened
pub mod Tests
pub mod Runs
pub mod Migrated
pub mod Printed
