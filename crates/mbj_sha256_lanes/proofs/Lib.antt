pub mod BlockWords
