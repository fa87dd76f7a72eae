pub mod ByteCases
pub mod XorLists
pub mod Sums
pub mod FieldProducts
pub mod ByteMaps
pub mod States
pub mod Circulants
pub mod Columns
pub mod KeySizes
pub mod KeyLists
pub mod KeyWords
pub mod Padding
pub mod ExpandedKeys
pub mod Rounds
pub mod AesLaws
pub mod TowerCases
pub mod DecryptionCases
pub mod BlockWords
pub mod MovedBytes
pub mod RoundConstants
mod Turns
mod Differences
