pub mod Falls
pub mod Padding64
pub mod Stored32
pub mod Sha1
pub mod Sha256
pub mod Sha512
pub mod Tests
