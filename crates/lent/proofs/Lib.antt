pub mod DataLength
