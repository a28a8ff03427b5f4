pub mod Record
pub mod Calls
pub mod Change
pub mod Stand
