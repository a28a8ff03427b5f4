pub mod Reached
pub mod Laid
pub mod Listed
pub mod Cases
pub mod InOrder
pub mod Payload
pub mod Numbers
