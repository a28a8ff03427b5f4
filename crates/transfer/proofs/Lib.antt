pub mod Numbers
pub mod Chunks
pub mod Lives
pub mod Payload
pub mod Refusals
pub mod Cut
