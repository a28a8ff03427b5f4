pub mod RunSeen
