pub mod Position
pub mod Name
pub mod Message
