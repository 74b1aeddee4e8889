pub mod Limits
pub mod Token
pub mod Spelling
pub mod Cuts
pub mod Piece
pub mod Fault
pub mod Depth
pub mod Parts
