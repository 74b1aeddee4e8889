pub mod Spelled
pub mod Runs
pub mod Fronts
pub mod InFront
pub mod Reached
pub mod Deep
pub mod PartsCut
pub mod OneCut
