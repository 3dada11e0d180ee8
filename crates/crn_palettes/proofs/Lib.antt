pub mod Fitting
pub mod Leaving
pub mod Entering
pub mod Starting
