pub mod Filling
pub mod Joined
pub mod Alike
pub mod Walking
pub mod Standing
pub mod Gathering
pub mod Example
pub mod Fitting
