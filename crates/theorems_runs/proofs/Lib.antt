-- Theorems about tracings.
pub mod Bred
pub mod Stacks
pub mod Weights
pub mod Runs
pub mod Tracings
pub mod Places
pub mod Held
pub mod Waves
pub mod Balance
pub mod Roomy
pub mod Counts
pub mod Amounts
pub mod Surfaces
pub mod Lost
pub mod Weak
pub mod Checked
