-- What holds of the nearest offer.
pub mod Order
pub mod Laws
pub mod Loops
