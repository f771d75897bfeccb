-- A detector that passes its check has three unit vectors for axes.
pub mod Words
pub mod Nearly
pub mod Rounded
pub mod Rooted
pub mod Quotients
pub mod Dots
pub mod Lengths
pub mod Core
pub mod Signs
pub mod Modest
pub mod Values
pub mod Pieces
pub mod Axes
pub mod Checked
