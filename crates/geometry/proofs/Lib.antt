-- What holds of the definitions.
pub mod Marks
pub mod Signs
pub mod Behind
pub mod Local
pub mod Unit
pub mod Squares
pub mod Receding
pub mod Spans
pub mod Numbers
pub mod Walls
pub mod Worked
