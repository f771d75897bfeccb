-- Document 01, "`straymap`": how numbers are printed.
pub mod Printing
pub mod Rows
