-- Definitions: the results of a reader, the lines of a text, and the texts of numbers and of lists.
pub mod Cuts
pub mod Digits
pub mod Lines
pub mod Lists
pub mod Memory
pub mod Numbers
pub mod Reading
