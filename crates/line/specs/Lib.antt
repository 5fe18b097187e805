-- The definitions that the contracts of `line` cite.
pub mod Words
pub mod Hex
pub mod Number
pub mod Line
pub mod Write
pub mod Laws
