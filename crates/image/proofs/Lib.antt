-- The laws that the proofs of `image` cite.
pub mod Arrays
pub mod Puts
pub mod Taken
pub mod Segments
pub mod Digits
pub mod Lists
pub mod Flags
pub mod Again
pub mod Lengths
pub mod Parts
pub mod Back
