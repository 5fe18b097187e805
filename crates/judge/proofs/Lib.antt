-- The laws that the proofs of `judge` cite.
pub mod Turns
pub mod Known
pub mod Blocks
pub mod Starts
