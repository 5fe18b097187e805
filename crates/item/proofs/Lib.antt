-- The laws that the proofs of `item` cite, and those of the crates above it.
pub mod Read
pub mod Faces
pub mod Steps
