-- The laws that the proofs of `card` cite.
pub mod Sealed
pub mod Opened
