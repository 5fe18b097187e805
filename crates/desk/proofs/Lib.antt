-- The laws that the proofs of `desk` cite.
pub mod Written
pub mod Lines
pub mod Replied
pub mod Room
pub mod Turns
pub mod Cuts
