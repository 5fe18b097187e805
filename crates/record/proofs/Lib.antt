-- The laws that the proofs of `record` cite.
pub mod Every
pub mod Known
pub mod Fitted
