-- The laws that the proofs of `access` cite.
pub mod Nth
pub mod Search
