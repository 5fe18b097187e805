-- The laws that the proofs of `answer` cite.
pub mod Written
pub mod Spelled
pub mod Listed
