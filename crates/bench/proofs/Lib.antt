-- The laws that the proofs of `bench` cite.
pub mod Figured
