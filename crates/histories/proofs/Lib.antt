-- The laws that the proofs of `histories` cite.
pub mod Histories
pub mod Speaks
pub mod Edges
pub mod Parameters
