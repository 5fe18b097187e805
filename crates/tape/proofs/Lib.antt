-- The laws that the proofs of `tape` cite.
pub mod Rows
pub mod Ran
pub mod Flat
pub mod Nodes
pub mod Walks
pub mod Puts
pub mod Whole
pub mod Filled
pub mod Loaded
pub mod Stand
pub mod Back
pub mod Least
