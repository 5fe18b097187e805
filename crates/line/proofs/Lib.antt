-- The laws that the proofs of `line` cite.
pub mod Walks
pub mod Values
pub mod Forms
pub mod Puts
pub mod Decimals
pub mod Clear
pub mod Back
