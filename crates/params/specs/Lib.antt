-- The definitions that the contracts of `params` cite.
pub mod Names
pub mod Columns
pub mod Params
pub mod Steps
pub mod Exact
