-- The definitions that the contracts of `access` cite.
pub mod Rows
