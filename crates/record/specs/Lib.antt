-- The definitions that the contracts of `record` cite.
pub mod Flags
