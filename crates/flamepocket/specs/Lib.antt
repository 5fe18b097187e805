-- The definitions that the contracts of `flamepocket` cite.
pub mod Library
