-- The definitions that the contracts of `edits` cite.
pub mod Kinds
