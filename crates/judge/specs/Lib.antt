-- The definitions that the contracts of `judge` cite.
pub mod Asked
