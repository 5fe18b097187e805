-- The definitions that the contracts of `reader` cite.
pub mod Reader
