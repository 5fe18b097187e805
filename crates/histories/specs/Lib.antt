-- The definitions that the contracts of `histories` cite.
pub mod Worked
pub mod Wrong
pub mod Speaks
pub mod Edges
pub mod Parameters
