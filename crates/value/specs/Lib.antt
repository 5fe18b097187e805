-- The definitions that the contracts of `value` cite.
pub mod Value
pub mod Read
pub mod Source
pub mod Ahead
pub mod Tokens
pub mod Nodes
pub mod Plain
pub mod Laws
