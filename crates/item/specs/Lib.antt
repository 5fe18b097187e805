-- The definitions that the contracts of `item` cite.
pub mod Item
pub mod Face
pub mod Laws
