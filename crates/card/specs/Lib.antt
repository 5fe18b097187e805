-- The definitions that the contracts of `card` cite.
pub mod Hear
