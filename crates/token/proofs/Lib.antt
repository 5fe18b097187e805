-- The laws that the proofs of `token` cite: the reader's, and the writer's.
pub mod Laws
pub mod Leads
pub mod Tokens
pub mod Ahead
pub mod Moved
pub mod Writes
pub mod Forms
pub mod Round
pub mod Least
pub mod Numbers
pub mod Worth
pub mod Table
pub mod Taken
pub mod Only
