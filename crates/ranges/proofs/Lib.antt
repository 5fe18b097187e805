-- Laws that belong to no one function.
pub mod Decide
pub mod Fitted
pub mod Mapped
pub mod Edits
pub mod Owners
pub mod Shares
pub mod Verdicts
pub mod Chain
