pub mod Envelope
pub mod Writes
pub mod Round
pub mod Fields
pub mod Bytes
