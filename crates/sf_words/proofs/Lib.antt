pub mod Rules
pub mod Turns
pub mod Flags
pub mod Agreeing
pub mod Walking
pub mod Parsed
pub mod Numbers
pub mod Asking
mod Ranges
