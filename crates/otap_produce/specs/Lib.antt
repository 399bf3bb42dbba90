pub mod Limits
pub mod TableOrder
pub mod Policy
pub mod Senders
pub mod Exporters
pub mod Sizes
pub mod SentMessages
pub mod Inside
