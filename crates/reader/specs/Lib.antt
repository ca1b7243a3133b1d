pub mod Args
pub mod Proper
pub mod Reads
