pub mod Bytes
pub mod Digits
pub mod Left
pub mod Numbers
pub mod Words
