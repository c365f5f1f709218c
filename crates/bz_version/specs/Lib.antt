pub mod Below
pub mod Digits
pub mod Grammar
pub mod Precedence
pub mod Scan
pub mod Texts
