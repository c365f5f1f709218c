pub mod CallRuns
pub mod Combine
pub mod ExprRuns
pub mod Instructions
pub mod Places
pub mod StmtRuns
pub mod Tops
