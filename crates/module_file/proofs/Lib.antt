pub mod LiteralDirectives
pub mod LiteralFiles
pub mod LiteralMarks
pub mod LiteralOrders
pub mod LiteralPieces
pub mod LiteralTexts
pub mod NameEnds
