pub mod ClauseArms
pub mod ExprArms
pub mod Functions
pub mod Growing
pub mod Literals
pub mod OtherPlaces
pub mod StmtArms
