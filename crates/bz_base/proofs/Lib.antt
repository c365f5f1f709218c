pub mod NormalNames
pub mod NormalPaths
pub mod PlainLaws
pub mod PlainLayers
pub mod PlainOrigins
pub mod RootLeaving
