pub mod FitAttributes
pub mod FitNames
pub mod FitValues
pub mod KeptHosts
pub mod KeptParts
pub mod KeptReaders
pub mod KeptRows
