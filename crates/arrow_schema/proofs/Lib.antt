pub mod Steps
pub mod Folds
pub mod Lists
mod Elements
mod Metadata
mod FieldParts
mod DictionaryParts
pub mod Clear
pub mod Found
pub mod Only
mod Lacking
pub mod UsesStand
pub mod Refused
pub mod Exclusion
mod Naming
pub mod FieldTrees
mod FieldsStand
mod Loop
mod PairLoop
mod Returned
mod Written
mod PlainWritten
mod Writable
pub mod Branched
