mod ParkedBoxes
mod TableValues
pub mod TableEndings
mod TableCopies
mod NameRows
mod IndexRows
mod Comparings
mod Refusals
mod SortKeys
mod AskedNames
