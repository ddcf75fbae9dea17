pub mod OptionalRows
pub mod NumberViews
pub mod VarBinRows
pub mod SameValues
pub mod Digits
pub mod Refusals
