mod AnsweredRows
mod Filtering
mod FloatTypes
mod NumberTypes
mod TruthColumns
