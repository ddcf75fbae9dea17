pub mod ServedTypes
mod TypedViews
