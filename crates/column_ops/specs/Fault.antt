-- The first fault in a list.
pub use Rattle.column_core.specs.Refusal.{first_fault}
