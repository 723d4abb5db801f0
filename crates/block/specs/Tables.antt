-- Laws. A table's entries: those of crate half. Assumes nothing.
pub use Rattle.half.specs.Tables.{length-table, get_or-table}
