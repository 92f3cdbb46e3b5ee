pub mod InColumn
pub mod Seeks
pub mod SortedRows
