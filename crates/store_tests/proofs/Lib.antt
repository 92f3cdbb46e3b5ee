pub mod PlainStores
pub mod StagedRows
