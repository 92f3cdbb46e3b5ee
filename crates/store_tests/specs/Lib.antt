pub mod RowEdits
pub mod SampleStore
