pub mod AppendedRows
mod CallRows
mod CallStates
pub mod ColumnArrays
mod ColumnTypes
pub mod FilledForms
pub mod FormLemmas
mod FoundColumns
pub mod KindLemmas
pub mod LineEnds
pub mod LineReadings
pub mod LoadedScripts
mod ParameterCounts
pub mod PlanReadings
mod ReachedStates
pub mod ReadyStatements
mod ScanColumns
mod ShownColumns
pub mod SlotLemmas
mod StatementLines
