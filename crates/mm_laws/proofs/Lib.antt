mod Cascaded
mod ClosedCascades
mod Commands
mod KeptTargets
pub mod KeyOrder
pub mod NamedRows
pub mod OlderTables
mod PlanLines
pub mod QueryLaws
mod Ranks
mod ReachedCascades
pub mod Removals
pub mod SortedRows
pub mod StandingQueries
pub mod StillFound
pub mod Throughout
pub mod Transactions
mod TypedAssignments
pub mod TypedChanges
pub mod TypedDefinitions
pub mod TypedNumbers
pub mod TypedPlaces
pub mod TypedQueries
pub mod TypedRows
pub mod TypedSteps
pub mod TypedTables
