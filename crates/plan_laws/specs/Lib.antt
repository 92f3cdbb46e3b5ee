pub mod Examples
pub use Rattle.mm_plan.specs.ReadExamples
