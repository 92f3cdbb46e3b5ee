mod CommandReadings
pub mod Commands
mod Exactness
mod Fronts
mod HoleBytes
mod Keywords
pub mod BufferedLines
mod BufferedPieces
pub mod Lexing
pub mod ListingTexts
mod Lists
pub mod LiteralOrder
pub mod Literals
mod Operands
pub mod Pieces
pub mod Preparing
pub mod QueryTexts
pub mod Readings
pub mod ReplyLemmas
mod SelectReadings
mod SpelledAtoms
pub mod SpelledCommands
pub mod SpelledSelect
pub mod SpelledWords
mod StepTexts
mod Texts
mod ReadAgain
mod TupleValues
mod WordBytes
