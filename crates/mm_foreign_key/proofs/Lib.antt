mod CountLemmas
mod EntryLemmas
mod TieLemmas
