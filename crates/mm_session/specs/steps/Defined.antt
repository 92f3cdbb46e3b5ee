-- The object that was found for a name.
use Rattle.std.specs.Prelude.{ℕ, List}
use Rattle.mm_schema.specs.Schema.{Schema}
use Rattle.mm_lang.specs.QueryText.{named_query}
use Rattle.mm_dump.specs.Entries.{Entry}
use Rattle.mm_dump.specs.Entries as entry
use Rattle.mm_session.specs.declared.definition.Defined.{Defined}
use Rattle.mm_session.specs.declared.definition.Defined.TheVariants as found

-- The entry of a dump that creates it.
abbrev pub entry_of : List ℕ → Schema → Defined → Entry
entry_of name schema (found.Table definition) = entry.Table definition.now
entry_of name schema (found.Index index) = entry.Index index.now
entry_of name schema (found.StandingQuery query) = entry.Watch name (named_query schema query.now)
