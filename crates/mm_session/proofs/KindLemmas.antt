-- Kinds of commands.
use Rattle.std.proofs.Common.{◌≡◌, true, false, Option, Some, None, is_some, refl}
use Rattle.mm_query.specs.declared.command.Command.{Command}
use Rattle.mm_query.specs.declared.command.Command.TheVariants.{Nothing, Define, Change, Scan, ScanIndex, Select, Explain, Show, Tables, Begin, Commit}
use Rattle.mm_query.specs.declared.command.Command.TheVariants.{Rollback, Savepoint, RollbackTo}
use Rattle.mm_query.specs.declared.command.Definition.TheVariants as define
use Rattle.mm_query.specs.declared.command.Mutation.TheVariants.{Insert, Update, Delete}
use Rattle.mm_query.specs.declared.query.Query.{Query}
use Rattle.mm_lang.specs.Reading.{literals_of}
use Rattle.mm_session.specs.Kinds.{has_plan, kind_of, query_of}
use Rattle.mm_reply.specs.Sinks.{is_definition}
use Rattle.mm_session.specs.steps.Readings.{explained, is_of_catalog}

-- A kind is of the catalog exactly if its commands are definitions.
pub kind_defines : (command : Command) → is_of_catalog (kind_of command) ≡ is_definition command
kind_defines Nothing = refl
kind_defines (Define (define.Table definition)) = refl
kind_defines (Define (define.DropTable name)) = refl
kind_defines (Define (define.Index index)) = refl
kind_defines (Define (define.DropIndex name)) = refl
kind_defines (Define (define.Watch watched)) = refl
kind_defines (Define (define.Unwatch name)) = refl
kind_defines (Change (Insert table tuples)) = refl
kind_defines (Change (Update table assignments tests)) = refl
kind_defines (Change (Delete table tests)) = refl
kind_defines (Scan table) = refl
kind_defines (ScanIndex index) = refl
kind_defines (Select query) = refl
kind_defines (Show name) = refl
kind_defines (Explain query) = refl
kind_defines Tables = refl
kind_defines Begin = refl
kind_defines Commit = refl
kind_defines Rollback = refl
kind_defines (Savepoint name) = refl
kind_defines (RollbackTo name) = refl

-- A kind has a plan exactly if its commands have a query.
pub kind_plans : (command : Command) → has_plan (kind_of command) ≡ is_some (query_of command)
kind_plans Nothing = refl
kind_plans (Define (define.Table definition)) = refl
kind_plans (Define (define.DropTable name)) = refl
kind_plans (Define (define.Index index)) = refl
kind_plans (Define (define.DropIndex name)) = refl
kind_plans (Define (define.Watch watched)) = refl
kind_plans (Define (define.Unwatch name)) = refl
kind_plans (Change (Insert table tuples)) = refl
kind_plans (Change (Update table assignments tests)) = refl
kind_plans (Change (Delete table tests)) = refl
kind_plans (Scan table) = refl
kind_plans (ScanIndex index) = refl
kind_plans (Select query) = refl
kind_plans (Show name) = refl
kind_plans (Explain query) = refl
kind_plans Tables = refl
kind_plans Begin = refl
kind_plans Commit = refl
kind_plans Rollback = refl
kind_plans (Savepoint name) = refl
kind_plans (RollbackTo name) = refl

pub no_query : (query : Option Query) → is_some query ≡ false → query ≡ None
no_query None none = refl
no_query (Some query) none = absurd (cc)

pub the_query : (query : Option Query) → is_some query ≡ true → (found : Query) × (query ≡ Some found)
the_query None some = absurd (cc)
the_query (Some query) some = (query, refl)

-- The EXPLAIN of a query has the literals of the query, ..
pub explained_literals : (command : Command) → literals_of (explained command) ≡ literals_of command
explained_literals (Select query) = refl
explained_literals _ = refl

-- .. and is of the query that the command has.
pub explained_query : (command : Command) (query : Query) → query_of command ≡ Some query → explained command ≡ Explain query
explained_query (Select selected) query is = let same : selected ≡ query = cc in cc
explained_query (Explain selected) query is = let same : selected ≡ query = cc in cc
explained_query _ query is = absurd (cc)
