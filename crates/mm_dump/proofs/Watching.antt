-- The WATCH commands of a dump create its standing queries.
use Rattle.std.proofs.Common.{◌≡◌, ◌≤◌, ◌<◌, false, cond, ◌||◌, leb, List, [], ◌∷◌, ◌++◌, Some, None, find, is_some, length}
use Rattle.std.proofs.Common.{refl, sym, ap, ◌∙◌, subst, append_assoc, append-nil, length-append, arith}
use Rattle.std.specs.List.{AllByRecursion, IsDistinct}
use Rattle.std.proofs.lemmas.Bool.{lt-leb, or_from}
use Rattle.std.proofs.lemmas.Map.Keys.{IsDistinct-head, IsDistinct-tail}
use Rattle.mm_value.specs.declared.refusal.Refusal.TheVariants.{AliasTaken, NameTaken, NoSuchAlias, NoSuchColumn, NoSuchTable, StandingListTooLarge}
use Rattle.mm_value.specs.declared.refusal.Refusal.TheVariants.{TooMany, TypeMismatch}
use Rattle.mm_schema.specs.Instance.{Instance}
use Rattle.mm_schema.specs.Name.{same_name}
use Rattle.mm_schema.specs.Refused.{first_refusal}
use Rattle.mm_schema.specs.declared.standing.StandingDef.{StandingDef}
use Rattle.mm_schema.specs.declared.table.Table.{Table}
use Rattle.mm_schema.proofs.NameLemmas.{differs_back}
use Rattle.mm_schema.proofs.StandingLemmas.{names_of}
use Rattle.mm_query.specs.Machine.{after_all, conditions, state_after, step}
use Rattle.mm_query.specs.Resolving.{exceeds_query_limits, placed_query, query_conditions}
use Rattle.mm_query.specs.Standing.{AreBeside, outgrows, tables_read}
use Rattle.mm_query.specs.State.{State}
use Rattle.mm_query.specs.declared.bound_query.BoundQuery.{BoundQuery}
use Rattle.mm_query.specs.declared.command.Command.{Command}
use Rattle.mm_query.specs.declared.command.Command.TheVariants as command
use Rattle.mm_query.specs.declared.command.Definition.TheVariants as define
use Rattle.mm_query.specs.declared.query.Query.{Query}
use Rattle.mm_query.proofs.PlacedQueries.{none_hold}
use Rattle.mm_lang.specs.QueryText.{named_query}
use Rattle.mm_dump.specs.Dumps.{watch_entries}
use Rattle.mm_dump.proofs.Restorable.{state_of}
use Rattle.mm_dump.proofs.Asked.{AllFit, Fits, IsAsked, schema_of}
use Rattle.mm_dump.proofs.Creating.{commands_of, step_done}
use Rattle.mm_dump.proofs.Named.{query_named_back}

-- The state of tables and rows with some standing queries.
abbrev pub watching : List Table → Instance → List StandingDef → List BoundQuery → State
watching tables rows standing queries =
    record { schema = record { tables = tables; standing = standing }; rows = rows; queries = queries; saved = None }

-- A name among distinct ones is not found before its place.
not_before : (front : List StandingDef) (s : StandingDef) (behind : List StandingDef) → IsDistinct same_name (names_of (front ++ s ∷ behind))
    → is_some (find (λ (q : StandingDef). same_name s.name q.name) front) ≡ false
not_before [] s behind distinct = refl
not_before (f ∷ fs) s behind distinct =
    let other : same_name s.name f.name ≡ false =
    differs_back f.name s.name (at_middle fs (IsDistinct-head same_name f.name (names_of (fs ++ s ∷ behind)) distinct)) in
    ap (λ b. is_some (cond b (Some f) (find (λ (q : StandingDef). same_name s.name q.name) fs))) other
    ∙ not_before fs s behind (IsDistinct-tail same_name f.name (names_of (fs ++ s ∷ behind)) distinct)
  where
    at_middle : (gs : List StandingDef) → AllByRecursion (λ name. same_name f.name name ≡ false) (names_of (gs ++ s ∷ behind)) → same_name f.name s.name ≡ false
    at_middle [] all = all.0
    at_middle (g ∷ gs) all = at_middle gs all.1

module _ (tables : List Table) (rows : Instance) where
  module _ (done : List StandingDef) (queries : List BoundQuery) (s : StandingDef) (bound : BoundQuery) (asked : IsAsked tables bound)
      (reads : tables_read bound ≡ s.tables) (free : is_some (find (λ (q : StandingDef). same_name s.name q.name) done) ≡ false)
      (few : length done < 32) (fits : Fits tables rows bound) where
    abbrev here : State
    here = watching tables rows done queries

    abbrev watch : Query → Command
    watch query = command.Define (define.Watch (record { name = s.name; query = query }))

    -- The query with its names is the one that was bound.
    query_is : named_query (schema_of tables) bound ≡ asked.query
    query_is = ap (named_query (schema_of tables)) asked.bound_is ∙ query_named_back (schema_of tables) asked.query asked.due

    due : first_refusal (conditions (watch asked.query) here) ≡ None
    due =
        let hold = none_hold (query_conditions asked.query (schema_of tables)) asked.due in
        let limits : (exceeds_query_limits asked.query || leb 32 (length done)) ≡ false = or_from _ _ hold.1.1.1.1.1.0 (lt-leb 32 (length done) few) in
        let small : outgrows here (placed_query (schema_of tables) asked.query) ≡ false =
        ap (λ (b : BoundQuery). outgrows (state_of tables rows) b) (sym asked.bound_is) ∙ fits in
        λ i. cond (hold.0 i) (Some NoSuchTable)
        (cond (hold.1.0 i) (Some NoSuchColumn)
        (cond (free i) (Some NameTaken)
        (cond (hold.1.1.0 i) (Some AliasTaken)
        (cond (hold.1.1.1.0 i) (Some NoSuchAlias)
        (cond (hold.1.1.1.1.0 i) (Some TypeMismatch)
        (cond (limits i) (Some TooMany)
        (cond (small i) (Some StandingListTooLarge) None)))))))

    after_is : state_after (watch asked.query) here ≡ watching tables rows (done ++ s ∷ []) (queries ++ bound ∷ [])
    after_is = λ i.
        watching tables rows (done ++ record { name = s.name; tables = (ap tables_read (sym asked.bound_is) ∙ reads) i } ∷ [])
        (queries ++ sym asked.bound_is i ∷ [])

    watched : (step (watch (named_query (schema_of tables) bound)) here).state ≡ watching tables rows (done ++ s ∷ []) (queries ++ bound ∷ [])
    watched = ap (λ query. (step (watch query) here).state) query_is ∙ step_done (watch asked.query) here due ∙ after_is

  -- Standing queries one after another, by a catalog with these tables.
  pub all_watched : (others : List StandingDef) (done : List StandingDef) (queries : List BoundQuery) (standing : List StandingDef) (bounds : List BoundQuery)
      → AreBeside standing bounds → AllByRecursion (IsAsked tables) bounds → AllFit tables rows bounds
      → IsDistinct same_name (names_of (done ++ standing)) → length (done ++ standing) ≤ 32
      → after_all (commands_of (watch_entries (record { tables = tables; standing = others }) standing bounds)) (watching tables rows done queries)
      ≡ watching tables rows (done ++ standing) (queries ++ bounds)
  all_watched others done queries [] [] beside asked fit distinct few =
      λ i. watching tables rows (sym (append-nil done) i) (sym (append-nil queries) i)
  all_watched others done queries (s ∷ ss) (b ∷ bs) beside asked fit distinct few =
      let standing_are : (done ++ s ∷ []) ++ ss ≡ done ++ s ∷ ss = append_assoc done (s ∷ []) ss in
      ap (after_all (commands_of (watch_entries (record { tables = tables; standing = others }) ss bs)))
      (watched done queries s b asked.0 beside.0 (not_before done s ss distinct) (omega (arith, few, length-append done (s ∷ ss))) fit.0)
      ∙ all_watched others (done ++ s ∷ []) (queries ++ b ∷ []) ss bs beside.1 asked.1 fit.1
      (subst (λ l. IsDistinct same_name (names_of l)) (sym standing_are) distinct) (subst (λ l. length l ≤ 32) (sym standing_are) few)
      ∙ (λ i. watching tables rows (standing_are i) (append_assoc queries (b ∷ []) bs i))
  all_watched others done queries [] (b ∷ bs) beside asked fit distinct few = absurd beside
  all_watched others done queries (s ∷ ss) [] beside asked fit distinct few = absurd beside
