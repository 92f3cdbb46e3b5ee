-- The cascaded rows are found table by table.
use Rattle.std.proofs.Common.{◌≡◌, ◌≢◌, ◌<◌, ◌≤◌, ◌+◌, List, [], ◌∷◌, ◌++◌, Some, drop, length, map, slice_get, ap, ◌∙◌, rules, subst, sym, arith, eq-eqb}
use Rattle.std.specs.List.{All, filter}
use Rattle.std.proofs.lemmas.Bool.{eqb-true, false≢true}
use Rattle.std.proofs.lemmas.Grind.{common_steps}
use Rattle.std.proofs.lemmas.List.{map-append, nil_from_length}
use Rattle.std.proofs.lemmas.List.Elements.{All-cons, All-nil, All-push, All-weaker}
use Rattle.mm_txn.specs.RowEdits.{BringNone}
use Rattle.mm_tables.specs.declared.edit.Edit.{Edit}
use Rattle.mm_schema.specs.declared.table.Table.{Table}
use Rattle.mm_query.specs.Edits.{is_cascaded, removals_of, with_cascades}
use Rattle.mm_store.specs.Tables.{rows_at}
use Rattle.mm_plan.specs.Kept.{instance_of}
use Rattle.mm_txn.specs.PlacedEdits.{AreEdits, PlacedEdits, named, pairs_at, placed}
use Rattle.mm_txn.specs.declared.edits.RelationEdits.{RelationEdits}
use Rattle.mm_txn.proofs.CascadeFinds.{none_more, one_edited, one_more, rest_at_first, rest_at_last, some_more}
use Rattle.mm_txn.proofs.CascadeTables.{as_many, fits_within}
use Rattle.mm_txn.proofs.cascades.cascades.Goals.{then-not-is_empty+in_ok-push, else-not-is_empty}
use Rattle.mm_txn.proofs.cascades.cascades.Goals as goal

pub overflow_step-table : goal.overflow_step-table
overflow_step-table c =
    let first = fits_within c.args.store.now (placed c.args.own.now) c.requires.fit in
    let same = as_many c.args.catalog.now.tables c.args.store.now.tables c.requires.kept.relations in
    let value = ap length c.tables-count.ensures.value in
    first_of (search rules, grind (arith, common_steps))

pub loop-table-init : goal.loop-table-init
loop-table-init c =
    let schema = c.args.catalog.now in
    let store = c.args.store.now in
    let own = placed c.args.own.now in
    let none = ap (map placed) c.new-cascaded.ensures.items in
    record {
      are = subst (λ cs. AreEdits store (own ∷ cs)) (sym none) (one_edited store own c.requires.fit);
      before = subst (λ cs. All (λ (d : PlacedEdits). d.0 < own.0 + 1) (own ∷ cs)) (sym none)
          (All-cons (λ (d : PlacedEdits). d.0 < own.0 + 1) own [] (omega arith) (All-nil (λ (d : PlacedEdits). d.0 < own.0 + 1)));
      removals = subst (λ cs. All (λ (d : PlacedEdits). BringNone d.1) (own ∷ cs)) (sym none)
          (All-cons (λ (d : PlacedEdits). BringNone d.1) own [] c.requires.removals (All-nil (λ (d : PlacedEdits). BringNone d.1)));
      rest = rest_at_first schema store c.requires.kept c.requires.distinct own c.requires.fit
          ∙ ap (λ cs. with_cascades schema (drop (own.0 + 1) schema.tables) (drop (own.0 + 1) (instance_of store.tables))
          (map (named schema store.tables) (own ∷ cs))) (sym none);
    }

pub loop-table-preserved : goal.loop-table-preserved
loop-table-preserved c =
    let schema = c.args.catalog.now in
    let store = c.args.store.now in
    let own = placed c.args.own.now in
    let table = c.loop-table.table in
    let cs : List PlacedEdits = own ∷ map placed c.loop-table.cascaded.items in
    let edits : List Edit = c.in_ok-edits.edits in
    let within : table < length schema.tables = subst (λ (ts : List Table). table < length ts) c.tables-count.ensures.value c.loop-table-test.true in
    let pairs : (t : Table) → slice_get schema.tables table ≡ Some t → pairs_at store.tables (table, edits)
    ≡ removals_of (filter (is_cascaded schema (map (named schema store.tables) cs) t.definition.columns) (rows_at store.tables table)) =
    λ t at. c.in_ok-edits.ensures.pairs t at
    ∙ ap (λ (xs : List RelationEdits). removals_of (filter (is_cascaded schema (map (named schema store.tables) (own ∷ map placed xs)) t.definition.columns)
    (rows_at store.tables table))) c.as_slice.ensures.value in
    let before : All (λ (d : PlacedEdits). d.0 < table + 1) cs =
    All-weaker (λ (d : PlacedEdits). d.0 < table) (λ (d : PlacedEdits). d.0 < table + 1) (λ d below. omega (arith, below)) cs c.loop-table.invariant.before in
    elim c.if-not-is_empty.branch [
      | then-not-is_empty+in_ok-push w ↦
          let more : own ∷ map placed c.if-not-is_empty.cascaded.items ≡ cs ++ (table, edits) ∷ [] =
          ap (λ cascaded. own ∷ map placed cascaded.items) w.cascaded-is ∙ ap (λ (xs : List RelationEdits). own ∷ map placed xs) w.in_ok-push.ensures.items
          ∙ ap (λ (xs : List PlacedEdits). own ∷ xs) (map-append placed c.loop-table.cascaded.items _) in
          let some : edits ≢ [] = λ none.
          let size : length c.as_slice-in-loop-table.result.now ≡ 0 = ap length (c.as_slice-in-loop-table.ensures ∙ none) in
          false≢true (sym w.if-not-is_empty.true ∙ c.is_empty.ensures ∙ eq-eqb (length c.as_slice-in-loop-table.result.now) 0 size) in
          record {
            are = subst (AreEdits store) (sym more)
                (one_more store cs (table, edits) c.loop-table.invariant.are c.in_ok-edits.ensures.fit c.loop-table.invariant.before
                c.loop-table.invariant.removals
                c.in_ok-edits.ensures.removals);
            before = subst (All (λ (d : PlacedEdits). d.0 < table + 1)) (sym more)
                (All-push (λ (d : PlacedEdits). d.0 < table + 1) cs (table, edits) before (omega arith));
            removals = subst (All (λ (d : PlacedEdits). BringNone d.1)) (sym more)
                (All-push (λ (d : PlacedEdits). BringNone d.1) cs (table, edits) c.loop-table.invariant.removals c.in_ok-edits.ensures.removals);
            rest = c.loop-table.invariant.rest ∙ some_more schema store c.requires.kept c.requires.distinct table within edits cs pairs some
                ∙ ap (λ (xs : List PlacedEdits). with_cascades schema (drop (table + 1) schema.tables) (drop (table + 1) (instance_of store.tables))
                (map (named schema store.tables) xs)) (sym more);
          }
      | else-not-is_empty w ↦
          let same : own ∷ map placed c.if-not-is_empty.cascaded.items ≡ cs = ap (λ cascaded. own ∷ map placed cascaded.items) w.cascaded-is in
          let none : edits ≡ [] =
          let size = eqb-true (length c.as_slice-in-loop-table.result.now) 0 (sym c.is_empty.ensures ∙ w.if-not-is_empty.false) in
          sym c.as_slice-in-loop-table.ensures ∙ nil_from_length c.as_slice-in-loop-table.result.now size in
          record {
            are = subst (AreEdits store) (sym same) c.loop-table.invariant.are;
            before = subst (All (λ (d : PlacedEdits). d.0 < table + 1)) (sym same) before;
            removals = subst (All (λ (d : PlacedEdits). BringNone d.1)) (sym same) c.loop-table.invariant.removals;
            rest = c.loop-table.invariant.rest ∙ none_more schema store c.requires.kept c.requires.distinct table within edits cs pairs none
                ∙ ap (λ (xs : List PlacedEdits). with_cascades schema (drop (table + 1) schema.tables) (drop (table + 1) (instance_of store.tables))
                (map (named schema store.tables) xs)) (sym same);
          }
    ]

pub returns-clause-cascades : goal.returns-clause-cascades
returns-clause-cascades c =
    let past : length c.args.catalog.now.tables ≤ c.loop-table.table =
    subst (λ (ts : List Table). length ts ≤ c.loop-table.table) c.tables-count.ensures.value c.loop-table-test.false in
    sym (c.loop-table.invariant.rest ∙ rest_at_last c.args.catalog.now c.args.store.now c.requires.kept c.requires.distinct c.loop-table.table past _)
