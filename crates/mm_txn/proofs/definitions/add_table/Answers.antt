-- The catalog's new table and its new relation are the state's new table.
use Rattle.std.proofs.Common.{◌≡◌, ◌≢◌, ℕ, ◌-◌, List, ◌++◌, length, sym, ap, subst, ◌∙◌, arith}
use Rattle.std.specs.List.{All, remove}
use Rattle.std.proofs.lemmas.List.{length-map, length_push}
use Rattle.mm_indexed.specs.Kept.{StoredRows}
use Rattle.mm_schema.specs.References.{all_references}
use Rattle.mm_schema.specs.Schema.{Schema, with_table}
use Rattle.mm_schema.specs.declared.column.Column.{Column}
use Rattle.mm_schema.specs.declared.reference.Reference.{Reference}
use Rattle.mm_base.specs.Bases.{references_without}
use Rattle.mm_base.specs.Columns.{IsFrom}
use Rattle.mm_plan.specs.Kept.{AreKept, AreOf}
use Rattle.mm_txn.proofs.DatabaseSteps.{few_tables, rows_added}
use Rattle.mm_txn.proofs.KeptReferences.{back_to_old, kept_by_rows, kept_by_table, new_references, new_references_fit, none_to_last, references_before}
use Rattle.mm_txn.proofs.KeptReferences.{remove_last}
use Rattle.mm_txn.proofs.RowsBeside.{as_many_rows, types_of}
use Rattle.mm_txn.proofs.definitions.add_table.Goals as goal

pub add_table-requires-clause-key : goal.add_table-requires-clause-key
add_table-requires-clause-key c =
    omega (
      arith,
      ap length (c.as_slice-2.ensures.value ∙ (c.in_ok-types.ensures ∙ ap types_of c.as_slice.ensures.value)),
      length-map c.args.definition.columns (λ (x : Column). x.col_type),
      c.key-key.ensures.within,
    )

pub add_table-requires-clause-references : goal.add_table-requires-clause-references
add_table-requires-clause-references c =
    let catalog = c.args.catalog.now in
    let due = sym c.table_refusal.ensures ∙ c.in_default.is in
    let refs = c.as_slice-3.ensures.value ∙ c.in_ok-references.ensures in
    let many = as_many_rows catalog.tables c.args.store.now.tables c.requires.kept.relations in
    let types : length c.as_slice-2.result.now ≡ length c.args.definition.columns =
    ap length (c.as_slice-2.ensures.value ∙ (c.in_ok-types.ensures ∙ ap types_of c.as_slice.ensures.value))
    ∙ length-map c.args.definition.columns (λ (x : Column). x.col_type) in
    subst (λ rs. All (IsFrom (length c.args.store.now.tables) (length c.as_slice-2.result.now)) rs) (sym refs)
    (subst (λ (n : ℕ). All (IsFrom n (length c.as_slice-2.result.now)) (new_references c.args.definition catalog)) (sym many)
    (subst (λ (w : ℕ). All (IsFrom (length catalog.tables) w) (new_references c.args.definition catalog)) (sym types)
    (new_references_fit c.args.definition catalog c.requires.kept.targets c.requires.kept.others due)))

pub add_table-requires-clause-few : goal.add_table-requires-clause-few
add_table-requires-clause-few c =
    omega (
      arith,
      few_tables c.args.definition c.args.catalog.now (sym c.table_refusal.ensures ∙ c.in_default.is),
      as_many_rows c.args.catalog.now.tables c.args.store.now.tables c.requires.kept.relations,
    )

pub drop_table-requires-clause-unused : goal.drop_table-requires-clause-unused
drop_table-requires-clause-unused c =
    let catalog = c.args.catalog.now in
    let due = sym c.table_refusal.ensures ∙ c.in_default.is in
    let refs = c.as_slice-3.ensures.value ∙ c.in_ok-references.ensures in
    let new = c.in_ok-add_table.ensures.ok in
    let many = as_many_rows catalog.tables c.args.store.now.tables c.requires.kept.relations in
    let last : length catalog.tables ≡ c.len.result - 1 =
    omega (arith, c.len.ensures, ap length new.1, length_push c.args.store.now.tables new.0, many) in
    let links : c.add_table.new.self.links ≡ all_references catalog ++ new_references c.args.definition catalog =
    c.in_ok-add_table.ensures.links ∙ λ i. c.requires.kept.links i ++ refs i in
    subst (λ (n : ℕ). All (λ (r : Reference). r.to ≢ n) c.add_table.new.self.links) last
    (subst (λ rs. All (λ (r : Reference). r.to ≢ length catalog.tables) rs) (sym links)
    (none_to_last (length catalog.tables) (length c.args.definition.columns) (all_references catalog) (new_references c.args.definition catalog)
    (references_before catalog c.requires.kept.targets c.requires.kept.others)
    (new_references_fit c.args.definition catalog c.requires.kept.targets c.requires.kept.others due)))

pub returns-in-Err-clause-kept : goal.returns-in-Err-clause-kept
returns-in-Err-clause-kept c =
    let catalog = c.args.catalog.now in
    let due = sym c.table_refusal.ensures ∙ c.in_default.is in
    let refs = c.as_slice-3.ensures.value ∙ c.in_ok-references.ensures in
    let new = c.in_ok-add_table.ensures.ok in
    let many = as_many_rows catalog.tables c.args.store.now.tables c.requires.kept.relations in
    let last : c.len.result - 1 ≡ length c.args.store.now.tables =
    omega (arith, c.len.ensures, ap length new.1, length_push c.args.store.now.tables new.0) in
    let tables : c.drop_table.new.self.tables ≡ c.args.store.now.tables =
    c.drop_table.ensures.tables ∙ (λ i. remove (new.1 i) (last i)) ∙ remove_last c.args.store.now.tables new.0 in
    let links : c.drop_table.new.self.links ≡ c.args.store.now.links =
    c.drop_table.ensures.links ∙ (λ i. references_without (last i) (c.in_ok-add_table.ensures.links i))
    ∙ (λ i. references_without (many i) (c.requires.kept.links i ++ refs i))
    ∙ back_to_old (length catalog.tables) (length c.args.definition.columns) (all_references catalog) (new_references c.args.definition catalog)
    (references_before catalog c.requires.kept.targets c.requires.kept.others)
    (new_references_fit c.args.definition catalog c.requires.kept.targets c.requires.kept.others due)
    ∙ sym c.requires.kept.links in
    subst (λ (schema : Schema). AreKept schema c.drop_table.new.self) (sym c.in-Err.ensures.err)
    (kept_by_rows catalog c.args.store.now c.drop_table.new.self c.requires.kept
    (subst (λ (rs : List StoredRows). AreOf catalog.tables rs) (sym tables) c.requires.kept.relations) links)

pub returns-clause-kept : goal.returns-clause-kept
returns-clause-kept c =
    let due = sym c.table_refusal.ensures ∙ c.in_default.is in
    let refs = c.as_slice-3.ensures.value ∙ c.in_ok-references.ensures in
    let new = c.in_ok-add_table.ensures.ok in
    let added = rows_added c.args.catalog.now c.args.store.now.tables c.requires.kept.relations c.args.definition new.0 (new.4 ∙ c.key-key.ensures.place)
    (new.3 ∙ (c.as_slice-2.ensures.value ∙ (c.in_ok-types.ensures ∙ ap types_of c.as_slice.ensures.value))) new.5 in
    subst (λ (schema : Schema). AreKept schema c.add_table.new.self) (sym c.in_default-add_table.ensures.ok)
    (kept_by_table c.args.catalog.now c.args.store.now c.add_table.new.self c.requires.kept c.args.definition due
    (subst (λ (rs : List StoredRows). AreOf (with_table c.args.definition c.args.catalog.now).tables rs) (sym new.1) added)
    (c.in_ok-add_table.ensures.links ∙ ap (λ rs. c.args.store.now.links ++ rs) refs))
