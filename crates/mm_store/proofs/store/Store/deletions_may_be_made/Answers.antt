use Rattle.std.proofs.Common.{◌≡◌, ℕ, Bool, false, List, Some, None, cond, ap, ◌∙◌, sym, subst}
use Rattle.mm_base.specs.Bases.{references_of, rows_made}
use Rattle.mm_base.specs.Orphans as base
use Rattle.mm_row_order.specs.Refs.{Slots}
use Rattle.mm_schema.specs.Refused.{first_refusal}
use Rattle.mm_schema.specs.Rows.{most_rows, table_rows_conditions}
use Rattle.std.proofs.lemmas.Bool.{le-ltb}
use Rattle.std.specs.Prelude.{nat_lt, length}
use Rattle.mm_store.specs.Tables.{IsAt, Tables, has_orphans, tables_of}
use Rattle.mm_store.specs.Edits.{rows_after}
use Rattle.mm_store.proofs.EditRows.{rows_after-made}
use Rattle.mm_store.proofs.ListedTables.{has_orphans-place, key_there, slots_at}
use Rattle.mm_tables.specs.Commands.{IsCommand}
use Rattle.mm_tables.specs.Tables.{key_in, slots_in}
use Rattle.mm_value.specs.declared.refusal.Refusal.TheVariants.{DuplicateKey, NoTargetRow, RowIsReferenced, TableFull}
use Rattle.mm_value.specs.declared.values.Value.{Value}
use Rattle.mm_store.proofs.store.Store.deletions_may_be_made.Goals as goal

only_third : (duplicates lacks referred full : Bool) → duplicates ≡ false → lacks ≡ false → full ≡ false
    → cond duplicates (Some DuplicateKey) (cond lacks (Some NoTargetRow) (cond referred (Some RowIsReferenced) (cond full (Some TableFull) None)))
    ≡ cond referred (Some RowIsReferenced) None
only_third duplicates lacks referred full apart targets few =
    ap (λ b. cond b (Some DuplicateKey) (cond lacks (Some NoTargetRow) (cond referred (Some RowIsReferenced) (cond full (Some TableFull) None)))) apart
    ∙ (ap (λ b. cond b (Some NoTargetRow) (cond referred (Some RowIsReferenced) (cond full (Some TableFull) None))) targets
    ∙ ap (λ b. cond referred (Some RowIsReferenced) (cond b (Some TableFull) None)) few)

pub returns : goal.returns
returns c stored at edits ready none referred =
    let b = c.self.inside.base in
    let t : ℕ = c.args.table in
    let inside : IsAt (tables_of b) t stored = subst (λ (s : Tables). IsAt s t stored) (sym c.self.view_is) at in
    let key : stored.key ≡ key_in b.stored.tables t = key_there b t stored inside in
    let command : IsCommand (key_in b.stored.tables t) edits (slots_in b.stored.tables t) =
    subst (λ (k : ℕ). IsCommand k edits (slots_in b.stored.tables t)) key
    (subst (λ (s : Slots). IsCommand stored.key edits s) (slots_at b t stored inside) ready) in
    let made : List (List Value) = rows_made b.stored t edits in
    let rows : rows_after stored edits ≡ made = rows_after-made b c.rows_are_listed.ensures t stored inside edits command.fits in
    let lacks : has_orphans (tables_of b) t (rows_after stored edits) ≡ base.has_orphans b.stored.tables (references_of b.links) t made =
    ap (has_orphans (tables_of b) t) rows ∙ has_orphans-place b c.rows_are_listed.ensures t made in
    subst
    (λ (s : Tables).
    first_refusal (table_rows_conditions stored.key (rows_after stored edits) (has_orphans s t (rows_after stored edits)) referred)
    ≡ cond referred (Some RowIsReferenced) None)
    c.self.view_is
    ((λ i. first_refusal (table_rows_conditions (key i) (rows i) (lacks i) referred))
    ∙ only_third _ (base.has_orphans b.stored.tables (references_of b.links) t made) referred (nat_lt most_rows (length made))
    (c.deletions_are_made.ensures.apart edits command none) (c.targets_stay.ensures edits command none)
    (le-ltb most_rows (length made) (c.deletions_are_made.ensures.few edits command none)))
