-- The test of the store's references decides which table a column of the catalog refers to.
use Rattle.std.proofs.Common.{◌≡◌, ℕ, zero, suc, ◌+◌, ◌<◌, Bool, true, false, not, ◌&&◌, ◌||◌, List, [], ◌∷◌, map, Option, Some, None, refl, sym, ap, ◌∙◌}
use Rattle.std.proofs.Common.{arith}
use Rattle.std.specs.Prelude.{◌==◌, slice_get}
use Rattle.std.specs.List.{list_any}
use Rattle.std.specs.Option.{option_map_or, unwrap_or}
use Rattle.std.proofs.lemmas.Bool.{eq-eqb, ne_eqb}
use Rattle.std.proofs.lemmas.List.Folds.{list_any-append}
use Rattle.std.proofs.lemmas.Option.{same_Some}
use Rattle.mm_plan.specs.Choosing.{refers_only}
use Rattle.mm_schema.specs.Columns.{refers_to, target_of}
use Rattle.mm_schema.specs.Name.{same_name}
use Rattle.mm_schema.specs.References.{all_references, in_front, reference_at, references_behind, references_from, references_of}
use Rattle.mm_schema.specs.Schema.{Schema, table_place}
use Rattle.mm_schema.specs.declared.column.Column.{Column}
use Rattle.mm_schema.specs.declared.reference.Reference.{Reference}
use Rattle.mm_schema.specs.declared.table.Table.{Table}
use Rattle.mm_base.specs.Columns.{differs_in_target, same_reference}
use Rattle.mm_store.specs.Tables.{Tables}

or_none : (a b : Bool) → a ≡ false → (a || b) ≡ b
or_none a b is = ap (λ c. c || b) is

and_none : (a b : Bool) → b ≡ false → (a && b) ≡ false
and_none true b is = is
and_none false b is = refl

or_last : (a b : Bool) → b ≡ false → (a || b) ≡ a
or_last true b is = refl
or_last false b is = is

-- A test of the references of one column that depends only on their targets.
module _ (schema : Schema) (from column : ℕ) (leads : ℕ → Bool) where
  abbrev passes : Reference → Bool
  passes r = ((from == r.from) && (column == r.column)) && leads r.to

  abbrev led : Option (List ℕ) → Bool
  led target = option_map_or (λ (name : List ℕ). leads (unwrap_or (table_place name schema) 0)) target false

  other_table : (place : ℕ) (rs : List (ℕ × List ℕ)) → (from ≡ place → ⊥) → list_any passes (map (reference_at schema place) rs) ≡ false
  other_table place [] differ = refl
  other_table place (r ∷ rs) differ =
      or_none (passes (reference_at schema place r)) (list_any passes (map (reference_at schema place) rs))
      (ap (λ b. (b && (column == r.0)) && leads (unwrap_or (table_place r.1 schema) 0)) (ne_eqb from place differ))
      ∙ other_table place rs differ

  -- After the column there are no references of it.
  past_column : (at : ℕ) (columns : List Column) → column < at → list_any passes (map (reference_at schema from) (references_from at columns)) ≡ false
  past_column at [] behind = refl
  past_column at (c ∷ cs) behind = by (target_of c) (past_column (at + 1) cs (omega (arith, behind)))
    where
      by : (target : Option (List ℕ)) → list_any passes (map (reference_at schema from) (references_from (at + 1) cs)) ≡ false
          → list_any passes (map (reference_at schema from) (in_front at target (references_from (at + 1) cs))) ≡ false
      by None rest = rest
      by (Some name) rest =
          or_none (passes (reference_at schema from (at, name))) (list_any passes (map (reference_at schema from) (references_from (at + 1) cs)))
          (ap (λ b. b && leads (unwrap_or (table_place name schema) 0))
          (and_none (from == from) (column == at) (ne_eqb column at (λ is. absurd (omega (arith, behind, is))))))
          ∙ rest

  own_column : (at number : ℕ) (columns : List Column) (own : Column) → column ≡ at + number → slice_get columns number ≡ Some own
      → list_any passes (map (reference_at schema from) (references_from at columns)) ≡ led (target_of own)
  own_column at number [] own is found = cc
  own_column at zero (c ∷ cs) own is found =
      here (target_of c) (past_column (at + 1) cs (omega (arith, is))) ∙ ap (λ (x : Column). led (target_of x)) (same_Some c own found)
    where
      both : (from == from) && (column == at) ≡ true
      both = ap (λ b. b && (column == at)) (eq-eqb from from refl) ∙ eq-eqb column at (omega (arith, is))

      here : (target : Option (List ℕ)) → list_any passes (map (reference_at schema from) (references_from (at + 1) cs)) ≡ false
          → list_any passes (map (reference_at schema from) (in_front at target (references_from (at + 1) cs))) ≡ led target
      here None rest = rest
      here (Some name) rest =
          or_last (passes (reference_at schema from (at, name))) (list_any passes (map (reference_at schema from) (references_from (at + 1) cs))) rest
          ∙ ap (λ b. b && leads (unwrap_or (table_place name schema) 0)) both
  own_column at (suc number) (c ∷ cs) own is found =
      behind (target_of c) (own_column (at + 1) number cs own (omega (arith, is)) found)
    where
      differs : ((from == from) && (column == at)) ≡ false
      differs = ap (λ b. b && (column == at)) (eq-eqb from from refl) ∙ ne_eqb column at (λ same. absurd (omega (arith, is, same)))

      behind : (target : Option (List ℕ)) → list_any passes (map (reference_at schema from) (references_from (at + 1) cs)) ≡ led (target_of own)
          → list_any passes (map (reference_at schema from) (in_front at target (references_from (at + 1) cs))) ≡ led (target_of own)
      behind None rest = rest
      behind (Some name) rest =
          or_none (passes (reference_at schema from (at, name))) (list_any passes (map (reference_at schema from) (references_from (at + 1) cs)))
          (ap (λ b. b && leads (unwrap_or (table_place name schema) 0)) differs)
          ∙ rest

  past_table : (at : ℕ) (tables : List Table) → from < at → list_any passes (references_behind schema at tables) ≡ false
  past_table at [] behind = refl
  past_table at (t ∷ ts) behind =
      list_any-append passes (map (reference_at schema at) (references_of t.definition.columns)) (references_behind schema (at + 1) ts)
      ∙ (or_none _ (list_any passes (references_behind schema (at + 1) ts))
      (other_table at (references_of t.definition.columns) (λ is. absurd (omega (arith, behind, is)))) ∙ past_table (at + 1) ts (omega (arith, behind)))

  own_table : (at number : ℕ) (tables : List Table) (table : Table) (own : Column) → from ≡ at + number → slice_get tables number ≡ Some table
      → slice_get table.definition.columns column ≡ Some own → list_any passes (references_behind schema at tables) ≡ led (target_of own)
  own_table at number [] table own is found has = cc
  own_table at zero (t ∷ ts) table own is found has =
      let here : from ≡ at = omega (arith, is) in
      let within : from < at + 1 = omega (arith, is) in
      let start : column ≡ 0 + column = omega arith in
      let of_table : slice_get t.definition.columns column ≡ Some own =
      ap (λ (x : Table). slice_get x.definition.columns column) (same_Some t table found) ∙ has in
      list_any-append passes (map (reference_at schema at) (references_of t.definition.columns)) (references_behind schema (at + 1) ts)
      ∙ (or_last _ (list_any passes (references_behind schema (at + 1) ts)) (past_table (at + 1) ts within)
      ∙ (ap (λ n. list_any passes (map (reference_at schema n) (references_of t.definition.columns))) (sym here)
      ∙ own_column 0 column t.definition.columns own start of_table))
  own_table at (suc number) (t ∷ ts) table own is found has =
      list_any-append passes (map (reference_at schema at) (references_of t.definition.columns)) (references_behind schema (at + 1) ts)
      ∙ (or_none _ (list_any passes (references_behind schema (at + 1) ts))
      (other_table at (references_of t.definition.columns) (λ same. absurd (omega (arith, is, same))))
      ∙ own_table (at + 1) number ts table own (omega (arith, is)) found has)

  pub of_column : (table : Table) (own : Column) → slice_get schema.tables from ≡ Some table → slice_get table.definition.columns column ≡ Some own
      → list_any passes (all_references schema) ≡ led (target_of own)
  of_column table own found has = let is : from ≡ 0 + from = omega arith in own_table 0 from schema.tables table own is found has

one_and_not : (b : Bool) → (b && not (not b)) ≡ b
one_and_not true = refl
one_and_not false = refl

-- The references say that a column refers to a table exactly if the column refers to the table's name.
module _ (schema : Schema) (store : Tables) (links : store.links ≡ all_references schema) (from column to : ℕ) (name : List ℕ) (table : Table) (own : Column)
    (found : slice_get schema.tables from ≡ Some table) (has : slice_get table.definition.columns column ≡ Some own)
    (agree : (target : List ℕ) → target_of own ≡ Some target → (to == unwrap_or (table_place target schema) 0) ≡ same_name name target) where
  by_target : (target : Option (List ℕ)) → target_of own ≡ target
      → (option_map_or (λ (n : List ℕ). to == unwrap_or (table_place n schema) 0) target false
      && not (option_map_or (λ (n : List ℕ). not (to == unwrap_or (table_place n schema) 0)) target false)) ≡ option_map_or (same_name name) target false
  by_target None is = refl
  by_target (Some target) is = one_and_not (to == unwrap_or (table_place target schema) 0) ∙ agree target is

  pub refers_by_name : refers_only store (record { from = from; column = column; to = to }) ≡ refers_to name own
  refers_by_name =
      ap (λ (rs : List Reference). list_any (same_reference (record { from = from; column = column; to = to })) rs
      && not (list_any (differs_in_target (record { from = from; column = column; to = to })) rs)) links
      ∙ ((λ i. of_column schema from column (λ n. to == n) table own found has i && not
      (of_column schema from column (λ n. not (to == n)) table own found has i))
      ∙ by_target (target_of own) refl)
