-- The edits of a command were made, and the rows of the table are counted.
use Rattle.std.proofs.Common.{◌≡◌, ℕ, ◌<◌, Bool, false, List, Some, length, map, set, sym, ap, ap₂, ◌∙◌, subst, arith}
use Rattle.std.specs.Prelude.{nat_lt}
use Rattle.std.proofs.lemmas.Bool.{ltb-false}
use Rattle.std.proofs.lemmas.List.{length-map}
use Rattle.mm_value.specs.declared.refusal.Refusal.TheVariants.{DuplicateKey}
use Rattle.mm_value.specs.declared.values.Value.{Value}
use Rattle.mm_schema.specs.Refused.{first_refusal}
use Rattle.mm_schema.specs.Rows.{most_rows, table_rows_conditions}
use Rattle.mm_row_order.specs.Refs.{Slots}
use Rattle.mm_indexed.specs.Twins.{AreApart}
use Rattle.mm_tables.specs.Commands.{after, IsCommand}
use Rattle.mm_tables.specs.Tables.{slots_of, shape_of, state_of, slots_in, keys_of, key_in}
use Rattle.mm_tables.specs.declared.edit.Edit.{Edit}
use Rattle.mm_tables.specs.declared.logged_table.LoggedTable.{LoggedTable}
use Rattle.mm_tables.proofs.InTables.{key_same, slots_next}
use Rattle.mm_base.specs.Bases.{IsLawful, AreLawful, rows_of_state}
use Rattle.mm_base.specs.EditPairs.{rows_with}
use Rattle.mm_base.specs.RowLists.{rows_in, AreSmall}
use Rattle.mm_base.proofs.Changed.{duplicates_if_twins, none_if_apart-after, rows_in-after}
use Rattle.mm_base.proofs.Due.{due_after, due_first, due_is}
use Rattle.mm_base.proofs.InBases.{made_lawful, made_rows}

module _ (old : List LoggedTable) (t : ℕ) (edits : List Edit) (within : t < length old) (lawful : AreLawful (keys_of old) (state_of old))
    (command : IsCommand (key_in old t) edits (slots_in old t)) where
  there : t < length (state_of old)
  there = omega (arith, within, length-map old slots_of)

  pub lawful_here : IsLawful (key_in old t) (slots_in old t)
  lawful_here = lawful t there

  -- if two rows have one key, `DuplicateKey` is due
  pub twins_due : (lacks leaves : Bool) → (AreApart (key_in old t) (after edits (slots_in old t)) → ⊥)
      → first_refusal (table_rows_conditions (key_in old t) (rows_with (key_in old t) (slots_in old t) edits) lacks leaves) ≡ Some DuplicateKey
  twins_due lacks leaves twins =
      due_first (key_in old t) (rows_with (key_in old t) (slots_in old t) edits) lacks leaves
      (duplicates_if_twins (key_in old t) (slots_in old t) lawful_here.apart lawful_here.small edits command twins)

  module _ (new : List LoggedTable) (shapes : map shape_of new ≡ map shape_of old)
      (made : state_of new ≡ set (state_of old) t (after edits (slots_in old t))) (apart : AreApart (key_in old t) (slots_in new t)) where
    pub apart_now : AreApart (key_in new t) (slots_in new t)
    apart_now = subst (λ (k : ℕ). AreApart k (slots_in new t)) (sym (key_same old new t shapes)) apart

    slots : slots_in new t ≡ after edits (slots_in old t)
    slots = slots_next (state_of old) (state_of new) t (after edits (slots_in old t)) there made

    apart_after : AreApart (key_in old t) (after edits (slots_in old t))
    apart_after = subst (AreApart (key_in old t)) slots apart

    module _ (small : AreSmall (slots_in new t)) where
      small_after : AreSmall (after edits (slots_in old t))
      small_after = subst AreSmall slots small

      pub kept_rows : rows_of_state (keys_of new) (state_of new)
          ≡ set (rows_of_state (keys_of old) (state_of old)) t (rows_with (key_in old t) (slots_in old t) edits)
      kept_rows = made_rows old new shapes t edits made lawful_here command apart_after small_after

      module _ (full : Bool) (counted : full ≡ nat_lt most_rows (length (rows_in (key_in new t) (slots_in new t)))) where
        counted_after : nat_lt most_rows (length (rows_in (key_in old t) (after edits (slots_in old t)))) ≡ full
        counted_after = sym (counted ∙ ap₂ (λ (k : ℕ) (s : Slots). nat_lt most_rows (length (rows_in k s))) (key_same old new t shapes) slots)

        -- otherwise the refusal of the foreign keys is due, and then `TableFull` if the table has too many rows
        pub full_due : (lacks leaves : Bool)
            → first_refusal (table_rows_conditions (key_in old t) (rows_with (key_in old t) (slots_in old t) edits) lacks leaves)
            ≡ due_after lacks leaves full
        full_due lacks leaves =
            due_is (key_in old t) (rows_with (key_in old t) (slots_in old t) edits) lacks leaves false full
            (none_if_apart-after (key_in old t) (slots_in old t) lawful_here.apart lawful_here.small edits command apart_after)
            (ap (λ (rows : List (List Value)). nat_lt most_rows (length rows))
            (sym (rows_in-after (key_in old t) (slots_in old t) lawful_here.apart lawful_here.small edits command apart_after small_after))
            ∙ counted_after)

        pub kept_lawful : full ≡ false → AreLawful (keys_of new) (state_of new)
        kept_lawful few =
            made_lawful old new shapes t edits made lawful (record {
              apart = apart_after;
              few = ltb-false most_rows (length (rows_in (key_in old t) (after edits (slots_in old t)))) (counted_after ∙ few);
              small = small_after;
            })
