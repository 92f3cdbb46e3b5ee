-- Worked examples of how many rows the steps of a query read, with three tables and with texts.
use Rattle.std.specs.Prelude.{ℕ, pos, List, [], ◌∷◌, codes}
use Rattle.mm_plan.specs.ReadExamples.{key_is_number, number_is_key, row_of, rows_of_t, rows_of_u}
use Rattle.mm_plan.specs.Steps.{plan_reads}
use Rattle.mm_plan.specs.declared.step.Step.{Step}
use Rattle.mm_plan.specs.declared.step.Step.TheVariants as step
use Rattle.mm_query.specs.declared.atom.Atom.{Atom}
use Rattle.mm_query.specs.declared.atom.Comparison.{Comparison}
use Rattle.mm_query.specs.declared.atom.Comparison.TheVariants.{Equal}
use Rattle.mm_query.specs.declared.atom.Operand.TheVariants.{Column}
use Rattle.mm_query.specs.declared.bound_query.FieldPlace.{FieldPlace}
use Rattle.mm_select.specs.Asked.{compares}
use Rattle.mm_value.specs.declared.values.Value.{Value}
use Rattle.mm_value.specs.declared.values.Value.TheVariants.{Int, Text}

-- ---- three tables

-- The rows of `v`, whose number is the key of a row of `u`.
abbrev pub rows_of_v : List (List Value)
rows_of_v = row_of 100 10 ∷ row_of 101 12 ∷ row_of 102 12 ∷ row_of 103 13 ∷ row_of 104 10 ∷ []

-- `c.k = b.id`, where `b` is the second table of FROM and `c` the third.
abbrev pub third_number_is_key : Atom FieldPlace
third_number_is_key =
    record { left = record { place = 2; column = 1 }; comparison = Equal; right = Column (record { place = 1; column = 0 }) }

-- `c.id = b.k`, where `b` is the second table of FROM and `c` the third.
abbrev pub third_key_is_number : Atom FieldPlace
third_key_is_number =
    record { left = record { place = 2; column = 0 }; comparison = Equal; right = Column (record { place = 1; column = 1 }) }

-- The reads of a scan of `t` and these steps for `u` and `v`.
abbrev pub reads_from_t_to_v : Step → Step → ℕ
reads_from_t_to_v second third =
    plan_reads (number_is_key ∷ third_number_is_key ∷ []) (step.Scan ∷ second ∷ third ∷ []) (rows_of_t ∷ rows_of_u ∷ rows_of_v ∷ [])

-- The reads of a scan of `v` and these steps for `u` and `t`.
abbrev pub reads_from_v_to_t : Step → Step → ℕ
reads_from_v_to_t second third =
    plan_reads (key_is_number ∷ third_key_is_number ∷ []) (step.Scan ∷ second ∷ third ∷ []) (rows_of_v ∷ rows_of_u ∷ rows_of_t ∷ [])

-- ---- texts

-- The row of a key, in column 0, and a name, in column 1.
abbrev pub row_named : ℕ → List ℕ → List Value
row_named key name = Int (pos key) ∷ Text name ∷ []

-- Three rows with names. Two of the names have the same first 8 bytes.
abbrev pub rows_of_trees : List (List Value)
rows_of_trees = row_named 1 (codes "oak") ∷ row_named 2 (codes "mountain ash") ∷ row_named 3 (codes "mountain pine") ∷ []

-- Four further rows with names.
abbrev pub rows_of_sites : List (List Value)
rows_of_sites =
    row_named 10 (codes "oak") ∷ row_named 11 (codes "mountain pine") ∷ row_named 12 (codes "mountain elm") ∷ row_named 13 (codes "elm") ∷ []

-- The name compares so with this one.
abbrev pub name_compares : Comparison → List ℕ → Atom FieldPlace
name_compares comparison name = compares 1 comparison (Text name)

-- `b.name = a.name`, where `a` is the first table of FROM.
abbrev pub names_are_equal : Atom FieldPlace
names_are_equal = record { left = record { place = 1; column = 1 }; comparison = Equal; right = Column (record { place = 0; column = 1 }) }

-- The reads of this step for the sites in a query of that table.
abbrev pub reads_of_sites : List (Atom FieldPlace) → Step → ℕ
reads_of_sites atoms own = plan_reads atoms (own ∷ []) (rows_of_sites ∷ [])

-- The reads of a scan of the trees and this step for the sites.
abbrev pub reads_from_trees : Step → ℕ
reads_from_trees further = plan_reads (names_are_equal ∷ []) (step.Scan ∷ further ∷ []) (rows_of_trees ∷ rows_of_sites ∷ [])
