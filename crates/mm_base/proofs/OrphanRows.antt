-- The new rows of a command are those of its table that may refer to no row.
use Rattle.std.proofs.Common.{◌≡◌, ℕ, ◌<◌, ⊎_elim, Bool, true, false, not, ◌||◌, ◌&&◌, cond}
use Rattle.std.proofs.Common.{List, [], ◌∷◌, length, map, get_or, refl, sym, ap, ap₂, ◌∙◌, subst, arith}
use Rattle.std.specs.Prelude.{◌==◌}
use Rattle.std.specs.List.{All, Contains, filter, filter_map, list_any}
use Rattle.std.proofs.lemmas.Bool.{cases_Bool, eqb-true, or_parts}
use Rattle.std.proofs.lemmas.List.{length-map}
use Rattle.std.proofs.lemmas.List.Elements.{All-head, All-tail, Contains-get_or}
use Rattle.std.proofs.lemmas.List.Folds.{list_any-append, list_any_at, list_any_none}
use Rattle.std.proofs.lemmas.List.Sorted.{list_any-IsPermutation}
use Rattle.mm_link.specs.Edited.{coming}
use Rattle.mm_link.specs.Links.{HasTargetRow}
use Rattle.mm_link.specs.Targets.{pair_of}
use Rattle.mm_link.specs.declared.link.Link.{Link}
use Rattle.mm_link.proofs.Coming.{HaveTargets-follows}
use Rattle.mm_link.proofs.Referring.{any-map, refers_same}
use Rattle.mm_row_order.specs.Refs.{HasRow, Slots, row_at}
use Rattle.mm_schema.specs.References.{lacks_target_row, lose_targets, loses_target, refers}
use Rattle.mm_schema.specs.Rows.{Pair, column_cmp, unsorted}
use Rattle.mm_schema.specs.Sorting.{in_order}
use Rattle.mm_schema.specs.declared.reference.Reference.{Reference}
use Rattle.mm_schema.proofs.InOrder.{IsPermutation-in_order}
use Rattle.mm_partition.specs.Places.{Content, Live, row_in}
use Rattle.mm_tables.specs.Commands.{IsCommand}
use Rattle.mm_tables.specs.Edits.{Fits}
use Rattle.mm_tables.specs.Tables.{key_in, keys_of, shape_of, slots_in, slots_of, state_of}
use Rattle.mm_tables.specs.declared.edit.Edit.{Edit}
use Rattle.mm_tables.specs.declared.edit.Edit.TheVariants.{Stage, Insert, Update, Move, Delete}
use Rattle.mm_tables.specs.declared.log_record.LogRecord.{LogRecord}
use Rattle.mm_tables.specs.declared.logged_table.LoggedTable.{LoggedTable}
use Rattle.mm_value.specs.declared.row_ref.RowRef.{RowRef}
use Rattle.mm_value.specs.declared.values.Value.{Value}
use Rattle.mm_base.specs.Bases.{AreLawful, references_of}
use Rattle.mm_base.specs.EditPairs.{edit_pairs, rows_with}
use Rattle.mm_base.specs.Joined.{IsJoined}
use Rattle.mm_base.specs.Orphans.{brings_orphan, finds_orphan, has_orphans, leaves_orphan, makes_orphan, makes_orphans, rows_at}
use Rattle.mm_base.specs.RowLists.{AreSmall, live_references, rows_in}
use Rattle.mm_base.proofs.Changed.{changed_unsorted, some_pairs}
use Rattle.mm_base.proofs.References.{AreReferences-live}

-- ---- tests of lists

pub any_agree : {X : Type 0} (p q : X → Bool) (xs : List X) → All (λ x. p x ≡ q x) xs → list_any p xs ≡ list_any q xs
any_agree p q [] same = refl
any_agree p q (x ∷ xs) same =
    ap₂ (λ (a b : Bool). a || b) (All-head (λ y. p y ≡ q y) x xs same) (any_agree p q xs (All-tail (λ y. p y ≡ q y) x xs same))

any_filter : (p q : List Value → Bool) (xs : List (List Value)) → list_any p xs ≡ false → list_any p (filter q xs) ≡ false
any_filter p q [] none = refl
any_filter p q (x ∷ xs) none =
    let parts = or_parts (p x) (list_any p xs) none in
    elim (q x) as (λ (b : Bool). list_any p (cond b (x ∷ filter q xs) (filter q xs)) ≡ false)
    [ true ↦ ap (λ (b : Bool). b || list_any p (filter q xs)) parts.0 ∙ any_filter p q xs parts.1 | false ↦ any_filter p q xs parts.1 ]

or_false : (b : Bool) → (b || false) ≡ b
or_false true = refl
or_false false = refl

-- ---- the rows of slots

module _ (p : List Value → Bool) (key : ℕ) (now : Slots) where
  -- a test of the rows is one of the references
  pub any_rows : list_any p (rows_in key now) ≡ list_any (λ at. p (row_at now at)) (live_references now)
  any_rows =
      sym (list_any-IsPermutation p (map (row_at now) (live_references now)) (rows_in key now)
      (IsPermutation-in_order (column_cmp key) (map (row_at now) (live_references now))))
      ∙ any-map (row_at now) p (live_references now)

  pub none_rows : AreSmall now → ((at : RowRef) → HasRow now at → p (row_at now at) ≡ false) → list_any p (rows_in key now) ≡ false
  none_rows small fails =
      any_rows
      ∙ list_any_none (λ at. p (row_at now at)) (live_references now)
      (λ k d within.
      fails (get_or (live_references now) k d)
      (((AreReferences-live now small).held (get_or (live_references now) k d)).0 (Contains-get_or (live_references now) k d within)))

  pub some_row : AreSmall now → (at : RowRef) → HasRow now at → p (row_at now at) ≡ true → list_any p (rows_in key now) ≡ true
  some_row small at live passes =
      let here : Contains (live_references now) at = ((AreReferences-live now small).held at).1 live in
      any_rows
      ∙ list_any_at (λ x. p (row_at now x)) (live_references now) here.0 at here.1 (ap (λ (x : RowRef). p (row_at now x)) here.2 ∙ passes)

  -- the new rows of the pairs are those of the edits
  any_coming : (edits : List Edit)
      → list_any p (filter_map (λ (pair : Pair). pair.1) (edit_pairs now edits)) ≡ list_any (λ e. list_any p (coming now e)) edits
  any_coming [] = refl
  any_coming (Stage r ∷ es) = any_coming es
  any_coming (Insert r ∷ es) = ap₂ (λ (a b : Bool). a || b) (sym (or_false (p (row_at now r)))) (any_coming es)
  any_coming (Update a b ∷ es) = ap₂ (λ (x y : Bool). x || y) (sym (or_false (p (row_at now b)))) (any_coming es)
  any_coming (Move a b ∷ es) = ap₂ (λ (x y : Bool). x || y) (sym (or_false (p (row_at now b)))) (any_coming es)
  any_coming (Delete r ∷ es) = any_coming es

  -- a test that no row passes now has the same result for the rows after the edits as for the new ones
  pub any_with : (edits : List Edit) → IsCommand key edits now → list_any p (rows_in key now) ≡ false
      → list_any p (rows_with key now edits) ≡ list_any (λ e. list_any p (coming now e)) edits
  any_with [] command none = none
  any_with (e ∷ es) command none =
      let pairs : List Pair = edit_pairs now (e ∷ es) in
      let rows : List (List Value) = unsorted key pairs (rows_in key now) in
      ap (list_any p)
      (changed_unsorted key pairs (rows_in key now) (some_pairs key now e es (All-head (Fits key now) e es command.fits)))
      ∙ (sym (list_any-IsPermutation p rows (in_order (column_cmp key) rows) (IsPermutation-in_order (column_cmp key) rows))
      ∙ (list_any-append p _ (filter_map (λ (pair : Pair). pair.1) pairs)
      ∙ (ap (λ (b : Bool). b || list_any p (filter_map (λ (pair : Pair). pair.1) pairs)) (any_filter p _ (rows_in key now) none)
      ∙ any_coming (e ∷ es))))

-- ---- rows that refer to no row

-- a row with a target does not lack one
lacks_none : (column key : ℕ) (then : Slots) (row : List Value) → AreSmall then → HasTargetRow column key then row
    → lacks_target_row column key (rows_in key then) row ≡ false
lacks_none column key then row small (at, refers_to) =
    ap not (some_row (refers column key row) key then small at refers_to.live (refers_same column key row (row_at then at) refers_to.same))

live_row : (now : Slots) (at : RowRef) (live : HasRow now at) → now at ≡ Live (row_at now at)
live_row now at live = live.1 ∙ ap (λ (c : Content). Live (row_in c)) (sym live.1)

module _ (tables : List LoggedTable) (log : List LogRecord) (lawful : AreLawful (keys_of tables) (state_of tables)) (table : ℕ)
    (within : table < length tables) (edits : List Edit) (command : IsCommand (key_in tables table) edits (slots_in tables table)) where
  small_at : (t : ℕ) → t < length tables → AreSmall (slots_in tables t)
  small_at t inside = (lawful t (omega (arith, inside, length-map tables slots_of))).small

  same_orphan : (link : Link) → IsJoined tables log link
      → brings_orphan tables table edits link.reference
      ≡ finds_orphan tables table (rows_with (key_in tables table) (slots_in tables table) edits) link.reference
  same_orphan link joined =
      let r : Reference = link.reference in
      let p : List Value → Bool = lacks_target_row r.column (key_in tables r.to) (rows_at tables r.to) in
      let inside : r.from < length tables = omega (arith, joined.between.from, length-map tables shape_of) in
      let below : r.to < length tables = omega (arith, inside, joined.between.to) in
      ⊎_elim
      (λ (is : (r.from == table) ≡ true).
      let same : r.from ≡ table = eqb-true r.from table is in
      let none : list_any p (rows_at tables table) ≡ false =
      subst (λ (n : ℕ). list_any p (rows_at tables n) ≡ false) same
      (none_rows p (key_in tables r.from) (slots_in tables r.from) (small_at r.from inside)
      (λ at live.
      lacks_none r.column (key_in tables r.to) (slots_in tables r.to) (row_at (slots_in tables r.from) at) (small_at r.to below)
      (HaveTargets-follows r.column (key_in tables r.to) (slots_in tables r.to) (slots_in tables r.from) link.ties joined.follows at
      (row_at (slots_in tables r.from) at) (live_row (slots_in tables r.from) at live)))) in
      ap (λ (b : Bool). (r.from == table) && b)
      (ap (λ (n : ℕ). list_any (λ e. list_any p (coming (slots_in tables n) e)) edits) same
      ∙ sym (any_with p (key_in tables table) (slots_in tables table) edits command none)))
      (λ (is : (r.from == table) ≡ false).
      ap (λ (b : Bool). b && list_any (λ e. list_any p (coming (slots_in tables r.from) e)) edits) is
      ∙ sym (ap (λ (b : Bool). b && list_any p (rows_with (key_in tables table) (slots_in tables table) edits)) is))
      (cases_Bool (r.from == table))

  pub orphans_found : (links : List Link) → All (IsJoined tables log) links
      → list_any (λ link. brings_orphan tables table edits link.reference) links
      ≡ has_orphans tables (references_of links) table (rows_with (key_in tables table) (slots_in tables table) edits)
  orphans_found links joined =
      any_agree _ _ links (λ k d inside. same_orphan (get_or links k d) (joined k d inside))
      ∙ sym (any-map (λ (link : Link). link.reference)
      (finds_orphan tables table (rows_with (key_in tables table) (slots_in tables table) edits)) links)

-- ---- referenced rows

any_pairs : (column key : ℕ) (rows : List (List Value)) (now : Slots) (edits : List Edit)
    → list_any (λ e. loses_target column key rows (pair_of now e).0 (pair_of now e).1) edits ≡ lose_targets column key rows (edit_pairs now edits)
any_pairs column key rows now [] = refl
any_pairs column key rows now (Stage r ∷ es) = any_pairs column key rows now es
any_pairs column key rows now (Insert r ∷ es) = any_pairs column key rows now es
any_pairs column key rows now (Update a b ∷ es) =
    ap (λ (x : Bool). loses_target column key rows (pair_of now (Update a b)).0 (pair_of now (Update a b)).1 || x) (any_pairs column key rows now es)
any_pairs column key rows now (Move a b ∷ es) =
    ap (λ (x : Bool). loses_target column key rows (pair_of now (Move a b)).0 (pair_of now (Move a b)).1 || x) (any_pairs column key rows now es)
any_pairs column key rows now (Delete r ∷ es) =
    ap (λ (x : Bool). loses_target column key rows (pair_of now (Delete r)).0 (pair_of now (Delete r)).1 || x) (any_pairs column key rows now es)

module _ (tables : List LoggedTable) (table : ℕ) (edits : List Edit) where
  same_loss : (r : Reference) → leaves_orphan tables table edits r ≡ makes_orphan tables table (edit_pairs (slots_in tables table) edits) r
  same_loss r =
      let loses : ℕ → Bool = λ n. lose_targets r.column (key_in tables n) (rows_at tables r.from) (edit_pairs (slots_in tables n) edits) in
      ap (λ (b : Bool). (r.to == table) && b) (any_pairs r.column (key_in tables r.to) (rows_at tables r.from) (slots_in tables r.to) edits)
      ∙ ⊎_elim
      (λ (is : (r.to == table) ≡ true). ap (λ (n : ℕ). (r.to == table) && loses n) (eqb-true r.to table is))
      (λ (is : (r.to == table) ≡ false). ap (λ (b : Bool). b && loses r.to) is ∙ sym (ap (λ (b : Bool). b && loses table) is))
      (cases_Bool (r.to == table))

  pub losses_found : (links : List Link)
      → list_any (λ link. leaves_orphan tables table edits link.reference) links
      ≡ makes_orphans tables (references_of links) table (edit_pairs (slots_in tables table) edits)
  losses_found links =
      any_agree _ _ links (λ k d inside. same_loss (get_or links k d).reference)
      ∙ sym (any-map (λ (link : Link). link.reference) (makes_orphan tables table (edit_pairs (slots_in tables table) edits)) links)
