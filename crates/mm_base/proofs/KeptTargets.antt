-- Edits that only delete rows leave no row without its target.
use Rattle.std.proofs.Common.{◌≡◌, ℕ, ◌<◌, Bool, true, false, ◌&&◌, ◌||◌, List, [], ◌∷◌, None, length, refl, sym, ap, ap₂, ◌∙◌}
use Rattle.std.specs.Prelude.{◌==◌}
use Rattle.std.specs.List.{All, list_any}
use Rattle.std.proofs.lemmas.List.Elements.{All-head, All-tail}
use Rattle.mm_link.specs.Edited.{coming}
use Rattle.mm_link.specs.declared.link.Link.{Link}
use Rattle.mm_row_order.specs.Refs.{Slots}
use Rattle.mm_schema.specs.References.{lacks_target_row}
use Rattle.mm_schema.specs.declared.reference.Reference.{Reference}
use Rattle.mm_tables.specs.Commands.{IsCommand}
use Rattle.mm_tables.specs.Edits.{came_by}
use Rattle.mm_tables.specs.Tables.{Stored, key_in, slots_in}
use Rattle.mm_tables.specs.declared.edit.Edit.{Edit}
use Rattle.mm_tables.specs.declared.edit.Edit.TheVariants.{Stage, Insert, Update, Move, Delete}
use Rattle.mm_tables.specs.declared.logged_table.LoggedTable.{LoggedTable}
use Rattle.mm_value.specs.declared.values.Value.{Value}
use Rattle.mm_base.specs.Bases.{IsSound, references_of, rows_made}
use Rattle.mm_base.specs.Orphans.{brings_orphan, has_orphans, rows_at}
use Rattle.mm_base.proofs.OrphanRows.{orphans_found}

none_coming : (now : Slots) (e : Edit) → came_by e ≡ None → coming now e ≡ []
none_coming now (Stage r) none = refl
none_coming now (Insert r) none = let no : ⊥ = cc in absurd no
none_coming now (Update a b) none = let no : ⊥ = cc in absurd no
none_coming now (Move a b) none = let no : ⊥ = cc in absurd no
none_coming now (Delete r) none = refl

none_lacking : (p : List Value → Bool) (now : Slots) (edits : List Edit) → All (λ e. came_by e ≡ None) edits
    → list_any (λ e. list_any p (coming now e)) edits ≡ false
none_lacking p now [] only = refl
none_lacking p now (e ∷ es) only =
    ap₂ (λ (a b : Bool). a || b) (ap (list_any p) (none_coming now e (All-head (λ x. came_by x ≡ None) e es only)))
    (none_lacking p now es (All-tail (λ x. came_by x ≡ None) e es only))

and_false : (b : Bool) → (b && false) ≡ false
and_false true = refl
and_false false = refl

module _ (tables : List LoggedTable) (t : ℕ) (edits : List Edit) (only : All (λ e. came_by e ≡ None) edits) where
  none_brought : (r : Reference) → brings_orphan tables t edits r ≡ false
  none_brought r =
      ap (λ (b : Bool). (r.from == t) && b)
      (none_lacking (lacks_target_row r.column (key_in tables r.to) (rows_at tables r.to)) (slots_in tables r.from) edits only)
      ∙ and_false (r.from == t)

  no_links_brought : (links : List Link) → list_any (λ link. brings_orphan tables t edits link.reference) links ≡ false
  no_links_brought [] = refl
  no_links_brought (link ∷ links) = ap₂ (λ (a b : Bool). a || b) (none_brought link.reference) (no_links_brought links)

pub targets_if_deleted : (s : Stored) (links : List Link) → IsSound s links → (t : ℕ) → t < length s.tables → (edits : List Edit)
    → IsCommand (key_in s.tables t) edits (slots_in s.tables t) → All (λ e. came_by e ≡ None) edits
    → has_orphans s.tables (references_of links) t (rows_made s t edits) ≡ false
targets_if_deleted s links sound t within edits command only =
    sym (orphans_found s.tables s.log sound.lawful t within edits command links sound.joined) ∙ no_links_brought s.tables t edits only links
