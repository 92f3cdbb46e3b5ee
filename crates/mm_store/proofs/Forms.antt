-- Tables that keep their columns, their keys and their indexes.
use Rattle.std.proofs.Common.{◌≡◌, ◌≢◌, ℕ, List, get_or, refl, sym, ◌∙◌, subst, ⊎_elim}
use Rattle.std.specs.Prelude.{slice_set}
use Rattle.std.proofs.lemmas.List.{get_or-set_other, get_or-set_same, length-set}
use Rattle.std.proofs.lemmas.Option.{get_or_from_slice_get, slice_get_within}
use Rattle.mm_indexed.specs.Index.{EachTurns, SameIndex}
use Rattle.mm_indexed.specs.Kept.{StoredRows}
use Rattle.mm_indexed.proofs.RefTests.{same_number}
use Rattle.mm_indexed.proofs.Turning.{EachTurns-twice}
use Rattle.mm_store.specs.Tables.{IsAt, SameForm, Tables, Turns}

pub SameForm-refl : (stored : StoredRows) → SameForm stored stored
SameForm-refl stored = record { types = refl; key = refl; indexes = record { size = refl; each = λ k d within. (refl, refl) } }

SameForm-trans : (a b c : StoredRows) → SameForm a b → SameForm b c → SameForm a c
SameForm-trans a b c first second = record {
  types = second.types ∙ first.types;
  key = second.key ∙ first.key;
  indexes =
      EachTurns-twice SameIndex SameIndex SameIndex (λ x y z one two. (two.0 ∙ one.0, two.1 ∙ one.1)) a.indexes b.indexes c.indexes first.indexes
      second.indexes;
}

pub forms_same : (tables : List StoredRows) → EachTurns SameForm tables tables
forms_same tables = record { size = refl; each = λ k d within. SameForm-refl (get_or tables k d) }

pub forms_twice : (a b c : List StoredRows) → EachTurns SameForm a b → EachTurns SameForm b c → EachTurns SameForm a c
forms_twice a b c first second = EachTurns-twice SameForm SameForm SameForm SameForm-trans a b c first second

-- one table was replaced, and all others are unchanged
pub forms_turned : (old new : Tables) (place : ℕ) (was is : StoredRows) → IsAt old place was → Turns old place is new → SameForm was is
    → EachTurns SameForm old.tables new.tables
forms_turned old new place was is there turned form =
    subst (EachTurns SameForm old.tables) (sym turned) (record {
      size = length-set old.tables place is;
      each = λ k d within.
          ⊎_elim
          (λ (same : k ≡ place).
          subst (λ (n : ℕ). SameForm (get_or old.tables n d) (get_or (slice_set old.tables place is) n d)) (sym same)
          (subst (SameForm (get_or old.tables place d)) (sym (get_or-set_same old.tables place is d (slice_get_within old.tables place was there)))
          (subst (λ (s : StoredRows). SameForm s is) (sym (get_or_from_slice_get old.tables place was d there)) form)))
          (λ (apart : k ≢ place).
          subst (SameForm (get_or old.tables k d)) (sym (get_or-set_other old.tables place k is d apart)) (SameForm-refl (get_or old.tables k d)))
          (same_number k place);
    })
