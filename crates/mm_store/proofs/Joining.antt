-- Lists of tables of which one was replaced.
use Rattle.std.proofs.Common.{◌≡◌, ◌≢◌, ℕ, zero, suc, ◌<◌, List, [], ◌∷◌, length, get_or, Some, refl, ap, arith}
use Rattle.std.specs.Prelude.{slice_get, slice_set}
use Rattle.std.proofs.lemmas.Option.{slice_get_read}
use Rattle.mm_indexed.specs.Kept.{StoredRows}

pub one_relation : (a b : StoredRows) → Some a ≡ Some b → a ≡ b
one_relation a b same = cc

-- the table that an index reads
pub at_index : (tables : List StoredRows) (place : ℕ) (stored : StoredRows) → place < length tables → stored ≡ get_or tables place stored
    → slice_get tables place ≡ Some stored
at_index tables place stored within is = slice_get_read tables (length tables) place stored refl within is

-- there is a table at each place
pub some_at : (tables : List StoredRows) (place : ℕ) → place < length tables → (stored : StoredRows) × (slice_get tables place ≡ Some stored)
some_at [] place within = absurd (omega (arith, within))
some_at (t ∷ ts) zero within = (t, refl)
some_at (t ∷ ts) (suc place) within = some_at ts place (omega (arith, within))

pub get_set_same : (tables : List StoredRows) (place : ℕ) (new : StoredRows) → place < length tables → slice_get (slice_set tables place new) place ≡ Some new
get_set_same [] place new within = absurd (omega (arith, within))
get_set_same (t ∷ ts) zero new within = refl
get_set_same (t ∷ ts) (suc place) new within = get_set_same ts place new (omega (arith, within))

pub get_set_other : (tables : List StoredRows) (place other : ℕ) (new : StoredRows) → other ≢ place
    → slice_get (slice_set tables place new) other ≡ slice_get tables other
get_set_other [] place other new apart = refl
get_set_other (t ∷ ts) zero zero new apart = absurd (apart refl)
get_set_other (t ∷ ts) zero (suc other) new apart = refl
get_set_other (t ∷ ts) (suc place) zero new apart = refl
get_set_other (t ∷ ts) (suc place) (suc other) new apart = get_set_other ts place other new (λ same. apart (ap suc same))
