-- Rows that lack the value that an equality requires complete nothing.
use Rattle.std.proofs.Common.{◌≡◌, ℕ, ◌<◌, Bool, true, false, cond, ◌&&◌, Option, Some, None, List, [], ◌∷◌, get_or, set, length, map, refl, sym, ap, ◌∙◌}
use Rattle.std.specs.List.{flat_map}
use Rattle.mm_query.specs.Atoms.{holds}
use Rattle.mm_query.specs.Choosing.{first_there}
use Rattle.mm_query.specs.Queries.{Partial, none_fails, value_at, values_of}
use Rattle.mm_query.specs.declared.atom.Atom.{Atom}
use Rattle.mm_query.specs.declared.bound_query.BoundQuery.{BoundQuery}
use Rattle.mm_query.specs.declared.bound_query.FieldPlace.{FieldPlace}
use Rattle.mm_delta.specs.Candidates.{Required, asked_by, having, passes, required}
use Rattle.mm_delta.specs.Walk.{found}
use Rattle.mm_delta.proofs.Found.{Row, Rows}
use Rattle.mm_delta.proofs.Asked.{meets}
use Rattle.mm_delta.proofs.Lists.{flat_map-filter}

module _ (indexed : ℕ → Bool) (m : Partial) (j : ℕ) (x : Row) (vacant : get_or m j None ≡ None) (inside : j < length m) where
  abbrev more : Partial
  more = set m j (Some x)

  first_false : (a : Atom FieldPlace) (atoms : List (Atom FieldPlace)) (o : Option Required) → asked_by indexed j m a a.comparison ≡ o
      → passes (first_there (o ∷ map (λ (b : Atom FieldPlace). asked_by indexed j m b b.comparison) atoms)) x ≡ false
      → (passes (required indexed atoms m j) x ≡ false → none_fails atoms more ≡ false)
      → (holds (value_at more) a && none_fails atoms more) ≡ false
  first_false a atoms (Some r) e lacks rest = ap (λ b. b && none_fails atoms more) (sym (meets indexed m j x inside vacant a a.comparison r e) ∙ lacks)
  first_false a atoms None e lacks rest = and_false (holds (value_at more) a) _ (rest lacks)
    where
      and_false : (a b : Bool) → b ≡ false → (a && b) ≡ false
      and_false true b h = h
      and_false false b h = refl

  -- A row without the required value makes an atom false.
  pub required_false : (atoms : List (Atom FieldPlace)) → passes (required indexed atoms m j) x ≡ false → none_fails atoms more ≡ false
  required_false [] lacks = cc
  required_false (a ∷ atoms) lacks = first_false a atoms (asked_by indexed j m a a.comparison) refl lacks (required_false atoms)

pub found_none : (q : BoundQuery) (rows : ℕ → Rows) (js : List ℕ) (m : Partial) → none_fails q.atoms m ≡ false → found q rows js m ≡ []
found_none q rows [] m h = ap (λ b. cond b (values_of q.fields m ∷ []) []) h
found_none q rows (j ∷ js) m h = ap (λ b. cond b (flat_map (λ x. found q rows js (set m j (Some x))) (rows j)) []) h

-- Only the rows with the required value must be read.
pub found_having : (indexed : ℕ → Bool) (q : BoundQuery) (rows : ℕ → Rows) (j : ℕ) (js : List ℕ) (m : Partial) → get_or m j None ≡ None → j < length m
    → (xs : Rows) → flat_map (λ x. found q rows js (set m j (Some x))) (having (required indexed q.atoms m j) xs)
    ≡ flat_map (λ x. found q rows js (set m j (Some x))) xs
found_having indexed q rows j js m vacant inside xs =
    flat_map-filter _ (passes (required indexed q.atoms m j)) xs
    (λ x lacks. found_none q rows js (set m j (Some x)) (required_false indexed m j x vacant inside q.atoms lacks))
