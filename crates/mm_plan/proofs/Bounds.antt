-- The number of combinations in a join.
use Rattle.std.proofs.Common.{◌≡◌, ℕ, zero, suc, ◌*◌, ◌<◌, ◌≤◌, Bool, List, [], ◌∷◌, ◌++◌, Some, length, map, arith}
use Rattle.std.proofs.lemmas.List.{length-append, length-map}
use Rattle.std.proofs.lemmas.List.Sums.{count_by-le-length, length-filter}
use Rattle.mm_join.specs.Joined.{extended, joined}
use Rattle.mm_plan.specs.Begun.{most_combinations}
use Rattle.mm_query.specs.Queries.{none_fails}
use Rattle.mm_query.specs.declared.atom.Atom.{Atom}
use Rattle.mm_query.specs.declared.bound_query.FieldPlace.{FieldPlace}
use Rattle.mm_value.specs.declared.values.Value.{Value}
use Rattle.mm_schema.specs.Rows.{most_rows}

-- There is one for each pair of a combination and a row.
length-extended : (outers : List (List (List Value))) (next : List (List Value)) → length (extended outers next) ≡ length outers * length next
length-extended [] next = omega (arith)
length-extended (outer ∷ outers) next =
    let first = length-append (map (λ row. outer ++ row ∷ []) next) (extended outers next) in
    let as_many = length-map next (λ row. outer ++ row ∷ []) in
    let later = length-extended outers next in
    grind (arith, first, as_many, later)

-- A join contains at most one combination for each pair.
pub length-joined : (atoms : List (Atom FieldPlace)) (outers : List (List (List Value))) (next : List (List Value))
    → length (joined atoms outers next) ≤ length outers * length next
length-joined atoms outers next =
    let fits : List (List Value) → Bool = λ c. none_fails atoms (map Some c) in
    let counted = length-filter fits (extended outers next) in
    let all = count_by-le-length fits (extended outers next) in
    omega (arith, length-extended outers next)

-- There are fewer than 2^64 combinations of at most three tables.
pub few_of_three : (tables found : ℕ) → tables < 3 → found ≤ most_combinations tables → found * most_rows ≤ 18446744073709551615
few_of_three zero found few bounded = omega (arith, bounded)
few_of_three (suc zero) found few bounded = omega (arith, bounded)
few_of_three (suc (suc zero)) found few bounded = omega (arith, bounded)
few_of_three (suc (suc (suc n))) found few bounded = omega (arith, few)
