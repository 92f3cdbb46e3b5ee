-- The terms of a change: the contribution of each place of FROM (the expansion of Blakeley, Larson and Tompa).
use Rattle.std.specs.Prelude.{ℕ, suc, ℤ, List, [], ◌∷◌, ◌++◌, drop, get_or, map, take}
use Rattle.mm_value.specs.declared.values.Value.{Value}
use Rattle.mm_delta.specs.Change.{change_between}
use Rattle.mm_query.specs.declared.bound_query.BoundQuery.{BoundQuery}
use Rattle.mm_query.specs.declared.query.FromItem.{FromItem}

-- The names of the tables of FROM.
abbrev pub names_of : BoundQuery → List (List ℕ)
names_of query = map (λ (item : FromItem). item.table) query.from

-- The rows after a change at the places before one, some edited rows at that one, and the rows before the change at the places after it.
abbrev pub lists_around : {T : Type 0} → T → (T → List (List Value)) → (T → List (List Value)) → (T → List (List Value)) → List T → ℕ → List (List (List Value))
lists_around missing after edited before from k =
    map after (take k from) ++ edited (get_or from k missing) ∷ map before (drop (suc k) from)

-- The contribution of a place of FROM to the change of a row's count: each combination with a new row at the place counts plus one, each
-- with a deleted row minus one.
abbrev pub term : BoundQuery → (List ℕ → List (List Value)) → (List ℕ → List (List Value)) → (List ℕ → List (List Value)) → (List ℕ → List (List Value)) → ℕ
    → List Value → ℤ
term query before after gone come k row =
    change_between query (lists_around [] after gone before (names_of query) k) (lists_around [] after come before (names_of query) k) row
