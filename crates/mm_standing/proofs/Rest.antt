-- What remains sound when a bag is added or removed.
use Rattle.std.proofs.Common.{◌≡◌, ℕ, zero, suc, pos, ◌+ℤ◌, ◌≤ℤ◌, ◌≤◌, ◌<◌, ◌⊎◌, inl, inr, ⊎_elim, Result, Ok, Err, OnErr, List, [], ◌∷◌, ◌++◌, length, map}
use Rattle.std.proofs.Common.{get_or, refl, sym, ap}
use Rattle.std.proofs.Common.{◌∙◌, subst, arith}
use Rattle.std.specs.List.{All, remove}
use Rattle.std.proofs.lemmas.Int.{ints}
use Rattle.std.proofs.lemmas.List.{map-append}
use Rattle.mm_value.specs.declared.col_type.ColType.{ColType}
use Rattle.mm_multiset.specs.Counts.{Counts, Entries, count_in, has_entry, total_of}
use Rattle.mm_standing.specs.Bags.{ArePositive, IsLean, IsSound, IsWithin, change_of, done_of, entries_at}
use Rattle.mm_standing.specs.declared.change.ListChange.{ListChange}
use Rattle.mm_standing.specs.Queries.{StandingQuery}
use Rattle.mm_standing.specs.State.{AreOfTypes}
use Rattle.mm_standing.proofs.Dropping.{lean_sound, sound_empty}
use Rattle.mm_standing.proofs.Stages.{nothing_left}
use Rattle.mm_schema.specs.Rows.{most_rows}

-- No changes are those of no entries.
pub none_from : {X Y : Type 0} (f : X → Y) (xs : List X) → map f xs ≡ [] → xs ≡ []
none_from f [] none = refl
none_from f (x ∷ xs) none = absurd (let no : ⊥ = cc in no)

-- If the model of a state has nothing prepared, the state is sound with nothing prepared.
pub none_prepared : (bags : List Counts) (prepared log : List ListChange) → done_of bags prepared ≡ [] → IsSound bags prepared log → IsSound bags [] log
none_prepared bags prepared log none sound =
    subst (λ (ps : List ListChange). IsSound bags ps log) (none_from (change_of bags) prepared none) sound

-- A property also holds if a call fails.
pub anyway : {T E P : Type 0} (r : Result T E) → P → OnErr r P
anyway (Ok x) p = tt
anyway (Err e) p = p

-- An element of a list without one element is at some place of the list with it.
removed_at : {X Y : Type 0} (f : X → Y) (xs : List X) (i k : ℕ) (e : Y) → (j : ℕ) × (get_or (map f (remove xs i)) k e ≡ get_or (map f xs) j e)
removed_at f [] zero k e = (k, refl)
removed_at f [] (suc i) k e = (k, refl)
removed_at f (x ∷ xs) zero k e = (suc k, refl)
removed_at f (x ∷ xs) (suc i) zero e = (zero, refl)
removed_at f (x ∷ xs) (suc i) (suc k) e = let r = removed_at f xs i k e in (suc r.0, r.1)

positive : (n : ℕ) → pos 0 ≤ℤ (pos n +ℤ pos 0)
positive n = omega (arith, ints)

-- After a bag is removed, still no entry has the count 0.
lean_less : (bags : List Counts) (place : ℕ) → IsLean bags [] → IsLean (remove bags place) []
lean_less bags place lean list row has is_0 =
    let r = removed_at (λ (b : Counts). b.entries) bags place list [] in
    lean r.0 row (ap (has_entry row) (sym r.1) ∙ has) (ap (count_in row) (sym r.1) ∙ is_0)

-- A bag can be removed if nothing is prepared and the log is empty.
pub sound_less : (bags : List Counts) (place : ℕ) → IsSound bags [] [] → IsSound (remove bags place) [] []
sound_less bags place sound =
    let old : IsWithin bags [] = nothing_left bags [] sound.undo in
    let left : List Counts = remove bags place in
    let now : IsWithin left [] = record {
      counts = λ list row. positive (count_in row (entries_at left list));
      totals = λ list.
          let r = removed_at (λ (b : Counts). b.entries) bags place list [] in
          subst (λ (es : Entries). (pos (total_of es) +ℤ pos 0) ≤ℤ pos most_rows) (sym r.1) (old.totals r.0);
    } in
    sound_empty left now (lean_less bags place (lean_sound bags [] sound))

removed_from_map : {X Y : Type 0} (f : X → Y) (xs : List X) (i : ℕ) → map f (remove xs i) ≡ remove (map f xs) i
removed_from_map f [] zero = refl
removed_from_map f [] (suc i) = refl
removed_from_map f (x ∷ xs) zero = refl
removed_from_map f (x ∷ xs) (suc i) = ap (λ l. f x ∷ l) (removed_from_map f xs i)

-- The other bags still have the types of their queries' fields.
pub types_less : (queries : List StandingQuery) (bags : List Counts) (place : ℕ) → AreOfTypes queries bags
    → AreOfTypes (remove queries place) (remove bags place)
types_less queries bags place are =
    removed_from_map (λ (b : Counts). b.types) bags place
    ∙ ap (λ (ts : List (List ColType)). remove ts place) are
    ∙ sym (removed_from_map (λ (s : StandingQuery). s.types) queries place)

-- An element of a list with one more element is at the same place without it, or is that element.
pushed_at : {X Y : Type 0} (f : X → Y) (xs : List X) (x : X) (k : ℕ) (e : Y)
    → (get_or (map f (xs ++ x ∷ [])) k e ≡ get_or (map f xs) k e) ⊎ (get_or (map f (xs ++ x ∷ [])) k e ≡ f x)
pushed_at f [] x zero e = inr refl
pushed_at f [] x (suc k) e = inl refl
pushed_at f (y ∷ ys) x zero e = inl refl
pushed_at f (y ∷ ys) x (suc k) e = pushed_at f ys x k e

few : (n : ℕ) → n ≤ most_rows → (pos n +ℤ pos 0) ≤ℤ pos most_rows
few n h = omega (arith, ints)

-- After a bag of counts above 0 is added, still no entry has the count 0.
lean_more : (bags : List Counts) (bag : Counts) → ArePositive bag.entries → IsLean bags [] → IsLean (bags ++ bag ∷ []) []
lean_more bags bag above lean list row has is_0 =
    ⊎_elim
    (λ same. lean list row (ap (has_entry row) (sym same) ∙ has) (ap (count_in row) (sym same) ∙ is_0))
    (λ here.
    let some : 0 < count_in row bag.entries = above row (ap (has_entry row) (sym here) ∙ has) in
    let none : count_in row bag.entries ≡ 0 = ap (count_in row) (sym here) ∙ is_0 in
    absurd (omega (arith, some, none)))
    (pushed_at (λ (b : Counts). b.entries) bags bag list [])

-- A bag of at most 1,048,576 rows can be added if nothing is prepared and the log is empty.
pub sound_more : (bags : List Counts) (bag : Counts) → total_of bag.entries ≤ most_rows → ArePositive bag.entries → IsSound bags [] []
    → IsSound (bags ++ bag ∷ []) [] []
sound_more bags bag fits above sound =
    let old : IsWithin bags [] = nothing_left bags [] sound.undo in
    let all : List Counts = bags ++ bag ∷ [] in
    let now : IsWithin all [] = record {
      counts = λ list row. positive (count_in row (entries_at all list));
      totals = λ list.
          ⊎_elim
          (λ same. subst (λ (es : Entries). (pos (total_of es) +ℤ pos 0) ≤ℤ pos most_rows) (sym same) (old.totals list))
          (λ here. subst (λ (es : Entries). (pos (total_of es) +ℤ pos 0) ≤ℤ pos most_rows) (sym here) (few (total_of bag.entries) fits))
          (pushed_at (λ (b : Counts). b.entries) bags bag list []);
    } in
    sound_empty all now (lean_more bags bag above (lean_sound bags [] sound))

-- A bag that is added with its query has the types of the query's fields.
pub types_more : (queries : List StandingQuery) (bags : List Counts) (standing : StandingQuery) (bag : Counts) → bag.types ≡ standing.types
    → AreOfTypes queries bags → AreOfTypes (queries ++ standing ∷ []) (bags ++ bag ∷ [])
types_more queries bags standing bag own are =
    map-append (λ (b : Counts). b.types) bags (bag ∷ [])
    ∙ (λ i. are i ++ own i ∷ [])
    ∙ sym (map-append (λ (s : StandingQuery). s.types) queries (standing ∷ []))

-- So do those of queries that turn into others with the same types.
pub types_turned : (f : StandingQuery → StandingQuery) → ((standing : StandingQuery) → (f standing).types ≡ standing.types) → (queries : List StandingQuery)
    → map (λ (s : StandingQuery). s.types) (map f queries) ≡ map (λ (s : StandingQuery). s.types) queries
types_turned f same [] = refl
types_turned f same (q ∷ qs) = λ i. same q i ∷ types_turned f same qs i
