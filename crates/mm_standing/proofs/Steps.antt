-- What remains sound when changes are prepared, applied, undone and dropped.
use Rattle.std.proofs.Common.{◌≡◌, ◌≢◌, ℕ, zero, suc, ℤ, pos, neg_ℤ, FitsSigned, ◌+◌, ◌+ℤ◌, ◌-ℤ◌, ◌≤ℤ◌, ◌<◌, ◌≤◌, ◌⊎◌, inl, inr, ⊎_elim, Bool, true, false}
use Rattle.std.proofs.Common.{true≢false, not, cond, ◌||◌, List, [], ◌∷◌, ◌++◌}
use Rattle.std.proofs.Common.{Some, length, map, get_or, set, take, drop, refl, sym, ap, ◌∙◌, subst, append_assoc, arith}
use Rattle.std.specs.Prelude.{◌==◌}
use Rattle.std.specs.List.{All, list_any}
use Rattle.std.proofs.lemmas.Bool.{cases_eq}
use Rattle.std.proofs.lemmas.Int.{fits_signed_from_abs, ints, to_z-of_z}
use mir.Syntax.{w64}
use mir.Val.{of_z, to_z}
use Rattle.mm_multiset.proofs.Entries.{count_within}
use Rattle.std.proofs.lemmas.List.{append-nil, drop-append-le, length_push, map-append}
use Rattle.std.proofs.lemmas.List.Elements.{All-append, All-cons, All-head, All-nil, All-pop, All-push, All-tail, All-weaker}
use Rattle.std.proofs.lemmas.List.Folds.{list_any-append}
use Rattle.mm_value.specs.Equality.{same_row}
use Rattle.mm_value.specs.EqualityLaws.{same_row_equiv}
use Rattle.mm_value.specs.declared.col_type.ColType.{ColType}
use Rattle.mm_value.specs.declared.values.Value.{Value}
use Rattle.mm_partition.specs.Places.{Content, Free, Live, row_in}
use Rattle.mm_multiset.specs.Counts.{Counts, IsEntry, count_in, has_entry, row_at, total_of}
use Rattle.mm_multiset.specs.Counts as bag
use Rattle.mm_multiset.specs.RowHash.{row_hash}
use Rattle.mm_standing.specs.Bags.{AddedTo, AreBased, AreFirst, CanAdd, CanMake, IsLean, IsSound, IsThere, IsWithin, Made}
use Rattle.mm_standing.specs.Bags.{brings_entry, change_of, changes_in, count_with, done_of, entries_at, is_named, names, opposite, row_change}
use Rattle.mm_standing.specs.Bags.{row_of, slots_at, steps_of, sum_over, types_of, undos}
use Rattle.mm_standing.specs.declared.change.ListChange.{ListChange}
use Rattle.mm_standing.specs.declared.change.RowChange.{RowChange}
use Rattle.mm_standing.proofs.Adding.{count_here, total_here}
use Rattle.mm_standing.proofs.Named.{named_is, named_one, none_named, none_summed, not_named}
use Rattle.mm_standing.proofs.Stages.{can_still, can_undo, count_back, count_first, count_moved, last_one, nothing_left}
use Rattle.mm_standing.proofs.Stages.{within_again, within_first, within_still}

-- ---- lists

pub All_left : {X : Type 0} (P : X → Type 0) (xs : List X) (x : X) → All P (xs ++ x ∷ []) → All P xs × P x
All_left P xs x all = All-pop P (xs ++ x ∷ []) xs (Some x) refl all

-- A property of each element of a list holds of those of each part.
pub All_parts : {X : Type 0} (P : X → Type 0) (xs ys : List X) → All P (xs ++ ys) → All P xs × All P ys
All_parts P [] ys all = (All-nil P, all)
All_parts P (x ∷ xs) ys all =
    let r = All_parts P xs ys (All-tail P x (xs ++ ys) all) in
    (All-cons P x xs (All-head P x (xs ++ ys) all) r.0, r.1)

map_same : {X Y : Type 0} (f g : X → Y) (xs : List X) → All (λ (x : X). f x ≡ g x) xs → map f xs ≡ map g xs
map_same f g [] all = refl
map_same {X} f g (x ∷ xs) all = λ i.
    All-head (λ (y : X). f y ≡ g y) x xs all i ∷ map_same f g xs (All-tail (λ (y : X). f y ≡ g y) x xs all) i

map_twice : {X Y Z : Type 0} (f : Y → Z) (g : X → Y) (xs : List X) → map f (map g xs) ≡ map (λ (x : X). f (g x)) xs
map_twice f g [] = refl
map_twice f g (x ∷ xs) = ap (λ l. f (g x) ∷ l) (map_twice f g xs)

pub All_each : {X : Type 0} (P : X → Type 0) → ((x : X) → P x) → (xs : List X) → All P xs
All_each P each xs k d within = each (get_or xs k d)

-- The first elements, without one at the end.
pub take_found : {X : Type 0} (k : ℕ) (xs : List X) (x : X) → (j : ℕ) × (take j (xs ++ x ∷ []) ≡ take k xs)
take_found zero xs x = (zero, refl)
take_found (suc k) [] x = (zero, refl)
take_found (suc k) (y ∷ ys) x = let r = take_found k ys x in (suc r.0, ap (λ l. y ∷ l) r.1)

-- The first elements, with one at the end.
pub take_cases : {X : Type 0} (k : ℕ) (xs : List X) (x : X) → (take k (xs ++ x ∷ []) ≡ take k xs) ⊎ (take k (xs ++ x ∷ []) ≡ xs ++ x ∷ [])
take_cases zero xs x = inl refl
take_cases (suc k) [] x = inr (ap (λ l. x ∷ l) (nothing k))
  where
    nothing : {Y : Type 0} (n : ℕ) → ◌≡◌ {A = List Y} (take n []) []
    nothing zero = refl
    nothing (suc n) = refl
take_cases (suc k) (y ∷ ys) x = ⊎_elim (λ e. inl (ap (λ l. y ∷ l) e)) (λ e. inr (ap (λ l. y ∷ l) e)) (take_cases k ys x)

pub either_left : (a b : Bool) → a ≡ true → a || b ≡ true
either_left true b e = refl
either_left false b e = absurd (true≢false (sym e))

pub either_right : (a b : Bool) → b ≡ true → a || (b || false) ≡ true
either_right true b e = refl
either_right false true e = refl
either_right false false e = absurd (true≢false (sym e))

pub in_front : (a b : Bool) → b ≡ false → a || (b || false) ≡ true → a ≡ true
in_front true b e h = refl
in_front false b e h = absurd (true≢false (sym h ∙ ap (λ c. c || false) e))

-- ---- steps

abbrev pub Step : Type 0
Step = RowChange × Bool

-- The last step is the first of its row if it says so.
pub first_push : (earlier steps : List Step) (step : Step) → AreFirst earlier steps
    → (step.1 ≡ true → is_named step.0.list step.0.change.row (changes_in (earlier ++ steps)) ≡ false) → AreFirst earlier (steps ++ step ∷ [])
first_push earlier [] step first fresh =
    (λ is. ap (λ (l : List Step). is_named step.0.list step.0.change.row (changes_in l)) (sym (append-nil earlier)) ∙ fresh is, tt)
first_push earlier (s ∷ ss) step first fresh = (
  first.0,
  first_push (earlier ++ s ∷ []) ss step first.1
      (λ is. ap (λ (l : List Step). is_named step.0.list step.0.change.row (changes_in l)) (append_assoc earlier (s ∷ []) ss) ∙ fresh is),
)

pub first_pop : (earlier steps : List Step) (step : Step) → AreFirst earlier (steps ++ step ∷ [])
    → AreFirst earlier steps × (step.1 ≡ true → is_named step.0.list step.0.change.row (changes_in (earlier ++ steps)) ≡ false)
first_pop earlier [] step first =
    (tt, λ is. ap (λ (l : List Step). is_named step.0.list step.0.change.row (changes_in l)) (append-nil earlier) ∙ first.0 is)
first_pop earlier (s ∷ ss) step first =
    let rest = first_pop (earlier ++ s ∷ []) ss step first.1 in (
      (first.0, rest.0),
      λ is. ap (λ (l : List Step). is_named step.0.list step.0.change.row (changes_in l)) (sym (append_assoc earlier (s ∷ []) ss)) ∙ rest.1 is,
    )

-- A row whose entry was inserted for a step is named by the step.
pub brought_named : (list : ℕ) (row : List Value) (steps : List Step) → list_any (brings_entry list row) steps ≡ true
    → is_named list row (changes_in steps) ≡ true
brought_named list row [] h = h
brought_named list row (s ∷ ss) h = by s.1 (names list row s.0) (brought_named list row ss) h
  where
    by : (a b : Bool) → (list_any (brings_entry list row) ss ≡ true → is_named list row (changes_in ss) ≡ true)
        → cond a b false || list_any (brings_entry list row) ss ≡ true → b || is_named list row (changes_in ss) ≡ true
    by true true later h = refl
    by true false later h = later h
    by false true later h = refl
    by false false later h = later h

module _ (bags : List Counts) where
  pub steps_push : (cs : List ListChange) (c : ListChange) → steps_of bags (cs ++ c ∷ []) ≡ steps_of bags cs ++ (change_of bags c, c.is_new) ∷ []
  steps_push cs c = map-append (λ (d : ListChange). (change_of bags d, d.is_new)) cs (c ∷ [])

  pub undos_push : (cs : List ListChange) (c : ListChange) → undos bags (cs ++ c ∷ []) ≡ undos bags cs ++ opposite (change_of bags c) ∷ []
  undos_push cs c = map-append (λ (d : ListChange). opposite (change_of bags d)) cs (c ∷ [])

  pub done_push : (cs : List ListChange) (c : ListChange) → done_of bags (cs ++ c ∷ []) ≡ done_of bags cs ++ change_of bags c ∷ []
  done_push cs c = map-append (change_of bags) cs (c ∷ [])

  pub changes_are : (cs : List ListChange) → changes_in (steps_of bags cs) ≡ done_of bags cs
  changes_are cs = map_twice (λ (s : Step). s.0) (λ (d : ListChange). (change_of bags d, d.is_new)) cs

  pub undos_are : (cs : List ListChange) → undos bags cs ≡ map opposite (done_of bags cs)
  undos_are cs = sym (map_twice opposite (change_of bags) cs)

  pub named_undos : (list : ℕ) (row : List Value) (cs : List ListChange) → is_named list row (undos bags cs) ≡ is_named list row (done_of bags cs)
  named_undos list row [] = refl
  named_undos list row (c ∷ cs) = ap (λ b. names list row (change_of bags c) || b) (named_undos list row cs)

-- ---- the same rows in other bags

module _ (old new : List Counts) (cs : List ListChange) (same : All (λ (c : ListChange). row_of new c ≡ row_of old c) cs) where
  change_same : (c : ListChange) → row_of new c ≡ row_of old c → change_of new c ≡ change_of old c
  change_same c e = ap (λ (r : List Value). record { list = c.list; change = record { row = r; count = c.by } }) e

  pub done_still : done_of new cs ≡ done_of old cs
  done_still =
      map_same (change_of new) (change_of old) cs
      (All-weaker (λ (c : ListChange). row_of new c ≡ row_of old c) (λ (c : ListChange). change_of new c ≡ change_of old c) change_same cs same)

  pub undos_still : undos new cs ≡ undos old cs
  undos_still = undos_are new cs ∙ ap (map opposite) done_still ∙ sym (undos_are old cs)

  pub steps_still : steps_of new cs ≡ steps_of old cs
  steps_still =
      map_same (λ (c : ListChange). (change_of new c, c.is_new)) (λ (c : ListChange). (change_of old c, c.is_new)) cs
      (All-weaker (λ (c : ListChange). row_of new c ≡ row_of old c)
      (λ (c : ListChange). ◌≡◌ {A = Step} (change_of new c, c.is_new) (change_of old c, c.is_new)) (λ c e i. (change_same c e i, c.is_new)) cs same)

-- If a slot keeps its contents, its entry exists.
module _ (old new : List Counts) (c : ListChange) (there : IsThere old c) (size : length new ≡ length old) where
  pub slot_same : IsEntry (slots_at new c.list) c.entry (row_of old c) → row_of new c ≡ row_of old c
  slot_same it = ap row_in it.live

  pub there_still : IsEntry (slots_at new c.list) c.entry (row_of old c) → has_entry (row_of old c) (entries_at new c.list) ≡ true → IsThere new c
  there_still it has =
      let same = sym (slot_same it) in record {
        list = omega (arith, there.list, size);
        entry = subst (IsEntry (slots_at new c.list) c.entry) same it;
        has = subst (λ (r : List Value). has_entry r (entries_at new c.list) ≡ true) same has;
      }

-- ---- a change is applied

module _ (c : RowChange) (old new : List Counts) (adds : AddedTo c old new) where
  row_added : (d : ListChange) → row_of new d ≡ row_of old d
  row_added d = ap (λ (ss : List Content). row_at ss d.entry) (adds.slots d.list)

  rows_added : (cs : List ListChange) → All (λ (d : ListChange). row_of new d ≡ row_of old d) cs
  rows_added cs = All_each (λ (d : ListChange). row_of new d ≡ row_of old d) row_added cs

  there_added : (d : ListChange) → IsThere old d → IsThere new d
  there_added d it =
      there_still old new d it adds.size (subst (λ (ss : List Content). IsEntry ss d.entry (row_of old d)) (sym (adds.slots d.list)) it.entry)
      (adds.entries d.list (row_of old d) ∙ it.has)

-- The first prepared change can be applied.
module _ (bags : List Counts) (next : ListChange) (rest log : List ListChange) (sound : IsSound bags (next ∷ rest) log) where
  pub next_there : IsThere bags next
  next_there = All-head (IsThere bags) next rest (All_parts (IsThere bags) log (next ∷ rest) sound.there).1

  pub next_within : IsWithin bags (change_of bags next ∷ [])
  next_within = sound.make 1

  -- The change fits 64 bits.
  pub next_short : to_z w64 (of_z w64 next.by) ≡ next.by
  next_short =
      let few = (nothing_left bags (undos bags log) sound.undo).totals next.list in
      let less = count_within (row_of bags next) (entries_at bags next.list) in
      let count = count_here bags (change_of bags next) next_within in
      let total = total_here bags (change_of bags next) next_within in
      to_z-of_z w64 next.by (fits_signed_from_abs w64 next.by (omega (arith, ints, count, total, few, less)))

-- The change is applied.
module _ (bags bags' : List Counts) (next : ListChange) (rest log : List ListChange) (sound : IsSound bags (next ∷ rest) log)
    (adds : AddedTo (change_of bags next) bags bags') where
  abbrev it : RowChange
  it = change_of bags next

  whole : (log ++ next ∷ []) ++ rest ≡ log ++ (next ∷ rest)
  whole = append_assoc log (next ∷ []) rest

  steps_is : steps_of bags' ((log ++ next ∷ []) ++ rest) ≡ steps_of bags (log ++ (next ∷ rest))
  steps_is = ap (steps_of bags') whole ∙ steps_still bags bags' (log ++ (next ∷ rest)) (rows_added it bags bags' adds (log ++ (next ∷ rest)))

  pub undos_made : undos bags' (log ++ next ∷ []) ≡ undos bags log ++ opposite (change_of bags next) ∷ []
  undos_made = undos_still bags bags' (log ++ next ∷ []) (rows_added it bags bags' adds (log ++ next ∷ [])) ∙ undos_push bags log next

  pub rest_made : done_of bags' rest ≡ done_of bags rest
  rest_made = done_still bags bags' rest (rows_added it bags bags' adds rest)

  make : CanMake bags' (done_of bags' rest)
  make k =
      subst (λ (ds : List RowChange). IsWithin bags' (take k ds)) (sym rest_made)
      (within_first it bags bags' adds (take k (done_of bags rest)) (sound.make (suc k)))

  pub sound_made : IsSound bags' rest (log ++ next ∷ [])
  sound_made = record {
    there = subst (All (IsThere bags')) (sym whole)
        (All-weaker (IsThere bags) (IsThere bags') (there_added it bags bags' adds) (log ++ (next ∷ rest)) sound.there);
    make = make;
    undo = subst (CanAdd bags') (sym undos_made) (can_undo it bags bags' adds (undos bags log) (make 0) sound.undo);
    first = subst (AreFirst []) (sym steps_is) sound.first;
    based = λ list row has is_0.
        subst (λ (s : List Step). list_any (brings_entry list row) s ≡ true) (sym steps_is)
        (sound.based list row (sym (adds.entries list row) ∙ has)
        (sym (count_back it bags bags' adds (undos bags log) list row) ∙ ap (λ (cs : List RowChange). count_with bags' cs list row) (sym undos_made) ∙ is_0));
  }

  length_undos : length (undos bags' (log ++ next ∷ [])) ≡ length (undos bags log) + 1
  length_undos = ap (λ (us : List RowChange). length us) undos_made ∙ length_push (undos bags log) (opposite it)

  pub made_more : (bags0 : List Counts) (prepared0 log0 : List RowChange) → Made bags0 prepared0 log0 bags (done_of bags (next ∷ rest)) (undos bags log)
      → Made bags0 prepared0 log0 bags' (done_of bags' rest) (undos bags' (log ++ next ∷ []))
  made_more bags0 prepared0 log0 made = record {
    counts = λ list row.
        ap (λ (cs : List RowChange). count_with bags' cs list row) rest_made
        ∙ count_first it bags bags' adds (done_of bags rest) list row
        ∙ made.counts list row;
    undone = λ mark within list row.
        ap (λ (us : List RowChange). count_with bags' (drop mark us) list row) undos_made
        ∙ ap (λ (us : List RowChange). count_with bags' us list row)
        (drop-append-le mark (undos bags log) (opposite it ∷ []) (omega (arith, within, made.older)))
        ∙ count_back it bags bags' adds (drop mark (undos bags log)) list row
        ∙ made.undone mark within list row;
    longer = omega (arith, made.longer, length_undos, ap (λ (ds : List RowChange). length ds) rest_made);
    older = omega (arith, made.older, length_undos);
    types = adds.types ∙ made.types;
    feeds = adds.feeds ∙ made.feeds;
    size = adds.size ∙ made.size;
  }

pub made_none : (bags : List Counts) (prepared log : List RowChange) → Made bags prepared log bags prepared log
made_none bags prepared log = record {
  counts = λ list row. refl;
  undone = λ mark within list row. refl;
  longer = refl;
  older = omega arith;
  types = refl;
  feeds = refl;
  size = refl;
}

-- The last logged change can be undone.
module _ (bags : List Counts) (rest : List ListChange) (c : ListChange) (sound : IsSound bags [] (rest ++ c ∷ [])) where
  pub newest_there : IsThere bags c
  newest_there = (All_left (IsThere bags) rest c (subst (All (IsThere bags)) (append-nil (rest ++ c ∷ [])) sound.there)).1

  pub newest_within : IsWithin bags (opposite (change_of bags c) ∷ [])
  newest_within = last_one bags (undos bags rest) (opposite (change_of bags c)) (subst (CanAdd bags) (undos_push bags rest c) sound.undo)

-- If a change can be undone, it and its opposite fit 64 bits.
module _ (bags : List Counts) (c : ListChange) (within : IsWithin bags (opposite (change_of bags c) ∷ [])) (now : IsWithin bags []) where
  pub undo_short : FitsSigned w64 c.by × FitsSigned w64 (neg_ℤ c.by)
  undo_short =
      let few = now.totals c.list in
      let less = count_within (row_of bags c) (entries_at bags c.list) in
      let count = count_here bags (opposite (change_of bags c)) within in
      let total = total_here bags (opposite (change_of bags c)) within in (
        fits_signed_from_abs w64 c.by (omega (arith, ints, count, total, few, less)),
        fits_signed_from_abs w64 (neg_ℤ c.by) (omega (arith, ints, count, total, few, less)),
      )

  -- The number added to undo the change is its opposite.
  pub undo_turned : to_z w64 (of_z w64 (pos 0 -ℤ to_z w64 (of_z w64 c.by))) ≡ neg_ℤ c.by
  undo_turned =
      let inner : pos 0 -ℤ to_z w64 (of_z w64 c.by) ≡ neg_ℤ c.by = ap (λ (z : ℤ). pos 0 -ℤ z) (to_z-of_z w64 c.by undo_short.0) ∙ minus c.by in
      ap (λ (z : ℤ). to_z w64 (of_z w64 z)) inner ∙ to_z-of_z w64 (neg_ℤ c.by) undo_short.1
    where
      minus : (z : ℤ) → pos 0 -ℤ z ≡ neg_ℤ z
      minus z = omega (arith, ints)

-- The change is undone, as if it were prepared and not applied yet.
module _ (bags mid : List Counts) (rest : List ListChange) (c : ListChange) (sound : IsSound bags [] (rest ++ c ∷ []))
    (adds : AddedTo (opposite (change_of bags c)) bags mid) where
  abbrev back : RowChange
  back = opposite (change_of bags c)

  can : CanAdd bags (undos bags rest ++ opposite (change_of bags c) ∷ [])
  can = subst (CanAdd bags) (undos_push bags rest c) sound.undo

  rows_back : (cs : List ListChange) → All (λ (d : ListChange). row_of mid d ≡ row_of bags d) cs
  rows_back cs = rows_added back bags mid adds cs

  pub undos_back : undos mid rest ≡ undos bags rest
  undos_back = undos_still bags mid rest (rows_back rest)

  steps_back : steps_of mid (rest ++ c ∷ []) ≡ steps_of bags ((rest ++ c ∷ []) ++ [])
  steps_back = steps_still bags mid (rest ++ c ∷ []) (rows_back (rest ++ c ∷ [])) ∙ ap (steps_of bags) (sym (append-nil (rest ++ c ∷ [])))

  undo : CanAdd mid (undos mid rest)
  undo = subst (CanAdd mid) (sym undos_back) (can_still back bags mid adds (undos bags rest) can)

  remake : CanMake mid (done_of mid (c ∷ []))
  remake zero = nothing_left mid (undos mid rest) undo
  remake (suc zero) = again
    where
      again : IsWithin mid (done_of mid (c ∷ []))
      again =
          subst (IsWithin mid) (sym (done_still bags mid (c ∷ []) (rows_back (c ∷ []))))
          (within_again (change_of bags c) bags mid adds (nothing_left bags (undos bags rest ++ back ∷ []) can))
  remake (suc (suc k)) = again
    where
      again : IsWithin mid (done_of mid (c ∷ []))
      again =
          subst (IsWithin mid) (sym (done_still bags mid (c ∷ []) (rows_back (c ∷ []))))
          (within_again (change_of bags c) bags mid adds (nothing_left bags (undos bags rest ++ back ∷ []) can))

  pub sound_back : IsSound mid (c ∷ []) rest
  sound_back = record {
    there = All-weaker (IsThere bags) (IsThere mid) (there_added back bags mid adds) (rest ++ c ∷ [])
        (subst (All (IsThere bags)) (append-nil (rest ++ c ∷ [])) sound.there);
    make = remake;
    undo = undo;
    first = subst (AreFirst []) (sym steps_back) sound.first;
    based = λ list row has is_0.
        subst (λ (s : List Step). list_any (brings_entry list row) s ≡ true) (sym steps_back)
        (sound.based list row (sym (adds.entries list row) ∙ has)
        (ap (λ (cs : List RowChange). count_with bags cs list row) (undos_push bags rest c)
        ∙ sym (count_moved back bags mid adds (undos bags rest) list row)
        ∙ ap (λ (cs : List RowChange). count_with mid cs list row) (sym undos_back) ∙ is_0));
  }
