-- The contents of the bags after one of them is replaced.
use Rattle.std.proofs.Common.{◌≡◌, ◌≢◌, ℕ, zero, suc, ℤ, pos, ◌-◌, ◌+ℤ◌, ◌≤◌, ◌<◌, ◌≤ℤ◌, ◌<ℤ◌, ◌^◌, ◌⊎◌, inl, inr, ⊎_elim, Bool, true, false, true≢false, not}
use Rattle.std.proofs.Common.{cond, List, [], ◌∷◌, None, length, map, get_or, set, refl, sym, ap, ◌∙◌, subst, arith}
use Rattle.std.specs.Prelude.{◌==◌}
use Rattle.std.proofs.lemmas.Int.{ints}
use Rattle.std.proofs.lemmas.Bool.{eq-eqb, eqb-true}
use Rattle.std.proofs.lemmas.List.{length-set}
use Rattle.std.proofs.Math.Seq.{map-set_same}
use Rattle.mm_value.specs.Equality.{same_row}
use Rattle.mm_value.specs.EqualityLaws.{same_row_equiv}
use Rattle.mm_value.specs.declared.col_type.ColType.{ColType}
use Rattle.mm_value.specs.declared.values.Value.{Value}
use Rattle.mm_multiset.specs.Counts.{Adds, Counts, Entries, IsEntry, MayFree, count_in, has_entry, row_at, signed_count, total_of}
use Rattle.mm_multiset.specs.Counts as bag
use Rattle.mm_multiset.specs.declared.entry_ref.EntryRef.{EntryRef}
use Rattle.mm_partition.specs.Places.{Free}
use Rattle.mm_standing.specs.Bags.{AddedTo, AreSame, IsWithin, Purged, Puts, change_of, entries_at, list_change, names, row_change, row_of, slots_at}
use Rattle.mm_standing.specs.Bags.{IsFeedOf, feed_at, feeds_of, held_at, types_at, types_of}
use Rattle.mm_standing.specs.declared.change.ListChange.{ListChange}
use Rattle.mm_standing.specs.declared.change.RowChange.{RowChange}
use Rattle.mm_schema.specs.Rows.{most_rows}

pub at_map : {X Y : Type 0} (f : X → Y) (xs : List X) (i : ℕ) (d : X) (e : Y) → i < length xs → get_or (map f xs) i e ≡ f (get_or xs i d)
at_map f [] i d e h = absurd (omega (arith, h))
at_map f (x ∷ xs) zero d e h = refl
at_map f (x ∷ xs) (suc i) d e h = at_map f xs i d e (omega (arith, h))

pub set_here : {X Y : Type 0} (f : X → Y) (xs : List X) (i : ℕ) (y : X) (e : Y) → i < length xs → get_or (map f (set xs i y)) i e ≡ f y
set_here f [] i y e h = absurd (omega (arith, h))
set_here f (x ∷ xs) zero y e h = refl
set_here f (x ∷ xs) (suc i) y e h = set_here f xs i y e (omega (arith, h))

pub set_other : {X Y : Type 0} (f : X → Y) (xs : List X) (i j : ℕ) (y : X) (e : Y) → j ≢ i → get_or (map f (set xs i y)) j e ≡ get_or (map f xs) j e
set_other f [] i j y e apart = refl
set_other f (x ∷ xs) zero zero y e apart = absurd (apart refl)
set_other f (x ∷ xs) zero (suc j) y e apart = refl
set_other f (x ∷ xs) (suc i) zero y e apart = refl
set_other f (x ∷ xs) (suc i) (suc j) y e apart = set_other f xs i j y e (λ same. apart (ap suc same))

pub not_same : (i j : ℕ) → (i == j) ≡ false → j ≢ i
not_same i j e same = true≢false (sym (eq-eqb i j (sym same)) ∙ e)

none_more : (a : ℤ) → a ≡ a +ℤ pos 0
none_more a = omega (arith, ints)

pub eq_itself : (n : ℕ) → (n == n) ≡ true
eq_itself n = eq-eqb n n refl

-- What holds at one place and at each other one holds at each place.
each_place : (at : ℕ) (P : ℕ → Type 0) → P at → ((list : ℕ) → (at == list) ≡ false → P list) → (list : ℕ) → P list
each_place at P here other list = by (at == list) refl
  where
    by : (b : Bool) → (at == list) ≡ b → P list
    by true e = subst P (eqb-true at list e) here
    by false e = other list e

-- A bag is replaced.
module _ (bags : List Counts) (at : ℕ) (b0 b1 : Counts) (there : at < length bags) (is : b0 ≡ get_or bags at b0) where
  pub entries_here : entries_at bags at ≡ b0.entries
  entries_here = at_map (λ (b : Counts). b.entries) bags at b0 [] there ∙ ap (λ (b : Counts). b.entries) (sym is)

  pub slots_here : slots_at bags at ≡ b0.slots
  slots_here = at_map (λ (b : Counts). b.slots) bags at b0 [] there ∙ ap (λ (b : Counts). b.slots) (sym is)

  pub types_here : types_at bags at ≡ b0.types
  types_here = at_map (λ (b : Counts). b.types) bags at b0 [] there ∙ ap (λ (b : Counts). b.types) (sym is)

  -- The types of all bags are unchanged if those of the bag are.
  pub types_kept : b1.types ≡ b0.types → types_of (set bags at b1) ≡ types_of bags
  types_kept same = map-set_same (λ (b : Counts). b.types) bags at b1 b0 (same ∙ ap (λ (b : Counts). b.types) is)

  -- What was told of all bags is unchanged if it is of the bag.
  pub feeds_kept : b1.feed ≡ b0.feed → feeds_of (set bags at b1) ≡ feeds_of bags
  feeds_kept same = map-set_same (λ (b : Counts). b.feed) bags at b1 b0 (same ∙ ap (λ (b : Counts). b.feed) is)

  pub feed_here : feed_at bags at ≡ b0.feed
  feed_here = at_map (λ (b : Counts). b.feed) bags at b0 None there ∙ ap (λ (b : Counts). b.feed) (sym is)

  pub held_here : held_at bags at ≡ b0.held
  held_here = at_map (λ (b : Counts). b.held) bags at b0 [] there ∙ ap (λ (b : Counts). b.held) (sym is)

  pub new_feed : feed_at (set bags at b1) at ≡ b1.feed
  new_feed = set_here (λ (b : Counts). b.feed) bags at b1 None there

  pub new_held : held_at (set bags at b1) at ≡ b1.held
  new_held = set_here (λ (b : Counts). b.held) bags at b1 [] there

  pub other_feeds : IsFeedOf at bags (set bags at b1)
  other_feeds list apart = set_other (λ (b : Counts). b.feed) bags at list b1 None apart

  new_entries : entries_at (set bags at b1) at ≡ b1.entries
  new_entries = set_here (λ (b : Counts). b.entries) bags at b1 [] there

  new_slots : slots_at (set bags at b1) at ≡ b1.slots
  new_slots = set_here (λ (b : Counts). b.slots) bags at b1 [] there

  other_entries : (list : ℕ) → (at == list) ≡ false → entries_at (set bags at b1) list ≡ entries_at bags list
  other_entries list apart = set_other (λ (b : Counts). b.entries) bags at list b1 [] (not_same at list apart)

  other_slots : (list : ℕ) → (at == list) ≡ false → slots_at (set bags at b1) list ≡ slots_at bags list
  other_slots list apart = set_other (λ (b : Counts). b.slots) bags at list b1 [] (not_same at list apart)

  -- A value that is unchanged in the bag is unchanged in each.
  unchanged : {X : Type 0} (g : Entries → X) → g b1.entries ≡ g b0.entries → (list : ℕ)
      → g (entries_at (set bags at b1) list) ≡ g (entries_at bags list)
  unchanged g same =
      each_place at (λ list. g (entries_at (set bags at b1) list) ≡ g (entries_at bags list)) (ap g new_entries ∙ same ∙ ap g (sym entries_here))
      (λ list apart. ap g (other_entries list apart))

-- One bag has the same entries in the same slots.
pub same_bags : (bags : List Counts) (at : ℕ) (b0 b1 : Counts) → at < length bags → b0 ≡ get_or bags at b0 → b1.entries ≡ b0.entries → b1.slots ≡ b0.slots
    → b1.types ≡ b0.types → AreSame bags (set bags at b1)
same_bags bags at b0 b1 there is entries slots types = record {
  entries = unchanged bags at b0 b1 there is (λ es. es) entries;
  slots = each_place at (λ l. slots_at (set bags at b1) l ≡ slots_at bags l)
      (new_slots bags at b0 b1 there is ∙ slots ∙ sym (slots_here bags at b0 b1 there is)) (other_slots bags at b0 b1 there is);
  types = types_kept bags at b0 b1 there is types;
  size = length-set bags at b1;
}

-- A change that is applied to one bag.
module _ (bags : List Counts) (c : RowChange) (b0 b1 : Counts) (there : c.list < length bags) (is : b0 ≡ get_or bags c.list b0) where
  abbrev after : List Counts
  after = set bags c.list b1

  pub added : Adds c.change b0.entries b1.entries → pos (total_of b1.entries) ≡ pos (total_of b0.entries) +ℤ c.change.count
      → ((row : List Value) → has_entry row b1.entries ≡ has_entry row b0.entries) → b1.slots ≡ b0.slots → b1.types ≡ b0.types → b1.feed ≡ b0.feed
      → AddedTo c bags after
  added adds total same slots types feed = record {
    counts = λ list row. each_place c.list
        (λ l. pos (count_in row (entries_at after l)) ≡ pos (count_in row (entries_at bags l)) +ℤ row_change l row c)
        (ap (λ es. pos (count_in row es)) (new_entries bags c.list b0 b1 there is) ∙ adds.counts row
        ∙ (λ i. pos (count_in row (sym (entries_here bags c.list b0 b1 there is) i))
        +ℤ cond (sym (eq_itself c.list) i) (signed_count row (c.change ∷ [])) (pos 0)))
        (λ l apart. ap (λ es. pos (count_in row es)) (other_entries bags c.list b0 b1 there is l apart) ∙ none_more (pos (count_in row (entries_at bags l)))
        ∙ ap (λ b. pos (count_in row (entries_at bags l)) +ℤ cond b (signed_count row (c.change ∷ [])) (pos 0)) (sym apart)) list;
    totals = each_place c.list
        (λ l. pos (total_of (entries_at after l)) ≡ pos (total_of (entries_at bags l)) +ℤ list_change l c)
        (ap (λ es. pos (total_of es)) (new_entries bags c.list b0 b1 there is) ∙ total
        ∙ (λ i. pos (total_of (sym (entries_here bags c.list b0 b1 there is) i)) +ℤ cond (sym (eq_itself c.list) i) c.change.count (pos 0)))
        (λ l apart. ap (λ es. pos (total_of es)) (other_entries bags c.list b0 b1 there is l apart) ∙ none_more (pos (total_of (entries_at bags l)))
        ∙ ap (λ b. pos (total_of (entries_at bags l)) +ℤ cond b c.change.count (pos 0)) (sym apart));
    entries = λ list row. unchanged bags c.list b0 b1 there is (has_entry row) (same row) list;
    slots = each_place c.list (λ l. slots_at after l ≡ slots_at bags l)
        (new_slots bags c.list b0 b1 there is ∙ slots ∙ sym (slots_here bags c.list b0 b1 there is)) (other_slots bags c.list b0 b1 there is);
    types = types_kept bags c.list b0 b1 there is types;
    feeds = feeds_kept bags c.list b0 b1 there is feed;
    size = length-set bags c.list b1;
  }

-- An entry that is removed if its count is 0.
module _ (bags : List Counts) (c : ListChange) (b0 b1 : Counts) (there : c.list < length bags) (is : b0 ≡ get_or bags c.list b0) where
  abbrev left : List Counts
  left = set bags c.list b1

  row_is : row_of bags c ≡ row_at b0.slots c.entry
  row_is = ap (λ ss. row_at ss c.entry) (slots_here bags c.list b0 b1 there is)

  has_now : (row : List Value) → has_entry row (entries_at left c.list) ≡ has_entry row b1.entries
  has_now row = ap (has_entry row) (new_entries bags c.list b0 b1 there is)

  had : (row : List Value) → has_entry row (entries_at bags c.list) ≡ has_entry row b0.entries
  had row = ap (has_entry row) (entries_here bags c.list b0 b1 there is)

  pub purged : ((row : List Value) → count_in row b1.entries ≡ count_in row b0.entries) → total_of b1.entries ≡ total_of b0.entries
      → (bag.IsThere b0.slots c.entry → count_in (row_at b0.slots c.entry) b0.entries ≡ 0 → has_entry (row_at b0.slots c.entry) b1.entries ≡ false)
      → ((row : List Value) → has_entry row b1.entries ≡ true → has_entry row b0.entries ≡ true)
      → ((row : List Value) → same_row (row_at b0.slots c.entry) row ≡ false → has_entry row b1.entries ≡ has_entry row b0.entries)
      → MayFree c.entry b0 b1 → b1.types ≡ b0.types → b1.feed ≡ b0.feed → Purged c bags left
  purged counts total goes others beside slots types feed = record {
    counts = λ list row. unchanged bags c.list b0 b1 there is (count_in row) (counts row) list;
    totals = unchanged bags c.list b0 b1 there is total_of total;
    gone = λ it is_0.
        has_now (row_of bags c) ∙ ap (λ r. has_entry r b1.entries) row_is
        ∙ goes (subst (λ ss. bag.IsThere ss c.entry) (slots_here bags c.list b0 b1 there is) it.entry)
        ((λ i. count_in (sym row_is i) (sym (entries_here bags c.list b0 b1 there is) i)) ∙ is_0);
    others = λ list row. each_place c.list (λ l. has_entry row (entries_at left l) ≡ true → has_entry row (entries_at bags l) ≡ true)
        (λ has. had row ∙ others row (sym (has_now row) ∙ has))
        (λ l apart has. ap (has_entry row) (sym (other_entries bags c.list b0 b1 there is l apart)) ∙ has) list;
    beside = λ list row. each_place c.list
        (λ l. names l row (change_of bags c) ≡ false → has_entry row (entries_at left l) ≡ has_entry row (entries_at bags l))
        (λ apart. has_now row
        ∙ beside row (ap (λ r. same_row r row) (sym row_is) ∙ same_row_equiv.symm (row_of bags c) row
        ∙ sym (ap (λ a. cond a (same_row row (row_of bags c)) false) (eq_itself c.list)) ∙ apart)
        ∙ sym (had row))
        (λ l apart named. ap (has_entry row) (other_entries bags c.list b0 b1 there is l apart)) list;
    slots = each_place c.list
        (λ l. (slots_at left l ≡ slots_at bags l)
        ⊎ ((c.list ≡ l) × (slots_at left l ≡ set (slots_at bags l) c.entry.slot.slot Free) × (has_entry (row_of bags c) (entries_at left l) ≡ false)))
        (⊎_elim
        (λ same. inl (new_slots bags c.list b0 b1 there is ∙ same ∙ sym (slots_here bags c.list b0 b1 there is)))
        (λ freed. inr (
          refl,
          new_slots bags c.list b0 b1 there is ∙ freed.0
              ∙ ap (λ ss. set ss c.entry.slot.slot Free) (sym (slots_here bags c.list b0 b1 there is)),
          has_now (row_of bags c) ∙ ap (λ r. has_entry r b1.entries) row_is ∙ freed.1,
        ))
        slots)
        (λ l apart. inl (other_slots bags c.list b0 b1 there is l apart));
    types = types_kept bags c.list b0 b1 there is types;
    feeds = feeds_kept bags c.list b0 b1 there is feed;
    size = length-set bags c.list b1;
  }

-- A row that has an entry in one bag.
pub puts : (bags : List Counts) (c : RowChange) (b0 b1 : Counts) (there : c.list < length bags) (is : b0 ≡ get_or bags c.list b0)
    (entry : EntryRef) (is_new : Bool) → ((row : List Value) → count_in row b1.entries ≡ count_in row b0.entries)
    → total_of b1.entries ≡ total_of b0.entries → IsEntry b1.slots entry c.change.row → is_new ≡ not (has_entry c.change.row b0.entries)
    → ((row : List Value) → has_entry row b1.entries ≡ cond (same_row c.change.row row) true (has_entry row b0.entries))
    → ((other : EntryRef) (row : List Value) → IsEntry b0.slots other row → IsEntry b1.slots other row)
    → b1.types ≡ b0.types → b1.feed ≡ b0.feed → Puts c entry is_new bags (set bags c.list b1)
puts bags c b0 b1 there is entry is_new counts total here says entries kept types feed = record {
  counts = λ list row. unchanged bags c.list b0 b1 there is (count_in row) (counts row) list;
  totals = unchanged bags c.list b0 b1 there is total_of total;
  found = subst (λ ss. IsEntry ss entry c.change.row) (sym (new_slots bags c.list b0 b1 there is)) here;
  tells = says ∙ ap (λ es. not (has_entry c.change.row es)) (sym (entries_here bags c.list b0 b1 there is));
  entries = λ list row. each_place c.list
      (λ l. has_entry row (entries_at (set bags c.list b1) l) ≡ cond (names l row c) true (has_entry row (entries_at bags l)))
      (ap (has_entry row) (new_entries bags c.list b0 b1 there is) ∙ entries row
      ∙ (λ i. cond (turned row i) true (has_entry row (sym (entries_here bags c.list b0 b1 there is) i))))
      (λ l apart. ap (has_entry row) (other_entries bags c.list b0 b1 there is l apart)
      ∙ ap (λ b. cond (cond b (same_row row c.change.row) false) true (has_entry row (entries_at bags l))) (sym apart)) list;
  kept = λ list other row. each_place c.list
      (λ l. IsEntry (slots_at bags l) other row → IsEntry (slots_at (set bags c.list b1) l) other row)
      (λ it. subst (λ ss. IsEntry ss other row) (sym (new_slots bags c.list b0 b1 there is))
      (kept other row (subst (λ ss. IsEntry ss other row) (slots_here bags c.list b0 b1 there is) it)))
      (λ l apart it. subst (λ ss. IsEntry ss other row) (sym (other_slots bags c.list b0 b1 there is l apart)) it) list;
  types = types_kept bags c.list b0 b1 there is types;
  feeds = feeds_kept bags c.list b0 b1 there is feed;
  size = length-set bags c.list b1;
}
  where
    turned : (row : List Value) → same_row c.change.row row ≡ names c.list row c
    turned row = same_row_equiv.symm c.change.row row ∙ ap (λ a. cond a (same_row row c.change.row) false) (sym (eq_itself c.list))

itself : (row : List Value) → same_row row row ≡ true
itself row = same_row_equiv.refl row

least : (n x d : ℤ) → x ≡ d → pos 0 ≤ℤ (n +ℤ (x +ℤ pos 0)) → pos 0 ≤ℤ (n +ℤ d)
least n x d e h = omega (arith, ints)

most : (n x d : ℤ) → x ≡ d → (n +ℤ (x +ℤ pos 0)) ≤ℤ pos most_rows → (n +ℤ d) <ℤ pos (2 ^ 32 - 1)
most n x d e h = omega (arith, ints)

no_more : (d : ℤ) → d +ℤ pos 0 ≡ d
no_more d = omega (arith, ints)

-- The condition of one change on the count of its row.
pub count_here : (bags : List Counts) (c : RowChange) → IsWithin bags (c ∷ [])
    → pos 0 ≤ℤ (pos (count_in c.change.row (entries_at bags c.list)) +ℤ c.change.count)
count_here bags c w =
    least (pos (count_in c.change.row (entries_at bags c.list))) (row_change c.list c.change.row c) c.change.count
    (ap (λ b. cond b (signed_count c.change.row (c.change ∷ [])) (pos 0)) (eq_itself c.list)
    ∙ ap (λ b. cond b c.change.count (pos 0) +ℤ pos 0) (itself c.change.row) ∙ no_more c.change.count)
    (w.counts c.list c.change.row)

-- The condition of one change on the number of rows.
pub total_here : (bags : List Counts) (c : RowChange) → IsWithin bags (c ∷ [])
    → (pos (total_of (entries_at bags c.list)) +ℤ c.change.count) <ℤ pos (2 ^ 32 - 1)
total_here bags c w =
    most (pos (total_of (entries_at bags c.list))) (list_change c.list c) c.change.count
    (ap (λ b. cond b c.change.count (pos 0)) (eq_itself c.list)) (w.totals c.list)
