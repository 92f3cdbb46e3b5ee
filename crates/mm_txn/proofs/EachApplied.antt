-- Edits of tables that are made from the last table to the first.
use Rattle.std.proofs.Common.{◌≡◌, ℕ, suc, ◌<◌, ◌≤◌, Bool, true, false, cond, ◌||◌, List, [], ◌∷◌, ◌++◌, Option, Some, None, Err, Ok, Result, length, get_or}
use Rattle.std.proofs.Common.{map, refl, sym, ap, subst, ◌∙◌, inl, inr, arith}
use Rattle.std.specs.List.{All, AllPairs, list_any}
use Rattle.std.specs.Prelude.{OnOk}
use Rattle.std.specs.Result.{result_and}
use Rattle.std.proofs.lemmas.Bool.{or_from}
use Rattle.std.proofs.lemmas.List.{append-nil, append_assoc, length-append, length-map, map-append}
use Rattle.std.proofs.lemmas.List.Elements.{All-head}
use Rattle.std.proofs.lemmas.Option.{slice_get_within}
use Rattle.mm_order.proofs.Pairs.{All-append_right, AllPairs-append_across, AllPairs-append_right}
use Rattle.mm_partition.specs.Places.{slot_at}
use Rattle.mm_txn.specs.RowEdits.{BringNone}
use Rattle.mm_indexed.specs.Kept.{StoredRows}
use Rattle.mm_schema.specs.Refused.{AnswersDue, Condition, first_refusal}
use Rattle.mm_schema.specs.Rows.{table_rows_conditions}
use Rattle.mm_schema.proofs.Dues.{due_behind, due_in_front}
use Rattle.mm_schema.specs.declared.reference.Reference.{Reference}
use Rattle.mm_store.specs.Edits.{AreReady, conditions_of, pairs_of, rows_after}
use Rattle.mm_store.specs.Tables.{HasRows, IsAt, Tables, Turns, has_orphans, makes_orphans}
use Rattle.mm_tables.specs.declared.edit.Edit.{Edit}
use Rattle.mm_store.proofs.Joining.{one_relation}
use Rattle.mm_value.specs.declared.refusal.Refusal.{Refusal}
use Rattle.mm_value.specs.declared.refusal.Refusal.TheVariants.{RowIsReferenced}
use Rattle.mm_txn.specs.PlacedEdits.{AreEdits, FitsAt, HaveRows, PlacedEdits, edits_conditions, leaves_orphan, leaves_orphans, placed, rows_edited}
use Rattle.mm_txn.specs.declared.edits.RelationEdits.{RelationEdits}
use Rattle.mm_txn.proofs.PlacedRows.{IsPartly, IsPartly-more, IsPartly-none, found_among, only_there, orphans_same, still_there, targets_same}

-- ---- results of the store

-- The refusal because a row is referenced.
abbrev pub referred_due : Bool → Option Refusal
referred_due some_is_referred = cond some_is_referred (Some RowIsReferenced) None

-- Only a row that refers to a deleted row refuses deletions from a table.
abbrev pub AreRemovable : Tables → ℕ → Type 0
AreRemovable store table = (stored : StoredRows) → IsAt store table stored → (edits : List Edit) → AreReady stored edits → BringNone edits
    → (some_is_referred : Bool)
    → first_refusal (table_rows_conditions stored.key (rows_after stored edits) (has_orphans store table (rows_after stored edits)) some_is_referred)
    ≡ referred_due some_is_referred

-- The result of edits of one table, ..
abbrev pub IsAnswered : Tables → PlacedEdits → Result Unit Refusal → Type 0
IsAnswered store c result = (stored : StoredRows) → IsAt store c.0 stored → AnswersDue (first_refusal (conditions_of store c.0 stored c.1)) result

-- .. and their effect.
abbrev pub IsMade : Tables → PlacedEdits → Tables → Type 0
IsMade store c new =
    (stored : StoredRows) → IsAt store c.0 stored
    → (next : StoredRows) × Turns store c.0 next new × HasRows stored (rows_after stored c.1) next

-- What edits of one table require of the store.
pub record CanGo (store : Tables) (c : PlacedEdits) : Type 0 where
  pub there : c.0 < length store.tables
  pub ready : (stored : StoredRows) → IsAt store c.0 stored → AreReady stored c.1

-- ---- the tables whose edits are made

-- The edits of the later tables are made, and no remaining row refers to a row that was deleted there.
pub record AreGone (old : Tables) (all done : List PlacedEdits) (new : Tables) : Type 0 where
  pub partly : IsPartly old done new
  pub clear : list_any (λ (c : PlacedEdits). list_any (leaves_orphan old all c) old.links) done ≡ false

module _ (old : Tables) (all front : List PlacedEdits) (c : PlacedEdits) (done : List PlacedEdits) (split : all ≡ front ++ c ∷ done) (are : AreEdits old all)
    (back : All (λ (r : Reference). r.to < r.from) old.links) (mid : Tables) (gone : AreGone old all done mid) where
  ascend : AllPairs (λ (a b : PlacedEdits). a.0 < b.0) (front ++ c ∷ done)
  ascend = subst (AllPairs (λ (a b : PlacedEdits). a.0 < b.0)) split are.ascend

  before : All (λ (d : PlacedEdits). d.0 < c.0) front
  before k d within =
      All-head (λ (e : PlacedEdits). (get_or front k d).0 < e.0) c done
      (AllPairs-append_across (λ (a b : PlacedEdits). a.0 < b.0) front (c ∷ done) ascend k d within)

  behind : All (λ (d : PlacedEdits). c.0 < d.0) done
  behind k d within =
      AllPairs-append_right (λ (a b : PlacedEdits). a.0 < b.0) front (c ∷ done) ascend 0 (suc k) d (omega arith) (omega (arith, within))

  own : (P : PlacedEdits → Type 0) → All P all → P c
  own P each = All-head P c done (All-append_right P front (c ∷ done) (subst (All P) split each))

  fits : FitsAt old c
  fits = own (FitsAt old) are.fit

  abbrev stored : StoredRows
  stored = fits.0

  there : IsAt old c.0 stored
  there = fits.1

  -- The table of the next edits is unchanged.
  pub still_here : (own_stored : StoredRows) → IsAt old c.0 own_stored → IsAt mid c.0 own_stored
  still_here own_stored at = still_there old c done mid behind gone.partly own_stored at

  here : IsAt mid c.0 stored
  here = still_here stored there

  -- The next edits fit.
  pub can_go : CanGo mid c
  can_go = record {
    there = slice_get_within mid.tables c.0 stored here;
    ready = λ other at. subst (λ (s : StoredRows). AreReady s c.1) (sym (only_there old c done mid behind gone.partly stored there other at)) fits.2.ready;
  }

  pub only_removes : 1 < length all → BringNone c.1
  only_removes several = own (λ (d : PlacedEdits). BringNone d.1) (are.removals several)

  abbrev leaves : Bool
  leaves = list_any (leaves_orphan old all c) old.links

  makes_is : makes_orphans mid c.0 stored.key (pairs_of (slot_at stored.places) c.1) ≡ leaves
  makes_is =
      subst (λ (changes : List PlacedEdits). makes_orphans mid c.0 stored.key (pairs_of (slot_at stored.places) c.1)
      ≡ list_any (leaves_orphan old changes c) old.links) (sym split)
      (orphans_same old front c done mid before gone.partly stored there back)

  -- If the store refuses them, it refuses the first edits of all.
  pub conditions_same : front ≡ [] → (own_stored : StoredRows) → IsAt old c.0 own_stored
      → conditions_of mid c.0 own_stored c.1 ≡ edits_conditions old own_stored c done
  conditions_same none own_stored at =
      let whole : all ≡ c ∷ done = split ∙ ap (λ (xs : List PlacedEdits). xs ++ c ∷ done) none in
      let referred : makes_orphans mid c.0 own_stored.key (pairs_of (slot_at own_stored.places) c.1) ≡ leaves_orphans old (c ∷ done) =
      ap (λ (s : StoredRows). makes_orphans mid c.0 s.key (pairs_of (slot_at s.places) c.1)) (one_relation own_stored stored (sym at ∙ there))
      ∙ (makes_is ∙ (or_none leaves
      ∙ (ap (λ b. leaves || b) (sym gone.clear)
      ∙ ap (λ (changes : List PlacedEdits). list_any (λ (d : PlacedEdits). list_any (leaves_orphan old changes d) old.links) (c ∷ done)) whole))) in
      λ i. table_rows_conditions own_stored.key (rows_after own_stored c.1)
      (targets_same old front c done mid before gone.partly stored there behind (rows_after own_stored c.1) back i) (referred i)
    where
      or_none : (b : Bool) → b ≡ (b || false)
      or_none true = refl
      or_none false = refl

  -- If rows are only deleted, ..
  module _ (removable : AreRemovable mid c.0) (removals : BringNone c.1) where
    answered : (result : Result Unit Refusal) → IsAnswered mid c result → AnswersDue (referred_due leaves) result
    answered result due =
        subst (λ (d : Option Refusal). AnswersDue d result)
        (removable stored here c.1 (can_go.ready stored here) removals (makes_orphans mid c.0 stored.key (pairs_of (slot_at stored.places) c.1))
        ∙ ap referred_due makes_is)
        (due stored here)

    -- .. their refusal is that of all edits, ..
    pub refused_all : (refusal : Refusal) → IsAnswered mid c (Err refusal) → AnswersDue {T = Unit {0}} (referred_due (leaves_orphans old all)) (Err refusal)
    refused_all refusal due =
        more leaves (leaves_orphans old all)
        (λ so. ap (λ (changes : List PlacedEdits). list_any (λ (d : PlacedEdits). list_any (leaves_orphan old all d) old.links) changes) split
        ∙ found_among (λ (d : PlacedEdits). list_any (leaves_orphan old all d) old.links) front c done so)
        (answered (Err refusal) due)
      where
        more : (some every : Bool) → (some ≡ true → every ≡ true) → AnswersDue {T = Unit {0}} (referred_due some) (Err refusal)
            → AnswersDue {T = Unit {0}} (referred_due every) (Err refusal)
        more true every so due = subst (λ b. AnswersDue {T = Unit {0}} (referred_due b) (Err refusal)) (sym (so refl)) due
        more false every so (inl none) = absurd (let b : ⊥ = cc in b)
        more false every so (inr memory) = inr memory

    -- .. and if nothing refuses them, no remaining row refers to a deleted row.
    pub AreGone-more : (new : Tables) → IsAnswered mid c (Ok tt) → IsMade mid c new → new.links ≡ mid.links → AreGone old all (c ∷ done) new
    AreGone-more new due made links =
        let next = made stored here in
        record {
          partly = IsPartly-more old c done mid behind gone.partly stored there new next.0 next.1 next.2 links;
          clear = or_from _ _ (none_holds leaves (answered (Ok tt) due)) gone.clear;
        }
      where
        none_holds : (b : Bool) → referred_due b ≡ None → b ≡ false
        none_holds true none = cc
        none_holds false none = refl

  -- The edits of all tables are made once the first ones are.
  pub all_made : (new : Tables) → IsMade mid c new → new.links ≡ mid.links → HaveRows (rows_edited old (c ∷ done)) old new
  all_made new made links =
      let next = made stored here in (IsPartly-more old c done mid behind gone.partly stored there new next.0 next.1 next.2 links).have

-- ---- lists of edits

-- The edits of earlier tables, of one table, and of later ones.
in_three : (own : RelationEdits) (cascaded front : List RelationEdits) (next : RelationEdits) (done : List RelationEdits) → cascaded ≡ front ++ next ∷ done
    → (placed own ∷ map placed cascaded) ≡ ((placed own ∷ map placed front) ++ placed next ∷ map placed done)
in_three own cascaded front next done is =
    ap (λ (xs : List RelationEdits). placed own ∷ map placed xs) is
    ∙ ap (λ (xs : List PlacedEdits). placed own ∷ xs) (map-append placed front (next ∷ done))

-- The edits that are left, and those that were made.
pub record AreLeft (old : Tables) (own : RelationEdits) (cascaded left : List RelationEdits) (mid : Tables) : Type 0 where
  pub done : List RelationEdits
  pub is : cascaded ≡ left ++ done
  pub gone : AreGone old (placed own ∷ map placed cascaded) (map placed done) mid

module _ (old : Tables) (own : RelationEdits) (cascaded : List RelationEdits) (are : AreEdits old (placed own ∷ map placed cascaded))
    (back : All (λ (r : Reference). r.to < r.from) old.links) where
  abbrev all : List PlacedEdits
  all = placed own ∷ map placed cascaded

  -- The table of the first edits exists, and they fit it.
  pub own_can : CanGo old (placed own)
  own_can =
      let first = All-head (FitsAt old) (placed own) (map placed cascaded) are.fit in
      record {
        there = slice_get_within old.tables own.table first.0 first.1;
        ready = λ stored at. subst (λ (s : StoredRows). AreReady s own.edits) (one_relation first.0 stored (sym first.1 ∙ at)) first.2.ready;
      }

  -- The result of all edits by the rows.
  abbrev pub IsDueOfAll : Result Unit Refusal → Type 0
  IsDueOfAll result = (stored : StoredRows) → IsAt old own.table stored
      → AnswersDue (first_refusal (edits_conditions old stored (placed own) (map placed cascaded))) result

  pub all_left : AreLeft old own cascaded cascaded old
  all_left = record {
    done = [];
    is = sym (append-nil cascaded);
    gone = record { partly = IsPartly-none old; clear = refl };
  }

  module _ (left : List RelationEdits) (mid : Tables) (now : AreLeft old own cascaded left mid) where
    module _ (front : List RelationEdits) (next : RelationEdits) (is : left ≡ front ++ next ∷ []) where
      parts : cascaded ≡ front ++ next ∷ now.done
      parts = now.is ∙ (ap (λ (xs : List RelationEdits). xs ++ now.done) is ∙ append_assoc front (next ∷ []) now.done)

      three : all ≡ ((placed own ∷ map placed front) ++ placed next ∷ map placed now.done)
      three = in_three own cascaded front next now.done parts

      many : 1 < length all
      many = omega (arith, ap length parts, length-append front (next ∷ now.done), length-map cascaded placed)

      pub next_can : CanGo mid (placed next)
      next_can = can_go old all (placed own ∷ map placed front) (placed next) (map placed now.done) three are back mid now.gone

      module _ (removable : AreRemovable mid next.table) where
        removals : BringNone next.edits
        removals = only_removes old all (placed own ∷ map placed front) (placed next) (map placed now.done) three are back mid now.gone many

        pub next_refused : AreRemovable old own.table → (refusal : Refusal) → IsAnswered mid (placed next) (Err refusal) → IsDueOfAll (Err refusal)
        next_refused own_removable refusal due = λ stored at.
            subst (λ (d : Option Refusal). AnswersDue {T = Unit {0}} d (Err refusal))
            (sym (own_removable stored at own.edits (own_can.ready stored at)
            (All-head (λ (d : PlacedEdits). BringNone d.1) (placed own) (map placed cascaded) (are.removals many)) (leaves_orphans old all)))
            (refused_all old all (placed own ∷ map placed front) (placed next) (map placed now.done) three are back mid now.gone removable removals
            refusal due)

        pub next_gone : (new : Tables) → IsAnswered mid (placed next) (Ok tt) → IsMade mid (placed next) new → new.links ≡ mid.links
            → AreLeft old own cascaded front new
        next_gone new due made links = record {
          done = next ∷ now.done;
          is = parts;
          gone = AreGone-more old all (placed own ∷ map placed front) (placed next) (map placed now.done) three are back mid now.gone removable removals
              new due made links;
        }

    module _ (none : left ≡ []) where
      gone_behind : AreGone old all (map placed cascaded) mid
      gone_behind =
          subst (λ (xs : List RelationEdits). AreGone old all (map placed xs) mid) (sym (now.is ∙ ap (λ (xs : List RelationEdits). xs ++ now.done) none))
          now.gone

      pub last_can : CanGo mid (placed own)
      last_can = can_go old all [] (placed own) (map placed cascaded) refl are back mid gone_behind

      pub last_due : (result : Result Unit Refusal) → IsAnswered mid (placed own) result → IsDueOfAll result
      last_due result due = λ s at.
          subst (λ (cs : List Condition). AnswersDue (first_refusal cs) result)
          (conditions_same old all [] (placed own) (map placed cascaded) refl are back mid gone_behind refl s at)
          (due s (still_here old all [] (placed own) (map placed cascaded) refl are back mid gone_behind s at))

      pub last_have : (new : Tables) (result : Result Unit Refusal) → OnOk result (IsMade mid (placed own) new) → new.links ≡ mid.links
          → OnOk result (HaveRows (rows_edited old all) old new)
      last_have new (Ok tt) made links = all_made old all [] (placed own) (map placed cascaded) refl are back mid gone_behind new made links
      last_have new (Err refusal) made links = tt

-- ---- refusals

-- A refusal that is due by the rows, or else by the lists, is due by both.
pub both_due : (applied prepared : Result Unit Refusal) (cs ds : List Condition) → AnswersDue (first_refusal cs) applied
    → AnswersDue (first_refusal ds) prepared → AnswersDue (first_refusal (cs ++ ds)) (result_and applied prepared)
both_due (Err refusal) prepared cs ds (inl first) later = inl (due_in_front cs ds refusal first)
both_due (Err refusal) prepared cs ds (inr memory) later = inr memory
both_due (Ok u) (Err refusal) cs ds none (inl first) = inl (due_behind cs ds none ∙ first)
both_due (Ok u) (Err refusal) cs ds none (inr memory) = inr memory
both_due (Ok u) (Ok v) cs ds none later = due_behind cs ds none ∙ later

-- ---- both results

module _ (applied prepared : Result Unit Refusal) (u : Unit {0}) where
  pub first_ok : {P : Type 0} → result_and applied prepared ≡ Ok u → OnOk applied P → P
  first_ok = by applied prepared
    where
      by : (r s : Result Unit Refusal) {P : Type 0} → result_and r s ≡ Ok u → OnOk r P → P
      by (Ok v) s is made = made
      by (Err refusal) s is made = absurd (let b : ⊥ = cc in b)

  pub second_ok : {P : Type 0} → result_and applied prepared ≡ Ok u → OnOk prepared P → P
  second_ok = by applied prepared
    where
      by : (r s : Result Unit Refusal) {P : Type 0} → result_and r s ≡ Ok u → OnOk s P → P
      by (Ok v) (Ok w) is made = made
      by (Ok v) (Err refusal) is made = absurd (let b : ⊥ = cc in b)
      by (Err refusal) s is made = absurd (let b : ⊥ = cc in b)
