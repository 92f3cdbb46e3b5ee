-- Foreign keys when tables change and their ties stay.
use Rattle.std.proofs.Common.{◌≡◌, ◌≢◌, ℕ, ◌+◌, ◌<◌, ◌≤◌, ⊎_elim, List, [], ◌∷◌, ◌++◌, length, map, drop, get_or, set, refl, sym, ap, ◌∙◌, subst, arith}
use Rattle.std.proofs.lemmas.Bool.{cases_eq}
use Rattle.std.proofs.lemmas.List.{drop_all, length-map}
use Rattle.std.proofs.Math.Seq.{drop-append_seam}
use Rattle.mm_indexed.specs.Twins.{AreApart}
use Rattle.mm_link.specs.Edited.{IsMade, IsTakenBack}
use Rattle.mm_link.specs.Grown.{HasGrownTo}
use Rattle.mm_link.specs.Laws.{FollowsIn}
use Rattle.mm_link.specs.Links.{Follows as FollowsSlots, HaveTargets, SameRows}
use Rattle.mm_link.specs.Logged.{KeepsLink, slots_at}
use Rattle.mm_link.specs.declared.link.Link.{Link}
use Rattle.mm_link.proofs.Coming.{HaveTargets-after, HaveTargets-follows}
use Rattle.mm_link.proofs.Logged.{FollowsUndo-record, KeepsLink-other, KeepsLink-source, KeepsLink-staged, KeepsLink-target, StandsBack-append}
use Rattle.mm_link.proofs.Logged.{at_other, at_same}
use Rattle.mm_link.proofs.SameRows.{Follows-same_rows}
use Rattle.mm_link.proofs.Targets.{Follows-after}
use Rattle.mm_partition.specs.Places.{Free, Hidden}
use Rattle.mm_row_order.specs.Refs.{Slots}
use Rattle.mm_schema.specs.declared.reference.Reference.{Reference}
use Rattle.mm_tables.specs.Commands.{after, IsCommand}
use Rattle.mm_tables.specs.Edits.{put}
use Rattle.mm_tables.specs.Log.{before, StandsBack}
use Rattle.mm_tables.specs.Tables.{Shape, Holds, IsLogged, back, extent_in, extents_of, key_in, keys_of, logged, shape_of, slots_in, slots_of, state_of}
use Rattle.mm_tables.specs.declared.edit.Edit.{Edit}
use Rattle.mm_tables.specs.declared.edit.Edit.TheVariants.{Stage}
use Rattle.mm_tables.specs.declared.log_record.LogRecord.{LogRecord}
use Rattle.mm_tables.specs.declared.logged_table.LoggedTable.{LoggedTable}
use Rattle.mm_tables.proofs.InTables.{key_same}
use Rattle.mm_tables.proofs.Logs.{StandsBack-pop, StandsBack-push}
use Rattle.mm_value.specs.declared.col_type.ColType.{ColType}
use Rattle.mm_value.specs.declared.row_ref.RowRef.{RowRef}
use Rattle.mm_value.specs.declared.values.Value.{Value}
use Rattle.mm_base.specs.Joined.{BehindEdits, BehindUndo, FollowsRows, HasEntries, IsBehindIn, IsBetween, IsJoined, LogKeeps}
use Rattle.mm_base.specs.Orphans.{BringsTargets, SparesAll}
use Rattle.mm_base.proofs.Keeping.{SameLive, SameLive-staged, keys_from_shapes}

pub apart_in : (tables : List LoggedTable) (link : Link) → IsBetween (map shape_of tables) link.reference → link.reference.from ≢ link.reference.to
apart_in tables link between same = let below : link.reference.to < link.reference.from = between.to in let no : ⊥ = omega (arith, below, same) in no

-- the same rows in use
pub SameRows-live : (old new : Slots) → SameLive old new → SameRows old new
SameRows-live old new same at row = (λ is. same.stays at (row, is) ∙ is, λ is. sym (same.was at (row, is)) ∙ is)

pub SameRows-equal : (old new : Slots) → new ≡ old → SameRows old new
SameRows-equal old new same at row =
    (λ is. ap (λ (s : Slots). s at) same ∙ is, λ is. sym (ap (λ (s : Slots). s at) same) ∙ is)

-- the state at the end of a log
pub undone_all : (log es : List LogRecord) (now was : List Slots)
    → before back (drop (length log) (log ++ es)) now ≡ before back (drop (length log) log) was → before back es now ≡ was
undone_all log es now was marks =
    ap (λ (xs : List LogRecord). before back xs now) (sym (drop-append_seam log es))
    ∙ (marks ∙ ap (λ (xs : List LogRecord). before back xs was) (drop_all (length log) log (omega arith)))

-- ---- the types of all tables

abbrev types_in_shapes : List Shape → List (List ColType)
types_in_shapes shapes = map (λ (x : Shape). x.types) shapes

abbrev pub types_of : List LoggedTable → List (List ColType)
types_of tables = types_in_shapes (map shape_of tables)

pub types_from_shapes : (old new : List LoggedTable) → map shape_of new ≡ map shape_of old → types_of new ≡ types_of old
types_from_shapes old new same = ap types_in_shapes same

types_size : (tables : List LoggedTable) → length (types_of tables) ≡ length (map shape_of tables)
types_size tables = length-map (map shape_of tables) (λ (x : Shape). x.types)

-- ---- tables that use no more slots

pub no_more : (old new : List LoggedTable) → extents_of new ≡ extents_of old → (t : ℕ) → extent_in new t ≤ extent_in old t
no_more old new same t = omega (arith, ap (λ (es : List ℕ). get_or es t 0) same)

pub HasEntries-fewer : (old new : List LoggedTable) (link : Link) → ((t : ℕ) → extent_in new t ≤ extent_in old t) → HasEntries old link → HasEntries new link
HasEntries-fewer old new link fewer has = record {
  referrers = omega (arith, fewer link.reference.from, has.referrers);
  targets = omega (arith, fewer link.reference.to, has.targets);
}

-- ---- tables of the same keys

module _ (old new : List LoggedTable) (keys : keys_of new ≡ keys_of old) (link : Link) where
  target_key : key_in new link.reference.to ≡ key_in old link.reference.to
  target_key = ap (λ (ks : List ℕ). get_or ks link.reference.to 0) keys

  pub follows_from : (state : List Slots) → state_of new ≡ state → FollowsIn link.reference (key_in old link.reference.to) state link.ties
      → FollowsRows new link
  follows_from state is follows =
      subst (λ (k : ℕ). FollowsIn link.reference k (state_of new) link.ties) (sym target_key)
      (subst (λ (s : List Slots). FollowsIn link.reference (key_in old link.reference.to) s link.ties) (sym is) follows)

  pub keeps_from : (state : List Slots) (log : List LogRecord) → state_of new ≡ state
      → StandsBack back (KeepsLink link.reference (key_in old link.reference.to)) log state → LogKeeps new log link
  keeps_from state log is keeps =
      subst (λ (k : ℕ). StandsBack back (KeepsLink link.reference k) log (state_of new)) (sym target_key)
      (subst (λ (s : List Slots). StandsBack back (KeepsLink link.reference (key_in old link.reference.to)) log s) (sym is) keeps)

  -- only indexes have changed
  pub joined_alike : types_of new ≡ types_of old → (log new_log : List LogRecord) → extents_of new ≡ extents_of old → state_of new ≡ state_of old
      → new_log ≡ log → IsJoined old log link → IsJoined new new_log link
  joined_alike types log new_log extents state same joined = record {
    between = record {
      from = omega (arith, joined.between.from, types_size old, types_size new, ap (λ (ts : List (List ColType)). length ts) types);
      column = subst (λ (ts : List (List ColType)). link.reference.column < length (get_or ts link.reference.from [])) (sym types) joined.between.column;
      to = joined.between.to;
    };
    entries = HasEntries-fewer old new link (no_more old new extents) joined.entries;
    follows = follows_from (state_of old) state joined.follows;
    logged = subst (λ (rs : List LogRecord). LogKeeps new rs link) (sym same) (keeps_from (state_of old) log state joined.logged);
  }

-- ---- tables of the same shapes

module _ (old new : List LoggedTable) (shapes : map shape_of new ≡ map shape_of old) (link : Link) where
  abbrev r : Reference
  r = link.reference

  pub between_to : IsBetween (map shape_of old) r → IsBetween (map shape_of new) r
  between_to = subst (λ ss. IsBetween ss r) (sym shapes)

  pub follows_to : (state : List Slots) → state_of new ≡ state → FollowsIn r (key_in old r.to) state link.ties → FollowsRows new link
  follows_to = follows_from old new (keys_from_shapes old new shapes) link

  pub keeps_to : (state : List Slots) (log : List LogRecord) → state_of new ≡ state → StandsBack back (KeepsLink r (key_in old r.to)) log state
      → LogKeeps new log link
  keeps_to = keeps_from old new (keys_from_shapes old new shapes) link

  -- nothing has changed
  pub joined_same : (log new_log : List LogRecord) → extents_of new ≡ extents_of old → state_of new ≡ state_of old → new_log ≡ log
      → IsJoined old log link → IsJoined new new_log link
  joined_same = joined_alike old new (keys_from_shapes old new shapes) link (types_from_shapes old new shapes)

  -- each table has the same rows in use, and the log is empty
  pub joined_settled : (log : List LogRecord) → ((t : ℕ) → extent_in new t ≤ extent_in old t) → ((t : ℕ) → SameRows (slots_in old t) (slots_in new t))
      → IsJoined old log link → IsJoined new [] link
  joined_settled log fewer same joined = record {
    between = between_to joined.between;
    entries = HasEntries-fewer old new link fewer joined.entries;
    follows = follows_to (state_of new) refl
        (Follows-same_rows r.column (key_in old r.to) (slots_in old r.from) (slots_in new r.from) (slots_in old r.to) (slots_in new r.to) link.ties
        (same r.from) (same r.to) joined.follows);
    logged = tt;
  }

  -- a row was staged
  module _ (t : ℕ) (at : RowRef) (row : List Value) (within : t < length old) (free : slots_in old t at ≡ Free)
      (staged : state_of new ≡ set (state_of old) t (put at (Hidden row) (slots_in old t))) where
    there : t < length (state_of old)
    there = omega (arith, within, length-map old slots_of)

    slots_staged : (x : ℕ) → SameRows (slots_in old x) (slots_in new x)
    slots_staged x =
        ⊎_elim
        (λ (same : x ≡ t).
        SameRows-live (slots_in old x) (slots_in new x)
        (subst (SameLive (slots_in old x))
        (sym (ap (λ (s : List Slots). slots_at s x) staged
        ∙ (ap (λ (n : ℕ). slots_at (set (state_of old) t (put at (Hidden row) (slots_in old t))) n) same
        ∙ at_same (state_of old) t (put at (Hidden row) (slots_in old t)) there)))
        (subst (λ (n : ℕ). SameLive (slots_in old n) (put at (Hidden row) (slots_in old t))) (sym same)
        (SameLive-staged (slots_in old t) at row free))))
        (λ (apart : x ≢ t).
        SameRows-equal (slots_in old x) (slots_in new x)
        (ap (λ (s : List Slots). slots_at s x) staged ∙ at_other (state_of old) t x (put at (Hidden row) (slots_in old t)) apart))
        (cases_eq x t)

    entries_staged : (old_extent : extent_in new t ≤ extent_in old t + 1) → ((x : ℕ) → x ≢ t → extent_in new x ≡ extent_in old x)
        → HasGrownTo t (extent_in old t + 1) link → HasEntries old link → HasEntries new link
    entries_staged more others room has = record {
      referrers = ⊎_elim
          (λ (same : r.from ≡ t). omega (arith, more, room.as_source same, ap (extent_in new) same))
          (λ (apart : r.from ≢ t). omega (arith, others r.from apart, has.referrers))
          (cases_eq r.from t);
      targets = ⊎_elim
          (λ (same : r.to ≡ t). omega (arith, more, room.as_target same, ap (extent_in new) same))
          (λ (apart : r.to ≢ t). omega (arith, others r.to apart, has.targets))
          (cases_eq r.to t);
    }

    pub joined_staged : (log new_log : List LogRecord) → new_log ≡ log ++ logged t (Stage at) ∷ []
        → back (logged t (Stage at)) (state_of new) ≡ state_of old → extent_in new t ≤ extent_in old t + 1
        → ((x : ℕ) → x ≢ t → extent_in new x ≡ extent_in old x) → HasGrownTo t (extent_in old t + 1) link
        → IsJoined old log link → IsJoined new new_log link
    joined_staged log new_log pushed was more others room joined =
        let key : ℕ = key_in old r.to in
        let e : LogRecord = logged t (Stage at) in
        let s : List Slots = set (state_of old) t (put at (Hidden row) (slots_in old t)) in
        let targets : HaveTargets r.column key (slots_in old r.from) (slots_in old r.to) =
        HaveTargets-follows r.column key (slots_in old r.to) (slots_in old r.from) link.ties joined.follows in
        let keeps : KeepsLink r key s e = KeepsLink-staged r key (apart_in old link joined.between) (state_of old) t at row there free targets in
        let rest : StandsBack back (KeepsLink r key) log (back e s) =
        subst (StandsBack back (KeepsLink r key) log) (sym (ap (back e) (sym staged) ∙ was)) joined.logged in
        record {
          between = between_to joined.between;
          entries = entries_staged more others room joined.entries;
          follows = follows_to (state_of new) refl
              (Follows-same_rows r.column key (slots_in old r.from) (slots_in new r.from) (slots_in old r.to) (slots_in new r.to) link.ties
              (slots_staged r.from) (slots_staged r.to) joined.follows);
          logged = subst (λ (rs : List LogRecord). LogKeeps new rs link) (sym pushed)
              (keeps_to s (log ++ e ∷ []) staged (StandsBack-push back (KeepsLink r key) log e s keeps rest));
        }

  -- the edits of a command were made
  module _ (t : ℕ) (edits : List Edit) (within : t < length old) (command : IsCommand (key_in old t) edits (slots_in old t))
      (made : state_of new ≡ set (state_of old) t (after edits (slots_in old t))) where
    abbrev now : Slots
    now = after edits (slots_in old t)

    abbrev state : List Slots
    state = set (state_of old) t now

    inside : t < length (state_of old)
    inside = omega (arith, within, length-map old slots_of)

    changed_at : (x : ℕ) → x ≡ t → slots_in new x ≡ after edits (slots_in old x)
    changed_at x same =
        ap (λ (s : List Slots). slots_at s x) made
        ∙ (ap (λ (n : ℕ). slots_at state n) same
        ∙ (at_same (state_of old) t now inside ∙ ap (λ (n : ℕ). after edits (slots_in old n)) (sym same)))

    unchanged_at : (x : ℕ) → x ≢ t → slots_in new x ≡ slots_in old x
    unchanged_at x apart = ap (λ (s : List Slots). slots_at s x) made ∙ at_other (state_of old) t x now apart

    command_at : (x : ℕ) → x ≡ t → IsCommand (key_in old x) edits (slots_in old x)
    command_at x same = subst (λ (n : ℕ). IsCommand (key_in old n) edits (slots_in old n)) (sym same) command

    behind_source : (between : IsBetween (map shape_of old) r) → FollowsRows old link → BringsTargets old t edits link → r.from ≡ t
        → BehindEdits new edits link
    behind_source between follows brings same =
        let key : ℕ = key_in old r.to in
        let target : slots_in new r.to ≡ slots_in old r.to =
        unchanged_at r.to (λ is. apart_in old link between (same ∙ sym is)) in
        subst (λ (k : ℕ). IsMade r.column k (key_in new r.from) (slots_in new r.from) (slots_in new r.to) edits link.ties)
        (sym (key_same old new r.to shapes))
        (subst (λ (then : Slots). IsMade r.column key (key_in new r.from) (slots_in new r.from) then edits link.ties) (sym target) (record {
          was = slots_in old r.from;
          command = subst (λ (k : ℕ). IsCommand k edits (slots_in old r.from)) (sym (key_same old new r.from shapes)) (command_at r.from same);
          made = changed_at r.from same;
          follows = follows;
          targets = brings same;
        }))

    follows_others : FollowsRows old link → SparesAll old t edits link → r.from ≢ t → FollowsRows new link
    follows_others follows spares apart =
        let key : ℕ = key_in old r.to in
        let source : slots_in new r.from ≡ slots_in old r.from = unchanged_at r.from apart in
        let there_now : (then : Slots) → slots_in new r.to ≡ then → FollowsSlots r.column key (slots_in old r.from) then link.ties → FollowsRows new link =
        λ then is f.
        follows_to (state_of new) refl
        (subst (λ (s : Slots). FollowsSlots r.column key s (slots_in new r.to) link.ties) (sym source)
        (subst (λ (s : Slots). FollowsSlots r.column key (slots_in old r.from) s link.ties) (sym is) f)) in
        ⊎_elim
        (λ (same : r.to ≡ t).
        there_now (after edits (slots_in old r.to)) (changed_at r.to same)
        (Follows-after r.column key (slots_in old r.from) (slots_in old r.to) link.ties edits (command_at r.to same) (spares same) follows))
        (λ (other : r.to ≢ t). there_now (slots_in old r.to) (unchanged_at r.to other) follows)
        (cases_eq r.to t)

    records_keep : IsBetween (map shape_of old) r → FollowsRows old link → BringsTargets old t edits link → SparesAll old t edits link
        → AreApart (key_in old t) now → StandsBack back (KeepsLink r (key_in old r.to)) (map (logged t) edits) state
    records_keep between follows brings spares keys_apart =
        let key : ℕ = key_in old r.to in
        let apart = apart_in old link between in
        let first = HaveTargets-follows r.column key (slots_in old r.to) (slots_in old r.from) link.ties follows in
        let at : ℕ → Type 0 = λ n. StandsBack back (KeepsLink r key) (map (logged n) edits) (set (state_of old) n (after edits (slots_in old n))) in
        ⊎_elim
        (λ (same : r.from ≡ t).
        subst at same
        (KeepsLink-source r key apart (state_of old) (key_in old r.from) edits (subst (λ (n : ℕ). n < length (state_of old)) (sym same) inside)
        (command_at r.from same) first
        (HaveTargets-after r.column key (slots_in old r.to) (key_in old r.from) edits (slots_in old r.from) (command_at r.from same) (brings same) first)))
        (λ (not_from : r.from ≢ t).
        ⊎_elim
        (λ (same : r.to ≡ t).
        subst at same
        (KeepsLink-target r key apart (state_of old) link.ties edits (subst (λ (n : ℕ). n < length (state_of old)) (sym same) inside)
        (command_at r.to same) (spares same) follows
        (subst (λ (n : ℕ). AreApart (key_in old n) (after edits (slots_in old n))) (sym same) keys_apart)))
        (λ (not_to : r.to ≢ t). KeepsLink-other r key apart t edits state (λ is. not_from (sym is)) (λ is. not_to (sym is)))
        (cases_eq r.to t))
        (cases_eq r.from t)

    pub behind_made : (log new_log : List LogRecord) → new_log ≡ log ++ map (logged t) edits
        → before back (map (logged t) edits) (state_of new) ≡ state_of old → extents_of new ≡ extents_of old → BringsTargets old t edits link
        → SparesAll old t edits link → AreApart (key_in old t) now → IsJoined old log link → IsBehindIn (BehindEdits new edits) t new new_log link
    behind_made log new_log pushed was extents brings spares keys_apart joined =
        let key : ℕ = key_in old r.to in
        let es : List LogRecord = map (logged t) edits in
        let rest : StandsBack back (KeepsLink r key) log (before back es state) =
        subst (StandsBack back (KeepsLink r key) log) (sym (ap (before back es) (sym made) ∙ was)) joined.logged in
        record {
          between = between_to joined.between;
          entries = HasEntries-fewer old new link (no_more old new extents) joined.entries;
          source = behind_source joined.between joined.follows brings;
          others = follows_others joined.follows spares;
          logged = subst (λ (rs : List LogRecord). LogKeeps new rs link) (sym pushed)
              (keeps_to state (log ++ es) made
              (StandsBack-append back (KeepsLink r key) log es state rest (records_keep joined.between joined.follows brings spares keys_apart)));
        }

  -- the newest record was undone
  module _ (e : LogRecord) (undone : state_of new ≡ back e (state_of old)) where
    pub behind_undone : (log new_log : List LogRecord) → log ≡ new_log ++ e ∷ [] → extents_of new ≡ extents_of old → IsLogged old log
        → IsJoined old log link → IsBehindIn (BehindUndo new e.edit) e.table new new_log link
    behind_undone log new_log popped extents is_logged joined =
        let key : ℕ = key_in old r.to in
        let keys : List ℕ = keys_of old in
        let s : List Slots = state_of old in
        let (holds, rest_holds) = StandsBack-pop back (Holds keys) new_log e s
        (subst (λ (rs : List LogRecord). StandsBack back (Holds keys) rs s) popped is_logged.stands) in
        let (keeps, rest) = StandsBack-pop back (KeepsLink r key) new_log e s
        (subst (λ (rs : List LogRecord). StandsBack back (KeepsLink r key) rs s) popped joined.logged) in
        let follows = FollowsUndo-record r key (apart_in old link joined.between) keys s e link.ties holds keeps joined.follows refl in
        record {
          between = between_to joined.between;
          entries = HasEntries-fewer old new link (no_more old new extents) joined.entries;
          source = λ same.
              subst (λ (k : ℕ). IsTakenBack r.column k (key_in new r.from) (slots_in new r.from) (slots_in new r.to) e.edit link.ties)
              (sym (key_same old new r.to shapes))
              (subst (λ (k : ℕ). IsTakenBack r.column key k (slots_in new r.from) (slots_in new r.to) e.edit link.ties)
              (sym (key_same old new r.from shapes))
              (subst (λ (x : List Slots). IsTakenBack r.column key (key_in old r.from) (slots_at x r.from) (slots_at x r.to) e.edit link.ties) (sym undone)
              (follows.0 (sym same))));
          others = λ apart. follows_to (back e s) undone (follows.1 (λ is. apart (sym is)));
          logged = keeps_to (back e s) new_log undone rest;
        }
