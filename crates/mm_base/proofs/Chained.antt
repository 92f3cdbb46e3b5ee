-- Links that are updated one after another, several times.
use Rattle.std.proofs.Common.{◌≡◌, ◌<◌, ◌≤◌, ◌+◌, ℕ, suc, List, [], ◌∷◌, length, get_or, map, refl, sym, ap, ap₂, ◌∙◌, subst, arith}
use Rattle.std.specs.List.{All}
use Rattle.std.specs.Prelude.{Result, Ok, Err, OnOk}
use Rattle.mm_indexed.specs.Index.{EachTurns}
use Rattle.mm_link.specs.Grown.{HasGrown, HasGrownTo}
use Rattle.mm_link.specs.declared.link.Link.{Link}
use Rattle.mm_link.proofs.SameRows.{Follows-grown}
use Rattle.mm_schema.specs.declared.reference.Reference.{Reference}
use Rattle.mm_tables.specs.Tables.{Stored, extents_of, extent_in, key_in, keys_of, shape_of, slots_in, state_of}
use Rattle.mm_tables.specs.declared.log_record.LogRecord.{LogRecord}
use Rattle.mm_tables.specs.declared.logged_table.LoggedTable.{LoggedTable}
use Rattle.mm_base.specs.Bases.{IsSound, references_of}
use Rattle.mm_base.specs.Joined.{GrownTo, HasFollowed, HaveEntriesFor, IsJoined, KeepsSize}
use Rattle.mm_base.proofs.InBases.{lawful_from_keys, lawful_from_state}
use Rattle.mm_base.proofs.Joining.{joined_alike, joined_same, types_from_shapes, types_of}
use Rattle.mm_base.proofs.Keeping.{keys_from_shapes}

pub KeepsSize-refl : (links : List Link) → EachTurns KeepsSize links links
KeepsSize-refl links = record {
  size = refl;
  each = λ k d within. record { reference = refl; size = record { referrers = refl; targets = refl } };
}

pub KeepsSize-both : (a b c : List Link) → EachTurns KeepsSize a b → EachTurns KeepsSize b c → EachTurns KeepsSize a c
KeepsSize-both a b c first second = record {
  size = second.size ∙ first.size;
  each = λ k d within.
      let x = first.each k d within in
      let y = second.each k d (omega (arith, within, first.size)) in
      record {
        reference = y.reference ∙ x.reference;
        size = record { referrers = y.size.referrers ∙ x.size.referrers; targets = y.size.targets ∙ x.size.targets };
      };
}

module _ (tables : List LoggedTable) (log : List LogRecord) (old new : List Link) (turned : EachTurns (HasFollowed tables log) old new) where
  pub KeepsSize-follows : EachTurns KeepsSize old new
  KeepsSize-follows = record { size = turned.size; each = λ k d within. (turned.each k d within).kept }

  pub joined-follows : All (IsJoined tables log) new
  joined-follows k d within = (turned.each k d (omega (arith, within, turned.size))).joined

-- the references stay
pub references_stay : (R : Link → Link → Type 0) → ((x y : Link) → R x y → y.reference ≡ x.reference) → (old new : List Link) → EachTurns R old new
    → references_of new ≡ references_of old
references_stay R same [] [] turned = refl
references_stay R same [] (y ∷ ys) turned = let size : length (y ∷ ys) ≡ 0 = turned.size in absurd (omega (arith, size))
references_stay R same (x ∷ xs) [] turned = let size : 0 ≡ length (x ∷ xs) = turned.size in absurd (omega (arith, size))
references_stay R same (x ∷ xs) (y ∷ ys) turned =
    ap₂ (λ (r : Reference) (rs : List Reference). r ∷ rs) (same x y (turned.each 0 x (omega arith)))
    (references_stay R same xs ys (record {
      size = let size : length (y ∷ ys) ≡ length (x ∷ xs) = turned.size in omega (arith, size);
      each = λ k d within. turned.each (suc k) d (omega (arith, within));
    }))

pub same_references : (old new : List Link) → EachTurns KeepsSize old new → references_of new ≡ references_of old
same_references old new turned = references_stay KeepsSize (λ x y kept. kept.reference) old new turned

-- links keep their capacity with their sizes, if no more slots are used
pub entries_kept : (old new : List LoggedTable) (old_links new_links : List Link) → ((t : ℕ) → extent_in new t ≤ extent_in old t)
    → EachTurns KeepsSize old_links new_links → (t n : ℕ) → HaveEntriesFor n t old old_links → HaveEntriesFor n t new new_links
entries_kept old new old_links new_links fewer turned t n have k d within =
    let inside : k < length old_links = omega (arith, within, turned.size) in
    let was : HasGrownTo t (extent_in old t + n) (get_or old_links k d) = have k d inside in
    let kept : KeepsSize (get_or old_links k d) (get_or new_links k d) = turned.each k d inside in
    record {
      as_source = λ is. omega (arith, was.as_source (sym (ap (λ (r : Reference). r.from) kept.reference) ∙ is), kept.size.referrers, fewer t);
      as_target = λ is. omega (arith, was.as_target (sym (ap (λ (r : Reference). r.to) kept.reference) ∙ is), kept.size.targets, fewer t);
    }

-- ---- entries and counts are added

pub grown_references : (old new : List Link) → EachTurns HasGrown old new → references_of new ≡ references_of old
grown_references old new turned = references_stay HasGrown (λ x y grown. grown.reference) old new turned

module _ (old new : List LoggedTable) (extents : extents_of new ≡ extents_of old) (old_links new_links : List Link)
    (turned : EachTurns HasGrown old_links new_links) where
  extent_same : (t : ℕ) → extent_in new t ≡ extent_in old t
  extent_same t = ap (λ (es : List ℕ). get_or es t 0) extents

  pub entries_grown : (t n : ℕ) → HaveEntriesFor n t old old_links → HaveEntriesFor n t new new_links
  entries_grown t n have k d within =
      let inside : k < length old_links = omega (arith, within, turned.size) in
      let was : HasGrownTo t (extent_in old t + n) (get_or old_links k d) = have k d inside in
      let kept : HasGrown (get_or old_links k d) (get_or new_links k d) = turned.each k d inside in
      record {
        as_source = λ is. omega (arith, was.as_source (sym (ap (λ (r : Reference). r.from) kept.reference) ∙ is), kept.referrers, extent_same t);
        as_target = λ is. omega (arith, was.as_target (sym (ap (λ (r : Reference). r.to) kept.reference) ∙ is), kept.targets, extent_same t);
      }

  pub joined_grown : (log new_log : List LogRecord) → map shape_of new ≡ map shape_of old → state_of new ≡ state_of old → new_log ≡ log
      → All (IsJoined old log) old_links → All (IsJoined new new_log) new_links
  joined_grown log new_log shapes state same joined k d within =
      let inside : k < length old_links = omega (arith, within, turned.size) in
      let x : Link = get_or old_links k d in
      let y : Link = get_or new_links k d in
      let kept : HasGrown x y = turned.each k d inside in
      let was : IsJoined old log x = joined k d inside in
      let here : IsJoined old log y =
      subst (λ (r : Reference). IsJoined old log (record { reference = r; ties = y.ties })) (sym kept.reference) (record {
        between = was.between;
        entries = record {
          referrers = omega (arith, was.entries.referrers, kept.referrers);
          targets = omega (arith, was.entries.targets, kept.targets);
        };
        follows = Follows-grown x.reference.column (key_in old x.reference.to) (slots_in old x.reference.from) (slots_in old x.reference.to) x.ties y.ties
            kept.kept was.follows;
        logged = was.logged;
      }) in
      joined_same old new shapes y log new_log extents state same here

pub grown_weaker : (table extent : ℕ) (old new : List Link) → EachTurns (GrownTo table extent) old new → EachTurns HasGrown old new
grown_weaker table extent old new turned = record { size = turned.size; each = λ k d within. (turned.each k d within).grown }

-- there is capacity for this number of rows
pub entries_made : (tables : List LoggedTable) (table extent n : ℕ) (old new : List Link) → EachTurns (GrownTo table extent) old new
    → extent ≡ extent_in tables table + n → HaveEntriesFor n table tables new
entries_made tables table extent n old new turned is k d within =
    subst (λ (m : ℕ). HasGrownTo table m (get_or new k d)) is (turned.each k d (omega (arith, within, turned.size))).to

pub sound_grown : (old new : Stored) (old_links new_links : List Link) → EachTurns HasGrown old_links new_links
    → map shape_of new.tables ≡ map shape_of old.tables → extents_of new.tables ≡ extents_of old.tables → state_of new.tables ≡ state_of old.tables
    → new.log ≡ old.log → IsSound old old_links → IsSound new new_links
sound_grown old new old_links new_links turned shapes extents state log sound = record {
  lawful = lawful_from_state old.tables new.tables shapes (state_of old.tables) state sound.lawful;
  joined = joined_grown old.tables new.tables extents old_links new_links turned old.log new.log shapes state log sound.joined;
}

-- the indexes of tables have changed, or their capacity, and the links stay
pub sound_alike : (old new : Stored) (links : List Link) → keys_of new.tables ≡ keys_of old.tables → types_of new.tables ≡ types_of old.tables
    → extents_of new.tables ≡ extents_of old.tables → state_of new.tables ≡ state_of old.tables → new.log ≡ old.log
    → IsSound old links → IsSound new links
sound_alike old new links keys types extents state log sound = record {
  lawful = lawful_from_keys old.tables new.tables keys (state_of old.tables) (state_of new.tables) state sound.lawful;
  joined = λ k d within.
      joined_alike old.tables new.tables keys (get_or links k d) types old.log new.log extents state log (sound.joined k d within);
}

-- the capacity of tables has changed
pub sound_same : (old new : Stored) (links : List Link) → map shape_of new.tables ≡ map shape_of old.tables
    → extents_of new.tables ≡ extents_of old.tables → state_of new.tables ≡ state_of old.tables → new.log ≡ old.log
    → IsSound old links → IsSound new links
sound_same old new links shapes =
    sound_alike old new links (keys_from_shapes old.tables new.tables shapes) (types_from_shapes old.tables new.tables shapes)

pub always_ok : {T E : Type 0} (result : Result T E) (P : Type 0) → P → OnOk result P
always_ok (Ok value) P holds = holds
always_ok (Err error) P holds = tt
