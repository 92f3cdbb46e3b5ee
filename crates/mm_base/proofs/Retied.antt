-- A link that was updated.
use Rattle.std.proofs.Common.{◌≡◌, ◌≢◌, ℕ, List, refl, sym, ap, subst, arith}
use Rattle.mm_link.specs.Links.{Follows as FollowsSlots, HasRoom, SameSize}
use Rattle.mm_link.specs.declared.link.Link.{Link}
use Rattle.mm_partition.specs.Places.{Places, extent_of}
use Rattle.mm_row_order.specs.Refs.{Slots}
use Rattle.mm_schema.specs.declared.reference.Reference.{Reference}
use Rattle.mm_tables.specs.Tables.{extent_in, key_in, slots_in}
use Rattle.mm_tables.specs.declared.log_record.LogRecord.{LogRecord}
use Rattle.mm_tables.specs.declared.logged_table.LoggedTable.{LoggedTable}
use Rattle.mm_base.specs.Joined.{FollowsRows, HasEntries, HasFollowed, IsBehindIn, IsJoined}

pub subst_three : (P : ℕ → Slots → Slots → Type 0) {k l : ℕ} {a b c d : Slots} → l ≡ k → b ≡ a → d ≡ c → P k a c → P l b d
subst_three P {k} {l} {a} {b} {c} {d} first second third is =
    subst (λ (n : ℕ). P n b d) (sym first) (subst (λ (s : Slots). P k s d) (sym second) (subst (P k a) (sym third) is))

pub subst_four : (P : ℕ → ℕ → Slots → Slots → Type 0) {k l m n : ℕ} {a b c d : Slots} → l ≡ k → n ≡ m → b ≡ a → d ≡ c → P k m a c → P l n b d
subst_four P {k} {l} {m} {n} {a} {b} {c} {d} first own second third is =
    subst (λ (x : ℕ). P x n b d) (sym first) (subst_three (P k) own second third is)

pub room_read : (tables : List LoggedTable) (link : Link) (table : ℕ) → link.reference.from ≡ table → HasEntries tables link → (from to : Places)
    → extent_of from ≡ extent_in tables table → extent_of to ≡ extent_in tables link.reference.to → HasRoom from to link.ties
room_read tables link table is has from to source target = record {
  referrers = omega (arith, has.referrers, source, ap (extent_in tables) is);
  targets = omega (arith, has.targets, target);
}

module _ (tables : List LoggedTable) (log : List LogRecord) (table : ℕ) (old : Link) where
  pub HasFollowed-others : {Behind : Link → Type 0} → IsBehindIn Behind table tables log old → old.reference.from ≢ table → HasFollowed tables log old old
  HasFollowed-others behind apart = record {
    kept = record { reference = refl; size = record { referrers = refl; targets = refl } };
    joined = record { between = behind.between; entries = behind.entries; follows = behind.others apart; logged = behind.logged };
  }

  pub HasFollowed-retied : {Behind : Link → Type 0} (new : Link) → IsBehindIn Behind table tables log old → old.reference.from ≡ table
      → new.reference ≡ old.reference → SameSize old.ties new.ties
      → FollowsSlots old.reference.column (key_in tables old.reference.to) (slots_in tables table) (slots_in tables old.reference.to) new.ties
      → HasFollowed tables log old new
  HasFollowed-retied new behind from same size follows =
      let own : FollowsRows tables (record { reference = old.reference; ties = new.ties }) =
      subst (λ (n : ℕ). FollowsSlots old.reference.column (key_in tables old.reference.to) (slots_in tables n) (slots_in tables old.reference.to) new.ties)
      (sym from) follows in
      let entries : HasEntries tables (record { reference = old.reference; ties = new.ties }) = record {
        referrers = omega (arith, behind.entries.referrers, size.referrers);
        targets = omega (arith, behind.entries.targets, size.targets);
      } in
      record {
        kept = record { reference = same; size = size };
        joined = subst (λ (r : Reference). IsJoined tables log (record { reference = r; ties = new.ties })) (sym same)
            (record { between = behind.between; entries = entries; follows = own; logged = behind.logged });
      }
