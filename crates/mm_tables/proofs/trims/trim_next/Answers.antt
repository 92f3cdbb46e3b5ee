use Rattle.std.proofs.Common.{◌≡◌, ◌≢◌, ℕ, ⊎_elim, [], set, sym, ap, ◌∙◌, subst}
use Rattle.std.proofs.lemmas.Bool.{cases_eq}
use Rattle.mm_tables.specs.Tables.{Shape, HasCounted, HasFewSpares, HoldsAt}
use Rattle.mm_tables.specs.declared.index_room.IndexRoom.{IndexRoom}
use Rattle.mm_tables.proofs.InTables.{from_HoldsAt, extents-fewer, state-same, shapes-set, HoldsAt-here, HoldsAt-other}
use Rattle.mm_tables.proofs.Logging.{counted-same, owes_nothing}
use Rattle.mm_tables.proofs.Making.{no_entries}
use Rattle.mm_tables.proofs.trims.trim_next.Goals as goal

pub trim-requires-clause-key : goal.trim-requires-clause-key
trim-requires-clause-key c =
    (owes_nothing c.args.table c.index_mut.result.now
    (from_HoldsAt (HasCounted [] c.args.table) c.args.tables.now.items c.args.table c.index_mut.result.now c.index_mut.ensures.value
    (c.requires.counted c.args.table c.requires.within))).0

pub trim-requires-clause-indexes : goal.trim-requires-clause-indexes
trim-requires-clause-indexes c =
    (owes_nothing c.args.table c.index_mut.result.now
    (from_HoldsAt (HasCounted [] c.args.table) c.args.tables.now.items c.args.table c.index_mut.result.now c.index_mut.ensures.value
    (c.requires.counted c.args.table c.requires.within))).1

pub returns-clause-few : goal.returns-clause-few
returns-clause-few c =
    HoldsAt-here c.args.tables.now.items c.args.table c.index_mut.result.now c.trim.new.self c.requires.within c.index_mut.ensures.value
    (HasFewSpares 64) c.trim.ensures.few

pub returns-clause-kept : goal.returns-clause-kept
returns-clause-kept c t was =
    ⊎_elim
    (λ (same : t ≡ c.args.table).
    subst (λ (n : ℕ). HoldsAt (HasFewSpares 64) (set c.args.tables.now.items c.args.table c.trim.new.self) n) (sym same) (returns-clause-few c))
    (λ (apart : t ≢ c.args.table).
    HoldsAt-other c.args.tables.now.items c.args.table c.index_mut.result.now c.trim.new.self c.requires.within c.index_mut.ensures.value
    (HasFewSpares 64) t apart was)
    (cases_eq t c.args.table)

pub returns-clause-state : goal.returns-clause-state
returns-clause-state c =
    state-same c.args.tables.now.items c.args.table c.index_mut.result.now c.trim.new.self c.requires.within c.index_mut.ensures.value
    c.trim.ensures.slots

pub returns-clause-shapes : goal.returns-clause-shapes
returns-clause-shapes c =
    shapes-set c.args.tables.now.items c.args.table c.index_mut.result.now c.trim.new.self c.requires.within c.index_mut.ensures.value
    c.trim.ensures.shape

pub returns-clause-counted : goal.returns-clause-counted
returns-clause-counted c =
    let old = c.index_mut.result.now in
    let new = c.trim.new.self in
    let nothing = owes_nothing c.args.table old
    (from_HoldsAt (HasCounted [] c.args.table) c.args.tables.now.items c.args.table old c.index_mut.ensures.value
    (c.requires.counted c.args.table c.requires.within)) in
    counted-same c.args.tables.now.items c.args.table old new c.requires.within c.index_mut.ensures.value
    (ap (λ (x : Shape). x.key) c.trim.ensures.shape) [] c.trim.ensures.owed
    (no_entries new (ap (λ (r : IndexRoom). r.key) c.trim.ensures.owed ∙ nothing.0)
    (ap (λ (r : IndexRoom). r.indexes) c.trim.ensures.owed ∙ nothing.1))
    c.requires.counted

pub returns-clause-extents : goal.returns-clause-extents
returns-clause-extents c =
    extents-fewer c.args.tables.now.items c.args.table c.index_mut.result.now c.trim.new.self c.requires.within c.index_mut.ensures.value
    c.trim.ensures.extent
