use Rattle.std.proofs.Common.{◌<◌, ℕ, length, sym, ap, ◌∙◌, subst, arith}
use Rattle.std.specs.List.{All}
use Rattle.mm_row_order.specs.Refs.{HasRow}
use Rattle.mm_tables.specs.Tables.{Stored, IsLogged, HasFewSpares, HoldsAt, slots_in}
use Rattle.mm_tables.specs.declared.log_record.LogRecord.{LogRecord}
use Rattle.mm_tables.proofs.InTables.{size_from_shapes}
use Rattle.mm_tables.proofs.Making.{all_within}
use Rattle.mm_tables.proofs.Settling.{ClearedIn, none_hidden, settled_live, settled_free, cleared-same, drops-same}
use Rattle.mm_tables.proofs.tables.Tables.settle.Goals as goal

pub forget_all-requires-clause-within : goal.forget_all-requires-clause-within
forget_all-requires-clause-within c =
    subst (All (λ (r : LogRecord). r.table < length c.self.inside.tables.items)) (sym c.as_slice-records.ensures.value)
    (all_within c.self.inside.tables.items c.self.inside.log.items c.self.invariant)

pub trim_all-requires-clause-within : goal.trim_all-requires-clause-within
trim_all-requires-clause-within c =
    subst (λ (n : ℕ). All (λ (r : LogRecord). r.table < n) c.as_slice-records.result.now)
    (sym (size_from_shapes c.self.inside.tables.items c.forget_all.new.tables.items c.forget_all.ensures.shapes))
    (subst (All (λ (r : LogRecord). r.table < length c.self.inside.tables.items)) (sym c.as_slice-records.ensures.value)
    (all_within c.self.inside.tables.items c.self.inside.log.items c.self.invariant))

pub invariant_of-self : goal.invariant_of-self
invariant_of-self c =
    let old = c.self.inside.tables.items in
    let mid = c.forget_all.new.tables.items in
    let new = c.trim_all.new.tables.items in
    let log = c.self.inside.log.items in
    subst (IsLogged new) (sym (c.shrink_to.ensures.items ∙ c.clear.ensures.items)) (record {
      few = omega (
        arith,
        c.self.invariant.few,
        size_from_shapes old mid c.forget_all.ensures.shapes,
        size_from_shapes mid new c.trim_all.ensures.shapes,
      );
      stands = tt;
      clean = none_hidden old new log c.self.invariant
          (cleared-same mid new log c.trim_all.ensures.state (subst (All (ClearedIn mid)) c.as_slice-records.ensures.value c.forget_all.ensures.cleared))
          (drops-same old mid new c.trim_all.ensures.state c.forget_all.ensures.others);
      counted = c.trim_all.ensures.counted;
    })

pub returns-clause-live : goal.returns-clause-live
returns-clause-live c t at live =
    let old = c.self.inside.tables.items in
    let mid = c.forget_all.new.tables.items in
    let new = c.trim_all.new.tables.items in
    settled_live (slots_in old t) (slots_in new t) (drops-same old mid new c.trim_all.ensures.state c.forget_all.ensures.others t) at
    (subst (λ (s : Stored). HasRow (slots_in s.tables t) at) (sym c.self.view_is) live)
    ∙ ap (λ (s : Stored). slots_in s.tables t at) c.self.view_is

pub returns-clause-rest : goal.returns-clause-rest
returns-clause-rest c t at no_row =
    let old = c.self.inside.tables.items in
    let mid = c.forget_all.new.tables.items in
    let new = c.trim_all.new.tables.items in
    let drops = drops-same old mid new c.trim_all.ensures.state c.forget_all.ensures.others in
    settled_free (slots_in old t) (slots_in new t) (drops t)
    (none_hidden old new c.self.inside.log.items c.self.invariant
    (cleared-same mid new c.self.inside.log.items c.trim_all.ensures.state
    (subst (All (ClearedIn mid)) c.as_slice-records.ensures.value c.forget_all.ensures.cleared)) drops t)
    at (λ row. no_row (subst (λ (s : Stored). HasRow (slots_in s.tables t) at) c.self.view_is row))

pub returns-clause-spares : goal.returns-clause-spares
returns-clause-spares c =
    subst (All (λ (r : LogRecord). HoldsAt (HasFewSpares 64) c.trim_all.new.tables.items r.table))
    (c.as_slice-records.ensures.value ∙ ap (λ (s : Stored). s.log) c.self.view_is) c.trim_all.ensures.spares
