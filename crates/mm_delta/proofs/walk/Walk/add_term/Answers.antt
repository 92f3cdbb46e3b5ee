use Rattle.std.proofs.Common.{◌∙◌, All, length, map, get_or, ap, subst, sym, arith}
use Rattle.std.specs.List.{filter_map, sum_by}
use Rattle.std.proofs.lemmas.Result.{on_ok_weaker}
use Rattle.mm_partition.specs.Views.{viewed}
use Rattle.mm_partition.specs.Places.{slot_at}
use Rattle.mm_store.proofs.Joining.{some_at}
use Rattle.mm_store.specs.Edits.{AreReady}
use Rattle.mm_multiset.specs.Counts.{count_in}
use Rattle.mm_delta.specs.Changes.{AreOf}
use Rattle.mm_delta.specs.Edited.{come_at, edits_at, gone_at}
use Rattle.mm_delta.specs.Skipping.{IsRowOf, IsTypeTested}
use Rattle.mm_delta.specs.Steps.{HasTables, row_reads}
use Rattle.mm_delta.specs.Unseen.{come_seen, gone_seen}
use Rattle.mm_delta.specs.Walk.{other_places}
use Rattle.mm_delta.proofs.EditedRows.{come_are_rows, gone_are_rows}
use Rattle.mm_delta.proofs.Terms.{bound_is, come_is, gone_is, gone_length, net_count, others_there, reads_same, term_count}
use Rattle.mm_delta.proofs.UnseenEdits.{among_come, among_gone, fewer_come, fewer_gone, seen_come, seen_gone}
use Rattle.mm_delta.proofs.walk.Walk.add_term.Goals as goal

pub seen_rows-requires-clause-there : goal.seen_rows-requires-clause-there
seen_rows-requires-clause-there c = c.requires.there c.args.self.now.place 0 c.requires.place

pub seen_rows-requires-clause-fit : goal.seen_rows-requires-clause-fit
seen_rows-requires-clause-fit c = λ stored at.
    subst (AreReady stored) (sym c.edits_of-edits.ensures) (c.requires.fit.fit (get_or c.args.self.now.tables.now c.args.self.now.place 0) stored at)

pub from_rows-requires-clause-there : goal.from_rows-requires-clause-there
from_rows-requires-clause-there c =
    subst (λ s. HasTables c.args.self.now.tables.now s (other_places (length c.args.self.now.tables.now) c.args.self.now.place)) (sym c.in_ok-seen.ensures.same)
    (others_there c.args.self.now.tables.now c.args.view.now.store c.args.self.now.place c.requires.there)

pub from_rows-requires-clause-fit : goal.from_rows-requires-clause-fit
from_rows-requires-clause-fit c = subst (λ s. AreOf s c.args.self.now.changes.now) (sym c.in_ok-seen.ensures.same) c.requires.fit

pub from_rows-requires-clause-typed : goal.from_rows-requires-clause-typed
from_rows-requires-clause-typed c = subst (λ s. IsTypeTested c.args.self.now.query.now s c.args.self.now.changes.now.edits c.args.self.now.tables.now)
    (sym c.in_ok-seen.ensures.same) c.requires.typed

pub from_rows-requires-clause-edited : goal.from_rows-requires-clause-edited
from_rows-requires-clause-edited c =
    let q = c.args.self.now.query.now in
    let k = c.args.self.now.place in
    let table = get_or c.args.self.now.tables.now k 0 in
    let at = some_at c.args.view.now.store.tables table (c.requires.there k 0 c.requires.place) in
    let Row = IsRowOf c.args.view.now.store c.args.self.now.changes.now.edits table in
    let edits = edits_at c.args.self.now.changes.now.edits table in
    subst (λ s. All (IsRowOf s c.args.self.now.changes.now.edits table) (map viewed c.deref.result.now)) (sym c.in_ok-seen.ensures.same)
    (subst (All Row)
    (sym (ap (map viewed) c.deref.ensures.value ∙ c.in_ok-seen.ensures.gone at.0 at.1
    ∙ ap (filter_map (gone_seen q k (slot_at at.0.places))) c.edits_of-edits.ensures))
    (among_gone q k (slot_at at.0.places) Row edits (subst (All Row) (gone_is c.args.view.now.store c.args.self.now.changes.now.edits table at.0 at.1)
    (gone_are_rows c.args.view.now c.args.self.now.changes.now.edits table at.0 at.1 c.requires.fit.fit))))

pub from_rows-requires-2-clause-there : goal.from_rows-requires-2-clause-there
from_rows-requires-2-clause-there c =
    subst (λ s. HasTables c.args.self.now.tables.now s (other_places (length c.args.self.now.tables.now) c.args.self.now.place))
    (sym (c.in_ok-from_rows.ensures.same ∙ c.in_ok-seen.ensures.same))
    (others_there c.args.self.now.tables.now c.args.view.now.store c.args.self.now.place c.requires.there)

pub from_rows-requires-2-clause-fit : goal.from_rows-requires-2-clause-fit
from_rows-requires-2-clause-fit c = subst (λ s. AreOf s c.args.self.now.changes.now) (sym (c.in_ok-from_rows.ensures.same ∙ c.in_ok-seen.ensures.same))
    c.requires.fit

pub from_rows-requires-2-clause-typed : goal.from_rows-requires-2-clause-typed
from_rows-requires-2-clause-typed c =
    subst (λ s. IsTypeTested c.args.self.now.query.now s c.args.self.now.changes.now.edits c.args.self.now.tables.now)
    (sym (c.in_ok-from_rows.ensures.same ∙ c.in_ok-seen.ensures.same)) c.requires.typed

pub from_rows-requires-2-clause-edited : goal.from_rows-requires-2-clause-edited
from_rows-requires-2-clause-edited c =
    let q = c.args.self.now.query.now in
    let k = c.args.self.now.place in
    let table = get_or c.args.self.now.tables.now k 0 in
    let at = some_at c.args.view.now.store.tables table (c.requires.there k 0 c.requires.place) in
    let Row = IsRowOf c.args.view.now.store c.args.self.now.changes.now.edits table in
    let edits = edits_at c.args.self.now.changes.now.edits table in
    subst (λ s. All (IsRowOf s c.args.self.now.changes.now.edits table) (map viewed c.deref-2.result.now))
    (sym (c.in_ok-from_rows.ensures.same ∙ c.in_ok-seen.ensures.same))
    (subst (All Row)
    (sym (ap (map viewed) c.deref-2.ensures.value ∙ c.in_ok-seen.ensures.come at.0 at.1
    ∙ ap (filter_map (come_seen q k (slot_at at.0.places))) c.edits_of-edits.ensures))
    (among_come q k (slot_at at.0.places) Row edits
    (subst (All Row) (come_is c.args.view.now.store c.args.self.now.changes.now.edits table at.0 at.1)
    (come_are_rows c.args.view.now c.args.self.now.changes.now.edits table at.0 at.1 c.requires.fit.fit))))

pub returns-clause-net : goal.returns-clause-net
returns-clause-net c =
    let q = c.args.self.now.query.now in
    let k = c.args.self.now.place in
    let store = c.args.view.now.store in
    let changes = c.args.self.now.changes.now.edits in
    let tables = c.args.self.now.tables.now in
    let table = get_or tables k 0 in
    let at = some_at store.tables table (c.requires.there k 0 c.requires.place) in
    let edits = edits_at changes table in
    on_ok_weaker c.from_rows-2.result
    (λ counted row.
    net_count q store changes tables k at.0 c.requires.place at.1 row (count_in row c.args.comes.now.entries) (count_in row c.from_rows-2.new.out.entries)
    (count_in row c.args.goes.now.entries) (count_in row c.from_rows.new.out.entries)
    (term_count q store c.seen_rows.new.view.store changes tables k row (seen_gone q k (slot_at at.0.places) edits)
    (map viewed c.deref.result.now) (count_in row c.args.goes.now.entries) (count_in row c.from_rows.new.out.entries) c.in_ok-seen.ensures.same
    (ap (map viewed) c.deref.ensures.value ∙ c.in_ok-seen.ensures.gone at.0 at.1
    ∙ ap (filter_map (gone_seen q k (slot_at at.0.places))) c.edits_of-edits.ensures)
    (c.in_ok-from_rows.ensures.counted row))
    (term_count q store c.from_rows.new.view.store changes tables k row (seen_come q k (slot_at at.0.places) edits)
    (map viewed c.deref-2.result.now) (count_in row c.args.comes.now.entries) (count_in row c.from_rows-2.new.out.entries)
    (c.in_ok-from_rows.ensures.same ∙ c.in_ok-seen.ensures.same)
    (ap (map viewed) c.deref-2.ensures.value ∙ c.in_ok-seen.ensures.come at.0 at.1
    ∙ ap (filter_map (come_seen q k (slot_at at.0.places))) c.edits_of-edits.ensures)
    (counted row)))
    c.from_rows-2.ensures.counted

pub returns-in_err-seen-clause-reads : goal.returns-in_err-seen-clause-reads
returns-in_err-seen-clause-reads c = λ skipped only.
    let table = get_or c.args.self.now.tables.now c.args.self.now.place 0 in
    let at = some_at c.args.view.now.store.tables table (c.requires.there c.args.self.now.place 0 c.requires.place) in
    omega (
      arith,
      c.in_err-seen.ensures.reads,
      gone_length c.args.view.now.store c.args.self.now.changes.now.edits table at.0 at.1 c.edits_of-edits.result.now c.edits_of-edits.ensures,
      bound_is (row_reads c.args.self.now.query.now c.args.view.now.store c.args.self.now.changes.now.edits c.args.self.now.tables.now skipped
          c.args.self.now.place) (gone_at c.args.view.now.store c.args.self.now.changes.now.edits table)
          (come_at c.args.view.now.store c.args.self.now.changes.now.edits table),
    )

pub returns-in_err-from_rows-clause-reads : goal.returns-in_err-from_rows-clause-reads
returns-in_err-from_rows-clause-reads c = λ skipped only.
    let q = c.args.self.now.query.now in
    let k = c.args.self.now.place in
    let store = c.args.view.now.store in
    let changes = c.args.self.now.changes.now.edits in
    let tables = c.args.self.now.tables.now in
    let table = get_or tables k 0 in
    let at = some_at store.tables table (c.requires.there k 0 c.requires.place) in
    let edits = edits_at changes table in
    let slots = slot_at at.0.places in
    let reads = row_reads q store changes tables skipped k in
    omega (
      arith,
      c.in_ok-seen.ensures.reads,
      c.in_err-from_rows.ensures.reads skipped only,
      reads_same q store c.seen_rows.new.view.store changes tables skipped k (map viewed c.deref.result.now) (seen_gone q k slots edits)
          c.in_ok-seen.ensures.same
          (ap (map viewed) c.deref.ensures.value ∙ c.in_ok-seen.ensures.gone at.0 at.1
          ∙ ap (filter_map (gone_seen q k slots)) c.edits_of-edits.ensures),
      fewer_gone q k slots reads edits,
      ap (sum_by reads) (gone_is store changes table at.0 at.1),
      gone_length store changes table at.0 at.1 c.edits_of-edits.result.now c.edits_of-edits.ensures,
      bound_is reads (gone_at store changes table) (come_at store changes table),
    )

pub returns-clause-reads : goal.returns-clause-reads
returns-clause-reads c = λ skipped only.
    let q = c.args.self.now.query.now in
    let k = c.args.self.now.place in
    let store = c.args.view.now.store in
    let changes = c.args.self.now.changes.now.edits in
    let tables = c.args.self.now.tables.now in
    let table = get_or tables k 0 in
    let at = some_at store.tables table (c.requires.there k 0 c.requires.place) in
    let edits = edits_at changes table in
    let slots = slot_at at.0.places in
    let reads = row_reads q store changes tables skipped k in
    omega (
      arith,
      c.in_ok-seen.ensures.reads,
      c.in_ok-from_rows.ensures.reads skipped only,
      c.from_rows-2.ensures.reads skipped only,
      reads_same q store c.seen_rows.new.view.store changes tables skipped k (map viewed c.deref.result.now) (seen_gone q k slots edits)
          c.in_ok-seen.ensures.same
          (ap (map viewed) c.deref.ensures.value ∙ c.in_ok-seen.ensures.gone at.0 at.1
          ∙ ap (filter_map (gone_seen q k slots)) c.edits_of-edits.ensures),
      fewer_gone q k slots reads edits,
      ap (sum_by reads) (gone_is store changes table at.0 at.1),
      reads_same q store c.from_rows.new.view.store changes tables skipped k (map viewed c.deref-2.result.now) (seen_come q k slots edits)
          (c.in_ok-from_rows.ensures.same ∙ c.in_ok-seen.ensures.same)
          (ap (map viewed) c.deref-2.ensures.value ∙ c.in_ok-seen.ensures.come at.0 at.1
          ∙ ap (filter_map (come_seen q k slots)) c.edits_of-edits.ensures),
      fewer_come q k slots reads edits,
      ap (sum_by reads) (come_is store changes table at.0 at.1),
      gone_length store changes table at.0 at.1 c.edits_of-edits.result.now c.edits_of-edits.ensures,
      bound_is reads (gone_at store changes table) (come_at store changes table),
    )
