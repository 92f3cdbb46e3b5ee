use Rattle.std.proofs.Common.{◌≡◌, ◌+◌, ◌<◌, ◌≤◌, [], ◌++◌, List, Some, inl, inr, length, map, take, sym, ap, ◌∙◌, subst, arith}
use Rattle.std.specs.List.{All, sum_by}
use Rattle.std.proofs.lemmas.Result.{err_from_is_err_and}
use Rattle.mm_partition.specs.Views.{viewed}
use Rattle.mm_query.specs.Queries.{rows_read}
use Rattle.mm_partition.specs.Places.{IsLive}
use Rattle.mm_select.specs.Matches.{matches}
use Rattle.mm_store.specs.Tables.{Tables, rows_at}
use Rattle.mm_templist.specs.Combos.{AreLive, Combos, combo_rows, rows_of_combo}
use Rattle.mm_value.specs.declared.row_ref.RowRef.{RowRef}
use Rattle.mm_join.proofs.Along.{candidates_here, due_here, few_here, found_step, prefix_within, refused, spent_more, spent_within}
use Rattle.mm_join.proofs.Caps.{cap_within}
use Rattle.mm_join.proofs.Progress.{Progress, due_end, holds_there, joined_end, live_end, none_step, one_wider}
use Rattle.mm_join.specs.AccessMethods.{found_behind, listed, reads_along}
use Rattle.mm_join.specs.declared.inner.Inner.{Inner}
use Rattle.mm_join.proofs.join.Join.along.Goals as goal

pub choose-requires : goal.choose-requires
choose-requires c =
    let store = c.args.view.now.store in
    let outer = c.args.self.now.outer.now in
    let front = c.combo-refs.result.now in
    subst (λ (s : Tables). AreLive s c.descriptor.result.tables.now front) (sym (c.has_none.ensures.store ∙ c.loop-i.invariant.same))
    (subst (λ ts. AreLive store ts front) (sym c.descriptor.ensures.tables)
    (holds_there outer.combos c.loop-i.i front c.combo-refs.ensures (AreLive store outer.tables) c.requires.next.1.1))

pub find-requires-clause-live : goal.find-requires-clause-live
find-requires-clause-live c =
    let store = c.args.view.now.store in
    let outer = c.args.self.now.outer.now in
    let front = c.combo-refs.result.now in
    subst (λ (s : Tables). AreLive s c.descriptor.result.tables.now front) (sym (c.choose.ensures.same ∙ (c.has_none.ensures.store ∙ c.loop-i.invariant.same)))
    (subst (λ ts. AreLive store ts front) (sym c.descriptor.ensures.tables)
    (holds_there outer.combos c.loop-i.i front c.combo-refs.ensures (AreLive store outer.tables) c.requires.next.1.1))

pub add_all-requires-clause-live : goal.add_all-requires-clause-live
add_all-requires-clause-live c = λ stored here.
    let candidates : c.candidates-candidates.result.now ≡ listed c.has_none.new.self c.find.new.found.items =
    c.candidates-candidates.ensures ∙ (λ j. listed (c.find.ensures.same j) (c.as_slice.ensures.value j)) in
    subst (All (IsLive stored.places)) (sym candidates) (c.in_ok-find.ensures.found.live stored here)

pub add_all-requires-clause-wide : goal.add_all-requires-clause-wide
add_all-requires-clause-wide c =
    let store = c.args.view.now.store in
    let outer = c.args.self.now.outer.now in
    let front = c.combo-refs.result.now in
    one_wider store outer.tables c.loop-i.list.tables front c.requires.next.0
    (holds_there outer.combos c.loop-i.i front c.combo-refs.ensures (AreLive store outer.tables) c.requires.next.1.1)
    (c.loop-i.invariant.tables ∙ c.requires.next.1.0.0)

pub returns-in_err-choose-clause-reads : goal.returns-in_err-choose-clause-reads
returns-in_err-choose-clause-reads c = λ table is.
    let store = c.args.view.now.store in
    let outer = c.args.self.now.outer.now in
    let front = c.combo-refs.result.now in
    let method = c.args.method.now in
    let live = holds_there outer.combos c.loop-i.i front c.combo-refs.ensures (AreLive store outer.tables) c.requires.next.1.1 in
    omega (
      arith,
      spent_within method (rows_at store.tables table) store outer c.loop-i.i front c.combo-refs.ensures live,
      subst (λ n. c.loop-i.view.reads ≤ c.args.view.now.reads
          + sum_by (reads_along method (rows_at store.tables n)) (take c.loop-i.i (combo_rows store outer)))
          (ap (λ (x : Inner). x.table) (c.inner-inner.ensures table is.0)) c.loop-i.invariant.reads,
      prefix_within c.args.method.now c.loop-i.method c.loop-i.invariant.method c.loop-i.view.reads c.has_none.new.view.reads c.has_none.ensures.reads,
      c.choose.ensures.reads,
      ap length c.descriptor.ensures.tables,
    )

pub returns-in_err-find-clause-reads : goal.returns-in_err-find-clause-reads
returns-in_err-find-clause-reads c = λ table is.
    let store = c.args.view.now.store in
    let outer = c.args.self.now.outer.now in
    let front = c.combo-refs.result.now in
    let method = c.args.method.now in
    let live = holds_there outer.combos c.loop-i.i front c.combo-refs.ensures (AreLive store outer.tables) c.requires.next.1.1 in
    omega (
      arith,
      spent_within method (rows_at store.tables table) store outer c.loop-i.i front c.combo-refs.ensures live,
      subst (λ n. c.loop-i.view.reads ≤ c.args.view.now.reads
          + sum_by (reads_along method (rows_at store.tables n)) (take c.loop-i.i (combo_rows store outer)))
          (ap (λ (x : Inner). x.table) (c.inner-inner.ensures table is.0)) c.loop-i.invariant.reads,
      prefix_within c.args.method.now c.loop-i.method c.loop-i.invariant.method c.loop-i.view.reads c.has_none.new.view.reads c.has_none.ensures.reads,
      c.choose.ensures.reads,
      ap length c.descriptor.ensures.tables,
    )

pub returns-in_err-add_all-clause-reads : goal.returns-in_err-add_all-clause-reads
returns-in_err-add_all-clause-reads c = λ table is.
    let store = c.args.view.now.store in
    let outer = c.args.self.now.outer.now in
    let front = c.combo-refs.result.now in
    let method = c.args.method.now in
    let live = holds_there outer.combos c.loop-i.i front c.combo-refs.ensures (AreLive store outer.tables) c.requires.next.1.1 in
    let candidates : c.candidates-candidates.result.now ≡ listed c.has_none.new.self c.find.new.found.items =
    c.candidates-candidates.ensures ∙ (λ j. listed (c.find.ensures.same j) (c.as_slice.ensures.value j)) in
    let inner = c.inner-inner.ensures table is.0 in
    let few = few_here store c.args.self.now table c.inner-inner.result inner c.choose.new.view.store
    (c.choose.ensures.same ∙ (c.has_none.ensures.store ∙ c.loop-i.invariant.same)) front
    c.descriptor.result.tables.now c.descriptor.ensures.tables method c.has_none.new.self (c.has_none.ensures.same ∙ c.loop-i.invariant.method)
    (length c.candidates-candidates.result.now)
    (subst (λ l. length l ≤ found_behind c.has_none.new.self (rows_at c.choose.new.view.store.tables c.inner-inner.result.table)
    (rows_of_combo c.choose.new.view.store c.descriptor.result.tables.now front)) (sym candidates) c.in_ok-find.ensures.found.few) in
    let within : c.add_all.new.view.reads ≤ c.args.view.now.reads
    + sum_by (reads_along method (rows_at store.tables c.inner-inner.result.table)) (combo_rows store outer) =
    omega (
      arith,
      spent_within method (rows_at store.tables c.inner-inner.result.table) store outer c.loop-i.i front c.combo-refs.ensures live,
      c.loop-i.invariant.reads,
      prefix_within c.args.method.now c.loop-i.method c.loop-i.invariant.method c.loop-i.view.reads c.has_none.new.view.reads c.has_none.ensures.reads,
      c.choose.ensures.reads,
      c.add_all.ensures.reads,
      few,
      ap length c.descriptor.ensures.tables,
    ) in
    subst (λ n. c.add_all.new.view.reads ≤ c.args.view.now.reads + sum_by (reads_along method (rows_at store.tables n)) (combo_rows store outer))
    (ap (λ (x : Inner). x.table) inner) within

pub returns-in_err-add_all-clause-joins : goal.returns-in_err-add_all-clause-joins
returns-in_err-add_all-clause-joins c = λ table is.
    let p = err_from_is_err_and c.from_residual-in_err-add_all.result c.from_residual-in_err-add_all.ensures.1 in
    let store = c.args.view.now.store in
    let join = c.args.self.now in
    let outer = join.outer.now in
    let front = c.combo-refs.result.now in
    let rows = rows_read viewed c.choose.new.rows.items in
    let inner = c.inner-inner.ensures table is.0 in
    let t : c.inner-inner.result.table ≡ table = ap (λ (x : Inner). x.table) inner in
    let same = c.choose.ensures.same ∙ (c.has_none.ensures.store ∙ c.loop-i.invariant.same) in
    let candidates : c.candidates-candidates.result.now ≡ listed c.has_none.new.self c.find.new.found.items =
    c.candidates-candidates.ensures ∙ (λ j. listed (c.find.ensures.same j) (c.as_slice.ensures.value j)) in
    let chosen : rows ≡ map Some (rows_of_combo store outer.tables front) =
    c.in_ok-choose.ensures.rows ∙
    (λ j. map Some (rows_of_combo ((c.has_none.ensures.store ∙ c.loop-i.invariant.same) j) (c.descriptor.ensures.tables j) front)) in
    let are = candidates_here store join table c.inner-inner.result inner c.choose.new.view.store same front c.descriptor.result.tables.now
    c.descriptor.ensures.tables _ _ c.in_ok-find.ensures.found in
    let tried : List (List RowRef) = c.loop-i.list.combos ++ matches c.choose.new.view.store c.inner-inner.result.table c.inner-inner.result.atoms.now rows
    front
    c.candidates-candidates.result.now in
    let step : Progress store outer.tables c.inner-inner.result.table join.atoms.now outer.combos (c.loop-i.i + 1) tried =
    subst (λ l. Progress store outer.tables c.inner-inner.result.table join.atoms.now outer.combos (c.loop-i.i + 1)
    (c.loop-i.list.combos ++ matches c.choose.new.view.store c.inner-inner.result.table c.inner-inner.result.atoms.now rows front l)) (sym candidates)
    (found_step store join table c.inner-inner.result inner c.choose.new.view.store same c.loop-i.i c.loop-i.list.combos front rows
    (listed c.has_none.new.self c.find.new.found.items) _ (subst (λ n. n < length store.tables) (sym t) is.1) c.requires.next.1.1 c.combo-refs.ensures
    chosen are c.loop-i.invariant.progress) in
    rw (p.1, p.2) (refused store join table _ (elim c.in_err-add_all.ensures.due [
      | inl due ↦ inl (due_here store join table c.inner-inner.result inner c.choose.new.view.store same (c.loop-i.i + 1) tried _ is.0 step due)
      | inr memory ↦ inr memory
    ]))

pub loop-i-preserved-then-has_none : goal.loop-i-preserved-then-has_none
loop-i-preserved-then-has_none c =
    let store = c.args.view.now.store in
    let join = c.args.self.now in
    let outer = join.outer.now in
    let front = c.combo-refs.result.now in
    let table = c.requires.next.0 in
    let next = c.requires.next.1.0 in
    let all = c.requires.next.1.1 in
    let inner = c.inner-inner.ensures table next.0 in
    let t : c.inner-inner.result.table ≡ table = ap (λ (x : Inner). x.table) inner in
    let live = holds_there outer.combos c.loop-i.i front c.combo-refs.ensures (AreLive store outer.tables) all in
    let are = candidates_here store join table c.inner-inner.result inner c.loop-i.view.store c.loop-i.invariant.same front c.descriptor.result.tables.now
    c.descriptor.ensures.tables 0 [] (c.has_none.ensures.none c.if-has_none.true) in
    record {
      same = c.has_none.ensures.store ∙ c.loop-i.invariant.same;
      method = c.has_none.ensures.same ∙ c.loop-i.invariant.method;
      tables = c.loop-i.invariant.tables;
      fields = c.loop-i.invariant.fields;
      few = c.loop-i.invariant.few;
      progress = none_step store outer.tables c.inner-inner.result.table join.atoms.now outer.combos c.loop-i.i c.loop-i.list.combos front 0
          (subst (λ n. n < length store.tables) (sym t) next.1) all c.combo-refs.ensures are c.loop-i.invariant.progress;
      reads = omega (
        arith,
        spent_more c.args.method.now (rows_at store.tables c.inner-inner.result.table) store outer c.loop-i.i front c.combo-refs.ensures live,
        c.loop-i.invariant.reads,
        prefix_within c.args.method.now c.loop-i.method c.loop-i.invariant.method c.loop-i.view.reads c.has_none.new.view.reads c.has_none.ensures.reads,
      );
    }

pub loop-i-preserved : goal.loop-i-preserved
loop-i-preserved c =
    let store = c.args.view.now.store in
    let join = c.args.self.now in
    let outer = join.outer.now in
    let front = c.combo-refs.result.now in
    let method = c.args.method.now in
    let rows = rows_read viewed c.choose.new.rows.items in
    let table = c.requires.next.0 in
    let next = c.requires.next.1.0 in
    let all = c.requires.next.1.1 in
    let inner = c.inner-inner.ensures table next.0 in
    let t : c.inner-inner.result.table ≡ table = ap (λ (x : Inner). x.table) inner in
    let same = c.choose.ensures.same ∙ (c.has_none.ensures.store ∙ c.loop-i.invariant.same) in
    let live = holds_there outer.combos c.loop-i.i front c.combo-refs.ensures (AreLive store outer.tables) all in
    let candidates : c.candidates-candidates.result.now ≡ listed c.has_none.new.self c.find.new.found.items =
    c.candidates-candidates.ensures ∙ (λ j. listed (c.find.ensures.same j) (c.as_slice.ensures.value j)) in
    let chosen : rows ≡ map Some (rows_of_combo store outer.tables front) =
    c.in_ok-choose.ensures.rows ∙
    (λ j. map Some (rows_of_combo ((c.has_none.ensures.store ∙ c.loop-i.invariant.same) j) (c.descriptor.ensures.tables j) front)) in
    let are = candidates_here store join table c.inner-inner.result inner c.choose.new.view.store same front c.descriptor.result.tables.now
    c.descriptor.ensures.tables _ _ c.in_ok-find.ensures.found in
    let tried : List (List RowRef) = c.loop-i.list.combos ++ matches c.choose.new.view.store c.inner-inner.result.table c.inner-inner.result.atoms.now rows
    front
    c.candidates-candidates.result.now in
    let step : Progress store outer.tables c.inner-inner.result.table join.atoms.now outer.combos (c.loop-i.i + 1) tried =
    subst (λ l. Progress store outer.tables c.inner-inner.result.table join.atoms.now outer.combos (c.loop-i.i + 1)
    (c.loop-i.list.combos ++ matches c.choose.new.view.store c.inner-inner.result.table c.inner-inner.result.atoms.now rows front l)) (sym candidates)
    (found_step store join table c.inner-inner.result inner c.choose.new.view.store same c.loop-i.i c.loop-i.list.combos front rows
    (listed c.has_none.new.self c.find.new.found.items) _ (subst (λ n. n < length store.tables) (sym t) next.1) all c.combo-refs.ensures
    chosen are c.loop-i.invariant.progress) in
    let few = few_here store join table c.inner-inner.result inner c.choose.new.view.store same front
    c.descriptor.result.tables.now c.descriptor.ensures.tables method c.has_none.new.self (c.has_none.ensures.same ∙ c.loop-i.invariant.method)
    (length c.candidates-candidates.result.now)
    (subst (λ l. length l ≤ found_behind c.has_none.new.self (rows_at c.choose.new.view.store.tables c.inner-inner.result.table)
    (rows_of_combo c.choose.new.view.store c.descriptor.result.tables.now front)) (sym candidates) c.in_ok-find.ensures.found.few) in
    record {
      same = c.add_all.ensures.same ∙ same;
      method = c.find.ensures.same ∙ (c.has_none.ensures.same ∙ c.loop-i.invariant.method);
      tables = ap (λ (list : Combos). list.tables) c.in_ok-add_all.ensures.list ∙ c.loop-i.invariant.tables;
      fields = ap (λ (list : Combos). list.fields) c.in_ok-add_all.ensures.list ∙ c.loop-i.invariant.fields;
      few = subst (λ (list : Combos). length list.combos ≤ join.cap) (sym c.in_ok-add_all.ensures.list)
          (subst (λ n. length tried ≤ n) (ap (λ (x : Inner). x.cap) inner) (cap_within c.inner-inner.result.cap tried c.in_ok-add_all.ensures.due));
      progress = subst (λ (list : Combos). Progress store outer.tables c.inner-inner.result.table join.atoms.now outer.combos (c.loop-i.i + 1) list.combos)
          (sym c.in_ok-add_all.ensures.list) step;
      reads = omega (
        arith,
        spent_more method (rows_at store.tables c.inner-inner.result.table) store outer c.loop-i.i front c.combo-refs.ensures live,
        c.loop-i.invariant.reads,
        prefix_within c.args.method.now c.loop-i.method c.loop-i.invariant.method c.loop-i.view.reads c.has_none.new.view.reads c.has_none.ensures.reads,
        c.choose.ensures.reads,
        c.add_all.ensures.reads,
        few,
        ap length c.descriptor.ensures.tables,
      );
    }

pub returns-clause-joins : goal.returns-clause-joins
returns-clause-joins c = λ table is.
    let store = c.args.view.now.store in
    let join = c.args.self.now in
    let outer = join.outer.now in
    let t = ap (λ (x : Inner). x.table) (c.inner-inner.ensures table is.0) in
    let past : length outer.combos ≤ c.loop-i.i = subst (λ n. n ≤ c.loop-i.i) c.len-i-end.ensures c.loop-i-test.false in
    record {
      due = due_end store outer join.descriptor.tables.now join.atoms.now table c.inner-inner.result.table t is.0 c.loop-i.list c.loop-i.i
          c.loop-i.invariant.tables past c.loop-i.invariant.progress join.cap c.loop-i.invariant.few;
      joined = joined_end store outer join.descriptor.tables.now join.atoms.now table c.inner-inner.result.table t is.0 c.loop-i.list c.loop-i.i
          c.loop-i.invariant.tables past c.loop-i.invariant.progress;
      live = live_end store outer join.descriptor.tables.now join.atoms.now table c.inner-inner.result.table t is.0 c.loop-i.list c.loop-i.i
          c.loop-i.invariant.tables past c.loop-i.invariant.progress;
      tables = c.loop-i.invariant.tables;
      fields = c.loop-i.invariant.fields;
    }
