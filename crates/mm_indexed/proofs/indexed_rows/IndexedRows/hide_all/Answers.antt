use Rattle.std.proofs.Common.{◌≡◌, ◌≢◌, List, [], sym, ap, subst, arith}
use Rattle.std.specs.List.{All, AllPairs, Contains}
use Rattle.mm_value.specs.declared.row_ref.RowRef.{RowRef}
use Rattle.mm_partition.specs.Places.{IsLive, slot_at}
use Rattle.mm_indexed.specs.Hiding.{HidesAll}
use Rattle.mm_indexed.specs.Index.{Emptied}
use Rattle.mm_indexed.specs.Kept.{StoredRows, UsesRoom}
use Rattle.ttree.specs.Held.{Held}
use Rattle.mm_indexed.proofs.Building.{distinct, live_refs}
use Rattle.mm_indexed.proofs.Hiding.{IsKept-emptied}
use Rattle.mm_indexed.proofs.Steps.{table_same}
use Rattle.mm_indexed.proofs.Turning.{EachTurns-weaker}
use Rattle.mm_indexed.proofs.indexed_rows.IndexedRows.hide_all.Goals as goal

pub hide_each-requires-clause-live : goal.hide_each-requires-clause-live
hide_each-requires-clause-live c =
    let i = c.self.inside in
    subst (All (IsLive i.rows)) (sym c.iter.ensures) (live_refs i.rows.types i.key (slot_at i.rows) i.by_key.refs i.indexes.items c.self.invariant)

pub hide_each-requires-clause-apart : goal.hide_each-requires-clause-apart
hide_each-requires-clause-apart c =
    let i = c.self.inside in
    subst (AllPairs (λ a b. a ≢ b)) (sym c.iter.ensures) (distinct i.key (slot_at i.rows) i.by_key.refs c.self.invariant.by_key)

pub hide_each-requires-clause-all : goal.hide_each-requires-clause-all
hide_each-requires-clause-all c =
    let i = c.self.inside in
    λ at live. subst (λ (refs : List RowRef). Contains refs at) (sym c.iter.ensures) ((c.self.invariant.held at).1 live)

pub invariant_of-self : goal.invariant_of-self
invariant_of-self c =
    let i = c.self.inside in
    let none : c.clear.new.self.refs ≡ [] = ap (λ (h : Held). h.refs) c.clear.ensures.empty in
    IsKept-emptied i.rows.types c.hide_each.new.rows.types c.hide_each.ensures.types i.key i.rows c.hide_each.new.rows i.by_key.refs
    c.clear.new.self.refs i.indexes.items c.clear_all.new.indexes.items c.hide_each.ensures.hidden none c.clear_all.ensures c.self.invariant

pub returns-clause-hidden : goal.returns-clause-hidden
returns-clause-hidden c = subst (λ (t : StoredRows). HidesAll t.places c.hide_each.new.rows) c.self.view_is c.hide_each.ensures.hidden

pub returns-clause-table : goal.returns-clause-table
returns-clause-table c =
    table_same 0 0 _ _ _ _ _ _ _ _ _ _ c.self.view_is c.hide_each.ensures.types (omega (arith, c.clear.ensures.spare))
    (EachTurns-weaker Emptied (UsesRoom 0) (λ x y t. record { same = t.same; spare = omega (arith, t.spare) }) _ _ c.clear_all.ensures)
