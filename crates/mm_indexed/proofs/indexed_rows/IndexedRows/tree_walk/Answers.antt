use Rattle.std.proofs.Common.{◌≡◌, ◌≤◌, ◌<◌, length, sym, subst, arith}
use Rattle.std.specs.List.{All}
use Rattle.std.specs.Prelude.{slice_index_or}
use Rattle.std.proofs.lemmas.List.Sorted.{All-permutation, IsPermutation-sym, length_permutation}
use Rattle.mm_partition.specs.Places.{IsLive, slot_at}
use Rattle.mm_indexed.specs.Index.{Keeps}
use Rattle.mm_indexed.specs.Kept.{IsKept, StoredRows}
use Rattle.mm_indexed.specs.Reads.{IsWalk}
use Rattle.mm_indexed.specs.declared.indexes.index.Index.TheVariants.{Tree}
use Rattle.mm_indexed.proofs.Building.{live_refs}
use Rattle.mm_indexed.proofs.WalkRows.{kept_walk, walk_rows}
use Rattle.mm_indexed.proofs.indexed_rows.IndexedRows.tree_walk.Goals as goal
use Rattle.mm_schema.specs.Rows.{most_rows}

pub iter-requires : goal.iter-requires
iter-requires c =
    let now = slot_at c.self.inside.rows in
    let refs = c.self.inside.by_key.refs in
    let within : c.args.index < length c.self.inside.indexes.items =
    subst (λ (v : StoredRows). c.args.index < length v.indexes) (sym c.self.view_is) c.requires.tree.1.0
    in
    let keeps : Keeps c.self.inside.key now refs c.index.result.now =
    subst (Keeps c.self.inside.key now refs) (sym c.index.ensures) (c.self.invariant.keep c.args.index c.index.result.now within)
    in
    let held : Keeps c.self.inside.key now refs (Tree c.in-Tree.column c.in-Tree.refs) = subst (Keeps c.self.inside.key now refs) c.in-Tree.is keeps in
    let few : length refs ≤ most_rows = subst (λ (v : StoredRows). length v.refs ≤ most_rows) (sym c.self.view_is) c.requires.few in
    omega (arith, few, length_permutation c.in-Tree.refs.refs refs held.1)

pub returns-clause-rows : goal.returns-clause-rows
returns-clause-rows c = λ apart column has.
    let stored : StoredRows = c.args.self.now in
    let kept : IsKept stored.places.types stored.key (slot_at stored.places) stored.refs stored.indexes =
    subst (λ (v : StoredRows). IsKept v.places.types v.key (slot_at v.places) v.refs v.indexes) c.self.view_is c.self.invariant
    in
    let there : c.index.result.now ≡ slice_index_or stored.indexes c.args.index c.index.result.now =
    subst (λ (v : StoredRows). c.index.result.now ≡ slice_index_or v.indexes c.args.index c.index.result.now) c.self.view_is c.index.ensures
    in
    walk_rows column stored c.iter.result apart kept.by_key
    (subst (IsWalk column stored) (sym c.iter.ensures)
    (kept_walk stored kept column c.args.index c.index.result.now c.in-Tree.column c.in-Tree.refs has there c.in-Tree.is))

pub returns-clause-live : goal.returns-clause-live
returns-clause-live c =
    let now = slot_at c.self.inside.rows in
    let refs = c.self.inside.by_key.refs in
    let within : c.args.index < length c.self.inside.indexes.items =
    subst (λ (v : StoredRows). c.args.index < length v.indexes) (sym c.self.view_is) c.requires.tree.1.0
    in
    let keeps : Keeps c.self.inside.key now refs c.index.result.now =
    subst (Keeps c.self.inside.key now refs) (sym c.index.ensures) (c.self.invariant.keep c.args.index c.index.result.now within)
    in
    let held : Keeps c.self.inside.key now refs (Tree c.in-Tree.column c.in-Tree.refs) = subst (Keeps c.self.inside.key now refs) c.in-Tree.is keeps in
    let live : All (IsLive c.self.inside.rows) refs =
    live_refs c.self.inside.rows.types c.self.inside.key now refs c.self.inside.indexes.items c.self.invariant in
    subst (λ (v : StoredRows). All (IsLive v.places) c.iter.result) c.self.view_is
    (subst (All (IsLive c.self.inside.rows)) (sym c.iter.ensures)
    (All-permutation (IsLive c.self.inside.rows) refs c.in-Tree.refs.refs (IsPermutation-sym c.in-Tree.refs.refs refs held.1) live))
