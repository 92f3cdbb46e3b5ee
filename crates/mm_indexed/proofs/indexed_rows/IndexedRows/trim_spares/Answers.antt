use Rattle.std.proofs.Common.{◌≡◌, sym, ap, subst}
use Rattle.mm_partition.specs.Places.{slot_at}
use Rattle.mm_indexed.specs.Index.{SameEntries, Trimmed}
use Rattle.mm_indexed.specs.Kept.{IsKept}
use Rattle.ttree.specs.Held.{Held}
use Rattle.mm_indexed.proofs.Steps.{IsKept-entries}
use Rattle.mm_indexed.proofs.Turning.{EachTurns-weaker}
use Rattle.mm_indexed.proofs.indexed_rows.IndexedRows.trim_spares.Goals as goal

pub invariant_of-self : goal.invariant_of-self
invariant_of-self c =
    let types = c.self.inside.rows.types in
    let key = c.self.inside.key in
    let now = slot_at c.self.inside.rows in
    let before = c.self.inside.indexes.items in
    let after = c.trim_all.new.indexes.items in
    let refs : c.trim_spares.new.self.refs ≡ c.self.inside.by_key.refs = ap (λ (h : Held). h.refs) c.trim_spares.ensures.rest in
    subst (λ xs. IsKept types key now xs after) (sym refs)
    (IsKept-entries types key now c.self.inside.by_key.refs before after c.self.invariant
    (EachTurns-weaker (Trimmed c.args.n) SameEntries (λ x y t. t.same) before after c.trim_all.ensures))
