use Rattle.std.proofs.Common.{◌≡◌, ◌++◌, Option, Some, sym, ap, ◌∙◌, subst}
use Rattle.std.specs.Prelude.{OnOk}
use Rattle.std.specs.Option.{option_map}
use Rattle.mm_order.specs.Probe.{entries_between}
use Rattle.mm_partition.specs.Places.{slot_at}
use Rattle.mm_schema.proofs.Orderings.{equal_from_is_eq}
use Rattle.mm_value.specs.Views.{value_of}
use Rattle.mm_value.proofs.Orders.{value_cmp_exact}
use Rattle.mm_value.specs.declared.values.Value.{Value}
use Rattle.mm_row_order.specs.Ends.{end_place}
use Rattle.mm_indexed.specs.Twins.{AreApart}
use Rattle.mm_indexed.proofs.Apart.{KeysApart-refs}
use Rattle.mm_indexed.proofs.OneKey.{OnOk-under, pushed_key}
use Rattle.mm_indexed.proofs.indexed_rows.IndexedRows.key_range.Goals as goal

pub returns-then-is_eq-clause-ok : goal.returns-then-is_eq-clause-ok
returns-then-is_eq-clause-ok c = OnOk-under (AreApart c.args.self.now.key (slot_at c.args.self.now.places))
    (c.push_found.new.out.items ≡ c.args.out.now.items ++ entries_between
    (end_place c.args.self.now.key (slot_at c.args.self.now.places) (option_map value_of c.args.low))
    (end_place c.args.self.now.key (slot_at c.args.self.now.places) (option_map value_of c.args.high)) c.args.self.now.refs)
    c.push_found.result (λ apart.
    let stored = c.args.self.now in
    let now = slot_at stored.places in
    let first = value_of c.in-Some-Some.first in
    let last = value_of c.in-Some-Some.last in
    let same : first ≡ last = value_cmp_exact first last
    (sym c.compare.ensures ∙ equal_from_is_eq c.compare.result (sym c.is_eq.ensures ∙ c.if-is_eq.true)) in
    let low : option_map value_of c.args.low ≡ Some first = ap (option_map value_of) c.in-Some-Some.is-0 in
    let high : option_map value_of c.args.high ≡ Some first = ap (option_map value_of) c.in-Some-Some.is-1 ∙ ap Some (sym same) in
    subst (λ (end : Option Value). OnOk c.push_found.result (c.push_found.new.out.items ≡ c.args.out.now.items
    ++ entries_between (end_place stored.key now end) (end_place stored.key now (option_map value_of c.args.high)) stored.refs)) (sym low)
    (subst (λ (end : Option Value). OnOk c.push_found.result (c.push_found.new.out.items ≡ c.args.out.now.items
    ++ entries_between (end_place stored.key now (Some first)) (end_place stored.key now end) stored.refs)) (sym high)
    (pushed_key stored.key now stored.refs
    (KeysApart-refs stored.key stored.key now stored.refs apart c.is_kept.ensures.by_key) first c.push_found.result c.find.result
    c.args.out.now.items c.push_found.new.out.items
    c.find.ensures.held c.find.ensures.fits c.find.ensures.none c.push_found.ensures.some c.push_found.ensures.none)))
