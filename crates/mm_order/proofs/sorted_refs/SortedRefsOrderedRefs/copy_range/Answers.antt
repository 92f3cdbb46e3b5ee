use Rattle.std.proofs.Common.{◌≡◌, ◌≢◌, ◌-◌, ℕ, All, Ordering, Greater, List, ◌++◌, length, take, drop, Result, Ok, Err, sym, ap, ◌∙◌, subst, arith}
use Rattle.std.proofs.Common.{length-drop}
use Rattle.std.proofs.lemmas.List.{take_all}
use Rattle.std.proofs.lemmas.List.Sorted.{IsNonDecreasingBy-drop}
use Rattle.std.specs.Bool.{if◌then◌else◌}
use Rattle.std.specs.List.Sorted.{IsNonDecreasingBy}
use Rattle.std.specs.Ordering.{ordering_index}
use Rattle.std.specs.Result.{OnOk, is_ok}
use Rattle.mm_value.specs.declared.row_ref.RowRef.{RowRef}
use Rattle.mm_order.specs.Probe.{entries_between}
use Rattle.mm_order.specs.Refs.{RefList}
use Rattle.mm_order.proofs.Ordered.{entries_between-found, IsNonDecreasingBy-places}
use Rattle.mm_order.proofs.sorted_refs.SortedRefsOrderedRefs.copy_range.Goals as goal

-- `&xs[n..]` is the rest of xs from n on
rest_of : {X : Type 0} (xs : List X) (n : ℕ) → take (length xs - n) (drop n xs) ≡ drop n xs
rest_of xs n = take_all (length xs - n) (drop n xs) (omega (arith, length-drop n xs))

appended : {X T E : Type 0} (r : Result T E) (xs old more wanted : List X) → xs ≡ (if is_ok r then old ++ more else old) → more ≡ wanted
    → OnOk r (xs ≡ old ++ wanted)
appended (Ok v) xs old more wanted is same = is ∙ ap (λ l. old ++ l) same
appended (Err e) xs old more wanted is same = tt

pub upper_bound-requires-clause-rising : goal.upper_bound-requires-clause-rising
upper_bound-requires-clause-rising g c =
    let seen : c.as_slice-refs.result.now ≡ c.args.self.now.refs = c.as_slice-refs.ensures.value ∙ ap (λ (l : RefList). l.refs) c.self.view_is in
    let rising = IsNonDecreasingBy-places (g.O.RefOrder.covers c.args._order.now) (g.O.RefOrder.cmp c.args._order.now) c.args.self.now.refs c.requires.ordered
    (g.H.Probe.covers c.args.high.now) (g.H.Probe.place_of c.args.high.now) c.requires.high in
    subst (IsNonDecreasingBy (λ a. ordering_index (g.H.Probe.place_of c.args.high.now a))) (sym (rest_of c.as_slice-refs.result.now c.lower_bound.result))
    (IsNonDecreasingBy-drop (λ a. ordering_index (g.H.Probe.place_of c.args.high.now a)) c.lower_bound.result c.as_slice-refs.result.now
    (subst (IsNonDecreasingBy (λ a. ordering_index (g.H.Probe.place_of c.args.high.now a))) (sym seen) rising))

pub returns-clause-ok : goal.returns-clause-ok
returns-clause-ok g c =
    let seen : c.as_slice-refs.result.now ≡ c.args.self.now.refs = c.as_slice-refs.ensures.value ∙ ap (λ (l : RefList). l.refs) c.self.view_is in
    let low : RowRef → Ordering = g.L.Probe.place_of c.args.low.now in
    let high : RowRef → Ordering = g.H.Probe.place_of c.args.high.now in
    let rest : List RowRef = drop c.lower_bound.result c.as_slice-refs.result.now in
    let is_rest : take (length c.as_slice-refs.result.now - c.lower_bound.result) rest ≡ rest = rest_of c.as_slice-refs.result.now c.lower_bound.result in
    let found : entries_between low high c.as_slice-refs.result.now ≡ take c.upper_bound.result rest =
    entries_between-found low high c.as_slice-refs.result.now c.lower_bound.result c.upper_bound.result c.lower_bound.ensures.before c.lower_bound.ensures.rest
    (subst (λ xs. All (λ a. high a ≢ Greater) (take c.upper_bound.result xs)) is_rest c.upper_bound.ensures.before)
    (subst (λ xs. All (λ a. high a ≡ Greater) (drop c.upper_bound.result xs)) is_rest c.upper_bound.ensures.rest) in
    appended c.extend_from_slice.result c.extend_from_slice.new.self.items c.args.out.now.items _ _ c.extend_from_slice.ensures.items
    (ap (take c.upper_bound.result) is_rest ∙ sym found ∙ ap (entries_between low high) seen)
