-- Lemmas: if no entry of a root is in the range between two probes, all entries in the range are on one of its sides.
use Rattle.std.proofs.Common.{◌≡◌, ◌-◌, ◌++◌, List, [], length, ap, ◌∙◌, arith}
use Rattle.std.proofs.lemmas.List.{append-nil}
use Rattle.std.proofs.lemmas.List.Elements.{filter-append}
use Rattle.std.specs.declared.cmp.Ordering.{Ordering}
use Rattle.std.specs.declared.cmp.Ordering.TheVariants.{Less, Greater}
use Rattle.mm_value.specs.declared.row_ref.RowRef.{RowRef}
use Rattle.mm_order.specs.Probe.{entries_between, is_between}
use Rattle.mm_order.proofs.Places.{less_up_to, greater_from}
use Rattle.ttree_node.specs.Entries.{first_entry, last_entry}
use Rattle.ttree_node.specs.Tree.{Root, fork, in_order}
use Rattle.ttree.specs.Searchable.{IsSearchable}
use Rattle.ttree.proofs.Between.{none_from_low, none_to_high, nothing_left, nothing_right}
use Rattle.ttree.proofs.Reached.{risen}

module _ (Covers : RowRef → Type 0) (cmp : RowRef → RowRef → Ordering) (ReachesLow ReachesHigh : RowRef → Type 0) (low high : RowRef → Ordering) (n : Root)
    (is_low : IsSearchable Covers cmp ReachesLow low (fork n)) (is_high : IsSearchable Covers cmp ReachesHigh high (fork n)) where
  abbrev left : List RowRef
  left = in_order n.left

  abbrev right : List RowRef
  right = in_order n.right

  abbrev between : List RowRef → List RowRef
  between = entries_between low high

  parts : between (in_order (fork n)) ≡ between left ++ between n.entries ++ between right
  parts = filter-append (is_between low high) (left ++ n.entries) right
      ∙ ap (λ l. l ++ between right) (filter-append (is_between low high) left n.entries)

  -- Lemma: if the last entry is before the range, that is the right side.
  pub behind_root : low (last_entry n.entries) ≡ Less → between (in_order (fork n)) ≡ between right
  behind_root last =
      let none = none_from_low low high n.entries is_low.balanced.2.filled (risen Covers cmp ReachesLow low n is_low)
      (risen Covers cmp ReachesHigh high n is_high) last in
      let first : low (first_entry n.entries) ≡ Less =
      less_up_to low n.entries (length n.entries - 1) _ (risen Covers cmp ReachesLow low n is_low) (omega (arith, is_low.balanced.2.filled)) last 0
      (record { slot = 0 }) (omega (arith, is_low.balanced.2.filled)) (omega (arith)) in
      let nothing = nothing_left Covers cmp left n.entries right is_low.ordered is_low.balanced.2.filled _ ReachesLow low is_low.monotone first high in
      parts ∙ (λ i. nothing i ++ none i ++ between right)

  -- Lemma: if the first entry is after the range, that is the left side.
  pub before_root : high (first_entry n.entries) ≡ Greater → between (in_order (fork n)) ≡ between left
  before_root first =
      let none = none_to_high low high n.entries is_low.balanced.2.filled (risen Covers cmp ReachesLow low n is_low)
      (risen Covers cmp ReachesHigh high n is_high) first in
      let last : high (last_entry n.entries) ≡ Greater =
      greater_from high n.entries 0 _ (risen Covers cmp ReachesHigh high n is_high) is_low.balanced.2.filled first (length n.entries - 1)
      (record { slot = 0 }) (omega (arith)) (omega (arith, is_low.balanced.2.filled)) in
      let nothing = nothing_right Covers cmp left n.entries right is_high.ordered is_low.balanced.2.filled _ ReachesHigh high is_high.monotone last low in
      parts ∙ ((λ i. between left ++ none i ++ nothing i) ∙ (append-nil (between left ++ []) ∙ append-nil (between left)))
