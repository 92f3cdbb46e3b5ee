-- Lemmas about a search: it continues on one side of a node, and keeps the entries of the last node of which it went to the right.
use Rattle.std.proofs.Common.{◌≡◌, ◌≢◌, ◌≤◌, List, [], ◌++◌, length, get_or, refl, subst, append_assoc, arith}
use Rattle.std.proofs.lemmas.List.Elements.{All-append, Contains-append_left, Contains-append_right}
use Rattle.std.specs.List.{All}
use Rattle.std.specs.Prelude.{Contains, Option, Some, None, IfSome, IfNone}
use Rattle.std.specs.Borrow.{Bor}
use Rattle.std.specs.Option.{option_copied}
use Rattle.std.specs.declared.cmp.Ordering.{Ordering}
use Rattle.std.specs.declared.cmp.Ordering.TheVariants.{Less, Equal, Greater}
use Rattle.mm_value.specs.declared.row_ref.RowRef.{RowRef}
use Rattle.mm_order.specs.Order.{IsOrdered}
use Rattle.mm_order.specs.Probe.{IsMonotone}
use Rattle.mm_order.proofs.Pairs.{All-append_left, All-append_right}
use Rattle.ttree_node.specs.Tree.{Root, in_order}
use Rattle.ttree_node.specs.Entries.{first_entry}
use Rattle.ttree.specs.Decides.{Decides}
use Rattle.ttree.proofs.Parts.{IsOrdered-front, IsOrdered-middle, IsOrdered-back}
use Rattle.ttree.proofs.Sought.{none_from_left, none_up_to}

-- The entries of a node, or none if there is no node.
abbrev pub entries_of : Option Root → List RowRef
entries_of None = []
entries_of (Some node) = node.entries

-- The entries found so far are before the rest, both are contained in the whole, and if nothing matches in either, nothing in the whole
-- matches.
pub record Narrows (Covers : RowRef → Type 0) (cmp : RowRef → RowRef → Ordering) (place : RowRef → Ordering) (whole found rest : List RowRef) : Type 0 where
  pub ordered : IsOrdered Covers cmp (found ++ rest)
  pub found_within : (r : RowRef) → Contains found r → Contains whole r
  pub rest_within : (r : RowRef) → Contains rest r → Contains whole r
  pub none : All (λ a. place a ≢ Equal) found → All (λ a. place a ≢ Equal) rest → All (λ a. place a ≢ Equal) whole

is_less : (o : Ordering) → o ≢ Greater → o ≢ Equal → o ≡ Less
is_less Less not_greater not_equal = refl
is_less Equal not_greater not_equal = absurd (not_equal refl)
is_less Greater not_greater not_equal = absurd (not_greater refl)

module _ (Covers : RowRef → Type 0) (cmp : RowRef → RowRef → Ordering) (Reaches : RowRef → Type 0) (place : RowRef → Ordering)
    (monotone : IsMonotone Covers cmp Reaches place) (whole found left middle right : List RowRef)
    (was : Narrows Covers cmp place whole found (left ++ middle ++ right)) (some : 1 ≤ length middle) (d : RowRef) where
  parts : IsOrdered Covers cmp ((found ++ left) ++ middle ++ right)
  parts = subst (IsOrdered Covers cmp) (simp append_assoc) was.ordered

  -- Lemma: if the least entry is after the position, the search continues on the left.
  pub narrows_left : place (get_or middle 0 d) ≡ Greater → Narrows Covers cmp place whole found left
  narrows_left greater = record {
    ordered = IsOrdered-front Covers cmp (found ++ left) middle (IsOrdered-front Covers cmp ((found ++ left) ++ middle) right parts);
    found_within = was.found_within;
    rest_within = λ r held. was.rest_within r (Contains-append_left (left ++ middle) right r (Contains-append_left left middle r held));
    none = λ in_found in_left. was.none in_found (none_from_left Covers cmp Reaches place monotone left middle right
        (IsOrdered-back Covers cmp found (left ++ middle ++ right) was.ordered) d some greater in_left);
  }

  -- Lemma: otherwise, the search continues on the right, with the entries of this node.
  pub narrows_right : place (get_or middle 0 d) ≢ Greater → Narrows Covers cmp place whole middle right
  narrows_right not_greater = record {
    ordered = IsOrdered-back Covers cmp (found ++ left) (middle ++ right) (subst (IsOrdered Covers cmp) (append_assoc (found ++ left) middle right) parts);
    found_within = λ r held. was.rest_within r (Contains-append_left (left ++ middle) right r (Contains-append_right left middle r held));
    rest_within = λ r held. was.rest_within r (Contains-append_right (left ++ middle) right r held);
    none = λ in_middle in_right.
        let less : place (get_or middle 0 d) ≡ Less = is_less (place (get_or middle 0 d)) not_greater (in_middle 0 d some) in
        let before : All (λ a. place a ≢ Equal) (found ++ left) =
        none_up_to Covers cmp Reaches place monotone (found ++ left) middle right parts d some less in
        was.none (All-append_left (λ a. place a ≢ Equal) found left before)
        (All-append (λ a. place a ≢ Equal) (left ++ middle) right
        (All-append (λ a. place a ≢ Equal) left middle (All-append_right (λ a. place a ≢ Equal) found left before) in_middle) in_right);
  }

-- Lemma: the order covers the first entry of a root.
pub first_covered : (Covers : RowRef → Type 0) (cmp : RowRef → RowRef → Ordering) (found : List RowRef) (n : Root)
    → IsOrdered Covers cmp (found ++ (in_order n.left ++ n.entries ++ in_order n.right)) → 1 ≤ length n.entries → Covers (first_entry n.entries)
first_covered Covers cmp found n was some =
    (IsOrdered-middle Covers cmp (in_order n.left) n.entries (in_order n.right)
    (IsOrdered-back Covers cmp found (in_order n.left ++ n.entries ++ in_order n.right) was)).covered 0 _ some

-- Lemmas: at the end of the search, the entries found decide. If there are none, nothing matches.
module _ (Covers : RowRef → Type 0) (cmp : RowRef → RowRef → Ordering) (place : RowRef → Ordering) (whole : List RowRef) where
  pub decided : (found : Option (Bor Root)) → IfSome found (λ node. 1 ≤ length node.now.entries)
      → Narrows Covers cmp place whole (entries_of (option_copied found)) [] → IfSome found (λ node. Decides Covers cmp place whole node.now.entries)
  decided None some narrows = tt
  decided (Some node) some narrows = record {
    filled = some;
    ordered = IsOrdered-front Covers cmp node.now.entries [] narrows.ordered;
    within = narrows.found_within;
    none = λ in_found. narrows.none in_found (λ k d within. absurd (omega (arith, within)));
  }

  pub none_decided : (found : Option (Bor Root)) → Narrows Covers cmp place whole (entries_of (option_copied found)) []
      → IfNone found (All (λ a. place a ≢ Equal) whole)
  none_decided None narrows = narrows.none (λ k d within. absurd (omega (arith, within))) (λ k d within. absurd (omega (arith, within)))
  none_decided (Some node) narrows = tt
