-- Lemmas about the way down to the node that bounds a reference.
use Rattle.std.proofs.Common.{◌≡◌, ◌≢◌, ℕ, zero, suc, ◌≤◌, List, [], ◌∷◌, ◌++◌, length, get_or, take, drop, refl, sym, ap, ◌∙◌, subst, append_assoc}
use Rattle.std.proofs.Common.{arith}
use Rattle.std.proofs.lemmas.List.{append-nil, append_cancel_left, get_or_append_left}
use Rattle.std.proofs.Math.Seq.{take-append_seam}
use Rattle.std.proofs.lemmas.List.Elements.{All-append}
use Rattle.std.specs.Prelude.{IfSome, Option, Some, None}
use Rattle.std.specs.List.{All, insert}
use Rattle.std.specs.declared.cmp.Ordering.{Ordering}
use Rattle.std.specs.declared.cmp.Ordering.TheVariants.{Less, Greater}
use Rattle.mm_value.specs.declared.row_ref.RowRef.{RowRef}
use Rattle.mm_order.specs.Order.{IsTotalOrderOn, IsOrdered}
use Rattle.mm_order.specs.Refs.{AddsInOrder}
use Rattle.mm_order.proofs.Pairs.{All-append_left, All-append_right}
use Rattle.ttree_node.specs.Tree.{Tree, Empty, Fork, IsFork, Root, fork, in_order}
use Rattle.ttree_node.specs.Paths.{tree_at, root_entries, with_root, with_entries, lead, trail}
use Rattle.ttree_node.specs.declared.slides.Side.{Side}
use Rattle.ttree_node.specs.declared.slides.Side.TheVariants.{Left, Right}
use Rattle.ttree_node.proofs.PathLemmas.{same_height, in_order-at, in_order-with, lead-left, lead-right, trail-left}
use Rattle.ttree.specs.Balanced.{IsTTree}
use Rattle.ttree.proofs.Leaves.{fork_of_same_height}
use Rattle.ttree.proofs.Parts.{IsOrdered-front, IsOrdered-middle, IsOrdered-back, below_all, adds_behind}

-- The root of a tree may have these entries: at least 14 if it is an internal node.
abbrev pub MayHave : List RowRef → Tree → Type 0
MayHave now Empty = Unit {0}
MayHave now (Fork left entries right) = IsFork left → IsFork right → 14 ≤ length now

-- Lemma: a T-tree with other entries at the end of a path is a T-tree if these are 1 to 16, and enough for an internal node.
pub IsTTree-with : (path : List Side) (now : List RowRef) (t : Tree) → IsTTree t → 1 ≤ length now → length now ≤ 16 → MayHave now (tree_at path t)
    → IsTTree (with_entries path now t)
IsTTree-with [] now Empty is some fits may = tt
IsTTree-with [] now (Fork left entries right) is some fits may =
    (is.0, is.1, record { filled = some; fits = fits; full = may; left_low = is.2.left_low; right_low = is.2.right_low })
IsTTree-with (side ∷ path) now Empty is some fits may = tt
IsTTree-with (Left ∷ path) now (Fork left entries right) is some fits may =
    let h = same_height path now left in (
      IsTTree-with path now left is.0 some fits may,
      is.1,
      record {
        filled = is.2.filled;
        fits = is.2.fits;
        full = λ l r. is.2.full (fork_of_same_height left (with_entries path now left) h l) r;
        left_low = omega (arith, is.2.left_low, h);
        right_low = omega (arith, is.2.right_low, h);
      },
    )
IsTTree-with (Right ∷ path) now (Fork left entries right) is some fits may =
    let h = same_height path now right in (
      is.0,
      IsTTree-with path now right is.1 some fits may,
      record {
        filled = is.2.filled;
        fits = is.2.fits;
        full = λ l r. is.2.full l (fork_of_same_height right (with_entries path now right) h r);
        left_low = omega (arith, is.2.left_low, h);
        right_low = omega (arith, is.2.right_low, h);
      },
    )

-- Lemma: the root of a T-tree may have as many entries as it has, and more.
pub MayHave-more : (now : List RowRef) (t : Tree) → IsTTree t → length (root_entries t) ≤ length now → MayHave now t
MayHave-more now Empty is more = tt
MayHave-more now (Fork left entries right) is more = λ l r. omega (arith, is.2.full l r, more)

-- Lemma: the tree at the end of a path of a T-tree is a T-tree.
pub IsTTree-at : (path : List Side) (t : Tree) → IsTTree t → IsTTree (tree_at path t)
IsTTree-at [] t is = is
IsTTree-at (side ∷ path) Empty is = tt
IsTTree-at (Left ∷ path) (Fork left entries right) is = IsTTree-at path left is.0
IsTTree-at (Right ∷ path) (Fork left entries right) is = IsTTree-at path right is.1

-- Lemma: the whole, split around the entries of a node.
pub round_entries : (whole : Tree) (path : List Side) (n : Root) → tree_at path whole ≡ fork n
    → in_order whole ≡ (lead path whole ++ in_order n.left) ++ n.entries ++ (in_order n.right ++ trail path whole)
round_entries whole path n here =
    in_order-at path whole ∙ ap (λ t. lead path whole ++ in_order t ++ trail path whole) here ∙ simp append_assoc

-- Lemma: if the whole is ordered, so are the entries of a node.
pub ordered_at : (Covers : RowRef → Type 0) (cmp : RowRef → RowRef → Ordering) (whole : Tree) → IsOrdered Covers cmp (in_order whole)
    → (path : List Side) (n : Root) → tree_at path whole ≡ fork n → IsOrdered Covers cmp n.entries
ordered_at Covers cmp whole was path n here =
    IsOrdered-middle Covers cmp (lead path whole ++ in_order n.left) n.entries (in_order n.right ++ trail path whole)
    (subst (IsOrdered Covers cmp) (round_entries whole path n here) was)

-- Lemma: a property of all entries of the whole holds for those of a node.
pub All-at : (P : RowRef → Type 0) (whole : Tree) → All P (in_order whole) → (path : List Side) (n : Root) → tree_at path whole ≡ fork n → All P n.entries
All-at P whole all path n here =
    All-append_right P (lead path whole ++ in_order n.left) n.entries
    (All-append_left P ((lead path whole ++ in_order n.left) ++ n.entries) (in_order n.right ++ trail path whole)
    (subst (All P) (round_entries whole path n here) all))

-- Lemma: a prefix within the first of two lists is a prefix of that list.
take-front : (n : ℕ) (xs ys : List Side) → n ≤ length xs → take n (xs ++ ys) ≡ take n xs
take-front zero xs ys within = refl
take-front (suc n) [] ys within = absurd (omega (arith, within))
take-front (suc n) (x ∷ xs) ys within = ap (λ zs. x ∷ zs) (take-front n xs ys (omega (arith, within)))

-- The node found on the way at a depth: the reference is not before its first entry, and the way continues to the right of it.
pub record IsFound (cmp : RowRef → RowRef → Ordering) (sought : RowRef) (whole : Tree) (path : List Side) (depth : ℕ) (n : Root) : Type 0 where
  pub at : tree_at (take depth path) whole ≡ fork n
  pub not_before : cmp sought (get_or n.entries 0 sought) ≢ Less
  pub lead_is : lead path whole ≡ lead (take depth path) whole ++ (in_order n.left ++ n.entries)

module _ (Covers : RowRef → Type 0) (cmp : RowRef → RowRef → Ordering) (total : IsTotalOrderOn Covers cmp) (sought : RowRef) (covered : Covers sought)
    (whole : Tree) (was : IsOrdered Covers cmp (in_order whole)) where
  module _ (path : List Side) (n : Root) (here : tree_at path whole ≡ fork n) where
    pub parts : in_order whole ≡ lead path whole ++ (in_order n.left ++ n.entries ++ in_order n.right) ++ trail path whole
    parts = in_order-at path whole ∙ ap (λ t. lead path whole ++ in_order t ++ trail path whole) here

    -- Lemma: the whole in two parts, the second of which begins with the node's entries.
    halves : in_order whole ≡ (lead path whole ++ in_order n.left) ++ (n.entries ++ in_order n.right ++ trail path whole)
    halves = parts ∙ simp append_assoc

    -- Lemma: if the reference is before the node, it is before all entries to the right of the node's left side.
    pub behind_left : 1 ≤ length n.entries → cmp sought (get_or n.entries 0 sought) ≡ Less → All (λ a. cmp sought a ≡ Less) (trail (path ++ Left ∷ []) whole)
    behind_left some before =
        let back : List RowRef = n.entries ++ in_order n.right ++ trail path whole in
        let ordered : IsOrdered Covers cmp back = IsOrdered-back Covers cmp (lead path whole ++ in_order n.left) back
        (subst (IsOrdered Covers cmp) halves was) in
        let first : get_or back 0 sought ≡ get_or n.entries 0 sought =
        ap (λ xs. get_or xs 0 sought) (append_assoc n.entries (in_order n.right) (trail path whole))
        ∙ get_or_append_left n.entries (in_order n.right ++ trail path whole) sought 0 (omega (arith, some)) in
        subst (All (λ a. cmp sought a ≡ Less)) (sym (trail-left path whole n.left n.right n.entries here))
        (below_all Covers cmp total sought covered back ordered (ap (cmp sought) first ∙ before))

    pub found_here : cmp sought (get_or n.entries 0 sought) ≢ Less → IsFound cmp sought whole (path ++ Right ∷ []) (length path) n
    found_here not_before =
        let same : take (length path) (path ++ Right ∷ []) ≡ path = take-append_seam path (Right ∷ []) in
        record {
          at = ap (λ p. tree_at p whole) same ∙ here;
          not_before = not_before;
          lead_is = lead-right path whole n.left n.right n.entries here ∙ append_assoc (lead path whole) (in_order n.left) n.entries
              ∙ ap (λ p. lead p whole ++ (in_order n.left ++ n.entries)) (sym same);
        }

    pub found_before : (depth : ℕ) (m : Root) → depth ≤ length path → IsFound cmp sought whole path depth m
        → IsFound cmp sought whole (path ++ Left ∷ []) depth m
    found_before depth m within found =
        let same : take depth (path ++ Left ∷ []) ≡ take depth path = take-front depth path (Left ∷ []) within in
        record {
          at = ap (λ p. tree_at p whole) same ∙ found.at;
          not_before = found.not_before;
          lead_is = lead-left path whole n.left n.right n.entries here ∙ found.lead_is
              ∙ ap (λ p. lead p whole ++ (in_order m.left ++ m.entries)) (sym same);
        }

  -- Lemma: at the end of the way, all entries after those of the found node are after the reference.
  pub behind_found : (path : List Side) (depth : ℕ) (n : Root) → tree_at path whole ≡ Empty → IsFound cmp sought whole path depth n
      → All (λ a. cmp sought a ≡ Less) (trail path whole) → All (λ a. cmp sought a ≡ Less) (in_order n.right ++ trail (take depth path) whole)
  behind_found path depth n none found behind =
      let front : List RowRef = lead (take depth path) whole ++ (in_order n.left ++ n.entries) in
      let one : in_order whole ≡ front ++ trail path whole =
      in_order-at path whole ∙ ap (λ t. lead path whole ++ in_order t ++ trail path whole) none
      ∙ ap (λ xs. xs ++ trail path whole) (append-nil (lead path whole) ∙ found.lead_is) in
      let other : in_order whole ≡ front ++ (in_order n.right ++ trail (take depth path) whole) = parts (take depth path) n found.at ∙ simp append_assoc in
      subst (All (λ a. cmp sought a ≡ Less))
      (append_cancel_left front (trail path whole) (in_order n.right ++ trail (take depth path) whole) (sym one ∙ other)) behind

  -- Lemma: the reference is inserted among the entries of the node that bounds it.
  pub adds_at : (path : List Side) (n : Root) → tree_at path whole ≡ fork n → (at : ℕ) → 1 ≤ at → at ≤ length n.entries
      → All (λ a. cmp a sought ≡ Less) (take at n.entries) → All (λ a. cmp a sought ≡ Greater) (drop at n.entries)
      → All (λ a. cmp sought a ≡ Less) (in_order n.right ++ trail path whole)
      → AddsInOrder cmp (in_order whole) sought (in_order (with_entries path (insert n.entries at sought) whole))
  adds_at path n here at above_first within before after behind =
      let front : List RowRef = lead path whole ++ in_order n.left in
      let back : List RowRef = in_order n.right ++ trail path whole in
      let is : in_order whole ≡ (front ++ n.entries) ++ back = halves path n here ∙ simp append_assoc in
      let made : in_order (with_entries path (insert n.entries at sought) whole) ≡ (front ++ insert n.entries at sought) ++ back =
      in_order-with path (insert n.entries at sought) whole
      ∙ ap (λ t. lead path whole ++ in_order (with_root (insert n.entries at sought) t) ++ trail path whole) here ∙ simp append_assoc in
      let ordered : IsOrdered Covers cmp (front ++ n.entries) = IsOrdered-front Covers cmp (front ++ n.entries) back (subst (IsOrdered Covers cmp) is was) in
      let adds : AddsInOrder cmp (front ++ n.entries) sought (front ++ insert n.entries at sought) =
      adds_behind Covers cmp total front n.entries ordered sought covered at above_first within before after in
      record {
        front = adds.front;
        back = adds.back ++ back;
        refs_are = is ∙ ap (λ xs. xs ++ back) adds.refs_are ∙ append_assoc adds.front adds.back back;
        more_are = made ∙ ap (λ xs. xs ++ back) adds.more_are ∙ append_assoc adds.front (sought ∷ adds.back) back;
        above_front = adds.above_front;
        below_back = All-append (λ a. cmp sought a ≡ Less) adds.back back adds.below_back behind;
      }

-- Lemma: a consequence of a property of an optional value.
pub if_some : {X : Type 0} (P Q : X → Type 0) (found : Option X) → ((x : X) → P x → Q x) → IfSome found P → IfSome found Q
if_some P Q None follows holds = tt
if_some P Q (Some x) follows holds = follows x holds
