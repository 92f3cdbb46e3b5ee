-- Lemmas about edits of a node that keep the tree's shape.
use Rattle.std.proofs.Common.{◌≡◌, ℕ, ◌-◌, ◌<◌, ◌≤◌, List, [], ◌∷◌, ◌++◌, length, get_or, sym, ap, ◌∙◌, subst, append_assoc}
use Rattle.std.proofs.Common.{length-append, arith}
use Rattle.std.proofs.lemmas.List.{get_or_default}
use Rattle.std.proofs.lemmas.List.Edits.{length-insert, length-remove}
use Rattle.std.proofs.lemmas.Option.{get_or_from_slice_get}
use Rattle.std.proofs.lemmas.List.Elements.{Contains-append_left, Contains-append_right}
use Rattle.std.specs.List.{insert, remove}
use Rattle.std.specs.declared.cmp.Ordering.{Ordering}
use Rattle.std.specs.Prelude.{Some, Contains, slice_get}
use Rattle.mm_value.specs.declared.row_ref.RowRef.{RowRef}
use Rattle.mm_order.specs.Order.{IsOrdered}
use Rattle.mm_order.specs.Refs.{AddsInOrder}
use Rattle.ttree_node.specs.Entries.{first_entry}
use Rattle.ttree_node.specs.Tree.{Tree, Empty, Fork, IsFork, Root, fork, in_order, height_of}
use Rattle.ttree_node.specs.Paths.{HasRoomAtEnd, HasRoomOnLeft, HasSpareAtEnd, HasSpareOnLeft, tree_at, with_root, with_entries, with_tree, pushed, exchanged}
use Rattle.ttree_node.specs.Paths.{popped, borrowed, end_of, lead, trail}
use Rattle.ttree_node.specs.declared.slides.Side.{Side}
use Rattle.ttree_node.specs.declared.slides.Side.TheVariants.{Left, Right}
use Rattle.ttree_node.proofs.PathLemmas.{in_order-with, in_order_with_tree, height_with_tree, pushed_height, pushed_in_order, popped_height, popped_in_order}
use Rattle.ttree.specs.Balanced.{IsTTree}
use Rattle.ttree.proofs.Leaves.{fork_of_same_height}
use Rattle.ttree.proofs.Parts.{moved_least}
use Rattle.ttree.proofs.Taken.{adds_taken}
use Rattle.ttree.proofs.Walks.{round_entries}

-- Lemma: a T-tree in which the tree at the end of a path is replaced by one of the same height is a T-tree.
pub IsTTree-with_tree : (path : List Side) (now t : Tree) → IsTTree t → IsTTree now → height_of now ≡ height_of (tree_at path t)
    → IsTTree (with_tree path now t)
IsTTree-with_tree [] now t is made same = made
IsTTree-with_tree (side ∷ path) now Empty is made same = tt
IsTTree-with_tree (Left ∷ path) now (Fork left entries right) is made same =
    let h = height_with_tree path now left same in (
      IsTTree-with_tree path now left is.0 made same,
      is.1,
      record {
        filled = is.2.filled;
        fits = is.2.fits;
        full = λ l r. is.2.full (fork_of_same_height left (with_tree path now left) h l) r;
        left_low = omega (arith, is.2.left_low, h);
        right_low = omega (arith, is.2.right_low, h);
      },
    )
IsTTree-with_tree (Right ∷ path) now (Fork left entries right) is made same =
    let h = height_with_tree path now right same in (
      is.0,
      IsTTree-with_tree path now right is.1 made same,
      record {
        filled = is.2.filled;
        fits = is.2.fits;
        full = λ l r. is.2.full l (fork_of_same_height right (with_tree path now right) h r);
        left_low = omega (arith, is.2.left_low, h);
        right_low = omega (arith, is.2.right_low, h);
      },
    )

-- Lemma: so is a T-tree with one more entry at its end.
pub IsTTree-pushed : (entry : RowRef) (t : Tree) → IsTTree t → HasRoomAtEnd t → IsTTree (pushed entry t)
IsTTree-pushed entry Empty is room = tt
IsTTree-pushed entry (Fork left entries Empty) is room =
    let long = length-append entries (entry ∷ []) in (
      is.0,
      tt,
      record {
        filled = omega (arith, long);
        fits = omega (arith, long, room);
        full = λ before after. absurd after;
        left_low = is.2.left_low;
        right_low = is.2.right_low;
      },
    )
IsTTree-pushed entry (Fork left entries (Fork l es r)) is room =
    let h = pushed_height entry (Fork l es r) in (
      is.0,
      IsTTree-pushed entry (Fork l es r) is.1 room,
      record {
        filled = is.2.filled;
        fits = is.2.fits;
        full = λ before after. is.2.full before tt;
        left_low = omega (arith, is.2.left_low, h);
        right_low = omega (arith, is.2.right_low, h);
      },
    )

-- Lemma: so is a T-tree with one less entry at its end.
pub IsTTree-popped : (t : Tree) → IsTTree t → HasSpareAtEnd t → IsTTree (popped t)
IsTTree-popped Empty is spare = tt
IsTTree-popped (Fork Empty entries Empty) is spare =
    let short = length-remove entries (length entries - 1) (omega (arith, spare)) in (
      tt,
      tt,
      record {
        filled = omega (arith, short, spare);
        fits = omega (arith, short, is.2.fits);
        full = λ before after. absurd after;
        left_low = is.2.left_low;
        right_low = is.2.right_low;
      },
    )
IsTTree-popped (Fork (Fork a b c) entries Empty) is spare = absurd spare
IsTTree-popped (Fork Empty entries (Fork l es r)) is spare =
    let h = popped_height (Fork l es r) in (
      is.0,
      IsTTree-popped (Fork l es r) is.1 spare,
      record {
        filled = is.2.filled;
        fits = is.2.fits;
        full = λ before after. absurd before;
        left_low = omega (arith, is.2.left_low, h);
        right_low = omega (arith, is.2.right_low, h);
      },
    )
IsTTree-popped (Fork (Fork a b c) entries (Fork l es r)) is spare =
    let h = popped_height (Fork l es r) in (
      is.0,
      IsTTree-popped (Fork l es r) is.1 spare,
      record {
        filled = is.2.filled;
        fits = is.2.fits;
        full = λ before after. is.2.full tt tt;
        left_low = omega (arith, is.2.left_low, h);
        right_low = omega (arith, is.2.right_low, h);
      },
    )

room_is_node : (t : Tree) → HasRoomAtEnd t → IsFork t
room_is_node Empty room = room
room_is_node (Fork left entries right) room = tt

-- Lemma: a root that exchanges its least entry for another one is a T-tree's root.
pub IsTTree-exchanged : (i : ℕ) (entry : RowRef) (n : Root) → 1 ≤ i → i ≤ length n.entries → IsTTree (fork n) → HasRoomOnLeft (fork n)
    → IsTTree (exchanged i entry (fork n))
IsTTree-exchanged i entry n above within is room =
    let h = pushed_height (first_entry n.entries) n.left in
    let short = length-remove n.entries 0 (omega (arith, is.2.filled)) in
    let long = length-insert (remove n.entries 0) (i - 1) entry (omega (arith, short)) in (
      IsTTree-pushed (first_entry n.entries) n.left is.0 room,
      is.1,
      record {
        filled = omega (arith, long);
        fits = omega (arith, long, short, is.2.fits);
        full = λ l r. omega (arith, long, short, is.2.full (fork_of_same_height n.left (pushed (first_entry n.entries) n.left) h l) r);
        left_low = omega (arith, is.2.left_low, h);
        right_low = omega (arith, is.2.right_low, h);
      },
    )

-- Lemma: such a root has the new entry in order.
pub in_order-exchanged : (i : ℕ) (entry : RowRef) (n : Root) → 1 ≤ i → 1 ≤ length n.entries → HasRoomOnLeft (fork n)
    → in_order (exchanged i entry (fork n)) ≡ in_order (with_root (insert n.entries i entry) (fork n))
in_order-exchanged i entry n above some room =
    let least : RowRef = first_entry n.entries in
    let is : get_or n.entries 0 least ≡ least = get_or_default n.entries 0 least (record { slot = 0 }) (omega (arith, some)) in
    ap (λ xs. xs ++ insert (remove n.entries 0) (i - 1) entry ++ in_order n.right) (pushed_in_order least n.left (room_is_node n.left room))
    ∙ ap (λ xs. xs ++ in_order n.right) (moved_least (in_order n.left) n.entries i least entry above some is)

pub in_order-exchanged_at : (path : List Side) (i : ℕ) (entry : RowRef) (n : Root) (t : Tree) → tree_at path t ≡ fork n → 1 ≤ i → 1 ≤ length n.entries
    → HasRoomOnLeft (fork n)
    → in_order (with_tree path (exchanged i entry (fork n)) t) ≡ in_order (with_entries path (insert n.entries i entry) t)
in_order-exchanged_at path i entry n t here above some room =
    in_order_with_tree path (exchanged i entry (fork n)) t (subst IsFork (sym here) tt)
    ∙ ap (λ xs. lead path t ++ xs ++ trail path t) (in_order-exchanged i entry n above some room
    ∙ ap (λ s. in_order (with_root (insert n.entries i entry) s)) (sym here))
    ∙ sym (in_order-with path (insert n.entries i entry) t)

-- Lemma: a root that borrows the last entry of its left side is a T-tree's root.
pub IsTTree-borrowed : (i : ℕ) (n : Root) → i < length n.entries → IsTTree (fork n) → HasSpareOnLeft (fork n) → IsTTree (borrowed i (fork n))
IsTTree-borrowed i n inside is spare =
    let h = popped_height n.left in
    let short = length-remove n.entries i inside in
    let long = length-insert (remove n.entries i) 0 (end_of n.left) (omega arith) in (
      IsTTree-popped n.left is.0 spare,
      is.1,
      record {
        filled = omega (arith, long);
        fits = omega (arith, long, short, is.2.fits);
        full = λ l r. omega (arith, long, short, is.2.full (fork_of_same_height n.left (popped n.left) h l) r);
        left_low = omega (arith, is.2.left_low, h);
        right_low = omega (arith, is.2.right_low, h);
      },
    )

-- Lemma: such a root has lost one entry.
pub in_order-borrowed : (i : ℕ) (n : Root) → HasSpareOnLeft (fork n) → in_order (borrowed i (fork n)) ≡ in_order (with_root (remove n.entries i) (fork n))
in_order-borrowed i n spare =
    regroup (in_order (popped n.left)) (end_of n.left) (remove n.entries i) (in_order n.right)
    ∙ ap (λ xs. xs ++ remove n.entries i ++ in_order n.right) (popped_in_order n.left spare)
  where
    regroup : (a : List RowRef) (x : RowRef) (b c : List RowRef) → a ++ (x ∷ b) ++ c ≡ (a ++ x ∷ []) ++ b ++ c
    regroup a x b c = simp append_assoc

pub in_order-borrowed_at : (path : List Side) (i : ℕ) (n : Root) (t : Tree) → tree_at path t ≡ fork n → HasSpareOnLeft (fork n)
    → in_order (with_tree path (borrowed i (fork n)) t) ≡ in_order (with_entries path (remove n.entries i) t)
in_order-borrowed_at path i n t here spare =
    in_order_with_tree path (borrowed i (fork n)) t (subst IsFork (sym here) tt)
    ∙ ap (λ xs. lead path t ++ xs ++ trail path t) (in_order-borrowed i n spare ∙ ap (λ s. in_order (with_root (remove n.entries i) s)) (sym here))
    ∙ sym (in_order-with path (remove n.entries i) t)

-- Lemma: an entry removed from a node is removed from the tree.
pub loses_at_path : (Covers : RowRef → Type 0) (cmp : RowRef → RowRef → Ordering) (path : List Side) (i : ℕ) (gone : RowRef) (n : Root) (t : Tree)
    → IsOrdered Covers cmp (in_order t) → tree_at path t ≡ fork n → i < length n.entries → slice_get n.entries i ≡ Some gone
    → AddsInOrder cmp (in_order (with_entries path (remove n.entries i) t)) gone (in_order t)
loses_at_path Covers cmp path i gone n t was here inside is =
    let front : List RowRef = lead path t ++ in_order n.left in
    let back : List RowRef = in_order n.right ++ trail path t in
    let whole : in_order t ≡ front ++ n.entries ++ back = round_entries t path n here in
    let made : in_order (with_entries path (remove n.entries i) t) ≡ front ++ remove n.entries i ++ back =
    in_order-with path (remove n.entries i) t ∙ ap (λ s. lead path t ++ in_order (with_root (remove n.entries i) s) ++ trail path t) here ∙ simp append_assoc in
    subst (λ xs. AddsInOrder cmp xs gone (in_order t)) (sym made)
    (subst (AddsInOrder cmp (front ++ remove n.entries i ++ back) gone) (sym whole)
    (adds_taken Covers cmp front n.entries back i gone (subst (IsOrdered Covers cmp) whole was) inside is))

-- Lemma: an entry of a node is an entry of the tree.
pub held_at_path : (path : List Side) (i : ℕ) (gone : RowRef) (n : Root) (t : Tree) → tree_at path t ≡ fork n → i < length n.entries
    → slice_get n.entries i ≡ Some gone → Contains (in_order t) gone
held_at_path path i gone n t here inside is =
    subst (λ xs. Contains xs gone) (sym (round_entries t path n here))
    (Contains-append_left ((lead path t ++ in_order n.left) ++ n.entries) (in_order n.right ++ trail path t) gone
    (Contains-append_right (lead path t ++ in_order n.left) n.entries gone (i, inside, get_or_from_slice_get n.entries i gone gone is)))
