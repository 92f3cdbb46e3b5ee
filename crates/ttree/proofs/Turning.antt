-- Lemmas: a root whose side has lost at most one level can be balanced, and a side of it can be made to lean the other way.
use Rattle.std.proofs.Common.{◌≡◌, ◌≤◌, ◌+◌, ◌-◌, List, length, take, drop, refl, ap, arith, inl, length-append, length-take}
use Rattle.std.proofs.Common.{length-drop}
use Rattle.mm_value.specs.declared.row_ref.RowRef.{RowRef}
use Rattle.ttree_node.specs.Slide.{IsNextTo, handed_on, slid_to_left, slid_to_right}
use Rattle.ttree_node.specs.Tree.{Tree, Empty, Fork, Root, height_of}
use Rattle.ttree_node.specs.Turn.{rotated_left, rotated_right}
use Rattle.ttree_node.specs.declared.slides.Side.TheVariants.{Left, Right}
use Rattle.ttree.specs.Balanced.{IsTTree, IsRootOver, MayTurn}
use Rattle.ttree.proofs.Leaves.{fork_from_height, height_from_fork}

abbrev pub over : Tree → List RowRef → Tree → Root
over l es r = record { left = l; entries = es; right = r }

-- Lemma: the left side was another one, of the same height or one level higher.
pub lost_left : (l : Tree) (es : List RowRef) (r now : Tree) → IsTTree (Fork l es r) → IsTTree now → height_of now ≤ height_of l
    → height_of l ≤ height_of now + 1 → IsRootOver 2 (over now es r) × MayTurn (over now es r)
lost_left l es r now is made not_higher one_lower = (
  (
    made,
    is.1,
    record {
      filled = is.2.filled;
      fits = is.2.fits;
      full = λ left right. is.2.full (fork_from_height l (omega (arith, height_from_fork now left, not_higher))) right;
      left_low = omega (arith, is.2.left_low, not_higher);
      right_low = omega (arith, is.2.right_low, one_lower);
    },
  ),
  record {
    left = λ none high. absurd (omega (arith, ap height_of none, high, not_higher, is.2.left_low));
    right = λ none high. inl (is.2.full (fork_from_height l (omega (arith, is.2.right_low, high))) (fork_from_height r (omega (arith, high))));
  },
)

-- Lemma: the right side was another one, of the same height or one level higher.
pub lost_right : (l : Tree) (es : List RowRef) (r now : Tree) → IsTTree (Fork l es r) → IsTTree now → height_of now ≤ height_of r
    → height_of r ≤ height_of now + 1 → IsRootOver 2 (over l es now) × MayTurn (over l es now)
lost_right l es r now is made not_higher one_lower = (
  (
    is.0,
    made,
    record {
      filled = is.2.filled;
      fits = is.2.fits;
      full = λ left right. is.2.full left (fork_from_height r (omega (arith, height_from_fork now right, not_higher)));
      left_low = omega (arith, is.2.left_low, one_lower);
      right_low = omega (arith, is.2.right_low, not_higher);
    },
  ),
  record {
    left = λ none high. inl (is.2.full (fork_from_height l (omega (arith, high))) (fork_from_height r (omega (arith, is.2.left_low, high))));
    right = λ none high. absurd (omega (arith, ap height_of none, high, not_higher, is.2.right_low));
  },
)

-- ---- a side is made to lean the other way

-- Lemma: the right child rises. If it has no left side, it has received entries first.
pub raised_right : (l : Tree) (es : List RowRef) (t : Tree) → IsTTree (Fork l es t) → height_of l + 1 ≤ height_of t → IsNextTo Right t
    → IsRootOver 2 (rotated_left (slid_to_right t (over l es t)))
raised_right l es Empty is high next = absurd next
raised_right l es (Fork (Fork a ys c) xs b) is high next = cc
raised_right l es (Fork Empty xs b) is high next =
    let kept = length es - handed_on (length es) (length xs) in
    let long = length-append (drop kept es) xs in (
      (
        is.0,
        tt,
        record {
          filled = omega (arith, length-take kept es, is.2.filled);
          fits = omega (arith, length-take kept es, is.2.fits);
          full = λ left right. absurd right;
          left_low = omega (arith, is.2.right_low, is.1.2.right_low, high);
          right_low = omega arith;
        },
      ),
      is.1.1,
      record {
        filled = omega (arith, long, is.1.2.filled);
        fits = omega (arith, long, length-drop kept es, is.1.2.fits, is.2.fits);
        full = λ left right. omega (
          arith,
          long,
          length-drop kept es,
          is.1.2.filled,
          is.2.full (fork_from_height l (omega (arith, is.2.right_low, height_from_fork b right))) tt,
        );
        left_low = omega (arith, is.2.right_low, is.1.2.right_low, high);
        right_low = omega (arith, is.1.2.right_low);
      },
    )

-- Lemma: it has received enough entries from a root with at least 15.
pub filled_right : (l : Tree) (es : List RowRef) (t : Tree) → IsTTree (Fork l es t) → IsNextTo Right t → 15 ≤ length es
    → 14 ≤ length (rotated_left (slid_to_right t (over l es t))).entries
filled_right l es Empty is next many = absurd next
filled_right l es (Fork a xs b) is next many =
    let kept = length es - handed_on (length es) (length xs) in
    omega (arith, length-append (drop kept es) xs, length-drop kept es, is.1.2.filled, is.2.fits)

-- Lemma: the right child rises. If it has a left side, that moves below the old root.
pub turned_right : (l : Tree) (es : List RowRef) (t : Tree) → IsTTree (Fork l es t) → height_of l + 1 ≤ height_of t → (IsNextTo Right t → ⊥)
    → IsRootOver 2 (rotated_left (over l es t))
turned_right l es Empty is high apart = absurd (omega (arith, high))
turned_right l es (Fork Empty xs b) is high apart = absurd (apart refl)
turned_right l es (Fork (Fork a ys c) xs b) is high apart =
    let m : Tree = Fork a ys c in (
      (
        is.0,
        is.1.0,
        record {
          filled = is.2.filled;
          fits = is.2.fits;
          full = λ left right. is.2.full left tt;
          left_low = omega (arith, is.2.right_low, is.1.2.left_low, is.1.2.right_low, high);
          right_low = omega (arith, is.2.right_low, is.1.2.left_low, is.1.2.right_low, high);
        },
      ),
      is.1.1,
      record {
        filled = is.1.2.filled;
        fits = is.1.2.fits;
        full = λ left right. is.1.2.full tt right;
        left_low = omega (arith, is.2.right_low, is.1.2.left_low, is.1.2.right_low, high);
        right_low = omega (arith, is.2.right_low, is.1.2.left_low, is.1.2.right_low, high);
      },
    )

-- Lemma: if the tree has two levels, the right child has no left side.
pub low_right : (l : Tree) (es : List RowRef) (t : Tree) → height_of (Fork l es t) ≡ 2 → (IsNextTo Right t → ⊥) → height_of l + 1 ≤ height_of t → ⊥
low_right l es Empty low apart high = omega (arith, high)
low_right l es (Fork Empty xs b) low apart high = apart refl
low_right l es (Fork (Fork a ys c) xs b) low apart high = omega (arith, low)

-- Lemma: the left child rises. If it has no right side, it has received entries first.
pub raised_left : (r : Tree) (es : List RowRef) (t : Tree) → IsTTree (Fork t es r) → height_of r + 1 ≤ height_of t → IsNextTo Left t
    → IsRootOver 2 (rotated_right (slid_to_left t (over t es r)))
raised_left r es Empty is high next = absurd next
raised_left r es (Fork b xs (Fork a ys c)) is high next = cc
raised_left r es (Fork b xs Empty) is high next =
    let n = handed_on (length es) (length xs) in
    let long = length-append xs (take n es) in (
      is.0.0,
      (
        tt,
        is.1,
        record {
          filled = omega (arith, length-drop n es, is.2.filled);
          fits = omega (arith, length-drop n es, is.2.fits);
          full = λ left right. absurd left;
          left_low = omega arith;
          right_low = omega (arith, is.2.left_low, is.0.2.left_low, high);
        },
      ),
      record {
        filled = omega (arith, long, is.0.2.filled);
        fits = omega (arith, long, length-take n es, is.0.2.fits, is.2.fits);
        full = λ left right. omega (
          arith,
          long,
          length-take n es,
          is.0.2.filled,
          is.2.full tt (fork_from_height r (omega (arith, is.2.left_low, height_from_fork b left))),
        );
        left_low = omega (arith, is.0.2.left_low);
        right_low = omega (arith, is.2.left_low, is.0.2.left_low, high);
      },
    )

pub filled_left : (r : Tree) (es : List RowRef) (t : Tree) → IsTTree (Fork t es r) → IsNextTo Left t → 15 ≤ length es
    → 14 ≤ length (rotated_right (slid_to_left t (over t es r))).entries
filled_left r es Empty is next many = absurd next
filled_left r es (Fork b xs a) is next many =
    let n = handed_on (length es) (length xs) in
    omega (arith, length-append xs (take n es), length-take n es, is.0.2.filled, is.2.fits)

pub turned_left : (r : Tree) (es : List RowRef) (t : Tree) → IsTTree (Fork t es r) → height_of r + 1 ≤ height_of t → (IsNextTo Left t → ⊥)
    → IsRootOver 2 (rotated_right (over t es r))
turned_left r es Empty is high apart = absurd (omega (arith, high))
turned_left r es (Fork b xs Empty) is high apart = absurd (apart refl)
turned_left r es (Fork b xs (Fork a ys c)) is high apart = (
  is.0.0,
  (
    is.0.1,
    is.1,
    record {
      filled = is.2.filled;
      fits = is.2.fits;
      full = λ left right. is.2.full tt right;
      left_low = omega (arith, is.2.left_low, is.0.2.left_low, is.0.2.right_low, high);
      right_low = omega (arith, is.2.left_low, is.0.2.left_low, is.0.2.right_low, high);
    },
  ),
  record {
    filled = is.0.2.filled;
    fits = is.0.2.fits;
    full = λ left right. is.0.2.full left tt;
    left_low = omega (arith, is.2.left_low, is.0.2.left_low, is.0.2.right_low, high);
    right_low = omega (arith, is.2.left_low, is.0.2.left_low, is.0.2.right_low, high);
  },
)

pub low_left : (r : Tree) (es : List RowRef) (t : Tree) → height_of (Fork t es r) ≡ 2 → (IsNextTo Left t → ⊥) → height_of r + 1 ≤ height_of t → ⊥
low_left r es Empty low apart high = omega (arith, high)
low_left r es (Fork b xs Empty) low apart high = apart refl
low_left r es (Fork b xs (Fork a ys c)) low apart high = omega (arith, low)
