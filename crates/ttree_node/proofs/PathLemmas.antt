-- Entries along a path, and the effect of edits at its end.
use Rattle.std.proofs.Common.{◌≡◌, ℕ, suc, ◌+◌, ◌-◌, ◌≤◌, length, take, drop, arith, List, [], ◌∷◌, ◌++◌, max, refl, sym, ap, ◌∙◌, append_assoc}
use Rattle.std.proofs.lemmas.List.{append-nil, take-append-drop}
use Rattle.std.proofs.Math.ListN.{drop_of_length-le}
use Rattle.std.proofs.Math.Seq.{drop-cons}
use Rattle.std.specs.List.{remove}
use Rattle.ttree_node.specs.Entries.{last_entry}
use Rattle.mm_value.specs.declared.row_ref.RowRef.{RowRef}
use Rattle.ttree_node.specs.Tree.{Tree, Empty, Fork, IsFork, in_order, height_of, node_count}
use Rattle.ttree_node.specs.Paths.{HasSpareAtEnd, borrowed, end_of, popped, tree_at, exchanged, pushed, with_root, with_entries, with_tree}
use Rattle.ttree_node.specs.Paths.{lead, trail}
use Rattle.ttree_node.specs.declared.slides.Side.{Side}
use Rattle.ttree_node.specs.declared.slides.Side.TheVariants.{Left, Right}

-- the height is unchanged
pub same_height : (path : List Side) (now : List RowRef) (t : Tree) → height_of (with_entries path now t) ≡ height_of t
same_height [] now Empty = refl
same_height [] now (Fork left entries right) = refl
same_height (side ∷ path) now Empty = refl
same_height (Left ∷ path) now (Fork left entries right) = ap (λ n. max n (height_of right) + 1) (same_height path now left)
same_height (Right ∷ path) now (Fork left entries right) = ap (λ n. max (height_of left) n + 1) (same_height path now right)

-- the number of nodes is unchanged
pub same_count : (path : List Side) (now : List RowRef) (t : Tree) → node_count (with_entries path now t) ≡ node_count t
same_count [] now Empty = refl
same_count [] now (Fork left entries right) = refl
same_count (side ∷ path) now Empty = refl
same_count (Left ∷ path) now (Fork left entries right) = ap (λ n. n + node_count right + 1) (same_count path now left)
same_count (Right ∷ path) now (Fork left entries right) = ap (λ n. node_count left + n + 1) (same_count path now right)

-- below an empty tree there is no node
pub no_tree : (path : List Side) → IsFork (tree_at path Empty) → ⊥
no_tree [] there = there
no_tree (side ∷ path) there = there

-- the entries are those before the tree at the end of a path, its own, and those after it
pub in_order-at : (path : List Side) (t : Tree) → in_order t ≡ lead path t ++ in_order (tree_at path t) ++ trail path t
in_order-at [] t = sym (append-nil (in_order t))
in_order-at (side ∷ path) Empty = refl
in_order-at (Left ∷ path) (Fork left entries right) =
    ap (λ xs. xs ++ entries ++ in_order right) (in_order-at path left) ∙ simp append_assoc
in_order-at (Right ∷ path) (Fork left entries right) =
    ap (λ xs. in_order left ++ entries ++ xs) (in_order-at path right) ∙ simp append_assoc

-- the entries before and after are unchanged
pub in_order-with : (path : List Side) (now : List RowRef) (t : Tree)
    → in_order (with_entries path now t) ≡ lead path t ++ in_order (with_root now (tree_at path t)) ++ trail path t
in_order-with [] now t = sym (append-nil (in_order (with_root now t)))
in_order-with (side ∷ path) now Empty = refl
in_order-with (Left ∷ path) now (Fork left entries right) =
    ap (λ xs. xs ++ entries ++ in_order right) (in_order-with path now left) ∙ simp append_assoc
in_order-with (Right ∷ path) now (Fork left entries right) =
    ap (λ xs. in_order left ++ entries ++ xs) (in_order-with path now right) ∙ simp append_assoc

-- one more step
pub tree_at-left : (path : List Side) (t left right : Tree) (entries : List RowRef) → tree_at path t ≡ Fork left entries right
    → tree_at (path ++ Left ∷ []) t ≡ left
tree_at-left [] t left right entries is = ap (tree_at (Left ∷ [])) is
tree_at-left (side ∷ path) Empty left right entries is = absurd (cc)
tree_at-left (Left ∷ path) (Fork l es r) left right entries is = tree_at-left path l left right entries is
tree_at-left (Right ∷ path) (Fork l es r) left right entries is = tree_at-left path r left right entries is

pub tree_at-right : (path : List Side) (t left right : Tree) (entries : List RowRef) → tree_at path t ≡ Fork left entries right
    → tree_at (path ++ Right ∷ []) t ≡ right
tree_at-right [] t left right entries is = ap (tree_at (Right ∷ [])) is
tree_at-right (side ∷ path) Empty left right entries is = absurd (cc)
tree_at-right (Left ∷ path) (Fork l es r) left right entries is = tree_at-right path l left right entries is
tree_at-right (Right ∷ path) (Fork l es r) left right entries is = tree_at-right path r left right entries is

pub lead-left : (path : List Side) (t left right : Tree) (entries : List RowRef) → tree_at path t ≡ Fork left entries right
    → lead (path ++ Left ∷ []) t ≡ lead path t
lead-left [] t left right entries is = ap (lead (Left ∷ [])) is
lead-left (side ∷ path) Empty left right entries is = refl
lead-left (Left ∷ path) (Fork l es r) left right entries is = lead-left path l left right entries is
lead-left (Right ∷ path) (Fork l es r) left right entries is = ap (λ xs. in_order l ++ es ++ xs) (lead-left path r left right entries is)

pub lead-right : (path : List Side) (t left right : Tree) (entries : List RowRef) → tree_at path t ≡ Fork left entries right
    → lead (path ++ Right ∷ []) t ≡ lead path t ++ in_order left ++ entries
lead-right [] t left right entries is = ap (lead (Right ∷ [])) is ∙ append-nil (in_order left ++ entries)
lead-right (side ∷ path) Empty left right entries is = absurd (cc)
lead-right (Left ∷ path) (Fork l es r) left right entries is = lead-right path l left right entries is
lead-right (Right ∷ path) (Fork l es r) left right entries is =
    ap (λ xs. in_order l ++ es ++ xs) (lead-right path r left right entries is) ∙ simp append_assoc

pub trail-left : (path : List Side) (t left right : Tree) (entries : List RowRef) → tree_at path t ≡ Fork left entries right
    → trail (path ++ Left ∷ []) t ≡ entries ++ in_order right ++ trail path t
trail-left [] t left right entries is = ap (trail (Left ∷ [])) is ∙ sym (append-nil (entries ++ in_order right))
trail-left (side ∷ path) Empty left right entries is = absurd (cc)
trail-left (Left ∷ path) (Fork l es r) left right entries is =
    ap (λ xs. xs ++ es ++ in_order r) (trail-left path l left right entries is) ∙ simp append_assoc
trail-left (Right ∷ path) (Fork l es r) left right entries is = trail-left path r left right entries is

pub trail-right : (path : List Side) (t left right : Tree) (entries : List RowRef) → tree_at path t ≡ Fork left entries right
    → trail (path ++ Right ∷ []) t ≡ trail path t
trail-right [] t left right entries is = ap (trail (Right ∷ [])) is
trail-right (side ∷ path) Empty left right entries is = refl
trail-right (Left ∷ path) (Fork l es r) left right entries is = ap (λ xs. xs ++ es ++ in_order r) (trail-right path l left right entries is)
trail-right (Right ∷ path) (Fork l es r) left right entries is = trail-right path r left right entries is

-- one more entry at the end keeps the height and the number of nodes
pub pushed_height : (entry : RowRef) (t : Tree) → height_of (pushed entry t) ≡ height_of t
pushed_height entry Empty = refl
pushed_height entry (Fork left entries Empty) = refl
pushed_height entry (Fork left entries (Fork l es r)) = ap (λ n. max (height_of left) n + 1) (pushed_height entry (Fork l es r))

pub pushed_count : (entry : RowRef) (t : Tree) → node_count (pushed entry t) ≡ node_count t
pushed_count entry Empty = refl
pushed_count entry (Fork left entries Empty) = refl
pushed_count entry (Fork left entries (Fork l es r)) = ap (λ n. node_count left + n + 1) (pushed_count entry (Fork l es r))

-- the entry follows all others
pub pushed_in_order : (entry : RowRef) (t : Tree) → IsFork t → in_order (pushed entry t) ≡ in_order t ++ entry ∷ []
pushed_in_order entry Empty some = absurd some
pushed_in_order entry (Fork left entries Empty) some = simp append_assoc
pushed_in_order entry (Fork left entries (Fork l es r)) some =
    ap (λ xs. in_order left ++ entries ++ xs) (pushed_in_order entry (Fork l es r) tt) ∙ simp append_assoc

-- another tree of the same height at the end of a path keeps the height
pub height_with_tree : (path : List Side) (now t : Tree) → height_of now ≡ height_of (tree_at path t) → height_of (with_tree path now t) ≡ height_of t
height_with_tree [] now t same = same
height_with_tree (side ∷ path) now Empty same = refl
height_with_tree (Left ∷ path) now (Fork left entries right) same = ap (λ n. max n (height_of right) + 1) (height_with_tree path now left same)
height_with_tree (Right ∷ path) now (Fork left entries right) same = ap (λ n. max (height_of left) n + 1) (height_with_tree path now right same)

pub count_with_tree : (path : List Side) (now t : Tree) → node_count now ≡ node_count (tree_at path t) → node_count (with_tree path now t) ≡ node_count t
count_with_tree [] now t same = same
count_with_tree (side ∷ path) now Empty same = refl
count_with_tree (Left ∷ path) now (Fork left entries right) same = ap (λ n. n + node_count right + 1) (count_with_tree path now left same)
count_with_tree (Right ∷ path) now (Fork left entries right) same = ap (λ n. node_count left + n + 1) (count_with_tree path now right same)

-- the entries before and after are unchanged
pub in_order_with_tree : (path : List Side) (now t : Tree) → IsFork (tree_at path t)
    → in_order (with_tree path now t) ≡ lead path t ++ in_order now ++ trail path t
in_order_with_tree [] now t there = sym (append-nil (in_order now))
in_order_with_tree (side ∷ path) now Empty there = absurd there
in_order_with_tree (Left ∷ path) now (Fork left entries right) there =
    ap (λ xs. xs ++ entries ++ in_order right) (in_order_with_tree path now left there) ∙ simp append_assoc
in_order_with_tree (Right ∷ path) now (Fork left entries right) there =
    ap (λ xs. in_order left ++ entries ++ xs) (in_order_with_tree path now right there) ∙ simp append_assoc

pub exchanged_root : (i : ℕ) (entry : RowRef) (t : Tree) → height_of (exchanged i entry t) ≡ height_of t
exchanged_root i entry Empty = refl
exchanged_root i entry (Fork left entries right) = ap (λ n. max n (height_of right) + 1) (pushed_height _ left)

pub exchanged_count : (i : ℕ) (entry : RowRef) (t : Tree) → node_count (exchanged i entry t) ≡ node_count t
exchanged_count i entry Empty = refl
exchanged_count i entry (Fork left entries right) = ap (λ n. n + node_count right + 1) (pushed_count _ left)

pub exchanged_height : (path : List Side) (i : ℕ) (entry : RowRef) (t : Tree)
    → height_of (with_tree path (exchanged i entry (tree_at path t)) t) ≡ height_of t
exchanged_height path i entry t = height_with_tree path (exchanged i entry (tree_at path t)) t (exchanged_root i entry (tree_at path t))

-- removing the last entry keeps the height and the number of nodes
pub popped_height : (t : Tree) → height_of (popped t) ≡ height_of t
popped_height Empty = refl
popped_height (Fork left entries Empty) = refl
popped_height (Fork left entries (Fork l es r)) = ap (λ n. max (height_of left) n + 1) (popped_height (Fork l es r))

pub popped_count : (t : Tree) → node_count (popped t) ≡ node_count t
popped_count Empty = refl
popped_count (Fork left entries Empty) = refl
popped_count (Fork left entries (Fork l es r)) = ap (λ n. node_count left + n + 1) (popped_count (Fork l es r))

-- the last entry, removed and appended again
last_back : (entries : List RowRef) → 1 ≤ length entries → remove entries (length entries - 1) ++ last_entry entries ∷ [] ≡ entries
last_back entries some =
    let n : ℕ = length entries - 1 in
    let none : drop (suc n) entries ≡ [] = drop_of_length-le entries {i = suc n} (omega arith) in
    let end : drop n entries ≡ last_entry entries ∷ [] = drop-cons entries n (record { slot = 0 }) (omega arith)
    ∙ ap (λ xs. last_entry entries ∷ xs) none in
    ap (λ ys. take n entries ++ ys ++ last_entry entries ∷ []) none ∙ ap (λ ys. ys ++ last_entry entries ∷ []) (append-nil (take n entries))
    ∙ sym (ap (λ ys. take n entries ++ ys) end) ∙ take-append-drop n entries

pub popped_in_order : (t : Tree) → HasSpareAtEnd t → in_order (popped t) ++ end_of t ∷ [] ≡ in_order t
popped_in_order Empty spare = absurd spare
popped_in_order (Fork Empty entries Empty) spare =
    ap (λ xs. xs ++ last_entry entries ∷ []) (append-nil (remove entries (length entries - 1))) ∙ last_back entries (omega (arith, spare))
    ∙ sym (append-nil entries)
popped_in_order (Fork (Fork l es r) entries Empty) spare = absurd spare
popped_in_order (Fork Empty entries (Fork l es r)) spare =
    append_assoc entries (in_order (popped (Fork l es r))) (end_of (Fork l es r) ∷ []) ∙ ap (λ xs. entries ++ xs) (popped_in_order (Fork l es r) spare)
popped_in_order (Fork (Fork a b c) entries (Fork l es r)) spare =
    append_assoc (in_order (Fork a b c) ++ entries) (in_order (popped (Fork l es r))) (end_of (Fork l es r) ∷ [])
    ∙ ap (λ xs. (in_order (Fork a b c) ++ entries) ++ xs) (popped_in_order (Fork l es r) spare)

pub borrowed_root : (i : ℕ) (t : Tree) → height_of (borrowed i t) ≡ height_of t
borrowed_root i Empty = refl
borrowed_root i (Fork left entries right) = ap (λ n. max n (height_of right) + 1) (popped_height left)

pub borrowed_count : (i : ℕ) (t : Tree) → node_count (borrowed i t) ≡ node_count t
borrowed_count i Empty = refl
borrowed_count i (Fork left entries right) = ap (λ n. n + node_count right + 1) (popped_count left)

pub borrowed_height : (path : List Side) (i : ℕ) (t : Tree) → height_of (with_tree path (borrowed i (tree_at path t)) t) ≡ height_of t
borrowed_height path i t = height_with_tree path (borrowed i (tree_at path t)) t (borrowed_root i (tree_at path t))
