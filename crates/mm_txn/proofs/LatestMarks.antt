-- The latest savepoint with a name, among the marks and among the saved rows.
use Rattle.std.proofs.Common.{◌≡◌, ℕ, suc, zero, ◌<◌, ◌≤◌, Bool, true, false, ◌||◌, if◌then◌else◌, List, [], ◌∷◌, ◌++◌, Option, Some, IfSome, get_or}
use Rattle.std.proofs.Common.{length, map, reverse, take, slice_get, refl, sym, ap, subst, ◌∙◌, arith}
use mathlib.Core.List.{reverse-cons}
use Rattle.std.specs.List.{AllByRecursion, list_any}
use Rattle.std.proofs.lemmas.List.Elements.{recursion_from_All}
use Rattle.std.proofs.lemmas.List.Folds.{list_any-append}
use Rattle.mm_schema.specs.Instance.{Instance}
use Rattle.mm_schema.specs.Name.{same_name}
use Rattle.mm_query.specs.Machine.{back_to, rows_at_latest}
use Rattle.mm_query.specs.State.{Savepoint}
use Rattle.mm_store.specs.Marks.{rows_at_mark}
use Rattle.mm_store.specs.Tables.{Tables}
use Rattle.mm_txn.specs.Marks.{Ascend}
use Rattle.mm_txn.specs.Saved.{savepoint_at}
use Rattle.mm_txn.specs.declared.savepoints.Mark.{Mark}

-- ---- marks

-- The mark at a place has the name, and no later one has it.
abbrev pub IsLatest : List ℕ → List Mark → ℕ → Type 0
IsLatest name [] place = ⊥
IsLatest name (mark ∷ marks) zero = (same_name name mark.name ≡ true) × AllByRecursion (λ (later : Mark). same_name name later.name ≡ false) marks
IsLatest name (mark ∷ marks) (suc place) = IsLatest name marks place

-- The search finds the latest mark.
pub latest_is : (name : List ℕ) (marks : List Mark) (place : ℕ) → place < length marks → ((d : Mark) → same_name name (get_or marks place d).name ≡ true)
    → ((k : ℕ) (d : Mark) → place < k → k < length marks → same_name name (get_or marks k d).name ≡ false) → IsLatest name marks place
latest_is name [] place within named behind = absurd (omega (arith, within))
latest_is name (mark ∷ marks) zero within named behind = (
  named mark,
  recursion_from_All (λ (later : Mark). same_name name later.name ≡ false) marks (λ k d lt. behind (suc k) d (omega arith) (omega (arith, lt))),
)
latest_is name (mark ∷ marks) (suc place) within named behind =
    latest_is name marks place (omega (arith, within)) named (λ k d past lt. behind (suc k) d (omega (arith, past)) (omega (arith, lt)))

-- A place found in a copy of the marks is also found in the marks.
pub found_latest : (name : List ℕ) (copied marks : List Mark) (found : Option ℕ) (place : ℕ) → copied ≡ marks → found ≡ Some place
    → IfSome found (λ k. k < length copied) → IfSome found (λ k. (d : Mark) → same_name name (get_or copied k d).name ≡ true)
    → IfSome found (λ p. (k : ℕ) (d : Mark) → p < k → k < length copied → same_name name (get_or copied k d).name ≡ false) → IsLatest name marks place
found_latest name copied marks found place same is within named behind =
    subst (λ (ms : List Mark). IsLatest name ms place) same
    (latest_is name copied place (subst (λ (r : Option ℕ). IfSome r (λ k. k < length copied)) is within)
    (subst (λ (r : Option ℕ). IfSome r (λ k. (d : Mark) → same_name name (get_or copied k d).name ≡ true)) is named)
    (subst (λ (r : Option ℕ). IfSome r (λ p. (k : ℕ) (d : Mark) → p < k → k < length copied → same_name name (get_or copied k d).name ≡ false)) is behind))

-- The latest mark with a name exists.
pub latest_within : (name : List ℕ) (marks : List Mark) (place : ℕ) → IsLatest name marks place → place < length marks
latest_within name [] place latest = absurd latest
latest_within name (mark ∷ marks) zero latest = omega arith
latest_within name (mark ∷ marks) (suc place) latest = omega (arith, latest_within name marks place latest)

-- Marks end at no less than where they begin.
pub bounds : (c d : ℕ) (marks : List Mark) (C D : ℕ) → Ascend c d marks C D → (c ≤ C) × (d ≤ D)
bounds c d [] C D ascend = ascend
bounds c d (mark ∷ marks) C D ascend =
    let later = bounds mark.commands mark.changes marks C D ascend.2 in (omega (arith, ascend.0, later.0), omega (arith, ascend.1, later.1))

-- Each mark is within the lengths at the end.
pub each_within : (c d : ℕ) (marks : List Mark) (C D : ℕ) → Ascend c d marks C D
    → AllByRecursion (λ (mark : Mark). (mark.commands ≤ C) × (mark.changes ≤ D)) marks
each_within c d [] C D ascend = tt
each_within c d (mark ∷ marks) C D ascend = (bounds mark.commands mark.changes marks C D ascend.2, each_within mark.commands mark.changes marks C D ascend.2)

-- The marks also ascend to greater lengths of the logs, ..
pub Ascend-longer : (c d : ℕ) (marks : List Mark) (C D E F : ℕ) → C ≤ E → D ≤ F → Ascend c d marks C D → Ascend c d marks E F
Ascend-longer c d [] C D E F more longer ascend = (omega (arith, more, ascend.0), omega (arith, longer, ascend.1))
Ascend-longer c d (mark ∷ marks) C D E F more longer ascend =
    (ascend.0, ascend.1, Ascend-longer mark.commands mark.changes marks C D E F more longer ascend.2)

-- .. with a mark at the end, ..
pub Ascend-push : (c d : ℕ) (marks : List Mark) (C D : ℕ) (mark : Mark) → mark.commands ≡ C → mark.changes ≡ D → Ascend c d marks C D
    → Ascend c d (marks ++ mark ∷ []) C D
Ascend-push c d [] C D mark commands changes ascend =
    (omega (arith, ascend.0, commands), omega (arith, ascend.1, changes), (omega (arith, commands), omega (arith, changes)))
Ascend-push c d (m ∷ ms) C D mark commands changes ascend =
    (ascend.0, ascend.1, Ascend-push m.commands m.changes ms C D mark commands changes ascend.2)

-- .. and up to one of them.
pub Ascend-take : (c d : ℕ) (marks : List Mark) (C D : ℕ) (place : ℕ) (mark : Mark) → slice_get marks place ≡ Some mark → Ascend c d marks C D
    → Ascend c d (take (suc place) marks) mark.commands mark.changes
Ascend-take c d [] C D place mark there ascend = cc
Ascend-take c d (m ∷ ms) C D zero mark there ascend =
    let same : m ≡ mark = cc in
    (ascend.0, ascend.1, (omega (arith, ap (λ (n : Mark). n.commands) same), omega (arith, ap (λ (n : Mark). n.changes) same)))
Ascend-take c d (m ∷ ms) C D (suc place) mark there ascend =
    (ascend.0, ascend.1, Ascend-take m.commands m.changes ms C D place mark there ascend.2)

-- One of the marks is within these lengths too.
pub mark_within : (c d : ℕ) (marks : List Mark) (C D : ℕ) (place : ℕ) (mark : Mark) → slice_get marks place ≡ Some mark → Ascend c d marks C D
    → (mark.commands ≤ C) × (mark.changes ≤ D)
mark_within c d [] C D place mark there ascend = cc
mark_within c d (m ∷ ms) C D zero mark there ascend =
    let same : m ≡ mark = cc in
    let later = bounds m.commands m.changes ms C D ascend.2 in
    (omega (arith, later.0, ap (λ (n : Mark). n.commands) same), omega (arith, later.1, ap (λ (n : Mark). n.changes) same))
mark_within c d (m ∷ ms) C D (suc place) mark there ascend = mark_within m.commands m.changes ms C D place mark there ascend.2

-- The last of the marks up to a place is the one at the place.
pub take_last : (marks : List Mark) (place : ℕ) (mark : Mark) → slice_get marks place ≡ Some mark → take (suc place) marks ≡ take place marks ++ mark ∷ []
take_last [] place mark there = cc
take_last (m ∷ ms) zero mark there = let same : m ≡ mark = cc in ap (λ n. n ∷ []) same
take_last (m ∷ ms) (suc place) mark there = ap (λ ns. m ∷ ns) (take_last ms place mark there)

-- ---- saved rows

or_true : (b : Bool) → (b || true) ≡ true
or_true true = refl
or_true false = refl

module _ (name : List ℕ) where
  abbrev is_named : Savepoint → Bool
  is_named savepoint = same_name name savepoint.name

  back_past : (xs ys : List Savepoint) → AllByRecursion (λ (s : Savepoint). same_name name s.name ≡ false) xs → back_to name (xs ++ ys) ≡ back_to name ys
  back_past [] ys none = refl
  back_past (x ∷ xs) ys none =
      ap (λ (b : Bool). if b then x ∷ (xs ++ ys) else back_to name (xs ++ ys)) none.0 ∙ back_past xs ys none.1

  back_within : (xs ys : List Savepoint) → list_any is_named xs ≡ true → back_to name (xs ++ ys) ≡ back_to name xs ++ ys
  back_within [] ys some = cc
  back_within (x ∷ xs) ys some = by (same_name name x.name) refl (back_within xs ys)
    where
      by : (b : Bool) → same_name name x.name ≡ b → (list_any is_named xs ≡ true → back_to name (xs ++ ys) ≡ back_to name xs ++ ys)
          → back_to name (x ∷ (xs ++ ys)) ≡ back_to name (x ∷ xs) ++ ys
      by true own later =
          ap (λ (c : Bool). if c then x ∷ (xs ++ ys) else back_to name (xs ++ ys)) own
          ∙ sym (ap (λ (c : Bool). (if c then x ∷ xs else back_to name xs) ++ ys) own)
      by false other later =
          ap (λ (c : Bool). if c then x ∷ (xs ++ ys) else back_to name (xs ++ ys)) other
          ∙ (later (sym (ap (λ (c : Bool). c || list_any is_named xs) other) ∙ some)
          ∙ sym (ap (λ (c : Bool). (if c then x ∷ xs else back_to name xs) ++ ys) other))

  none_last : (xs : List Savepoint) (s : Savepoint) → AllByRecursion (λ (x : Savepoint). same_name name x.name ≡ false) xs → same_name name s.name ≡ false
      → AllByRecursion (λ (x : Savepoint). same_name name x.name ≡ false) (xs ++ s ∷ [])
  none_last [] s none last = (last, tt)
  none_last (x ∷ xs) s none last = (none.0, none_last xs s none.1 last)

  module _ (store : Tables) where
    abbrev saved : List Mark → List Savepoint
    saved marks = reverse (map (savepoint_at store) marks)

    saved_cons : (mark : Mark) (marks : List Mark) → saved (mark ∷ marks) ≡ saved marks ++ savepoint_at store mark ∷ []
    saved_cons mark marks = reverse-cons (savepoint_at store mark) (map (savepoint_at store) marks)

    none_saved : (marks : List Mark) → AllByRecursion (λ (m : Mark). same_name name m.name ≡ false) marks
        → AllByRecursion (λ (x : Savepoint). same_name name x.name ≡ false) (saved marks)
    none_saved [] none = tt
    none_saved (mark ∷ marks) none =
        subst (AllByRecursion (λ (x : Savepoint). same_name name x.name ≡ false)) (sym (saved_cons mark marks))
        (none_last (saved marks) (savepoint_at store mark) (none_saved marks none.1) none.0)

    -- There is a saved savepoint with the name if one of the marks has it, ..
    pub some_named : (marks : List Mark) (place : ℕ) → IsLatest name marks place → list_any is_named (saved marks) ≡ true
    some_named [] place latest = absurd latest
    some_named (mark ∷ marks) zero latest =
        ap (list_any is_named) (saved_cons mark marks) ∙ (list_any-append is_named (saved marks) (savepoint_at store mark ∷ [])
        ∙ (ap (λ (b : Bool). list_any is_named (saved marks) || (b || false)) latest.0 ∙ or_true (list_any is_named (saved marks))))
    some_named (mark ∷ marks) (suc place) latest =
        ap (list_any is_named) (saved_cons mark marks) ∙ (list_any-append is_named (saved marks) (savepoint_at store mark ∷ [])
        ∙ ap (λ (b : Bool). b || (is_named (savepoint_at store mark) || false)) (some_named marks place latest))

    -- .. and none if no mark has it.
    pub none_named : (marks : List Mark) → AllByRecursion (λ (m : Mark). same_name name m.name ≡ false) marks → list_any is_named (saved marks) ≡ false
    none_named [] none = refl
    none_named (mark ∷ marks) none =
        ap (list_any is_named) (saved_cons mark marks) ∙ (list_any-append is_named (saved marks) (savepoint_at store mark ∷ [])
        ∙ ((λ i. none_named marks none.1 i || (none.0 i || false))))

    -- A rollback to the latest savepoint with the name leaves the savepoints of the marks up to the latest.
    pub back_is : (marks : List Mark) (place : ℕ) → IsLatest name marks place → back_to name (saved marks) ≡ saved (take (suc place) marks)
    back_is [] place latest = absurd latest
    back_is (mark ∷ marks) zero latest =
        ap (back_to name) (saved_cons mark marks)
        ∙ (back_past (saved marks) (savepoint_at store mark ∷ []) (none_saved marks latest.1)
        ∙ ap (λ (b : Bool). if b then savepoint_at store mark ∷ [] else []) latest.0)
    back_is (mark ∷ marks) (suc place) latest =
        ap (back_to name) (saved_cons mark marks)
        ∙ (back_within (saved marks) (savepoint_at store mark ∷ []) (some_named marks place latest)
        ∙ (ap (λ (xs : List Savepoint). xs ++ savepoint_at store mark ∷ []) (back_is marks place latest)
        ∙ sym (saved_cons mark (take (suc place) marks))))

module _ (store : Tables) where
  -- One more mark is one more savepoint, at the front.
  pub saved_push : (marks : List Mark) (mark : Mark)
      → reverse (map (savepoint_at store) (marks ++ mark ∷ [])) ≡ savepoint_at store mark ∷ reverse (map (savepoint_at store) marks)
  saved_push [] mark = refl
  saved_push (m ∷ ms) mark =
      reverse-cons (savepoint_at store m) (map (savepoint_at store) (ms ++ mark ∷ []))
      ∙ (ap (λ (xs : List Savepoint). xs ++ savepoint_at store m ∷ []) (saved_push ms mark)
      ∙ sym (ap (λ (xs : List Savepoint). savepoint_at store mark ∷ xs) (reverse-cons (savepoint_at store m) (map (savepoint_at store) ms))))

  -- The rows of the latest of the marks up to a place are those at the mark there.
  pub latest_rows : (marks : List Mark) (place : ℕ) (mark : Mark) (rows : Instance) → slice_get marks place ≡ Some mark
      → rows_at_latest (reverse (map (savepoint_at store) (take (suc place) marks))) rows ≡ rows_at_mark mark.commands store
  latest_rows marks place mark rows there =
      ap (λ (ms : List Mark). rows_at_latest (reverse (map (savepoint_at store) ms)) rows) (take_last marks place mark there)
      ∙ ap (λ (ss : List Savepoint). rows_at_latest ss rows) (saved_push (take place marks) mark)

  -- There are as many savepoints as marks.
  pub length_saved : (marks : List Mark) → length (reverse (map (savepoint_at store) marks)) ≡ length marks
  length_saved [] = refl
  length_saved (m ∷ ms) =
      ap length (reverse-cons (savepoint_at store m) (map (savepoint_at store) ms))
      ∙ (one_more (reverse (map (savepoint_at store) ms)) ∙ ap suc (length_saved ms))
    where
      one_more : (xs : List Savepoint) → length (xs ++ savepoint_at store m ∷ []) ≡ suc (length xs)
      one_more [] = refl
      one_more (x ∷ xs) = ap suc (one_more xs)
