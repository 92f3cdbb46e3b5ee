-- INSERT lines, row by row.
use Rattle.std.proofs.Common.{◌≡◌, ◌<◌, ◌≤◌, ℕ, ◌+◌, Bool, true, false, if◌then◌else◌, List, [], ◌∷◌, ◌++◌, Option, Some, None, codes, drop, length}
use Rattle.std.proofs.Common.{suc, ◌-◌, length-drop, min, sym, ap, ◌∙◌, append-nil, append_assoc, arith, length-append, nat_le, nat_lt}
use Rattle.std.specs.Prelude.{IfSome, MatchOption}
use Rattle.std.proofs.lemmas.Bool.{and_parts, leb-true}
use Rattle.std.proofs.lemmas.List.{drop-drop}
use Rattle.mm_value.specs.Written.{row_text}
use Rattle.mm_value.specs.declared.values.Value.{Value}
use Rattle.mm_dump.specs.Inserts.{has_room, line_end, put_text, put_texts, rows_put, used_after, used_after_rows}
use Rattle.mm_dump.specs.RowLines.{AreTaken, line_tail, rows_left}
use Rattle.mm_dump.specs.Texts.{insert_text}

-- ---- the rest of a line

-- The next row, and the text after it.
pub tail_more : (table : List ℕ) (used : ℕ) (row : List Value) (rows : List (List Value))
    → line_tail table used (row ∷ rows) ≡ put_text table used row ++ line_tail table (used_after table used row) rows
tail_more table used row rows =
    let after = used_after table used row in
    append_assoc (put_text table used row) (rows_put table after rows) (line_end (used_after_rows table after rows))

-- A row that has no room ends the line.
tail_breaks : (table : List ℕ) (used : ℕ) (row : List Value) (rows : List (List Value)) → has_room used row ≡ false
    → line_tail table used (row ∷ rows) ≡ line_end used ++ put_texts table (row ∷ rows)
tail_breaks table used row rows room =
    let first = insert_text table (row ∷ []) in
    let long = min (length first) 4097 in
    let rest = line_tail table long rows in
    let text : put_text table used row ≡ line_end used ++ first = ap (λ (b : Bool). if b then codes ", " ++ row_text row else line_end used ++ first) room in
    let after : used_after table used row ≡ long = ap (λ (b : Bool). if b then used + length (row_text row) + 2 else long) room in
    tail_more table used row rows
    ∙ (λ i. text i ++ line_tail table (after i) rows)
    ∙ append_assoc (line_end used) first rest
    ∙ ap (λ l. line_end used ++ l) (sym (tail_more table 0 row rows))

-- If no row joins the line, it ends, and the remaining rows have lines of their own.
pub tail_ends : {R : Type 0} (values : R → List Value) (table : List ℕ) (used : ℕ) (next : Option R) (rows : List (List Value))
    → IfSome next (λ row. has_room used (values row) ≡ false)
    → line_tail table used (rows_left values next rows) ≡ line_end used ++ put_texts table (rows_left values next rows)
tail_ends values table used None rows room = sym (append-nil (line_end used))
tail_ends values table used (Some row) rows room = tail_breaks table used (values row) rows room

-- ---- a line that is begun

-- The text has grown.
abbrev pub Grows : List ℕ → List ℕ → Type 0
Grows old new = (added : List ℕ) × (new ≡ old ++ added)

pub grows_more : (old now new added : List ℕ) → Grows old now → new ≡ now ++ added → Grows old new
grows_more old now new added g is = (g.0 ++ added, is ∙ ap (λ l. l ++ added) g.1 ∙ append_assoc old g.0 added)

-- Some rows are in the line, and the text of the others remains.
pub record IsBegun (table before after : List ℕ) (all : List (List Value)) (used count : ℕ) (left : List (List Value)) : Type 0 where
  pub under : 0 < used
  pub text : after ++ line_tail table used left ≡ before ++ put_texts table all
  pub kept : Grows before after
  pub taken : AreTaken count all left
  pub some : 0 < count
  pub few : count ≤ used

pub begun_first : (table before after : List ℕ) (first : List Value) (rest left : List (List Value)) (used : ℕ)
    → after ≡ before ++ put_text table 0 first → used ≡ used_after table 0 first → rest ≡ left
    → IsBegun table before after (first ∷ rest) used 1 left
begun_first table before after first rest left used written counted are =
    let line = insert_text table (first ∷ []) in
    let some : 1 ≤ length line = omega (arith, length-append (codes "INSERT ") (table ++ 32 ∷ row_text first)) in
    let long : used ≡ min (length line) 4097 = counted in
    record {
      under = omega (arith, long, some);
      text =
          (λ i. written i ++ line_tail table (counted i) (sym are i))
          ∙ append_assoc before (put_text table 0 first) (line_tail table (used_after table 0 first) rest)
          ∙ ap (λ l. before ++ l) (sym (tail_more table 0 first rest));
      kept = (put_text table 0 first, written);
      taken = record { within = omega arith; left_are = are };
      some = omega arith;
      few = omega (arith, long, some);
    }

-- The row has room: the line has fewer than 4,096 bytes.
pub room_is : (used : ℕ) (row : List Value) → has_room used row ≡ true → used + length (row_text row) + 2 ≤ 4096
room_is used row room = leb-true (used + length (row_text row) + 2) 4096 (and_parts (nat_lt 0 used) (nat_le (used + length (row_text row) + 2) 4096) room).1

pub begun_more : (table before after longer : List ℕ) (all : List (List Value)) (used more count : ℕ) (row : List Value) (rest left : List (List Value))
    → IsBegun table before after all used count (row ∷ rest) → has_room used row ≡ true → longer ≡ after ++ put_text table used row
    → more ≡ used_after table used row → rest ≡ left → IsBegun table before longer all more (count + 1) left
begun_more table before after longer all used more count row rest left begun room written counted are =
    let long : more ≡ used + length (row_text row) + 2 = counted ∙ ap (λ (b : Bool). if b then used + length (row_text row) + 2 else min (length (insert_text
    table (row ∷ []))) 4097) room in
    let size : length (drop count all) ≡ suc (length rest) = ap length begun.taken.left_are in
    record {
      under = omega (arith, long);
      text =
          (λ i. written i ++ line_tail table (counted i) (sym are i))
          ∙ append_assoc after (put_text table used row) (line_tail table (used_after table used row) rest)
          ∙ ap (λ l. after ++ l) (sym (tail_more table used row rest))
          ∙ begun.text;
      kept = grows_more before after longer (put_text table used row) begun.kept written;
      taken = record {
        within = omega (arith, length-drop count all, size, begun.taken.within);
        left_are = sym (drop-drop 1 count all) ∙ ap (drop 1) begun.taken.left_are ∙ are;
      };
      some = omega arith;
      few = omega (arith, long, begun.few);
    }

-- The line is written, to its end.
pub begun_ends : {R : Type 0} (values : R → List Value) (table before after ended : List ℕ) (all : List (List Value)) (used count : ℕ) (next : Option R)
    (rows : List (List Value)) → IsBegun table before after all used count (rows_left values next rows)
    → IfSome next (λ row. has_room used (values row) ≡ false) → ended ≡ after ++ line_end used
    → ended ++ put_texts table (rows_left values next rows) ≡ before ++ put_texts table all
begun_ends values table before after ended all used count next rows begun room written =
    let left = rows_left values next rows in
    ap (λ l. l ++ put_texts table left) written
    ∙ append_assoc after (line_end used) (put_texts table left)
    ∙ ap (λ l. after ++ l) (sym (tail_ends values table used next rows room))
    ∙ begun.text

-- ---- lines that are added

-- Lines with the first rows were added, and the others are left.
pub record AreAdded (table : List ℕ) (room : ℕ) (before after : List ℕ) (all : List (List Value)) (first row : ℕ) (left : List (List Value)) : Type 0 where
  pub further : first ≤ row
  pub taken : AreTaken (row - first) all left
  pub text : after ++ put_texts table left ≡ before ++ put_texts table all
  pub small : length before ≤ room → length after ≤ room

pub added_none : (table : List ℕ) (room : ℕ) (bytes : List ℕ) (all left : List (List Value)) (row : ℕ) → all ≡ left
    → AreAdded table room bytes bytes all row row left
added_none table room bytes all left row are =
    let none : row - row ≡ 0 = omega arith in
    record {
      further = omega arith;
      taken = record { within = omega arith; left_are = ap (λ n. drop n all) none ∙ are };
      text = ap (λ (rows : List (List Value)). bytes ++ put_texts table rows) (sym are);
      small = λ fits. fits;
    }

pub added_more : (table : List ℕ) (room : ℕ) (before after longer : List ℕ) (all : List (List Value)) (first row count : ℕ) (left rest : List (List Value))
    → AreAdded table room before after all first row left → AreTaken count left rest
    → longer ++ put_texts table rest ≡ after ++ put_texts table left → (length after ≤ room → length longer ≤ room)
    → AreAdded table room before longer all first (row + count) rest
added_more table room before after longer all first row count left rest added taken text fits =
    let long : length left ≡ length all - (row - first) = sym (ap length added.taken.left_are) ∙ length-drop (row - first) all in
    let more : row + count - first ≡ row - first + count = omega (arith, added.further) in
    record {
      further = omega (arith, added.further);
      taken = record {
        within = omega (arith, more, long, taken.within, added.taken.within);
        left_are = ap (λ n. drop n all) more ∙ sym (drop-drop count (row - first) all) ∙ ap (drop count) added.taken.left_are ∙ taken.left_are;
      };
      text = text ∙ added.text;
      small = λ begun_small. fits (added.small begun_small);
    }

-- As many rows as were taken and are there do not exceed the numbers of a machine.
pub added_fits : (table : List ℕ) (room : ℕ) (before after : List ℕ) (all : List (List Value)) (first row count : ℕ) (left rest : List (List Value))
    → AreAdded table room before after all first row left → AreTaken count left rest → row + count ≤ first + length all
added_fits table room before after all first row count left rest added taken =
    let long : length left ≡ length all - (row - first) = sym (ap length added.taken.left_are) ∙ length-drop (row - first) all in
    omega (arith, long, taken.within, added.taken.within, added.further)

-- The rows that are left, once the next one is read.
pub next_left : {R : Type 0} (values : R → List Value) (next : Option R) (old new : List (List Value))
    → MatchOption next (old ≡ []) (λ row. old ≡ values row ∷ new) → old ≡ rows_left values next new
next_left values None old new is = is
next_left values (Some row) old new is = is
