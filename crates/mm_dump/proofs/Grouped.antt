-- Rows that are put one after another are the INSERT lines of groups of rows.
use Rattle.std.proofs.Common.{◌≡◌, ◌≢◌, ◌≤◌, ◌<◌, ◌+◌, ℕ, Bool, true, false, cond, leb, ltb, List, [], ◌∷◌, ◌++◌, codes, length, min, refl}
use Rattle.std.proofs.Common.{sym, ap, ◌∙◌}
use Rattle.std.proofs.Common.{append_assoc, append-nil, length-append, arith}
use Rattle.std.specs.List.{AllByRecursion, flat_map}
use Rattle.std.proofs.lemmas.Bool.{and_parts, cond-true, leb-true, lt-ltb}
use Rattle.mm_value.specs.Written.{row_text}
use Rattle.mm_schema.proofs.StrictOrder.{AllByRecursion-append_right}
use Rattle.mm_value.specs.declared.values.Value.{Value}
use Rattle.mm_dump.specs.Dumps.{FitsIfMany, Groups}
use Rattle.mm_dump.specs.Inserts.{has_room, line_end, put_texts, rows_put, used_after_rows}
use Rattle.mm_dump.specs.Texts.{comma_separated, insert_text}

abbrev Row : Type 0
Row = List Value

-- A further text is appended to the others.
separated_push : (rows : List Row) (row : Row) → rows ≢ []
    → comma_separated row_text (rows ++ row ∷ []) ≡ comma_separated row_text rows ++ (codes ", " ++ row_text row)
separated_push [] row some = absurd (some refl)
separated_push (r ∷ []) row some = refl
separated_push (r ∷ s ∷ rs) row some =
    ap (λ l. row_text r ++ (codes ", " ++ l)) (separated_push (s ∷ rs) row (λ e. cc))
    ∙ sym (append_assoc (row_text r) (codes ", " ++ comma_separated row_text (s ∷ rs)) (codes ", " ++ row_text row))

module _ (table : List ℕ) where
  insert_push : (group : List Row) (row : Row) → group ≢ [] → insert_text table (group ++ row ∷ []) ≡ insert_text table group ++ (codes ", " ++ row_text row)
  insert_push group row some =
      ap (λ l. codes "INSERT " ++ (table ++ 32 ∷ l)) (separated_push group row some)
      ∙ sym (append_assoc (codes "INSERT " ++ table) (32 ∷ comma_separated row_text group) (codes ", " ++ row_text row))

  -- The line of a group, with its line feed.
  abbrev line : List Row → List ℕ
  line group = insert_text table group ++ 10 ∷ []

  -- Rows divided into groups of lines, of which those of more than one row have at most 4,096 bytes, and these lines.
  pub record AreLines (rows : List Row) (text : List ℕ) : Type 0 where
    pub groups : Groups
    pub whole : flat_map (λ (group : List Row). group) groups ≡ rows
    pub some : AllByRecursion (λ (group : List Row). group ≢ []) groups
    pub short : AllByRecursion (FitsIfMany table) groups
    pub text_is : text ≡ flat_map (λ (group : List Row). insert_text table group ++ 10 ∷ []) groups

  fits_if_many : (group : List Row) → length (insert_text table group) ≤ 4096 → FitsIfMany table group
  fits_if_many [] short = tt
  fits_if_many (r ∷ []) short = tt
  fits_if_many (r ∷ s ∷ rs) short = short

  some_pushed : (group : List Row) (row : Row) → group ++ row ∷ [] ≢ []
  some_pushed [] row e = cc
  some_pushed (g ∷ gs) row e = cc

  some_bytes : (group : List Row) → 0 < length (insert_text table group)
  some_bytes group = let parts = length-append (codes "INSERT ") (table ++ 32 ∷ comma_separated row_text group) in omega (arith, parts)

  line_ends : (used : ℕ) → 0 < used → line_end used ≡ 10 ∷ []
  line_ends used begun = cond-true (ltb 0 used) (10 ∷ []) [] (lt-ltb 0 used begun)

  -- The text of rows, to the end of the last line, after an open line of some length.
  abbrev ended : ℕ → List Row → List ℕ
  ended used rows = rows_put table used rows ++ line_end (used_after_rows table used rows)

  -- The open line has the bytes of a group.
  abbrev IsUsed : ℕ → List Row → Type 0
  IsUsed used group = used ≡ min (length (insert_text table group)) 4097

  -- After the open line of a group.
  open_lines : (group : List Row) (used : ℕ) (rows : List Row) → group ≢ [] → IsUsed used group → FitsIfMany table group
      → AreLines (group ++ rows) (insert_text table group ++ ended used rows)
  open_lines group used [] some size short =
      let begun : 0 < used = let bytes = some_bytes group in omega (arith, bytes, size) in
      record {
        groups = group ∷ [];
        whole = refl;
        some = (some, tt);
        short = (short, tt);
        text_is = ap (λ l. insert_text table group ++ l) (line_ends used begun) ∙ sym (append-nil (line group));
      }
  open_lines group used (row ∷ rows) some size short =
      by (has_room used row) refl (open_lines (group ++ row ∷ []) (used + length (row_text row) + 2) rows (some_pushed group row))
      (open_lines (row ∷ []) (min (length (insert_text table (row ∷ []))) 4097) rows (λ e. cc) refl tt)
    where
      by : (b : Bool) → has_room used row ≡ b
          → (IsUsed (used + length (row_text row) + 2) (group ++ row ∷ []) → FitsIfMany table (group ++ row ∷ [])
          → AreLines ((group ++ row ∷ []) ++ rows) (insert_text table (group ++ row ∷ []) ++ ended (used + length (row_text row) + 2) rows))
          → AreLines (row ∷ rows) (insert_text table (row ∷ []) ++ ended (min (length (insert_text table (row ∷ []))) 4097) rows)
          → AreLines (group ++ row ∷ rows)
          (insert_text table group ++ ((cond b (codes ", " ++ row_text row) (line_end used ++ insert_text table (row ∷ []))
          ++ rows_put table (cond b (used + length (row_text row) + 2) (min (length (insert_text table (row ∷ []))) 4097)) rows)
          ++ line_end (used_after_rows table (cond b (used + length (row_text row) + 2) (min (length (insert_text table (row ∷ []))) 4097)) rows)))
      by true is joined begun =
          let more = used + length (row_text row) + 2 in
          let room = leb-true more 4096 (and_parts (ltb 0 used) (leb more 4096) is).1 in
          let text : insert_text table (group ++ row ∷ []) ≡ insert_text table group ++ (codes ", " ++ row_text row) = insert_push group row some in
          let sum = length-append (insert_text table group) (codes ", " ++ row_text row) in
          let both = length-append (codes ", ") (row_text row) in
          let whole : length (insert_text table (group ++ row ∷ [])) ≡ more = omega (arith, size, room, sum, both, ap length text) in
          let lines = joined (omega (arith, whole, room)) (fits_if_many (group ++ row ∷ []) (omega (arith, whole, room))) in
          record {
            groups = lines.groups;
            whole = lines.whole ∙ append_assoc group (row ∷ []) rows;
            some = lines.some;
            short = lines.short;
            text_is = ap (λ l. insert_text table group ++ l) (append_assoc (codes ", " ++ row_text row) (rows_put table more rows)
                (line_end (used_after_rows table more rows)))
                ∙ sym (append_assoc (insert_text table group) (codes ", " ++ row_text row) (ended more rows))
                ∙ ap (λ l. l ++ ended more rows) (sym text) ∙ lines.text_is;
          }
      by false is joined lines =
          let begun : 0 < used = let bytes = some_bytes group in omega (arith, bytes, size) in
          let next = insert_text table (row ∷ []) in
          let anew = min (length (insert_text table (row ∷ []))) 4097 in
          record {
            groups = group ∷ lines.groups;
            whole = ap (λ l. group ++ l) lines.whole;
            some = (some, lines.some);
            short = (short, lines.short);
            text_is = ap (λ l. insert_text table group ++ (((l ++ next) ++ rows_put table anew rows) ++ line_end (used_after_rows table anew rows)))
                (line_ends used begun)
                ∙ ap (λ l. insert_text table group ++ 10 ∷ l) (append_assoc next (rows_put table anew rows) (line_end (used_after_rows table anew rows)))
                ∙ sym (append_assoc (insert_text table group) (10 ∷ []) (next ++ ended anew rows)) ∙ ap (λ l. line group ++ l) lines.text_is;
          }

  -- Rows that are put one after another are put in lines.
  pub rows_in_lines : (rows : List Row) → AreLines rows (put_texts table rows)
  rows_in_lines [] = record { groups = []; whole = refl; some = tt; short = tt; text_is = refl }
  rows_in_lines (row ∷ rows) =
      let first = insert_text table (row ∷ []) in
      let used = min (length (insert_text table (row ∷ []))) 4097 in
      let lines = open_lines (row ∷ []) used rows (λ e. cc) refl tt in
      record {
        groups = lines.groups;
        whole = lines.whole;
        some = lines.some;
        short = lines.short;
        text_is = append_assoc first (rows_put table used rows) (line_end (used_after_rows table used rows)) ∙ lines.text_is;
      }

  -- Groups fit lines if each row alone does.
  pub groups_fit : (groups : Groups) → AllByRecursion (FitsIfMany table) groups
      → AllByRecursion (λ (row : Row). length (insert_text table (row ∷ [])) ≤ 4096) (flat_map (λ (group : List Row). group) groups)
      → AllByRecursion (λ (group : List Row). group ≢ []) groups → AllByRecursion (λ (group : List Row). length (insert_text table group) ≤ 4096) groups
  groups_fit [] short fit some = tt
  groups_fit ([] ∷ gs) short fit some = absurd (some.0 refl)
  groups_fit ((r ∷ []) ∷ gs) short fit some = (fit.0, groups_fit gs short.1 fit.1 some.1)
  groups_fit ((r ∷ s ∷ rs) ∷ gs) short fit some =
      let others = flat_map (λ (group : List Row). group) gs in
      let behind = AllByRecursion-append_right (λ (row : Row). length (insert_text table (row ∷ [])) ≤ 4096) (r ∷ s ∷ rs) others fit in
      (short.0, groups_fit gs short.1 behind some.1)
