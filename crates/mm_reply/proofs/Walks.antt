-- The text of rows that are read one after another, in the parts in which it is written.
use Rattle.std.proofs.Common.{◌≡◌, ℕ, List, [], ◌∷◌, ◌++◌, length, sym, ap, ◌∙◌, append-nil, append_assoc}
use Rattle.std.specs.List.{flat_map}
use Rattle.std.proofs.lemmas.List.Concat.{flat_map-append}
use Rattle.mm_lang.specs.ReplyText.{rows_text}
use Rattle.mm_lang.proofs.ReplyLemmas.{count_line, row_line, rows_text_split}
use Rattle.mm_value.specs.declared.values.Value.{Value}

-- the row that was read next
abbrev pub first_of : {X : Type 0} {all rest : List X} {x : X} → all ≡ x ∷ rest → X
first_of {x} is = x

-- the lines of rows
abbrev pub lines : List (List Value) → List ℕ
lines rows = flat_map row_line rows

-- one more line
pub lines_more : (read : List (List Value)) (row : List Value) → lines (read ++ row ∷ []) ≡ lines read ++ row_line row
lines_more read row = flat_map-append row_line read (row ∷ []) ∙ ap (λ l. lines read ++ l) (append-nil (row_line row))

-- the text after the lines so far
abbrev pub behind : List (List Value) → ℕ → List ℕ
behind rest n = lines rest ++ count_line n

pub text_at : (rows read rest : List (List Value)) (row : List Value) → rows ≡ read ++ row ∷ rest
    → rows_text rows ≡ (lines read ++ row_line row) ++ behind rest (length rows)
text_at rows read rest row split =
    let n = length rows in
    let parts : lines rows ≡ (lines read ++ row_line row) ++ lines rest =
    ap lines (split ∙ sym (append_assoc read (row ∷ []) rest)) ∙ flat_map-append row_line (read ++ row ∷ []) rest
    ∙ ap (λ l. l ++ lines rest) (lines_more read row) in
    rows_text_split rows ∙ ap (λ l. l ++ count_line n) parts ∙ append_assoc (lines read ++ row_line row) (lines rest) (count_line n)

pub text_all : (rows read rest : List (List Value)) (n : ℕ) → rows ≡ read ++ rest → rest ≡ [] → n ≡ length rows → rows_text rows ≡ lines read ++ count_line n
text_all rows read rest n split none counted =
    let all : rows ≡ read = split ∙ ap (λ r. read ++ r) none ∙ append-nil read in
    rows_text_split rows ∙ ap (λ l. l ++ count_line (length rows)) (ap lines all) ∙ ap (λ k. lines read ++ count_line k) (sym counted)
