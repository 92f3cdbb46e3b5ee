-- The lengths of rows as they are printed.
use Rattle.std.proofs.Common.{◌≡◌, ◌≤◌, ◌<◌, ◌+◌, ◌&&◌, ℕ, zero, suc, Bool, true, false, cond, eqb, leb, ltb, List, [], ◌∷◌, ◌++◌, Some, codes, length, min}
use Rattle.std.proofs.Common.{slice_get, take, refl, sym, ap, ◌∙◌, length-append, arith}
use Rattle.std.specs.List.{count_by, flat_map, sum_by}
use Rattle.std.proofs.lemmas.Bool.{and_parts, leb-false, leb-true, lt-leb}
use Rattle.std.proofs.lemmas.List.Sums.{count_by-le-length, sum_by-cons}
use Rattle.mm_value.specs.Literal.{doubled, doubled_byte, quoted}
use Rattle.mm_value.specs.Written.{row_text, value_text, values_text}
use Rattle.mm_value.specs.declared.values.Value.{Value}
use Rattle.mm_value.proofs.RowTexts.{next_text, values_text-cons}
use Rattle.mm_schema.specs.Name.{IsName, is_name_text}
use Rattle.mm_dump.specs.Texts.{insert_text}

-- ---- texts

length-doubled_byte : (b : ℕ) → length (doubled_byte b) ≡ 1 + cond (eqb b 39) 1 0
length-doubled_byte b = by (eqb b 39)
  where
    by : (quote : Bool) → length (cond quote (39 ∷ 39 ∷ []) (b ∷ [])) ≡ 1 + cond quote 1 0
    by true = refl
    by false = refl

-- A quote counts twice.
length-doubled : (bytes : List ℕ) → length (doubled bytes) ≡ length bytes + count_by (λ b. eqb b 39) bytes
length-doubled [] = refl
length-doubled (b ∷ bs) =
    let whole : length (doubled (b ∷ bs)) ≡ length (doubled_byte b) + length (doubled bs) = length-append (doubled_byte b) (doubled bs) in
    let counted : count_by (λ c. eqb c 39) (b ∷ bs) ≡ cond (eqb b 39) 1 0 + count_by (λ c. eqb c 39) bs = sum_by-cons (λ c. cond (eqb c 39) 1 0) b bs in
    omega (arith, whole, counted, length-doubled_byte b, length-doubled bs)

pub length_of_quoted : (bytes : List ℕ) → length (quoted bytes) ≡ length bytes + count_by (λ b. eqb b 39) bytes + 2
length_of_quoted bytes =
    let whole : length (quoted bytes) ≡ length (39 ∷ doubled bytes) + 1 = length-append (39 ∷ doubled bytes) (39 ∷ []) in
    omega (arith, whole, length-doubled bytes)

pub quoted_bound : (bytes : List ℕ) → length bytes ≤ 64 → length bytes + count_by (λ b. eqb b 39) bytes + 2 ≤ 130
quoted_bound bytes short = omega (arith, short, count_by-le-length (λ b. eqb b 39) bytes)

-- ---- rows

-- The bytes of a value and of its separator.
abbrev pub spaced_len : Value → ℕ
spaced_len value = length (value_text value) + 2

length-next_texts : (values : List Value) → length (flat_map next_text values) ≡ sum_by spaced_len values
length-next_texts [] = refl
length-next_texts (v ∷ vs) =
    let whole : length (flat_map next_text (v ∷ vs)) ≡ length (next_text v) + length (flat_map next_text vs) =
    length-append (next_text v) (flat_map next_text vs) in
    omega (arith, whole, sum_by-cons spaced_len v vs, length-next_texts vs)

pub length-row : (row : List Value) → 0 < length row → length (row_text row) ≡ sum_by spaced_len row
length-row [] some = absurd (omega (arith, some))
length-row (v ∷ vs) some =
    let row : length (row_text (v ∷ vs)) ≡ length (40 ∷ values_text (v ∷ vs)) + 1 = length-append (40 ∷ values_text (v ∷ vs)) (41 ∷ []) in
    let parts : length (values_text (v ∷ vs)) ≡ length (value_text v) + length (flat_map next_text vs) =
    ap length (values_text-cons v vs) ∙ length-append (value_text v) (flat_map next_text vs) in
    omega (arith, row, parts, length-next_texts vs, sum_by-cons spaced_len v vs)

pub length-no_row : (row : List Value) → length row ≡ 0 → length (row_text row) ≡ 2
length-no_row [] none = refl
length-no_row (v ∷ vs) none = absurd (omega (arith, none))

-- One more value.
pub bytes_more : (row : List Value) (i : ℕ) (v : Value) → slice_get row i ≡ Some v
    → sum_by spaced_len (take (i + 1) row) ≡ sum_by spaced_len (take i row) + spaced_len v
bytes_more row i v is = let one : i + 1 ≡ suc i = omega arith in ap (λ n. sum_by spaced_len (take n row)) one ∙ behind row i is
  where
    behind : (row : List Value) (i : ℕ) → slice_get row i ≡ Some v → sum_by spaced_len (take (suc i) row) ≡ sum_by spaced_len (take i row) + spaced_len v
    behind [] i is = cc
    behind (x ∷ xs) zero is = let same : x ≡ v = cc in ap (λ w. sum_by spaced_len (w ∷ [])) same ∙ omega (arith, sum_by-cons spaced_len v [])
    behind (x ∷ xs) (suc i) is =
        let later = behind xs i is in omega (arith, later, sum_by-cons spaced_len x (take (suc i) xs), sum_by-cons spaced_len x (take i xs))

-- A row counted up to 4,097 bytes has room as the whole row does.
pub same_room : (used long len : ℕ) → len ≡ min long 4097 → (ltb 0 used && leb (used + len + 2) 4096) ≡ (ltb 0 used && leb (used + long + 2) 4096)
same_room used long len is = ap (λ b. ltb 0 used && b) (by (leb (used + len + 2) 4096) refl)
  where
    by : (b : Bool) → leb (used + len + 2) 4096 ≡ b → leb (used + len + 2) 4096 ≡ leb (used + long + 2) 4096
    by true room = let fits = leb-true (used + len + 2) 4096 room in let same : len ≡ long = omega (arith, is, fits) in ap (λ n. leb (used + n + 2) 4096) same
    by false full =
        let past = leb-false (used + len + 2) 4096 full in
        let more : 4096 < used + long + 2 = omega (arith, is, past) in
        full ∙ sym (lt-leb (used + long + 2) 4096 more)

-- The INSERT of one row.
pub length-insert : (table : List ℕ) (row : List Value) → length (insert_text table (row ∷ [])) ≡ length table + 8 + length (row_text row)
length-insert table row =
    let front : length (insert_text table (row ∷ [])) ≡ 7 + length (table ++ 32 ∷ row_text row) =
    length-append (codes "INSERT ") (table ++ 32 ∷ row_text row) in
    let behind : length (table ++ 32 ∷ row_text row) ≡ length table + length (32 ∷ row_text row) = length-append table (32 ∷ row_text row) in
    omega (arith, front, behind)

pub name_short : (name : List ℕ) → IsName name → length name ≤ 32
name_short name named = leb-true (length name) 32 (and_parts (is_name_text name) _ named).1
