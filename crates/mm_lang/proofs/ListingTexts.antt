-- The text of a listing as the parts in which it is written.
use Rattle.std.proofs.Common.{◌≡◌, ◌≢◌, ◌<◌, ◌≤◌, ℕ, ◌+◌, List, [], ◌∷◌, ◌++◌, Option, Result, codes, decimal, length, get_or, take, drop, sym, ap, subst}
use Rattle.std.proofs.Common.{◌∙◌, append-nil, append_assoc, take-append-drop, arith}
use Rattle.std.specs.List.{flat_map}
use Rattle.std.proofs.lemmas.List.{drop_more, take_all}
use Rattle.std.proofs.lemmas.List.Concat.{flat_map-append}
use Rattle.mm_schema.specs.declared.column.Column.{Column}
use Rattle.mm_schema.specs.declared.index.IndexDef.{IndexDef}
use Rattle.mm_value.specs.Device.{Writes}
use Rattle.mm_value.specs.declared.device.Watched.{Watched}
use Rattle.mm_query.specs.declared.listing.ListedQuery.{ListedQuery}
use Rattle.mm_query.specs.declared.listing.ListedTable.{ListedTable}
use Rattle.mm_query.specs.declared.listing.Listing.{Listing}
use Rattle.mm_lang.specs.ReplyText.{column_text, columns_text, index_line, listing_text, query_line, role_text, table_lines}
use Rattle.mm_lang.specs.Spelling.{kind_word, type_word}
use Rattle.mm_lang.specs.Words.{keyword_text}

-- ---- equal texts are written alike

module _ {W : Type 0} {contents : W → Option (List ℕ)} where
  pub Writes-as : {T E : Type 0} {old new : Watched W} {result : Result T E} {written text : List ℕ} → text ≡ written
      → Writes contents old new result written → Writes contents old new result text
  Writes-as {old} {new} {result} is w = subst (Writes contents old new result) (sym is) w

-- ---- texts one after another

module _ {X : Type 0} (text : X → List ℕ) where
  -- the texts of i items, that of the next one, and those of the rest
  pub texts_at : (items : List X) (i : ℕ) (item : X) → i < length items → item ≡ get_or items i item
      → flat_map text items ≡ (flat_map text (take i items) ++ text item) ++ flat_map text (drop (i + 1) items)
  texts_at items i item lt at =
      let split : items ≡ take i items ++ item ∷ drop (i + 1) items =
      sym (take-append-drop i items) ∙ ap (λ l. take i items ++ l) (drop_more items i item lt ∙ ap (λ x. x ∷ drop (i + 1) items) (sym at)) in
      ap (flat_map text) split ∙ flat_map-append text (take i items) (item ∷ drop (i + 1) items)
      ∙ sym (append_assoc (flat_map text (take i items)) (text item) (flat_map text (drop (i + 1) items)))

  -- the texts of all items
  pub texts_all : (items : List X) (i : ℕ) → length items ≤ i → flat_map text items ≡ flat_map text (take i items)
  texts_all items i end = ap (flat_map text) (sym (take_all i items end))

-- ---- columns

-- a column as the parts in which it is written
pub column_parts : (column : Column) (name type : List ℕ) → name ≡ column.name → type ≡ keyword_text (type_word column.col_type)
    → column_text column ≡ name ++ 32 ∷ type ++ role_text column.role
column_parts column name type named typed = λ i. sym named i ++ 32 ∷ sym typed i ++ role_text column.role

-- a column after another one
abbrev pub next_column : Column → List ℕ
next_column column = 44 ∷ 32 ∷ column_text column

columns_text-cons : (c : Column) (cs : List Column) → columns_text (c ∷ cs) ≡ column_text c ++ flat_map next_column cs
columns_text-cons c [] = sym (append-nil (column_text c))
columns_text-cons c (d ∷ ds) = ap (λ l. column_text c ++ 44 ∷ 32 ∷ l) (columns_text-cons d ds)

-- the first column, the i columns after it, the next one, and the remaining ones
pub columns_text_at : (columns : List Column) (first : Column) (others : List Column) (i : ℕ) (c : Column) → columns ≡ first ∷ others → i < length others
    → c ≡ get_or others i c
    → columns_text columns
    ≡ ((column_text first ++ flat_map next_column (take i others)) ++ next_column c) ++ flat_map next_column (drop (i + 1) others)
columns_text_at columns first others i c e lt at =
    let so_far = flat_map next_column (take i others) in
    let rest = flat_map next_column (drop (i + 1) others) in
    ap columns_text e ∙ columns_text-cons first others ∙ ap (λ l. column_text first ++ l) (texts_at next_column others i c lt at)
    ∙ sym (append_assoc (column_text first) (so_far ++ next_column c) rest)
    ∙ ap (λ l. l ++ rest) (sym (append_assoc (column_text first) so_far (next_column c)))

-- the first column, and all after it
pub columns_text_all : (columns : List Column) (first : Column) (others : List Column) (i : ℕ) → columns ≡ first ∷ others → length others ≤ i
    → columns_text columns ≡ column_text first ++ flat_map next_column (take i others)
columns_text_all columns first others i e end =
    ap columns_text e ∙ columns_text-cons first others ∙ ap (λ l. column_text first ++ l) (texts_all next_column others i end)

-- ---- indexes

regrouped : (a b c d e f g h : List ℕ) → a ++ b ++ c ++ d ++ e ++ f ++ g ++ h ++ 10 ∷ [] ≡ (((a ++ b) ++ (c ++ d)) ++ ((e ++ f) ++ (g ++ h))) ++ 10 ∷ []
regrouped a b c d e f g h = simp append_assoc

-- an index as the parts in which its line is written
pub index_parts : (index : IndexDef) (name table column kind : List ℕ) → name ≡ index.name → table ≡ index.table → column ≡ index.column
    → kind ≡ keyword_text (kind_word index.kind)
    → index_line index ≡ (((codes "INDEX " ++ name) ++ (codes " ON " ++ table)) ++ ((codes " (" ++ column) ++ (codes ") " ++ kind))) ++ 10 ∷ []
index_parts index name table column kind named on by is =
    (λ i. codes "INDEX " ++ sym named i ++ codes " ON " ++ sym on i ++ codes " (" ++ sym by i ++ codes ") " ++ sym is i ++ 10 ∷ [])
    ∙ regrouped (codes "INDEX ") name (codes " ON ") table (codes " (") column (codes ") ") kind

-- ---- tables, and all

-- a listing as the parts in which it is written
pub listing_parts : (listing : Listing) (tables : List ListedTable) (standing : List ListedQuery) → tables ≡ listing.tables → standing ≡ listing.standing
    → listing_text listing ≡ (flat_map table_lines tables ++ flat_map query_line standing) ++ (codes "tables " ++ decimal (length tables) ++ 10 ∷ [])
listing_parts listing tables standing are watched =
    λ i. flat_map table_lines (sym are i) ++ flat_map query_line (sym watched i) ++ (codes "tables " ++ decimal (length (sym are i)) ++ 10 ∷ [])

-- ---- no text begins like a refusal

differ : (a b : ℕ) → a ≡ b → a ≢ b → ⊥
differ a b e ne = ne e

pub listing_is_no_refusal : (tables : List ListedTable) (standing : List ListedQuery) (rest : List ℕ)
    → listing_text (record { tables = tables; standing = standing }) ≡ codes "error " ++ rest → ⊥
listing_is_no_refusal [] [] rest e = differ 116 101 (ap (λ l. get_or l 0 0) e) (omega arith)
listing_is_no_refusal [] (q ∷ qs) rest e = differ 87 101 (ap (λ l. get_or l 0 0) e) (omega arith)
listing_is_no_refusal (t ∷ ts) standing rest e = differ 84 101 (ap (λ l. get_or l 0 0) e) (omega arith)
