-- The texts of replies as the parts in which they are written.
use Rattle.std.proofs.Common.{◌≡◌, ℕ, ◌+◌, ◌<◌, ◌≤◌, List, [], ◌∷◌, ◌++◌, length, get_or, take, drop, codes, decimal, sym, ap, append-nil, append_assoc}
use Rattle.std.proofs.Common.{take-append-drop, ◌∙◌}
use Rattle.std.specs.List.{flat_map}
use Rattle.std.proofs.lemmas.List.{take_all, take_more}
use Rattle.std.proofs.lemmas.List.Concat.{flat_map-append}
use Rattle.mm_value.specs.declared.values.Value.{Value}
use Rattle.mm_value.specs.Written.{row_text}
use Rattle.mm_value.specs.Refusals.{refusal_number, refusal_text}
use Rattle.mm_value.specs.declared.refusal.Refusal.{Refusal}
use Rattle.mm_query.specs.declared.reply.Reply.TheVariants.{Refused}
use Rattle.mm_lang.specs.ReplyText.{counted_lines, reply_text, rows_text}

module _ {X : Type 0} (text : X → List ℕ) (label : List ℕ) where
  -- the line of an item, and the line after the items
  abbrev pub item_line : X → List ℕ
  item_line item = text item ++ 10 ∷ []

  abbrev pub number_line : ℕ → List ℕ
  number_line n = label ++ decimal n ++ 10 ∷ []

  pub counted_split : (items : List X) → counted_lines text label items ≡ flat_map item_line items ++ number_line (length items)
  counted_split items =
      ap (λ l. l ++ 10 ∷ []) (append_assoc (flat_map item_line items) label (decimal (length items)))
      ∙ append_assoc (flat_map item_line items) (label ++ decimal (length items)) (10 ∷ [])

  -- i items, and the next
  pub item_lines_more : (items : List X) (i : ℕ) (item : X) → i < length items → item ≡ get_or items i item
      → flat_map item_line (take (i + 1) items) ≡ flat_map item_line (take i items) ++ item_line item
  item_lines_more items i item lt at =
      ap (flat_map item_line) (take_more items i item lt ∙ ap (λ r. take i items ++ r ∷ []) (sym at))
      ∙ flat_map-append item_line (take i items) (item ∷ [])
      ∙ ap (λ l. flat_map item_line (take i items) ++ l) (append-nil (item_line item))

  -- the text after the first lines
  abbrev pub lines_behind_first : ℕ → List X → List ℕ
  lines_behind_first i items = flat_map item_line (drop i items) ++ number_line (length items)

  pub counted_at : (items : List X) (i : ℕ) → counted_lines text label items ≡ flat_map item_line (take i items) ++ lines_behind_first i items
  counted_at items i =
      counted_split items
      ∙ ap (λ l. l ++ number_line (length items))
      (ap (flat_map item_line) (sym (take-append-drop i items)) ∙ flat_map-append item_line (take i items) (drop i items))
      ∙ append_assoc (flat_map item_line (take i items)) (flat_map item_line (drop i items)) (number_line (length items))

  pub counted_all : (items : List X) (i : ℕ) → length items ≤ i
      → counted_lines text label items ≡ flat_map item_line (take i items) ++ number_line (length items)
  counted_all items i h = counted_split items ∙ ap (λ l. flat_map item_line l ++ number_line (length items)) (sym (take_all i items h))

-- the line of a row, and the line after the rows
abbrev pub row_line : List Value → List ℕ
row_line row = row_text row ++ 10 ∷ []

abbrev pub count_line : ℕ → List ℕ
count_line n = codes "rows " ++ decimal n ++ 10 ∷ []

pub rows_text_split : (rows : List (List Value)) → rows_text rows ≡ flat_map row_line rows ++ count_line (length rows)
rows_text_split rows = counted_split row_text (codes "rows ") rows

-- i rows, and the next
pub row_lines_more : (rows : List (List Value)) (i : ℕ) (row : List Value) → i < length rows → row ≡ get_or rows i row
    → flat_map row_line (take (i + 1) rows) ≡ flat_map row_line (take i rows) ++ row_line row
row_lines_more rows i row lt at = item_lines_more row_text (codes "rows ") rows i row lt at

-- the text after the first lines
abbrev pub text_behind : ℕ → List (List Value) → List ℕ
text_behind i rows = flat_map row_line (drop i rows) ++ count_line (length rows)

pub rows_text_at : (rows : List (List Value)) (i : ℕ) → rows_text rows ≡ flat_map row_line (take i rows) ++ text_behind i rows
rows_text_at rows i = counted_at row_text (codes "rows ") rows i

pub rows_text_all : (rows : List (List Value)) (i : ℕ) → length rows ≤ i → rows_text rows ≡ flat_map row_line (take i rows) ++ count_line (length rows)
rows_text_all rows i h = counted_all row_text (codes "rows ") rows i h

-- a refusal, by its number and its text
pub refusal_line : (refusal : Refusal) (n : ℕ) (text : List ℕ) → n ≡ refusal_number refusal → text ≡ refusal_text refusal
    → reply_text (Refused refusal) ≡ codes "error " ++ decimal n ++ 32 ∷ text ++ 10 ∷ []
refusal_line refusal n text number says =
    ap (λ k. codes "error " ++ decimal k ++ 32 ∷ refusal_text refusal ++ 10 ∷ []) (sym number)
    ∙ ap (λ t. codes "error " ++ decimal n ++ 32 ∷ t ++ 10 ∷ []) (sym says)
