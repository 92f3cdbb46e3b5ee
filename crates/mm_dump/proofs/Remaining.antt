-- Places in a dump, and the pieces between them.
use Rattle.std.proofs.Common.{◌≡◌, ℕ, zero, suc, ◌+◌, List, [], ◌∷◌, ◌++◌, Some, None, drop, map, refl, sym, ap, ◌∙◌, append-nil, append_assoc, slice_get}
use Rattle.std.specs.List.{flat_map}
use Rattle.std.proofs.lemmas.List.Concat.{flat_map-append}
use Rattle.mm_schema.specs.Indexes.{indexes_of}
use Rattle.mm_schema.specs.Schema.{Schema}
use Rattle.mm_query.specs.State.{State}
use Rattle.mm_dump.specs.DumpText.{dump_text, rows_script}
use Rattle.mm_dump.specs.Places.{ArePieces, Created, Filled, Indexed, IsPiece, Part, Watched, dump_rest, dump_start, part_text, parts_of, parts_text}
use Rattle.mm_dump.specs.Parts.{line_of}
use Rattle.mm_dump.specs.declared.parts.Line.{Line}
use Rattle.mm_dump.specs.declared.parts.Line.TheVariants.{Index, Table, Watch}
use Rattle.mm_dump.specs.declared.place.DumpPlace.{DumpPlace}
use Rattle.mm_dump.proofs.DumpParts.{indexes_script, tables_script}
use Rattle.mm_dump.proofs.PartLists.{drop_at}

-- ---- the rest of the dump from a place on

parts_from : (state : State) (parts : List Part) → parts_text state 0 parts ≡ flat_map (part_text state 0) parts
parts_from state [] = refl
parts_from state (p ∷ ps) = refl

-- The part at the place, and those after it.
at_part : (state : State) (schema : Schema) (place : DumpPlace) (part : Part) → schema ≡ state.schema → slice_get (parts_of schema) place.part ≡ Some part
    → dump_rest state place ≡ part_text state place.row part ++ parts_text state 0 (drop (place.part + 1) (parts_of state.schema))
at_part state schema place part same is =
    let here : slice_get (parts_of state.schema) place.part ≡ Some part = ap (λ (s : Schema). slice_get (parts_of s) place.part) (sym same) ∙ is in
    ap (parts_text state place.row) (drop_at (parts_of state.schema) place.part part here)
    ∙ ap (λ l. part_text state place.row part ++ l) (sym (parts_from state (drop (place.part + 1) (parts_of state.schema))))

-- The piece has the lines up to a row of the part.
pub piece_part : (state : State) (schema : Schema) (from : DumpPlace) (part row later : ℕ) (p : Part) (bytes more : List ℕ) → schema ≡ state.schema
    → slice_get (parts_of schema) part ≡ Some p → IsPiece state bytes from (record { part = part; row = row })
    → more ++ part_text state later p ≡ bytes ++ part_text state row p → IsPiece state more from (record { part = part; row = later })
piece_part state schema from part row later p bytes more same is piece text =
    let rest = parts_text state 0 (drop (part + 1) (parts_of state.schema)) in
    piece
    ∙ ap (λ l. bytes ++ l) (at_part state schema (record { part = part; row = row }) p same is)
    ∙ sym (append_assoc bytes (part_text state row p) rest)
    ∙ ap (λ l. l ++ rest) (sym text)
    ∙ append_assoc more (part_text state later p) rest
    ∙ ap (λ l. more ++ l) (sym (at_part state schema (record { part = part; row = later }) p same is))

-- The piece has the part to its end.
pub piece_whole : (state : State) (schema : Schema) (from : DumpPlace) (part row : ℕ) (p : Part) (bytes more : List ℕ) → schema ≡ state.schema
    → slice_get (parts_of schema) part ≡ Some p → IsPiece state bytes from (record { part = part; row = row })
    → more ≡ bytes ++ part_text state row p → IsPiece state more from (record { part = part + 1; row = 0 })
piece_whole state schema from part row p bytes more same is piece text =
    let rest = parts_text state 0 (drop (part + 1) (parts_of state.schema)) in
    piece
    ∙ ap (λ l. bytes ++ l) (at_part state schema (record { part = part; row = row }) p same is)
    ∙ sym (append_assoc bytes (part_text state row p) rest)
    ∙ ap (λ l. l ++ rest) (sym text)

past_end : {X : Type 0} (xs : List X) (k : ℕ) → slice_get xs k ≡ None → drop k xs ≡ []
past_end [] zero is = refl
past_end [] (suc k) is = refl
past_end (x ∷ xs) zero is = cc
past_end (x ∷ xs) (suc k) is = past_end xs k is

-- At the end nothing remains.
pub piece_end : (state : State) (schema : Schema) (place : DumpPlace) → schema ≡ state.schema → slice_get (parts_of schema) place.part ≡ None
    → dump_rest state place ≡ []
piece_end state schema place same is =
    let here : slice_get (parts_of state.schema) place.part ≡ None = ap (λ (s : Schema). slice_get (parts_of s) place.part) (sym same) ∙ is in
    ap (parts_text state place.row) (past_end (parts_of state.schema) place.part here)

-- A piece without bytes to the end is at the end.
pub empty_end : (state : State) (from to : DumpPlace) (bytes : List ℕ) → IsPiece state bytes from to → dump_rest state to ≡ [] → bytes ≡ []
    → dump_rest state from ≡ []
empty_end state from to bytes piece ended none = piece ∙ (λ i. none i ++ ended i)

pub piece_none : (state : State) (place : DumpPlace) (bytes : List ℕ) → bytes ≡ [] → IsPiece state bytes place place
piece_none state place bytes none = ap (λ l. l ++ dump_rest state place) (sym none)

-- ---- a whole dump

map_text : {X : Type 0} (state : State) (of : X → Part) (xs : List X) → flat_map (part_text state 0) (map of xs) ≡ flat_map (λ (x : X). part_text state 0 (of
    x)) xs
map_text state of [] = refl
map_text state of (x ∷ xs) = ap (λ l. part_text state 0 (of x) ++ l) (map_text state of xs)

-- The rest from the start on is the whole dump.
pub start_rest : (state : State) → dump_rest state dump_start ≡ dump_text state
unfolding dump_text rows_script
start_rest state =
    let text = part_text state 0 in
    let schema = state.schema in
    let indexes = map Indexed (indexes_of schema.tables) in
    let watches = map Watched schema.standing in
    parts_from state (parts_of schema)
    ∙ flat_map-append text (map Created schema.tables) (map Filled schema.tables ++ (indexes ++ watches))
    ∙ (λ i. (map_text state Created schema.tables ∙ sym (tables_script schema.tables)) i
    ++ (flat_map-append text (map Filled schema.tables) (indexes ++ watches)
    ∙ (λ j. map_text state Filled schema.tables j
    ++ (flat_map-append text indexes watches
    ∙ (λ k. (map_text state Indexed (indexes_of schema.tables) ∙ sym (indexes_script (indexes_of schema.tables))) k
    ++ map_text state Watched schema.standing k)) j)) i)

-- The pieces from one place to another are the rest at the first place without the rest at the second.
pub pieces_rest : (state : State) (pieces : List (List ℕ)) (from to : DumpPlace) → ArePieces state pieces from to
    → dump_rest state from ≡ flat_map (λ (piece : List ℕ). piece) pieces ++ dump_rest state to
pieces_rest state [] from to are = ap (dump_rest state) are
pieces_rest state (piece ∷ pieces) from to are =
    are.1 ∙ ap (λ l. piece ++ l) (pieces_rest state pieces are.0 to are.2)
    ∙ sym (append_assoc piece (flat_map (λ (p : List ℕ). p) pieces) (dump_rest state to))

-- Pieces from the start to the end are the dump.
pub pieces_dump : (state : State) (pieces : List (List ℕ)) (to : DumpPlace) → ArePieces state pieces dump_start to → dump_rest state to ≡ []
    → flat_map (λ (piece : List ℕ). piece) pieces ≡ dump_text state
pieces_dump state pieces to are ended =
    let all = flat_map (λ (piece : List ℕ). piece) pieces in
    sym (sym (start_rest state) ∙ pieces_rest state pieces dump_start to are ∙ ap (λ l. all ++ l) ended ∙ append-nil all)

-- ---- single lines

-- A line does not depend on the number of a row.
pub line_text : (state : State) (row : ℕ) (line : Line) → part_text state 0 (line_of line) ≡ part_text state row (line_of line)
line_text state row (Table table) = refl
line_text state row (Index index) = refl
line_text state row (Watch standing) = refl
