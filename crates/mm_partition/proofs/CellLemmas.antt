-- The cells of one slot in all columns, during a loop over the columns.
use Rattle.std.proofs.Common.{◌≡◌, ℕ, zero, suc, ◌+◌, ◌<◌, ◌≤◌, List, [], ◌∷◌, ◌++◌, length, get_or, set, take, drop, refl, sym, ap, ◌∙◌, subst, add-one}
use Rattle.std.proofs.Common.{⊎_elim, append-nil, arith, length-set}
use Rattle.std.specs.Prelude.{All}
use Rattle.std.proofs.Math.Seq.{drop-length, map-set_same, take-length}
use Rattle.std.specs.List.{refill}
use Rattle.std.proofs.lemmas.Bool.{cases_lt}
use Rattle.std.proofs.lemmas.List.{get_or-map, get_or-set_same, get_or-set_other, length-map, map-set}
use Rattle.std.proofs.lemmas.List.Elements.{All-set}
use Rattle.mm_value.specs.Types.{type_of}
use Rattle.mm_value.specs.declared.values.Value.{Value}
use Rattle.mm_partition.specs.declared.columns.Column.{Column}
use Rattle.mm_partition.specs.declared.columns.Column.TheVariants.{Numbers, Texts}
use Rattle.mm_value.specs.declared.col_type.ColType.TheVariants as type
use Rattle.mm_partition.specs.Cells.{type_in, size_of, room_of, cell, types_of, row_of, Fits}
use Rattle.mm_partition.specs.Types.{HasTypes}

-- the first i elements of one list, followed by the later ones of the other
abbrev pub seam : {X : Type 0} → ℕ → List X → List X → List X
seam i xs ys = take i xs ++ drop i ys

-- one more element of the first list
seam-suc : {X : Type 0} (i : ℕ) (xs ys : List X) (x d : X) → i < length xs → length ys ≡ length xs → x ≡ get_or xs i d
    → set (seam i xs ys) i x ≡ seam (suc i) xs ys
seam-suc i [] ys x d within same is = absurd (let no : ⊥ = omega arith in no)
seam-suc i (a ∷ xs) [] x d within same is = absurd (let no : ⊥ = omega arith in no)
seam-suc zero (a ∷ xs) (b ∷ ys) x d within same is = ap (λ y. y ∷ ys) is
seam-suc (suc i) (a ∷ xs) (b ∷ ys) x d within same is = ap (λ r. a ∷ r) (seam-suc i xs ys x d (omega arith) (omega arith) is)

pub seam-more : {X : Type 0} (i : ℕ) (xs ys : List X) (x d : X) → i < length xs → length ys ≡ length xs → x ≡ get_or xs i d
    → set (seam i xs ys) i x ≡ seam (i + 1) xs ys
seam-more {X = X} i xs ys x d within same is = subst (λ n. set (seam i xs ys) i x ≡ seam n xs ys) (sym (add-one i)) (seam-suc i xs ys x d within same is)

pub seam-all : {X : Type 0} (i : ℕ) (xs ys : List X) → length xs ≤ i → length ys ≡ length xs → seam i xs ys ≡ xs
seam-all zero [] [] end same = refl
seam-all (suc i) [] [] end same = refl
seam-all i [] (b ∷ ys) end same = absurd (let no : ⊥ = omega arith in no)
seam-all i (a ∷ xs) [] end same = absurd (let no : ⊥ = omega arith in no)
seam-all zero (a ∷ xs) (b ∷ ys) end same = absurd (let no : ⊥ = omega arith in no)
seam-all (suc i) (a ∷ xs) (b ∷ ys) end same = ap (λ r. a ∷ r) (seam-all i xs ys (omega arith) (omega arith))

-- Writing one column keeps the types of all columns.
pub types_of-set : (cs : List Column) (i : ℕ) (c new : Column) → c ≡ get_or cs i c → type_in new ≡ type_in c → types_of (set cs i new) ≡ types_of cs
types_of-set cs i c new read same = map-set_same type_in cs i new c (same ∙ ap type_in read)

pub row_of-set : (cs : List Column) (i k : ℕ) (c new : Column) → c ≡ get_or cs i c → cell new k ≡ cell c k → row_of (set cs i new) k ≡ row_of cs k
row_of-set cs i k c new read same = map-set_same (λ x. cell x k) cs i new c (same ∙ ap (λ x. cell x k) read)

-- the value for a column has the column's type
pub type_at : (cs : List Column) (vs : List Value) (i : ℕ) (c : Column) (v : Value) → HasTypes (types_of cs) vs → i < length cs → c ≡ get_or cs i c
    → v ≡ get_or vs i v
    → type_of v ≡ type_in c
type_at cs vs i c v typed within read value =
    let size : length vs ≡ length cs = sym (length-map vs type_of) ∙ (ap length typed ∙ length-map cs type_in) in
    ap type_of value
    ∙ (sym (get_or-map type_of vs i v (type_in c) (omega (arith, size)))
    ∙ (ap (λ ts. get_or ts i (type_in c)) typed ∙ (get_or-map type_in cs i c (type_in c) within ∙ ap type_in (sym read))))

-- as many values as columns
pub length-typed : (cs : List Column) (vs : List Value) → HasTypes (types_of cs) vs → length vs ≡ length cs
length-typed cs vs typed = sym (length-map vs type_of) ∙ (ap length typed ∙ length-map cs type_in)

pub same_width : (cs cs0 : List Column) → types_of cs ≡ types_of cs0 → length cs ≡ length cs0
same_width cs cs0 same = sym (length-map cs type_in) ∙ (ap length same ∙ length-map cs0 type_in)

pub length-row_of : (cs : List Column) (k : ℕ) → length (row_of cs k) ≡ length cs
length-row_of cs k = length-map cs (λ c. cell c k)

-- the cells of the slot, after one more column
pub here-more : (cs cs0 : List Column) (vs : List Value) (i index : ℕ) (new : Column) (v : Value)
    → row_of cs index ≡ seam i vs (row_of cs0 index) → i < length cs0 → length vs ≡ length cs0
    → v ≡ get_or vs i v → cell new index ≡ v
    → row_of (set cs i new) index ≡ seam (i + 1) vs (row_of cs0 index)
here-more cs cs0 vs i index new v so_far within size value here =
    map-set (λ c. cell c index) cs i new
    ∙ (ap (λ r. set r i (cell new index)) so_far
    ∙ (ap (λ x. set (seam i vs (row_of cs0 index)) i x) here
    ∙ seam-more i vs (row_of cs0 index) v v (omega (arith, size)) (length-row_of cs0 index ∙ sym size) value))

-- the content of a cell before the loop
pub cell_at : (cs : List Column) (i k : ℕ) (c : Column) → i < length cs → c ≡ get_or cs i c → cell c k ≡ get_or (row_of cs k) i (cell c k)
cell_at cs i k c within read = ap (λ x. cell x k) read ∙ sym (get_or-map (λ x. cell x k) cs i c (cell c k) within)

-- a column has the same number of cells, and at least as much capacity
pub Fits-kept : (slots spare : ℕ) (c new : Column) → size_of new ≡ size_of c → room_of c ≤ room_of new → Fits slots spare c → Fits slots spare new
Fits-kept slots spare c new size room old = record { size = size ∙ old.size; room = omega (arith, room, old.room) }

pub Fits-set : (slots spare : ℕ) (cs : List Column) (i : ℕ) (c new : Column) → i < length cs → c ≡ get_or cs i c → size_of new ≡ size_of c
    → room_of c ≤ room_of new
    → All (Fits slots spare) cs → All (Fits slots spare) (set cs i new)
Fits-set slots spare cs i c new within read size room all =
    All-set (Fits slots spare) cs i new (Fits-kept slots spare c new size room (subst (Fits slots spare) (sym read) (all i c within))) all

-- the columns before the loop's position have the property
abbrev pub Done : {X : Type 0} → (X → Type 0) → ℕ → List X → Type 0
Done {X} Q i xs = (k : ℕ) (d : X) → k < i → k < length xs → Q (get_or xs k d)

-- the columns from the loop's position on are unchanged
abbrev pub Rest : {X : Type 0} → ℕ → List X → List X → Type 0
Rest {X} i xs xs0 = (k : ℕ) (d : X) → i ≤ k → get_or xs k d ≡ get_or xs0 k d

pub Done-more : {X : Type 0} (Q : X → Type 0) (i : ℕ) (xs : List X) (y : X) → i < length xs → Q y → Done Q i xs → Done Q (i + 1) (set xs i y)
Done-more Q i xs y within holds done k d below h =
    ⊎_elim
    (λ (before : k < i). subst Q (sym (get_or-set_other xs i k y d (λ (same : k ≡ i). let no : ⊥ = omega arith in no)))
    (done k d before (omega (arith, length-set xs i y))))
    (λ (after : i ≤ k). let here : k ≡ i = omega arith in subst Q (sym (ap (λ n. get_or (set xs i y) n d) here ∙ get_or-set_same xs i y d within)) holds)
    (cases_lt k i)

pub Rest-more : {X : Type 0} (i : ℕ) (xs xs0 : List X) (y : X) → Rest i xs xs0 → Rest (i + 1) (set xs i y) xs0
Rest-more i xs xs0 y rest k d above = get_or-set_other xs i k y d (λ (same : k ≡ i). let no : ⊥ = omega arith in no) ∙ rest k d (omega arith)

-- the values in a slot have the types of the columns
pub row_of-typed : (cs : List Column) (k : ℕ) → HasTypes (types_of cs) (row_of cs k)
row_of-typed [] k = refl
row_of-typed (Numbers numbers ∷ cs) k = ap (λ ts. type.Int ∷ ts) (row_of-typed cs k)
row_of-typed (Texts texts ∷ cs) k = ap (λ ts. type.Text ∷ ts) (row_of-typed cs k)

-- overwriting a whole list gives the written list
pub refill_all : {X : Type 0} (n : ℕ) (xs ws : List X) → n ≡ length xs → length ws ≡ length xs → refill n xs ws ≡ ws
refill_all n xs ws all size =
    ap (λ n. take n (ws ++ drop (length ws) xs)) (all ∙ sym size)
    ∙ (ap (λ n. take (length ws) (ws ++ drop n xs)) size
    ∙ (ap (λ l. take (length ws) (ws ++ l)) (drop-length xs)
    ∙ (ap (take (length ws)) (append-nil ws) ∙ take-length ws)))
