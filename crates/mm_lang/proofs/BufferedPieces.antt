-- Pieces of a line that are buffered one after another.
use Rattle.std.proofs.Common.{◌≡◌, ◌≤◌, ℕ, ◌+◌, suc, zero, false, true, Option, Some, Result, Ok, Err, List, [], ◌∷◌}
use Rattle.std.proofs.Common.{◌++◌, length, take, refl, sym, ap, ◌∙◌, arith}
use Rattle.std.proofs.Common.{append-nil, append_assoc}
use Rattle.std.specs.Prelude.{OnErr, is_ok, slice_get}
use Rattle.mm_value.specs.Device.{Writes}
use Rattle.mm_value.specs.Watched.{has_failed}
use Rattle.mm_value.specs.Written.{row_text, value_text, values_text}
use Rattle.mm_value.specs.declared.device.Watched.{Watched}
use Rattle.mm_value.specs.declared.values.Value.{Value}
use Rattle.mm_value.proofs.Writing.{Writes-nil, Writes-stops, Writes-then}
use Rattle.mm_lang.specs.Buffered.{WritesBuffered}
use Rattle.mm_lang.proofs.BufferedLines.{buffered_front, buffered_more, buffered_written}

module _ {W : Type 0} {contents : W → Option (List ℕ)} where
  -- no piece
  pub buffered_none : {T E : Type 0} {old : Watched W} {text : List ℕ} (v : T) (before : List ℕ) → has_failed old ≡ false → text ≡ []
      → WritesBuffered {T = T} {E = E} contents old before old before (Ok v) text
  buffered_none v before unfailed none =
      record { done = []; written = Writes-nil v unfailed; kept = sym (ap (λ l. before ++ l) none ∙ append-nil before) }

  -- a piece that fits into the buffer
  pub buffered_behind : {T E : Type 0} {old : Watched W} {before after text : List ℕ} (v : T) → has_failed old ≡ false → after ≡ before ++ text
      → WritesBuffered {T = T} {E = E} contents old before old after (Ok v) text
  buffered_behind v unfailed is = record { done = []; written = Writes-nil v unfailed; kept = is }

  -- a piece that replaces the buffered bytes
  pub buffered_anew : {S D T E : Type 0} {old new : Watched W} {before after text : List ℕ} {u : S} (v : T)
      → Writes {T = S} {E = D} contents old new (Ok u) before → after ≡ text
      → WritesBuffered {T = T} {E = E} contents old before new after (Ok v) text
  buffered_anew {before} v p is =
      record { done = before; written = record { written = p.written; failed = p.failed }; kept = ap (λ l. before ++ l) is }

  -- a piece that is written after the buffered bytes
  pub buffered_past : {S D T E : Type 0} {old mid new : Watched W} {before after text : List ℕ} {v : S} {result : Result T E}
      → Writes {T = S} {E = D} contents old mid (Ok v) before → Writes contents mid new result text → after ≡ []
      → WritesBuffered contents old before new after result text
  buffered_past {before} {after} {text} {result} p q none =
      record { done = before ++ text; written = Writes-then refl p q; kept = buffered_written result (before ++ text) after none }

  -- an error while the buffered bytes are written
  pub buffered_unwritten : {S D T E : Type 0} {old new : Watched W} {before after text : List ℕ} {d : D} {r : E} {result : Result T E}
      → result ≡ Err r → Writes {T = S} {E = D} contents old new (Err d) before → WritesBuffered contents old before new after result text
  buffered_unwritten {before} {text} is p = record { done = before ++ text; written = Writes-stops text refl is p; kept = rw is refl }

  -- an equal piece
  pub buffered_same : {S D T E : Type 0} {old new : Watched W} {before after xs text : List ℕ} {u : S} {v : T} → xs ≡ text
      → WritesBuffered {T = S} {E = D} contents old before new after (Ok u) xs
      → WritesBuffered {T = T} {E = E} contents old before new after (Ok v) text
  buffered_same {before} is p =
      record { done = p.done; written = record { written = p.written.written; failed = p.written.failed }; kept = p.kept ∙ ap (λ l. before ++ l) is }

  -- two pieces, one after the other
  pub buffered_then : {S D T E : Type 0} {old mid new : Watched W} {before between after : List ℕ} {v : S} {result : Result T E} {xs ys text : List ℕ}
      → text ≡ xs ++ ys → WritesBuffered {T = S} {E = D} contents old before mid between (Ok v) xs
      → WritesBuffered contents mid between new after result ys → WritesBuffered contents old before new after result text
  buffered_then {before} {between} {after} {result = Ok w} {xs} {ys} e p q =
      record {
        done = p.done ++ q.done;
        written = Writes-then refl p.written q.written;
        kept = buffered_more p.done between q.done after ys (before ++ xs) p.kept q.kept ∙ append_assoc before xs ys ∙ ap (λ l. before ++ l) (sym e);
      }
  buffered_then {before} {between} {result = Err d} {xs} {ys} e p q =
      record {
        done = p.done ++ q.done;
        written = Writes-then refl p.written q.written;
        kept = buffered_front p.done between q.done ys (before ++ xs) p.kept q.kept ∙ append_assoc before xs ys ∙ ap (λ l. before ++ l) (sym e);
      }

  -- an error in the first piece is an error in both
  pub buffered_stops : {S D T E : Type 0} {old new : Watched W} {before between after : List ℕ} {d : D} {r : E} {result : Result T E} {xs text : List ℕ}
      (ys : List ℕ) → text ≡ xs ++ ys → result ≡ Err r → WritesBuffered {T = S} {E = D} contents old before new between (Err d) xs
      → WritesBuffered contents old before new after result text
  buffered_stops {before} {xs} ys e is p =
      record {
        done = p.done ++ ys;
        written = Writes-stops ys refl is p.written;
        kept = rw is (ap (λ l. l ++ ys) p.kept ∙ append_assoc before xs ys ∙ ap (λ l. before ++ l) (sym e));
      }

-- a property that holds unless the call succeeds
pub unless_ok : {T E P : Type 0} (r : Result T E) → false ≡ is_ok r → OnErr r P → P
unless_ok (Ok v) failed h = let both : false ≡ true = failed in cc
unless_ok (Err e) failed h = h

-- a line as its pieces
pub line_pieces : (row : List Value) → row_text row ++ 10 ∷ [] ≡ (40 ∷ values_text row) ++ 41 ∷ 10 ∷ []
line_pieces row = ap (λ l. 40 ∷ l) (append_assoc (values_text row) (41 ∷ []) (10 ∷ []))

-- no value
pub values_none : (row : List Value) → length row ≡ 0 → values_text row ≡ []
values_none [] none = refl
values_none (x ∷ xs) none = let some : suc (length xs) ≡ 0 = none in cc

-- the first value alone
pub first_value : (row : List Value) (v : Value) → slice_get row 0 ≡ Some v → values_text (take 1 row) ≡ value_text v
first_value [] v is = cc
first_value (x ∷ xs) v is = let same : x ≡ v = cc in ap value_text same

-- i values, at least one, and the next one
pub value_more : (row : List Value) (i : ℕ) (v : Value) → 1 ≤ i → slice_get row i ≡ Some v
    → values_text (take (i + 1) row) ≡ values_text (take i row) ++ (44 ∷ 32 ∷ value_text v)
value_more row i v some is = let one : i + 1 ≡ suc i = omega arith in ap (λ n. values_text (take n row)) one ∙ behind row i some is
  where
    behind : (row : List Value) (i : ℕ) → 1 ≤ i → slice_get row i ≡ Some v
        → values_text (take (suc i) row) ≡ values_text (take i row) ++ (44 ∷ 32 ∷ value_text v)
    behind row zero some is = absurd (omega (arith, some))
    behind [] (suc i) some is = cc
    behind (x ∷ []) (suc i) some is = cc
    behind (x ∷ y ∷ xs) (suc zero) some is = let same : y ≡ v = cc in ap (λ w. value_text x ++ 44 ∷ 32 ∷ value_text w) same
    behind (x ∷ y ∷ xs) (suc (suc i)) some is =
        ap (λ l. value_text x ++ 44 ∷ 32 ∷ l) (behind (y ∷ xs) (suc i) (omega arith) is)
        ∙ sym (append_assoc (value_text x) (44 ∷ 32 ∷ values_text (y ∷ take i xs)) (44 ∷ 32 ∷ value_text v))

-- the text of some values begins with that of the first i
pub values_front : (row : List Value) (i : ℕ) → (rest : List ℕ) × (values_text row ≡ values_text (take i row) ++ rest)
values_front row zero = (values_text row, refl)
values_front [] (suc i) = ([], refl)
values_front (x ∷ []) (suc zero) = ([], sym (append-nil (value_text x)))
values_front (x ∷ []) (suc (suc i)) = ([], sym (append-nil (value_text x)))
values_front (x ∷ y ∷ xs) (suc zero) = (44 ∷ 32 ∷ values_text (y ∷ xs), refl)
values_front (x ∷ y ∷ xs) (suc (suc i)) =
    let (rest, e) = values_front (y ∷ xs) (suc i) in
    (rest, ap (λ l. value_text x ++ 44 ∷ 32 ∷ l) e ∙ sym (append_assoc (value_text x) (44 ∷ 32 ∷ values_text (y ∷ take i xs)) rest))
