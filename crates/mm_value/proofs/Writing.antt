-- Writing one text and then another is writing both.
use Rattle.std.proofs.Common.{◌≡◌, ◌≤◌, ℕ, ◌+◌, ◌-◌, false, Option, Result, Ok, Err, List, [], ◌++◌, length, take, drop, sym, ap, subst, ◌∙◌, arith}
use Rattle.std.proofs.Common.{length-append, length-drop}
use Rattle.std.proofs.Math.Seq.{take-add, take-append_seam, drop-append_seam}
use Rattle.std.proofs.lemmas.List.{take-append-le, take_rest, drop-drop}
use Rattle.std.proofs.KnownBytes.{Appends-nil, Appends-trans}
use Rattle.std.specs.Io.KnownBytes.{Appends}
use Rattle.mm_value.specs.declared.device.Watched.{Watched}
use Rattle.mm_value.specs.Watched.{inner_of, has_failed}
use Rattle.mm_value.specs.Device.{AppendsPrefix, Writes}

-- a prefix of the first text is a prefix of both
pub AppendsPrefix-first : (a b : Option (List ℕ)) (xs ys : List ℕ) → AppendsPrefix a b xs → AppendsPrefix a b (xs ++ ys)
AppendsPrefix-first a b xs ys h =
    (h.0, omega (arith, h.1, length-append xs ys), subst (Appends a b) (sym (take-append-le h.0 xs ys h.1)) h.2)

-- the first text and a prefix of the second are a prefix of both
pub AppendsPrefix-second : (a b c : Option (List ℕ)) (xs ys : List ℕ) → Appends a b xs → AppendsPrefix b c ys → AppendsPrefix a c (xs ++ ys)
AppendsPrefix-second a b c xs ys p h =
    let front : take (length xs + h.0) (xs ++ ys) ≡ xs ++ take h.0 ys = take-add (length xs) h.0 (xs ++ ys)
    ∙ ap (λ l. l ++ take h.0 (drop (length xs) (xs ++ ys))) (take-append_seam xs ys)
    ∙ ap (λ l. xs ++ take h.0 l) (drop-append_seam xs ys) in
    (length xs + h.0, omega (arith, h.1, length-append xs ys), subst (Appends a c) (sym front) (Appends-trans a b c xs (take h.0 ys) p h.2))

module _ {W : Type 0} {contents : W → Option (List ℕ)} where
  -- nothing is written without a call
  pub Writes-nil : {T E : Type 0} {old : Watched W} (v : T) → has_failed old ≡ false → Writes {T = T} {E = E} contents old old (Ok v) []
  Writes-nil {T} {E} {old} v unfailed = record { written = Appends-nil (contents (inner_of old)); failed = unfailed }

  -- two texts, one after the other
  pub Writes-then : {S D T E : Type 0} {old mid new : Watched W} {v : S} {result : Result T E} {xs ys text : List ℕ} → text ≡ xs ++ ys
      → Writes {T = S} {E = D} contents old mid (Ok v) xs → Writes contents mid new result ys → Writes contents old new result text
  Writes-then {old} {mid} {new} {result = Ok w} {xs} {ys} e p q =
      let both = Appends-trans (contents (inner_of old)) (contents (inner_of mid)) (contents (inner_of new)) xs ys p.written q.written in
      record { written = subst (Appends (contents (inner_of old)) (contents (inner_of new))) (sym e) both; failed = q.failed }
  Writes-then {old} {mid} {new} {result = Err d} {xs} {ys} e p q =
      let both = AppendsPrefix-second (contents (inner_of old)) (contents (inner_of mid)) (contents (inner_of new)) xs ys p.written q.written in
      record { written = subst (AppendsPrefix (contents (inner_of old)) (contents (inner_of new))) (sym e) both; failed = q.failed }

  -- an error in the first text is an error in both
  pub Writes-stops : {S D T E : Type 0} {old new : Watched W} {d : D} {r : E} {result : Result T E} {xs text : List ℕ} (ys : List ℕ)
      → text ≡ xs ++ ys → result ≡ Err r
      → Writes {T = S} {E = D} contents old new (Err d) xs → Writes contents old new result text
  Writes-stops {S} {D} {T} {E} {old} {new} {d} {r} {result} {xs} {text} ys e is p =
      let front = AppendsPrefix-first (contents (inner_of old)) (contents (inner_of new)) xs ys p.written in
      let passed : Writes {T = T} {E = E} contents old new (Err r) text =
      record { written = subst (AppendsPrefix (contents (inner_of old)) (contents (inner_of new))) (sym e) front; failed = p.failed } in
      subst (λ o. Writes contents old new o text) (sym is) passed

-- after n bytes were written and `rest` remain, k more are written
pub Appends-more : (a b c : Option (List ℕ)) (bytes rest : List ℕ) (k : ℕ) → k ≤ length rest
    → (n : ℕ) × (n + length rest ≡ length bytes) × (rest ≡ drop n bytes) × Appends a b (take n bytes) → Appends b c (take k rest)
    → (n : ℕ) × (n + length (take (length rest - k) (drop k rest)) ≡ length bytes) × (take (length rest - k) (drop k rest) ≡ drop n bytes) × Appends
    a c (take n bytes)
Appends-more a b c bytes rest k h w p =
    let left : take (length rest - k) (drop k rest) ≡ drop (w.0 + k) bytes = take_rest rest k ∙ ap (drop k) w.2 ∙ drop-drop k w.0 bytes in
    let written : take w.0 bytes ++ take k rest ≡ take (w.0 + k) bytes = ap (λ l. take w.0 bytes ++ take k l) w.2 ∙ sym (take-add w.0 k bytes) in
    (w.0 + k, omega (arith, h, w.1, ap length left, length-drop (w.0 + k) bytes), left, subst (Appends a c) written (Appends-trans a b c _ _ w.3 p))
