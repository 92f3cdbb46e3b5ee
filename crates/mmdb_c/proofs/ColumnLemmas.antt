-- Cells that are written one after another.
use mathlib.Core.Path.{◌≡◌, sym, ap, ◌∙◌}
use Prim.Native.Nat.{ℕ}
use Rattle.std.proofs.Common.{add-one, append_assoc, arith, drop-cons, get_or, set}
use Rattle.std.proofs.Math.Seq.{set-append_seam}
use Rattle.std.proofs.lemmas.List.{length-map, length-take-le, map_more, take-map}
use Rattle.std.proofs.lemmas.Simd.{map-map}
use Rattle.std.specs.Prelude.{◌+◌, ◌<◌, List, [], ◌∷◌, ◌++◌, drop, length, map, take}

-- one more cell is written, and later cells are unchanged
pub written_more : {X Y : Type 0} (f : X → Y) (xs : List X) (old cells : List Y) (i : ℕ) (x : X) (y : Y) → i < length xs → i < length old
    → cells ≡ map f (take i xs) ++ drop i old → x ≡ get_or xs i x → y ≡ f x → set cells i y ≡ map f (take (i + 1) xs) ++ drop (i + 1) old
written_more f xs old cells i x y within room was is written =
    let front = map f (take i xs) in
    let behind : drop i old ≡ get_or old i y ∷ drop (i + 1) old = rw add-one (drop-cons old i y room) in
    let count : length front ≡ i = length-map (take i xs) f ∙ length-take-le i xs (omega (arith, within)) in
    let more : map f (take (i + 1) xs) ≡ front ++ y ∷ [] = map_more f xs i x within ∙ ap (λ z. front ++ z ∷ []) (ap f (sym is) ∙ sym written) in
    ap (λ cs. set cs i y) (was ∙ ap (λ b. front ++ b) behind) ∙ ap (λ n. set (front ++ get_or old i y ∷ drop (i + 1) old) n y) (sym count)
    ∙ set-append_seam front (get_or old i y) (drop (i + 1) old) y ∙ sym (ap (λ m. m ++ drop (i + 1) old) more ∙ append_assoc front (y ∷ []) (drop (i + 1) old))

-- a list that is written from borrowed elements is one written from the elements
pub written_of_lent : {X Y Z : Type 0} (f : Y → Z) (lent : X → Y) (xs : List X) (old new : List Z)
    → new ≡ map (λ x. f (lent x)) (take (length old) xs) ++ drop (length xs) old
    → new ≡ map f (take (length old) (map lent xs)) ++ drop (length (map lent xs)) old
written_of_lent f lent xs old new e =
    let front = sym (map-map f lent (take (length old) xs)) ∙ ap (map f) (sym (take-map lent (length old) xs)) in
    e ∙ ap (λ cs. cs ++ drop (length xs) old) front
    ∙ ap (λ n. map f (take (length old) (map lent xs)) ++ drop n old) (sym (length-map xs lent))
