-- Lists mapped by a function, up to a length.
use Rattle.std.proofs.Common.{◌≡◌, ℕ, ◌<◌, ◌≤◌, List, length, map, set, take, sym, ap, ◌∙◌, arith}
use Rattle.std.proofs.lemmas.List.{length-map, length-take, map-set}
use Rattle.std.proofs.Math.Seq.{take-set-lt}

pub length_seen : {A B : Type 0} (f : A → B) (n : ℕ) (rows : List A) (seen : List B) → seen ≡ take n (map f rows) → n ≤ length rows → length seen ≡ n
length_seen f n rows seen h fits = omega (arith, ap length h, length-take n (map f rows), length-map rows f)

pub set_seen : {A B : Type 0} (f : A → B) (n i : ℕ) (a : A) (rows : List A) (seen : List B) → seen ≡ take n (map f rows) → i < n
    → take n (map f (set rows i a)) ≡ set seen i (f a)
set_seen f n i a rows seen h inside =
    ap (take n) (map-set f rows i a) ∙ take-set-lt n (map f rows) i (f a) inside ∙ ap (λ l. set l i (f a)) (sym h)
