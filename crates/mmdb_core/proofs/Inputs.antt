-- How an input advances, one step after another.
use Rattle.std.proofs.Common.{◌≡◌, ℕ, suc, zero, ◌+◌, ◌-◌, ◌≤◌, Option, Result, Err, List, [], ◌∷◌, ◌++◌, length, take, drop, refl, sym, ap, subst, ◌∙◌}
use Rattle.std.proofs.Common.{arith, append_assoc, length-append}
use Rattle.std.proofs.KnownBytes.{Consumes-nil, Consumes-trans}
use Rattle.std.proofs.Math.Seq.{take-nil}
use Rattle.std.proofs.lemmas.List.{append-nil, length-take, take-append-drop}
use Rattle.std.specs.Prelude.{IfErr}
use Rattle.mm_value.specs.Watched.{inner_of}
use Rattle.mm_value.specs.declared.device.Watched.{Watched}
use Rattle.mmdb_core.specs.steps.Input.{Advances, Comes, StopsInLine, bytes_to_come}
use Rattle.mmdb_core.specs.declared.run_error.RunError.{RunError}
use Rattle.mmdb_core.specs.declared.input.Input.{Input}
use Rattle.mmdb_core.specs.declared.input.Next.TheVariants.{Long}

pub take-append : (n : ℕ) (xs ys : List ℕ) → take n (xs ++ ys) ≡ take n xs ++ take (n - length xs) ys
take-append n [] ys = sym (ap (λ l. l ++ take (n - 0) ys) (take-nil n) ∙ ap (λ m. take m ys) (let e : n - 0 ≡ n = omega arith in e))
take-append zero (x ∷ xs) ys = sym (ap (λ m. take m ys) (let e : 0 - length (x ∷ xs) ≡ 0 = omega arith in e))
take-append (suc n) (x ∷ xs) ys =
    ap (λ l. x ∷ l) (take-append n xs ys ∙ ap (λ m. take n xs ++ take m ys) (let e : n - length xs ≡ suc n - length (x ∷ xs) = omega arith in e))

-- the bytes kept after some and then more were dropped
kept-trans : (x y z given more gone then : List ℕ) (s t : ℕ) → length given + t ≡ s → x ++ take (s - 1) given ≡ gone ++ y → y ++ take (t - 1) more ≡ then ++ z
    → x ++ take (s - 1) (given ++ more) ≡ (gone ++ then) ++ z
kept-trans x y z given more gone then s t counted h k =
    let left : s - 1 - length given ≡ t - 1 = omega arith in
    ap (λ l. x ++ l) (take-append (s - 1) given more ∙ ap (λ n. take (s - 1) given ++ take n more) left)
    ∙ (sym (append_assoc x (take (s - 1) given) (take (t - 1) more)) ∙ (ap (λ l. l ++ take (t - 1) more) h
    ∙ (append_assoc gone y (take (t - 1) more) ∙ (ap (λ l. gone ++ l) k ∙ sym (append_assoc gone then z)))))

module _ {R : Type 0} {remaining : R → Option (List ℕ)} where
  pub Advances-then : {r s t : Watched R} {a b c : Input} {gone more all : List ℕ} → all ≡ gone ++ more
      → Advances remaining r s a b gone → Advances remaining s t b c more → Advances remaining r t a c all
  Advances-then {r} {s} {t} {a} {b} {c} {gone} {more} {all} is h k = record {
    given = h.given ++ k.given;
    consumed = Consumes-trans (remaining (inner_of r)) (remaining (inner_of s)) (remaining (inner_of t)) h.given k.given h.consumed k.consumed;
    counted = omega (arith, length-append h.given k.given, h.counted, k.counted);
    kept =
        kept-trans a.window.bytes b.window.bytes c.window.bytes h.given k.given gone more a.still b.still h.counted h.kept k.kept ∙ ap
        (λ l. l ++ c.window.bytes) (sym is);
    ended = λ e. let first = h.ended e in
        let second = k.ended first.1 in
        (ap (λ l. l ++ k.given) first.0 ∙ second.0, second.1);
    at_end = λ p. k.at_end (h.at_end p);
  }

  -- nothing more was read
  Advances-gone : {r : Watched R} {a b : Input} {gone : List ℕ} → a.window.bytes ≡ gone ++ b.window.bytes → b.still ≡ a.still → b.is_ended ≡ a.is_ended
      → Advances remaining r r a b gone
  Advances-gone {r} {a} {b} {gone} is still ended = record {
    given = [];
    consumed = Consumes-nil (remaining (inner_of r));
    counted = omega (arith, still);
    kept = ap (λ l. a.window.bytes ++ l) (take-nil (a.still - 1)) ∙ (append-nil a.window.bytes ∙ is);
    ended = λ e. (refl, ended ∙ e);
    at_end = λ p e. let known = p (sym ended ∙ e) in (omega (arith, known.0, still), known.1);
  }

  pub Advances-skip : {r : Watched R} {a b : Input} (n : ℕ) → b.window.bytes ≡ drop n a.window.bytes → b.still ≡ a.still → b.is_ended ≡ a.is_ended
      → Advances remaining r r a b (take n a.window.bytes)
  Advances-skip {r} {a} n is still ended =
      Advances-gone (sym (ap (λ l. take n a.window.bytes ++ l) is ∙ take-append-drop n a.window.bytes)) still ended

  pub Advances-clear : {r : Watched R} {a b : Input} → b.window.bytes ≡ [] → b.still ≡ a.still → b.is_ended ≡ a.is_ended
      → Advances remaining r r a b a.window.bytes
  Advances-clear {r} {a} is still ended = Advances-gone (sym (ap (λ l. a.window.bytes ++ l) is ∙ append-nil a.window.bytes)) still ended

  -- each dropped byte lowers the bound of the remaining bytes
  pub Advances-nearer : {r s : Watched R} {a b : Input} {gone : List ℕ} → Advances remaining r s a b gone → bytes_to_come b + length gone ≤ bytes_to_come a
  Advances-nearer {r} {s} {a} {b} {gone} h =
      omega (
        arith,
        ap length h.kept,
        length-append a.window.bytes (take (a.still - 1) h.given),
        length-append gone b.window.bytes,
        length-take (a.still - 1) h.given,
        h.counted,
      )

-- an input that ends early, after it was filled
pub stops-then : {R : Type 0} {remaining : R → Option (List ℕ)} {r s t : Watched R} {a b c : Input} {fault : RunError} → Advances remaining r s a b []
    → StopsInLine remaining s t b c fault → StopsInLine remaining r t a c fault
stops-then h stops = record { gone = stops.gone; advances = Advances-then refl h stops.advances; no_feed = stops.no_feed; why = stops.why }

-- a line that is too long, after it was found
pub long-then : {R : Type 0} {remaining : R → Option (List ℕ)} {r s : Watched R} {a b : Input} (t : Watched R) (c : Input) → Advances remaining r s a b []
    → Comes remaining s t b c Long → Comes remaining r t a c Long
long-then t c h comes = (
  comes.0,
  record { gone = comes.1.gone; advances = Advances-then refl h comes.1.advances; is_line = comes.1.is_line },
  comes.2,
)

-- a property of a fault also holds if the fault is returned further
pub at-fault : {T : Type 0} (P : RunError → Type 0) (result : Result T RunError) (fault passed : RunError) → result ≡ Err passed → passed ≡ fault → P fault
    → IfErr result P
at-fault P result fault passed is same h = subst (λ r. IfErr r P) (sym is) (subst P (sym same) h)
