use Rattle.std.proofs.Common.{◌≡◌, ◌≢◌, ℕ, ◌^◌, Bool, true, false, cond, ℤ, pos, neg_ℤ, ◌-ℤ◌, ◌<ℤ◌, List, [], ◌∷◌, ◌++◌, refl, sym, ap, ◌∙◌, subst, arith}
use Rattle.std.proofs.lemmas.Int.{ints, to_z-of_z}
use mir.Syntax.{w128}
use Rattle.mm_value.specs.declared.values.Value.{Value}
use Rattle.mm_multiset.specs.Counts.{Entries, count_in, has_entry}
use Rattle.mm_multiset.specs.declared.signed.Signed.{Signed}
use Rattle.mm_multiset.proofs.Passing.{Passes, passed_all, passes_half, passes_on, passes_over, small_fits, without_entry_in}
use Rattle.mm_multiset.proofs.differing.push_gone.Goals as goal
use Rattle.mm_multiset.proofs.differing.push_gone.Goals.{else-count-ne0-via-then-count-ne0+else-not-has_entry, else-count-ne0-via-else-count-ne0}

pub loop-row-init : goal.loop-row-init
loop-row-init c =
    let comes = c.args.comes.now.entries in
    let goes = c.args.goes.entries in
    subst (λ (left : Entries). Passes (without_entry_in comes) (λ row. pos (count_in row comes) -ℤ pos (count_in row goes)) c.args.found.now.items left)
    (sym (c.into_iter-row-iterator.ensures.into_iter_gives ∙ c.into_entries-row-items.ensures.entries))
    (passes_half comes goes c.args.found.now.items c.requires.counts c.into_entries-row-items.ensures.once c.requires.net)

-- a count of 0 results in no change, whether there is an entry or not
none_brought : (b : Bool) → cond b (pos 0) (neg_ℤ (pos 0)) ≡ pos 0
none_brought true = refl
none_brought false = refl

taken : (n : ℕ) → pos 0 -ℤ pos n ≡ neg_ℤ (pos n)
taken n = omega (arith, ints)

some_taken : (n : ℕ) → n ≢ 0 → neg_ℤ (pos n) ≢ pos 0
some_taken n some none = some (omega (arith, ints, none))

pub loop-row-preserved-then-not-has_entry : goal.loop-row-preserved-then-not-has_entry
loop-row-preserved-then-not-has_entry c =
    let comes = c.args.comes.now.entries in
    let goes = c.args.goes.entries in
    let all = λ (r : List Value). pos (count_in r comes) -ℤ pos (count_in r goes) in
    let row = c.in-Some.row in
    let count = c.in-Some.count in
    let found = c.loop-row.found.items in
    let left = c.next.new.self in
    let passes : Passes (without_entry_in comes) all found ((row, count) ∷ left)
    = subst (λ (xs : Entries). Passes (without_entry_in comes) all found xs) c.in-Some.ensures.steps c.loop-row.invariant in
    let lacks : has_entry row comes ≡ false = sym c.has_entry.ensures ∙ c.if-not-has_entry.true in
    let short = small_fits c.net.result c.net.ensures.above c.net.ensures.below in
    let value : c.net.result ≡ without_entry_in comes row count
    = c.net.ensures.value ∙ (taken count ∙ sym (ap (λ b. cond b (pos 0) (neg_ℤ (pos count))) lacks)) in
    let pushed : c.push.new.self.items ≡ found ++ record { row = row; count = without_entry_in comes row count } ∷ []
    = c.in_ok-push.ensures.items ∙ ap (λ (z : ℤ). found ++ record { row = row; count = z } ∷ []) (to_z-of_z w128 c.net.result short ∙ value) in
    let differs : without_entry_in comes row count ≢ pos 0
    = λ none. some_taken count c.if-count-ne0.true (sym (ap (λ b. cond b (pos 0) (neg_ℤ (pos count))) lacks) ∙ none) in
    subst (λ (xs : List Signed). Passes (without_entry_in comes) all xs left) (sym pushed)
    (passes_on (without_entry_in comes) all found (row, count) left passes differs
    (subst (λ (z : ℤ). (neg_ℤ (pos (2 ^ 64)) <ℤ z) × (z <ℤ pos (2 ^ 64))) value (c.net.ensures.above, c.net.ensures.below)))

pub loop-row-preserved : goal.loop-row-preserved
loop-row-preserved c =
    let comes = c.args.comes.now.entries in
    let goes = c.args.goes.entries in
    let all = λ (r : List Value). pos (count_in r comes) -ℤ pos (count_in r goes) in
    let row = c.in-Some.row in
    let count = c.in-Some.count in
    let found = c.loop-row.found.items in
    let left = c.next.new.self in
    let passes : Passes (without_entry_in comes) all found ((row, count) ∷ left)
    = subst (λ (xs : Entries). Passes (without_entry_in comes) all found xs) c.in-Some.ensures.steps c.loop-row.invariant in
    let nothing : without_entry_in comes row count ≡ pos 0 = elim c.else-count-ne0.branch [
      | else-count-ne0-via-then-count-ne0+else-not-has_entry w ↦
          (let has : has_entry row comes ≡ true = sym w.has_entry.ensures ∙ w.if-not-has_entry.false in ap (λ b. cond b (pos 0) (neg_ℤ (pos count))) has)
      | else-count-ne0-via-else-count-ne0 w ↦
          (let none : count ≡ 0 = w.if-count-ne0.false in ap (λ (n : ℕ). cond (has_entry row comes) (pos 0) (neg_ℤ (pos n))) none
          ∙ none_brought (has_entry row comes))
    ] in
    passes_over (without_entry_in comes) all found (row, count) left passes nothing

pub returns-clause-counts : goal.returns-clause-counts
returns-clause-counts c =
    let comes = c.args.comes.now.entries in
    let goes = c.args.goes.entries in
    let all = λ (r : List Value). pos (count_in r comes) -ℤ pos (count_in r goes) in
    passed_all (without_entry_in comes) all c.loop-row.found.items
    (subst (λ (xs : Entries). Passes (without_entry_in comes) all c.loop-row.found.items xs) c.in-None.ensures.steps.0 c.loop-row.invariant)

pub returns-clause-net : goal.returns-clause-net
returns-clause-net c = c.loop-row.invariant.net
