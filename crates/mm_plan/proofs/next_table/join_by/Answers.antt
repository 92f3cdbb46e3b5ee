use Rattle.std.proofs.Common.{◌≡◌, ◌⊎◌, inl, inr, ℕ, ◌+◌, ◌<◌, ◌≤◌, List, length, sym, ap, subst, arith}
use Rattle.std.specs.List.{sum_by}
use Rattle.mm_join.specs.Reads.{has_hash, has_sought, merge_reads, reads_behind}
use Rattle.mm_plan.proofs.Keyed.{followed, key_holds, merge_reads_by_key, reads_by_key}
use Rattle.mm_plan.proofs.next_table.join_by.Goals as goal
use Rattle.mm_plan.specs.Steps.{HasKey, Joins, RefersPlainly, reads_each, step_reads}
use Rattle.mm_plan.specs.declared.step.Step.{Step}
use Rattle.mm_plan.specs.declared.step.Step.TheVariants as step
use Rattle.mm_store.specs.Tables.{rows_at}
use Rattle.mm_templist.specs.Combos.{combo_rows}

-- A property of both steps holds for either one.
by_either : (P : Step → Type 0) (own first second : Step) → (own ≡ first) ⊎ (own ≡ second) → P first → P second → P own
by_either P own first second (inl is) one two = subst P (sym is) one
by_either P own first second (inr is) one two = subst P (sym is) two

pub precomputed-requires-clause-asked : goal.precomputed-requires-clause-asked
precomputed-requires-clause-asked c = λ table stored next here.
    let store = c.args.view.now.store in
    let atoms = c.args.join.now.atoms.now in
    let outers = c.args.join.now.outer.now.tables in
    let atom = c.in-Precomputed.atom in
    let key = c.key_at-key.result in
    let joins = subst (λ (s : Step). Joins store atoms outers table s) c.in-Precomputed.is (c.requires.joins table next) in
    let is = subst (λ (ts : List ℕ). HasKey atoms (length ts) atom (λ k. k ≡ key)) c.descriptor.ensures.tables c.key_at-key.ensures.is in
    followed store atoms outers table key (key_holds atoms (length outers) atom key is (RefersPlainly store outers table) joins)
    (subst (λ (ts : List ℕ). key.field.place < length ts) c.descriptor.ensures.tables c.key_at-key.ensures.earlier)
    (c.key_at-key.ensures.asked outers (sym (ap length c.descriptor.ensures.tables))) stored here

pub returns-in-TreeMerge-clause-reads : goal.returns-in-TreeMerge-clause-reads
returns-in-TreeMerge-clause-reads c = λ table next.
    let store = c.args.view.now.store in
    let atoms = c.args.join.now.atoms.now in
    let outers = c.args.join.now.outer.now.tables in
    let atom = c.in-TreeMerge.atom in
    let key = c.key_at-key-in-TreeMerge.result in
    let rows = rows_at store.tables table in
    let found = combo_rows store c.args.join.now.outer.now in
    let is = subst (λ (ts : List ℕ). HasKey atoms (length ts) atom (λ k. k ≡ key)) c.descriptor.ensures.tables c.key_at-key-in-TreeMerge.ensures.is in
    let sums : sum_by (reads_each atoms (length outers) (step.TreeMerge c.in-TreeMerge.outer c.in-TreeMerge.inner atom) rows) found
    ≡ sum_by (merge_reads key rows) found =
    merge_reads_by_key atoms (length outers) atom key is rows found in
    let bound = c.tree_merge.ensures.reads table next in
    subst (λ (s : Step). c.tree_merge.new.view.reads ≤ c.args.view.now.reads + step_reads atoms (length outers) s rows found) (sym c.in-TreeMerge.is)
    (omega (arith, sums, bound))

pub returns-in-BuiltHash-clause-reads : goal.returns-in-BuiltHash-clause-reads
returns-in-BuiltHash-clause-reads c = λ table next.
    let store = c.args.view.now.store in
    let atoms = c.args.join.now.atoms.now in
    let outers = c.args.join.now.outer.now.tables in
    let atom = c.in-BuiltHash.atom in
    let key = c.key_at-key-in-BuiltHash.result in
    let rows = rows_at store.tables table in
    let found = combo_rows store c.args.join.now.outer.now in
    let is = subst (λ (ts : List ℕ). HasKey atoms (length ts) atom (λ k. k ≡ key)) c.descriptor.ensures.tables c.key_at-key-in-BuiltHash.ensures.is in
    let sums : sum_by (reads_each atoms (length outers) (step.BuiltHash atom) rows) found ≡ sum_by (reads_behind (has_hash key) rows) found =
    reads_by_key atoms (length outers) atom key is has_hash rows found in
    let bound = c.built_hash.ensures.reads table next in
    subst (λ (s : Step). c.built_hash.new.view.reads ≤ c.args.view.now.reads + step_reads atoms (length outers) s rows found) (sym c.in-BuiltHash.is)
    (omega (arith, sums, bound))

pub returns-in-TreeJoin-clause-reads : goal.returns-in-TreeJoin-clause-reads
returns-in-TreeJoin-clause-reads c = λ table next.
    let store = c.args.view.now.store in
    let atoms = c.args.join.now.atoms.now in
    let outers = c.args.join.now.outer.now.tables in
    let atom = c.in-TreeJoin.atom in
    let key = c.key_at-key-in-TreeJoin.result in
    let rows = rows_at store.tables table in
    let found = combo_rows store c.args.join.now.outer.now in
    let is = subst (λ (ts : List ℕ). HasKey atoms (length ts) atom (λ k. k ≡ key)) c.descriptor.ensures.tables c.key_at-key-in-TreeJoin.ensures.is in
    let sums : sum_by (reads_each atoms (length outers) (step.TreeJoin c.in-TreeJoin.index atom) rows) found
    ≡ sum_by (reads_behind (has_sought key) rows) found =
    reads_by_key atoms (length outers) atom key is has_sought rows found in
    let bound = c.look_up.ensures.reads table next in
    let by = λ (s : Step). c.look_up.new.view.reads ≤ c.args.view.now.reads + step_reads atoms (length outers) s rows found in
    by_either by c.args.step (step.TreeJoin c.in-TreeJoin.index atom) (step.HashJoin c.in-TreeJoin.index atom) c.in-TreeJoin.is
    (omega (arith, sums, bound)) (omega (arith, sums, bound))
