use Rattle.std.proofs.Common.{sym, ◌∙◌, subst}
use Rattle.mm_schema.specs.declared.index.IndexKind.TheVariants as kind
use Rattle.mm_store.proofs.Looked.{Sought, hash_alone, hash_before_tree, none_there, tree_alone, tree_before_hash}
use Rattle.mm_store.proofs.index_ref.first_index.Goals as goal

pub returns-in-Some-Some : goal.returns-in-Some-Some
returns-in-Some-Some c =
    let stored = c.args.relation.now in
    let column = c.args.column in
    let trees = c.index_of-tree.ensures in
    let hashes = c.index_of-hash.ensures in
    tree_before_hash stored column (λ is. c.if-column-key.false (is ∙ sym c.key.ensures)) c.in-Some-Some.tree c.in-Some-Some.hash c.if-tree-hash.true
    (subst (Sought stored column kind.Tree) c.in-Some-Some.is-0 (record { first = trees.first; found = trees.found; none = trees.none }))
    (subst (Sought stored column kind.Hash) c.in-Some-Some.is-1 (record { first = hashes.first; found = hashes.found; none = hashes.none }))

pub returns-in-Some-Some-2 : goal.returns-in-Some-Some-2
returns-in-Some-Some-2 c =
    let stored = c.args.relation.now in
    let column = c.args.column in
    let trees = c.index_of-tree.ensures in
    let hashes = c.index_of-hash.ensures in
    hash_before_tree stored column (λ is. c.if-column-key.false (is ∙ sym c.key.ensures)) c.in-Some-Some.tree c.in-Some-Some.hash c.if-tree-hash.false
    (subst (Sought stored column kind.Tree) c.in-Some-Some.is-0 (record { first = trees.first; found = trees.found; none = trees.none }))
    (subst (Sought stored column kind.Hash) c.in-Some-Some.is-1 (record { first = hashes.first; found = hashes.found; none = hashes.none }))

pub returns-in-Some-None : goal.returns-in-Some-None
returns-in-Some-None c =
    let stored = c.args.relation.now in
    let column = c.args.column in
    let trees = c.index_of-tree.ensures in
    let hashes = c.index_of-hash.ensures in
    tree_alone stored column (λ is. c.if-column-key.false (is ∙ sym c.key.ensures)) c.in-Some-None.tree
    (subst (Sought stored column kind.Tree) c.in-Some-None.is-0 (record { first = trees.first; found = trees.found; none = trees.none }))
    (subst (Sought stored column kind.Hash) c.in-Some-None.is-1 (record { first = hashes.first; found = hashes.found; none = hashes.none }))

pub returns-in-None-Some : goal.returns-in-None-Some
returns-in-None-Some c =
    let stored = c.args.relation.now in
    let column = c.args.column in
    let trees = c.index_of-tree.ensures in
    let hashes = c.index_of-hash.ensures in
    hash_alone stored column (λ is. c.if-column-key.false (is ∙ sym c.key.ensures)) c.in-None-Some.hash
    (subst (Sought stored column kind.Tree) c.in-None-Some.is-0 (record { first = trees.first; found = trees.found; none = trees.none }))
    (subst (Sought stored column kind.Hash) c.in-None-Some.is-1 (record { first = hashes.first; found = hashes.found; none = hashes.none }))

pub returns-in-None-None : goal.returns-in-None-None
returns-in-None-None c =
    let stored = c.args.relation.now in
    let column = c.args.column in
    let trees = c.index_of-tree.ensures in
    let hashes = c.index_of-hash.ensures in
    none_there stored column (λ is. c.if-column-key.false (is ∙ sym c.key.ensures))
    (subst (Sought stored column kind.Tree) c.in-None-None.is-0 (record { first = trees.first; found = trees.found; none = trees.none }))
    (subst (Sought stored column kind.Hash) c.in-None-None.is-1 (record { first = hashes.first; found = hashes.found; none = hashes.none }))
