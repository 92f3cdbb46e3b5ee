use Rattle.std.proofs.Common.{subst}
use Rattle.std.proofs.lemmas.Result.{IfOk-weaker}
use Rattle.mm_select.proofs.Found.{few_along, hash_along, key_along}
use Rattle.mm_store.specs.Looked.{IsHash, IsIndexOn}
use Rattle.mm_store.proofs.Shown.{table_seen}
use Rattle.mm_select.proofs.access.equal_to.Goals as goal

pub returns-in-Key-clause-along : goal.returns-in-Key-clause-along
returns-in-Key-clause-along c = λ stored at.
    key_along stored (table_seen c.args.view.now c.args.table stored at).kept c.args.index c.args.column c.args.value c.row_of_key.result.items c.in-Key.is
    (c.requires.served stored at) (c.row_of_key.ensures.found stored at)

pub find_by_hash-requires-clause-index : goal.find_by_hash-requires-clause-index
find_by_hash-requires-clause-index c = λ stored at.
    (c.args.column, subst (IsIndexOn stored c.args.column) c.in-Hash.is (c.requires.served stored at))

pub returns-in-Hash-clause-along : goal.returns-in-Hash-clause-along
returns-in-Hash-clause-along c = λ stored at.
    IfOk-weaker c.find_by_hash.result _ _
    (λ found are.
    hash_along stored (table_seen c.args.view.now c.args.table stored at).kept c.args.index c.args.column c.args.value found.items
    (c.requires.served stored at)
    (rw c.as_ref.ensures at (are stored c.args.column at (subst (IsIndexOn stored c.args.column) c.in-Hash.is (c.requires.served stored at)))))
    c.find_by_hash.ensures.found

pub returns-in-Hash-clause-live : goal.returns-in-Hash-clause-live
returns-in-Hash-clause-live c = λ stored at. IfOk-weaker c.find_by_hash.result _ _ (λ found live. live stored at) c.find_by_hash.ensures.live

pub returns-in-Hash-clause-few : goal.returns-in-Hash-clause-few
returns-in-Hash-clause-few c = λ of_hash stored at few.
    c.find_by_hash.ensures.few stored c.args.column at (subst (IsIndexOn stored c.args.column) c.in-Hash.is (c.requires.served stored at))
    (rw c.as_ref.ensures
    (few_along stored (table_seen c.args.view.now c.args.table stored at).kept c.args.index c.args.column c.args.value
    (c.requires.served stored at) few))

pub returns-in-Tree-clause-few : goal.returns-in-Tree-clause-few
returns-in-Tree-clause-few c = λ of_hash. absurd (subst IsHash c.in-Tree.is of_hash)
