use Rattle.std.proofs.Common.{rules, ◌≡◌, ◌++◌, cond, [], ◌∷◌, sym, ap, ◌∙◌, arith}
use Rattle.std.specs.List.{All}
use Rattle.mm_indexed.specs.Reads.{AreMatches}
use Rattle.mm_partition.specs.Places.{IsLive, slot_at}
use Rattle.mm_plan.proofs.KeyRows.{found_counted, found_has, found_selected, matching_one}
use Rattle.mm_store.proofs.Joining.{some_at}
use Rattle.mm_store.proofs.Shown.{table_seen}
use Rattle.mm_plan.proofs.finding.row_with_key.Goals as goal

pub fits-requires-clause-asked : goal.fits-requires-clause-asked
fits-requires-clause-asked c =
    let store = c.args.view.now.store in
    let at = c.in-Some.at in
    let (stored, here) = some_at store.tables c.args.table c.requires.there in
    let kept = (table_seen c.args.view.now c.args.table stored here).kept in
    let are : AreMatches stored.key (slot_at stored.places) c.args.key.now stored.refs (at ∷ []) =
    rw c.as_ref.ensures at (c.in-Some.ensures.found stored here) in
    let live : All (IsLive stored.places) (at ∷ []) = λ k d within. search rules in
    (stored.key, c.args.key.now, c.requires.asked stored here, found_has store c.args.table stored here kept c.args.key (at ∷ []) are live 0 at (omega arith))

pub returns-then-fits-clause-found : goal.returns-then-fits-clause-found
returns-then-fits-clause-found c = λ stored here.
    let store = c.args.view.now.store in
    let at = c.in-Some.at in
    let kept = (table_seen c.args.view.now c.args.table stored here).kept in
    let are : AreMatches stored.key (slot_at stored.places) c.args.key.now stored.refs (at ∷ []) =
    rw c.as_ref.ensures at (c.in-Some.ensures.found stored here) in
    let new : c.push_reserved.new.self.items ≡ at ∷ [] = c.push_reserved.ensures.items ∙ ap (λ l. l ++ at ∷ []) c.new-found.ensures.items in
    found_selected store c.args.table stored here kept c.args.key (at ∷ []) are c.args.atoms.now (c.requires.asked stored here)
    c.push_reserved.new.self.items
    (new ∙ (ap (λ b. cond b (at ∷ []) []) (sym c.if-fits.true) ∙ matching_one store c.args.table c.args.atoms.now at c.fits.result c.fits.ensures.told))

pub returns-else-fits-clause-found : goal.returns-else-fits-clause-found
returns-else-fits-clause-found c = λ stored here.
    let store = c.args.view.now.store in
    let at = c.in-Some.at in
    let kept = (table_seen c.args.view.now c.args.table stored here).kept in
    let are : AreMatches stored.key (slot_at stored.places) c.args.key.now stored.refs (at ∷ []) =
    rw c.as_ref.ensures at (c.in-Some.ensures.found stored here) in
    found_selected store c.args.table stored here kept c.args.key (at ∷ []) are c.args.atoms.now (c.requires.asked stored here)
    c.new-found.result.items
    (c.new-found.ensures.items ∙ (ap (λ b. cond b (at ∷ []) []) (sym c.if-fits.false)
    ∙ matching_one store c.args.table c.args.atoms.now at c.fits.result c.fits.ensures.told))

pub returns-in_default-clause-found : goal.returns-in_default-clause-found
returns-in_default-clause-found c = λ stored here.
    let store = c.args.view.now.store in
    let kept = (table_seen c.args.view.now c.args.table stored here).kept in
    let are : AreMatches stored.key (slot_at stored.places) c.args.key.now stored.refs [] =
    rw c.as_ref.ensures at (c.in_default.ensures.found stored here) in
    found_selected store c.args.table stored here kept c.args.key [] are c.args.atoms.now (c.requires.asked stored here) c.new-found.result.items
    c.new-found.ensures.items

pub returns-then-fits-clause-reads : goal.returns-then-fits-clause-reads
returns-then-fits-clause-reads c = λ stored here.
    let at = c.in-Some.at in
    let kept = (table_seen c.args.view.now c.args.table stored here).kept in
    let are : AreMatches stored.key (slot_at stored.places) c.args.key.now stored.refs (at ∷ []) =
    rw c.as_ref.ensures at (c.in-Some.ensures.found stored here) in
    omega (arith, c.fits.ensures.reads, found_counted c.args.view.now.store c.args.table stored here kept c.args.key (at ∷ []) are)

pub returns-else-fits-clause-reads : goal.returns-else-fits-clause-reads
returns-else-fits-clause-reads c = λ stored here.
    let at = c.in-Some.at in
    let kept = (table_seen c.args.view.now c.args.table stored here).kept in
    let are : AreMatches stored.key (slot_at stored.places) c.args.key.now stored.refs (at ∷ []) =
    rw c.as_ref.ensures at (c.in-Some.ensures.found stored here) in
    omega (arith, c.fits.ensures.reads, found_counted c.args.view.now.store c.args.table stored here kept c.args.key (at ∷ []) are)
