use Rattle.std.proofs.Common.{ℕ, List, refl, sym, ◌∙◌, arith}
use Rattle.mm_partition.specs.declared.slots.State.{State}
use Rattle.mm_partition.specs.declared.slots.State.TheVariants as state
use Rattle.mm_partition.proofs.ContentLemmas.{length-contents, Stands, live_at, hidden_at, live_within, hidden_within, extent_is}
use Rattle.mm_partition.proofs.ExchangeLemmas.{ChangesTwo-at, Storable-exchanged}
use Rattle.mm_partition.proofs.FreeLemmas.{IsStored-at}
use Rattle.mm_partition.proofs.rows.Partitions.exchange.Goals as goal

pub exchange_each-requires-clause-a : goal.exchange_each-requires-clause-a
exchange_each-requires-clause-a c k d h =
    omega (arith, live_within _ _ _ _ _ _ c.self.view_is c.requires.live.1, c.index_of.ensures, (c.self.invariant.cells k d h).size)

pub exchange_each-requires-clause-b : goal.exchange_each-requires-clause-b
exchange_each-requires-clause-b c k d h =
    omega (arith, hidden_within _ _ _ _ _ _ c.self.view_is c.requires.hidden.1, c.index_of-2.ensures, (c.self.invariant.cells k d h).size)

pub invariant_of-self : goal.invariant_of-self
invariant_of-self c =
    let states : List State = c.self.inside.states.items in
    let i : ℕ = c.index_of.result in
    let j : ℕ = c.index_of-2.result in
    let live : Stands c.self.inside.columns.items states i state.Live c.requires.live.0 =
    live_at _ _ _ _ _ _ i c.self.view_is (sym c.index_of.ensures) c.requires.live.1 in
    let hidden : Stands c.self.inside.columns.items states j state.Hidden c.requires.hidden.0 =
    hidden_at _ _ _ _ _ _ j c.self.view_is (sym c.index_of-2.ensures) c.requires.hidden.1 in
    IsStored-at _ _ _ _ _ _ _ _ _ refl c.self.invariant.free_slots (c.exchange_each.ensures.fits _ _ c.self.invariant.cells)
    (Storable-exchanged _ _ _ states _ 0 i j c.args.at c.args.other _ _ c.self.view_is (sym c.index_of.ensures) (sym c.index_of-2.ensures)
    live hidden c.exchange_each.ensures.cells c.self.invariant.storable)
    c.self.invariant

pub returns-clause-exchanged : goal.returns-clause-exchanged
returns-clause-exchanged c row other live_is hidden_is =
    let states : List State = c.self.inside.states.items in
    let i : ℕ = c.index_of.result in
    let j : ℕ = c.index_of-2.result in
    let live : Stands c.self.inside.columns.items states i state.Live row =
    live_at _ _ _ _ _ _ i c.self.view_is (sym c.index_of.ensures) live_is in
    let hidden : Stands c.self.inside.columns.items states j state.Hidden other =
    hidden_at _ _ _ _ _ _ j c.self.view_is (sym c.index_of-2.ensures) hidden_is in
    ChangesTwo-at _ _ _ states _ _ i j c.args.at c.args.other row other c.self.view_is (sym c.index_of.ensures) (sym c.index_of-2.ensures)
    live hidden c.exchange_each.ensures.cells

pub returns-clause-extent : goal.returns-clause-extent
returns-clause-extent c = length-contents 0 c.exchange_each.new.columns.items c.self.inside.states.items ∙ sym (extent_is _ _ _ _ c.self.view_is)
