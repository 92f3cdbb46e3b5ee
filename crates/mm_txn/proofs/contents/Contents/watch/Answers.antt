-- A standing query is created in the catalog and in the lists, or in neither.
use Rattle.std.proofs.Common.{◌≡◌, false, inl, inr, length, map, sym, ap, subst, ◌∙◌, ⊎_elim}
use Rattle.std.proofs.lemmas.Result.{err_from_is_err_and}
use Rattle.mm_laws.specs.Typing.{AreTyped}
use Rattle.mm_plan.specs.Kept.{instance_of}
use Rattle.mm_query.specs.Resolving.{places_in}
use Rattle.mm_query.specs.Standing.{after_watch, tables_read, watch_conditions}
use Rattle.mm_schema.specs.Refused.{first_refusal}
use Rattle.mm_txn.specs.Contents.{Holdings, state_held}
use Rattle.mm_query.specs.declared.bound_query.BoundQuery.{BoundQuery}
use Rattle.mm_query.specs.declared.query.FromItem.{FromItem}
use Rattle.mm_schema.specs.Schema.{Schema}
use Rattle.mm_schema.specs.Standing.{lacks_some_table}
use Rattle.mm_txn.specs.Rest.{AreAtRest, state_at_rest}
use Rattle.mm_txn.proofs.WatchSteps.{as_many_lists, name_free, name_taken_back, rest_by_watch, state_by_watch, watch_due, watch_few, watch_refused}
use Rattle.mm_txn.proofs.WatchSteps.{watch_served, watch_tables_there, watch_typed}
use Rattle.mm_txn.proofs.contents.Contents.watch.Goals as goal

pub prove-unreachable-requires : goal.prove-unreachable-requires
prove-unreachable-requires c =
    c.if-prove.true (ap length c.standing.ensures.value
    ∙ as_many_lists c.self.inside.catalog c.self.inside.standing.queries c.self.invariant.placed ∙ sym c.len.ensures.queries)

pub watch-requires-clause-typed : goal.watch-requires-clause-typed
watch-requires-clause-typed c =
    let schema = c.self.inside.catalog in
    let store = c.self.inside.store in
    let lists = c.self.inside.standing in
    let name = c.args.named.name in
    let query = c.args.named.query in
    let bound = c.in_ok-bound.bound.query in
    let tables_are : c.in_ok-tables.tables.items ≡ places_in schema bound.from =
    c.in_ok-tables.ensures ∙ c.as_slice-2.ensures ∙ c.in_ok-bound.ensures.tables
    ∙ sym (ap (λ (b : BoundQuery). places_in schema b.from) c.in_ok-bound.ensures.ok) in
    let typed : AreTyped schema.tables (instance_of store.tables) =
    subst (λ (h : Holdings). AreTyped h.schema.tables (instance_of h.store.tables)) (sym c.self.view_is) c.requires.typed in
    watch_typed schema store lists c.self.invariant name query c.in_ok-bound.ensures.due bound c.in_ok-bound.ensures.ok c.in_ok-tables.tables.items tables_are
    typed c.in_ok-bound.ensures.within c.in_ok-types.types.items c.in_ok-types.ensures

pub returns-in_err-bound-clause-due : goal.returns-in_err-bound-clause-due
returns-in_err-bound-clause-due c =
    let seen = ap (λ (h : Holdings). first_refusal (watch_conditions c.args.named.name c.args.named.query (state_held h))) c.self.view_is in
    let schema = c.self.inside.catalog in
    let store = c.self.inside.store in
    let lists = c.self.inside.standing in
    let name = c.args.named.name in
    let query = c.args.named.query in
    let p = err_from_is_err_and c.from_residual.result c.from_residual.ensures.1 in
    rw (p.1, p.2) (⊎_elim (λ h. inl (sym seen ∙ watch_refused schema store lists c.self.invariant name query c.in_err-bound.field-0.0 h)) (λ m. inr m)
    c.in_err-bound.ensures.due)

pub add_standing-requires : goal.add_standing-requires
add_standing-requires c =
    let schema = c.self.inside.catalog in
    let store = c.self.inside.store in
    let lists = c.self.inside.standing in
    let name = c.args.named.name in
    let query = c.args.named.query in
    let bound = c.in_ok-bound.bound.query in
    let tables_are : c.in_ok-bound.bound.tables ≡ places_in schema bound.from =
    c.in_ok-bound.ensures.tables ∙ sym (ap (λ (b : BoundQuery). places_in schema b.from) c.in_ok-bound.ensures.ok) in
    let names_are : c.in_ok-names.names ≡ tables_read bound =
    c.in_ok-names.ensures ∙ ap (map (λ (item : FromItem). item.table)) c.as_slice.ensures in
    subst (λ ns. lacks_some_table ns schema ≡ false) (sym names_are)
    (watch_tables_there schema store lists c.self.invariant name query c.in_ok-bound.ensures.due bound c.in_ok-bound.ensures.ok c.in_ok-bound.bound.tables
    tables_are)

pub watch-requires-clause-there : goal.watch-requires-clause-there
watch-requires-clause-there c =
    let schema = c.self.inside.catalog in
    let store = c.self.inside.store in
    let lists = c.self.inside.standing in
    let name = c.args.named.name in
    let query = c.args.named.query in
    let bound = c.in_ok-bound.bound.query in
    let tables_are : c.in_ok-tables.tables.items ≡ places_in schema bound.from =
    c.in_ok-tables.ensures ∙ c.as_slice-2.ensures ∙ c.in_ok-bound.ensures.tables
    ∙ sym (ap (λ (b : BoundQuery). places_in schema b.from) c.in_ok-bound.ensures.ok) in
    watch_served schema store lists c.self.invariant name query c.in_ok-bound.ensures.due bound c.in_ok-bound.ensures.ok c.in_ok-tables.tables.items tables_are

pub watch-requires-clause-few : goal.watch-requires-clause-few
watch-requires-clause-few c =
    let schema = c.self.inside.catalog in
    let store = c.self.inside.store in
    let lists = c.self.inside.standing in
    let name = c.args.named.name in
    let query = c.args.named.query in
    let bound = c.in_ok-bound.bound.query in
    let tables_are : c.in_ok-tables.tables.items ≡ places_in schema bound.from =
    c.in_ok-tables.ensures ∙ c.as_slice-2.ensures ∙ c.in_ok-bound.ensures.tables
    ∙ sym (ap (λ (b : BoundQuery). places_in schema b.from) c.in_ok-bound.ensures.ok) in
    watch_few schema store lists c.self.invariant name query c.in_ok-bound.ensures.due bound c.in_ok-bound.ensures.ok c.in_ok-tables.tables.items tables_are

pub returns-in-Err-clause-due : goal.returns-in-Err-clause-due
returns-in-Err-clause-due c =
    let seen = ap (λ (h : Holdings). first_refusal (watch_conditions c.args.named.name c.args.named.query (state_held h))) c.self.view_is in
    let schema = c.self.inside.catalog in
    let store = c.self.inside.store in
    let lists = c.self.inside.standing in
    let name = c.args.named.name in
    let query = c.args.named.query in
    let bound = c.in_ok-bound.bound.query in
    let tables_are : c.in_ok-tables.tables.items ≡ places_in schema bound.from =
    c.in_ok-tables.ensures ∙ c.as_slice-2.ensures ∙ c.in_ok-bound.ensures.tables
    ∙ sym (ap (λ (b : BoundQuery). places_in schema b.from) c.in_ok-bound.ensures.ok) in
    let due = watch_due schema store lists c.self.invariant name query c.in_ok-bound.ensures.due bound c.in_ok-bound.ensures.ok c.in_ok-tables.tables.items
    tables_are in
    ⊎_elim (λ h. inl (sym seen ∙ (sym due ∙ h))) (λ m. inr m) c.in-Err.ensures.due

pub returns-in-Err-clause-err : goal.returns-in-Err-clause-err
returns-in-Err-clause-err c =
    let schema = c.self.inside.catalog in
    let store = c.self.inside.store in
    let lists = c.self.inside.standing in
    let name = c.args.named.name in
    let query = c.args.named.query in
    let back = name_taken_back name schema (name_free name query schema c.in_ok-bound.ensures.due) c.add_standing.new.self c.drop_standing.new.self
    c.drop_standing.result c.in_ok-names.names c.copy.result c.copy.ensures c.in_ok-add_standing.ensures.ok c.drop_standing.ensures.due
    c.drop_standing.ensures.ok in
    (λ i. state_at_rest (back i) store (c.in-Err.ensures.err i)) ∙ ap (λ (h : Holdings). state_held h) c.self.view_is

pub invariant_of-self-in-Err : goal.invariant_of-self-in-Err
invariant_of-self-in-Err c =
    let schema = c.self.inside.catalog in
    let store = c.self.inside.store in
    let lists = c.self.inside.standing in
    let name = c.args.named.name in
    let query = c.args.named.query in
    let back = name_taken_back name schema (name_free name query schema c.in_ok-bound.ensures.due) c.add_standing.new.self c.drop_standing.new.self
    c.drop_standing.result c.in_ok-names.names c.copy.result c.copy.ensures c.in_ok-add_standing.ensures.ok c.drop_standing.ensures.due
    c.drop_standing.ensures.ok in
    subst (λ (s : Schema). AreAtRest s store c.watch.new.self) (sym back) (subst (AreAtRest schema store) (sym c.in-Err.ensures.err) c.self.invariant)

pub returns-clause-due : goal.returns-clause-due
returns-clause-due c =
    let seen = ap (λ (h : Holdings). first_refusal (watch_conditions c.args.named.name c.args.named.query (state_held h))) c.self.view_is in
    let schema = c.self.inside.catalog in
    let store = c.self.inside.store in
    let lists = c.self.inside.standing in
    let name = c.args.named.name in
    let query = c.args.named.query in
    let bound = c.in_ok-bound.bound.query in
    let tables_are : c.in_ok-tables.tables.items ≡ places_in schema bound.from =
    c.in_ok-tables.ensures ∙ c.as_slice-2.ensures ∙ c.in_ok-bound.ensures.tables
    ∙ sym (ap (λ (b : BoundQuery). places_in schema b.from) c.in_ok-bound.ensures.ok) in
    sym seen
    ∙ (sym (watch_due schema store lists c.self.invariant name query c.in_ok-bound.ensures.due bound c.in_ok-bound.ensures.ok c.in_ok-tables.tables.items
    tables_are)
    ∙ c.in_default.ensures.due)

pub returns-clause-ok : goal.returns-clause-ok
returns-clause-ok c =
    let schema = c.self.inside.catalog in
    let store = c.self.inside.store in
    let lists = c.self.inside.standing in
    let name = c.args.named.name in
    let query = c.args.named.query in
    let bound = c.in_ok-bound.bound.query in
    let tables_are : c.in_ok-tables.tables.items ≡ places_in schema bound.from =
    c.in_ok-tables.ensures ∙ c.as_slice-2.ensures ∙ c.in_ok-bound.ensures.tables
    ∙ sym (ap (λ (b : BoundQuery). places_in schema b.from) c.in_ok-bound.ensures.ok) in
    let names_are : c.in_ok-names.names ≡ tables_read bound =
    c.in_ok-names.ensures ∙ ap (map (λ (item : FromItem). item.table)) c.as_slice.ensures in
    let new = c.in_default.ensures.ok in
    state_by_watch schema store lists c.self.invariant name query c.in_ok-bound.ensures.due bound c.in_ok-bound.ensures.ok c.in_ok-tables.tables.items
    tables_are c.in_ok-types.types.items c.in_ok-types.ensures
    c.in_ok-names.names names_are c.copy.result c.copy.ensures new.0 new.1 c.add_standing.new.self c.in_ok-add_standing.ensures.ok
    c.watch.new.self new.2
    ∙ ap (λ (h : Holdings). after_watch name query (state_held h)) c.self.view_is

pub invariant_of-self-in_default : goal.invariant_of-self-in_default
invariant_of-self-in_default c =
    let schema = c.self.inside.catalog in
    let store = c.self.inside.store in
    let lists = c.self.inside.standing in
    let name = c.args.named.name in
    let query = c.args.named.query in
    let bound = c.in_ok-bound.bound.query in
    let tables_are : c.in_ok-tables.tables.items ≡ places_in schema bound.from =
    c.in_ok-tables.ensures ∙ c.as_slice-2.ensures ∙ c.in_ok-bound.ensures.tables
    ∙ sym (ap (λ (b : BoundQuery). places_in schema b.from) c.in_ok-bound.ensures.ok) in
    let names_are : c.in_ok-names.names ≡ tables_read bound =
    c.in_ok-names.ensures ∙ ap (map (λ (item : FromItem). item.table)) c.as_slice.ensures in
    let new = c.in_default.ensures.ok in
    let due = sym (watch_due schema store lists c.self.invariant name query c.in_ok-bound.ensures.due bound c.in_ok-bound.ensures.ok
    c.in_ok-tables.tables.items tables_are)
    ∙ c.in_default.ensures.due in
    rest_by_watch schema store lists c.self.invariant name query c.in_ok-bound.ensures.due bound c.in_ok-bound.ensures.ok c.in_ok-tables.tables.items tables_are
    c.in_ok-types.types.items c.in_ok-types.ensures c.in_ok-names.names names_are c.copy.result c.copy.ensures new.0 new.1 c.add_standing.new.self
    c.in_ok-add_standing.ensures.ok
    c.watch.new.self new.2 (sym c.len.ensures.queries ∙ c.len.ensures.bags) due c.in_ok-bound.ensures.within
