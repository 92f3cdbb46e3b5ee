-- Commands, read by their parts.
use Rattle.std.proofs.Common.{◌≡◌, ◌≢◌, inl, ℕ, Bool, true, false, eqb, List, [], ◌++◌, Some, Result, Ok, refl, sym, ap, ◌∙◌, subst, arith}
use Rattle.std.specs.List.{flat_map}
use Rattle.std.specs.Option.{option_and_then, option_or}
use Rattle.std.proofs.lemmas.Bool.{cond-true, cond-false, eq-eqb, ne_eqb}
use Rattle.mm_schema.specs.Columns.{key_count}
use Rattle.mm_schema.specs.declared.column.Column.{Column}
use Rattle.mm_schema.specs.declared.index.IndexKind.{IndexKind}
use Rattle.mm_value.specs.declared.refusal.Refusal.{Refusal}
use Rattle.mm_value.specs.declared.refusal.Refusal.TheVariants.{Syntax}
use Rattle.mm_value.specs.declared.values.Value.{Value}
use Rattle.mm_query.specs.declared.atom.Assignment.{Assignment}
use Rattle.mm_query.specs.declared.atom.Atom.{Atom}
use Rattle.mm_query.specs.declared.command.Command.{Command}
use Rattle.mm_query.specs.declared.command.Command.TheVariants as command
use Rattle.mm_query.specs.declared.command.Definition.TheVariants as define
use Rattle.mm_query.specs.declared.command.Mutation.TheVariants as change
use Rattle.mm_lang.specs.declared.read.keyword.Keyword.{Keyword}
use Rattle.mm_lang.specs.declared.read.keyword.Keyword.TheVariants as keyword
use Rattle.mm_lang.specs.declared.read.reader.Reader.{Reader}
use Rattle.mm_lang.specs.Grammar.{name, column, index_kind, tuple, comma_list, table, drop, dropped, index, insert, rollback, rolled_back, savepoint, scan}
use Rattle.mm_lang.specs.Grammar.{scan_of, show, assignment, tests_on, unwatch, update, delete}
use Rattle.mm_lang.specs.Phrases.{Phrase, ◌>>=◌, ◌>>◌, say, one_word, only_if, the_keyword, has_keyword, in_parentheses}
use Rattle.mm_lang.specs.Reading.{assignment_literals, first_fault, literals_of, test_literals}
use Rattle.mm_lang.specs.Tokens.{tokens}
use Rattle.mm_lang.specs.Words.{keyword_named}
use Rattle.mm_lang.specs.steps.Parsing.{Fails, Gives, GivesItems, IsMissing, ReadsPhrase, Skips, no_literals}
use Rattle.mm_lang.specs.steps.Parts.{Front}
use Rattle.mm_lang.proofs.Readings.{Took, took, or_none, took_then, took_say, fails_first, fails_next, reads_behind, keyword_stands, none_fault, given_made}
use Rattle.mm_lang.proofs.Readings.{given_both}

-- A command without literals was read.
command_took : (phrase : Phrase Command) (old new : Reader) (c : Command) → literals_of c ≡ [] → Took phrase old new c → Gives phrase literals_of old new c
command_took phrase old new c none t = record {
  said = c;
  read = t.is;
  fault = t.fault ∙ sym (ap (λ l. option_or old.fault (first_fault l)) none ∙ or_none old.fault);
  same = λ _. refl;
  shorter = t.shorter;
}

-- A keyword that is a whole command was read: the command has no more tokens.
pub whole_given : (c : Command) → literals_of c ≡ [] → (reader : Reader) → Gives (say c) literals_of reader reader c
whole_given c none reader = command_took (say c) reader reader c none (took_say c reader)

-- SCAN

say_scan : Bool → List ℕ → Phrase Command
say_scan by_index n = say (scan_of by_index n)

after_scan : Bool → Phrase Command
after_scan by_index = name >>= say_scan by_index

no_literal_scanned : (by_index : Bool) (n : List ℕ) → literals_of (scan_of by_index n) ≡ []
no_literal_scanned true n = refl
no_literal_scanned false n = refl

module _ (old mid : Reader) (by_index : Bool) (skips : Skips (the_keyword keyword.Index) old mid by_index) where
  pub scan_no_name : (e : Refusal) → Fails name mid e → Fails scan old e
  unfolding scan after_scan say_scan
  scan_no_name e h =
      let k = keyword_stands keyword.Index old mid by_index skips in
      fails_next (has_keyword keyword.Index) after_scan old mid by_index e k.is (fails_first name (say_scan by_index) mid e h)

  pub scan_given : (new : Reader) (n : List ℕ) → Gives name no_literals mid new n → Gives scan literals_of old new (scan_of by_index n)
  unfolding scan after_scan say_scan
  scan_given new n g =
      command_took scan old new (scan_of by_index n) (no_literal_scanned by_index n)
      (took_then after_scan (keyword_stands keyword.Index old mid by_index skips)
      (took_then (say_scan by_index) (took g) (took_say (scan_of by_index n) new)))

-- ROLLBACK

say_back : List ℕ → Phrase Command
say_back n = say (command.RollbackTo n)

pub rollback_alone : (old new : Reader) → Skips (the_keyword keyword.To) old new false → Gives rollback literals_of old new command.Rollback
unfolding rollback
rollback_alone old new skips =
    command_took rollback old new command.Rollback refl
    (took_then rolled_back (keyword_stands keyword.To old new false skips) (took_say command.Rollback new))

module _ (old mid : Reader) (skips : Skips (the_keyword keyword.To) old mid true) where
  pub rollback_no_name : (e : Refusal) → IsMissing name mid e → IsMissing rollback old e
  unfolding rollback
  rollback_no_name e h =
      let k = keyword_stands keyword.To old mid true skips in (
        h.0,
        ap (option_and_then (λ (r : Front Bool). rolled_back r.0 r.1)) k.is
            ∙ ap (option_and_then (λ (r : Front (List ℕ)). say (command.RollbackTo r.0) r.1)) h.1,
      )

  pub rollback_to_given : (new : Reader) (n : List ℕ) → Gives name no_literals mid new n → Gives rollback literals_of old new (command.RollbackTo n)
  unfolding rollback say_back
  rollback_to_given new n g =
      command_took rollback old new (command.RollbackTo n) refl
      (took_then rolled_back (keyword_stands keyword.To old mid true skips)
      (took_then say_back (took g) (took_say (command.RollbackTo n) new)))

-- DROP

pub drop_no_keyword : (old : Reader) (e : Refusal) → Fails (one_word keyword_named) old e → Fails drop old e
unfolding drop
drop_no_keyword old e h = fails_first (one_word keyword_named) dropped old e h

pub drop_behind : (old mid new : Reader) (k : Keyword) (r : Result Command Refusal) → Gives (one_word keyword_named) no_literals old mid k
    → ReadsPhrase (dropped k) literals_of mid new r → ReadsPhrase drop literals_of old new r
unfolding drop
drop_behind old mid new k r g h = reads_behind (one_word keyword_named) dropped literals_of old mid new k r (took g) h

module _ (make : List ℕ → Command) (none : (n : List ℕ) → literals_of (make n) ≡ []) where
  say_made : List ℕ → Phrase Command
  say_made n = say (make n)

  pub made_given : (old new : Reader) (n : List ℕ) → Gives name no_literals old new n → Gives (name >>= (λ n. say (make n))) literals_of old new (make n)
  unfolding say_made
  made_given old new n g = command_took (name >>= say_made) old new (make n) (none n) (took_then say_made (took g) (took_say (make n) new))

-- SHOW, SAVEPOINT and UNWATCH

pub show_no_name : (old : Reader) (e : Refusal) → Fails name old e → Fails show old e
unfolding show
show_no_name old e h = fails_first name (λ n. say (command.Show n)) old e h

pub show_given : (old new : Reader) (n : List ℕ) → Gives name no_literals old new n → Gives show literals_of old new (command.Show n)
unfolding show
show_given old new n g = made_given (λ m. command.Show m) (λ m. refl) old new n g

pub savepoint_no_name : (old : Reader) (e : Refusal) → Fails name old e → Fails savepoint old e
unfolding savepoint
savepoint_no_name old e h = fails_first name (λ n. say (command.Savepoint n)) old e h

pub savepoint_given : (old new : Reader) (n : List ℕ) → Gives name no_literals old new n → Gives savepoint literals_of old new (command.Savepoint n)
unfolding savepoint
savepoint_given old new n g = made_given (λ m. command.Savepoint m) (λ m. refl) old new n g

pub unwatch_no_name : (old : Reader) (e : Refusal) → Fails name old e → Fails unwatch old e
unfolding unwatch
unwatch_no_name old e h = fails_first name (λ n. say (command.Define (define.Unwatch n))) old e h

pub unwatch_given : (old new : Reader) (n : List ℕ) → Gives name no_literals old new n
    → Gives unwatch literals_of old new (command.Define (define.Unwatch n))
unfolding unwatch
unwatch_given old new n g = made_given (λ m. command.Define (define.Unwatch m)) (λ m. refl) old new n g

-- INDEX

the_index : List ℕ → List ℕ → List ℕ → IndexKind → Command
the_index n t c k = command.Define (define.Index (record { name = n; table = t; column = c; kind = k }))

say_index : List ℕ → List ℕ → List ℕ → IndexKind → Phrase Command
say_index n t c k = say (command.Define (define.Index (record { name = n; table = t; column = c; kind = k })))

after_column : List ℕ → List ℕ → List ℕ → Phrase Command
after_column n t c = index_kind >>= say_index n t c

after_indexed : List ℕ → List ℕ → Phrase Command
after_indexed n t = in_parentheses name >>= after_column n t

after_on : List ℕ → Phrase Command
after_on n = name >>= after_indexed n

after_index : List ℕ → Phrase Command
after_index n = the_keyword keyword.On >> after_on n

pub index_no_name : (old : Reader) (e : Refusal) → Fails name old e → Fails index old e
unfolding index after_index after_on after_indexed after_column say_index
index_no_name old e h = fails_first name after_index old e h

module _ (old named : Reader) (n : List ℕ) (a : Gives name no_literals old named n) where
  fails_named : (e : Refusal) → Fails (after_index n) named e → Fails index old e
  unfolding index after_index after_on after_indexed after_column say_index
  fails_named e h = let t = took a in fails_next name after_index old named n e t.is h

  pub index_no_on : (e : Refusal) → Fails (the_keyword keyword.On) named e → Fails index old e
  unfolding after_index
  index_no_on e h = fails_named e (fails_first (the_keyword keyword.On) (λ u. after_on n) named e h)

  module _ (on : Reader) (b : Gives (the_keyword keyword.On) no_literals named on tt) where
    fails_on : (e : Refusal) → Fails (after_on n) on e → Fails index old e
    unfolding after_index
    fails_on e h = let t = took b in fails_named e (fails_next (the_keyword keyword.On) (λ u. after_on n) named on tt e t.is h)

    pub index_no_table : (e : Refusal) → Fails name on e → Fails index old e
    unfolding after_on
    index_no_table e h = fails_on e (fails_first name (after_indexed n) on e h)

    module _ (tabled : Reader) (table : List ℕ) (c : Gives name no_literals on tabled table) where
      fails_tabled : (e : Refusal) → Fails (after_indexed n table) tabled e → Fails index old e
      unfolding after_on
      fails_tabled e h = let t = took c in fails_on e (fails_next name (after_indexed n) on tabled table e t.is h)

      pub index_no_column : (e : Refusal) → Fails (in_parentheses name) tabled e → Fails index old e
      unfolding after_indexed
      index_no_column e h = fails_tabled e (fails_first (in_parentheses name) (after_column n table) tabled e h)

      module _ (behind : Reader) (column : List ℕ) (d : Gives (in_parentheses name) no_literals tabled behind column) where
        pub index_no_kind : (e : Refusal) → Fails index_kind behind e → Fails index old e
        unfolding after_indexed after_column
        index_no_kind e h =
            let t = took d in
            fails_tabled e
            (fails_next (in_parentheses name) (after_column n table) tabled behind column e t.is (fails_first index_kind (say_index n table column) behind e h))

        pub index_given : (new : Reader) (k : IndexKind) → Gives index_kind no_literals behind new k
            → Gives index literals_of old new (command.Define (define.Index (record { name = n; table = table; column = column; kind = k })))
        unfolding index after_index after_on after_indexed after_column say_index the_index
        index_given new k g =
            command_took index old new (the_index n table column k) refl
            (took_then after_index (took a) (took_then (λ u. after_on n) (took b) (took_then (after_indexed n) (took c)
            (took_then (after_column n table) (took d) (took_then (say_index n table column) (took g) (took_say (the_index n table column k) new))))))

-- INSERT

say_insert : List ℕ → List (List Value) → Phrase Command
say_insert t tuples = say (command.Change (change.Insert t tuples))

after_table : List ℕ → Phrase Command
after_table t = comma_list tuple >>= say_insert t

pub insert_no_name : (old : Reader) (e : Refusal) → Fails name old e → Fails insert old e
unfolding insert after_table say_insert
insert_no_name old e h = fails_first name after_table old e h

pub insert_no_tuples : (old mid : Reader) (t : List ℕ) (e : Refusal) → Gives name no_literals old mid t → Fails (comma_list tuple) mid e → Fails insert old e
unfolding insert after_table say_insert
insert_no_tuples old mid t e g h = let n = took g in fails_next name after_table old mid t e n.is (fails_first (comma_list tuple) (say_insert t) mid e h)

pub insert_given : (old mid new : Reader) (t : List ℕ) (read tuples : List (List Value)) → Gives name no_literals old mid t
    → Gives (comma_list tuple) (flat_map (λ values. values)) mid new read → tuples ≡ read
    → Gives insert literals_of old new (command.Change (change.Insert t tuples))
unfolding insert after_table say_insert
insert_given old mid new t read tuples g h same =
    subst (λ l. Gives insert literals_of old new (command.Change (change.Insert t l))) (sym same)
    (reads_behind name after_table literals_of old mid new t (Ok (command.Change (change.Insert t read))) (took g)
    (given_made (comma_list tuple) (λ l. command.Change (change.Insert t l)) (flat_map (λ values. values)) literals_of (λ l. refl) h))

-- DELETE

say_delete : List ℕ → List (Atom (List ℕ)) → Command
say_delete t asked = command.Change (change.Delete t asked)

asked_in : List ℕ → Phrase Command
asked_in t = tests_on name >>= (λ asked. say (command.Change (change.Delete t asked)))

pub delete_no_name : (old : Reader) (e : Refusal) → Fails name old e → Fails delete old e
unfolding delete asked_in
delete_no_name old e h = fails_first name asked_in old e h

module _ (old mid : Reader) (t : List ℕ) (g : Gives name no_literals old mid t) where
  pub delete_no_tests : (e : Refusal) → Fails (tests_on name) mid e → Fails delete old e
  unfolding delete asked_in
  delete_no_tests e h =
      let n = took g in
      fails_next name asked_in old mid t e n.is (fails_first (tests_on name) (λ asked. say (command.Change (change.Delete t asked))) mid e h)

  pub delete_given : (new : Reader) (asked : List (Atom (List ℕ))) → Gives (tests_on name) (flat_map test_literals) mid new asked
      → Gives delete literals_of old new (command.Change (change.Delete t asked))
  unfolding delete asked_in say_delete
  delete_given new asked h =
      reads_behind name asked_in literals_of old mid new t (Ok (say_delete t asked)) (took g)
      (given_made (tests_on name) (say_delete t) (flat_map test_literals) literals_of (λ x. refl) h)

-- UPDATE

abbrev Assignments : Type 0
Assignments = List (Assignment (List ℕ))

say_update : List ℕ → Assignments → List (Atom (List ℕ)) → Command
say_update t assignments asked = command.Change (change.Update t assignments asked)

after_assignments : List ℕ → Assignments → Phrase Command
after_assignments t assignments = tests_on name >>= (λ asked. say (command.Change (change.Update t assignments asked)))

after_set : List ℕ → Phrase Command
after_set t = comma_list assignment >>= after_assignments t

after_updated : List ℕ → Phrase Command
after_updated t = the_keyword keyword.Set >> after_set t

pub update_no_name : (old : Reader) (e : Refusal) → Fails name old e → Fails update old e
unfolding update after_updated after_set after_assignments
update_no_name old e h = fails_first name after_updated old e h

module _ (old named : Reader) (t : List ℕ) (a : Gives name no_literals old named t) where
  pub update_no_set : (e : Refusal) → Fails (the_keyword keyword.Set) named e → Fails update old e
  unfolding update after_updated after_set after_assignments
  update_no_set e h = let n = took a in fails_next name after_updated old named t e n.is (fails_first (the_keyword keyword.Set) (λ u. after_set t) named e h)

  module _ (set : Reader) (b : Gives (the_keyword keyword.Set) no_literals named set tt) where
    fails_set : (e : Refusal) → Fails (after_set t) set e → Fails update old e
    unfolding update after_updated after_set after_assignments
    fails_set e h =
        let n = took a in
        let k = took b in
        fails_next name after_updated old named t e n.is (fails_next (the_keyword keyword.Set) (λ u. after_set t) named set tt e k.is h)

    pub update_no_assignments : (e : Refusal) → Fails (comma_list assignment) set e → Fails update old e
    unfolding after_set
    update_no_assignments e h = fails_set e (fails_first (comma_list assignment) (after_assignments t) set e h)

    module _ (mid : Reader) (assignments : Assignments) (items : Gives (comma_list assignment) (flat_map assignment_literals) set mid assignments) where
      pub update_no_tests : (e : Refusal) → Fails (tests_on name) mid e → Fails update old e
      unfolding after_set after_assignments
      update_no_tests e h =
          fails_set e
          (fails_next (comma_list assignment) (after_assignments t) set mid items.said e items.read
          (fails_first (tests_on name) (λ asked. say (command.Change (change.Update t items.said asked))) mid e h))

      pub update_given : (new : Reader) (asked : List (Atom (List ℕ))) → Gives (tests_on name) (flat_map test_literals) mid new asked
          → Gives update literals_of old new (command.Change (change.Update t assignments asked))
      unfolding update after_updated after_set after_assignments say_update
      update_given new asked h =
          reads_behind name after_updated literals_of old named new t (Ok (say_update t assignments asked)) (took a)
          (reads_behind (the_keyword keyword.Set) (λ u. after_set t) literals_of named set new tt (Ok (say_update t assignments asked)) (took b)
          (given_both (comma_list assignment) (tests_on name) (say_update t) (flat_map assignment_literals) (flat_map test_literals) literals_of
          (λ x y. refl) set mid new assignments asked items h))

-- TABLE

say_table : List ℕ → List Column → Phrase Command
say_table n columns = only_if (eqb (key_count columns) 1) (say (command.Define (define.Table (record { name = n; columns = columns }))))

table_columns : Phrase (List Column)
table_columns = in_parentheses (comma_list column)

after_name : List ℕ → Phrase Command
after_name n = table_columns >>= say_table n

pub table_no_name : (old : Reader) (e : Refusal) → Fails name old e → Fails table old e
unfolding table after_name table_columns say_table
table_no_name old e h = fails_first name after_name old e h

pub table_no_columns : (old mid : Reader) (n : List ℕ) (e : Refusal) → Gives name no_literals old mid n
    → Fails (in_parentheses (comma_list column)) mid e → Fails table old e
unfolding table after_name table_columns say_table
table_no_columns old mid n e g h = let t = took g in fails_next name after_name old mid n e t.is (fails_first table_columns (say_table n) mid e h)

module _ (old mid new : Reader) (n : List ℕ) (before after : List Column) (g : Gives name no_literals old mid n) (none : before ≡ [])
    (items : GivesItems (in_parentheses (comma_list column)) (flat_map no_literals) mid new before after) where
  said_is : items.given.said ≡ after
  said_is = sym (items.joined ∙ ap (λ l. l ++ items.items) none ∙ items.given.same (none_fault items.given.said))

  columns_read : in_parentheses (comma_list column) (tokens mid.rest) ≡ Some (after, tokens new.rest)
  columns_read = items.given.read ∙ ap (λ l. Some (l, tokens new.rest)) said_is

  pub table_keys : key_count after ≢ 1 → Fails table old Syntax
  unfolding table after_name table_columns say_table
  table_keys other =
      let t = took g in
      inl (
        refl,
        ap (option_and_then (λ (r : Front (List ℕ)). after_name r.0 r.1)) t.is
            ∙ ap (option_and_then (λ (r : Front (List Column)). say_table n r.0 r.1)) columns_read
            ∙ cond-false (eqb (key_count after) 1) _ _ (ne_eqb (key_count after) 1 other),
      )

  pub table_given : (columns : List Column) → columns ≡ after → key_count after ≡ 1
      → Gives table literals_of old new (command.Define (define.Table (record { name = n; columns = columns })))
  unfolding table after_name table_columns say_table
  table_given columns same one =
      let t = took g in
      let h = items.given in
      record {
        said = command.Define (define.Table (record { name = n; columns = after }));
        read =
            ap (option_and_then (λ (r : Front (List ℕ)). after_name r.0 r.1)) t.is
            ∙ ap (option_and_then (λ (r : Front (List Column)). say_table n r.0 r.1)) columns_read
            ∙ cond-true (eqb (key_count after) 1) _ _ (eq-eqb (key_count after) 1 one);
        fault = h.fault ∙ ap (λ f. option_or f (first_fault (flat_map no_literals h.said))) t.fault ∙ ap (option_or old.fault) (none_fault h.said);
        same = λ _. ap (λ l. command.Define (define.Table (record { name = n; columns = l }))) same;
        shorter = omega (arith, t.shorter, h.shorter);
      }
