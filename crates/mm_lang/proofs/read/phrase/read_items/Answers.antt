use Rattle.std.proofs.Common.{rules, [], ◌∷◌, ◌++◌, refl, sym, subst, ◌∙◌}
use Rattle.std.specs.List.{flat_map}
use Rattle.std.proofs.lemmas.Result.{err_from_is_err_and}
use Rattle.mm_lang.specs.Phrases.{list_of, the_separator}
use Rattle.mm_lang.specs.steps.Parsing.{Gives}
use Rattle.mm_lang.proofs.Lists.{items_begin, items_behind, items_end, items_fail, items_fail_behind, items_more}
use Rattle.mm_lang.proofs.Readings.{listed}
use Rattle.mm_lang.proofs.read.phrase.read_items.Goals as goal

pub returns-in_err-first : goal.returns-in_err-first
returns-in_err-first g c =
    let p = err_from_is_err_and c.from_residual.result c.from_residual.ensures.1 in
    let old = c.args.reader.now in
    rw (p.1, p.2)
    (items_fail c.args.separator g.P.Phrase.reading g.P.Phrase.literals old [] old []
    (items_begin c.args.separator g.P.Phrase.reading g.P.Phrase.literals old []) _ c.in_err-first.ensures)

pub returns-then-not-skip_separator : goal.returns-then-not-skip_separator
returns-then-not-skip_separator g c =
    let old = c.args.reader.now in
    listed refl
    (items_end c.args.separator g.P.Phrase.reading g.P.Phrase.literals old [] old []
    (items_begin c.args.separator g.P.Phrase.reading g.P.Phrase.literals old []) c.read.new.reader c.in_ok-first.first c.in_ok-first.ensures
    c.one.result c.one.ensures c.skip_separator.new.self c.if-not-skip_separator.ensures)

pub returns-in_err-read_list : goal.returns-in_err-read_list
returns-in_err-read_list g c =
    let p = err_from_is_err_and c.from_residual-in_err-read_list.result c.from_residual-in_err-read_list.ensures.1 in
    let old = c.args.reader.now in
    let first = c.in_ok-first.first in
    rw (p.1, p.2)
    (items_fail_behind c.args.separator g.P.Phrase.reading g.P.Phrase.literals old [] c.skip_separator.new.self (first ∷ [])
    (items_more c.args.separator g.P.Phrase.reading g.P.Phrase.literals old [] old []
    (items_begin c.args.separator g.P.Phrase.reading g.P.Phrase.literals old []) c.read.new.reader first c.in_ok-first.ensures (first ∷ []) refl
    (g.met.P.Phrase c.lifetimes (search rules)).never_longer c.skip_separator.new.self c.if-not-skip_separator.ensures)
    _ c.in_err-read_list.ensures)

pub returns : goal.returns
returns g c =
    let old = c.args.reader.now in
    let first = c.in_ok-first.first in
    subst (Gives (list_of (the_separator c.args.separator) g.P.Phrase.reading) (flat_map g.P.Phrase.literals) old c.read_list.new.reader)
    (sym c.from_vec.ensures)
    (listed refl
    (items_behind c.args.separator g.P.Phrase.reading g.P.Phrase.literals old [] c.skip_separator.new.self c.push.new.self.items
    (items_more c.args.separator g.P.Phrase.reading g.P.Phrase.literals old [] old []
    (items_begin c.args.separator g.P.Phrase.reading g.P.Phrase.literals old []) c.read.new.reader first c.in_ok-first.ensures
    c.push.new.self.items (c.in_ok-push.ensures.items ∙ (λ i. c.new-items.ensures.items i ++ first ∷ []))
    (g.met.P.Phrase c.lifetimes (search rules)).never_longer c.skip_separator.new.self c.if-not-skip_separator.ensures)
    c.read_list.new.reader c.read_list.new.items.items c.in_ok-read_list.ensures))
