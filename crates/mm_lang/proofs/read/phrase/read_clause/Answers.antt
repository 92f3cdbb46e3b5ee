use Rattle.std.proofs.Common.{◌∙◌}
use Rattle.mm_lang.specs.Phrases.{the_separator}
use Rattle.mm_lang.proofs.Readings.{clause_none, clause_reads}
use Rattle.mm_lang.proofs.read.phrase.read_clause.Goals as goal

pub returns-then-not-skip_keyword : goal.returns-then-not-skip_keyword
returns-then-not-skip_keyword g c =
    clause_none c.args.keyword (the_separator c.args.separator) g.P.Phrase.reading g.P.Phrase.literals c.args.reader.now c.skip_keyword.new.self
    c.if-not-skip_keyword.ensures c.from_vec.result (c.from_vec.ensures ∙ c.new.ensures.items)

pub returns : goal.returns
returns g c =
    clause_reads c.args.keyword (the_separator c.args.separator) g.P.Phrase.reading g.P.Phrase.literals c.args.reader.now c.skip_keyword.new.self
    c.read_items.new.reader c.read_items.result c.if-not-skip_keyword.ensures c.read_items.ensures
