use Rattle.mm_lang.proofs.Readings.{gives, role_key, role_plain, role_reference}
use Rattle.mm_lang.proofs.read.columns.read_role.Goals as goal

pub returns-then-skip_keyword : goal.returns-then-skip_keyword
returns-then-skip_keyword c = gives (role_key c.args.reader.now c.skip_keyword.new.self c.if-skip_keyword.ensures)

pub returns-then-skip_keyword-2 : goal.returns-then-skip_keyword-2
returns-then-skip_keyword-2 c =
    role_reference c.args.reader.now c.skip_keyword.new.self c.read_reference.new.reader c.if-skip_keyword.ensures c.skip_keyword-2.new.self
    c.read_reference.result c.if-skip_keyword-2.ensures c.read_reference.ensures

pub returns : goal.returns
returns c =
    gives
    (role_plain c.args.reader.now c.skip_keyword.new.self c.skip_keyword-2.new.self c.if-skip_keyword.ensures c.if-skip_keyword-2.ensures)
