-- How keywords and symbols are written.
use Rattle.std.specs.Prelude.{ℕ, Bool, List, Option, codes, nat_eq}
use Rattle.std.specs.List.{find}
use lib.Pointwise.{pointwise}
use Rattle.mm_lang.specs.declared.read.keyword.Keyword.{Keyword}
use Rattle.mm_lang.specs.declared.read.keyword.Keyword.TheVariants.{And, Begin, Cascade, Commit, Delete, Distinct}
use Rattle.mm_lang.specs.declared.read.keyword.Keyword.TheVariants.{Drop, Explain, From, Hash, Index, Insert, Int}
use Rattle.mm_lang.specs.declared.read.keyword.Keyword.TheVariants.{Key, On, Order, Ref, Rollback, Savepoint, Scan, Select, Set, Show, Table, Tables, Text, To}
use Rattle.mm_lang.specs.declared.read.keyword.Keyword.TheVariants.{Tree, Unwatch, Update, Watch, Where}
use Rattle.mm_lang.specs.declared.read.token.Symbol.{Symbol}
use Rattle.mm_lang.specs.declared.read.token.Symbol.TheVariants.{Open, Close, Comma, Dot, Equal, Less, AtMost, Greater, AtLeast, Plus, Minus}
use Rattle.mm_lang.specs.declared.read.keyword.TheConstants.{KEYWORDS}

abbrev pub keyword_text : Keyword → List ℕ
keyword_text And = codes "AND"
keyword_text Begin = codes "BEGIN"
keyword_text Cascade = codes "CASCADE"
keyword_text Commit = codes "COMMIT"
keyword_text Delete = codes "DELETE"
keyword_text Distinct = codes "DISTINCT"
keyword_text Drop = codes "DROP"
keyword_text Explain = codes "EXPLAIN"
keyword_text From = codes "FROM"
keyword_text Hash = codes "HASH"
keyword_text Index = codes "INDEX"
keyword_text Insert = codes "INSERT"
keyword_text Int = codes "INT"
keyword_text Key = codes "KEY"
keyword_text On = codes "ON"
keyword_text Order = codes "ORDER"
keyword_text Ref = codes "REF"
keyword_text Rollback = codes "ROLLBACK"
keyword_text Savepoint = codes "SAVEPOINT"
keyword_text Scan = codes "SCAN"
keyword_text Select = codes "SELECT"
keyword_text Set = codes "SET"
keyword_text Show = codes "SHOW"
keyword_text Table = codes "TABLE"
keyword_text Tables = codes "TABLES"
keyword_text Text = codes "TEXT"
keyword_text To = codes "TO"
keyword_text Tree = codes "TREE"
keyword_text Unwatch = codes "UNWATCH"
keyword_text Update = codes "UPDATE"
keyword_text Watch = codes "WATCH"
keyword_text Where = codes "WHERE"

-- The word is the keyword.
abbrev pub is_word : Keyword → List ℕ → Bool
is_word keyword word = pointwise nat_eq word (keyword_text keyword)

-- The keyword with this word.
abbrev pub keyword_named : List ℕ → Option Keyword
keyword_named word = find (λ keyword. is_word keyword word) KEYWORDS

abbrev pub symbol_text : Symbol → List ℕ
symbol_text Open = codes "("
symbol_text Close = codes ")"
symbol_text Comma = codes ","
symbol_text Dot = codes "."
symbol_text Equal = codes "="
symbol_text Less = codes "<"
symbol_text AtMost = codes "<="
symbol_text Greater = codes ">"
symbol_text AtLeast = codes ">="
symbol_text Plus = codes "+"
symbol_text Minus = codes "-"

-- The two symbols are equal.
abbrev pub is_symbol : Symbol → Symbol → Bool
is_symbol symbol other = pointwise nat_eq (symbol_text other) (symbol_text symbol)
