-- What a statement begins with.
use Rattle.std.specs.Prelude.{Bool, ◌||◌}
use Rattle.pfc_base.specs.declared.word.TheConstants.{ACCEPT, BEGIN, CASE, COBEGIN, FOR, IF, NULL, PRI, REPEAT, REQUEUE, SELECT, WHILE}
use Rattle.pfc_tree.specs.Symbols.{Symbol}
use Rattle.pfc_grammar.specs.Heads.{is_word}

-- a word that begins a statement
abbrev pub begins_with_word : Symbol → Bool
begins_with_word s = is_word NULL s || is_word BEGIN s || is_word IF s || is_word CASE s || is_word WHILE s || is_word REPEAT s || is_word FOR s ||
    is_word COBEGIN s || is_word ACCEPT s || is_word REQUEUE s || is_word PRI s || is_word SELECT s
