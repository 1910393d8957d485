-- The refusals of a text: their codes, their words, and their line.
use Rattle.std.specs.Prelude.{ℕ, ◌==◌, Option, unwrap_or, List, [], ◌∷◌, ◌++◌, codes}
use Rattle.std.specs.Map.{lookup}
use Rattle.std.specs.Fmt.{decimal}
use Rattle.pfc_base.specs.declared.faults.Refusal.{Refusal}

-- each code with its words: 101 to 106 by the scanner, 201 and 202 by the parser, from 301 on by the static
-- rules, from 401 on by the rules of concurrency, and 501 by the limit of instructions
abbrev pub refusal_table : List (ℕ × List ℕ)
refusal_table =
    (101, codes "bad byte")
    ∷ (102, codes "open comment")
    ∷ (103, codes "open literal")
    ∷ (104, codes "number too large")
    ∷ (105, codes "real number")
    ∷ (106, codes "name too long")
    ∷ (201, codes "syntax")
    ∷ (202, codes "nested too deeply")
    ∷ (301, codes "unknown name")
    ∷ (302, codes "repeated name")
    ∷ (303, codes "bad bounds")
    ∷ (304, codes "too many cells")
    ∷ (310, codes "wrong kind of name")
    ∷ (311, codes "wrong operand")
    ∷ (312, codes "types differ")
    ∷ (313, codes "condition expected")
    ∷ (314, codes "bad index")
    ∷ (315, codes "no such field")
    ∷ (316, codes "wrong number of arguments")
    ∷ (317, codes "wrong argument")
    ∷ (318, codes "variable expected")
    ∷ (319, codes "wrong label")
    ∷ (320, codes "repeated label")
    ∷ (321, codes "bad for")
    ∷ (322, codes "bad sign")
    ∷ (323, codes "bad result type")
    ∷ (324, codes "bad width")
    ∷ (325, codes "string not allowed")
    ∷ (326, codes "cannot be read or written")
    ∷ (327, codes "not in its body")
    ∷ (401, codes "cobegin not allowed")
    ∷ (402, codes "activation outside cobegin")
    ∷ (403, codes "initial outside main")
    ∷ (404, codes "not in the program's variables")
    ∷ (405, codes "condition outside a monitor")
    ∷ (406, codes "object used as a value")
    ∷ (407, codes "parameter not allowed")
    ∷ (408, codes "not in its monitor")
    ∷ (409, codes "bad export")
    ∷ (410, codes "not exported")
    ∷ (411, codes "synchronous not allowed")
    ∷ (412, codes "any not allowed")
    ∷ (413, codes "no such entry")
    ∷ (414, codes "accept not allowed")
    ∷ (415, codes "accept differs from entry")
    ∷ (416, codes "nothing to select")
    ∷ (417, codes "too many ways out")
    ∷ (418, codes "requeue not allowed")
    ∷ (419, codes "bad requeue")
    ∷ (420, codes "bad guard")
    ∷ (421, codes "terminate not allowed")
    ∷ (422, codes "not a process")
    ∷ (423, codes "guarded procedure called")
    ∷ (424, codes "too many processes")
    ∷ (425, codes "too many alternatives")
    ∷ (501, codes "program too large")
    ∷ []

-- the words of a code, where there is such a code
abbrev pub words_of_code : ℕ → Option (List ℕ)
words_of_code code = lookup (λ known. code == known) refusal_table

-- the line of a refused text: the code, the place of the broken rule, and the words
abbrev pub refusal_line_text : Refusal → List ℕ
refusal_line_text refusal =
    codes "-- refused " ++ decimal refusal.code ++ codes " at line " ++ decimal refusal.place.line
    ++ codes ", column " ++ decimal refusal.place.column ++ codes ": " ++ unwrap_or (words_of_code refusal.code) [] ++ 10 ∷ []

-- the lines of refused words of the command line
abbrev pub words_refused_text : List ℕ
words_refused_text = codes "-- words refused" ++ 10 ∷ []
    ++ codes "usage: pfc [FILE] [--seed N] [--unfair] [--limit N] [--input FILE] [--script FILE] [--list] [--code] [--make N]" ++ 10 ∷ []
