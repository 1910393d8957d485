-- The readers of parts and programs look no further than at the symbol on which they end.
use Rattle.std.proofs.Common.{◌≡◌, ℕ, zero, suc, ◌≤◌, List, length, Ok, ap, subst, ◌∙◌, ◌+◌, length-append, arith}
use Rattle.pfc_tree.specs.Symbols.{Symbol}
use Rattle.pfc_grammar.proofs.Local.{Local, local_stop, local_stop_deep, local_bind, local_choose, local_take, local_finish}
use Rattle.pfc_grammar.proofs.LocalLoops.{local_while}
use Rattle.pfc_grammar.specs.Reading.{Reader}
use Rattle.pfc_base.specs.declared.word.TheConstants.{PROGRAM}
use Rattle.pfc_tree.specs.shapes.Exprs.{ExprShape}
use Rattle.pfc_tree.specs.shapes.Types.{TypeShape}
use Rattle.pfc_tree.specs.shapes.Stmts.{StmtShape}
use Rattle.pfc_tree.specs.shapes.Parts.{PartShape}
use Rattle.pfc_tree.specs.tokens.Parts.{part_tokens}
use Rattle.pfc_tree.specs.lawful.Parts.{Home, IsLawfulPart}
use Rattle.pfc_grammar.specs.Heads.{as_word, is_word, begins_block, begins_part}
use Rattle.pfc_grammar.specs.grammar.Exprs.{expr_at}
use Rattle.pfc_grammar.specs.grammar.Types.{type_at, type_items, var_items}
use Rattle.pfc_grammar.specs.grammar.Stmts.{body_with, stmt_at}
use Rattle.pfc_grammar.specs.grammar.Parts.{SubHead, procedure_head, function_head, guarded_head, sub_behind, export_behind, ending, module_behind}
use Rattle.pfc_grammar.specs.grammar.Parts.{entry_behind, type_word, process_behind, block_with, part_with, parts_at, params, program_behind, program_at}
use Rattle.pfc_grammar.specs.grammar.Parts.{whole_at}
use Rattle.pfc_grammar.proofs.Lists.{apart_none}
use Rattle.pfc_grammar.proofs.Sound.{When, Took, Halts, here}
use Rattle.pfc_grammar.proofs.sound_rules.Exprs.{free}
use Rattle.pfc_grammar.proofs.sound_rules.Parts.{part_some, block_at, part_reader, sound_part_at}
use Rattle.pfc_grammar.proofs.local_rules.Exprs.{localities, local_expr_at}
use Rattle.pfc_grammar.proofs.local_rules.Types.{local_names, local_formals, local_const_items, local_type_items, local_var_items, local_type_at}
use Rattle.pfc_grammar.proofs.local_rules.Stmts.{local_body, local_stmt_at}

local_procedure_head : Local procedure_head
unfolding procedure_head
local_procedure_head = search (localities, local_formals) depth 12

local_function_head : Local function_head
unfolding function_head
local_function_head = search (localities, local_formals) depth 14

local_export : Local export_behind
unfolding export_behind
local_export = search (localities, local_names) depth 12

local_entry : Local entry_behind
unfolding entry_behind
local_entry = search (localities, local_formals) depth 12

local_type_word : Local type_word
unfolding type_word
local_type_word = search localities depth 12

local_params : Local params
unfolding params
local_params = search (localities, local_names) depth 12

module _ (p : Home → Reader (List PartShape)) (hp : (h : Home) → Local (p h)) (e : Reader ExprShape) (he : Local e) (s : Reader StmtShape) (hs : Local s) where
  local_guarded_head : Local (guarded_head e)
  unfolding guarded_head
  local_guarded_head = search (localities, local_formals) depth 16

  local_sub : (head : Reader SubHead) → Local head → Local (sub_behind p s head)
  unfolding sub_behind
  local_sub head hh = let c : Local (body_with s) = local_body e he s hs in search localities depth 12

  local_ending : Local (ending s)
  unfolding ending
  local_ending = let c : Local (body_with s) = local_body e he s hs in search localities depth 12

  local_module : (own : Home) → Local (module_behind p s own)
  unfolding module_behind
  local_module own = search (localities, local_export, local_ending) depth 16

  local_process : Local (process_behind p s)
  unfolding process_behind
  local_process = let c : Local (body_with s) = local_body e he s hs in search (localities, local_type_word, local_formals, local_entry) depth 18

  local_block_with : (h : Home) → Local (block_with p e s h)
  unfolding block_with
  local_block_with h = search (localities, local_sub, local_procedure_head, local_function_head, local_guarded_head, local_module, local_process) depth 16

  local_program_behind : Local (program_behind p s)
  unfolding program_behind
  local_program_behind = let c : Local (body_with s) = local_body e he s hs in search (localities, local_params) depth 16

local_part_with : (t : Reader TypeShape) → Local t → (b : Reader PartShape) → Local b → Local (part_with t b)
unfolding part_with
local_part_with t ht b hb = let i : Local (type_items t) = local_type_items t ht in let v : Local (var_items t) =
    local_var_items t ht in search (localities, local_const_items) depth 14

-- Whatever the number of levels.
-- a part that is read takes a symbol
part_takes : (n : ℕ) (h : Home) (ss : List Symbol) (x : PartShape) (rest : List Symbol) → part_reader n h ss ≡ Ok (x, rest) → suc (length rest) ≤ length ss
part_takes n h ss x rest e = at (subst (λ z. When z (Took part_tokens (IsLawfulPart h) free here ss) (Halts part_tokens (IsLawfulPart h) here ss)) e
    ((sound_part_at n h).reads ss (apart_none ss)))
  where
    at : Took part_tokens (IsLawfulPart h) free here ss x rest → suc (length rest) ≤ length ss
    at w = let one : 1 ≤ length w.read = subst (λ z. 1 ≤ length z) w.writes (part_some h x w.lawful) in
        let count : length ss ≡ length w.read + length rest = ap length w.splits ∙ length-append w.read rest in
        omega arith

pub local_parts_at : (n : ℕ) (h : Home) → Local (parts_at n h)
unfolding parts_at
local_parts_at zero h = local_while (begins_part h) (part_reader zero h) (local_part_with (type_at zero) (local_type_at zero) (block_at zero h)
    (local_choose (begins_block h) local_stop_deep local_stop)) (part_takes zero h)
local_parts_at (suc n) h = local_while (begins_part h) (part_reader (suc n) h) (local_part_with (type_at (suc n)) (local_type_at (suc n)) (block_at (suc n) h)
    (local_block_with (parts_at n) (local_parts_at n) (expr_at n) (local_expr_at n) (stmt_at n) (local_stmt_at n) h)) (part_takes (suc n) h)

pub local_program_at : (n : ℕ) → Local (program_at n)
unfolding program_at
local_program_at zero = local_choose (is_word PROGRAM) local_stop_deep local_stop
local_program_at (suc n) = local_bind (local_take (as_word PROGRAM)) (λ t. local_program_behind (parts_at n) (local_parts_at n) (expr_at n)
    (local_expr_at n) (stmt_at n) (local_stmt_at n))

pub local_whole_at : (n : ℕ) → Local (whole_at n)
unfolding whole_at
local_whole_at n = local_bind (local_program_at n) local_finish
