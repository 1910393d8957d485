-- What holds of single instructions and is handed on where code stands behind code, holds of the code of all phrases: by induction over them.
use Rattle.std.proofs.Common.{◌≡◌, ℕ, ◌+◌, ◌≤◌, suc, pos, Bool, true, false, List, [], ◌∷◌, ◌++◌, length, map, Option, Some, None, cond, if◌then◌else◌, refl}
use Rattle.std.proofs.Common.{arith}
use Rattle.pfc_tree.specs.Symbols.{Text}
use Rattle.pfc_base.specs.declared.places.Place.{Place}
use Rattle.pfc_tree.specs.declared.tree.Constant.{Constant}
use Rattle.pfc_tree.specs.declared.tree.Spread.{Spread}
use Rattle.pfc_tree.specs.declared.tree.Sign.{Sign}
use Rattle.pfc_tree.specs.declared.tree.Sign.TheVariants.{Plus, Minus}
use Rattle.pfc_tree.specs.declared.tree.Relation.{Relation}
use Rattle.pfc_tree.specs.declared.tree.Relation.TheVariants.{Eq, Ne, Lt, Le, Gt, Ge}
use Rattle.pfc_tree.specs.declared.tree.AddOp.{AddOp}
use Rattle.pfc_tree.specs.declared.tree.AddOp.TheVariants.{Add, Sub as Minused, Or}
use Rattle.pfc_tree.specs.declared.tree.MulOp.{MulOp}
use Rattle.pfc_tree.specs.declared.tree.MulOp.TheVariants.{Mul, Div, Mod, And}
use Rattle.pfc_tree.specs.trees.Exprs.{ExprTree, SimpleTree, SummandTrees, TermTree, MultiplierTrees, FactorTree, DesigTree, SelectorTrees, ExprTrees}
use Rattle.pfc_tree.specs.trees.Exprs.{ActualTree, ActualTrees, plain, related, sum, no_summands, more_summands, product, no_multipliers, more_multipliers}
use Rattle.pfc_tree.specs.trees.Exprs.{number, literal, negation, paren, applied, desig, index, field, no_selectors, more_selectors, no_exprs, more_exprs}
use Rattle.pfc_tree.specs.trees.Exprs.{actual, actual_width, no_actuals, more_actuals}
use Rattle.pfc_tree.specs.trees.Stmts.{StmtTree, StmtTrees, ArmTrees, AcceptTree, AltTree, AltTrees, CommTree, empty, null, block, if_then, if_then_else}
use Rattle.pfc_tree.specs.trees.Stmts.{case_of, while_do, repeat_until, repeat_forever, for_do, cobegin, accepting, requeue, select, select_else, assign, send}
use Rattle.pfc_tree.specs.trees.Stmts.{receive, call, no_stmts, more_stmts, body, arm, no_arms, more_arms, accept, accept_do, alt, no_alts, more_alts}
use Rattle.pfc_tree.specs.trees.Stmts.{comm_accept, comm_send, comm_receive, timeout, terminate}
use Rattle.pfc_types.specs.declared.types.TypeId.{TypeId}
use Rattle.pfc_types.specs.declared.types.TypeForm.{TypeForm}
use Rattle.pfc_types.specs.declared.types.TypeForm.TheVariants.{Channel, Array, Record, Process as ProcessForm}
use Rattle.pfc_types.specs.declared.scope.Meaning.{Meaning}
use Rattle.pfc_types.specs.declared.scope.Meaning.TheVariants.{Constant as AConstant, Named, Variable, Sub, Module, Process, Entry, Predeclared, Faulty}
use Rattle.pfc_types.specs.declared.heads.Formal.{Formal}
use Rattle.pfc_types.specs.declared.heads.SubHead.{SubHead}
use Rattle.pfc_types.specs.declared.view.Found.{Found}
use Rattle.pfc_types.specs.Types.{Forms}
use Rattle.pfc_types.specs.Scopes.{meaning_of, meaning_in, scope_at}
use Rattle.pfc_types.specs.Blocks.{sub_at, module_at, process_at, entry_at}
use Rattle.pfc_types.specs.rules.Calls.{last_field, before_last}
use Rattle.pfc_types.specs.rules.Constants.{constant_value}
use Rattle.pfc_types.specs.rules.Expressions.{find, first_type, field_type, selected, as_desig, expr_type, desig_type}
use Rattle.pfc_types.specs.rules.Statements.{scopes_in, arm_scopes, comm_scopes, alt_scopes, alts_scopes}
use Rattle.pfc_values.specs.declared.simple.Simple.{Simple}
use Rattle.pfc_values.specs.declared.simple.Simple.TheVariants.{Integer, Boolean, Char}
use Rattle.pfc_semantics.specs.Operators.{simple_of}
use Rattle.pfc_semantics.specs.Displays.{Spot}
use Rattle.pfc_semantics.specs.Objects.{module_number}
use Rattle.pfc_semantics.specs.Programs.{Program, Block, block_number}
use Rattle.pfc_semantics.specs.Predeclared.{Function, Procedure, abs, sqr, odd, ord, chr, succ, pred, eof, eoln, empty as emptied, clock, random, no_function}
use Rattle.pfc_semantics.specs.Predeclared.{function_of, reader, writer, initial, wait, signal, delay, resume, sleep, no_procedure, procedure_of}
use Rattle.pfc_semantics.specs.Expressions.{spot_of, char_in, form_in}
use Rattle.pfc_semantics.specs.Statements.{as_string, item_of, expr_of, behind_first, name_in_process, process_of_type}
use Rattle.pfc_semantics.specs.Remainders.{Replica, Alternative}
use Rattle.pfc_semantics.specs.Alternatives.{message_of, receiver_of, replicas, alternative, spread_out, alternatives}
use Rattle.pfc_code.specs.declared.instructions.Instr.{Instr}
use Rattle.pfc_code.specs.declared.instructions.Instr.TheVariants.{LIT, FLD, LOAD, STORE, OBJ, NEG, ABS, SQR, ODD, CHR, SUCC, PRED, NOT, JMP, JF, TURN, FORB}
use Rattle.pfc_code.specs.declared.instructions.Instr.TheVariants.{FORW, FORT, CEQ, CERR, COEND, SINI, SWAIT, SSIG, SEND, RECV, ECALL, ACC, EACC, ARMS, ARMR}
use Rattle.pfc_code.specs.declared.instructions.Instr.TheVariants.{ARMA, ARMT, ARMX, SEL, DELAY, RESUME, EMPTY, SLEEP, CLOCK, RAND, WRNL, RDNL, EOF, EOLN, REQ}
use Rattle.pfc_code.specs.declared.instructions.Instr.TheVariants.{NEW}
use Rattle.pfc_translation.specs.Sites.{Site, at_line, in_accept, context_of, forms_of, blocks_of, type_cells}
use Rattle.pfc_translation.specs.Codes.{Code, nothing, ◌⨾◌, one, over, back, string, unseen, with_arms}
use Rattle.pfc_translation.specs.Addresses.{base_code, type_behind, element_in, index_instr, field_cell}
use Rattle.pfc_translation.specs.Expressions.{expr_code, simple_code, summands_code, term_code, multipliers_code, factor_code, sign_code, first_value}
use Rattle.pfc_translation.specs.Expressions.{first_address, actual_code, lent_code, variable_code, args_code, selectors_code, indices_code, name_code}
use Rattle.pfc_translation.specs.Expressions.{function_code, relation_instr, add_instr, multiply_instr, simple_number, call_instr, address_code, desig_code}
use Rattle.pfc_translation.specs.Expressions.{object_code}
use Rattle.pfc_translation.specs.Calls.{write_instr, plain_item, wide_item, item_code, writes_code, read_instr, input_code, reads_code, given_code, rank_code}
use Rattle.pfc_translation.specs.Calls.{first_object, procedure_code, sub_code, enter_instr, exported_code, module_code, resource_of, requeue_code}
use Rattle.pfc_translation.specs.Calls.{activation_code, formals_cells, entry_code, process_code, field_code, called_variable, called_process, called_code}
use Rattle.pfc_translation.specs.Calls.{found_code, call_code}
use Rattle.pfc_translation.specs.Selects.{message_code, message_cells, receiver_code, receiver_cells, send_code, receive_code, entry_of, accept_cell}
use Rattle.pfc_translation.specs.Selects.{accept_cells, accept_code, replica_code, comm_code, guarded_code, alternative_code, alternatives_code}
use Rattle.pfc_translation.specs.Statements.{assign_code, label_of, labels_code, label_count, spread_replicas, chosen_code, replica_branches, branches_from}
use Rattle.pfc_translation.specs.Statements.{sel_code, select_code, stmt_code, stmts_code, tests_code, arms_code, accepted_code, met_code, branch_code}
use Rattle.pfc_translation.specs.Statements.{branches_code, distances}
use Rattle.pfc_image_laws.specs.Operands.{address_ahead, address_back, is_end, block_in, text_in, links_in, open_behind}

-- an instruction that names nothing and ends nothing
abbrev pub IsNameless : Instr → Type 0
IsNameless i =
    (address_ahead i ≡ None) × (address_back i ≡ None) × (is_end i ≡ false) × (block_in i ≡ None) × (text_in i ≡ None) × (links_in i ≡ None)

-- nor makes or takes alternatives
abbrev pub IsAlone : Instr → Type 0
IsAlone i = IsNameless i × ((n : ℕ) → open_behind i n ≡ n)

-- one that names an address ahead, and nothing else; no address ahead is 0
abbrev pub LeadsAhead : (ℕ → Instr) → Type 0
LeadsAhead f =
    ((a : ℕ) → address_ahead (f (suc a)) ≡ Some (suc a))
    × ((a : ℕ) → (address_back (f a) ≡ None) × (is_end (f a) ≡ false) × (block_in (f a) ≡ None) × (text_in (f a) ≡ None) × (links_in (f a) ≡ None))

abbrev pub LeadsOn : (ℕ → Instr) → Type 0
LeadsOn f = LeadsAhead f × ((a n : ℕ) → open_behind (f a) n ≡ n)

-- one that names an address to which a loop turns back
abbrev pub TurnsBack : Instr → ℕ → Type 0
TurnsBack i a =
    (address_back i ≡ Some a) × (address_ahead i ≡ None) × (is_end i ≡ false) × (block_in i ≡ None) × (text_in i ≡ None) × (links_in i ≡ None)

abbrev pub LeadsBack : (ℕ → Instr) → Type 0
LeadsBack f = (a : ℕ) → TurnsBack (f a) a × ((n : ℕ) → open_behind (f a) n ≡ n)

-- ## Sizes

-- the alternative leads to its branch, but for `terminate`, which has none
abbrev pub Reaches : CommTree → ℕ → ℕ → Type 0
Reaches (comm_accept a p) d total = d ≤ total
Reaches (comm_send e v p) d total = d ≤ total
Reaches (comm_receive e v p) d total = d ≤ total
Reaches (timeout e p) d total = d ≤ total
Reaches (terminate p) d total = Unit {0}

reaches_then : (c : CommTree) (d total branch k : ℕ) → Reaches c d total → (d ≤ total → branch ≤ k) → Reaches c branch k
reaches_then (comm_accept a p) d total branch k h f = f h
reaches_then (comm_send e v p) d total branch k h f = f h
reaches_then (comm_receive e v p) d total branch k h f = f h
reaches_then (timeout e p) d total branch k h f = f h
reaches_then (terminate p) d total branch k h f = tt

zero_reaches : (c : CommTree) → Reaches c 0 0
zero_reaches (comm_accept a p) = omega arith
zero_reaches (comm_send e v p) = omega arith
zero_reaches (comm_receive e v p) = omega arith
zero_reaches (timeout e p) = omega arith
zero_reaches (terminate p) = tt

-- each alternative has its branch's distance from the first branch, at most their size
abbrev pub Reached : ℕ → List Alternative → List ℕ → Type 0
Reached total [] ds = Unit {0}
Reached total (a ∷ alts) [] = Unit {0}
Reached total (a ∷ alts) (d ∷ ds) = Reaches a.comm d total × Reached total alts ds

none_reached : (total : ℕ) (alts : List Alternative) → Reached total alts []
none_reached total [] = tt
none_reached total (a ∷ alts) = tt

replicas_reached :
    (s : Site) (n : ℕ) (guard : Option ExprTree) (c : CommTree) (ss : StmtTrees) (rs : List Replica) (from total : ℕ) (alts : List Alternative) (ds : List ℕ)
    → ((d : ℕ) → d ≤ from + (chosen_code s rs).size → Reaches c d total) → Reached total alts ds
    → Reached total (map (λ r. alternative n guard c ss (Some r)) rs ++ alts) (replica_branches from rs ++ ds)
replicas_reached s n guard c ss [] from total alts ds h rest = rest
replicas_reached s n guard c ss (r ∷ rs) from total alts ds h rest = (
  h from (omega arith),
  replicas_reached s n guard c ss rs (from + 4) total alts ds
      (λ d q. h d (let same : from + (chosen_code s (r ∷ rs)).size ≡ from + (3 + (1 + (chosen_code s rs).size)) = refl in omega (arith, q, same))) rest,
)

spread_reached :
    (s : Site) (n : ℕ) (spread : Option Spread) (guard : Option ExprTree) (c : CommTree) (ss : StmtTrees) (from total : ℕ) (alts : List Alternative)
    (ds : List ℕ)
    → ((d : ℕ) → d ≤ from + (chosen_code s (spread_replicas s spread)).size → Reaches c d total) → Reached total alts ds
    → Reached total (spread_out (context_of s) n spread guard c ss ++ alts) (branches_from s from spread ++ ds)
spread_reached s n None guard c ss from total alts ds h rest = (h from (omega arith), rest)
spread_reached s n (Some spread) guard c ss from total alts ds h rest =
    replicas_reached s n guard c ss (replicas (context_of s) spread) from total alts ds h rest

-- a branch is as long wherever it leads, and no shorter than the choice among its values
branch_reached :
    (s : Site) (n : ℕ) (spread : Option Spread) (guard : Option ExprTree) (c : CommTree) (ss : StmtTrees) (between from total d : ℕ)
    → from + (branch_code s n (alt spread guard c ss) between).size ≤ total → d ≤ from + (chosen_code s (spread_replicas s spread)).size → Reaches c d total
branch_reached s n spread guard (comm_accept a p) ss between from total d h q =
    let h' : from + ((chosen_code s (spread_replicas s spread)).size +
    ((met_code s n (comm_accept a p)).size + ((stmts_code s (n + comm_scopes (comm_accept a p)) ss).size + 1))) ≤ total = h in
    omega (arith, h', q)
branch_reached s n spread guard (comm_send e v p) ss between from total d h q =
    let h' : from + ((chosen_code s (spread_replicas s spread)).size + (0 + ((stmts_code s (n + comm_scopes (comm_send e v p)) ss).size + 1))) ≤ total = h in
    omega (arith, h', q)
branch_reached s n spread guard (comm_receive e v p) ss between from total d h q =
    let h' : from + ((chosen_code s (spread_replicas s spread)).size + (0 + ((stmts_code s (n + comm_scopes (comm_receive e v p)) ss).size + 1))) ≤ total = h in
    omega (arith, h', q)
branch_reached s n spread guard (timeout e p) ss between from total d h q =
    let h' : from + ((chosen_code s (spread_replicas s spread)).size + (0 + ((stmts_code s (n + comm_scopes (timeout e p)) ss).size + 1))) ≤ total = h in
    omega (arith, h', q)
branch_reached s n spread guard (terminate p) ss between from total d h q = tt

branch_size : (s : Site) (n : ℕ) (a : AltTree) (between : ℕ) → (branch_code s n a between).size ≡ (branch_code s n a 0).size
branch_size s n (alt spread guard (comm_accept a p) ss) between = refl
branch_size s n (alt spread guard (comm_send e v p) ss) between = refl
branch_size s n (alt spread guard (comm_receive e v p) ss) between = refl
branch_size s n (alt spread guard (timeout e p) ss) between = refl
branch_size s n (alt spread guard (terminate p) ss) between = refl

branches_reached :
    (s : Site) (n from else_size total : ℕ) (alts : AltTrees) → from + (branches_code s n alts else_size).size ≤ total
    → Reached total (alternatives (context_of s) n alts) (distances s n from alts)
branches_reached s n from else_size total no_alts h = tt
branches_reached s n from else_size total (more_alts (alt spread guard c ss) alts) h =
    let a = alt spread guard c ss in
    let rest = branches_code s (n + alt_scopes a) alts else_size in
    let h' : from + ((branch_code s n a (rest.size + else_size)).size + rest.size) ≤ total = h in
    let same : (branch_code s n a (rest.size + else_size)).size ≡ (branch_code s n a 0).size = branch_size s n a (rest.size + else_size) in
    spread_reached s n spread guard c ss from total (alternatives (context_of s) (n + alt_scopes a) alts)
    (distances s (n + alt_scopes a) (from + (branch_code s n a 0).size) alts)
    (λ d q. branch_reached s n spread guard c ss 0 from total d (omega (arith, h', same)) q)
    (branches_reached s (n + alt_scopes a) (from + (branch_code s n a 0).size) else_size total alts (omega (arith, h', same)))

labels_size : (s : Site) (between : ℕ) (ls : List Constant) → (labels_code s between ls).size ≡ length ls
labels_size s between [] = refl
labels_size s between (l ∷ ls) = let rest = labels_size s between ls in omega (arith, rest)

tests_size : (s : Site) (n from : ℕ) (arms : ArmTrees) → (tests_code s n from arms).size ≡ label_count arms
tests_size s n from no_arms = refl
tests_size s n from (more_arms (arm ls t) arms) =
    let first = labels_size s (label_count arms + 1 + from) ls in
    let rest = tests_size s (n + arm_scopes (arm ls t)) (from + (stmt_code s n t).size + 1) arms in
    omega (arith, first, rest)

-- an else part, where there is one, begins at most so far behind the decision
abbrev pub ElseWithin : Option ℕ → ℕ → Type 0
ElseWithin None total = Unit {0}
ElseWithin (Some count) total = count ≤ total

else_then : (x : Option ℕ) (total k : ℕ) → ElseWithin x total → total ≤ k → ElseWithin x k
else_then None total k h within = tt
else_then (Some count) total k h within = omega (arith, h, within)

sel_size : (s : Site) (pri : Bool) (x : Option ℕ) → (sel_code s pri x).size ≡ 1
sel_size s pri None = refl
sel_size s pri (Some count) = refl

-- `P g b m k c` speaks of code c of the block b, with at least m instructions of the same phrase before it and k behind it.
module _
    (P : Program → Block → ℕ → ℕ → Code → Type 0)
    (none : (g : Program) (b : Block) (m k : ℕ) → P g b m k nothing)
    (joined : (g : Program) (b : Block) (m k : ℕ) (c d : Code) → P g b m (d.size + k) c → P g b (m + c.size) k d → P g b m k (c ⨾ d))
    (lone : (s : Site) (m k : ℕ) (i : Instr) → IsAlone i → P s.program s.block m k (one s i))
    (reaching : (s : Site) (m k : ℕ) (v : Spot) → P s.program s.block m k (base_code s v))
    (calling : (s : Site) (m k : ℕ) (head : SubHead) → P s.program s.block m k (one s (call_instr s head)))
    (entering :
    (s : Site) (m k n i : ℕ)
    → P s.program s.block m k (one s (enter_instr (module_at (blocks_of s) n).resource (module_number (blocks_of s) n) (block_number s.program i))))
    (requeueing : (s : Site) (m k i : ℕ) → P s.program s.block m k (one s (REQ (resource_of s) (block_number s.program i))))
    (creating : (s : Site) (m k i : ℕ) → P s.program s.block m k (one s (NEW (block_number s.program i))))
    (writing : (s : Site) (m k : ℕ) (x : Text) (w : ℕ) → P s.program s.block m k (string s x w))
    (leading : (s : Site) (m k : ℕ) (f : ℕ → Instr) (count : ℕ) → LeadsOn f → count ≤ k → P s.program s.block m k (over s f count))
    (turning : (s : Site) (m k : ℕ) (f : ℕ → Instr) (count : ℕ) → LeadsBack f → count ≤ m → P s.program s.block m k (back s f count))
    (unseen_code : (g : Program) (b : Block) (m k : ℕ) (c : Code) → P g b 0 0 c → P g b m k (unseen c))
  where
    -- whatever stands before and behind it
    abbrev Free : Site → Code → Type 0
    Free s c = (m k : ℕ) → P s.program s.block m k c

    both : (s : Site) (c d : Code) → Free s c → Free s d → Free s (c ⨾ d)
    both s c d p q m k = joined s.program s.block m k c d (p m (d.size + k)) (q (m + c.size) k)

    alone : (s : Site) (i : Instr) → IsAlone i → Free s (one s i)
    alone s i h m k = lone s m k i h

    no_code : (s : Site) → Free s nothing
    no_code s m k = none s.program s.block m k

    either : (s : Site) (r : Bool) (c d : Code) → Free s c → Free s d → Free s (cond r c d)
    either s true c d p q = p
    either s false c d p q = q

    -- ## Expressions

    relation : (r : Relation) → IsAlone (relation_instr r)
    relation Eq = ((refl, refl, refl, refl, refl, refl), λ n. refl)
    relation Ne = ((refl, refl, refl, refl, refl, refl), λ n. refl)
    relation Lt = ((refl, refl, refl, refl, refl, refl), λ n. refl)
    relation Le = ((refl, refl, refl, refl, refl, refl), λ n. refl)
    relation Gt = ((refl, refl, refl, refl, refl, refl), λ n. refl)
    relation Ge = ((refl, refl, refl, refl, refl, refl), λ n. refl)

    added : (r : AddOp) → IsAlone (add_instr r)
    added Add = ((refl, refl, refl, refl, refl, refl), λ n. refl)
    added Minused = ((refl, refl, refl, refl, refl, refl), λ n. refl)
    added Or = ((refl, refl, refl, refl, refl, refl), λ n. refl)

    multiplied : (r : MulOp) → IsAlone (multiply_instr r)
    multiplied Mul = ((refl, refl, refl, refl, refl, refl), λ n. refl)
    multiplied Div = ((refl, refl, refl, refl, refl, refl), λ n. refl)
    multiplied Mod = ((refl, refl, refl, refl, refl, refl), λ n. refl)
    multiplied And = ((refl, refl, refl, refl, refl, refl), λ n. refl)

    indexed : (forms : Forms) (t : Option TypeForm) → IsAlone (index_instr forms t)
    indexed forms None = ((refl, refl, refl, refl, refl, refl), λ n. refl)
    indexed forms (Some (Channel t)) = ((refl, refl, refl, refl, refl, refl), λ n. refl)
    indexed forms (Some (Array over low high element)) = ((refl, refl, refl, refl, refl, refl), λ n. refl)
    indexed forms (Some (Record fields)) = ((refl, refl, refl, refl, refl, refl), λ n. refl)
    indexed forms (Some (ProcessForm n)) = ((refl, refl, refl, refl, refl, refl), λ n. refl)

    signed : (s : Site) (sign : Option (Sign × Place)) → Free s (sign_code s sign)
    signed s None = no_code s
    signed s (Some (Plus, p)) = no_code s
    signed s (Some (Minus, p)) = alone s NEG ((refl, refl, refl, refl, refl, refl), λ n. refl)

    a_function :
        (s : Site) (f : Function) (t : Option TypeId) (value address : Code) → Free s value → Free s address
        → Free s (function_code s f t value address)
    a_function s abs t value address v a = both s value (one s ABS) v (alone s ABS ((refl, refl, refl, refl, refl, refl), λ n. refl))
    a_function s sqr t value address v a = both s value (one s SQR) v (alone s SQR ((refl, refl, refl, refl, refl, refl), λ n. refl))
    a_function s odd t value address v a = both s value (one s ODD) v (alone s ODD ((refl, refl, refl, refl, refl, refl), λ n. refl))
    a_function s ord t value address v a = v
    a_function s chr t value address v a = both s value (one s CHR) v (alone s CHR ((refl, refl, refl, refl, refl, refl), λ n. refl))
    a_function s succ t value address v a =
        both s value (one s (SUCC (simple_number (simple_of t)))) v
        (alone s (SUCC (simple_number (simple_of t))) ((refl, refl, refl, refl, refl, refl), λ n. refl))
    a_function s pred t value address v a =
        both s value (one s (PRED (simple_number (simple_of t)))) v
        (alone s (PRED (simple_number (simple_of t))) ((refl, refl, refl, refl, refl, refl), λ n. refl))
    a_function s eof t value address v a = alone s EOF ((refl, refl, refl, refl, refl, refl), λ n. refl)
    a_function s eoln t value address v a = alone s EOLN ((refl, refl, refl, refl, refl, refl), λ n. refl)
    a_function s emptied t value address v a =
        both s address (one s OBJ ⨾ one s EMPTY) a
        (both s (one s OBJ) (one s EMPTY) (alone s OBJ ((refl, refl, refl, refl, refl, refl), λ n. refl))
        (alone s EMPTY ((refl, refl, refl, refl, refl, refl), λ n. refl)))
    a_function s clock t value address v a = alone s CLOCK ((refl, refl, refl, refl, refl, refl), λ n. refl)
    a_function s random t value address v a = both s value (one s RAND) v (alone s RAND ((refl, refl, refl, refl, refl, refl), λ n. refl))
    a_function s no_function t value address v a = no_code s

    a_sub_call : (s : Site) (k : ℕ) (c : Code) → Free s c → Free s (c ⨾ one s (call_instr s (sub_at (blocks_of s) k)))
    a_sub_call s k c p =
        both s c (one s (call_instr s (sub_at (blocks_of s) k))) p (λ m j. calling s m j (sub_at (blocks_of s) k))

    a_name :
        (s : Site) (x : Option Meaning) (ss : SelectorTrees) (address : Code) (args : List Formal → Code) (predeclared : Function → Code)
        → Free s address → ((formals : List Formal) → Free s (args formals)) → ((f : Function) → Free s (predeclared f))
        → Free s (name_code s x ss address args predeclared)
    a_name s None ss address args predeclared a g p = no_code s
    a_name s (Some (AConstant t v)) ss address args predeclared a g p = alone s (LIT v) ((refl, refl, refl, refl, refl, refl), λ n. refl)
    a_name s (Some (Named t)) ss address args predeclared a g p = no_code s
    a_name s (Some (Variable t reference)) ss address args predeclared a g p =
        let z = type_cells (forms_of s) (selected s.env (Some t) ss) in
        both s address (one s (LOAD z)) a (alone s (LOAD z) ((refl, refl, refl, refl, refl, refl), λ n. refl))
    a_name s (Some (Sub k)) ss address args predeclared a g p =
        a_sub_call s k (args (sub_at (blocks_of s) k).formals) (g (sub_at (blocks_of s) k).formals)
    a_name s (Some (Module k)) ss address args predeclared a g p = no_code s
    a_name s (Some (Process k)) ss address args predeclared a g p = no_code s
    a_name s (Some (Entry k)) ss address args predeclared a g p = no_code s
    a_name s (Some (Predeclared k)) ss address args predeclared a g p = p (function_of k)
    a_name s (Some Faulty) ss address args predeclared a g p = no_code s

    pub a_base : (s : Site) (v : Spot) → Free s (base_code s v)
    a_base s v m k = reaching s m k v

    mutual
      pub expr : (s : Site) (e : ExprTree) → Free s (expr_code s e)
      expr s (plain a p) = simple s a
      expr s (related a r b p) =
          both s (simple_code s a) (simple_code s b ⨾ one s (relation_instr r.0)) (simple s a)
          (both s (simple_code s b) (one s (relation_instr r.0)) (simple s b) (alone s (relation_instr r.0) (relation r.0)))

      simple : (s : Site) (e : SimpleTree) → Free s (simple_code s e)
      simple s (sum sign first rest) =
          both s (term_code s first) (sign_code s sign ⨾ summands_code s rest) (term s first)
          (both s (sign_code s sign) (summands_code s rest) (signed s sign) (summands s rest))

      summands : (s : Site) (e : SummandTrees) → Free s (summands_code s e)
      summands s no_summands = no_code s
      summands s (more_summands op t rest) =
          both s (term_code s t) (one s (add_instr op.0) ⨾ summands_code s rest) (term s t)
          (both s (one s (add_instr op.0)) (summands_code s rest) (alone s (add_instr op.0) (added op.0)) (summands s rest))

      term : (s : Site) (e : TermTree) → Free s (term_code s e)
      term s (product f rest) = both s (factor_code s f) (multipliers_code s rest) (factor s f) (multipliers s rest)

      multipliers : (s : Site) (e : MultiplierTrees) → Free s (multipliers_code s e)
      multipliers s no_multipliers = no_code s
      multipliers s (more_multipliers op f rest) =
          both s (factor_code s f) (one s (multiply_instr op.0) ⨾ multipliers_code s rest) (factor s f)
          (both s (one s (multiply_instr op.0)) (multipliers_code s rest) (alone s (multiply_instr op.0) (multiplied op.0)) (multipliers s rest))

      factor : (s : Site) (e : FactorTree) → Free s (factor_code s e)
      factor s (number k p) = alone s (LIT k) ((refl, refl, refl, refl, refl, refl), λ n. refl)
      factor s (literal x p) = alone s (LIT (char_in x)) ((refl, refl, refl, refl, refl, refl), λ n. refl)
      factor s (negation f p) = both s (factor_code s f) (one s NOT) (factor s f) (alone s NOT ((refl, refl, refl, refl, refl, refl), λ n. refl))
      factor s (paren e p) = expr s e
      factor s (applied (desig x ss q) args p) =
          let found = find s.env x in
          let v = spot_of s.env found in
          a_name s (meaning_of found) ss (base_code s v.spot ⨾ selectors_code s v.t ss) (λ formals. args_code s formals args)
          (λ f. function_code s f (first_type s.env args) (first_value s args) (first_address s args))
          (both s (base_code s v.spot) (selectors_code s v.t ss) (a_base s v.spot) (selectors s v.t ss))
          (λ formals. arguments s formals args)
          (λ f. a_function s f (first_type s.env args) (first_value s args) (first_address s args) (a_value s args) (an_address s args))

      a_value : (s : Site) (args : ActualTrees) → Free s (first_value s args)
      a_value s no_actuals = no_code s
      a_value s (more_actuals a rest) = an_actual s a

      an_address : (s : Site) (args : ActualTrees) → Free s (first_address s args)
      an_address s no_actuals = no_code s
      an_address s (more_actuals a rest) = lent s a

      an_actual : (s : Site) (a : ActualTree) → Free s (actual_code s a)
      an_actual s (actual e) = expr s e
      an_actual s (actual_width e w) = expr s e

      lent : (s : Site) (a : ActualTree) → Free s (lent_code s a)
      lent s (actual e) = variable s e
      lent s (actual_width e w) = variable s e

      variable : (s : Site) (e : ExprTree) → Free s (variable_code s e)
      variable s (related a r u p) = no_code s
      variable s (plain (sum (Some sign) t us) p) = no_code s
      variable s (plain (sum None (product (number k q) ms) us) p) = no_code s
      variable s (plain (sum None (product (literal x q) ms) us) p) = no_code s
      variable s (plain (sum None (product (negation f q) ms) us) p) = no_code s
      variable s (plain (sum None (product (paren e q) ms) us) p) = no_code s
      variable s (plain (sum None (product (applied (desig x ss r) (more_actuals a args) q) ms) us) p) = no_code s
      variable s (plain (sum None (product (applied (desig x ss r) no_actuals q) (more_multipliers op f ms)) us) p) = no_code s
      variable s (plain (sum None (product (applied (desig x ss r) no_actuals q) no_multipliers) (more_summands op t us)) p) = no_code s
      variable s (plain (sum None (product (applied (desig x ss r) no_actuals q) no_multipliers) no_summands) p) =
          let v = spot_of s.env (find s.env x) in
          both s (base_code s v.spot) (selectors_code s v.t ss) (a_base s v.spot) (selectors s v.t ss)

      arguments : (s : Site) (formals : List Formal) (args : ActualTrees) → Free s (args_code s formals args)
      arguments s formals no_actuals = no_code s
      arguments s [] (more_actuals a rest) = no_code s
      arguments s (f ∷ formals) (more_actuals a rest) =
          both s (cond f.reference (lent_code s a) (actual_code s a)) (args_code s formals rest)
          (either s f.reference (lent_code s a) (actual_code s a) (lent s a) (an_actual s a)) (arguments s formals rest)

      selectors : (s : Site) (t : Option TypeId) (ss : SelectorTrees) → Free s (selectors_code s t ss)
      selectors s t no_selectors = no_code s
      selectors s t (more_selectors (index es p) ss) =
          both s (indices_code s t es) (selectors_code s (type_behind (forms_of s) t es) ss) (indices s t es)
          (selectors s (type_behind (forms_of s) t es) ss)
      selectors s t (more_selectors (field x p) ss) =
          let i = FLD (field_cell (forms_of s) (form_in (forms_of s) t) x) in
          both s (one s i) (selectors_code s (field_type (forms_of s) t x) ss) (alone s i ((refl, refl, refl, refl, refl, refl), λ n. refl))
          (selectors s (field_type (forms_of s) t x) ss)

      indices : (s : Site) (t : Option TypeId) (es : ExprTrees) → Free s (indices_code s t es)
      indices s t no_exprs = no_code s
      indices s t (more_exprs e es) =
          let i = index_instr (forms_of s) (form_in (forms_of s) t) in
          both s (expr_code s e) (one s i ⨾ indices_code s (element_in (forms_of s) t) es) (expr s e)
          (both s (one s i) (indices_code s (element_in (forms_of s) t) es) (alone s i (indexed (forms_of s) (form_in (forms_of s) t)))
          (indices s (element_in (forms_of s) t) es))

    address : (s : Site) (found : Option Found) (ss : SelectorTrees) → Free s (address_code s found ss)
    address s found ss =
        let v = spot_of s.env found in both s (base_code s v.spot) (selectors_code s v.t ss) (a_base s v.spot) (selectors s v.t ss)

    designated : (s : Site) (d : DesigTree) → Free s (desig_code s d)
    designated s (desig x ss p) = address s (find s.env x) ss

    pub an_object : (s : Site) (d : DesigTree) → Free s (object_code s d)
    an_object s d = both s (desig_code s d) (one s OBJ) (designated s d) (alone s OBJ ((refl, refl, refl, refl, refl, refl), λ n. refl))

    -- ## Calls

    write_alone : (x : Simple) (w : ℕ) → IsAlone (write_instr x w)
    write_alone Integer w = ((refl, refl, refl, refl, refl, refl), λ n. refl)
    write_alone Boolean w = ((refl, refl, refl, refl, refl, refl), λ n. refl)
    write_alone Char w = ((refl, refl, refl, refl, refl, refl), λ n. refl)

    read_alone : (x : Simple) → IsAlone (read_instr x)
    read_alone Integer = ((refl, refl, refl, refl, refl, refl), λ n. refl)
    read_alone Boolean = ((refl, refl, refl, refl, refl, refl), λ n. refl)
    read_alone Char = ((refl, refl, refl, refl, refl, refl), λ n. refl)

    a_plain_item : (s : Site) (x : Option Text) (e : ExprTree) → Free s (plain_item s x e)
    a_plain_item s None e =
        let i = write_instr (simple_of (expr_type s.env e)) 0 in
        both s (expr_code s e) (one s i) (expr s e) (alone s i (write_alone (simple_of (expr_type s.env e)) 0))
    a_plain_item s (Some x) e = λ m k. writing s m k x 0

    a_wide_item : (s : Site) (x : Option Text) (e w : ExprTree) → Free s (wide_item s x e w)
    a_wide_item s None e w =
        let i = write_instr (simple_of (expr_type s.env e)) 1 in
        both s (expr_code s e) (expr_code s w ⨾ one s i) (expr s e)
        (both s (expr_code s w) (one s i) (expr s w) (alone s i (write_alone (simple_of (expr_type s.env e)) 1)))
    a_wide_item s (Some x) e w = both s (expr_code s w) (string s x 1) (expr s w) (λ m k. writing s m k x 1)

    an_item : (s : Site) (a : ActualTree) → Free s (item_code s a)
    an_item s (actual e) = a_plain_item s (as_string e) e
    an_item s (actual_width e w) = a_wide_item s (as_string e) e w

    writes : (s : Site) (args : ActualTrees) (newline : Bool) → Free s (writes_code s args newline)
    writes s no_actuals newline = either s newline (one s WRNL) nothing (alone s WRNL ((refl, refl, refl, refl, refl, refl), λ n. refl)) (no_code s)
    writes s (more_actuals a rest) newline = both s (item_code s a) (writes_code s rest newline) (an_item s a) (writes s rest newline)

    an_input : (s : Site) (d : Option DesigTree) → Free s (input_code s d)
    an_input s None = no_code s
    an_input s (Some d) =
        let i = read_instr (simple_of (desig_type s.env d)) in
        both s (desig_code s d) (one s i) (designated s d) (alone s i (read_alone (simple_of (desig_type s.env d))))

    reads : (s : Site) (args : ActualTrees) (skip : Bool) → Free s (reads_code s args skip)
    reads s no_actuals skip = either s skip (one s RDNL) nothing (alone s RDNL ((refl, refl, refl, refl, refl, refl), λ n. refl)) (no_code s)
    reads s (more_actuals a rest) skip =
        both s (input_code s (as_desig (item_of a))) (reads_code s rest skip) (an_input s (as_desig (item_of a))) (reads s rest skip)

    given : (s : Site) (e : Option ExprTree) → Free s (given_code s e)
    given s None = no_code s
    given s (Some e) = expr s e

    a_rank : (s : Site) (e : Option ExprTree) → Free s (rank_code s e)
    a_rank s None = alone s (LIT (pos 0)) ((refl, refl, refl, refl, refl, refl), λ n. refl)
    a_rank s (Some e) = expr s e

    a_first_object : (s : Site) (args : ActualTrees) → Free s (first_object s args)
    a_first_object s args = both s (first_address s args) (one s OBJ) (an_address s args) (alone s OBJ ((refl, refl, refl, refl, refl, refl), λ n. refl))

    of_object : (s : Site) (args : ActualTrees) (i : Instr) → IsAlone i → Free s (first_object s args ⨾ one s i)
    of_object s args i h = both s (first_object s args) (one s i) (a_first_object s args) (alone s i h)

    with_object : (s : Site) (args : ActualTrees) (c : Code) (i : Instr) → Free s c → IsAlone i → Free s (first_object s args ⨾ c ⨾ one s i)
    with_object s args c i p h = both s (first_object s args) (c ⨾ one s i) (a_first_object s args) (both s c (one s i) p (alone s i h))

    a_procedure : (s : Site) (p : Procedure) (args : ActualTrees) → Free s (procedure_code s p args)
    a_procedure s (reader skip) args = reads s args skip
    a_procedure s (writer newline) args = writes s args newline
    a_procedure s initial args =
        with_object s args (given_code s (expr_of (behind_first args))) SINI (given s (expr_of (behind_first args)))
        ((refl, refl, refl, refl, refl, refl), λ n. refl)
    a_procedure s wait args = of_object s args SWAIT ((refl, refl, refl, refl, refl, refl), λ n. refl)
    a_procedure s signal args = of_object s args SSIG ((refl, refl, refl, refl, refl, refl), λ n. refl)
    a_procedure s delay args =
        with_object s args (rank_code s (expr_of (behind_first args))) DELAY (a_rank s (expr_of (behind_first args)))
        ((refl, refl, refl, refl, refl, refl), λ n. refl)
    a_procedure s resume args = of_object s args RESUME ((refl, refl, refl, refl, refl, refl), λ n. refl)
    a_procedure s sleep args = both s (first_value s args) (one s SLEEP) (a_value s args) (alone s SLEEP ((refl, refl, refl, refl, refl, refl), λ n. refl))
    a_procedure s no_procedure args = no_code s

    a_sub : (s : Site) (n : ℕ) (args : ActualTrees) → Free s (sub_code s n args)
    a_sub s n args = a_sub_call s n (args_code s (sub_at (blocks_of s) n).formals args) (arguments s (sub_at (blocks_of s) n).formals args)

    exported : (s : Site) (n : ℕ) (x : Option Meaning) (args : ActualTrees) → Free s (exported_code s n x args)
    exported s n None args = no_code s
    exported s n (Some (AConstant t v)) args = no_code s
    exported s n (Some (Named t)) args = no_code s
    exported s n (Some (Variable t reference)) args = no_code s
    exported s n (Some (Sub p)) args =
        let head = sub_at (blocks_of s) p in
        both s (args_code s head.formals args)
        (one s (enter_instr (module_at (blocks_of s) n).resource (module_number (blocks_of s) n) (block_number s.program head.scope)))
        (arguments s head.formals args) (λ m k. entering s m k n head.scope)
    exported s n (Some (Module p)) args = no_code s
    exported s n (Some (Process p)) args = no_code s
    exported s n (Some (Entry p)) args = no_code s
    exported s n (Some (Predeclared p)) args = no_code s
    exported s n (Some Faulty) args = no_code s

    of_module : (s : Site) (n : ℕ) (x : Option (Text × Place)) (args : ActualTrees) → Free s (module_code s n x args)
    of_module s n None args = no_code s
    of_module s n (Some x) args = exported s n (meaning_in (scope_at (blocks_of s).scopes (module_at (blocks_of s) n).scope) x.0) args

    requeued : (s : Site) (x : Option Meaning) (args : ActualTrees) → Free s (requeue_code s x args)
    requeued s None args = no_code s
    requeued s (Some (AConstant t v)) args = no_code s
    requeued s (Some (Named t)) args = no_code s
    requeued s (Some (Variable t reference)) args = no_code s
    requeued s (Some (Sub n)) args =
        let head = sub_at (blocks_of s) n in
        both s (args_code s head.formals args) (one s (REQ (resource_of s) (block_number s.program head.scope)))
        (arguments s head.formals args) (λ m k. requeueing s m k head.scope)
    requeued s (Some (Module p)) args = no_code s
    requeued s (Some (Process p)) args = no_code s
    requeued s (Some (Entry p)) args = no_code s
    requeued s (Some (Predeclared p)) args = no_code s
    requeued s (Some Faulty) args = no_code s

    an_activation : (s : Site) (n : ℕ) (c : Code) (args : ActualTrees) → Free s c → Free s (activation_code s n c args)
    an_activation s n c args p =
        let head = process_at (blocks_of s) n in
        let new = one s (NEW (block_number s.program head.scope)) in
        both s c (one s OBJ ⨾ args_code s head.formals args ⨾ new) p
        (both s (one s OBJ) (args_code s head.formals args ⨾ new) (alone s OBJ ((refl, refl, refl, refl, refl, refl), λ n. refl))
        (both s (args_code s head.formals args) new (arguments s head.formals args) (λ m k. creating s m k head.scope)))

    an_entry : (s : Site) (n : ℕ) (x : Option Meaning) (c : Code) (args : ActualTrees) → Free s c → Free s (entry_code s n x c args)
    an_entry s n None c args p = no_code s
    an_entry s n (Some (AConstant t v)) c args p = no_code s
    an_entry s n (Some (Named t)) c args p = no_code s
    an_entry s n (Some (Variable t reference)) c args p = no_code s
    an_entry s n (Some (Sub q)) c args p = no_code s
    an_entry s n (Some (Module q)) c args p = no_code s
    an_entry s n (Some (Process q)) c args p = no_code s
    an_entry s n (Some (Entry e)) c args p =
        let formals = entry_at (blocks_of s) n e in
        let i = ECALL e (formals_cells (forms_of s) formals) in
        both s c (one s OBJ ⨾ args_code s formals args ⨾ one s i) p
        (both s (one s OBJ) (args_code s formals args ⨾ one s i) (alone s OBJ ((refl, refl, refl, refl, refl, refl), λ n. refl))
        (both s (args_code s formals args) (one s i) (arguments s formals args) (alone s i ((refl, refl, refl, refl, refl, refl), λ n. refl))))
    an_entry s n (Some (Predeclared q)) c args p = no_code s
    an_entry s n (Some Faulty) c args p = no_code s

    a_process : (s : Site) (n : Option ℕ) (c : Code) (args : ActualTrees) → Free s c → Free s (process_code s n c args)
    a_process s None c args p = no_code s
    a_process s (Some n) c args p = an_activation s n c args p

    a_field : (s : Site) (found : Found) (ss : SelectorTrees) (t : Option TypeId) (n : Option ℕ) (x : Text) (args : ActualTrees) → Free s
        (field_code s found ss t n x args)
    a_field s found ss t None x args =
        a_process s (process_of_type s.env (selected s.env t ss)) (address_code s (Some found) ss) args (address s (Some found) ss)
    a_field s found ss t (Some n) x args =
        an_entry s n (name_in_process (blocks_of s) n x) (address_code s (Some found) (before_last ss)) args (address s (Some found) (before_last ss))

    called_at : (s : Site) (found : Found) (ss : SelectorTrees) (t : TypeId) (x : Option (Text × Place)) (args : ActualTrees) → Free s
        (called_variable s found ss t x args)
    called_at s found ss t None args =
        a_process s (process_of_type s.env (selected s.env (Some t) ss)) (address_code s (Some found) ss) args (address s (Some found) ss)
    called_at s found ss t (Some x) args = a_field s found ss (Some t) (process_of_type s.env (selected s.env (Some t) (before_last ss))) x.0 args

    called_single : (s : Site) (found : Found) (n : ℕ) (x : Option (Text × Place)) (args : ActualTrees) → Free s (called_process s found n x args)
    called_single s found n None args =
        an_activation s n (address_code s (Some found) no_selectors) args (address s (Some found) no_selectors)
    called_single s found n (Some x) args =
        an_entry s n (name_in_process (blocks_of s) n x.0) (address_code s (Some found) no_selectors) args (address s (Some found) no_selectors)

    called : (s : Site) (found : Found) (x : Meaning) (ss : SelectorTrees) (args : ActualTrees) → Free s (called_code s found x ss args)
    called s found (AConstant t v) ss args = no_code s
    called s found (Named t) ss args = no_code s
    called s found (Variable t reference) ss args = called_at s found ss t (last_field ss) args
    called s found (Sub n) ss args = a_sub s n args
    called s found (Module n) ss args = of_module s n (last_field ss) args
    called s found (Process n) ss args = called_single s found n (last_field ss) args
    called s found (Entry n) ss args = no_code s
    called s found (Predeclared n) ss args = a_procedure s (procedure_of n) args
    called s found Faulty ss args = no_code s

    called_name : (s : Site) (found : Option Found) (ss : SelectorTrees) (args : ActualTrees) → Free s (found_code s found ss args)
    called_name s None ss args = no_code s
    called_name s (Some found) ss args = called s found found.meaning ss args

    a_call : (s : Site) (d : DesigTree) (args : ActualTrees) → Free s (call_code s d args)
    a_call s (desig x ss p) args = called_name s (find s.env x) ss args

    assigned : (s : Site) (d : DesigTree) (e : ExprTree) → Free s (assign_code s d e)
    assigned s d e =
        let i = STORE (type_cells (forms_of s) (expr_type s.env e)) in
        both s (desig_code s d) (expr_code s e ⨾ one s i) (designated s d)
        (both s (expr_code s e) (one s i) (expr s e) (alone s i ((refl, refl, refl, refl, refl, refl), λ n. refl)))

    -- ## Communication

    pub a_message : (s : Site) (e : Option ExprTree) → Free s (message_code s e)
    a_message s None = no_code s
    a_message s (Some e) = expr s e

    pub a_receiver : (s : Site) (d : Option DesigTree) → Free s (receiver_code s d)
    a_receiver s None = no_code s
    a_receiver s (Some d) = designated s d

    sent : (s : Site) (d : DesigTree) (e : ExprTree) → Free s (send_code s d e)
    sent s d e =
        let m = message_of (context_of s) e in
        let i = SEND (message_cells s m) in
        both s (object_code s d) (message_code s m ⨾ one s i) (an_object s d)
        (both s (message_code s m) (one s i) (a_message s m) (alone s i ((refl, refl, refl, refl, refl, refl), λ n. refl)))

    received : (s : Site) (d v : DesigTree) → Free s (receive_code s d v)
    received s d v =
        let r = receiver_of (context_of s) v in
        let i = RECV (receiver_cells s r) in
        both s (object_code s d) (receiver_code s r ⨾ one s i) (an_object s d)
        (both s (receiver_code s r) (one s i) (a_receiver s r) (alone s i ((refl, refl, refl, refl, refl, refl), λ n. refl)))

    an_accept : (s : Site) (n : ℕ) (a : AcceptTree) → Free s (accept_code s n a)
    an_accept s n a = alone s (ACC (entry_of s a) (accept_cell s n) (accept_cells s n)) ((refl, refl, refl, refl, refl, refl), λ n. refl)

    pub a_replica : (s : Site) (r : Option Replica) → Free s (replica_code s r)
    a_replica s None = no_code s
    a_replica s (Some r) =
        both s (base_code s r.at) (one s (LIT r.value) ⨾ one s (STORE 1)) (a_base s r.at)
        (both s (one s (LIT r.value)) (one s (STORE 1)) (alone s (LIT r.value) ((refl, refl, refl, refl, refl, refl), λ n. refl))
        (alone s (STORE 1) ((refl, refl, refl, refl, refl, refl), λ n. refl)))

    -- ## Jumps

    free_before : (s : Site) (c d : Code) (m k : ℕ) → Free s c → P s.program s.block (m + c.size) k d → P s.program s.block m k (c ⨾ d)
    free_before s c d m k p q = joined s.program s.block m k c d (p m (d.size + k)) q

    jump_before :
        (s : Site) (f : ℕ → Instr) (count : ℕ) (d : Code) (m k : ℕ) → LeadsOn f → count ≤ d.size + k → P s.program s.block (m + 1) k d
        → P s.program s.block m k (over s f count ⨾ d)
    jump_before s f count d m k h within q = joined s.program s.block m k (over s f count) d (leading s m (d.size + k) f count h within) q

    -- ## Alternatives

    a_guard :
        (s : Site) (guard : Option ExprTree) (inner : Code) (m k : ℕ) → ((j : ℕ) → P s.program s.block j k inner)
        → P s.program s.block m k (guarded_code s guard inner)
    a_guard s None inner m k p = p m
    a_guard s (Some e) inner m k p =
        free_before s (expr_code s e) (over s JF inner.size ⨾ inner) m k (expr s e)
        (jump_before s JF inner.size inner (m + (expr_code s e).size) k (((λ a. refl), λ a. (refl, refl, refl, refl, refl)), λ a n. refl) (omega arith)
        (p (m + (expr_code s e).size + 1)))

    -- where it holds of each alternative that is made, and of a decision
    module _
        (nameless : (s : Site) (m k : ℕ) (i : Instr) → IsNameless i → P s.program s.block m k (one s i))
        (arming : (s : Site) (m k : ℕ) (f : ℕ → Instr) (count : ℕ) → LeadsAhead f → count ≤ k → P s.program s.block m k (over s f count))
        (selecting : (g : Program) (b : Block) (m k n : ℕ) (c : Code) → P g b m k c → P g b m k (with_arms n c))
      where
        communication : (s : Site) (n : ℕ) (c : CommTree) (branch m k : ℕ) → Reaches c branch k → P s.program s.block m k (comm_code s n c branch)
        communication s n (comm_accept a p) branch m k h =
            arming s m k (λ at. ARMA (entry_of s a) (accept_cell s n) (accept_cells s n) at) branch ((λ a. refl), λ a. (refl, refl, refl, refl, refl)) h
        communication s n (comm_send d e p) branch m k h =
            let x = message_of (context_of s) e in
            let f : ℕ → Instr = λ at. ARMS (message_cells s x) at in
            free_before s (object_code s d) (message_code s x ⨾ over s f branch) m k (an_object s d)
            (free_before s (message_code s x) (over s f branch) (m + (object_code s d).size) k (a_message s x)
            (arming s (m + (object_code s d).size + (message_code s x).size) k f branch ((λ a. refl), λ a. (refl, refl, refl, refl, refl)) h))
        communication s n (comm_receive d v p) branch m k h =
            let r = receiver_of (context_of s) v in
            let f : ℕ → Instr = λ at. ARMR (receiver_cells s r) at in
            free_before s (object_code s d) (receiver_code s r ⨾ over s f branch) m k (an_object s d)
            (free_before s (receiver_code s r) (over s f branch) (m + (object_code s d).size) k (a_receiver s r)
            (arming s (m + (object_code s d).size + (receiver_code s r).size) k f branch ((λ a. refl), λ a. (refl, refl, refl, refl, refl)) h))
        communication s n (timeout e p) branch m k h =
            free_before s (expr_code s e) (over s ARMT branch) m k (expr s e)
            (arming s (m + (expr_code s e).size) k ARMT branch ((λ a. refl), λ a. (refl, refl, refl, refl, refl)) h)
        communication s n (terminate p) branch m k h = nameless s m k ARMX (refl, refl, refl, refl, refl, refl)

        an_alternative : (s : Site) (a : Alternative) (branch m k : ℕ) → Reaches a.comm branch k → P s.program s.block m k (alternative_code s a branch)
        an_alternative s a branch m k h =
            let inner = comm_code s a.next a.comm branch in
            free_before s (replica_code s a.replica) (guarded_code s a.guard inner) m k (a_replica s a.replica)
            (a_guard s a.guard inner (m + (replica_code s a.replica).size) k (λ j. communication s a.next a.comm branch j k h))

        all_alternatives :
            (s : Site) (alts : List Alternative) (ds : List ℕ) (total m k : ℕ) → Reached total alts ds → 1 + total ≤ k
            → P s.program s.block m k (alternatives_code s alts ds)
        all_alternatives s [] ds total m k h within = none s.program s.block m k
        all_alternatives s (a ∷ alts) [] total m k h within =
            let behind = alternatives_code s alts [] in
            let branch = behind.size + 1 + 0 in
            let start : Reaches a.comm 0 0 = zero_reaches a.comm in
            joined s.program s.block m k (alternative_code s a branch) behind
            (an_alternative s a branch m (behind.size + k) (reaches_then a.comm 0 0 branch (behind.size + k) start (λ q. omega (arith, within))))
            (all_alternatives s alts [] total (m + (alternative_code s a branch).size) k (none_reached total alts) within)
        all_alternatives s (a ∷ alts) (d ∷ ds) total m k h within =
            let behind = alternatives_code s alts ds in
            let branch = behind.size + 1 + d in
            joined s.program s.block m k (alternative_code s a branch) behind
            (an_alternative s a branch m (behind.size + k) (reaches_then a.comm d total branch (behind.size + k) h.0 (λ q. omega (arith, within, q))))
            (all_alternatives s alts ds total (m + (alternative_code s a branch).size) k h.1 within)

        a_decision : (s : Site) (pri : Bool) (else_at : Option ℕ) (m k : ℕ) → ElseWithin else_at k → P s.program s.block m k (sel_code s pri else_at)
        a_decision s pri None m k h = nameless s m k (SEL (if pri then 1 else 0) 0) (refl, refl, refl, refl, refl, refl)
        a_decision s pri (Some count) m k h =
            arming s m k (λ at. SEL (if pri then 1 else 0) at) count ((λ a. refl), λ a. (refl, refl, refl, refl, refl)) h

        pub a_select :
            (s : Site) (pri : Bool) (alts : List Alternative) (ds : List ℕ) (branches : Code) (else_at : Option ℕ) (otherwise : Code) (m k : ℕ)
            → Reached branches.size alts ds → ElseWithin else_at (branches.size + (otherwise.size + k))
            → ((j : ℕ) → P s.program s.block j (otherwise.size + k) branches) → ((j : ℕ) → P s.program s.block j k otherwise)
            → P s.program s.block m k (select_code s pri alts ds branches else_at otherwise)
        a_select s pri alts ds branches else_at otherwise m k h else_h p q =
            let found = alternatives_code s alts ds in
            let sel = sel_code s pri else_at in
            selecting s.program s.block m k (length alts) (found ⨾ sel ⨾ branches ⨾ otherwise)
            (joined s.program s.block m k found (sel ⨾ branches ⨾ otherwise)
            (all_alternatives s alts ds branches.size m ((sel ⨾ branches ⨾ otherwise).size + k) h
            (let one_sel : sel.size ≡ 1 = sel_size s pri else_at in
            let sum : (sel ⨾ branches ⨾ otherwise).size ≡ sel.size + (branches.size + otherwise.size) = refl in
            omega (arith, one_sel, sum)))
            (joined s.program s.block (m + found.size) k sel (branches ⨾ otherwise)
            (a_decision s pri else_at (m + found.size) ((branches ⨾ otherwise).size + k)
            (else_then else_at (branches.size + (otherwise.size + k)) ((branches ⨾ otherwise).size + k) else_h (omega arith)))
            (joined s.program s.block (m + found.size + sel.size) k branches otherwise (p (m + found.size + sel.size))
            (q (m + found.size + sel.size + branches.size)))))

    -- ## Labels and spreads

    labels : (s : Site) (between : ℕ) (ls : List Constant) (m k : ℕ) → between ≤ k → P s.program s.block m k (labels_code s between ls)
    labels s between [] m k h = none s.program s.block m k
    labels s between (l ∷ ls) m k h =
        let rest = labels_code s between ls in
        let f : ℕ → Instr = λ at. CEQ (label_of (constant_value s.env.state.blocks.scopes s.env.view l)) at in
        let size : rest.size ≡ length ls = labels_size s between ls in
        jump_before s f (length ls + between) rest m k (((λ a. refl), λ a. (refl, refl, refl, refl, refl)), λ a n. refl) (omega (arith, h, size))
        (labels s between ls (m + 1) k h)

    chosen : (s : Site) (rs : List Replica) → Free s (chosen_code s rs)
    chosen s [] = no_code s
    chosen s (r ∷ rs) = λ m k.
        let rest = chosen_code s rs in
        let write = replica_code s (Some r) in
        free_before s write (over s JMP rest.size ⨾ rest) m k (a_replica s (Some r))
        (jump_before s JMP rest.size rest (m + write.size) k (((λ a. refl), λ a. (refl, refl, refl, refl, refl)), λ a n. refl) (omega arith)
        (chosen s rs (m + write.size + 1) k))

    a_branch :
        (s : Site) (rs : List Replica) (met last : Code) (between m k : ℕ) → Free s met → Free s last → between ≤ k
        → P s.program s.block m k (chosen_code s rs ⨾ met ⨾ last ⨾ over s JMP between)
    a_branch s rs met last between m k p q h =
        let first = chosen_code s rs in
        free_before s first (met ⨾ last ⨾ over s JMP between) m k (chosen s rs)
        (free_before s met (last ⨾ over s JMP between) (m + first.size) k p
        (free_before s last (over s JMP between) (m + first.size + met.size) k q
        (leading s (m + first.size + met.size + last.size) k JMP between (((λ a. refl), λ a. (refl, refl, refl, refl, refl)), λ a n. refl) h)))

    -- ## Statements

    -- where it holds of a select whose branches it holds of
    module _
        (deciding :
        (s : Site) (pri : Bool) (alts : List Alternative) (ds : List ℕ) (branches : Code) (else_at : Option ℕ) (otherwise : Code) (m k : ℕ)
        → Reached branches.size alts ds → ElseWithin else_at (branches.size + (otherwise.size + k))
        → ((j : ℕ) → P s.program s.block j (otherwise.size + k) branches) → ((j : ℕ) → P s.program s.block j k otherwise)
        → P s.program s.block m k (select_code s pri alts ds branches else_at otherwise))
      where
        mutual
          pub stmt : (s : Site) (n : ℕ) (t : StmtTree) → Free s (stmt_code s n t)
          stmt s n empty = no_code s
          stmt s n (null p) = no_code s
          stmt s n (block (body ss from to) p) = stmts s n ss
          stmt s n (if_then e t p) = λ m k.
              let c = at_line s p.line in
              let yes = stmt_code c n t in
              free_before c (expr_code c e) (over c JF yes.size ⨾ yes) m k (expr c e)
              (jump_before c JF yes.size yes (m + (expr_code c e).size) k (((λ a. refl), λ a. (refl, refl, refl, refl, refl)), λ a n. refl) (omega arith)
              (stmt c n t (m + (expr_code c e).size + 1) k))
          stmt s n (if_then_else e t u p) = λ m k.
              let c = at_line s p.line in
              let test = expr_code c e in
              let good = stmt_code c n t in
              let bad = stmt_code c (n + scopes_in t) u in
              free_before c test (over c JF (good.size + 1) ⨾ good ⨾ over c JMP bad.size ⨾ bad) m k (expr c e)
              (jump_before c JF (good.size + 1) (good ⨾ over c JMP bad.size ⨾ bad) (m + test.size) k
              (((λ a. refl), λ a. (refl, refl, refl, refl, refl)), λ a n. refl) (omega arith)
              (free_before c good (over c JMP bad.size ⨾ bad) (m + test.size + 1) k (stmt c n t)
              (jump_before c JMP bad.size bad (m + test.size + 1 + good.size) k (((λ a. refl), λ a. (refl, refl, refl, refl, refl)), λ a n. refl) (omega arith)
              (stmt c (n + scopes_in t) u (m + test.size + 1 + good.size + 1) k))))
          stmt s n (case_of e arms last p) = λ m k.
              let c = at_line s p.line in
              let test = expr_code c e in
              let labelled = tests_code c n 0 arms in
              let ways = arms_code c n arms in
              free_before c test (labelled ⨾ one c CERR ⨾ ways) m k (expr c e)
              (joined c.program c.block (m + test.size) k labelled (one c CERR ⨾ ways)
              (tests c n 0 arms (m + test.size) ((one c CERR ⨾ ways).size + k) (omega arith))
              (free_before c (one c CERR) ways (m + test.size + labelled.size) k (alone c CERR ((refl, refl, refl, refl, refl, refl), λ n. refl))
              (all_arms c n arms (m + test.size + labelled.size + 1) k)))
          stmt s n (while_do e t p) = λ m k.
              let c = at_line s p.line in
              let test = expr_code c e in
              let inner = stmt_code c n t in
              let turn = back c TURN (test.size + 1 + inner.size) in
              free_before c test (over c JF (inner.size + 1) ⨾ inner ⨾ turn) m k (expr c e)
              (jump_before c JF (inner.size + 1) (inner ⨾ turn) (m + test.size) k (((λ a. refl), λ a. (refl, refl, refl, refl, refl)), λ a n. refl)
              (omega arith)
              (free_before c inner turn (m + test.size + 1) k (stmt c n t)
              (turning c (m + test.size + 1 + inner.size) k TURN (test.size + 1 + inner.size) (λ a. ((refl, refl, refl, refl, refl, refl), λ n. refl))
              (omega arith))))
          stmt s n (repeat_until ss e p) = λ m k.
              let c = at_line s p.line in
              let inner = stmts_code c n ss in
              let test = expr_code c e in
              let turn = back c TURN (inner.size + test.size + 2) in
              free_before c inner (test ⨾ one c NOT ⨾ over c JF 1 ⨾ turn) m k (stmts c n ss)
              (free_before c test (one c NOT ⨾ over c JF 1 ⨾ turn) (m + inner.size) k (expr c e)
              (free_before c (one c NOT) (over c JF 1 ⨾ turn) (m + inner.size + test.size) k (alone c NOT ((refl, refl, refl, refl, refl, refl), λ n. refl))
              (jump_before c JF 1 turn (m + inner.size + test.size + 1) k (((λ a. refl), λ a. (refl, refl, refl, refl, refl)), λ a n. refl) (omega arith)
              (turning c (m + inner.size + test.size + 1 + 1) k TURN (inner.size + test.size + 2) (λ a. ((refl, refl, refl, refl, refl, refl), λ n. refl))
              (omega arith)))))
          stmt s n (repeat_forever ss p) = λ m k.
              let c = at_line s p.line in
              let inner = stmts_code c n ss in
              free_before c inner (back c TURN inner.size) m k (stmts c n ss)
              (turning c (m + inner.size) k TURN inner.size (λ a. ((refl, refl, refl, refl, refl, refl), λ n. refl)) (omega arith))
          stmt s n (for_do x a down b t p q) = λ m k.
              let c = at_line s p.line in
              let inner = stmt_code c n t in
              let d : ℕ = if down then 1 else 0 in
              let at_first = base_code c (spot_of c.env (find c.env x)).spot in
              let low = expr_code c a in
              let high = expr_code c b in
              let turn = back c (λ at. FORT d at) (inner.size + 1) in
              let begin = over c (λ at. FORB d at) (inner.size + 2) in
              free_before c at_first (low ⨾ high ⨾ begin ⨾ one c FORW ⨾ inner ⨾ turn) m k (a_base c (spot_of c.env (find c.env x)).spot)
              (free_before c low (high ⨾ begin ⨾ one c FORW ⨾ inner ⨾ turn) (m + 1) k (expr c a)
              (free_before c high (begin ⨾ one c FORW ⨾ inner ⨾ turn) (m + 1 + low.size) k (expr c b)
              (jump_before c (λ at. FORB d at) (inner.size + 2) (one c FORW ⨾ inner ⨾ turn) (m + 1 + low.size + high.size) k
              (((λ a. refl), λ a. (refl, refl, refl, refl, refl)), λ a n. refl) (omega arith)
              (free_before c (one c FORW) (inner ⨾ turn) (m + 1 + low.size + high.size + 1) k (alone c FORW ((refl, refl, refl, refl, refl, refl), λ n. refl))
              (free_before c inner turn (m + 1 + low.size + high.size + 1 + 1) k (stmt c n t)
              (turning c (m + 1 + low.size + high.size + 1 + 1 + inner.size) k (λ at. FORT d at) (inner.size + 1)
              (λ a. ((refl, refl, refl, refl, refl, refl), λ n. refl))
              (omega arith)))))))
          stmt s n (cobegin ss last p) =
              both s (stmts_code s n ss) (one (at_line s last.line) COEND) (stmts s n ss)
              (alone (at_line s last.line) COEND ((refl, refl, refl, refl, refl, refl), λ n. refl))
          stmt s n (accepting a p) =
              let c = at_line s p.line in
              both c (accept_code c n a) (accepted_code c n a ⨾ one c EACC) (an_accept c n a)
              (both c (accepted_code c n a) (one c EACC) (accepted c n a) (alone c EACC ((refl, refl, refl, refl, refl, refl), λ n. refl)))
          stmt s n (requeue x args p) = let c = at_line s p.line in requeued c (meaning_of (find c.env x.0)) args
          stmt s n (select pri alts p q) = λ m k.
              let c = at_line s p.line in
              let branches = branches_code c n alts 0 in
              deciding c pri (alternatives (context_of c) n alts) (distances c n 0 alts) branches None nothing m k
              (branches_reached c n 0 0 branches.size alts (omega arith)) tt
              (λ j. all_branches c n alts 0 j (0 + k) (omega arith)) (λ j. none c.program c.block j k)
          stmt s n (select_else pri alts ss at p q) = λ m k.
              let c = at_line s p.line in
              let otherwise = stmts_code c (n + alts_scopes alts) ss in
              let branches = branches_code c n alts otherwise.size in
              deciding c pri (alternatives (context_of c) n alts) (distances c n 0 alts) branches (Some branches.size) otherwise m k
              (branches_reached c n 0 otherwise.size branches.size alts (omega arith)) (omega arith)
              (λ j. all_branches c n alts otherwise.size j (otherwise.size + k) (omega arith)) (λ j. stmts c (n + alts_scopes alts) ss j k)
          stmt s n (assign d e p q) = assigned (at_line s p.line) d e
          stmt s n (send d e p q) = sent (at_line s p.line) d e
          stmt s n (receive d v p q) = received (at_line s p.line) d v
          stmt s n (call d args p) = a_call (at_line s p.line) d args

          pub stmts : (s : Site) (n : ℕ) (ts : StmtTrees) → Free s (stmts_code s n ts)
          stmts s n no_stmts = no_code s
          stmts s n (more_stmts t ts) = both s (stmt_code s n t) (stmts_code s (n + scopes_in t) ts) (stmt s n t) (stmts s (n + scopes_in t) ts)

          tests :
              (s : Site) (n from : ℕ) (arms : ArmTrees) (m k : ℕ) → 1 + from + (arms_code s n arms).size ≤ k → P s.program s.block m k
              (tests_code s n from arms)
          tests s n from no_arms m k h = none s.program s.block m k
          tests s n from (more_arms (arm ls t) arms) m k h =
              let next = n + arm_scopes (arm ls t) in
              let further = from + (stmt_code s n t).size + 1 in
              let h' : 1 + from + ((stmt_code s n t).size + (1 + (arms_code s next arms).size)) ≤ k = h in
              let size : (tests_code s next further arms).size ≡ label_count arms = tests_size s next further arms in
              joined s.program s.block m k (labels_code s (label_count arms + 1 + from) ls) (tests_code s next further arms)
              (labels s (label_count arms + 1 + from) ls m ((tests_code s next further arms).size + k) (omega (arith, h', size)))
              (tests s next further arms (m + (labels_code s (label_count arms + 1 + from) ls).size) k (omega (arith, h')))

          all_arms : (s : Site) (n : ℕ) (arms : ArmTrees) → Free s (arms_code s n arms)
          all_arms s n no_arms = no_code s
          all_arms s n (more_arms (arm ls t) arms) = λ m k.
              let rest = arms_code s (n + arm_scopes (arm ls t)) arms in
              let way = stmt_code s n t in
              free_before s way (over s JMP rest.size ⨾ rest) m k (stmt s n t)
              (jump_before s JMP rest.size rest (m + way.size) k (((λ a. refl), λ a. (refl, refl, refl, refl, refl)), λ a n. refl) (omega arith)
              (all_arms s (n + arm_scopes (arm ls t)) arms (m + way.size + 1) k))

          accepted : (s : Site) (n : ℕ) (a : AcceptTree) → Free s (accepted_code s n a)
          accepted s n (accept x gs p) = no_code s
          accepted s n (accept_do x gs t p) = stmt (in_accept s n) (n + 1) t

          one_branch : (s : Site) (n : ℕ) (a : AltTree) (between m k : ℕ) → between ≤ k → P s.program s.block m k (branch_code s n a between)
          one_branch s n (alt spread guard (comm_accept a p) ss) between m k h =
              let c = comm_accept a p in
              a_branch s (spread_replicas s spread) (met_code s n c) (stmts_code s (n + comm_scopes c) ss) between m k
              (both s (accepted_code s n a) (one (at_line s p.line) EACC) (accepted s n a)
              (alone (at_line s p.line) EACC ((refl, refl, refl, refl, refl, refl), λ n. refl))) (stmts s (n + comm_scopes c) ss) h
          one_branch s n (alt spread guard (comm_send d e p) ss) between m k h =
              let c = comm_send d e p in
              a_branch s (spread_replicas s spread) (met_code s n c) (stmts_code s (n + comm_scopes c) ss) between m k (no_code s)
              (stmts s (n + comm_scopes c) ss) h
          one_branch s n (alt spread guard (comm_receive d v p) ss) between m k h =
              let c = comm_receive d v p in
              a_branch s (spread_replicas s spread) (met_code s n c) (stmts_code s (n + comm_scopes c) ss) between m k (no_code s)
              (stmts s (n + comm_scopes c) ss) h
          one_branch s n (alt spread guard (timeout e p) ss) between m k h =
              let c = timeout e p in
              a_branch s (spread_replicas s spread) (met_code s n c) (stmts_code s (n + comm_scopes c) ss) between m k (no_code s)
              (stmts s (n + comm_scopes c) ss) h
          one_branch s n (alt spread guard (terminate p) ss) between m k h = unseen_code s.program s.block m k (stmts_code s n ss) (stmts s n ss 0 0)

          all_branches : (s : Site) (n : ℕ) (alts : AltTrees) (else_size m k : ℕ) → else_size ≤ k → P s.program s.block m k (branches_code s n alts else_size)
          all_branches s n no_alts else_size m k h = none s.program s.block m k
          all_branches s n (more_alts a alts) else_size m k h =
              let rest = branches_code s (n + alt_scopes a) alts else_size in
              let way = branch_code s n a (rest.size + else_size) in
              joined s.program s.block m k way rest (one_branch s n a (rest.size + else_size) m (rest.size + k) (omega (arith, h)))
              (all_branches s (n + alt_scopes a) alts else_size (m + way.size) k h)
