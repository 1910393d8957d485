-- The code that writes no string and has no select.
use Rattle.std.proofs.Common.{◌+◌, ◌++◌, ℕ, Bool, true, false, List, [], ◌∷◌, Option, Some, None, refl, ap, ap₂, drop, arith}
use Rattle.pfc_base.specs.declared.places.Place.{Place}
use Rattle.pfc_tree.specs.Symbols.{Text}
use Rattle.pfc_tree.specs.declared.tree.Constant.{Constant}
use Rattle.pfc_tree.specs.declared.tree.Spread.{Spread}
use Rattle.pfc_tree.specs.trees.Exprs.{ExprTree, DesigTree, SelectorTrees, ActualTrees, desig, no_selectors, no_actuals, more_actuals}
use Rattle.pfc_tree.specs.trees.Stmts.{ArmTrees, CommTree, arm, no_arms, more_arms, comm_accept, comm_send, comm_receive, timeout, terminate}
use Rattle.pfc_types.specs.Scopes.{meaning_in, scope_at}
use Rattle.pfc_types.specs.Blocks.{sub_at, module_at, process_at, entry_at}
use Rattle.pfc_types.specs.rules.Expressions.{find, as_desig, selected}
use Rattle.pfc_types.specs.rules.Calls.{before_last}
use Rattle.pfc_types.specs.rules.Statements.{arm_scopes}
use Rattle.pfc_types.specs.declared.types.TypeId.{TypeId}
use Rattle.pfc_types.specs.declared.scope.Meaning.{Meaning}
use Rattle.pfc_types.specs.declared.scope.Meaning.TheVariants.{Sub, Entry}
use Rattle.pfc_types.specs.declared.heads.Formal.{Formal}
use Rattle.pfc_types.specs.declared.view.Found.{Found}
use Rattle.pfc_code.specs.declared.instructions.Instr.{Instr}
use Rattle.pfc_code.specs.declared.instructions.Instr.TheVariants.{OBJ}
use Rattle.pfc_semantics.specs.Displays.{Spot}
use Rattle.pfc_semantics.specs.Expressions.{spot_of}
use Rattle.pfc_semantics.specs.Remainders.{Replica, Alternative}
use Rattle.pfc_semantics.specs.Alternatives.{message_of, receiver_of}
use Rattle.pfc_semantics.specs.Statements.{item_of, name_in_process, process_of_type}
use Rattle.pfc_translation.specs.Sites.{Site, blocks_of, context_of}
use Rattle.pfc_translation.specs.Codes.{Code, nothing, ◌⨾◌, one, over, back}
use Rattle.pfc_translation.specs.Addresses.{base_code}
use Rattle.pfc_translation.specs.Expressions.{expr_code, desig_code, object_code, address_code, args_code, first_value, first_address}
use Rattle.pfc_translation.specs.Calls.{input_code, reads_code, given_code, rank_code, first_object, sub_code, exported_code, module_code, requeue_code}
use Rattle.pfc_translation.specs.Calls.{activation_code, entry_code, process_code, field_code, called_variable, called_process}
use Rattle.pfc_translation.specs.Selects.{message_code, receiver_code, send_code, receive_code, replica_code, comm_code, guarded_code, alternative_code}
use Rattle.pfc_translation.specs.Selects.{alternatives_code, first_of}
use Rattle.pfc_translation.specs.Statements.{assign_code, labels_code, label_count, tests_code, chosen_code, spread_replicas, sel_code, stmt_code}
use Rattle.pfc_code_laws.specs.Plain.{IsPlain}
use Rattle.pfc_code_laws.proofs.Expressions.{plain_expr, plain_selectors, plain_args, plain_first, plain_first_address}
use Rattle.pfc_unseen_code.proofs.Keeping.{IsQuiet, quiet_both}

pub quiet_nothing : IsQuiet nothing
quiet_nothing = record { texts = refl; arms = refl }

pub quiet_one : (s : Site) (i : Instr) → IsQuiet (one s i)
quiet_one s i = record { texts = refl; arms = refl }

pub quiet_over : (s : Site) (i : ℕ → Instr) (k : ℕ) → IsQuiet (over s i k)
quiet_over s i k = record { texts = refl; arms = refl }

pub quiet_back : (s : Site) (i : ℕ → Instr) (k : ℕ) → IsQuiet (back s i k)
quiet_back s i k = record { texts = refl; arms = refl }

plain_quiet : (c : Code) → IsPlain c → IsQuiet c
plain_quiet c plain = record { texts = plain.1.1.0; arms = plain.1.1.1 }

pub quiet_expr : (s : Site) (e : ExprTree) → IsQuiet (expr_code s e)
quiet_expr s e = plain_quiet (expr_code s e) (plain_expr s e)

pub quiet_first : (s : Site) (args : ActualTrees) → IsQuiet (first_value s args)
quiet_first s args = plain_quiet (first_value s args) (plain_first s args)

quiet_args : (s : Site) (formals : List Formal) (args : ActualTrees) → IsQuiet (args_code s formals args)
quiet_args s formals args = plain_quiet (args_code s formals args) (plain_args s formals args)

pub quiet_base : (s : Site) (v : Spot) → IsQuiet (base_code s v)
quiet_base s v = record { texts = refl; arms = refl }

quiet_address : (s : Site) (found : Option Found) (ss : SelectorTrees) → IsQuiet (address_code s found ss)
quiet_address s found ss =
    let v = spot_of s.env found in
    let behind = plain_selectors s v.t ss in
    record { texts = behind.1.1.0; arms = omega (arith, behind.1.1.1) }

pub quiet_desig : (s : Site) (d : DesigTree) → IsQuiet (desig_code s d)
quiet_desig s (desig x ss p) = quiet_address s (find s.env x) ss

quiet_object : (s : Site) (d : DesigTree) → IsQuiet (object_code s d)
quiet_object s d = quiet_both (desig_code s d) (one s OBJ) (quiet_desig s d) (quiet_one s OBJ)

-- ## Statements without others in them

pub quiet_assign : (s : Site) (d : DesigTree) (e : ExprTree) → IsQuiet (assign_code s d e)
quiet_assign s d e =
    let address = quiet_desig s d in
    let value = quiet_expr s e in
    record { texts = ap₂ (λ (x y : List Text). x ++ (y ++ [])) address.texts value.texts; arms = omega (arith, address.arms, value.arms) }

quiet_message : (s : Site) (m : Option ExprTree) → IsQuiet (message_code s m)
quiet_message s None = quiet_nothing
quiet_message s (Some e) = quiet_expr s e

quiet_receiver : (s : Site) (r : Option DesigTree) → IsQuiet (receiver_code s r)
quiet_receiver s None = quiet_nothing
quiet_receiver s (Some d) = quiet_desig s d

pub quiet_send : (s : Site) (d : DesigTree) (e : ExprTree) → IsQuiet (send_code s d e)
quiet_send s d e =
    let channel = quiet_object s d in
    let value = quiet_message s (message_of (context_of s) e) in
    record { texts = ap₂ (λ (x y : List Text). x ++ (y ++ [])) channel.texts value.texts; arms = omega (arith, channel.arms, value.arms) }

pub quiet_receive : (s : Site) (d v : DesigTree) → IsQuiet (receive_code s d v)
quiet_receive s d v =
    let channel = quiet_object s d in
    let variable = quiet_receiver s (receiver_of (context_of s) v) in
    record { texts = ap₂ (λ (x y : List Text). x ++ (y ++ [])) channel.texts variable.texts; arms = omega (arith, channel.arms, variable.arms) }

pub quiet_requeue : (s : Site) (m : Option Meaning) (args : ActualTrees) → IsQuiet (requeue_code s m args)
quiet_requeue s (Some (Sub k)) args =
    let head = sub_at (blocks_of s) k in
    quiet_both (args_code s head.formals args) _ (quiet_args s head.formals args) (quiet_one s _)
quiet_requeue s m args = quiet_nothing

-- ## Calls

pub quiet_input : (s : Site) (d : Option DesigTree) → IsQuiet (input_code s d)
quiet_input s None = quiet_nothing
quiet_input s (Some d) = quiet_both (desig_code s d) _ (quiet_desig s d) (quiet_one s _)

pub quiet_reads : (s : Site) (args : ActualTrees) (skip : Bool) → IsQuiet (reads_code s args skip)
quiet_reads s no_actuals true = record { texts = refl; arms = refl }
quiet_reads s no_actuals false = quiet_nothing
quiet_reads s (more_actuals a rest) skip =
    quiet_both (input_code s (as_desig (item_of a))) (reads_code s rest skip) (quiet_input s (as_desig (item_of a))) (quiet_reads s rest skip)

pub quiet_given : (s : Site) (e : Option ExprTree) → IsQuiet (given_code s e)
quiet_given s None = quiet_nothing
quiet_given s (Some e) = quiet_expr s e

pub quiet_rank : (s : Site) (e : Option ExprTree) → IsQuiet (rank_code s e)
quiet_rank s None = record { texts = refl; arms = refl }
quiet_rank s (Some e) = quiet_expr s e

pub quiet_first_object : (s : Site) (args : ActualTrees) → IsQuiet (first_object s args)
quiet_first_object s args =
    quiet_both (first_address s args) _ (plain_quiet (first_address s args) (plain_first_address s args)) (quiet_one s _)

-- three parts, of which the last is one instruction
pub quiet_three : (a b c : Code) → IsQuiet a → IsQuiet b → IsQuiet c → IsQuiet (a ⨾ b ⨾ c)
quiet_three a b c p q r = quiet_both a (b ⨾ c) p (quiet_both b c q r)

pub quiet_sub : (s : Site) (k : ℕ) (args : ActualTrees) → IsQuiet (sub_code s k args)
quiet_sub s k args =
    let head = sub_at (blocks_of s) k in
    quiet_both (args_code s head.formals args) _ (quiet_args s head.formals args) (quiet_one s _)

quiet_exported : (s : Site) (i : ℕ) (m : Option Meaning) (args : ActualTrees) → IsQuiet (exported_code s i m args)
quiet_exported s i (Some (Sub k)) args =
    let head = sub_at (blocks_of s) k in
    quiet_both (args_code s head.formals args) _ (quiet_args s head.formals args) (quiet_one s _)
quiet_exported s i m args = quiet_nothing

pub quiet_module : (s : Site) (i : ℕ) (x : Option (Text × Place)) (args : ActualTrees) → IsQuiet (module_code s i x args)
quiet_module s i None args = quiet_nothing
quiet_module s i (Some x) args = quiet_exported s i (meaning_in (scope_at (blocks_of s).scopes (module_at (blocks_of s) i).scope) x.0) args

quiet_activation : (s : Site) (i : ℕ) (address : Code) (args : ActualTrees) → IsQuiet address → IsQuiet (activation_code s i address args)
quiet_activation s i address args quiet =
    let head = process_at (blocks_of s) i in
    quiet_both address _ quiet (quiet_three _ (args_code s head.formals args) _ (quiet_one s _) (quiet_args s head.formals args) (quiet_one s _))

quiet_entry : (s : Site) (i : ℕ) (m : Option Meaning) (address : Code) (args : ActualTrees) → IsQuiet address → IsQuiet (entry_code s i m address args)
quiet_entry s i (Some (Entry k)) address args quiet =
    let formals = entry_at (blocks_of s) i k in
    quiet_both address _ quiet (quiet_three _ (args_code s formals args) _ (quiet_one s _) (quiet_args s formals args) (quiet_one s _))
quiet_entry s i m address args quiet = quiet_nothing

quiet_process : (s : Site) (i : Option ℕ) (address : Code) (args : ActualTrees) → IsQuiet address → IsQuiet (process_code s i address args)
quiet_process s None address args quiet = quiet_nothing
quiet_process s (Some i) address args quiet = quiet_activation s i address args quiet

quiet_field :
    (s : Site) (found : Found) (ss : SelectorTrees) (t : Option TypeId) (i : Option ℕ) (x : Text) (args : ActualTrees)
    → IsQuiet (field_code s found ss t i x args)
quiet_field s found ss t None x args =
    quiet_process s (process_of_type s.env (selected s.env t ss)) (address_code s (Some found) ss) args (quiet_address s (Some found) ss)
quiet_field s found ss t (Some i) x args =
    quiet_entry s i (name_in_process (blocks_of s) i x) (address_code s (Some found) (before_last ss)) args (quiet_address s (Some found) (before_last ss))

pub quiet_variable :
    (s : Site) (found : Found) (ss : SelectorTrees) (t : TypeId) (x : Option (Text × Place)) (args : ActualTrees)
    → IsQuiet (called_variable s found ss t x args)
quiet_variable s found ss t None args =
    quiet_process s (process_of_type s.env (selected s.env (Some t) ss)) (address_code s (Some found) ss) args (quiet_address s (Some found) ss)
quiet_variable s found ss t (Some x) args =
    quiet_field s found ss (Some t) (process_of_type s.env (selected s.env (Some t) (before_last ss))) x.0 args

pub quiet_called_process :
    (s : Site) (found : Found) (i : ℕ) (x : Option (Text × Place)) (args : ActualTrees) → IsQuiet (called_process s found i x args)
quiet_called_process s found i None args =
    quiet_activation s i (address_code s (Some found) no_selectors) args (quiet_address s (Some found) no_selectors)
quiet_called_process s found i (Some x) args =
    quiet_entry s i (name_in_process (blocks_of s) i x.0) (address_code s (Some found) no_selectors) args (quiet_address s (Some found) no_selectors)

-- ## Tests

quiet_labels : (s : Site) (between : ℕ) (ls : List Constant) → IsQuiet (labels_code s between ls)
quiet_labels s between [] = quiet_nothing
quiet_labels s between (l ∷ ls) = let rest = quiet_labels s between ls in record { texts = rest.texts; arms = omega (arith, rest.arms) }

pub quiet_tests : (s : Site) (i from : ℕ) (arms : ArmTrees) → IsQuiet (tests_code s i from arms)
quiet_tests s i from no_arms = quiet_nothing
quiet_tests s i from (more_arms (arm ls t) arms) =
    quiet_both (labels_code s (label_count arms + 1 + from) ls) (tests_code s (i + arm_scopes (arm ls t)) (from + (stmt_code s i t).size + 1) arms)
    (quiet_labels s (label_count arms + 1 + from) ls)
    (quiet_tests s (i + arm_scopes (arm ls t)) (from + (stmt_code s i t).size + 1) arms)

-- ## Alternatives

quiet_replica : (s : Site) (r : Option Replica) → IsQuiet (replica_code s r)
quiet_replica s None = quiet_nothing
quiet_replica s (Some r) = record { texts = refl; arms = refl }

quiet_comm : (s : Site) (n : ℕ) (c : CommTree) (branch : ℕ) → IsQuiet (comm_code s n c branch)
quiet_comm s n (comm_accept a p) branch = record { texts = refl; arms = refl }
quiet_comm s n (comm_send d e p) branch =
    let channel = quiet_object s d in
    let value = quiet_message s (message_of (context_of s) e) in
    record { texts = ap₂ (λ (x y : List Text). x ++ (y ++ [])) channel.texts value.texts; arms = omega (arith, channel.arms, value.arms) }
quiet_comm s n (comm_receive d v p) branch =
    let channel = quiet_object s d in
    let variable = quiet_receiver s (receiver_of (context_of s) v) in
    record { texts = ap₂ (λ (x y : List Text). x ++ (y ++ [])) channel.texts variable.texts; arms = omega (arith, channel.arms, variable.arms) }
quiet_comm s n (timeout e p) branch =
    let value = quiet_expr s e in record { texts = ap (λ (x : List Text). x ++ []) value.texts; arms = omega (arith, value.arms) }
quiet_comm s n (terminate p) branch = record { texts = refl; arms = refl }

quiet_guarded : (s : Site) (guard : Option ExprTree) (inner : Code) → IsQuiet inner → IsQuiet (guarded_code s guard inner)
quiet_guarded s None inner quiet = quiet
quiet_guarded s (Some e) inner quiet =
    let test = quiet_expr s e in
    record { texts = ap₂ (λ (x y : List Text). x ++ ([] ++ y)) test.texts quiet.texts; arms = omega (arith, test.arms, quiet.arms) }

pub quiet_alternatives : (s : Site) (all : List Alternative) (branches : List ℕ) → IsQuiet (alternatives_code s all branches)
quiet_alternatives s [] branches = quiet_nothing
quiet_alternatives s (a ∷ rest) branches =
    let behind = alternatives_code s rest (drop 1 branches) in
    let branch = behind.size + 1 + first_of branches in
    quiet_both (alternative_code s a branch) behind
    (quiet_both (replica_code s a.replica) (guarded_code s a.guard (comm_code s a.next a.comm branch)) (quiet_replica s a.replica)
    (quiet_guarded s a.guard (comm_code s a.next a.comm branch) (quiet_comm s a.next a.comm branch)))
    (quiet_alternatives s rest (drop 1 branches))

pub quiet_sel : (s : Site) (pri : Bool) (count : Option ℕ) → IsQuiet (sel_code s pri count)
quiet_sel s pri None = record { texts = refl; arms = refl }
quiet_sel s pri (Some count) = record { texts = refl; arms = refl }

-- ## Where a value is chosen

quiet_chosen : (s : Site) (rs : List Replica) → IsQuiet (chosen_code s rs)
quiet_chosen s [] = quiet_nothing
quiet_chosen s (r ∷ rs) =
    let rest = quiet_chosen s rs in record { texts = rest.texts; arms = omega (arith, rest.arms) }

pub quiet_spread : (s : Site) (spread : Option Spread) → IsQuiet (chosen_code s (spread_replicas s spread))
quiet_spread s spread = quiet_chosen s (spread_replicas s spread)
