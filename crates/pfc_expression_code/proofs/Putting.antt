-- A list that was put is the code of its phrase.
use Rattle.std.proofs.lemmas.List.{append-nil}
use Rattle.pfc_tree.specs.Symbols.{Text}
use Rattle.std.proofs.lemmas.Result.{on_ok_weaker, IfErr-weaker}
use Rattle.std.proofs.Common.{Option, Result, OnOk, IfErr, subst, ◌≡◌, ◌<◌, ◌+◌, ◌++◌, ℕ, List, [], ◌∷◌, length, refl, sym, ap, ◌∙◌, arith, length-append}
use Rattle.pfc_tree.specs.trees.Exprs.{ExprTree, DesigTree, SelectorTrees, ActualTrees, desig}
use Rattle.pfc_types.specs.declared.heads.Formal.{Formal}
use Rattle.pfc_types.specs.declared.view.Found.{Found}
use Rattle.pfc_types.specs.rules.Expressions.{find}
use Rattle.pfc_code.specs.declared.instructions.Instr.{Instr}
use Rattle.pfc_code.specs.declared.instructions.Instr.TheVariants.{OBJ, WRS}
use Rattle.pfc_semantics.specs.Expressions.{spot_of}
use Rattle.pfc_translation.specs.Sites.{Site}
use Rattle.pfc_translation.specs.Codes.{Code, Lined, one, string}
use Rattle.pfc_translation.specs.Expressions.{expr_code, address_code, desig_code, object_code, args_code, first_value, first_address, selectors_code}
use Rattle.pfc_emit.specs.declared.emitter.EmitFault.{EmitFault}
use Rattle.pfc_emit.specs.declared.emitter.EmitFault.TheVariants.{Full}
use Rattle.pfc_code_laws.specs.Plain.{IsPlain}
use Rattle.pfc_code_laws.proofs.Expressions.{plain_expr, plain_selectors, plain_args, plain_first, plain_first_address}
use Rattle.pfc_expression_code.specs.Lists.{ways_of, single, expr_list, desig_list, object_list, args_list, first_value_list, first_address_list}
use Rattle.pfc_expression_code.specs.Lists.{selectors_list, part_list}
use Rattle.pfc_expression_code.specs.Putting.{Made, IsMade, IsTooLarge}
use Rattle.pfc_expression_code.proofs.Same.{expr_same, part_same, object_same, args_same, first_value_same, first_address_same, selectors_same}

-- a list that is some code, wherever it stands, which writes no string and has no select
pub record IsListed (c : Code) (list : Lined) : Type 0 where
  pub same : (at n : ℕ) → c.put at n ≡ list
  pub sized : length list ≡ c.size
  pub texts : c.texts ≡ []
  pub arms : c.arms ≡ 0

-- where it was put and nothing else was done, the code of the phrase was made
pub made_listed :
    (c : Code) (list : Lined) (before after : Made) → IsListed c list → after.code ≡ before.code ++ list
    → after.texts ≡ before.texts → after.arms ≡ before.arms → IsMade c before after
made_listed c list before after is put texts arms =
    record {
      code = put ∙ ap (λ l. before.code ++ l) (sym (is.same (length before.code) (length before.texts)));
      texts = texts ∙ sym (ap (λ l. before.texts ++ l) is.texts ∙ append-nil before.texts);
      arms = omega (arith, arms, is.arms);
      size = ap length put ∙ length-append before.code list ∙ ap (λ k. length before.code + k) is.sized;
    }

pub large_listed : (c : Code) (list : Lined) (before : Made) → IsListed c list → 200000 < length (before.code ++ list) → IsTooLarge c before
large_listed c list before is large = omega (arith, large, length-append before.code list, is.sized)

listed : (c : Code) (list : Lined) → ((at n : ℕ) → c.put at n ≡ list) → IsPlain c → IsListed c list
listed c list same plain = record { same = same; sized = ap length (sym (same 0 0)) ∙ plain.1.0; texts = plain.1.1.0; arms = plain.1.1.1 }

pub one_listed : (s : Site) (i : Instr) → IsListed (one s i) ((i, s.line) ∷ [])
one_listed s i = record { same = λ j n. refl; sized = refl; texts = refl; arms = refl }

pub expr_listed : (s : Site) (e : ExprTree) → IsListed (expr_code s e) (expr_list (ways_of s) e)
expr_listed s e = listed (expr_code s e) (expr_list (ways_of s) e) (expr_same s e) (plain_expr s e)

pub args_listed : (s : Site) (formals : List Formal) (args : ActualTrees) → IsListed (args_code s formals args) (args_list (ways_of s) formals args)
args_listed s formals args = listed (args_code s formals args) (args_list (ways_of s) formals args) (args_same s formals args) (plain_args s formals args)

pub first_value_listed : (s : Site) (args : ActualTrees) → IsListed (first_value s args) (first_value_list (ways_of s) args)
first_value_listed s args = listed (first_value s args) (first_value_list (ways_of s) args) (first_value_same s args) (plain_first s args)

pub first_address_listed : (s : Site) (args : ActualTrees) → IsListed (first_address s args) (first_address_list (ways_of s) args)
first_address_listed s args =
    listed (first_address s args) (first_address_list (ways_of s) args) (first_address_same s args) (plain_first_address s args)

pub address_listed :
    (s : Site) (found : Option Found) (ss : SelectorTrees) → IsListed (address_code s found ss) (part_list (ways_of s) (spot_of s.env found) ss)
address_listed s found ss =
    let v = spot_of s.env found in
    let behind = listed (selectors_code s v.t ss) (selectors_list (ways_of s) v.t ss) (selectors_same s v.t ss) (plain_selectors s v.t ss) in
    record { same = part_same s v ss; sized = omega (arith, behind.sized); texts = behind.texts; arms = omega (arith, behind.arms) }

pub desig_listed : (s : Site) (d : DesigTree) → IsListed (desig_code s d) (desig_list (ways_of s) d)
desig_listed s (desig x ss p) = address_listed s (find s.env x) ss

pub object_listed : (s : Site) (d : DesigTree) → IsListed (object_code s d) (object_list (ways_of s) d)
object_listed s d =
    let address = desig_listed s d in
    record {
      same = object_same s d;
      sized = omega (arith, length-append (desig_list (ways_of s) d) (single (ways_of s) OBJ), address.sized);
      texts = ap (λ (l : List Text). l ++ []) address.texts;
      arms = omega (arith, address.arms);
    }

-- ## As the functions tell it

pub ok_listed :
    (r : Result (Unit {0}) EmitFault) (c : Code) (list code : Lined) (inside before : Made) → inside ≡ before → IsListed c list
    → OnOk r (code ≡ inside.code ++ list)
    → OnOk r (IsMade c before (record { code = code; texts = inside.texts; arms = inside.arms }))
ok_listed r c list code inside before same is put =
    let after : Made = record { code = code; texts = inside.texts; arms = inside.arms } in
    on_ok_weaker r (λ (e : code ≡ inside.code ++ list). subst (λ (m : Made). IsMade c m after) same (made_listed c list inside after is e refl refl)) put

pub err_listed :
    (r : Result (Unit {0}) EmitFault) (c : Code) (list : Lined) (inside before : Made) → inside ≡ before → IsListed c list
    → IfErr r (λ fault. fault ≡ Full → 200000 < length (inside.code ++ list)) → IfErr r (λ fault. fault ≡ Full → IsTooLarge c before)
err_listed r c list inside before same is large =
    IfErr-weaker r (λ fault. fault ≡ Full → 200000 < length (inside.code ++ list)) (λ fault. fault ≡ Full → IsTooLarge c before)
    (λ fault e full. subst (λ (m : Made). IsTooLarge c m) same (large_listed c list inside is (e full))) large

-- a string, whose number is that of the strings before it
pub string_made :
    (s : Site) (x : Text) (w : ℕ) (before after : Made) → after.code ≡ before.code ++ (WRS (length before.texts) w, s.line) ∷ []
    → after.texts ≡ before.texts ++ x ∷ [] → after.arms ≡ before.arms → IsMade (string s x w) before after
string_made s x w before after put texts arms =
    record {
      code = put;
      texts = texts;
      arms = omega (arith, arms);
      size = ap length put ∙ length-append before.code ((WRS (length before.texts) w, s.line) ∷ []);
    }
