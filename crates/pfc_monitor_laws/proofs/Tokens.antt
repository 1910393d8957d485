-- A program has fewer modules than tokens.
use Rattle.std.proofs.Common.{◌≡◌, ℕ, suc, ◌+◌, ◌≤◌, Bool, true, false, if◌then◌else◌, List, [], ◌∷◌, ◌++◌, length, length-append, refl, ap, arith}
use Rattle.pfc_base.specs.declared.tokens.Kind.TheVariants.{Sign}
use Rattle.pfc_base.specs.declared.sign.TheConstants.{SEMICOLON, DOT}
use Rattle.pfc_tree.specs.trees.Parts.{PartTree, PartTrees, ProgramTree, consts, types, vars, sub_part, monitor, resource, process_part, no_parts}
use Rattle.pfc_tree.specs.trees.Parts.{more_parts}
use Rattle.pfc_tree.specs.forget.Parts.{forget_part, forget_parts, forget_program}
use Rattle.pfc_tree.specs.lawful.Parts.{IsLawful}
use Rattle.pfc_tree.specs.tokens.Stmts.{body_tokens}
use Rattle.pfc_tree.specs.tokens.Parts.{part_tokens, parts_tokens, params_tokens, tokens_of}
use Rattle.pfc_types.specs.declared.heads.ModuleHead.{ModuleHead}
use Rattle.pfc_types.specs.rules.Bodies.{part_scopes}
use Rattle.pfc_types.specs.rules.Whole.{finished}
use Rattle.pfc_state.specs.Waits.{same_truth}
use Rattle.pfc_semantics.specs.Objects.{of_kind}
use Rattle.pfc_translation.specs.Images.{image_of}
use Rattle.pfc_image_laws.specs.Modules.{modules_from}
use Rattle.pfc_image_laws.proofs.Modules.{program_modules}

-- those of a kind are among all
few_of_kind : (is_resource : Bool) (ms : List ModuleHead) → of_kind is_resource ms ≤ length ms
few_of_kind is_resource [] = omega arith
few_of_kind is_resource (m ∷ ms) = by (same_truth m.resource is_resource) (few_of_kind is_resource ms)
  where
    by : (r : Bool) → of_kind is_resource ms ≤ length ms → (if r then 1 + of_kind is_resource ms else of_kind is_resource ms) ≤ length (m ∷ ms)
    by true h = omega (arith, h)
    by false h = omega (arith, h)

-- each module of some parts writes a token
module_tokens_few : (next : ℕ) (qs : PartTrees) → length (modules_from next qs) ≤ length (parts_tokens (forget_parts qs))
module_tokens_few next no_parts = omega arith
module_tokens_few next (more_parts q qs) = by q (module_tokens_few (next + part_scopes q) qs)
  where
    by : (q : PartTree) → length (modules_from (next + part_scopes q) qs) ≤ length (parts_tokens (forget_parts qs))
        → length (modules_from next (more_parts q qs)) ≤ length (parts_tokens (forget_parts (more_parts q qs)))
    by (monitor m) few =
        let sum = length-append (part_tokens (forget_part (monitor m))) (parts_tokens (forget_parts qs)) in omega (arith, sum, few)
    by (resource m) few =
        let sum = length-append (part_tokens (forget_part (resource m))) (parts_tokens (forget_parts qs)) in omega (arith, sum, few)
    by (consts items) few =
        let sum = length-append (part_tokens (forget_part (consts items))) (parts_tokens (forget_parts qs)) in omega (arith, sum, few)
    by (types items) few =
        let sum = length-append (part_tokens (forget_part (types items))) (parts_tokens (forget_parts qs)) in omega (arith, sum, few)
    by (vars vs) few =
        let sum = length-append (part_tokens (forget_part (vars vs))) (parts_tokens (forget_parts qs)) in omega (arith, sum, few)
    by (sub_part s) few =
        let sum = length-append (part_tokens (forget_part (sub_part s))) (parts_tokens (forget_parts qs)) in omega (arith, sum, few)
    by (process_part p) few =
        let sum = length-append (part_tokens (forget_part (process_part p))) (parts_tokens (forget_parts qs)) in omega (arith, sum, few)

pub few_monitors : (t : ProgramTree) → IsLawful (forget_program t) → (image_of t).monitors ≤ length (tokens_of (forget_program t))
few_monitors t lawful =
    let kinds = few_of_kind false (finished t).blocks.modules in
    let all : length (finished t).blocks.modules ≡ length (modules_from 1 t.parts) = ap length (program_modules t lawful) in
    let few = module_tokens_few 1 t.parts in
    let parts = parts_tokens (forget_parts t.parts) in
    let params = params_tokens (forget_program t).params in
    let body = body_tokens (forget_program t).body in
    let one = length-append params (Sign SEMICOLON ∷ parts) in
    let two = length-append (params ++ (Sign SEMICOLON ∷ parts)) body in
    let three = length-append ((params ++ (Sign SEMICOLON ∷ parts)) ++ body) (Sign DOT ∷ []) in
    let whole : length (tokens_of (forget_program t)) ≡ suc (suc (length (((params ++ (Sign SEMICOLON ∷ parts)) ++ body) ++ (Sign DOT ∷ [])))) = refl in
    omega (arith, kinds, all, few, one, two, three, whole)
