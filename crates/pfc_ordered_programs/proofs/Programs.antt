-- The bodies of a program call and enter in the order of its parts.
use Rattle.std.proofs.Common.{◌≡◌, ℕ, ◌+◌, ◌≤◌, ◌<◌, inl, inr, true, false, [], length, Option, Some, None, is_some, refl, ◌∙◌, arith}
use Rattle.std.specs.List.{AllByRecursion}
use Rattle.pfc_tree.specs.Symbols.{Text}
use Rattle.pfc_tree.specs.trees.Stmts.{BodyTree, body}
use Rattle.pfc_tree.specs.trees.Parts.{PartTree, PartTrees, ProgramTree, consts, types, vars, sub_part, monitor, resource, process_part, no_parts, more_parts}
use Rattle.pfc_tree.specs.forget.Parts.{forget_program}
use Rattle.pfc_tree.specs.lawful.Parts.{IsLawful}
use Rattle.pfc_types.specs.Scopes.{scope_at, found_at, meaning_of}
use Rattle.pfc_types.specs.Blocks.{sub_at, module_at}
use Rattle.pfc_types.specs.declared.scope.Meaning.TheVariants.{Sub, Module}
use Rattle.pfc_types.specs.rules.Statements.{stmts_scopes}
use Rattle.pfc_types.specs.rules.Bodies.{level, passed_part, part_scopes, parts_scopes}
use Rattle.pfc_types.specs.rules.Whole.{finished}
use Rattle.pfc_semantics.specs.Layouts.{Layout, main_layout}
use Rattle.pfc_semantics.specs.Programs.{Block, Guard, block_of, env_of_main, part_blocks, parts_blocks, program_of}
use Rattle.pfc_guard_laws.proofs.Lists.{all_append}
use Rattle.pfc_checked_guards.specs.Order.{Along, IsInOrder, IsForParameters, ProgramInOrder}
use Rattle.pfc_declared_order.specs.Before.{IsBefore, AreBefore}
use Rattle.pfc_declared_order.specs.Parts.{IsOfPart, seen_in, PartsStand}
use Rattle.pfc_declared_order.proofs.Before.{program_before}
use Rattle.pfc_declared_order.proofs.Parts.{parts_stand}
use Rattle.pfc_checked_order.specs.Order.{start_of, tops_of}
use Rattle.pfc_checked_order.proofs.Starts.{start_here, start_later, top_start}
use Rattle.pfc_ordered_programs.proofs.Lists.{all_weaker, all_both}
use Rattle.pfc_ordered_programs.proofs.Opening.{PartsOpen, parts_within, IsApart, Only, parts_apart, IsInit, inits_apart}
use Rattle.pfc_ordered_programs.proofs.Modules.{IsBeside, beside_rest, before_part, module_among}
use Rattle.pfc_ordered_programs.proofs.Naming.{top, Opens, named_sub, named_module}
use Rattle.pfc_ordered_programs.proofs.Order.{in_main, NamesInOrder, block_in_order}

none_guarded : (o : Option Guard) → o ≡ None → is_some o ≡ true → ⊥
none_guarded None e some = absurd (cc)
none_guarded (Some guard) e some = absurd (cc)

module _ (t : ProgramTree) (lawful : IsLawful (forget_program t)) where
  abbrev IsFit : ℕ → Block → Type 0
  IsFit i b = IsInOrder (program_of t) (Some (tops_of t)) (IsForParameters (program_of t)) i b

  -- ## Parts

  first_before : (n next : ℕ) (qs : PartTrees) → AreBefore (finished t) n next qs → IsBefore (finished t) n next
  first_before n next no_parts before = before
  first_before n next (more_parts q qs) before = before.0

  part_subs : (n next : ℕ) (q : PartTree) (qs : PartTrees) → AreBefore (finished t) n next (more_parts q qs) → (x : Text) (k : ℕ)
      → meaning_of (found_at (finished t).blocks.scopes (level 0 (seen_in (scope_at (finished t).blocks.scopes 0) n q)) x) ≡ Some (Sub k)
      → (sub_at (finished t).blocks k).scope < next + part_scopes q
  part_subs n next (monitor m) qs before x k e = (let is = (before.0.subs x k e).1 in omega (arith, is))
  part_subs n next (resource m) qs before x k e = (let is = (before.0.subs x k e).1 in omega (arith, is))
  part_subs n next (consts items) qs before x k e = ((first_before _ _ qs before.1).subs x k e).1
  part_subs n next (types items) qs before x k e = ((first_before _ _ qs before.1).subs x k e).1
  part_subs n next (vars vs) qs before x k e = ((first_before _ _ qs before.1).subs x k e).1
  part_subs n next (sub_part b) qs before x k e = ((first_before _ _ qs before.1).subs x k e).1
  part_subs n next (process_part p) qs before x k e = ((first_before _ _ qs before.1).subs x k e).1

  abbrev AreBeside : ℕ → PartTrees → Type 0
  AreBeside next qs = (k : ℕ) → k < length (finished t).blocks.modules → IsBeside next qs (module_at (finished t).blocks k).scope

  part_modules : (n next : ℕ) (q : PartTree) (qs : PartTrees) → AreBefore (finished t) n next (more_parts q qs) → AreBeside next (more_parts q qs)
      → (x : Text) (k : ℕ)
      → meaning_of (found_at (finished t).blocks.scopes (level 0 (seen_in (scope_at (finished t).blocks.scopes 0) n q)) x) ≡ Some (Module k)
      → (module_at (finished t).blocks k).scope < next
  part_modules n next (monitor m) qs before beside x k e = (before.0.modules x k e).1
  part_modules n next (resource m) qs before beside x k e = (before.0.modules x k e).1
  part_modules n next (consts items) qs before beside x k e =
      let is = (first_before _ _ qs before.1).modules x k e in before_part next (consts items) qs _ refl (beside k is.0) is.1
  part_modules n next (types items) qs before beside x k e =
      let is = (first_before _ _ qs before.1).modules x k e in before_part next (types items) qs _ refl (beside k is.0) is.1
  part_modules n next (vars vs) qs before beside x k e =
      let is = (first_before _ _ qs before.1).modules x k e in before_part next (vars vs) qs _ refl (beside k is.0) is.1
  part_modules n next (sub_part b) qs before beside x k e =
      let is = (first_before _ _ qs before.1).modules x k e in before_part next (sub_part b) qs _ refl (beside k is.0) is.1
  part_modules n next (process_part p) qs before beside x k e =
      let is = (first_before _ _ qs before.1).modules x k e in before_part next (process_part p) qs _ refl (beside k is.0) is.1

  parts_in_order :
      (n next : ℕ) (qs : PartTrees) → 1 ≤ next → ((j : ℕ) → next ≤ j → top t j ≡ start_of next qs j) → AreBefore (finished t) n next qs
      → PartsStand (finished t) n next qs → AreBeside next qs
      → AllByRecursion (NamesInOrder t lawful) (parts_blocks (finished t) false 0 n [] next qs)
  parts_in_order n next no_parts some is before stand beside = tt
  parts_in_order n next (more_parts q qs) some is before stand beside =
      let names = scope_at (finished t).blocks.scopes 0 in
      let hi = next + part_scopes q in
      let count = seen_in names n q in
      all_append (NamesInOrder t lawful) (part_blocks (finished t) false 0 n [] next q) _
      (all_weaker (IsOfPart (finished t) next hi count) (NamesInOrder t lawful)
      (λ b own. block_in_order t lawful next hi count some (λ j low high. is j low ∙ start_here next q qs j high)
      (λ x k e. part_subs n next q qs before x k e) (λ x k e. part_modules n next q qs before beside x k e) b own)
      (part_blocks (finished t) false 0 n [] next q) stand.0)
      (parts_in_order (passed_part names n q) hi qs (omega (arith, some)) (λ j low. is j (omega (arith, low)) ∙ start_later next q qs j low) before.1 stand.2
      (λ k low. beside_rest next q qs (module_at (finished t).blocks k).scope (beside k low)))

  -- ## Accepts

  accepts_fit : (b : Block) → IsApart (Opens t) (finished t) b → Along (IsForParameters (program_of t)) b.next (stmts_scopes b.stmts)
  accepts_fit b apart i low high =
      record {
        subs = λ x n e. apart i low high (named_sub t lawful i x n e).1.declares;
        modules = λ x n e. apart i low high (inl (named_module t lawful i x n e));
      }

  only_parts : Only (Opens t) (finished t) 1 (parts_scopes t.parts) (PartsOpen 1 t.parts)
  only_parts i low high (inl program) = absurd (omega (arith, program, low))
  only_parts i low high (inr is) = is

  -- ## The whole

  init_fit : (b : Block) → IsInit (Opens t) (finished t) b → IsFit 0 b
  init_fit b is =
      record {
        names = in_main t lawful b.env is.state;
        own = accepts_fit b is.apart;
        requeues = λ some x n e sort. absurd (none_guarded b.guard is.guard some);
      }

  main_fit : (b : BodyTree) (layout : Layout)
      → IsFit 0 (block_of 0 0 (env_of_main (finished t)) (1 + parts_scopes t.parts) b layout 0 None)
  main_fit (body ss from to) layout =
      let b = block_of 0 0 (env_of_main (finished t)) (1 + parts_scopes t.parts) (body ss from to) layout 0 None in
      record {
        names = in_main t lawful (env_of_main (finished t)) refl;
        own = accepts_fit b (λ i low high is. behind i low is);
        requeues = λ some x n e sort. absurd (cc);
      }
    where
      behind : (i : ℕ) → 1 + parts_scopes t.parts ≤ i → Opens t i → ⊥
      behind i low (inl program) = omega (arith, program, low)
      behind i low (inr is) = (let both = parts_within 1 t.parts i is in omega (arith, both.1, low))

  pub program_in_order : ProgramInOrder (program_of t) (Some (tops_of t))
  program_in_order =
      record {
        blocks = all_both (NamesInOrder t lawful) (IsApart (Opens t) (finished t)) (λ (b : Block). IsFit b.scope b)
            (λ b so apart. record { names = so.names; own = accepts_fit b apart; requeues = λ some. so.requeues }) (program_of t).blocks
            (parts_in_order 0 1 t.parts (omega arith) (λ j low. top_start t.parts j low) (program_before t lawful) (parts_stand (finished t) 0 1 t.parts)
            (λ k low. inr (module_among t k lawful low)))
            (parts_apart (Opens t) (finished t) false 0 0 [] 1 t.parts only_parts);
        modules = all_weaker (IsInit (Opens t) (finished t)) (IsFit 0) (λ b is. init_fit b is) (program_of t).modules
            (inits_apart (Opens t) (finished t) 0 1 t.parts only_parts);
        main = main_fit t.body (main_layout (finished t).blocks (scope_at (finished t).blocks.scopes 0));
      }
