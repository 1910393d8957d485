-- A sub that is no function and stands in a module is a procedure that can be called from outside.
use Rattle.std.proofs.Common.{◌≡◌, ℕ, ◌<◌, ◌==◌, false, List, length, Some, refl, sym, ap, ◌∙◌, subst}
use Rattle.std.specs.Prelude.{position, unwrap_or}
use Rattle.pfc_code.specs.declared.instructions.Instr.TheVariants.{RET}
use Rattle.pfc_tree.specs.trees.Parts.{ProgramTree}
use Rattle.pfc_types.specs.Blocks.{sub_at}
use Rattle.pfc_types.specs.declared.heads.Formal.{Formal}
use Rattle.pfc_types.specs.declared.heads.SubHead.{SubHead}
use Rattle.pfc_types.specs.declared.heads.SubSort.{SubSort}
use Rattle.pfc_types.specs.declared.heads.SubSort.TheVariants.{Procedure, Guarded, Function}
use Rattle.pfc_types.specs.rules.Routines.{is_function_sort}
use Rattle.pfc_semantics.specs.Layouts.{sub_with}
use Rattle.pfc_semantics.specs.Programs.{Block, block_at, block_number, program_of}
use Rattle.pfc_translation.specs.Images.{end_of}
use Rattle.pfc_callee_laws.specs.Callees.{IsSubBlock, IsCalledFrom, IsOfModule}
use Rattle.pfc_callee_laws.proofs.Blocks.{sub_block}
use Rattle.pfc_representation.specs.Levels.{IsProgram}
use Rattle.pfc_kept_calls.proofs.Callable.{one_head, number_is}
use Rattle.pfc_kept_modules.specs.Exported.{IsExported}

pub procedure_end : (head : SubHead) → is_function_sort head.sort ≡ false → end_of (Some head) ≡ RET
procedure_end head e = by head.sort e
  where
    by : (sort : SubSort) → is_function_sort sort ≡ false → end_of (Some (record head { sort = sort })) ≡ RET
    by Procedure e = refl
    by Guarded e = refl
    by (Function t) e = absurd (cc)

module _ (t : ProgramTree) (is : IsProgram t) (i : ℕ) (among : i < length (program_of t).state.blocks.subs) where
  abbrev head : SubHead
  head = sub_at (program_of t).state.blocks i

  block : IsSubBlock t head
  block = sub_block t is.lawful is.unbroken i among

  -- what is called by its scope
  pub same_head : (b : Block) (scope : ℕ) (formals : List Formal) (asked : ℕ → SubSort → Type 0) → scope ≡ head.scope
      → (called : IsCalledFrom t b scope formals asked) → called.head ≡ head
  same_head b scope formals asked scope_is called =
      one_head called.head head (sym called.sub.headed ∙ ap (λ (j : ℕ). sub_with (program_of t).state.blocks.subs j) (sym called.own_scope ∙ scope_is)
      ∙ block.headed)

  pub exported_sub : (n scope : ℕ) → scope ≡ head.scope → is_function_sort head.sort ≡ false → IsOfModule t n (block_at (program_of t) scope)
      → IsExported t n (block_number (program_of t) scope) (block_at (program_of t) scope) head.formals
  exported_sub n scope scope_is plain inside =
      let whole = block.activated in
      let there : IsOfModule t n (block_at (program_of t) head.scope) =
      subst (λ (z : ℕ). IsOfModule t n (block_at (program_of t) z)) scope_is inside in
      subst (λ (z : ℕ). IsExported t n (block_number (program_of t) z) (block_at (program_of t) z) head.formals) (sym scope_is)
      (record {
        among = there.among;
        inside = there.inside;
        head = head;
        headed = ap (λ (j : ℕ). sub_with (program_of t).state.blocks.subs j) whole.own_scope ∙ block.headed;
        formals_are = refl;
        procedure = procedure_end head plain;
        there = whole.there;
        code = whole.code;
        is = whole.is;
        number = sym (number_is (program_of t).blocks (block_number (program_of t) head.scope) head.scope (length (program_of t).blocks)
            (block_at (program_of t) head.scope) whole.there whole.own_scope)
            ∙ ap (λ (j : ℕ). unwrap_or (position (λ (d : Block). d.scope == j) (program_of t).blocks) (length (program_of t).blocks))
            (sym whole.own_scope);
        takes = whole.takes;
        own = block.own;
        scopes = whole.scopes;
        nested = there.nested;
        objects = whole.objects;
        apart = whole.apart;
        known = whole.known;
        state = whole.state;
      })
