-- What rendezvous ask of the processes of a program is so of every checked one.
use Rattle.std.proofs.Common.{◌≡◌, ℕ, ◌<◌, Bool, true, is_some, List, [], ◌∷◌, length, Option, Some, None, refl, sym, ap, ◌∙◌, subst}
use Rattle.pfc_tree.specs.trees.Parts.{ProgramTree}
use Rattle.pfc_types.specs.Blocks.{process_at, entry_at}
use Rattle.pfc_types.specs.declared.types.TypeId.{TypeId}
use Rattle.pfc_types.specs.declared.heads.Formal.{Formal}
use Rattle.pfc_types.specs.declared.scope.Meaning.TheVariants.{Variable}
use Rattle.pfc_types.specs.rules.FaultyNames.{all_typed}
use Rattle.pfc_semantics.specs.Layouts.{sub_with}
use Rattle.pfc_semantics.specs.Programs.{block_at, program_of}
use Rattle.pfc_translation.specs.Sites.{is_mains}
use Rattle.pfc_image_numbers.proofs.Rules.{and_left, and_right}
use Rattle.pfc_call_laws.specs.Blocks.{AreLaidAs}
use Rattle.pfc_callee_laws.proofs.Blocks.{process_block}
use Rattle.pfc_callee_laws.proofs.Processes.{process_declared, process_apart, process_once, entry_typed}
use Rattle.pfc_representation.specs.Levels.{IsProgram}
use Rattle.pfc_representation.specs.Hands.{laid_parameter, laid_parameters}
use Rattle.pfc_kept_meetings.specs.Accepts.{IsProcessBlock, HasProcesses}
use Rattle.pfc_kept_meetings.specs.Owners.{HasTypedEntries}

pub has_processes : (t : ProgramTree) → IsProgram t → HasProcesses t
has_processes t is =
    record {
      blocks = block;
      once = λ n k less few same. process_once t is.lawful is.unbroken n k less few same;
      declared = λ q some few. process_declared t is.lawful q some few;
    }
  where
    block : (n : ℕ) → n < length (program_of t).state.blocks.processes
        → IsProcessBlock (program_of t) n (block_at (program_of t) (process_at (program_of t).state.blocks n).scope)
    block n below =
        let told = process_block t is.lawful is.unbroken n below in
        let apart = process_apart t is.lawful is.unbroken n below in
        let whole = told.activated in
        record {
          scope = whole.own_scope;
          no_sub = ap (λ (i : ℕ). sub_with (program_of t).state.blocks.subs i) whole.own_scope ∙ apart.no_sub;
          no_body = λ j c at same. apart.no_body j c at (same ∙ whole.own_scope);
          outer = subst (λ (i : ℕ). is_mains (program_of t).state.blocks i ≡ true) (sym told.outer) refl;
          objects = whole.objects;
          sized = apart.sized;
          accepts = apart.accepts;
        }

laid_as : (formals : List Formal) → all_typed formals ≡ true → AreLaidAs formals (laid_parameters formals)
laid_as [] h = tt
laid_as (f ∷ formals) h = (one f.t f.reference (and_left (is_some f.t) (all_typed formals) h), laid_as formals (and_right (is_some f.t) (all_typed formals) h))
  where
    one : (o : Option TypeId) (r : Bool) → is_some o ≡ true → (t : TypeId) × (o ≡ Some t) × (laid_parameter o r ≡ Variable t r)
    one None r h = absurd (cc)
    one (Some t) r h = (t, refl, refl)

pub has_typed_entries : (t : ProgramTree) → IsProgram t → HasTypedEntries t
has_typed_entries t is =
    record {
      typed = λ n entry below. laid_as (entry_at (program_of t).state.blocks n entry) (entry_typed t is.lawful is.unbroken n entry);
    }
