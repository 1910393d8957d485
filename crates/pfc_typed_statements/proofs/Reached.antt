-- What is known of a program in which no rule is broken, beside where its names have their places.
use Rattle.std.proofs.Common.{◌≡◌, ◌≢◌, ℕ, [], Option, Some, sym, subst}
use Rattle.std.specs.Option.{IfSome}
use Rattle.pfc_tree.specs.Symbols.{Text}
use Rattle.pfc_tree.specs.trees.Parts.{ProgramTree}
use Rattle.pfc_types.specs.Scopes.{meaning_in, scope_at}
use Rattle.pfc_types.specs.Blocks.{State}
use Rattle.pfc_types.specs.rules.Whole.{finished, broken, types_of}
use Rattle.pfc_types.specs.declared.scope.Meaning.{Meaning}
use Rattle.pfc_types.specs.declared.scope.Meaning.TheVariants.{Faulty}
use Rattle.pfc_name_laws.specs.Reached.{IsNumbered}
use Rattle.pfc_name_laws.proofs.Numbers.{numbered, meaning_numbered, none_noted}
use Rattle.pfc_name_laws.proofs.Parts.{finished_reached}
use Rattle.pfc_type_laws.proofs.WalkBlocks.{types_built}
use Rattle.pfc_type_laws.proofs.SoundTables.{built_sound}
use Rattle.pfc_translation.specs.Sites.{Site}
use Rattle.pfc_standing_code.specs.Shapes.{IsSound}
use Rattle.pfc_typed_statements.specs.Reached.{AreReached, AreCallable, HaveResults, HaveStarts}

pub reached_known : (t : ProgramTree) (s : Site) → s.program.state ≡ finished t → HaveResults s → AreReached s
reached_known t s program have =
    record {
      sound = subst (λ (k : State). IsSound k.forms) (sym program) (built_sound (types_of t) (types_built t));
      filled = have.filled;
      results = have.results;
      guarded = have.guarded;
      near = have.near;
      lasting = have.lasting;
    }

none_faulty : (t : ProgramTree) → broken t ≡ [] → (i : ℕ) (x : Text) → meaning_in (scope_at (finished t).blocks.scopes i) x ≢ Some Faulty
none_faulty t lawful i x e =
    subst (λ (m : Option Meaning). IfSome m (IsNumbered (finished t).blocks i)) e
    (meaning_numbered (finished t) (numbered (finished t) (finished_reached t)) i x)
    (none_noted t lawful)

pub callable_known : (t : ProgramTree) (s : Site) → broken t ≡ [] → s.program.state ≡ finished t → HaveStarts s → AreCallable s
callable_known t s lawful program have =
    record {
      singles = have.singles;
      processes = have.processes;
      entries = have.entries;
      modules = have.modules;
      exported = have.exported;
      faulty = subst (λ (k : State). (i : ℕ) (x : Text) → meaning_in (scope_at k.blocks.scopes i) x ≢ Some Faulty) (sym program) (none_faulty t lawful);
    }
