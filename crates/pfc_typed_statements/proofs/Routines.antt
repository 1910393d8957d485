-- Calls of predeclared procedures in which no rule is broken.
use Rattle.std.proofs.Common.{◌≡◌, ℕ, Bool, true, false, ◌&&◌, if◌then◌else◌, nat_lt, List, [], ◌∷◌, Some, None, refl}
use Rattle.pfc_base.specs.declared.places.Place.{Place}
use Rattle.pfc_tree.specs.trees.Exprs.{ActualTrees, no_actuals, more_actuals, actual, actual_width}
use Rattle.pfc_types.specs.Types.{integer, semaphore, condition}
use Rattle.pfc_types.specs.Scopes.{Level}
use Rattle.pfc_types.specs.declared.types.TypeId.{TypeId}
use Rattle.pfc_types.specs.declared.predeclared.PredeclaredName.{PredeclaredName}
use Rattle.pfc_types.specs.declared.predeclared.PredeclaredName.TheVariants as name
use Rattle.pfc_types.specs.declared.view.Around.{Around}
use Rattle.pfc_types.specs.rules.Routines.{Want, a_value, a_variable_of, Site as Stand, anywhere, in_main, in_monitor_sub, Routine, a_procedure}
use Rattle.pfc_types.specs.rules.Routines.{a_delay, a_reader, a_writer, routine_of, one_integer, one_semaphore, one_condition, ranked_condition}
use Rattle.pfc_types.specs.rules.Routines.{called_with, site_rule}
use Rattle.pfc_types.specs.rules.Expressions.{actual_count, count_rule, first_type, broken_actuals}
use Rattle.pfc_types.specs.rules.Calls.{asked, some_rule, broken_reads, broken_writes, call_routine}
use Rattle.pfc_types.proofs.Clean.{clean, and-left, and-right}
use Rattle.pfc_semantics.specs.Predeclared.{Procedure, reader, writer, initial, wait, signal, delay, resume, sleep, no_procedure, procedure_of}
use Rattle.pfc_semantics.specs.Programs.{Block, Program}
use Rattle.pfc_semantics.specs.Statements.{expr_of, behind_first}
use Rattle.pfc_translation.specs.Sites.{Site}
use Rattle.pfc_standing_code.specs.Typed.{IsGivenFirst, IsLentFirst}
use Rattle.pfc_standing_code.specs.TypedStatements.{IsNumber, IsRank, IsProcedure}
use Rattle.pfc_typed_phrases.specs.Names.{AreKnown}
use Rattle.pfc_typed_phrases.specs.Phrases.{AreWanted, AreAsked}
use Rattle.pfc_typed_phrases.proofs.Rules.{holds}
use Rattle.pfc_typed_phrases.proofs.Names.{site_in}
use Rattle.pfc_typed_phrases.proofs.Phrases.{actuals_typed}
use Rattle.pfc_typed_statements.proofs.Items.{writes_typed, reads_typed}

-- ## A predeclared procedure by its rule and by its meaning

data IsPair : Routine → Procedure → Type 0 where
  reads : (some skip : Bool) → IsPair (a_reader some) (reader skip)
  writes : (some newline : Bool) → IsPair (a_writer some) (writer newline)
  starts : (stand : Stand) → IsPair (a_procedure (a_variable_of (Some semaphore) ∷ a_value (Some integer) ∷ []) stand) initial
  waits : (stand : Stand) → IsPair (a_procedure one_semaphore stand) wait
  signals : (stand : Stand) → IsPair (a_procedure one_semaphore stand) signal
  delays : IsPair a_delay delay
  resumes : (stand : Stand) → IsPair (a_procedure one_condition stand) resume
  sleeps : (stand : Stand) → IsPair (a_procedure one_integer stand) sleep
  no_pair : {r : Routine} → IsPair r no_procedure

procedure_pair : (k : PredeclaredName) → IsPair (routine_of k) (procedure_of k)
procedure_pair name.Any = no_pair
procedure_pair name.Abs = no_pair
procedure_pair name.Sqr = no_pair
procedure_pair name.Odd = no_pair
procedure_pair name.Ord = no_pair
procedure_pair name.Chr = no_pair
procedure_pair name.Succ = no_pair
procedure_pair name.Pred = no_pair
procedure_pair name.Eof = no_pair
procedure_pair name.Eoln = no_pair
procedure_pair name.Empty = no_pair
procedure_pair name.Clock = no_pair
procedure_pair name.Random = no_pair
procedure_pair name.Read = reads true false
procedure_pair name.Readln = reads false true
procedure_pair name.Write = writes true false
procedure_pair name.Writeln = writes false true
procedure_pair name.Initial = starts in_main
procedure_pair name.Wait = waits anywhere
procedure_pair name.Signal = signals anywhere
procedure_pair name.Delay = delays
procedure_pair name.Resume = resumes in_monitor_sub
procedure_pair name.Sleep = sleeps anywhere

-- ## Arguments that are wanted

lent_first : (s : Site) (t : TypeId) (args : ActualTrees) (wants : List Want) → AreWanted s (a_variable_of (Some t) ∷ wants) args → IsLentFirst s args (Some t)
lent_first s t no_actuals wants h = absurd h
lent_first s t (more_actuals a rest) wants h = h.0

given_first : (s : Site) (args : ActualTrees) (wants : List Want) → AreWanted s (a_value (Some integer) ∷ wants) args → IsGivenFirst s args
given_first s no_actuals wants h = absurd h
given_first s (more_actuals a rest) wants h = h.0.0

-- behind a first argument stands a number
number_second : (s : Site) (first : Want) (args : ActualTrees) → AreWanted s (first ∷ a_value (Some integer) ∷ []) args →
    IsNumber s (expr_of (behind_first args))
number_second s first no_actuals h = absurd h
number_second s first (more_actuals a no_actuals) h = absurd h.1
number_second s first (more_actuals a (more_actuals (actual e) rest)) h = h.1.0.0
number_second s first (more_actuals a (more_actuals (actual_width e w) rest)) h = h.1.0.0

as_rank : (s : Site) (args : ActualTrees) → IsNumber s (expr_of (behind_first args)) → IsRank s (expr_of (behind_first args))
as_rank s no_actuals h = tt
as_rank s (more_actuals a no_actuals) h = tt
as_rank s (more_actuals a (more_actuals b rest)) h = h

none_second : (s : Site) (first : Want) (args : ActualTrees) → AreWanted s (first ∷ []) args → IsRank s (expr_of (behind_first args))
none_second s first no_actuals h = absurd h
none_second s first (more_actuals a no_actuals) h = tt
none_second s first (more_actuals a (more_actuals b rest)) h = absurd h.1

module _ (g : Program) (block : Block) (view : List Level) (around : Around) (line : ℕ) (known : AreKnown (site_in g block view around line)) where
  abbrev pub s : Site
  s = site_in g block view around line

  -- what is asked of arguments
  pub asked_wanted :
      (wants : List Want) (stand : Stand) (p : Place) (args : ActualTrees) → AreAsked wants →
      clean (asked s.env (called_with wants stand) p args) ≡ true → AreWanted s wants args
  asked_wanted wants stand p args are h =
      let one = clean (count_rule (called_with wants stand) args p) in
      let two = clean (broken_actuals s.env None true wants args) in
      let last = clean (site_rule around stand (first_type s.env args) p) in
      (actuals_typed g block view around line known None wants args are (holds _ p 316 (and-left one (two && last) h))
      (and-left two last (and-right one (two && last) h))).0

  routine_typed :
      (r : Routine) (procedure : Procedure) (p : Place) (args : ActualTrees) → IsPair r procedure →
      clean (call_routine s.env r p args) ≡ true → IsProcedure s procedure args
  routine_typed r procedure p args (reads some skip) h =
      reads_typed g block view around line known args (and-right (clean (some_rule some args p)) (clean (broken_reads s.env args)) h)
  routine_typed r procedure p args (writes some newline) h =
      writes_typed g block view around line known args (and-right (clean (some_rule some args p)) (clean (broken_writes s.env args)) h)
  routine_typed r procedure p args (starts stand) h =
      let is = asked_wanted (a_variable_of (Some semaphore) ∷ a_value (Some integer) ∷ []) stand p args ((semaphore, refl), ((integer, refl), tt)) h in
      (lent_first s semaphore args (a_value (Some integer) ∷ []) is, number_second s (a_variable_of (Some semaphore)) args is)
  routine_typed r procedure p args (waits stand) h = lent_first s semaphore args [] (asked_wanted one_semaphore stand p args ((semaphore, refl), tt) h)
  routine_typed r procedure p args (signals stand) h = lent_first s semaphore args [] (asked_wanted one_semaphore stand p args ((semaphore, refl), tt) h)
  routine_typed r procedure p args (resumes stand) h = lent_first s condition args [] (asked_wanted one_condition stand p args ((condition, refl), tt) h)
  routine_typed r procedure p args (sleeps stand) h = given_first s args [] (asked_wanted one_integer stand p args ((integer, refl), tt) h)
  routine_typed r procedure p args no_pair h = tt
  routine_typed r procedure p args delays h = by (nat_lt 1 (actual_count args)) h
    where
      by : (b : Bool) → clean (asked s.env (called_with (if b then ranked_condition else one_condition) in_monitor_sub) p args) ≡ true →
          IsProcedure s delay args
      by true h =
          let is = asked_wanted ranked_condition in_monitor_sub p args ((condition, refl), ((integer, refl), tt)) h in
          (lent_first s condition args (a_value (Some integer) ∷ []) is, as_rank s args (number_second s (a_variable_of (Some condition)) args is))
      by false h =
          let is = asked_wanted one_condition in_monitor_sub p args ((condition, refl), tt) h in
          (lent_first s condition args [] is, none_second s (a_variable_of (Some condition)) args is)

  pub predeclared_typed : (k : PredeclaredName) (p : Place) (args : ActualTrees) →
      clean (call_routine s.env (routine_of k) p args) ≡ true → IsProcedure s (procedure_of k) args
  predeclared_typed k p args h = routine_typed (routine_of k) (procedure_of k) p args (procedure_pair k) h
