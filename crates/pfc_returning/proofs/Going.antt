-- The end of a body, by whom it goes back to.
use Rattle.std.proofs.Common.{◌≡◌, ℕ, List, [], ◌∷◌, Some, Ok, refl, ap, ◌∙◌}
use Rattle.pfc_types.specs.rules.Expressions.{Env}
use Rattle.pfc_semantics.specs.Values.{Value}
use Rattle.pfc_semantics.specs.Programs.{Program}
use Rattle.pfc_semantics.specs.Remainders.{Context, Remainder, AwaitsValue, leave, in_names, scan_on}
use Rattle.pfc_semantics.specs.Rewriting.{Doing, going, holding}
use Rattle.pfc_semantics.specs.Configurations.{Mark, plain, of_monitor, of_resource, Caller, of_nobody, of_remainder, of_value, Activation, Config, Effect}
use Rattle.pfc_semantics.specs.Calls.{left_by, result_in}
use Rattle.pfc_semantics.specs.Monitors.{leaves_monitor}
use Rattle.pfc_semantics.specs.Processes.{ended_process}
use Rattle.pfc_semantics.specs.Resources.{scan_of}
use Rattle.pfc_semantics.specs.Steps.{returns_to, ends_for, ends_body}
use Rattle.pfc_returning.specs.declared.ways.Way.TheVariants as way
use Rattle.pfc_returning.specs.Ways.{way_to, way_from, doing_back}

-- What an end of a body comes to: the process goes back from the innermost of these activations, which has this number, and what else is done
-- is done to the configuration behind that.
pub record GoesBackBy (g : Program) (c : Config) (p : ℕ) (xs : List Activation) (i : ℕ) (v : Value) (also : Config → Config) : Type 0 where
  pub a : Activation
  pub below : List Activation
  pub doing : Doing
  pub living : xs ≡ a ∷ below
  pub number : i ≡ a.number
  pub back : doing_back a.caller v ≡ Some doing
  pub does : ends_body g c p xs ≡ Ok (also (left_by g c p a below doing))

abbrev nothing_more : Config → Config
nothing_more c = c

-- ## The end of a process

process_in :
    (g : Program) (c : Config) (p : ℕ) (a : Activation) (below : List Activation) (mark : Mark) (caller : Caller)
    → way.Process ≡ way_to a.number a.scope mark caller → ends_for g c p a below caller ≡ ended_process g c p
process_in g c p a below mark of_nobody e = refl
process_in g c p a below plain (of_remainder env k) e = absurd cc
process_in g c p a below (of_monitor m) (of_remainder env k) e = absurd cc
process_in g c p a below (of_resource r) (of_remainder env k) e = absurd cc
process_in g c p a below mark (of_value x u) e = absurd cc

pub process_way : (g : Program) (c : Config) (p : ℕ) (xs : List Activation) → way.Process ≡ way_from xs → ends_body g c p xs ≡ Ok (ended_process g c p)
process_way g c p [] e = refl
process_way g c p (a ∷ below) e = ap (λ (d : Config). (let r : Effect = Ok d in r)) (process_in g c p a below a.mark a.caller e)

-- ## A statement

statement_in :
    (g : Program) (c : Config) (p : ℕ) (a : Activation) (below : List Activation) (number : ℕ) (v : Value) (mark : Mark) (caller : Caller)
    → a.mark ≡ mark → a.caller ≡ caller → way.Statement number ≡ way_to a.number a.scope mark caller
    → GoesBackBy g c p (a ∷ below) number v nothing_more
statement_in g c p a below number v mark of_nobody of_mark of_caller e = absurd cc
statement_in g c p a below number v plain (of_remainder env k) of_mark of_caller e =
    record {
      a = a;
      below = below;
      doing = going env k;
      living = refl;
      number = cc;
      back = ap (λ (z : Caller). doing_back z v) of_caller;
      does =
          ap (λ (z : Caller). (let r : Effect = Ok (ends_for g c p a below z) in r)) of_caller
          ∙ ap (λ (z : Mark). (let r : Effect = Ok (returns_to g c p a below env k z) in r)) of_mark;
    }
statement_in g c p a below number v (of_monitor m) (of_remainder env k) of_mark of_caller e = absurd cc
statement_in g c p a below number v (of_resource r) (of_remainder env k) of_mark of_caller e = absurd cc
statement_in g c p a below number v mark (of_value x u) of_mark of_caller e = absurd cc

pub statement_way :
    (g : Program) (c : Config) (p : ℕ) (xs : List Activation) (number : ℕ) (v : Value)
    → way.Statement number ≡ way_from xs → GoesBackBy g c p xs number v (λ d. d)
statement_way g c p [] number v e = absurd cc
statement_way g c p (a ∷ below) number v e = statement_in g c p a below number v a.mark a.caller refl refl e

-- ## A monitor

monitor_in :
    (g : Program) (c : Config) (p : ℕ) (a : Activation) (below : List Activation) (number m : ℕ) (v : Value) (mark : Mark) (caller : Caller)
    → a.mark ≡ mark → a.caller ≡ caller → way.Monitor number m ≡ way_to a.number a.scope mark caller
    → GoesBackBy g c p (a ∷ below) number v (λ d. leaves_monitor d m)
monitor_in g c p a below number m v mark of_nobody of_mark of_caller e = absurd cc
monitor_in g c p a below number m v plain (of_remainder env k) of_mark of_caller e = absurd cc
monitor_in g c p a below number m v (of_monitor n) (of_remainder env k) of_mark of_caller e =
    let same : n ≡ m = cc in
    record {
      a = a;
      below = below;
      doing = going env k;
      living = refl;
      number = cc;
      back = ap (λ (z : Caller). doing_back z v) of_caller;
      does =
          ap (λ (z : Caller). (let r : Effect = Ok (ends_for g c p a below z) in r)) of_caller
          ∙ ap (λ (z : Mark). (let r : Effect = Ok (returns_to g c p a below env k z) in r)) of_mark
          ∙ ap (λ (i : ℕ). (let r : Effect = Ok (leaves_monitor (left_by g c p a below (going env k)) i) in r)) same;
    }
monitor_in g c p a below number m v (of_resource r) (of_remainder env k) of_mark of_caller e = absurd cc
monitor_in g c p a below number m v mark (of_value x u) of_mark of_caller e = absurd cc

pub monitor_way :
    (g : Program) (c : Config) (p : ℕ) (xs : List Activation) (number m : ℕ) (v : Value)
    → way.Monitor number m ≡ way_from xs → GoesBackBy g c p xs number v (λ d. leaves_monitor d m)
monitor_way g c p [] number m v e = absurd cc
monitor_way g c p (a ∷ below) number m v e = monitor_in g c p a below number m v a.mark a.caller refl refl e

-- ## The value of a function

-- the same, where the value is the result of that activation
pub record GivesBack (g : Program) (c : Config) (p : ℕ) (xs : List Activation) (i j : ℕ) : Type 0 where
  pub a : Activation
  pub below : List Activation
  pub x : Context
  pub u : AwaitsValue
  pub living : xs ≡ a ∷ below
  pub number : i ≡ a.number
  pub scope : j ≡ a.scope
  pub caller : a.caller ≡ of_value x u
  pub does : ends_body g c p xs ≡ Ok (left_by g c p a below (holding x (result_in g c a) u))

value_in :
    (g : Program) (c : Config) (p : ℕ) (a : Activation) (below : List Activation) (number scope : ℕ) (mark : Mark) (caller : Caller)
    → a.caller ≡ caller → way.Value number scope ≡ way_to a.number a.scope mark caller → GivesBack g c p (a ∷ below) number scope
value_in g c p a below number scope mark of_nobody of_caller e = absurd cc
value_in g c p a below number scope plain (of_remainder env k) of_caller e = absurd cc
value_in g c p a below number scope (of_monitor m) (of_remainder env k) of_caller e = absurd cc
value_in g c p a below number scope (of_resource r) (of_remainder env k) of_caller e = absurd cc
value_in g c p a below number scope mark (of_value x u) of_caller e =
    record {
      a = a;
      below = below;
      x = x;
      u = u;
      living = refl;
      number = cc;
      scope = cc;
      caller = of_caller;
      does = ap (λ (z : Caller). (let r : Effect = Ok (ends_for g c p a below z) in r)) of_caller;
    }

pub value_way :
    (g : Program) (c : Config) (p : ℕ) (xs : List Activation) (number scope : ℕ)
    → way.Value number scope ≡ way_from xs → GivesBack g c p xs number scope
value_way g c p [] number scope e = absurd cc
value_way g c p (a ∷ below) number scope e = value_in g c p a below number scope a.mark a.caller refl e

-- ## A resource

-- the same, where a scan comes behind it
pub record ScansBehind (g : Program) (c : Config) (p : ℕ) (xs : List Activation) (i r : ℕ) : Type 0 where
  pub a : Activation
  pub below : List Activation
  pub env : Env
  pub k : Remainder
  pub living : xs ≡ a ∷ below
  pub number : i ≡ a.number
  pub caller : a.caller ≡ of_remainder env k
  pub does : ends_body g c p xs ≡ Ok (left_by g c p a below (going env (scan_on (scan_of g r leave) (in_names env k))))

resource_in :
    (g : Program) (c : Config) (p : ℕ) (a : Activation) (below : List Activation) (number resource : ℕ) (mark : Mark) (caller : Caller)
    → a.mark ≡ mark → a.caller ≡ caller → way.Resource number resource ≡ way_to a.number a.scope mark caller
    → ScansBehind g c p (a ∷ below) number resource
resource_in g c p a below number resource mark of_nobody of_mark of_caller e = absurd cc
resource_in g c p a below number resource plain (of_remainder env k) of_mark of_caller e = absurd cc
resource_in g c p a below number resource (of_monitor m) (of_remainder env k) of_mark of_caller e = absurd cc
resource_in g c p a below number resource (of_resource r) (of_remainder env k) of_mark of_caller e =
    let same : r ≡ resource = cc in
    record {
      a = a;
      below = below;
      env = env;
      k = k;
      living = refl;
      number = cc;
      caller = of_caller;
      does =
          ap (λ (z : Caller). (let r : Effect = Ok (ends_for g c p a below z) in r)) of_caller
          ∙ ap (λ (z : Mark). (let r : Effect = Ok (returns_to g c p a below env k z) in r)) of_mark
          ∙ ap (λ (i : ℕ). (let r : Effect = Ok (left_by g c p a below (going env (scan_on (scan_of g i leave) (in_names env k)))) in r)) same;
    }
resource_in g c p a below number resource mark (of_value x u) of_mark of_caller e = absurd cc

pub resource_way :
    (g : Program) (c : Config) (p : ℕ) (xs : List Activation) (number resource : ℕ)
    → way.Resource number resource ≡ way_from xs → ScansBehind g c p xs number resource
resource_way g c p [] number resource e = absurd cc
resource_way g c p (a ∷ below) number resource e = resource_in g c p a below number resource a.mark a.caller refl refl e
