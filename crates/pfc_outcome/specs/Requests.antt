-- What the options ask for over loaded files: of a text, and of a run.
use Rattle.std.specs.Prelude.{ℕ, List, Bool, true, false, Option, Some, None, option_map, Result, Ok, Err}
use Rattle.pfc_sched.specs.declared.picking.Policy.{Policy}
use Rattle.pfc_sched.specs.declared.picking.Policy.TheVariants.{Fair, Unfair, Script}
use Rattle.pfc_sched.specs.Script.{script}
use Rattle.pfc_outcome.specs.Options.{Asked}

-- what is asked for of a text
pub record Request : Type 0 where
  pub input : List ℕ
  -- the bytes of the script, where there is one
  pub script : Option (List ℕ)
  pub seed : ℕ
  pub unfair : Bool
  pub limit : ℕ
  -- the listing of the text, and its code text
  pub list : Bool
  pub code : Bool

-- what the options ask for, with these bytes as the input, and these as the script where one is asked for
abbrev pub request_of : Asked → List ℕ → List ℕ → Request
request_of asked input script_bytes = record {
  input = input;
  script = option_map (λ name. script_bytes) asked.script;
  seed = asked.seed;
  unfair = asked.unfair;
  limit = asked.limit;
  list = asked.list;
  code = asked.code;
}

-- the numbers of a script pick, or the number, from 1, of its first item that is none is told
abbrev pub script_policy : Result (List ℕ) ℕ → Result Policy ℕ
script_policy (Ok numbers) = Ok (Script numbers)
script_policy (Err item) = Err item

abbrev pub policy_by : Option (List ℕ) → Bool → ℕ → Result Policy ℕ
policy_by (Some bytes) unfair seed = script_policy (script bytes)
policy_by None true seed = Ok Unfair
policy_by None false seed = Ok (Fair seed)

-- Who picks: the script, where there is one; else the process picked last goes on, where that is asked for; else the words of the seed pick.
abbrev pub policy_of : Request → Result Policy ℕ
policy_of request = policy_by request.script request.unfair request.seed

-- how a program is run
pub record Settings : Type 0 where
  pub input : List ℕ
  -- the seed of `random`
  pub seed : ℕ
  -- who picks
  pub policy : Policy
  -- the most actions
  pub limit : ℕ

-- the run that is asked for, where this policy picks
abbrev pub settings_of : Request → Policy → Settings
settings_of request policy = record {
  input = request.input;
  seed = request.seed;
  policy = policy;
  limit = request.limit;
}
