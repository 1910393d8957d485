-- What precedes a run, and who picks in it.
use Rattle.std.specs.Prelude.{◌≡◌, ℕ, List, [], ◌++◌, if◌then◌else◌, Err}
use Rattle.pfc_code.specs.Images.{PlainImage}
use Rattle.pfc_code.specs.Printing.{code_text}
use Rattle.pfc_report.specs.Listings.{listing_text}
use Rattle.pfc_sched.specs.declared.script_text.ScriptFault.{ScriptFault}
use Rattle.pfc_sched.specs.declared.script_text.ScriptFault.TheVariants.{NotANumber, Memory}
use Rattle.pfc_outcome.specs.declared.options.Options.{Options}
use Rattle.pfc_outcome.specs.Requests.{Request, policy_of}

-- the listing and the code text, as far as they are asked for
abbrev pub list_text : Options → List ℕ → PlainImage → List ℕ
list_text options text image = (if options.list then listing_text text else []) ++ (if options.code then code_text image else [])

-- the request has no policy: its script has this item, counted from 1, that is no number, unless memory is wanting
abbrev pub IsNoPolicy : Request → ScriptFault → Type 0
IsNoPolicy request (NotANumber item) = policy_of request ≡ Err item
IsNoPolicy request Memory = Unit {0}
