-- What the declarations of a program make: the table of types, the scopes, and the headings.
use Rattle.std.specs.Prelude.{ℕ, ◌+◌, true, false, if◌then◌else◌, List, [], ◌∷◌, ◌++◌, get_or, set, Some, is_some}
use Rattle.pfc_base.specs.declared.places.Place.{Place}
use Rattle.pfc_base.specs.declared.faults.Refusal.{Refusal}
use Rattle.pfc_tree.specs.Symbols.{Text}
use Rattle.pfc_types.specs.Faults.{Faults, none, one, ◌⨾◌, unless}
use Rattle.pfc_types.specs.Scopes.{Names, meaning_in, scope_at}
use Rattle.pfc_types.specs.Types.{Forms}
use Rattle.pfc_types.specs.declared.types.TypeForm.{TypeForm}
use Rattle.pfc_types.specs.declared.scope.Meaning.{Meaning}
use Rattle.pfc_types.specs.declared.heads.Formal.{Formal}
use Rattle.pfc_types.specs.declared.heads.SubHead.{SubHead}
use Rattle.pfc_types.specs.declared.heads.SubSort.TheVariants.{Procedure}
use Rattle.pfc_types.specs.declared.heads.ModuleHead.{ModuleHead}
use Rattle.pfc_types.specs.declared.heads.ProcessHead.{ProcessHead}

-- the scopes of a program with all that is known beside them
pub record Blocks : Type 0 where
  -- one scope for each block and each accept, in the order of the text; the program's own is 0
  pub scopes : List Names
  -- the headings of all subs, in the order of the text
  pub subs : List SubHead
  -- the monitors and resources, in the order of the text
  pub modules : List ModuleHead
  -- the headings of the processes and process types, in the order of the text
  pub processes : List ProcessHead
  -- the parameters of the entries of all processes, in the order of the text
  pub entries : List (List Formal)
  -- how many processes the program's variables hold, counted up to 1,024
  pub population : ℕ
  -- the rules that are broken in declarations, in the order in which they are met
  pub noted : List Refusal

-- the table of types as it is so far, and the scopes
pub record State : Type 0 where
  pub forms : Forms
  pub blocks : Blocks

abbrev pub no_blocks : Blocks
no_blocks = record { scopes = []; subs = []; modules = []; processes = []; entries = []; population = 0; noted = [] }

-- ## One step of the scopes

abbrev pub opened : Blocks → Blocks
opened b = record b { scopes = b.scopes ++ [] ∷ [] }

-- with one name more in the scope i
abbrev pub with_name : Blocks → ℕ → Text → Meaning → Blocks
with_name b i x m = record b { scopes = set b.scopes i (scope_at b.scopes i ++ (x, m) ∷ []) }

abbrev pub with_sub : Blocks → SubHead → Blocks
with_sub b head = record b { subs = b.subs ++ head ∷ [] }

abbrev pub with_module : Blocks → ModuleHead → Blocks
with_module b head = record b { modules = b.modules ++ head ∷ [] }

abbrev pub with_process : Blocks → ProcessHead → Blocks
with_process b head = record b { processes = b.processes ++ head ∷ [] }

abbrev pub with_entry : Blocks → List Formal → Blocks
with_entry b formals = record b { entries = b.entries ++ formals ∷ [] }

abbrev pub with_population : Blocks → ℕ → Blocks
with_population b n = record b { population = n }

abbrev pub with_noted : Blocks → Refusal → Blocks
with_noted b f = record b { noted = b.noted ++ f ∷ [] }

-- a heading that is none: it is never read, since each number that a name stands for has its heading
abbrev pub no_sub : SubHead
no_sub = record { formals = []; sort = Procedure; scope = 0; exported = false }

abbrev pub no_module : ModuleHead
no_module = record { scope = 0; resource = false }

abbrev pub no_process : ProcessHead
no_process = record { formals = []; entries = 0; scope = 0 }

abbrev pub sub_at : Blocks → ℕ → SubHead
sub_at b n = get_or b.subs n no_sub

abbrev pub module_at : Blocks → ℕ → ModuleHead
module_at b n = get_or b.modules n no_module

abbrev pub process_at : Blocks → ℕ → ProcessHead
process_at b n = get_or b.processes n no_process

-- the parameters of entry k of process n
abbrev pub entry_at : Blocks → ℕ → ℕ → List Formal
entry_at b n k = get_or b.entries ((process_at b n).entries + k) []

-- with sub n exported
abbrev pub with_export : Blocks → ℕ → Blocks
with_export b n = record b { subs = set b.subs n (record (sub_at b n) { exported = true }) }

-- ## One step of the whole

abbrev pub open_scope : State → State
open_scope s = record s { blocks = opened s.blocks }

abbrev pub add_name : State → ℕ → Text → Meaning → State
add_name s i x m = record s { blocks = with_name s.blocks i x m }

abbrev pub add_sub : State → SubHead → State
add_sub s head = record s { blocks = with_sub s.blocks head }

abbrev pub add_module : State → ModuleHead → State
add_module s head = record s { blocks = with_module s.blocks head }

abbrev pub add_process : State → ProcessHead → State
add_process s head = record s { blocks = with_process s.blocks head }

abbrev pub add_entry : State → List Formal → State
add_entry s formals = record s { blocks = with_entry s.blocks formals }

abbrev pub add_form : State → TypeForm → State
add_form s form = record s { forms = s.forms ++ Some form ∷ [] }

abbrev pub export_sub : State → ℕ → State
export_sub s n = record s { blocks = with_export s.blocks n }

abbrev pub set_population : State → ℕ → State
set_population s n = record s { blocks = with_population s.blocks n }

-- the broken rules are noted, one after the other
abbrev pub note : State → Faults → State
note s none = s
note s (one f) = record s { blocks = with_noted s.blocks f }
note s (fs ⨾ gs) = note (note s fs) gs

-- A name is declared in the scope i. Where it is repeated, rule 302 is broken at it, and the first declaration counts.
abbrev pub declare : State → ℕ → Text × Place → Meaning → State
declare s i x m =
    if is_some (meaning_in (scope_at s.blocks.scopes i) x.0)
    then note s (unless false x.1 302)
    else add_name s i x.0 m
