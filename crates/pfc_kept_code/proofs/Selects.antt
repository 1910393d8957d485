-- Selects and guards are kept.
use Rattle.std.proofs.Common.{ℕ, ◌+◌, List, [], ◌∷◌, Some, None}
use Rattle.pfc_code.specs.declared.instructions.Instr.{Instr}
use Rattle.pfc_semantics.specs.Programs.{Block}
use Rattle.pfc_semantics.specs.Remainders.{Context, Offer, Open, Alternative, Selecting, Bar, to_send, to_receive, to_accept, to_wait, to_end}
use Rattle.pfc_translation.specs.Sites.{Site}
use Rattle.pfc_translation.specs.Codes.{Code}
use Rattle.pfc_translation.specs.Selects.{alternatives_code}
use Rattle.pfc_types.specs.rules.Statements.{comm_scopes}
use Rattle.pfc_standing_code.specs.Settings.{View, Setting}
use Rattle.pfc_standing_code.specs.Effects.{Arm}
use Rattle.pfc_standing_code.specs.Typed.{unlined}
use Rattle.pfc_standing_code.specs.Words.{names_at}
use Rattle.pfc_standing_code.specs.Performs.{AlternativesAt, IsOpen, AreOpen, SelectAt, CommAt, GuardAt}
use Rattle.pfc_standing_code.specs.Awaits.{ArmAt}
use Rattle.pfc_kept_code.specs.Kept.{AgreeAt}
use Rattle.pfc_kept_code.proofs.Seen.{stands_seen, branch_seen, comm_branch_seen, branches_seen, decides_seen}
use Rattle.pfc_kept_code.proofs.Words.{names_kept, sent_kept, received_kept}

module _ (g : Setting) (view : View) (s : Site) (agree : AgreeAt (unlined s) g.view view) (P Q : ℕ → Type 0) (f : (end : ℕ) → P end → Q end) where
  abbrev other : Setting
  other = record g { view = view }

  open_kept : (held : ℕ) (o : Open) (offer : Offer) (arm : Arm) → IsOpen g s held o offer arm P → IsOpen other s held o offer arm Q
  open_kept held o (to_send channel v) arm h =
      (h.0, h.1, h.2, sent_kept g view s agree channel v h.1 arm.operands h.3, branch_seen g view s h.0 held o.replica None o.next o.stmts P Q f h.4)
  open_kept held o (to_receive channel target) arm h =
      (h.0, h.1, h.2, received_kept g view s agree channel h.1 arm.operands target h.3, branch_seen g view s h.0 held o.replica None o.next o.stmts P Q f h.4)
  open_kept held o (to_accept a) arm h = (h.0, h.1, h.2, branch_seen g view s h.0 held o.replica (Some a) o.next o.stmts P Q f h.3)
  open_kept held o (to_wait n) arm h = (h.0, h.1, h.2, h.3, branch_seen g view s h.0 held o.replica None o.next o.stmts P Q f h.4)
  open_kept held o to_end arm h = h

  are_open_kept : (held : ℕ) (os : List Open) (arms : List Arm) → AreOpen g s held os arms P → AreOpen other s held os arms Q
  are_open_kept held [] [] h = tt
  are_open_kept held [] (arm ∷ arms) h = absurd h
  are_open_kept held (o ∷ os) [] h = absurd h
  are_open_kept held (o ∷ os) (arm ∷ arms) h = (open_kept held o o.offer arm h.0, are_open_kept held os arms h.1)

  alternatives_kept : (x : Context) (at held : ℕ) (alts : List Alternative) (sel : Selecting) → AlternativesAt g s x at held alts sel P
      → AlternativesAt other s x at held alts sel Q
  alternatives_kept x at held alts sel h =
      let end = at + (alternatives_code s alts h.distances).size in
      record {
        typed = h.typed;
        distances = h.distances;
        n = h.n;
        code = stands_seen g view at h.n held (alternatives_code s alts h.distances) h.code;
        decision = decides_seen g view s end held sel.pri sel.otherwise P Q f h.decision;
        branches = branches_seen g view s x (end + 1) held alts h.distances P Q f h.branches;
      }

  pub select_kept : (x : Context) (at held : ℕ) (alts : List Alternative) (sel : Selecting) (arms : List Arm) → SelectAt g s x at held alts sel arms P
      → SelectAt other s x at held alts sel arms Q
  select_kept x at held alts sel arms h =
      record {
        left = alternatives_kept x at held alts sel h.left;
        open_ones = are_open_kept held sel.offered arms h.open_ones;
        room = h.room;
        ahead = h.ahead;
        end = h.end;
        left_behind = f h.end h.left_behind;
      }

  pub comm_kept : (x : Context) (at above held : ℕ) (a : Alternative) (rest : List Alternative) (sel : Selecting) (arms : List Arm) (code : ℕ → Code)
      → CommAt g s x at above held a rest sel arms code P → CommAt other s x at above held a rest sel arms code Q
  comm_kept x at above held a rest sel arms code h =
      record {
        comm = h.comm;
        between = h.between;
        n = h.n;
        stands = stands_seen g view at h.n above (code h.between) h.stands;
        branch = comm_branch_seen g view s x (at + (code h.between).size + h.between) held a a.comm P Q f h.branch;
        others = select_kept x (at + (code h.between).size) held rest sel arms h.others;
        room = h.room;
        far = h.far;
      }

  pub arm_kept : (x : Context) (at held : ℕ) (a : Alternative) (rest : List Alternative) (sel : Selecting) (arms : List Arm) (i : ℕ → Instr)
      → ArmAt g s x at held a rest sel arms i P → ArmAt other s x at held a rest sel arms i Q
  arm_kept x at held a rest sel arms i h =
      record {
        to = h.to;
        makes = h.makes;
        branch = branch_seen g view s h.to held a.replica None (a.next + comm_scopes a.comm) a.stmts P Q f h.branch;
        others = select_kept x (at + 1) held rest sel arms h.others;
        room = h.room;
        far = h.far;
      }

pub guard_kept : (g : Setting) (view : View) (b : Block) (bar : Bar) (at held : ℕ) (P Q : ℕ → Type 0) → AgreeAt (names_at g b bar.context.env) g.view view
    → ((end : ℕ) → P end → Q end) → GuardAt g b bar at held P → GuardAt (record g { view = view }) b bar at held Q
guard_kept g view b bar at held P Q agree f h = (names_kept g view b bar.context.env agree h.0, h.1, h.2, stands_seen g view at h.2 held _ h.3, f _ h.4, h.5)
