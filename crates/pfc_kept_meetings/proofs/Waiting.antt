-- An owner that waits to accept an entry: which accept both sides find, and what is told of it.
use Rattle.std.proofs.Common.{◌≡◌, ℕ, zero, suc, ◌<◌, ◌≤◌, ℤ, Bool, true, false, if◌then◌else◌, List, [], ◌∷◌, length, slice_get, Option, Some, None, refl, ap}
use Rattle.std.proofs.Common.{◌∙◌, subst}
use Rattle.std.specs.Prelude.{is_some}
use Rattle.pfc_tree.specs.trees.Stmts.{StmtTrees}
use Rattle.pfc_state.specs.declared.waits.Arm.{Arm as WaitArm}
use Rattle.pfc_state.specs.declared.waits.Arm.TheVariants.{Accept as Entered}
use Rattle.pfc_world.specs.Partners.{ticket_open_to}
use Rattle.pfc_world.specs.Tables.{at}
use Rattle.pfc_semantics.specs.Channels as text
use Rattle.pfc_semantics.specs.Channels.{Side, first_open}
use Rattle.pfc_semantics.specs.Programs.{Block, Program}
use Rattle.pfc_semantics.specs.Remainders.{Context, Accepting, Offer, Open, Remainder, Replica, to_send, to_receive, to_accept, to_wait, to_end}
use Rattle.pfc_semantics.specs.Configurations.{Config, activity_of}
use Rattle.pfc_code.specs.declared.instructions.Instr.{Instr}
use Rattle.pfc_code.specs.declared.instructions.Instr.TheVariants.{ARMA}
use Rattle.pfc_translation.specs.Sites.{Site, is_accept}
use Rattle.pfc_translation.specs.Selects.{accept_cell, accept_cells}
use Rattle.pfc_stacks.specs.Stacks.{stack_of}
use Rattle.pfc_machines.specs.declared.machine.Machine.{Machine}
use Rattle.pfc_machines.specs.declared.alternatives.Offer.TheVariants.{Accept as AcceptOffer}
use Rattle.pfc_machines.specs.Descriptors.{descriptor_of}
use Rattle.pfc_standing_code.specs.Effects.{Arm}
use Rattle.pfc_standing_code.specs.Settings.{Setting, of_own, site_of, SeesAccepts}
use Rattle.pfc_standing_code.specs.Performs.{MetAt, BranchAt, IsOpen, AreOpen, Performs}
use Rattle.pfc_standing_code.specs.TypedStatements.{AcceptsEntry}
use Rattle.pfc_following_source.specs.Behind.{BehindAccept, BehindOpen, branch_of}
use Rattle.pfc_representation.specs.Alternatives.{IsMadeBy}
use Rattle.pfc_representation.specs.Levels.{Facts, program_in, LivingLevel}
use Rattle.pfc_representation.specs.Rooms.{MayMeet, MayMeetBy, process_count}
use Rattle.pfc_representation.specs.Acting.{IsActing}
use Rattle.pfc_representation.specs.Holding.{holders_in}
use Rattle.pfc_kept_messages.proofs.Finding as finding
use Rattle.pfc_kept_messages.proofs.Meeting.{is_process}
use Rattle.pfc_kept_messages.proofs.Partner.{IsShowing}
use Rattle.pfc_call_laws.proofs.Displays.{same_of}
use Rattle.pfc_kept_meetings.specs.Owners.{HasTypedEntries}
use Rattle.pfc_kept_meetings.specs.Accepts.{HasProcesses, KeepsAccepts}
use Rattle.pfc_kept_meetings.proofs.Apart.{AreApart}
use Rattle.pfc_kept_meetings.specs.Waiting.{StandsWithin, KeepsOffers}
use Rattle.pfc_kept_meetings.proofs.Standing as standing

-- ## The accept

-- what is met by a call is an accept of the entry
accept_of : (g : Program) (c : Config) (q e : ℕ) (offer : Offer) → text.is_arm (Entered e) (text.arm_of g c q offer) ≡ true
    → (a : Accepting) × (offer ≡ to_accept a) × (a.entry ≡ e)
accept_of g c q e (to_send channel v) is = absurd (let no : false ≡ true = is in (let none : ⊥ = cc in none))
accept_of g c q e (to_receive channel target) is = absurd (let no : false ≡ true = is in (let none : ⊥ = cc in none))
accept_of g c q e (to_accept a) is = (a, refl, same_of a.entry e is)
accept_of g c q e (to_wait n) is = absurd (let no : false ≡ true = is in (let none : ⊥ = cc in none))
accept_of g c q e to_end is = absurd (let no : false ≡ true = is in (let none : ⊥ = cc in none))

-- it is one of those that are open
first_there : (g : Program) (c : Config) (q : ℕ) (want : WaitArm) (x : Context) (os : List Open) (k : Remainder) (s : Side)
    → first_open g c q want x os k ≡ Some s → (n : ℕ) × (slice_get os n ≡ Some s.at)
first_there g c q want x [] k s is = absurd (let no : None ≡ Some s = is in (let none : ⊥ = cc in none))
first_there g c q want x (o ∷ os) k s is =
    by_test (text.is_arm want (text.arm_of g c q o.offer)) is (λ later. first_there g c q want x os k s later)
  where
    this_one : (o : Open) (s : Side) → Some (record { context = x; at = o; left = k }) ≡ Some s → Some o ≡ Some s.at
    this_one o s is = (let both : record { context = x; at = o; left = k } ≡ s = cc in ap (λ (y : Side). Some y.at) both)

    by_test : (b : Bool) → (if b then Some (record { context = x; at = o; left = k }) else first_open g c q want x os k) ≡ Some s
        → (first_open g c q want x os k ≡ Some s → (n : ℕ) × (slice_get os n ≡ Some s.at)) → (n : ℕ) × (slice_get (o ∷ os) n ≡ Some s.at)
    by_test true found later = (zero, this_one o s found)
    by_test false found later = (let there = later found in (suc there.0, there.1))

-- where the code behind it goes on
accept_ends : (g : Setting) (s : Site) (first held : ℕ) (a : Accepting) (n : ℕ) (ts : StmtTrees) (P : ℕ → Type 0)
    → MetAt g s first held (Some a) n ts P → AcceptsEntry s.program.state.blocks s.block.scope a.entry a.scope × ((end : ℕ) × P end)
accept_ends g s first held a n ts P (entry, (j, stmt, (ends, (i, stmts, rest))), sees) = (entry, (_, rest))

branch_ends : (g : Setting) (s : Site) (first held : ℕ) (r : Option Replica) (a : Accepting) (n : ℕ) (ts : StmtTrees) (P : ℕ → Type 0)
    → BranchAt g s first held r (Some a) n ts P → AcceptsEntry s.program.state.blocks s.block.scope a.entry a.scope × ((end : ℕ) × P end)
branch_ends g s first held None a n ts P met = accept_ends g s first held a n ts P met
branch_ends g s first held (Some r) a n ts P (line, is, j, stands, (to, leads, met)) = accept_ends g s to held a n ts P met

-- where an accept is open there may be as many meetings
meets_most : (count most : ℕ) (g : Setting) (s : Site) (held : ℕ) (os : List Open) (arms : List Arm) (P : ℕ → Type 0) (n : ℕ) (o : Open) (a : Accepting)
    → AreOpen g s held os arms P → slice_get os n ≡ Some o → o.offer ≡ to_accept a → MayMeet count most arms → count ≤ most
meets_most count most g s held [] arms P n o a are there offer may = absurd (let no : None ≡ Some o = there in (let none : ⊥ = cc in none))
meets_most count most g s held (y ∷ os) [] P n o a are there offer may = absurd are
meets_most count most g s held (y ∷ os) (arm ∷ arms) P zero o a are there offer may =
    let same : y ≡ o = (let both : Some y ≡ Some o = there in cc) in
    let open_one : IsOpen g s held y (to_accept a) arm P = subst (λ (z : Offer). IsOpen g s held y z arm P) (ap (λ (z : Open). z.offer) same ∙ offer) are.0 in
    subst (λ (z : Instr). MayMeetBy count most z) open_one.1 may.0
meets_most count most g s held (y ∷ os) (arm ∷ arms) P (suc n) o a are there offer may = meets_most count most g s held os arms P n o a are.1 there offer may.1

module _ (facts : Facts) (m : Machine) (c : Config) (p : ℕ) (level : LivingLevel) (acting : IsActing facts m c p level) (own : level.setting.trial ≡ of_own)
    (q entry : ℕ) (ticket : is_some (ticket_open_to (Entered entry) (at c.table.rows q)) ≡ true)
    (processes : HasProcesses facts.tree) (typed : HasTypedEntries facts.tree) (runs : KeepsAccepts facts c) (offers : KeepsOffers facts c) where
  abbrev pub g : Program
  g = program_in facts

  abbrev pub its_level : LivingLevel
  its_level = finding.its_level facts m c p level acting own q (Entered entry) ticket

  abbrev pub shows : IsShowing facts acting.homes acting.entries c.store m.stacks c.table (holders_in facts c) q (activity_of g c q) (descriptor_of
      m.descriptors q)
      (finding.waits facts m c p level acting own q (Entered entry) ticket)
  shows = finding.shows facts m c p level acting own q (Entered entry) ticket

  abbrev pub b : Block
  b = shows.offers.block

  abbrev pub x : Context
  x = shows.context

  abbrev pub ops : List ℤ
  ops = (stack_of m.stacks q).operands

  abbrev pub met : finding.FoundThere facts m c p level acting own q (Entered entry) ticket
  met = finding.found_there facts m c p level acting own q (Entered entry) ticket

  pub accept_there : (a : Accepting) × (met.o.offer ≡ to_accept a) × (a.entry ≡ entry)
  accept_there = accept_of g c q entry met.o.offer met.matches

  abbrev pub a : Accepting
  a = accept_there.0

  pub inside : q < length c.activities
  inside = is_process facts m c p level acting own q (finding.waits facts m c p level acting own q (Entered entry) ticket)

  abbrev behind_it : ℕ → Type 0
  behind_it = λ end. Performs its_level.setting b x.env end ops [] shows.left

  pub open_so : IsOpen its_level.setting (site_of its_level.setting b x) (length ops) met.o (to_accept a) met.arm behind_it
  open_so =
      subst (λ (y : Offer). IsOpen its_level.setting (site_of its_level.setting b x) (length ops) met.o y met.arm behind_it) accept_there.1 met.open_one

  abbrev pub to : ℕ
  to = open_so.0

  pub arm_is : met.arm.by ≡ ARMA a.entry (accept_cell (site_of its_level.setting b x) a.scope) (accept_cells (site_of its_level.setting b x) a.scope) to
  arm_is = open_so.1

  ends_there : AcceptsEntry its_level.setting.program.state.blocks b.scope a.entry a.scope × ((end : ℕ) × behind_it end)
  ends_there =
      branch_ends its_level.setting (site_of its_level.setting b x) to (length ops) met.o.replica a met.o.next met.o.stmts behind_it open_so.3

  pub accepts : AcceptsEntry its_level.setting.program.state.blocks b.scope a.entry a.scope
  accepts = ends_there.0

  pub ends : (end : ℕ) × Performs its_level.setting b x.env end ops [] shows.left
  ends = ends_there.1

  pub behind : BehindAccept its_level.setting b to ops x a met.o shows.left
  behind =
      subst (λ (i : Instr). BehindOpen its_level.setting b ops x met.o (to_accept a) (branch_of i) shows.left) arm_is
      (subst (λ (y : Offer). BehindOpen its_level.setting b ops x met.o y (branch_of met.arm.by) shows.left) accept_there.1 met.left_behind)

  -- so the machine has made it
  pub alternative_is : met.kept.alternative
      ≡ record {
        activation = (finding.makes facts m c p level acting own q (Entered entry) ticket).depth;
        offer = AcceptOffer a.entry (accept_cell (site_of its_level.setting b x) a.scope) (accept_cells (site_of its_level.setting b x) a.scope);
        branch = to;
      }
  alternative_is =
      (subst (λ (i : Instr). IsMadeBy (finding.makes facts m c p level acting own q (Entered entry) ticket).depth i met.arm.operands met.kept.alternative
      met.is_kept.words) arm_is met.is_kept.made).1

  -- ## It is not open already

  pub open_there : (n : ℕ) × (slice_get shows.opened n ≡ Some met.o)
  open_there = first_there g c q (Entered entry) x shows.opened shows.left (record { context = x; at = met.o; left = shows.left }) met.in_text

  within_those : StandsWithin facts c q x a
  within_those = offers.within q x shows.opened shows.left open_there.0 met.o a shows.hand open_there.1 accept_there.1

  sees : SeesAccepts its_level.setting (site_of its_level.setting b x)
  sees = standing.branch_sees its_level.setting (site_of its_level.setting b x) to (length ops) met.o.replica a met.o.next met.o.stmts behind_it open_so.3

  -- there is room for as many meetings as there are processes
  pub may_meet : process_count facts ≤ (descriptor_of m.descriptors q).communications.room.meetings
  may_meet =
      meets_most (process_count facts) (descriptor_of m.descriptors q).communications.room.meetings its_level.setting (site_of its_level.setting b x)
      (length ops) shows.opened its_level.arms behind_it open_there.0 met.o a shows.offers.open_ones open_there.1 accept_there.1
      shows.under_way.stands.accepts

  pub of_block : is_accept b a.scope ≡ true
  of_block = standing.of_block facts m c acting.homes acting.entries acting.alike q its_level shows.under_way.stands shows.offers.own inside processes b x
      shows.offers.checked a accepts sees within_those

  pub apart : AreApart b a.scope its_level.setting.accepts
  apart = standing.apart facts m c acting.homes acting.entries acting.alike q its_level shows.under_way.stands shows.offers.own inside processes b x
      shows.offers.checked a accepts sees within_those
