-- A requeue, which the code has arrived at.
use Rattle.std.proofs.Common.{◌≡◌, ℕ, suc, ◌+◌, ◌≤◌, ℤ, Bool, true, false, if◌then◌else◌, List, [], ◌∷◌, length, slice_get, get_or, All, Option, Some}
use Rattle.std.proofs.Common.{Ok, Err, refl, sym, ap, ◌∙◌, subst, arith, ◌⊎◌, inl, inr}
use Rattle.std.specs.Prelude.{nat_le}
use Rattle.std.proofs.lemmas.List.{append-nil}
use Rattle.std.proofs.lemmas.Option.{slice_get_within, get_or_from_slice_get}
use Rattle.pfc_base.specs.declared.faults.RunFault.TheVariants.{Stack as Full}
use Rattle.pfc_types.specs.Blocks.{Blocks}
use Rattle.pfc_types.specs.declared.heads.Formal.{Formal}
use Rattle.pfc_code.specs.declared.images.Block.{Block as CodeBlock}
use Rattle.pfc_code.specs.declared.instructions.Instr.TheVariants.{RET, END, REQ}
use Rattle.pfc_world.specs.Holders.{holder_in}
use Rattle.pfc_world.specs.Tables.{at}
use Rattle.pfc_semantics.specs.Layouts.{Layout}
use Rattle.pfc_semantics.specs.Objects.{module_number}
use Rattle.pfc_semantics.specs.Programs.{Block, Guard, Program, block_at, block_number, layout_cells}
use Rattle.pfc_semantics.specs.Remainders.{Context, Argument, Action, calls, to_requeue}
use Rattle.pfc_semantics.specs.Resources.{requeues, requeued_in}
use Rattle.pfc_semantics.specs.Configurations.{of_resource, Activation, Config, activity_of}
use Rattle.pfc_semantics.specs.Calls.{cells_below, cells_above, most_cells}
use Rattle.pfc_translation.specs.Sites.{module_of}
use Rattle.pfc_translation.specs.Calls.{number_or_none, resource_of}
use Rattle.pfc_translation.specs.Images.{image_of, site_in}
use Rattle.pfc_stacks.specs.Refs.{word_of}
use Rattle.pfc_stacks.specs.Stacks.{Stack, stack_of, operands_of, last_activation}
use Rattle.pfc_stacks.specs.Activations.{has_place, size_of, params_of}
use Rattle.pfc_cells.specs.Homes.{Home, layout_at}
use Rattle.pfc_cells.specs.Memory.{Entry, CellsAre, ProcessIs}
use Rattle.pfc_machines.specs.declared.machine.Machine.{Machine}
use Rattle.pfc_call_actions.specs.Calls.{unless_full as machine_unless_full}
use Rattle.pfc_call_actions.specs.Requeues.{in_place, requeues as machine_requeues}
use Rattle.pfc_call_actions.specs.Returns.{scans_from}
use Rattle.pfc_machine_acts.specs.Performing.{silent, with_block}
use Rattle.pfc_standing_code.specs.Settings.{Trial, of_own, AreOver, site_of, IsBeside, same_block, both_mains, IsAt}
use Rattle.pfc_standing_code.specs.Words.{AreHeld, AreKnown, IsChecked, IsLasting}
use Rattle.pfc_standing_code.specs.Performs.{own_block, own_view, own_accepts}
use Rattle.pfc_standing_images.specs.Images.{IsOfImage}
use Rattle.pfc_standing_images.proofs.Wholes.{block_stands}
use Rattle.pfc_standing_images.proofs.Guards.{turn_there}
use Rattle.pfc_representation.specs.Levels.{Facts, program_in, LivingLevel, block_of, IsBlockAt}
use Rattle.pfc_representation.specs.Holding.{holders_in, HoldsFor}
use Rattle.pfc_representation.specs.Machines.{goes_on}
use Rattle.pfc_representation.specs.Acting.{IsActing, HasArrived}
use Rattle.pfc_representation.specs.Actions.{ComeToSame, IsKept}
use Rattle.pfc_kept_own_actions.proofs.Alone.{can_go}
use Rattle.pfc_kept_own_actions.proofs.Arrived.{has_setting, stack_there, code_there, code_line, acts_now}
use Rattle.pfc_kept_calls.proofs.Tops.{cells_of_top}
use Rattle.pfc_kept_calls.proofs.Caller.{outer}
use Rattle.pfc_kept_calls.proofs.Faults.{faulted}
use Rattle.pfc_kept_calls.proofs.Sizes.{first_values, params_within, arguments_there}
use Rattle.pfc_kept_calls.proofs.Ended.{first_stands}
use Rattle.pfc_kept_calls.proofs.Returned.{has, e, home, home_at, base}
use Rattle.pfc_kept_calls.proofs.Scanning.{ready_holds}
use Rattle.pfc_kept_modules.specs.Exported.{IsExported}
use Rattle.pfc_kept_modules.specs.Requeued.{MayRequeue, Requeues}
use Rattle.pfc_kept_modules.proofs.Subs.{IsSubOf}
use Rattle.pfc_kept_modules.proofs.Lent.{IsLentOn}
use Rattle.pfc_kept_modules.proofs.Lending.{all_lent}
use Rattle.pfc_kept_modules.proofs.Unmet.{none_open, none_met}
use Rattle.pfc_kept_modules.proofs.Replaced.{top, others, activations_are, entries_are, IsRequeue}
use Rattle.pfc_kept_modules.proofs.Requeued.{represents_requeued}

module _ (facts : Facts) (m : Machine) (c : Config) (p choice : ℕ) (level : LivingLevel) (acting : IsActing facts m c p level) (x : Context) (b : Block)
    (scope : ℕ) (formals : List Formal) (given : List Argument) (below : List ℤ) (checked : IsChecked level.setting b x.env)
    (alone : (level.setting.trial ≡ of_own) × (level.arms ≡ [])) (may : MayRequeue level scope) (over : AreOver level.setting below)
    (sub : IsSubOf level.setting.program scope formals)
    (held : AreHeld level.setting.view (site_of level.setting b x) formals given (operands_of m.stacks p) below)
    (there : IsAt level.setting (stack_of m.stacks p).at (REQ (resource_of (site_of level.setting b x)) (block_number level.setting.program scope)) x.line)
    (lasts : All (IsLasting (site_of level.setting b x)) given)
    (arrived : HasArrived facts m c p level (calls x (to_requeue scope) given)) where
  abbrev g : Program
  g = program_in facts

  abbrev blocks : Blocks
  blocks = g.state.blocks

  abbrev s : Stack
  s = stack_of m.stacks p

  abbrev callee : Block
  callee = block_at g scope

  abbrev k : ℕ
  k = block_number g scope

  abbrev block : Block
  block = level.setting.block

  same : level.setting.program ≡ g
  same = (has_setting facts m c p level acting).image.program

  more : level.setting.last ≡ END → ⊥
  more h = (let both : RET ≡ END = sym may.last ∙ h in cc)

  -- ## What is told of the program

  target : (n : ℕ) × IsExported facts.tree n k callee formals × (module_of blocks block.outer ≡ Some n)
  target = by level.setting.program same sub
    where
      by : (q : Program) → q ≡ g → IsSubOf q scope formals
          → (n : ℕ) × IsExported facts.tree n k callee formals × (module_of blocks block.outer ≡ Some n)
      by q is of_sub =
          let of : IsSubOf g scope formals = subst (λ (z : Program). IsSubOf z scope formals) is of_sub in
          let found = may.exported facts.tree of.number same acting.alike.program of.among of.own_scope in
          (found.0, subst (λ (fs : List Formal). IsExported facts.tree found.0 k callee fs) (sym of.own_formals) found.1, found.2)

  abbrev number : ℕ
  number = target.0

  abbrev can : IsExported facts.tree number k callee formals
  can = target.1

  abbrev code : CodeBlock
  code = can.code

  -- the number of the resource
  abbrev r : ℕ
  r = module_number blocks number

  abbrev guard : Guard
  guard = (may.guard facts.tree same acting.alike.program).0

  its_guard : callee.guard ≡ Some guard
  its_guard = (may.guard facts.tree same acting.alike.program).1

  -- the names are those of the block at hand
  alone_there : (e : Block) → IsBeside level.setting block e → e ≡ block
  alone_there _ same_block = refl
  alone_there _ (both_mains e one two) =
      absurd (may.apart facts.tree one.0 same acting.alike.program
      (subst (λ (q : Program). slice_get (q.main ∷ q.modules) one.0 ≡ Some block) same one.1))

  its_resource : resource_of (site_in g callee) ≡ r
  its_resource = ap (λ (q : Option ℕ). number_or_none blocks q) can.inside

  own_resource : resource_of (site_in g block) ≡ r
  own_resource = ap (λ (q : Option ℕ). number_or_none blocks q) target.2

  instruction : IsAt level.setting s.at (REQ r k) x.line
  instruction =
      subst (λ i. IsAt level.setting s.at (REQ i k) x.line)
      (ap (λ (y : Block). resource_of (record (site_in g y) { env = x.env; line = x.line })) (alone_there b checked.beside) ∙ own_resource)
      (subst (λ (z : Program). IsAt level.setting s.at (REQ (resource_of (record (site_of level.setting b x) { program = z }))
      (block_number z scope)) x.line) same there)

  -- ## Cells

  counted_at : (i : ℕ) (y : Block) (z : CodeBlock) → IsBlockAt g (image_of facts.tree).blocks i y z → y.cells ≡ layout_cells g.state.forms y.layout
  counted_at i y z is = by is.2
    where
      by : (slice_get g.blocks i ≡ Some y) ⊎ ((i ≡ length g.blocks) × (y ≡ g.main)) → y.cells ≡ layout_cells g.state.forms y.layout
      by (inl found) = may.counted facts.tree (suc i) y same acting.alike.program found
      by (inr main) = may.counted facts.tree 0 y same acting.alike.program (ap (λ (v : Block). Some v) (sym main.1))

  counted : (block_of level).cells ≡ layout_cells g.state.forms (block_of level).layout
  counted =
      let stands = (has facts m c p level acting more).called.stands in
      counted_at (has facts m c p level acting more).called.own.block (block_of level) stands.code stands.is

  below_cells : cells_below (others facts m c p level acting more) ≡ s.base
  below_cells =
      let had = has facts m c p level acting more in
      let under = first_stands facts acting.homes acting.entries c.store c.table p s.room had.outer had.v had.earlier had.next had.rest had.under had.below
      had.others in
      let all : CellsAre g acting.homes c.store p (had.entry ∷ (had.under ∷ had.below)) s.cells =
      subst (λ (es : List Entry). ProcessIs g acting.homes c.store p es s.cells) (entries_are facts m c p level acting more) (acting.alike.holds.memory p) in
      let one : all.2.home ≡ home facts m c p level acting more = (let both : Some all.2.home ≡ Some (home facts m c p level acting more) =
      sym all.2.at ∙ home_at facts m c p level acting more in cc) in
      let size : length all.0 ≡ under.1.home.cell + (8 + layout_cells g.state.forms (layout_at g under.1.home)) =
      cells_of_top g acting.alike.program.types.counted acting.homes c.store p had.under had.below all.0 all.1 under.1.home
      (ap acting.homes under.1.number ∙ under.1.at) in
      under.1.cells
      ∙ turned under.1.home.cell (block_of had.outer).cells (layout_cells g.state.forms (layout_at g under.1.home))
      (counted_at under.0.block (block_of had.outer) under.1.code under.1.is
      ∙ ap (λ (l : Layout). layout_cells g.state.forms l) (sym under.1.laid))
      ∙ sym size ∙ sym all.2.place ∙ ap (λ (y : Home). y.cell) one ∙ base facts m c p level acting more
    where
      turned : (i j l : ℕ) → j ≡ l → i + (j + 8) ≡ i + (8 + l)
      turned i j l h = omega (arith, h)

  known : AreKnown g b level.setting.accepts x.env
  known = subst (λ (z : Program). AreKnown z b level.setting.accepts x.env) same checked.known

  held_there : AreHeld level.setting.view (site_of (outer facts m c p level acting) b x) formals given s.operands below
  held_there = subst (λ (z : Program). AreHeld level.setting.view (record (site_of level.setting b x) { program = z }) formals given
      s.operands below) same held

  lends : All (IsLentOn g c p (top facts m c p level acting more).number) given
  lends =
      all_lent facts m c p level acting more alone.0 b checked.beside x known formals given s.operands below held_there
      (subst (λ (z : Program). All (IsLasting (record (site_of level.setting b x) { program = z })) given) same lasts)

  enough : code.params ≤ length s.operands
  enough = arguments_there facts m c p level acting alone.0 b callee k code formals x given below checked.beside known can.takes can.there can.is held_there
      counted

  outer_image : IsOfImage facts.tree (outer facts m c p level acting)
  outer_image =
      let has = (has_setting facts m c p level acting).image in
      record { program = refl; code = has.code; lines = has.lines; texts = has.texts; arms = has.arms }

  abbrev placed : Bool
  placed = has_place p s.base code

  limit : nat_le (cells_above (others facts m c p level acting more) callee) (most_cells p) ≡ placed
  limit =
      ap (λ i. nat_le i (most_cells p))
      (summed (cells_below (others facts m c p level acting more)) s.base below_cells callee.cells
      (sym (block_stands facts.tree (outer facts m c p level acting) outer_image k callee code can.there can.is).cells)
      (params_within facts m c p level acting alone.0 b callee k code formals x given below checked.beside known can.takes can.there can.is held_there counted))
    where
      summed : (i j : ℕ) → i ≡ j → (n : ℕ) → n ≡ code.cells → code.params ≤ code.cells → i + (n + 8) ≡ j + size_of code
      summed i j h n same within = omega (arith, h, same, within)

  -- ## The resource

  marked : (top facts m c p level acting more).mark ≡ of_resource r
  marked =
      let stands = (has facts m c p level acting more).called.stands in
      let here : block_of level ≡ block = ap (λ (t : Trial). own_block t block) alone.0 in
      stands.guarded may.own (ap (λ (y : Block). y.guard) here ∙ may.guarded)
      ∙ ap (λ (y : Block). of_resource (resource_of (site_in g y))) here ∙ ap of_resource own_resource

  holder : holder_in c.resources r ≡ Some p
  holder =
      ready_holds (holder_in c.resources r ≡ Some p) r (at c.table.rows p) acting.actor.ready
      (subst (λ y. HoldsFor (holders_in facts c) p (at c.table.rows p) y) marked
      ((subst (λ (xs : List Activation). All (λ (y : Activation). HoldsFor (holders_in facts c) p (at c.table.rows p) y.mark) xs)
      (activations_are facts m c p level acting more) acting.actor.stands.holds.entered) 0 (top facts m c p level acting more) (omega arith)))

  turn : (scan : ℕ) × (slice_get (image_of facts.tree).scans r ≡ Some scan)
  turn =
      let found = turn_there facts.tree (outer facts m c p level acting) k callee guard acting.alike.program.lawful outer_image can.there its_guard in
      (found.0, subst (λ i. slice_get (image_of facts.tree).scans i ≡ Some found.0) its_resource found.1)

  -- nobody meets the process there
  unmet : level.setting.meetings ≡ []
  unmet =
      let seen = acting.actor.stands.seen in
      none_met facts acting.homes acting.entries c.store c.table p (acting.entries p) (word_of (last_activation m.stacks p)) (activity_of g c p).display
      level.setting (block_of level) (own_view level.setting.trial level.setting.view) seen.others
      (own_accepts level.setting.trial level.setting.accepts) level.setting.meetings seen.sees
      (none_open (block_of level) (own_accepts level.setting.trial level.setting.accepts)
      (ap (λ (t : Trial). (own_block t block).accepts) alone.0 ∙ may.alone) (has facts m c p level acting more).called.stands.accepts)

  requeue : placed ≡ true → IsRequeue facts m c p level acting more b callee number k r turn.0 formals x given below guard
  requeue place = record {
    own_trial = alone.0;
    none = alone.1;
    unmet = unmet;
    last = may.last;
    beside = checked.beside;
    known = known;
    can = can;
    held = held_there;
    over = over;
    place = place;
    guarded = its_guard;
    resource = its_resource;
    marked = marked;
    holder = holder;
    turn = turn.1;
    lends = lends;
    below_cells = below_cells;
  }

  -- ## Both sides

  by_place : (u : Bool) → placed ≡ u
      → ComeToSame facts m c p x.line (silent (machine_unless_full u (scans_from turn.0 true p (in_place k code p m))))
      (if u then Ok (requeued_in g c p callee given (top facts m c p level acting more) (others facts m c p level acting more)) else Err Full)
  unfolding requeue
  by_place true place = (
    goes_on (represents_requeued facts m c p level acting more b callee number k r turn.0 formals x given below guard (first_values facts m c p level acting)
        (requeue place) x.line),
    sym (append-nil c.output),
  )
  by_place false place = (refl, faulted facts m c p level acting x.line Full)

  same_scan : get_or (image_of facts.tree).scans r 0 ≡ turn.0
  same_scan = get_or_from_slice_get (image_of facts.tree).scans r turn.0 0 turn.1

  come_to_same : ComeToSame facts m c p x.line
      (silent (with_block (slice_get (image_of facts.tree).blocks k) m (λ (y : CodeBlock). machine_requeues (get_or (image_of facts.tree).scans r 0) k y p m)))
      (requeues g c p callee given (activity_of g c p).activations)
  come_to_same =
      subst (λ (o : Option CodeBlock). ComeToSame facts m c p x.line
      (silent (with_block o m (λ (y : CodeBlock). machine_requeues (get_or (image_of facts.tree).scans r 0) k y p m)))
      (requeues g c p callee given (activity_of g c p).activations)) (sym can.is)
      (subst (λ i. ComeToSame facts m c p x.line (silent (machine_requeues i k code p m)) (requeues g c p callee given (activity_of g c p).activations))
      (sym same_scan)
      (subst (λ (xs : List Activation). ComeToSame facts m c p x.line (silent (machine_requeues turn.0 k code p m)) (requeues g c p callee given xs))
      (sym (activations_are facts m c p level acting more))
      (subst (λ (v : Bool). ComeToSame facts m c p x.line (silent (machine_requeues turn.0 k code p m))
      (if v then Ok (requeued_in g c p callee given (top facts m c p level acting more) (others facts m c p level acting more)) else Err Full)) (sym limit)
      (by_place placed refl))))

  pub requeue_kept : IsKept facts m c p choice (calls x (to_requeue scope) given)
  requeue_kept = record {
    instr = REQ r k;
    is = code_there facts m c p level acting s.at (REQ r k) x.line instruction;
    can_step = record {
      stack = stack_there facts m c p level acting;
      performed = record {
        held = subst (λ (o : Option CodeBlock). params_of o ≤ length s.operands) (sym can.is) enough;
        room = grind arith;
        reach = tt;
      };
      goes = λ outward. can_go facts m c p level acting (REQ r k) x.line instruction refl (grind arith) arrived.within;
    };
    no_move = tt;
    can_do = record {
      acting = acts_now facts m c p level acting (REQ r k) x.line instruction;
      can = record {
        block = slice_get_within (image_of facts.tree).blocks k code can.is;
        arguments = subst (λ (o : Option CodeBlock). params_of o ≤ length s.operands) (sym can.is) enough;
      };
    };
    line = code_line facts m c p level acting s.at (REQ r k) x.line instruction;
    choices = refl;
    same = come_to_same;
  }

pub requeued_kept : (facts : Facts) (m : Machine) (c : Config) (p choice : ℕ) (level : LivingLevel) (n : Action) → Requeues level n
    → IsActing facts m c p level → HasArrived facts m c p level n → IsKept facts m c p choice n
requeued_kept facts m c p choice level (calls x (to_requeue scope) given) may acting arrived =
    let (b, checked, (formals, below, held, (alone, (over, sub, takes, there)), lent)) = arrived.arrived in
    requeue_kept facts m c p choice level acting x b scope formals given below checked alone may over
    (record { number = sub.number; among = sub.among; own_scope = sub.own_scope; own_formals = sub.own_formals }) held there lent.0 arrived
requeued_kept facts m c p choice level n may acting arrived = absurd may
