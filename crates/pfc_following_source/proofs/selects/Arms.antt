-- An alternative that is found open becomes one of the machine's, and on go those behind it.
use Rattle.std.proofs.Common.{◌≡◌, ℕ, zero, suc, ◌+◌, ◌<◌, ◌≤◌, ℤ, pos, Bool, true, false, if◌then◌else◌, List, [], ◌∷◌, ◌++◌, length, take, drop, reverse}
use Rattle.std.proofs.Common.{Option, Some, None, refl, sym, ap, ◌∙◌, subst, arith, inl}
use Rattle.std.specs.Prelude.{int_lt}
use Rattle.std.proofs.lemmas.Bool.Decides.{nat_tests}
use Rattle.std.proofs.lemmas.List.{length-append}
use Rattle.pfc_base.specs.declared.faults.RunFault.TheVariants.{Below}
use Rattle.pfc_code.specs.declared.instructions.Instr.{Instr}
use Rattle.pfc_code.specs.declared.instructions.Instr.TheVariants.{ARMS, ARMR, ARMT}
use Rattle.pfc_tree.specs.trees.Exprs.{ExprTree, DesigTree}
use Rattle.pfc_tree.specs.trees.Stmts.{CommTree, comm_accept, comm_send, comm_receive, timeout, terminate}
use Rattle.pfc_types.specs.Types.{Forms}
use Rattle.pfc_types.specs.Scopes.{Level}
use Rattle.pfc_types.specs.rules.Statements.{comm_scopes}
use Rattle.pfc_types.specs.declared.types.TypeId.{TypeId}
use Rattle.pfc_types.specs.declared.view.Around.{Around}
use Rattle.pfc_semantics.specs.Values.{Value, ordinal}
use Rattle.pfc_semantics.specs.Displays.{Spot}
use Rattle.pfc_semantics.specs.Programs.{Block}
use Rattle.pfc_semantics.specs.Remainders.{Context, Offer, Open, Alternative, Selecting, Remainder, to_send, to_receive, to_wait, offer_value, offer_into}
use Rattle.pfc_semantics.specs.Remainders.{faults}
use Rattle.pfc_semantics.specs.Alternatives.{with_open, a_signal, from_seconds, from_message, from_receiver, from_alternatives}
use Rattle.pfc_translation.specs.Sites.{Site}
use Rattle.pfc_translation.specs.Codes.{Code, nothing, ◌⨾◌, over}
use Rattle.pfc_code.specs.Operands.{receiving}
use Rattle.pfc_translation.specs.Expressions.{expr_code, desig_code}
use Rattle.pfc_translation.specs.Selects.{message_code, message_cells, receiver_code, receiver_cells}
use Rattle.pfc_standing_code.specs.Sizes.{IsSized}
use Rattle.pfc_cells.specs.Shapes.{words_of}
use Rattle.pfc_standing_code.specs.Shapes.{Shape, shape_of, shape_cells, IsShaped}
use Rattle.pfc_standing_code.specs.Settings.{Setting, of_own, site_of, IsAt}
use Rattle.pfc_standing_code.specs.Effects.{Arm, LeadsAhead, LeadAhead, onward, refuses, arming, effect_of, CanPerform}
use Rattle.pfc_standing_code.specs.TypedStatements.{IsChannel, IsCarried, IsMessage, IsReceiver}
use Rattle.pfc_standing_code.specs.Words.{IsWord, IsObject, IsChecked}
use Rattle.pfc_standing_code.specs.Performs.{BranchAt, CommBranchAt, AlternativesAt, SelectAt, CommAt, IsOpen, AreOpen, of_message, of_signal, into_variable}
use Rattle.pfc_standing_code.specs.Performs.{into_nothing, alternatives_size}
use Rattle.pfc_standing_code.specs.Awaits.{ArmAt, HasMessage}
use Rattle.pfc_standing_code.specs.Following.{Follows, moves}
use Rattle.pfc_standing_code.proofs.Sizes.{sized_expr, sized_desig}
use Rattle.pfc_following_expressions.proofs.Glue.{held_after, room_for, front, back, lone}
use Rattle.pfc_following_expressions.proofs.Held.{held_grown, expr_changes, desig_changes}
use Rattle.pfc_following_expressions.proofs.Moves.{fits, fault_at, follows_moved}
use Rattle.pfc_following_expressions.proofs.Expressions.{env_in}
use Rattle.pfc_following_expressions.proofs.Anywhere.{expression_follows, variable_follows}
use Rattle.pfc_following_source.specs.selects.Phrases.{Behind}
use Rattle.pfc_following_source.proofs.selects.Counts.{shaped_is_of, words_count, words_taken, words_dropped, words_held}

-- ## Open ones

-- one more that is open, behind the others
open_more :
    (g : Setting) (s : Site) (held : ℕ) (P : ℕ → Type 0) (o : Open) (arm : Arm) (os : List Open) (arms : List Arm)
    → AreOpen g s held os arms P → IsOpen g s held o o.offer arm P → AreOpen g s held (os ++ o ∷ []) (arms ++ arm ∷ []) P
open_more g s held P o arm [] [] h is = (is, tt)
open_more g s held P o arm [] (a ∷ arms) h is = absurd h
open_more g s held P o arm (p ∷ os) [] h is = absurd h
open_more g s held P o arm (p ∷ os) (a ∷ arms) h is = (h.0, open_more g s held P o arm os arms h.1 is)

-- an alternative that is open with what it offers
abbrev pub opened : Alternative → Offer → Open
opened a offer = record { offer = offer; replica = a.replica; next = a.next + comm_scopes a.comm; stmts = a.stmts }

-- a send or a receive has no accept
plain_branch :
    (g : Setting) (s : Site) (x : Context) (to held : ℕ) (P : ℕ → Type 0) (a : Alternative) (comm : CommTree) →
    HasMessage comm → CommBranchAt g s x to held a comm P
    → BranchAt g s to held a.replica None (a.next + comm_scopes comm) a.stmts P
plain_branch g s x to held P a (comm_send d e p) has h = h
plain_branch g s x to held P a (comm_receive d v p) has h = h
plain_branch g s x to held P a (comm_accept c p) has h = absurd has
plain_branch g s x to held P a (timeout e p) has h = absurd has
plain_branch g s x to held P a (terminate p) has h = absurd has

-- the branch of one more stands ahead as well
lead_more : (at : ℕ) (arms : List Arm) (arm : Arm) → LeadAhead at arms → LeadsAhead at arm.by → LeadAhead at (arms ++ arm ∷ [])
lead_more at [] arm h is = (is, tt)
lead_more at (a ∷ arms) arm h is = (h.0, lead_more at arms arm h.1 is)

-- so many are gone through at another place
pub select_moved :
    (g : Setting) (s : Site) (x : Context) (at to held : ℕ) (alts : List Alternative) (sel : Selecting) (arms : List Arm) (P : ℕ → Type 0) → at ≡ to
    → SelectAt g s x at held alts sel arms P → SelectAt g s x to held alts sel arms P
select_moved g s x at to held alts sel arms P e h = subst (λ (y : ℕ). SelectAt g s x y held alts sel arms P) e h

module _ (g : Setting) (b : Block) (names : List Level) (around : Around) (checked : IsChecked g b (env_in g names around)) (own : g.trial ≡ of_own)
    (line : ℕ) (k : Remainder) where
  abbrev pub x : Context
  x = record { env = env_in g names around; line = line }

  abbrev pub s : Site
  s = site_of g b x

  abbrev pub forms : Forms
  forms = g.program.state.forms

  -- those behind the one at hand follow
  abbrev pub OthersFollow : List Alternative → Type 0
  OthersFollow rest =
      (sel : Selecting) (at : ℕ) (ops : List ℤ) (arms : List Arm) → length arms ≤ g.arms → SelectAt g s x at (length ops) rest sel arms (Behind g b x ops k)
      → Follows g (from_alternatives x rest sel k) at ops arms

  -- ## The instruction of an alternative

  -- it takes these operands, and on go the alternatives behind it
  pub armed_follows :
      (a : Alternative) (rest : List Alternative) (sel : Selecting) (offer : Offer) (i : Instr) (at : ℕ) (all below taken : List ℤ) (arms : List Arm)
      → OthersFollow rest → IsAt g at i line → CanPerform g i all
      → effect_of g i at all arms ≡ onward (at + 1) below (arms ++ record { by = i; operands = taken } ∷ [])
      → length below ≤ g.room → length arms + 1 + length rest ≤ g.arms → LeadsAhead (at + 1 + alternatives_size s rest) i
      → IsOpen g s (length below) (opened a offer) offer (record { by = i; operands = taken }) (Behind g b x below k)
      → SelectAt g s x (at + 1) (length below) rest sel arms (Behind g b x below k)
      → Follows g (from_alternatives x rest (with_open a sel offer) k) at all arms
  armed_follows a rest sel offer i at all below taken arms others is can effect room few far open_one there =
      let arm : Arm = record { by = i; operands = taken } in
      let longer : length (arms ++ arm ∷ []) ≡ length arms + 1 = length-append arms (arm ∷ []) in
      let fit : length (arms ++ arm ∷ []) ≤ g.arms = omega (arith, longer) in
      let left = there.left in
      let all_open = open_more g s (length below) (Behind g b x below k) (opened a offer) arm sel.offered arms there.open_ones open_one in
      let stands : AlternativesAt g s x (at + 1) (length below) rest (with_open a sel offer) (Behind g b x below k) =
      record { typed = left.typed; distances = left.distances; n = left.n; code = left.code; decision = left.decision; branches = left.branches } in
      moves at all arms i line (at + 1) below (arms ++ arm ∷ []) is can effect (omega arith) room fit
      (others (with_open a sel offer) (at + 1) below (arms ++ arm ∷ []) fit
      (record {
        left = stands;
        open_ones = all_open;
        room = omega (arith, longer);
        ahead = lead_more (at + 1 + alternatives_size s rest) arms arm there.ahead far;
        end = there.end;
        left_behind = there.left_behind;
      }))

  -- the instruction that stands behind what an alternative waits for
  pub arm_at :
      (a : Alternative) (rest : List Alternative) (sel : Selecting) (arms : List Arm) (P : ℕ → Type 0) (first : Code) (i : ℕ → Instr) (at above held after : ℕ)
      → ((to : ℕ) → CommBranchAt g s x to held a a.comm P → BranchAt g s to held a.replica None (a.next + comm_scopes a.comm) a.stmts P)
      → IsSized first → ((n : ℕ) → held_after g.program above (first.put at n) ≡ after)
      → CommAt g s x at above held a rest sel arms (λ between. first ⨾ over s i between) P → ArmAt g s x (at + first.size) held a rest sel arms i P
  arm_at a rest sel arms P first i at above held after plain sized leaves c =
      let to = at + first.size + 1 + c.between in
      let same : at + (first.size + 1) + c.between ≡ to = omega arith in
      let next : at + (first.size + 1) ≡ at + first.size + 1 = omega arith in
      record {
        to = to;
        makes = lone g s (λ at n. i (at + 1 + c.between)) (back g first (over s i c.between) after sized (leaves c.n) c.stands);
        branch = plain to (subst (λ (y : ℕ). CommBranchAt g s x y held a a.comm P) same c.branch);
        others = select_moved g s x (at + (first.size + 1)) (at + first.size + 1) held rest sel arms P next c.others;
        room = c.room;
        far = (let far = c.far in omega arith);
      }

  -- ## Messages

  -- a value that is offered, over the number of its channel
  pub value_armed :
      (channel : Spot) (t : Option TypeId) (u : TypeId) (i : ℤ) (h : Shape) (v : Value) (a : Alternative) (rest : List Alternative) (sel : Selecting)
      (at : ℕ) (below : List ℤ) (arms : List Arm)
      → OthersFollow rest → h ≡ shape_of u → IsShaped forms h v → IsChannel forms t u → IsObject g s channel t i → IsCarried forms u → length below ≤ g.room
      → ArmAt g s x at (length below) a rest sel arms (λ to. ARMS (shape_cells forms h) to) (Behind g b x below k)
      → Follows g (from_alternatives x rest (with_open a sel (to_send channel v)) k) at (reverse (words_of v) ++ i ∷ below) arms
  value_armed channel t u i h v a rest sel at below arms others e shaped carries object some room ar =
      let is = shaped_is_of forms checked.sound u h v e shaped in
      let z = shape_cells forms h in
      let ops = reverse (words_of v) ++ i ∷ below in
      let instr = ARMS z ar.to in
      let count : length (words_of v) ≡ z = words_count forms checked.sound u v is ∙ ap (λ (y : Shape). shape_cells forms y) (sym e) in
      let size = words_held (words_of v) below i z count in
      let effect : effect_of g instr at ops arms ≡ onward (at + 1) below (arms ++ record { by = instr; operands = reverse (words_of v) ++ i ∷ [] } ∷ []) =
      ap (λ (y : List ℤ). onward (at + 1) y (arms ++ record { by = instr; operands = take (z + 1) ops } ∷ [])) (words_dropped (words_of v) below i z count)
      ∙ ap (λ (y : List ℤ). onward (at + 1) below (arms ++ record { by = instr; operands = y } ∷ [])) (words_taken (words_of v) below i z count) in
      armed_follows a rest sel (to_send channel v) instr at ops below (reverse (words_of v) ++ i ∷ []) arms others ar.makes
      (fits g arms instr ops (omega (arith, size)) tt tt) effect room ar.room ar.far
      (ar.to, z, refl, of_message t u i carries object some is (ap (λ (y : Shape). shape_cells forms y) e) refl, ar.branch) ar.others

  receives_two : (z : ℕ) → 0 < z → receiving z ≡ 2
  receives_two zero h = absurd (omega arith)
  receives_two (suc z) h = grind (arith, nat_tests)

  -- the address of a variable that is to receive, over the number of its channel
  pub target_armed :
      (channel : Spot) (t : Option TypeId) (u : TypeId) (i w : ℤ) (target : Spot) (a : Alternative) (rest : List Alternative) (sel : Selecting)
      (at : ℕ) (below : List ℤ) (arms : List Arm)
      → OthersFollow rest → IsCarried forms u → IsChannel forms t u → IsObject g s channel t i → IsWord g.view s target (Some u) w → length below ≤ g.room
      → ArmAt g s x at (length below) a rest sel arms (λ to. ARMR (shape_cells forms (shape_of u)) to) (Behind g b x below k)
      → Follows g (from_alternatives x rest (with_open a sel (to_receive channel (Some target))) k) at (w ∷ i ∷ below) arms
  target_armed channel t u i w target a rest sel at below arms others some carries object lies room ar =
      let z = shape_cells forms (shape_of u) in
      let instr = ARMR z ar.to in
      let two = receives_two z some.0 in
      armed_follows a rest sel (to_receive channel (Some target)) instr at (w ∷ i ∷ below) below (w ∷ i ∷ []) arms others ar.makes
      (fits g arms instr (w ∷ i ∷ below) (omega (arith, two)) tt tt)
      (ap (λ (y : ℕ). onward (at + 1) (drop y (w ∷ i ∷ below)) (arms ++ record { by = instr; operands = take y (w ∷ i ∷ below) } ∷ [])) two) room ar.room ar.far
      (ar.to, z, refl, into_variable t u i w target carries object some lies refl refl, ar.branch) ar.others

  -- the seconds of a `timeout`
  pub seconds_armed :
      (v : ℤ) (a : Alternative) (rest : List Alternative) (sel : Selecting) (at : ℕ) (ops : List ℤ) (arms : List Arm)
      → OthersFollow rest → length ops ≤ g.room → ArmAt g s x at (length ops) a rest sel arms ARMT (Behind g b x ops k)
      → Follows g (from_seconds x a sel (λ t. from_alternatives x rest t k) (ordinal v)) at (v ∷ ops) arms
  seconds_armed v a rest sel at ops arms others room ar = by (int_lt v (pos 0)) refl
    where
      by : (r : Bool) → int_lt v (pos 0) ≡ r →
          Follows g (if r then faults x Below else from_alternatives x rest (with_open a sel (to_wait v)) k) at (v ∷ ops) arms
      by true e =
          let few : length arms ≤ g.arms = (let all = ar.room in omega arith) in
          fault_at g arms few b x Below at (v ∷ ops) (ARMT ar.to) ar.makes (fits g arms (ARMT ar.to) (v ∷ ops) (omega arith) tt tt)
          (ap (λ (r : Bool). if r then refuses Below else arming (ARMT ar.to) 1 at (v ∷ ops) arms) e) (inl own)
      by false e =
          armed_follows a rest sel (to_wait v) (ARMT ar.to) at (v ∷ ops) ops (v ∷ []) arms others ar.makes
          (fits g arms (ARMT ar.to) (v ∷ ops) (omega arith) tt tt)
          (ap (λ (r : Bool). if r then refuses Below else arming (ARMT ar.to) 1 at (v ∷ ops) arms) e) room ar.room ar.far
          (ar.to, refl, refl, e, ar.branch) ar.others

  -- ## Behind the number of a channel

  pub message_follows :
      (channel : Spot) (t : Option TypeId) (u : TypeId) (i : ℤ) (m : Option ExprTree) (a : Alternative) (rest : List Alternative) (sel : Selecting)
      (at : ℕ) (ops : List ℤ) (arms : List Arm)
      → OthersFollow rest → HasMessage a.comm → IsChannel forms t u → IsObject g s channel t i → IsMessage s m u
      → CommAt g s x at (suc (length ops)) (length ops) a rest sel arms
      (λ between. message_code s m ⨾ over s (λ to. ARMS (message_cells s m) to) between) (Behind g b x ops k)
      → Follows g (from_message x channel m a rest sel k (λ t. from_alternatives x rest t k)) at (i ∷ ops) arms
  message_follows channel t u i None a rest sel at ops arms others has carries object is c =
      let few : length arms ≤ g.arms = (let all = c.room in omega arith) in
      let ar = arm_at a rest sel arms (Behind g b x ops k) nothing (λ to. ARMS 0 to) at (suc (length ops)) (length ops) (suc (length ops))
      (λ to. plain_branch g s x to (length ops) (Behind g b x ops k) a a.comm has) (λ at n. refl) (λ n. refl) c in
      let room : length ops ≤ g.room = (let all = room_for g c.stands in omega arith) in
      follows_moved g arms few (at + 0) at (omega arith)
      (armed_follows a rest sel (to_send channel a_signal) (ARMS 0 ar.to) (at + 0) (i ∷ ops) ops (i ∷ []) arms others ar.makes
      (fits g arms (ARMS 0 ar.to) (i ∷ ops) (omega arith) tt tt) refl room ar.room ar.far
      (ar.to, 0, refl, of_signal t u i carries object is refl refl refl, ar.branch) ar.others)
  message_follows channel t u i (Some e) a rest sel at ops arms others has carries object is c =
      let few : length arms ≤ g.arms = (let all = c.room in omega arith) in
      let value = expr_code s e in
      let w = shape_cells forms (shape_of u) in
      let made = arm_at a rest sel arms (Behind g b x ops k) value (λ to. ARMS (message_cells s (Some e)) to) at (suc (length ops)) (length ops)
      (w + suc (length ops)) (λ to. plain_branch g s x to (length ops) (Behind g b x ops k) a a.comm has) (sized_expr s e)
      (λ n. held_grown g.program value w (expr_changes s checked.sound e (shape_of u) is.0) at n (suc (length ops))) c in
      let ar = subst (λ (z : ℕ). ArmAt g s x (at + value.size) (length ops) a rest sel arms (λ to. ARMS z to) (Behind g b x ops k)) is.1 made in
      let room : length ops ≤ g.room = (let all = room_for g c.stands in omega arith) in
      expression_follows g b x checked arms few e (shape_of u) is.0 (offer_value channel a rest sel k)
      (λ v. from_alternatives x rest (with_open a sel (to_send channel v)) k) at c.n (i ∷ ops)
      (front g value (over s (λ to. ARMS (message_cells s (Some e)) to) c.between) c.stands)
      (own, (t, u, i, ops, refl, refl, carries, is.2, object, ar))
      (λ v simple.
      let number : IsShaped forms (shape_of u) (ordinal v) = subst (λ (y : Shape). IsShaped forms y (ordinal v)) (sym simple) (v, refl) in
      value_armed channel t u i (shape_of u) (ordinal v) a rest sel (at + value.size) ops arms others refl number carries object is.2 room ar)

  pub receiver_follows :
      (channel : Spot) (t : Option TypeId) (u : TypeId) (i : ℤ) (d : Option DesigTree) (a : Alternative) (rest : List Alternative) (sel : Selecting)
      (at : ℕ) (ops : List ℤ) (arms : List Arm)
      → OthersFollow rest → HasMessage a.comm → IsChannel forms t u → IsObject g s channel t i → IsReceiver s d u
      → CommAt g s x at (suc (length ops)) (length ops) a rest sel arms
      (λ between. receiver_code s d ⨾ over s (λ to. ARMR (receiver_cells s d) to) between) (Behind g b x ops k)
      → Follows g (from_receiver x channel d a rest sel k (λ t. from_alternatives x rest t k)) at (i ∷ ops) arms
  receiver_follows channel t u i None a rest sel at ops arms others has carries object is c =
      let few : length arms ≤ g.arms = (let all = c.room in omega arith) in
      let ar = arm_at a rest sel arms (Behind g b x ops k) nothing (λ to. ARMR 0 to) at (suc (length ops)) (length ops) (suc (length ops))
      (λ to. plain_branch g s x to (length ops) (Behind g b x ops k) a a.comm has) (λ at n. refl) (λ n. refl) c in
      let room : length ops ≤ g.room = (let all = room_for g c.stands in omega arith) in
      follows_moved g arms few (at + 0) at (omega arith)
      (armed_follows a rest sel (to_receive channel None) (ARMR 0 ar.to) (at + 0) (i ∷ ops) ops (i ∷ []) arms others ar.makes
      (fits g arms (ARMR 0 ar.to) (i ∷ ops) (omega arith) tt tt) refl room ar.room ar.far
      (ar.to, 0, refl, into_nothing t u i carries object is refl refl, ar.branch) ar.others)
  receiver_follows channel t u i (Some d) a rest sel at ops arms others has carries object is c =
      let few : length arms ≤ g.arms = (let all = c.room in omega arith) in
      let target = desig_code s d in
      let w = shape_cells forms (shape_of u) in
      let made = arm_at a rest sel arms (Behind g b x ops k) target (λ to. ARMR (receiver_cells s (Some d)) to) at (suc (length ops)) (length ops)
      (suc (suc (length ops))) (λ to. plain_branch g s x to (length ops) (Behind g b x ops k) a a.comm has) (sized_desig s d)
      (λ n. held_grown g.program target 1 (desig_changes s checked.sound d (Some u) is.0) at n (suc (length ops)) ∙ omega arith) c in
      let ar = subst (λ (z : ℕ). ArmAt g s x (at + target.size) (length ops) a rest sel arms (λ to. ARMR z to) (Behind g b x ops k)) is.1 made in
      let some = is.2 in
      let room : length ops ≤ g.room = (let all = room_for g c.stands in omega arith) in
      variable_follows g b x checked own arms few d (Some u) is.0 (offer_into channel a rest sel k) (λ v. tt)
      (λ v. from_alternatives x rest (with_open a sel (to_receive channel (Some v.spot))) k) at c.n (i ∷ ops)
      (front g target (over s (λ to. ARMR (receiver_cells s (Some d)) to) c.between) c.stands)
      (own, (t, u, i, ops, refl, some, carries, refl, object, ar))
      (λ l y lies. target_armed channel t u i y l.spot a rest sel (at + target.size) ops arms others some carries object lies room ar)
