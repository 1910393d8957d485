-- Each accept has the parameters of its entry: by induction over the statements, as they are declared.
use Rattle.std.proofs.Common.{◌≡◌, ℕ, ◌+◌, ◌-◌, ◌<◌, ◌≤◌, ◌==◌, ◌&&◌, ◌||◌, ◌⊎◌, inl, inr, Bool, true, false, not, nat_lt, if◌then◌else◌, List, [], ◌∷◌, length}
use Rattle.std.proofs.Common.{length-append, map, get_or, Option, Some, None, is_some, refl, ap, sym, ◌∙◌, subst, arith}
use Rattle.std.specs.Option.{option_or}
use Rattle.std.proofs.lemmas.Bool.Decides.{nat_tests}
use Rattle.std.proofs.Math.ListN.{get_or-append}
use Rattle.pfc_base.specs.declared.places.Place.{Place}
use Rattle.pfc_tree.specs.Symbols.{Text}
use Rattle.pfc_tree.specs.trees.Types.{GroupTree}
use Rattle.pfc_tree.specs.trees.Stmts.{StmtTree, StmtTrees, ArmTrees, AcceptTree, AltTrees, CommTree, empty, null, block, if_then, if_then_else, case_of}
use Rattle.pfc_tree.specs.trees.Stmts.{while_do, repeat_until, repeat_forever, for_do, cobegin, accepting, requeue, select, select_else, assign, send, receive}
use Rattle.pfc_tree.specs.trees.Stmts.{call, no_stmts, more_stmts, body, arm, no_arms, more_arms, accept, accept_do, alt, no_alts, more_alts, comm_accept}
use Rattle.pfc_tree.specs.trees.Stmts.{comm_send, comm_receive, timeout, terminate}
use Rattle.pfc_types.specs.Faults.{unless, listed}
use Rattle.pfc_types.specs.Growing.{Begins}
use Rattle.pfc_types.specs.Scopes.{Names, Level, all_names, here, scope_at, meaning_in, position_in, within, found_at, found_in, meaning_of, look}
use Rattle.pfc_types.specs.Blocks.{State, no_process, process_at, entry_at, open_scope}
use Rattle.pfc_types.specs.declared.types.TypeId.{TypeId}
use Rattle.pfc_types.specs.declared.heads.Formal.{Formal}
use Rattle.pfc_types.specs.declared.heads.ProcessHead.{ProcessHead}
use Rattle.pfc_types.specs.declared.scope.Meaning.{Meaning}
use Rattle.pfc_types.specs.declared.scope.Meaning.TheVariants.{Constant as AConstant, Named, Variable, Sub, Module, Process, Entry, Predeclared, Faulty}
use Rattle.pfc_types.specs.declared.view.Around.{Around}
use Rattle.pfc_types.specs.declared.view.Found.{Found}
use Rattle.pfc_types.specs.rules.Kinds.{name_rules, an_entry, may_agree, variable_meaning}
use Rattle.pfc_types.specs.rules.Expressions.{Env}
use Rattle.pfc_types.specs.rules.FaultyNames.{all_typed, stands_faulty}
use Rattle.pfc_types.specs.rules.Statements.{scopes_in, arm_scopes, comm_scopes, alt_scopes, alts_scopes, broken_stmt, broken_stmts, broken_arms, broken_accept}
use Rattle.pfc_types.specs.rules.Statements.{broken_comm, broken_alts, accept_rules}
use Rattle.pfc_types.specs.rules.Declarations.{Heading, same_formal, same_formals, accept_rule, accept_heading, accepted, Labels, labels_noted, stmt_state}
use Rattle.pfc_types.specs.rules.Declarations.{stmts_state, arms_state, arm_state, accept_state, alts_state, alt_state, comm_state}
use Rattle.pfc_types.proofs.Walking.{Opened, kept_opened}
use Rattle.pfc_types.proofs.WalkStatements.{labels_kept, accepted_opened, stmt_opened, stmts_opened, arms_opened, arm_opened, alts_opened, alt_opened}
use Rattle.pfc_types.proofs.WalkStatements.{comm_opened}
use Rattle.pfc_name_laws.specs.Numbers.{AreNumbered}
use Rattle.pfc_name_laws.specs.Reached.{HasEntry, entries_of, formal_meaning, meanings_of, Reached}
use Rattle.pfc_name_laws.proofs.Numbers.{numbered, no_faulty, get_or-beyond}
use Rattle.pfc_name_laws.proofs.Headings.{all_headed}
use Rattle.pfc_name_laws.proofs.Steps.{Stepped, note_clean, note_scopes, open_plain, accept_groups_plain, accepted_plain, labels_plain, stmt_plain, stmts_plain}
use Rattle.pfc_name_laws.proofs.Steps.{arms_plain, arm_plain, alts_plain, alt_plain, comm_plain}
use Rattle.pfc_name_laws.proofs.Parts.{opened_empty}
use Rattle.pfc_image_laws.specs.Levels.{sees}
use Rattle.pfc_image_numbers.proofs.Rules.{IsClean}
use Rattle.pfc_image_numbers.proofs.Known.{Stands, stands, found_sees}
use Rattle.pfc_typed_phrases.proofs.Rules.{never, same_type}
use Rattle.pfc_typed_structures.specs.Accepts.{FitsEntry, Fits, AllFit, ArmsFit, AcceptFits, CommFits, AltsFit}

-- ## Parameters

and_left : (a b : Bool) → (a && b) ≡ true → a ≡ true
and_left true b h = refl
and_left false b h = never h

and_right : (a b : Bool) → (a && b) ≡ true → b ≡ true
and_right true b h = h
and_right false b h = never h

same_way : (a b : Bool) → (if a then b else not b) ≡ true → a ≡ b
same_way true true h = refl
same_way true false h = never h
same_way false true h = never h
same_way false false h = refl

one_same : (f g : Formal) → same_formal f g ≡ true → is_some f.t ≡ true → is_some g.t ≡ true → formal_meaning f ≡ formal_meaning g
one_same f g h p q =
    let types = by f.t g.t (and_left (may_agree f.t g.t) (if f.reference then g.reference else not g.reference) h) p q in
    let ways = same_way f.reference g.reference (and_right (may_agree f.t g.t) (if f.reference then g.reference else not g.reference) h) in
    ap (λ (o : Option TypeId). variable_meaning f.reference o) types ∙ ap (λ (r : Bool). variable_meaning r g.t) ways
  where
    by : (x y : Option TypeId) → may_agree x y ≡ true → is_some x ≡ true → is_some y ≡ true → x ≡ y
    by None y h p q = never p
    by (Some x) None h p q = never q
    by (Some x) (Some y) h p q = ap (λ (u : TypeId). Some u) (same_type x y h)

formals_same : (fs gs : List Formal) → same_formals fs gs ≡ true → all_typed fs ≡ true → all_typed gs ≡ true
    → map formal_meaning fs ≡ map formal_meaning gs
formals_same [] [] h p q = refl
formals_same [] (g ∷ gs) h p q = never h
formals_same (f ∷ fs) [] h p q = never h
formals_same (f ∷ fs) (g ∷ gs) h p q =
    ap (λ (m : Meaning). m ∷ map formal_meaning fs)
    (one_same f g (and_left (same_formal f g) (same_formals fs gs) h) (and_left (is_some f.t) (all_typed fs) p) (and_left (is_some g.t) (all_typed gs) q))
    ∙ ap (λ (l : List Meaning). formal_meaning g ∷ l)
    (formals_same fs gs (and_right (same_formal f g) (same_formals fs gs) h) (and_right (is_some f.t) (all_typed fs) p)
    (and_right (is_some g.t) (all_typed gs) q))

pub begun_at : {X : Type 0} (xs ys : List X) (n : ℕ) (d : X) → Begins xs ys → n < length xs → get_or ys n d ≡ get_or xs n d
begun_at xs ys n d b below = ap (λ l. get_or l n d) b.splits ∙ get_or-append xs b.more d n below

-- ## Names in view

found_same : (scopes later : List Names) (view : List Level) (x : Text)
    → ((i : ℕ) → sees view i ≡ true → scope_at later i ≡ scope_at scopes i) → found_in later view x ≡ found_in scopes view x
found_same scopes later [] x h = refl
found_same scopes later (l ∷ view) x h =
    let own = h l.scope (first l.scope (sees view l.scope)) in
    ap (λ (names : Names). option_or (within l (position_in names x) (meaning_in names x)) (found_in later view x)) own
    ∙ ap (λ (o : Option Found). option_or (found_at scopes l x) o) (found_same scopes later view x (λ i e. h i (behind (l.scope == i) (sees view i) e)))
  where
    first : (n : ℕ) (b : Bool) → ((n == n) || b) ≡ true
    first n b = let e : (n == n) ≡ true = grind (arith, nat_tests) in ap (λ (r : Bool). r || b) e

    behind : (a b : Bool) → b ≡ true → (a || b) ≡ true
    behind true b h = refl
    behind false b h = h

-- all names of a scope that is the same
pub scope_same : (scopes later : List Names) (i : ℕ) (x : Text) → scope_at later i ≡ scope_at scopes i
    → found_at later (all_names later i) x ≡ found_at scopes (all_names scopes i) x
scope_same scopes later i x e =
    ap (λ (names : Names). within (record { scope = i; count = length names }) (position_in names x) (meaning_in names x)) e

either_look : (a b : Option Found) → meaning_of (option_or a b) ≡ (if is_some a then meaning_of a else meaning_of b)
either_look None b = refl
either_look (Some f) b = refl

-- ## On the way to the finished program

-- what is declared so far stays
pub record Stays (final s : State) : Type 0 where
  pub processes : Begins s.blocks.processes final.blocks.processes
  pub entries : Begins s.blocks.entries final.blocks.entries
  pub scopes : (j : ℕ) → 0 < j → j < length s.blocks.scopes → scope_at final.blocks.scopes j ≡ scope_at s.blocks.scopes j
  pub clean : s.blocks.noted ≡ []

pub stays_before : {final s t : State} {k : ℕ} → Stepped s t → Opened s t k → Stays final t → Stays final s
stays_before {final} {s} {t} p o h =
    record {
      processes = subst (λ (l : List ProcessHead). Begins l final.blocks.processes) p.processes h.processes;
      entries = subst (λ (l : List (List Formal)). Begins l final.blocks.entries) p.entries h.entries;
      scopes = λ j some below. h.scopes j some (let more = p.count in omega (arith, more, below)) ∙ o.others j below;
      clean = p.clean h.clean;
    }

module _ (final : State) (known : AreNumbered final) (whole : final.blocks.noted ≡ []) (own q : ℕ) (some : 0 < own) where
  abbrev env : List Level → Around → Env
  env vf a = record { state = final; view = vf; around = a }

  -- in the body of the process q, whose scope is `own`
  pub record IsIn (s : State) : Type 0 where
    pub reached : Reached s
    pub last : length s.blocks.processes ≡ q + 1
    pub scope : (process_at s.blocks q).scope ≡ own

  in_then : {s t : State} → Stepped s t → IsIn s → IsIn t
  in_then {s} {t} p h =
      record {
        reached = p.reached;
        last = ap length p.processes ∙ h.last;
        scope = ap (λ (l : List ProcessHead). (get_or l q no_process).scope) p.processes ∙ h.scope;
      }

  -- An entry in view in the finished program was in view. In view are the program's scope and those from the process's own on.
  pub record Sees (s : State) (view vf : List Level) : Type 0 where
    pub found : (x : Text) (k : ℕ) → look final.blocks.scopes vf x ≡ Some (Entry k) → look s.blocks.scopes view x ≡ Some (Entry k)
    pub below : (i : ℕ) → sees view i ≡ true → i < length s.blocks.scopes
    pub range : (i : ℕ) → sees view i ≡ true → (i ≡ 0) ⊎ (own ≤ i)

  sees_then : {s t : State} {k : ℕ} {view vf : List Level} → Opened s t k → Sees s view vf → Sees t view vf
  sees_then {s} {t} {k} {view} {vf} o h =
      record {
        found = λ x n e.
            ap meaning_of (found_same s.blocks.scopes t.blocks.scopes view x (λ i seen. o.others i (h.below i seen))) ∙ h.found x n e;
        below = λ i seen. let b = h.below i seen in let c = o.count in omega (arith, b, c);
        range = h.range;
      }

  -- the scope of an accept, which stays
  sees_inner : {s : State} {view vf : List Level} (n : ℕ) → own ≤ n → n < length s.blocks.scopes
      → scope_at final.blocks.scopes n ≡ scope_at s.blocks.scopes n → Sees s view vf
      → Sees s (here s.blocks.scopes n view) (here final.blocks.scopes n vf)
  sees_inner {s} {view} {vf} n low high same h =
      record {
        found = λ x k e.
            by x k (found_at s.blocks.scopes (all_names s.blocks.scopes n) x)
            (sym (ap (λ (o : Option Found). meaning_of (option_or o (found_in final.blocks.scopes vf x)))
            (scope_same s.blocks.scopes final.blocks.scopes n x same)) ∙ e);
        below = λ i seen. of_level i (n == i) refl seen;
        range = λ i seen. in_range i (n == i) refl seen;
      }
    where
      by : (x : Text) (k : ℕ) (o : Option Found) → meaning_of (option_or o (found_in final.blocks.scopes vf x)) ≡ Some (Entry k)
          → meaning_of (option_or o (found_in s.blocks.scopes view x)) ≡ Some (Entry k)
      by x k None e = h.found x k e
      by x k (Some f) e = e

      of_level : (i : ℕ) (r : Bool) → (n == i) ≡ r → (r || sees view i) ≡ true → i < length s.blocks.scopes
      of_level i true e seen = let is : n ≡ i = grind (arith, nat_tests) in omega (arith, is, high)
      of_level i false e seen = h.below i seen

      in_range : (i : ℕ) (r : Bool) → (n == i) ≡ r → (r || sees view i) ≡ true → (i ≡ 0) ⊎ (own ≤ i)
      in_range i true e seen = let is : n ≡ i = grind (arith, nat_tests) in inr (omega (arith, is, low))
      in_range i false e seen = h.range i seen

  -- ## The entry

  -- an entry in view is one of this process
  entry_below : (s : State) (view : List Level) (x : Text) (k : ℕ) → IsIn s → ((i : ℕ) → sees view i ≡ true → (i ≡ 0) ⊎ (own ≤ i))
      → look s.blocks.scopes view x ≡ Some (Entry k) → (process_at s.blocks q).entries + k < length s.blocks.entries
  entry_below s view x k h range e = by (found_in s.blocks.scopes view x) refl e
    where
      so_far : AreNumbered s
      so_far = numbered s h.reached

      none : ProcessHead
      none = record no_process { entries = length s.blocks.entries }

      last_one : (m : ℕ) → m ≡ q → k < entries_of s.blocks m → (process_at s.blocks q).entries + k < length s.blocks.entries
      last_one m e few =
          let all = h.last in
          let few_q : k < entries_of s.blocks q = subst (λ j. k < entries_of s.blocks j) e few in
          let end : (get_or s.blocks.processes (q + 1) none).entries ≡ length s.blocks.entries =
          ap (λ (y : ProcessHead). y.entries) (get_or-beyond s.blocks.processes (q + 1) none (omega (arith, all))) in
          omega (arith, end, few_q)

      of_process : (i : ℕ) → sees view i ≡ true → HasEntry s.blocks i k → (process_at s.blocks q).entries + k < length s.blocks.entries
      of_process i seen has = by_range (range i seen)
        where
          m : ℕ
          m = has.process

          inside : m < length s.blocks.processes
          inside = has.is

          not_less : own ≤ i → m < q → ⊥
          not_less low less =
              let all = h.last in
              let apart = so_far.apart m q less (omega (arith, all)) in
              let at = has.scope in
              let mine = h.scope in
              omega (arith, apart, at, mine, low)

          by_less : own ≤ i → (r : Bool) → nat_lt m q ≡ r → (process_at s.blocks q).entries + k < length s.blocks.entries
          by_less low true e = let less : m < q = grind (arith, nat_tests) in absurd (not_less low less)
          by_less low false e =
              let most : q ≤ m = grind (arith, nat_tests) in
              let all = h.last in
              last_one m (omega (arith, most, inside, all)) has.entry

          by_range : (i ≡ 0) ⊎ (own ≤ i) → (process_at s.blocks q).entries + k < length s.blocks.entries
          by_range (inl zero_scope) =
              let some = so_far.own m inside in let at = has.scope in absurd (omega (arith, some, at, zero_scope))
          by_range (inr low) = by_less low (nat_lt m q) refl

      of_scope : (f : Found) → found_in s.blocks.scopes view x ≡ Some f → (o : Option ℕ) → f.scope ≡ o → Stands s.blocks o (Entry k)
          → (process_at s.blocks q).entries + k < length s.blocks.entries
      of_scope f is None at h = absurd h
      of_scope f is (Some i) at h = of_process i (found_sees s.blocks.scopes view x f i is at) h

      by : (o : Option Found) → found_in s.blocks.scopes view x ≡ o → meaning_of o ≡ Some (Entry k)
          → (process_at s.blocks q).entries + k < length s.blocks.entries
      by None is e = absurd (cc)
      by (Some f) is e =
          let meant : f.meaning ≡ Entry k = cc in
          of_scope f is f.scope refl (subst (λ (m : Meaning). Stands s.blocks f.scope m) meant (stands s so_far view x f is))

  -- and is the same in the end
  entry_same : (s : State) (k : ℕ) → IsIn s → Stays final s → (process_at s.blocks q).entries + k < length s.blocks.entries
      → entry_at s.blocks (length s.blocks.processes - 1) k ≡ entry_at final.blocks q k
  entry_same s k h stays below =
      let all = h.last in
      let last : length s.blocks.processes - 1 ≡ q = omega (arith, all) in
      let head : process_at final.blocks q ≡ process_at s.blocks q =
      begun_at s.blocks.processes final.blocks.processes q no_process stays.processes (omega (arith, all)) in
      ap (λ m. entry_at s.blocks m k) last
      ∙ sym (begun_at s.blocks.entries final.blocks.entries ((process_at s.blocks q).entries + k) [] stays.entries below)
      ∙ ap (λ (y : ProcessHead). get_or final.blocks.entries (y.entries + k) []) (sym head)

  -- ## One accept

  -- the name of an accept in which no rule is broken stands for an entry
  named_entry : (vf : List Level) (x : Text) (p : Place) → IsClean (name_rules an_entry (look final.blocks.scopes vf x) p)
      → (k : ℕ) × (look final.blocks.scopes vf x ≡ Some (Entry k))
  named_entry vf x p h = by (look final.blocks.scopes vf x) refl h
    where
      by : (m : Option Meaning) → look final.blocks.scopes vf x ≡ m → IsClean (name_rules an_entry m p) → (k : ℕ) × (m ≡ Some (Entry k))
      by None e h = absurd h
      by (Some (AConstant t v)) e h = absurd h
      by (Some (Named t)) e h = absurd h
      by (Some (Variable t r)) e h = absurd h
      by (Some (Sub n)) e h = absurd h
      by (Some (Module n)) e h = absurd h
      by (Some (Process n)) e h = absurd h
      by (Some (Entry k)) e h = (k, refl)
      by (Some (Predeclared k)) e h = absurd h
      by (Some Faulty) e h = never (sym (sym (ap stands_faulty e) ∙ no_faulty final known whole vf x))

  listed_holds : (r : Bool) (p : Place) (n : ℕ) → listed (unless r p n) ≡ [] → r ≡ true
  listed_holds true p n e = refl
  listed_holds false p n e = absurd (cc)

  entry_fits :
      (s : State) (view vf : List Level) (x : Text) (gs : List GroupTree) (p : Place) (a : Around) (at : Place) → IsIn s → Sees s view vf
      → own < length s.blocks.scopes → Stays final (accepted s view x gs p) → IsClean (accept_rules (env vf a) x p at)
      → FitsEntry final.blocks q vf (length s.blocks.scopes) x
  entry_fits s view vf x gs p a at inside seen there stays clean =
      let n = length s.blocks.scopes in
      let begin : Heading = record { state = open_scope s; formals = []; whole = true } in
      let h = accept_heading (open_scope s) n view gs in
      let rule = accept_rule h.state.blocks (look s.blocks.scopes view x) h.formals p in
      let more = length-append s.blocks.scopes ([] ∷ []) in
      let headed = accept_groups_plain n view begin gs (omega (arith, more)) (open_plain s inside.reached).reached in
      let two = note_clean h.state rule stays.clean in
      let name = named_entry vf x p clean.1 in
      let k = name.0 in
      let was : look s.blocks.scopes view x ≡ Some (Entry k) = seen.found x k name.1 in
      let entry = entry_at h.state.blocks (length h.state.blocks.processes - 1) k in
      let same : same_formals h.formals entry ≡ true =
      listed_holds (same_formals h.formals entry) p 415
      (ap (λ (m : Option Meaning). listed (accept_rule h.state.blocks m h.formals p)) (sym was) ∙ two.1) in
      let processes : h.state.blocks.processes ≡ s.blocks.processes = headed.steps.processes in
      let entries : h.state.blocks.entries ≡ s.blocks.entries = headed.steps.entries in
      let stays_s = stays_before (accepted_plain s view x gs p inside.reached) (accepted_opened s view x gs p) stays in
      let low = entry_below s view x k inside seen.range was in
      let then_same : entry ≡ entry_at s.blocks (length s.blocks.processes - 1) k =
      ap (λ (l : List ProcessHead). get_or h.state.blocks.entries ((get_or l (length l - 1) no_process).entries + k) []) processes
      ∙ ap (λ (l : List (List Formal)). get_or l ((process_at s.blocks (length s.blocks.processes - 1)).entries + k) []) entries in
      let in_the_end = then_same ∙ entry_same s k inside stays_s low in
      let idx = (process_at s.blocks q).entries + k in
      let entry_typed : all_typed entry ≡ true =
      let all = inside.last in
      let last : length s.blocks.processes - 1 ≡ q = omega (arith, all) in
      ap (λ (l : List Formal). all_typed l) (then_same ∙ ap (λ m. entry_at s.blocks m k) last)
      ∙ (all_headed s inside.reached).entries idx low stays_s.clean in
      let count = (accepted_opened s view x gs p).count in
      record {
        entry = k;
        named = name.1;
        parameters = ap meanings_of (stays.scopes n (omega (arith, there, some)) (omega (arith, count)))
            ∙ ap (λ (l : List Names). meanings_of (scope_at l n)) (note_scopes h.state rule) ∙ headed.names two.0 (opened_empty s)
            ∙ formals_same h.formals entry same (headed.typed two.0 refl) entry_typed ∙ ap (λ (l : List Formal). map formal_meaning l) in_the_end;
      }

  -- ## All accepts in statements

  -- the statement at hand begins here, where the next scope is number n
  pub record IsAt (s : State) (view vf : List Level) (n : ℕ) : Type 0 where
    pub inside : IsIn s
    pub seen : Sees s view vf
    pub there : own < length s.blocks.scopes
    pub count : length s.blocks.scopes ≡ n

  at_then : {s t : State} {k : ℕ} {view vf : List Level} {n : ℕ} → Stepped s t → Opened s t k → IsAt s view vf n → IsAt t view vf (n + k)
  at_then p o h =
      record {
        inside = in_then p h.inside;
        seen = sees_then o h.seen;
        there = let b = h.there in let c = p.count in omega (arith, b, c);
        count = let b = h.count in let c = o.count in omega (arith, b, c);
      }

  at_same : {s t : State} {view vf : List Level} {n : ℕ} → Stepped s t → Opened s t 0 → IsAt s view vf n → IsAt t view vf n
  at_same {s} {t} {view} {vf} {n} p o h = let none : n + 0 ≡ n = omega arith in subst (λ k. IsAt t view vf k) none (at_then p o h)

  mutual
    stmt_fits :
        (t : StmtTree) (s : State) (view vf : List Level) (a : Around) (n : ℕ) → IsAt s view vf n → Stays final (stmt_state s view t)
        → IsClean (broken_stmt (env vf a) n t) → Fits final.blocks q vf n t
    stmt_fits empty s view vf a n at stays c = tt
    stmt_fits (null p) s view vf a n at stays c = tt
    stmt_fits (block (body ss first last) p) s view vf a n at stays c = stmts_fit ss s view vf a n at stays c
    stmt_fits (if_then e t p) s view vf a n at stays c = stmt_fits t s view vf a n at stays c.1.1
    stmt_fits (if_then_else e t u p) s view vf a n at stays c =
        let r = at.inside.reached in
        let s1 = stmt_state s view t in
        let step = stmt_plain s view t r in (
          stmt_fits t s view vf a n at (stays_before (stmt_plain s1 view u step.reached) (stmt_opened s1 view u) stays) c.1.1.0,
          stmt_fits u s1 view vf a (n + scopes_in t) (at_then step (stmt_opened s view t) at) stays c.1.1.1,
        )
    stmt_fits (case_of e arms last p) s view vf a n at stays c = arms_fit arms (record { state = s; seen = [] }) view vf a _ n at stays c.1
    stmt_fits (while_do e t p) s view vf a n at stays c = stmt_fits t s view vf a n at stays c.1.1
    stmt_fits (repeat_until ss e p) s view vf a n at stays c = stmts_fit ss s view vf a n at stays c.0
    stmt_fits (repeat_forever ss p) s view vf a n at stays c = stmts_fit ss s view vf a n at stays c
    stmt_fits (for_do x from down to t p z) s view vf a n at stays c = stmt_fits t s view vf a n at stays c.1
    stmt_fits (cobegin ss last p) s view vf a n at stays c = stmts_fit ss s view vf (record a { cobegin = true }) n at stays c.1
    stmt_fits (accepting x p) s view vf a n at stays c = accept_fits x s view vf a n p at stays c
    stmt_fits (requeue x args p) s view vf a n at stays c = tt
    stmt_fits (select pri alts p z) s view vf a n at stays c = alts_fit alts s view vf a n at stays c.1.1.1
    stmt_fits (select_else pri alts ss z p w) s view vf a n at stays c =
        let r = at.inside.reached in
        let s1 = alts_state s view alts in
        let step = alts_plain s view alts r in (
          alts_fit alts s view vf a n at (stays_before (stmts_plain s1 view ss step.reached) (stmts_opened s1 view ss) stays) c.1.1.1.0,
          stmts_fit ss s1 view vf a (n + alts_scopes alts) (at_then step (alts_opened s view alts) at) stays c.1.1.1.1.1,
        )
    stmt_fits (assign d e p z) s view vf a n at stays c = tt
    stmt_fits (send d e p z) s view vf a n at stays c = tt
    stmt_fits (receive d v p z) s view vf a n at stays c = tt
    stmt_fits (call d args p) s view vf a n at stays c = tt

    pub stmts_fit :
        (ts : StmtTrees) (s : State) (view vf : List Level) (a : Around) (n : ℕ) → IsAt s view vf n → Stays final (stmts_state s view ts)
        → IsClean (broken_stmts (env vf a) n ts) → AllFit final.blocks q vf n ts
    stmts_fit no_stmts s view vf a n at stays c = tt
    stmts_fit (more_stmts t ts) s view vf a n at stays c =
        let s1 = stmt_state s view t in
        let step = stmt_plain s view t at.inside.reached in (
          stmt_fits t s view vf a n at (stays_before (stmts_plain s1 view ts step.reached) (stmts_opened s1 view ts) stays) c.0,
          stmts_fit ts s1 view vf a (n + scopes_in t) (at_then step (stmt_opened s view t) at) stays c.1,
        )

    arms_fit :
        (arms : ArmTrees) (r : Labels) (view vf : List Level) (a : Around) (o : Option TypeId) (n : ℕ) → IsAt r.state view vf n
        → Stays final (arms_state view r arms).state → IsClean (broken_arms (env vf a) n o arms) → ArmsFit final.blocks q vf n arms
    arms_fit no_arms r view vf a o n at stays c = tt
    arms_fit (more_arms (arm ls t) arms) r view vf a o n at stays c =
        let r1 = arm_state view r (arm ls t) in
        let l = labels_noted view r ls in
        let reached = at.inside.reached in
        let step = arm_plain view r (arm ls t) reached in (
          stmt_fits t l.state view vf a n (at_same (labels_plain view r ls reached) (kept_opened (labels_kept view r ls)) at)
              (stays_before (arms_plain view r1 arms step.reached) (arms_opened view r1 arms) stays) c.0.1,
          arms_fit arms r1 view vf a o (n + arm_scopes (arm ls t)) (at_then step (arm_opened view r (arm ls t)) at) stays c.1,
        )

    accept_fits :
        (x : AcceptTree) (s : State) (view vf : List Level) (a : Around) (n : ℕ) (p : Place) → IsAt s view vf n → Stays final (accept_state s view x)
        → IsClean (broken_accept (env vf a) n x p) → AcceptFits final.blocks q vf n x
    accept_fits (accept x gs z) s view vf a n p at stays c =
        subst (λ k. FitsEntry final.blocks q vf k x) at.count (entry_fits s view vf x gs z a p at.inside at.seen at.there stays c)
    accept_fits (accept_do x gs t z) s view vf a n p at stays c =
        let m = length s.blocks.scopes in
        let s1 = accepted s view x gs z in
        let step = accepted_plain s view x gs z at.inside.reached in
        let opened = accepted_opened s view x gs z in
        let inner = here s1.blocks.scopes m view in
        let stays1 = stays_before (stmt_plain s1 inner t step.reached) (stmt_opened s1 inner t) stays in
        let there = at.there in
        let count = opened.count in
        let later = at_then step opened at in
        let first = entry_fits s view vf x gs z a p at.inside at.seen at.there stays1 c.0 in
        let same = stays1.scopes m (omega (arith, there, some)) (omega (arith, count)) in
        let seen = sees_inner m (omega (arith, there)) (omega (arith, count)) same later.seen in (
          subst (λ k. FitsEntry final.blocks q vf k x) at.count first,
          stmt_fits t s1 inner (here final.blocks.scopes n vf) a (n + 1) (record {
            inside = later.inside;
            seen = subst (λ k. Sees s1 inner (here final.blocks.scopes k vf)) at.count seen;
            there = later.there;
            count = later.count;
          }) stays c.1,
        )

    comm_fits :
        (x : CommTree) (s : State) (view vf : List Level) (a : Around) (n : ℕ) → IsAt s view vf n → Stays final (comm_state s view x)
        → IsClean (broken_comm (env vf a) n x) → CommFits final.blocks q vf n x
    comm_fits (comm_accept x p) s view vf a n at stays c = accept_fits x s view vf a n p at stays c
    comm_fits (comm_send d e p) s view vf a n at stays c = tt
    comm_fits (comm_receive d v p) s view vf a n at stays c = tt
    comm_fits (timeout e p) s view vf a n at stays c = tt
    comm_fits (terminate p) s view vf a n at stays c = tt

    alts_fit :
        (alts : AltTrees) (s : State) (view vf : List Level) (a : Around) (n : ℕ) → IsAt s view vf n → Stays final (alts_state s view alts)
        → IsClean (broken_alts (env vf a) n alts) → AltsFit final.blocks q vf n alts
    alts_fit no_alts s view vf a n at stays c = tt
    alts_fit (more_alts (alt spread guard comm ss) alts) s view vf a n at stays c =
        let one = alt spread guard comm ss in
        let s1 = alt_state s view one in
        let s0 = comm_state s view comm in
        let reached = at.inside.reached in
        let step = alt_plain s view one reached in
        let first = comm_plain s view comm reached in
        let stays1 = stays_before (alts_plain s1 view alts step.reached) (alts_opened s1 view alts) stays in (
          comm_fits comm s view vf a n at (stays_before (stmts_plain s0 view ss first.reached) (stmts_opened s0 view ss) stays1) c.0.1.1.0,
          stmts_fit ss s0 view vf a (n + comm_scopes comm) (at_then first (comm_opened s view comm) at) stays1 c.0.1.1.1,
          alts_fit alts s1 view vf a (n + alt_scopes one) (at_then step (alt_opened s view one) at) stays c.1,
        )
