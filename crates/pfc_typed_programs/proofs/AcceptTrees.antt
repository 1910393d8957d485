-- Each accept in the body of a process has the parameters of its entry: by induction over the parts of a program, as they are declared.
use Rattle.std.proofs.Common.{◌≡◌, ℕ, ◌+◌, ◌<◌, ◌≤◌, ◌==◌, ◌||◌, ◌⊎◌, inl, inr, Bool, true, false, List, [], ◌∷◌, ◌++◌, length, get_or, Option, Some, None}
use Rattle.std.proofs.Common.{refl, ap, sym, ◌∙◌, subst, arith}
use Rattle.std.specs.List.{All}
use Rattle.std.specs.Option.{option_or}
use Rattle.std.proofs.lemmas.Bool.Decides.{nat_tests}
use Rattle.std.proofs.lemmas.List.Elements.{All-nil, All-cons, All-append, All-weaker}
use Rattle.pfc_tree.specs.Symbols.{Text}
use Rattle.pfc_tree.specs.trees.Stmts.{body}
use Rattle.pfc_tree.specs.trees.Parts.{PartTree, PartTrees, SubTree, ModuleTree, ProcessTree, ProgramTree, consts, types, vars, sub_part, monitor, resource}
use Rattle.pfc_tree.specs.trees.Parts.{process_part, no_parts, more_parts, sub, the_module, process}
use Rattle.pfc_tree.specs.forget.Parts.{forget_part, forget_parts, forget_sub, forget_module, forget_process, forget_program}
use Rattle.pfc_tree.specs.lawful.Parts.{Home, of_program, of_resource, of_other, HoldsModules, IsLawfulPart, AreLawfulParts, IsLawfulSub, IsLawfulModule}
use Rattle.pfc_tree.specs.lawful.Parts.{IsLawfulProcess, IsLawful}
use Rattle.pfc_types.specs.Scopes.{Names, Level, all_names, here, scope_at, found_at, found_in, meaning_of, look}
use Rattle.pfc_types.specs.Blocks.{State, no_process, process_at}
use Rattle.pfc_types.specs.declared.heads.ProcessHead.{ProcessHead}
use Rattle.pfc_types.specs.declared.scope.Meaning.{Meaning}
use Rattle.pfc_types.specs.declared.scope.Meaning.TheVariants.{Entry}
use Rattle.pfc_types.specs.declared.view.Found.{Found}
use Rattle.pfc_types.specs.rules.Statements.{broken_stmts}
use Rattle.pfc_types.specs.rules.Bodies.{env_at, around_process, level, passed, passed_part, passed_groups, passed_entries, part_scopes, parts_scopes}
use Rattle.pfc_types.specs.rules.Bodies.{broken_part, broken_parts, broken_process}
use Rattle.pfc_types.specs.rules.Declarations.{in_program, elsewhere, entries_state, process_headed, process_cells, cells_rule, body_state, part_state}
use Rattle.pfc_types.specs.rules.Declarations.{parts_state, process_state}
use Rattle.pfc_types.specs.rules.Whole.{begun, declared_parts, declared_all, main_cells, finished, broken, faults_in}
use Rattle.pfc_types.proofs.Prefixes.{begins_same, begins_trans, begins_length}
use Rattle.pfc_types.proofs.Walking.{Walked, note_kept, kept_opened}
use Rattle.pfc_types.proofs.WalkDeclarations.{entries_walked}
use Rattle.pfc_types.proofs.WalkStatements.{body_opened}
use Rattle.pfc_types.proofs.WalkParts.{part_walked, parts_walked, process_headed_walked}
use Rattle.pfc_semantics.specs.Programs.{Block, part_blocks, parts_blocks, sub_blocks, module_blocks, process_blocks, program_of}
use Rattle.pfc_name_laws.specs.Numbers.{AreNumbered}
use Rattle.pfc_name_laws.specs.Reached.{Reached, at_begin}
use Rattle.pfc_name_laws.proofs.Numbers.{numbered, none_noted}
use Rattle.pfc_name_laws.proofs.Steps.{note_plain, body_plain}
use Rattle.pfc_name_laws.proofs.Parts.{Grown, process_headed_grown, entries_grown, part_grown, parts_grown, finished_reached}
use Rattle.pfc_name_laws.proofs.Processes.{parts_same, entries_same}
use Rattle.pfc_image_numbers.proofs.Rules.{IsClean, clean_of}
use Rattle.pfc_image_numbers.proofs.Known.{Stands, stands, found_sees}
use Rattle.pfc_image_cells.specs.Subs.{part_subs, parts_subs, sub_subs, module_subs, process_subs}
use Rattle.pfc_image_cells.proofs.Trees.{among, among_append, same_number}
use Rattle.pfc_typed_structures.specs.Accepts.{AllFit}
use Rattle.pfc_typed_programs.specs.Accepts.{HasEntries}
use Rattle.pfc_typed_programs.proofs.Accepts.{Stays, stays_before, begun_at, scope_same, stmts_fit}

-- ## Subs among the parts

among_first : (j : ℕ) (is js : List ℕ) → among j is ≡ true → among j (is ++ js) ≡ true
among_first j is js e = among_append j is js ∙ ap (λ (r : Bool). r || among j js) e

among_behind : (j : ℕ) (is js : List ℕ) → among j js ≡ true → among j (is ++ js) ≡ true
among_behind j is js e = among_append j is js ∙ by (among j is) (among j js) e
  where
    by : (x y : Bool) → y ≡ true → (x || y) ≡ true
    by true y e = refl
    by false y e = e

-- the block is that of one of these subs
abbrev pub IsSubs : List ℕ → Block → Type 0
IsSubs is b = (among b.scope is ≡ true) × (b.env.around.sub ≡ true)

subs_weaker : (is js : List ℕ) (bs : List Block) → ((j : ℕ) → among j is ≡ true → among j js ≡ true) → All (IsSubs is) bs → All (IsSubs js) bs
subs_weaker is js bs f h = All-weaker (IsSubs is) (IsSubs js) (λ b e. (f b.scope e.0, e.1)) bs h

mutual
  part_of_subs :
      (s : State) (h : Home) (in_process : Bool) (i n : ℕ) (outer : List Level) (next : ℕ) (q : PartTree) → (HoldsModules h → ⊥)
      → IsLawfulPart h (forget_part q) → All (IsSubs (part_subs next q)) (part_blocks s in_process i n outer next q)
  part_of_subs s h in_process i n outer next (consts items) apart lawful = All-nil (IsSubs [])
  part_of_subs s h in_process i n outer next (types items) apart lawful = All-nil (IsSubs [])
  part_of_subs s h in_process i n outer next (vars vs) apart lawful = All-nil (IsSubs [])
  part_of_subs s h in_process i n outer next (sub_part b) apart lawful = sub_of_subs s h in_process i n outer next b lawful
  part_of_subs s h in_process i n outer next (monitor m) apart lawful = absurd (apart lawful.0)
  part_of_subs s h in_process i n outer next (resource m) apart lawful = absurd (apart lawful.0)
  part_of_subs s h in_process i n outer next (process_part p) apart lawful = absurd (apart lawful.0)

  parts_of_subs :
      (s : State) (h : Home) (in_process : Bool) (i n : ℕ) (outer : List Level) (next : ℕ) (qs : PartTrees) → (HoldsModules h → ⊥)
      → AreLawfulParts h (forget_parts qs) → All (IsSubs (parts_subs next qs)) (parts_blocks s in_process i n outer next qs)
  parts_of_subs s h in_process i n outer next no_parts apart lawful = All-nil (IsSubs [])
  parts_of_subs s h in_process i n outer next (more_parts q qs) apart lawful =
      let further = passed_part (scope_at s.blocks.scopes i) n q in
      let is = part_subs next q in
      let js = parts_subs (next + part_scopes q) qs in
      let a = part_blocks s in_process i n outer next q in
      let b = parts_blocks s in_process i further outer (next + part_scopes q) qs in
      All-append (IsSubs (is ++ js)) a b
      (subs_weaker is (is ++ js) a (λ j e. among_first j is js e) (part_of_subs s h in_process i n outer next q apart lawful.0))
      (subs_weaker js (is ++ js) b (λ j e. among_behind j is js e)
      (parts_of_subs s h in_process i further outer (next + part_scopes q) qs apart lawful.1))

  sub_of_subs :
      (s : State) (h : Home) (in_process : Bool) (i n : ℕ) (outer : List Level) (next : ℕ) (b : SubTree) → IsLawfulSub h (forget_sub b)
      → All (IsSubs (sub_subs next b)) (sub_blocks s in_process i n outer next b)
  sub_of_subs s h in_process i n outer next (sub x gs kind ps (body ss from to) p) lawful =
      let own = scope_at s.blocks.scopes next in
      let around = level i (passed (scope_at s.blocks.scopes i) n x) ∷ outer in
      let js = parts_subs (next + 1) ps in
      let inner = parts_blocks s in_process next (passed_groups own 0 gs) around (next + 1) ps in
      All-append (IsSubs (next ∷ js)) inner _
      (subs_weaker js (next ∷ js) inner (λ j e. among_behind j (next ∷ []) js e)
      (parts_of_subs s of_other in_process next (passed_groups own 0 gs) around (next + 1) ps (λ e. e) lawful.2))
      (All-cons (IsSubs (next ∷ js)) _ [] (ap (λ (r : Bool). r || among next js) (same_number next), refl) (All-nil (IsSubs (next ∷ js))))

module_of_subs :
    (s : State) (h : Home) (i n : ℕ) (outer : List Level) (next : ℕ) (m : ModuleTree) → (HoldsModules h → ⊥) → IsLawfulModule h (forget_module m)
    → All (IsSubs (module_subs next m)) (module_blocks s i n outer next m)
module_of_subs s h i n outer next (the_module x exports ps b last p) apart lawful =
    parts_of_subs s h false next 0 (level i n ∷ outer) (next + 1) ps apart lawful.1

-- ## Processes

-- what stays behind a part stayed before it
stays_grown : {final s t : State} {k : ℕ} {P : Names → ℕ → ℕ} → Grown s t → Walked 0 s t k P → Stays final t → Stays final s
stays_grown {final} {s} {t} g w h =
    record {
      processes = begins_trans s.blocks.processes t.blocks.processes final.blocks.processes g.processes h.processes;
      entries = begins_trans s.blocks.entries t.blocks.entries final.blocks.entries g.entries h.entries;
      scopes = λ j some below. h.scopes j some (let more = g.count in omega (arith, more, below)) ∙ w.others j below (λ e. omega (arith, e, some));
      clean = g.clean h.clean;
    }

-- the scope of a process and the program's
low_seen : (own long : ℕ) → own < long → (i : ℕ) → (own == i || (0 == i || false)) ≡ true → i < long
low_seen own long there i seen = by (own == i) (0 == i) refl refl seen
  where
    by : (a b : Bool) → (own == i) ≡ a → (0 == i) ≡ b → (a || (b || false)) ≡ true → i < long
    by true b e f h = let same : own ≡ i = grind (arith, nat_tests) in omega (arith, same, there)
    by false true e f h = let same : 0 ≡ i = grind (arith, nat_tests) in omega (arith, same, there)
    by false false e f h = absurd (cc)

seen_range : (own i : ℕ) → (own == i || (0 == i || false)) ≡ true → (i ≡ 0) ⊎ (own ≤ i)
seen_range own i seen = by (own == i) (0 == i) refl refl seen
  where
    by : (a b : Bool) → (own == i) ≡ a → (0 == i) ≡ b → (a || (b || false)) ≡ true → (i ≡ 0) ⊎ (own ≤ i)
    by true b e f h = let same : own ≡ i = grind (arith, nat_tests) in inr (omega (arith, same))
    by false true e f h = let same : 0 ≡ i = grind (arith, nat_tests) in inl (omega (arith, same))
    by false false e f h = absurd (cc)

module _ (final : State) (known : AreNumbered final) (whole : final.blocks.noted ≡ []) (subs : List ℕ) where
  -- a block of a sub, or of a process with its accepts
  abbrev Is : Block → Type 0
  Is b = IsSubs subs b ⊎ HasEntries final.blocks b

  of_subs : (is : List ℕ) (bs : List Block) → ((j : ℕ) → among j is ≡ true → among j subs ≡ true) → All (IsSubs is) bs → All Is bs
  of_subs is bs f h = All-weaker (IsSubs is) Is (λ b e. inl (f b.scope e.0, e.1)) bs h

  -- the program has no entry in its own scope
  no_entry : (c : ℕ) (x : Text) (k : ℕ) → look final.blocks.scopes (level 0 c ∷ []) x ≡ Some (Entry k) → ⊥
  no_entry c x k e = by (found_in final.blocks.scopes (level 0 c ∷ []) x) refl e
    where
      first : (i : ℕ) → (0 == i || false) ≡ true → i ≡ 0
      first i h = by (0 == i) refl h
        where
          by : (r : Bool) → (0 == i) ≡ r → (r || false) ≡ true → i ≡ 0
          by true e h = grind (arith, nat_tests)
          by false e h = absurd (cc)

      of_scope : (f : Found) → found_in final.blocks.scopes (level 0 c ∷ []) x ≡ Some f → (o : Option ℕ) → f.scope ≡ o
          → Stands final.blocks o (Entry k) → ⊥
      of_scope f is None at h = h
      of_scope f is (Some i) at h =
          let seen = first i (found_sees final.blocks.scopes (level 0 c ∷ []) x f i is at) in
          let some = known.own h.process h.is in
          let own = h.scope in
          omega (arith, seen, some, own)

      by : (o : Option Found) → found_in final.blocks.scopes (level 0 c ∷ []) x ≡ o → meaning_of o ≡ Some (Entry k) → ⊥
      by None is e = cc
      by (Some f) is e =
          let meant : f.meaning ≡ Entry k = cc in
          of_scope f is f.scope refl (subst (λ (m : Meaning). Stands final.blocks f.scope m) meant (stands final known (level 0 c ∷ []) x f is))

  -- an entry in view in the finished body was in view in it
  look_same : (declared : State) (own : ℕ) (around : List Level) (c : ℕ) (y : Text) (k : ℕ)
      → scope_at final.blocks.scopes own ≡ scope_at declared.blocks.scopes own
      → look final.blocks.scopes (here final.blocks.scopes own (level 0 c ∷ [])) y ≡ Some (Entry k)
      → look declared.blocks.scopes (here declared.blocks.scopes own around) y ≡ Some (Entry k)
  look_same declared own around c y k same e =
      by (found_at declared.blocks.scopes (all_names declared.blocks.scopes own) y)
      (sym (ap (λ (o : Option Found). meaning_of (option_or o (found_in final.blocks.scopes (level 0 c ∷ []) y)))
      (scope_same declared.blocks.scopes final.blocks.scopes own y same)) ∙ e)
    where
      by : (o : Option Found) → meaning_of (option_or o (found_in final.blocks.scopes (level 0 c ∷ []) y)) ≡ Some (Entry k)
          → meaning_of (option_or o (found_in declared.blocks.scopes around y)) ≡ Some (Entry k)
      by None e = absurd (no_entry c y k e)
      by (Some f) e = e

  process_fits :
      (s : State) (n next : ℕ) (p : ProcessTree) → IsLawfulProcess (forget_process p) → Reached s → 0 < next → length s.blocks.scopes ≡ next
      → IsClean (broken_process final 0 n [] next p) → Stays final (process_state s 0 [] p)
      → ((j : ℕ) → among j (process_subs next p) ≡ true → among j subs ≡ true) → All Is (process_blocks final 0 n [] next p)
  process_fits s n next (process many x gs es ps (body ss from to) p) lawful r some at c stays f =
      let own = length s.blocks.scopes in
      let names = scope_at final.blocks.scopes next in
      let count = passed_entries names (passed_groups names 0 gs) es in
      let around_final = level 0 (passed (scope_at final.blocks.scopes 0) n x) ∷ [] in
      let headed = process_headed s 0 [] many (x, p) gs in
      let around = here headed.blocks.scopes 0 [] in
      let entered = entries_state headed own around 0 es in
      let declared = parts_state elsewhere entered own around ps in
      let view = here declared.blocks.scopes own around in
      let done = body_state declared view (body ss from to) in
      let rule = cells_rule (process_cells done own (length declared.blocks.scopes)) p in
      let below : 0 < own = omega (arith, some, at) in
      let head = process_headed_grown s 0 [] many (x, p) gs r below in
      let inside : own < length headed.blocks.scopes = head.2 in
      let entries = entries_grown headed own around 0 es head.0.reached inside head.1 in
      let entries_count = entries.count in
      let inside_then : own < length entered.blocks.scopes = omega (arith, inside, entries_count) in
      let inner = parts_grown elsewhere entered own around ps entries.reached inside_then in
      let inner_count = inner.count in
      let there : own < length declared.blocks.scopes = omega (arith, inside_then, inner_count) in
      let stmts = body_plain declared view (body ss from to) inner.reached in
      let stays_done = stays_before (note_plain done rule stmts.reached) (kept_opened (note_kept done rule)) stays in
      let stays_declared = stays_before stmts (body_opened declared view (body ss from to)) stays_done in
      let q = head.1.before in
      let same : declared.blocks.processes ≡ headed.blocks.processes =
      parts_same of_other elsewhere entered own around ps (λ e. e) lawful.2 ∙ entries_same headed own around 0 es in
      let last : length declared.blocks.processes ≡ q + 1 = ap length same ∙ head.1.all in
      let scope : (process_at declared.blocks q).scope ≡ own =
      ap (λ (l : List ProcessHead). (get_or l q no_process).scope) same ∙ head.1.scope in
      let own_same : scope_at final.blocks.scopes own ≡ scope_at declared.blocks.scopes own = stays_declared.scopes own below there in
      let first_count = (process_headed_walked s 0 [] many (x, p) gs below).count in
      let second_count = (entries_walked headed own around 0 es inside).count in
      let third_count = (parts_walked elsewhere entered own around ps inside_then).count in
      let number : length declared.blocks.scopes ≡ next + 1 + parts_scopes ps = omega (arith, first_count, second_count, third_count, at) in
      let processes = begins_length declared.blocks.processes final.blocks.processes stays_declared.processes in
      let body_clean : IsClean (broken_stmts (env_at final (here final.blocks.scopes own around_final) around_process) (next + 1 + parts_scopes ps) ss) =
      subst (λ j. IsClean (broken_stmts (env_at final (here final.blocks.scopes j around_final) around_process) (next + 1 + parts_scopes ps) ss))
      (sym at) c.1 in
      let fits : AllFit final.blocks q (here final.blocks.scopes own around_final) (next + 1 + parts_scopes ps) ss =
      stmts_fit final known whole own q below ss declared view (here final.blocks.scopes own around_final) around_process (next + 1 + parts_scopes ps)
      (record {
        inside = record { reached = inner.reached; last = last; scope = scope };
        seen = record {
          found = λ y k e. look_same declared own around (passed (scope_at final.blocks.scopes 0) n x) y k own_same e;
          below = λ i seen. low_seen own (length declared.blocks.scopes) there i seen;
          range = λ i seen. seen_range own i seen;
        };
        there = there;
        count = number;
      }) stays_done
      body_clean in
      All-append Is (parts_blocks final true next count around_final (next + 1) ps) _
      (of_subs (parts_subs (next + 1) ps) (parts_blocks final true next count around_final (next + 1) ps) f
      (parts_of_subs final of_other true next count around_final (next + 1) ps (λ e. e) lawful.2))
      (All-cons Is _ [] (inr (record {
        process = q;
        is = omega (arith, processes, last);
        own = ap (λ (y : ProcessHead). y.scope)
            (begun_at declared.blocks.processes final.blocks.processes q no_process stays_declared.processes (omega (arith, last))) ∙ scope ∙ at;
        fits = subst (λ j. AllFit final.blocks q (here final.blocks.scopes j around_final) (next + 1 + parts_scopes ps) ss) at fits;
      })) (All-nil Is))

  part_fits :
      (s : State) (n next : ℕ) (q : PartTree) → IsLawfulPart of_program (forget_part q) → Reached s → 0 < next → length s.blocks.scopes ≡ next
      → IsClean (broken_part final false 0 n [] next q) → Stays final (part_state in_program s 0 [] q)
      → ((j : ℕ) → among j (part_subs next q) ≡ true → among j subs ≡ true) → All Is (part_blocks final false 0 n [] next q)
  part_fits s n next (consts items) lawful r some at c stays f = All-nil Is
  part_fits s n next (types items) lawful r some at c stays f = All-nil Is
  part_fits s n next (vars vs) lawful r some at c stays f = All-nil Is
  part_fits s n next (sub_part b) lawful r some at c stays f =
      of_subs (sub_subs next b) (sub_blocks final false 0 n [] next b) f (sub_of_subs final of_program false 0 n [] next b lawful)
  part_fits s n next (monitor m) lawful r some at c stays f =
      of_subs (module_subs next m) (module_blocks final 0 n [] next m) f (module_of_subs final of_other 0 n [] next m (λ e. e) lawful.1)
  part_fits s n next (resource m) lawful r some at c stays f =
      of_subs (module_subs next m) (module_blocks final 0 n [] next m) f (module_of_subs final of_resource 0 n [] next m (λ e. e) lawful.1)
  part_fits s n next (process_part p) lawful r some at c stays f = process_fits s n next p lawful.1 r some at c stays f

  pub parts_fit :
      (s : State) (n next : ℕ) (qs : PartTrees) → AreLawfulParts of_program (forget_parts qs) → Reached s → 0 < next → length s.blocks.scopes ≡ next
      → IsClean (broken_parts final false 0 n [] next qs) → Stays final (parts_state in_program s 0 [] qs)
      → ((j : ℕ) → among j (parts_subs next qs) ≡ true → among j subs ≡ true) → All Is (parts_blocks final false 0 n [] next qs)
  parts_fit s n next no_parts lawful r some at c stays f = All-nil Is
  parts_fit s n next (more_parts q qs) lawful r some at c stays f =
      let further = passed_part (scope_at final.blocks.scopes 0) n q in
      let is = part_subs next q in
      let js = parts_subs (next + part_scopes q) qs in
      let s1 = part_state in_program s 0 [] q in
      let below : 0 < length s.blocks.scopes = omega (arith, some, at) in
      let step = part_grown in_program s 0 [] q r below in
      let count = (part_walked in_program s 0 [] q below).count in
      let below1 : 0 < length s1.blocks.scopes = omega (arith, below, count) in
      let stays1 = stays_grown (parts_grown in_program s1 0 [] qs step.reached below1) (parts_walked in_program s1 0 [] qs below1) stays in
      All-append Is (part_blocks final false 0 n [] next q) (parts_blocks final false 0 further [] (next + part_scopes q) qs)
      (part_fits s n next q lawful.0 r some at c.0 stays1 (λ j e. f j (among_first j is js e)))
      (parts_fit s1 further (next + part_scopes q) qs lawful.1 step.reached (omega (arith, some)) (omega (arith, count, at)) c.1 stays
      (λ j e. f j (among_behind j is js e)))

-- ## The program

pub program_fits : (t : ProgramTree) → IsLawful (forget_program t) → broken t ≡ []
    → All (λ (b : Block). IsSubs (parts_subs 1 t.parts) b ⊎ HasEntries (finished t).blocks b) (program_of t).blocks
program_fits t lawful clean =
    let final = finished t in
    let s = declared_parts t in
    let view = here s.blocks.scopes 0 [] in
    let done = declared_all t in
    let rule = cells_rule (main_cells done) t.name.1 in
    let whole = none_noted t clean in
    let first = parts_grown in_program begun 0 [] t.parts at_begin (omega arith) in
    let stmts = body_plain s view t.body first.reached in
    let stays_final : Stays final final = record {
      processes = begins_same final.blocks.processes;
      entries = begins_same final.blocks.entries;
      scopes = λ j some below. refl;
      clean = whole;
    } in
    let stays_done = stays_before (note_plain done rule stmts.reached) (kept_opened (note_kept done rule)) stays_final in
    parts_fit final (numbered final (finished_reached t)) whole (parts_subs 1 t.parts) begun 0 1 t.parts lawful.0 at_begin (omega arith) refl
    (clean_of (faults_in final t) clean).1.0 (stays_before stmts (body_opened s view t.body) stays_done) (λ j e. e)
