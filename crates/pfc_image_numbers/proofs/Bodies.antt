-- Each body of a lawful program, with the rules that are broken in it: by induction over the parts.
use Rattle.std.proofs.Common.{◌≡◌, ℕ, ◌+◌, ◌<◌, ◌≤◌, zero, suc, ◌==◌, ◌||◌, ◌⊎◌, inl, inr, Bool, true, false, not, nat_lt, List, [], ◌∷◌, ◌++◌, length}
use Rattle.std.proofs.Common.{length-append, map, take, drop, position, Option, Some, None, cond, refl, ap, sym, ◌∙◌, subst, arith, get_or}
use Rattle.std.specs.List.{All, position_or_len}
use Rattle.std.specs.Option.{IfSome}
use Rattle.std.proofs.Math.Seq.{get_or-append_seam}
use Rattle.std.proofs.lemmas.Bool.Decides.{nat_tests}
use Rattle.std.proofs.lemmas.List.{append_assoc, length-map}
use Rattle.std.proofs.lemmas.List.Elements.{All-nil, All-cons, All-append, All-weaker, All-map, All-get_or}
use Rattle.pfc_tree.specs.trees.Stmts.{BodyTree, body}
use Rattle.pfc_tree.specs.trees.Parts.{KindTree, PartTree, PartTrees, SubTree, ModuleTree, ProcessTree, ProgramTree, procedure, function, guarded, consts}
use Rattle.pfc_tree.specs.trees.Parts.{types, vars, sub_part, monitor, resource, process_part, no_parts, more_parts, sub, the_module, process}
use Rattle.pfc_tree.specs.forget.Parts.{forget_kind, forget_part, forget_parts, forget_sub, forget_module, forget_process, forget_program}
use Rattle.pfc_tree.specs.lawful.Parts.{Home, of_program, of_resource, of_other, HoldsModules, HoldsGuarded, IsLawfulKind, IsLawfulPart, AreLawfulParts}
use Rattle.pfc_tree.specs.lawful.Parts.{IsLawfulSub, IsLawfulModule, IsLawfulProcess, IsLawful}
use Rattle.pfc_types.specs.Faults.{Faults}
use Rattle.pfc_types.specs.Scopes.{Level, scope_at, here}
use Rattle.pfc_types.specs.Blocks.{Blocks, State, module_at, no_module, process_at, no_process}
use Rattle.pfc_types.specs.declared.heads.ProcessHead.{ProcessHead}
use Rattle.pfc_name_laws.specs.Processes.{processes_from}
use Rattle.pfc_name_laws.proofs.Processes.{program_processes}
use Rattle.pfc_image_laws.specs.Levels.{sees}
use Rattle.pfc_types.specs.declared.heads.ModuleHead.{ModuleHead}
use Rattle.pfc_types.specs.rules.Expressions.{broken_expr}
use Rattle.pfc_types.specs.rules.Statements.{stmts_scopes, body_scopes, broken_stmts, broken_body}
use Rattle.pfc_types.specs.rules.Bodies.{env_at, around_guard, around_sub, around_process, level, passed, passed_part, passed_groups, passed_entries}
use Rattle.pfc_types.specs.rules.Bodies.{part_scopes, parts_scopes, process_scopes, init_scopes, broken_when, broken_init, broken_part, broken_parts}
use Rattle.pfc_types.specs.rules.Bodies.{broken_sub, broken_module, broken_process}
use Rattle.pfc_types.specs.rules.Whole.{finished, broken_bodies}
use Rattle.pfc_semantics.specs.Objects.{of_kind, module_number}
use Rattle.pfc_semantics.specs.Layouts.{sub_layout_at, process_layout, main_layout}
use Rattle.pfc_semantics.specs.Programs.{Block, layout_cells, block_of, guard_of, init_block, env_of_main, part_blocks, parts_blocks, sub_blocks, module_blocks}
use Rattle.pfc_semantics.specs.Programs.{process_blocks, module_inits, part_inits, program_of}
use Rattle.pfc_translation.specs.Sites.{module_of}
use Rattle.pfc_translation.specs.Calls.{number_or_none}
use Rattle.pfc_translation.specs.Images.{Piece, a_body, an_initial, a_resource, resource_end, pieces}
use Rattle.pfc_image_laws.specs.Modules.{modules_from}
use Rattle.pfc_image_laws.proofs.Modules.{program_modules, module_numbered}
use Rattle.pfc_image_numbers.proofs.Rules.{IsClean}

-- ## Resources

-- the scope is that of a resource, by whose number its guarded procedures are entered
abbrev pub IsOfResource : Blocks → ℕ → Type 0
IsOfResource b i = number_or_none b (module_of b i) < of_kind true b.modules

position_first :
    (i : ℕ) (before rest : List ModuleHead) (head : ModuleHead) → head.scope ≡ i → All (λ m. m.scope < i) before
    → position_or_len (λ (m : ModuleHead). m.scope == i) (before ++ head ∷ rest) ≡ length before
position_first i [] rest head e h =
    let same : (head.scope == i) ≡ true = grind (arith, nat_tests) in
    ap (λ (r : Bool). cond (not r) (1 + position_or_len (λ (m : ModuleHead). m.scope == i) rest) 0) same
position_first i (m ∷ before) rest head e h =
    let less : m.scope < i = h 0 m (omega arith) in
    let other : (m.scope == i) ≡ false = grind (arith, nat_tests) in
    let further = position_first i before rest head e (λ k d below. h (suc k) d (omega (arith, below))) in
    ap (λ (r : Bool). cond (not r) (1 + position_or_len (λ (m : ModuleHead). m.scope == i) (before ++ head ∷ rest)) 0) other ∙ omega (arith, further)

pub resource_there :
    (b : Blocks) (before rest : List ModuleHead) (i : ℕ) → b.modules ≡ before ++ record { scope = i; resource = true } ∷ rest
    → All (λ m. m.scope < i) before → IsOfResource b i
resource_there b before rest i e h =
    let head : ModuleHead = record { scope = i; resource = true } in
    let all = before ++ head ∷ rest in
    let count = length-append before (head ∷ rest) in
    let first : position_or_len (λ (m : ModuleHead). m.scope == i) all ≡ length before = position_first i before rest head refl h in
    let inside : nat_lt (position_or_len (λ (m : ModuleHead). m.scope == i) all) (length all) ≡ true = grind (arith, nat_tests) in
    let at : module_of b i ≡ Some (length before) =
    ap (λ (l : List ModuleHead). position (λ m. m.scope == i) l) e
    ∙ ap (λ (r : Bool). cond r (Some (position_or_len (λ (m : ModuleHead). m.scope == i) all)) None) inside
    ∙ ap (λ n. Some n) first in
    let is : (module_at b (length before)).resource ≡ true =
    ap (λ (l : List ModuleHead). (get_or l (length before) no_module).resource) e
    ∙ ap (λ (m : ModuleHead). m.resource) (get_or-append_seam before head rest no_module) in
    let below : length before < length b.modules = let n = ap (λ (l : List ModuleHead). length l) e in omega (arith, n, count) in
    subst (λ o. number_or_none b o < of_kind true b.modules) (sym at)
    (subst (λ r. module_number b (length before) < of_kind r b.modules) is (module_numbered b (length before) below))

-- ## Bodies

-- A body: what is known there is what the declarations have made. Where A says so, no rule is broken in it. The accepts in the body of a
-- process are counted. A guarded procedure, and what has a guard, is a resource's.
pub record IsRuled (A : Type 0) (s : State) (b : Block) : Type 0 where
  pub state : b.env.state ≡ s
  pub clean : A → IsClean (broken_stmts b.env b.next b.stmts)
  pub range : b.env.around.process ≡ true → b.env.around.sub ≡ false → stmts_scopes b.stmts ≤ b.accepts
  pub layout :
      b.env.around.process ≡ true → b.env.around.sub ≡ false
      → b.layout ≡ process_layout (scope_at s.blocks.scopes b.scope) (take b.accepts (drop b.next s.blocks.scopes))
  pub cells : b.cells ≡ layout_cells s.forms b.layout
  -- in a process its own scope is in view, and the program's
  pub view :
      b.env.around.process ≡ true → b.env.around.sub ≡ false → (i : ℕ) → sees b.env.view i ≡ true → (i ≡ b.scope) ⊎ (i ≡ 0)
  -- the scope of an accept is no process's
  pub apart :
      b.env.around.process ≡ true → b.env.around.sub ≡ false → (n : ℕ) → n < length s.blocks.processes
      → b.next ≤ (process_at s.blocks n).scope → (process_at s.blocks n).scope < b.next + b.accepts → ⊥
  pub resource : b.env.around.guarded ≡ true → IsOfResource s.blocks b.outer
  pub guard :
      IfSome b.guard (λ w. (w.env.state ≡ s) × IsOfResource s.blocks b.outer × (A → IsClean (broken_expr w.env w.test)))

-- ## Processes

-- no process but that with the scope `next` has one of so many scopes from `next` on
abbrev pub AreOutside : State → ℕ → ℕ → Type 0
AreOutside s next k = (n : ℕ) → n < length s.blocks.processes → ((process_at s.blocks n).scope ≤ next) ⊎ (next + k ≤ (process_at s.blocks n).scope)

-- so it is of each process among the parts
abbrev pub RangesApart : State → ℕ → PartTrees → Type 0
RangesApart s next no_parts = Unit {0}
RangesApart s next (more_parts (process_part p) qs) = AreOutside s next (process_scopes p) × RangesApart s (next + part_scopes (process_part p)) qs
RangesApart s next (more_parts q qs) = RangesApart s (next + part_scopes q) qs

in_process : (next i : ℕ) → (next == i || (0 == i || false)) ≡ true → (i ≡ next) ⊎ (i ≡ 0)
in_process next i seen = by (next == i) (0 == i) refl refl seen
  where
    by : (r q : Bool) → (next == i) ≡ r → (0 == i) ≡ q → (r || (q || false)) ≡ true → (i ≡ next) ⊎ (i ≡ 0)
    by true q e f h = inl (grind (arith, nat_tests))
    by false true e f h = inr (grind (arith, nat_tests))
    by false false e f h = absurd (cc)

not_within :
    (next k m j : ℕ) → (j ≤ next) ⊎ (next + (1 + k + m) ≤ j) → next + 1 + k ≤ j → j < next + 1 + k + m → ⊥
not_within next k m j (inl below) low high = absurd (omega (arith, below, low))
not_within next k m j (inr above) low high = absurd (omega (arith, above, high))

further_above : (next k : ℕ) (l : List ℕ) → All (λ j. next + k ≤ j) l → All (λ j. next ≤ j) l
further_above next k l h = All-weaker (λ (j : ℕ). next + k ≤ j) (λ j. next ≤ j) (λ j p. omega (arith, p)) l h

from_above : (next : ℕ) (qs : PartTrees) → All (λ j. next ≤ j) (processes_from next qs)
from_above next no_parts = All-nil (λ (j : ℕ). next ≤ j)
from_above next (more_parts (consts items) qs) = further_above next 0 (processes_from (next + 0) qs) (from_above (next + 0) qs)
from_above next (more_parts (types items) qs) = further_above next 0 (processes_from (next + 0) qs) (from_above (next + 0) qs)
from_above next (more_parts (vars vs) qs) = further_above next 0 (processes_from (next + 0) qs) (from_above (next + 0) qs)
from_above next (more_parts (sub_part b) qs) = further_above next (part_scopes (sub_part b)) (processes_from (next + part_scopes (sub_part b)) qs)
    (from_above (next + part_scopes (sub_part b)) qs)
from_above next (more_parts (monitor m) qs) = further_above next (part_scopes (monitor m)) (processes_from (next + part_scopes (monitor m)) qs)
    (from_above (next + part_scopes (monitor m)) qs)
from_above next (more_parts (resource m) qs) = further_above next (part_scopes (resource m)) (processes_from (next + part_scopes (resource m)) qs)
    (from_above (next + part_scopes (resource m)) qs)
from_above next (more_parts (process_part p) qs) =
    All-cons (λ (j : ℕ). next ≤ j) next (processes_from (next + part_scopes (process_part p)) qs) (omega arith)
    (further_above next (part_scopes (process_part p)) (processes_from (next + part_scopes (process_part p)) qs) (from_above (next + part_scopes
    (process_part p)) qs))

scope_mapped : (b : List ProcessHead) (n : ℕ) (d : ProcessHead) → n < length b → get_or (map (λ (h : ProcessHead). h.scope) b) n 0 ≡ (get_or b n d).scope
scope_mapped [] n d h = absurd (omega (arith, h))
scope_mapped (x ∷ b) zero d h = refl
scope_mapped (x ∷ b) (suc n) d h = scope_mapped b n d (omega (arith, h))

-- of a process among them
outside_of :
    (s : State) (before rest : List ℕ) (next k : ℕ) → map (λ (h : ProcessHead). h.scope) s.blocks.processes ≡ before ++ next ∷ rest
    → All (λ j. j < next) before → All (λ j. next + k ≤ j) rest → AreOutside s next k
outside_of s before rest next k e first last n below =
    let O : ℕ → Type 0 = λ j. (j ≤ next) ⊎ (next + k ≤ j) in
    let all : All O (before ++ next ∷ rest) =
    All-append O before (next ∷ rest) (All-weaker (λ (j : ℕ). j < next) O (λ j p. inl (omega (arith, p))) before first)
    (All-cons O next rest (inl (omega arith)) (All-weaker (λ (j : ℕ). next + k ≤ j) O (λ j p. inr p) rest last)) in
    let count : length (before ++ next ∷ rest) ≡ length s.blocks.processes =
    sym (ap (λ (l : List ℕ). length l) e) ∙ length-map s.blocks.processes (λ (h : ProcessHead). h.scope) in
    let here_is : O (get_or (before ++ next ∷ rest) n 0) = All-get_or O (before ++ next ∷ rest) n 0 (omega (arith, below, count)) all in
    subst O (ap (λ (l : List ℕ). get_or l n 0) (sym e) ∙ scope_mapped s.blocks.processes n no_process below) here_is

before_more : (before : List ℕ) (next k : ℕ) → All (λ j. j < next) before → All (λ j. j < next + k) before
before_more before next k h = All-weaker (λ (j : ℕ). j < next) (λ j. j < next + k) (λ j p. omega (arith, p)) before h

pub ranges_apart :
    (s : State) (before : List ℕ) (next : ℕ) (qs : PartTrees) → map (λ (h : ProcessHead). h.scope) s.blocks.processes ≡ before ++ processes_from next qs
    → All (λ j. j < next) before → RangesApart s next qs
ranges_apart s before next no_parts e h = tt
ranges_apart s before next (more_parts (consts items) qs) e h = ranges_apart s before (next + 0) qs e (before_more before next 0 h)
ranges_apart s before next (more_parts (types items) qs) e h = ranges_apart s before (next + 0) qs e (before_more before next 0 h)
ranges_apart s before next (more_parts (vars vs) qs) e h = ranges_apart s before (next + 0) qs e (before_more before next 0 h)
ranges_apart s before next (more_parts (sub_part b) qs) e h =
    ranges_apart s before (next + part_scopes (sub_part b)) qs e (before_more before next (part_scopes (sub_part b)) h)
ranges_apart s before next (more_parts (monitor m) qs) e h =
    ranges_apart s before (next + part_scopes (monitor m)) qs e (before_more before next (part_scopes (monitor m)) h)
ranges_apart s before next (more_parts (resource m) qs) e h =
    ranges_apart s before (next + part_scopes (resource m)) qs e (before_more before next (part_scopes (resource m)) h)
ranges_apart s before next (more_parts (process_part (process many x gs es ps b p)) qs) e h =
    let q = process many x gs es ps b p in
    let k = part_scopes (process_part q) in
    let rest = processes_from (next + k) qs in
    let some : 1 + (parts_scopes ps + body_scopes b) ≡ k = let same : 1 + parts_scopes ps + body_scopes b ≡ k = refl in omega (arith, same) in (
      outside_of s before rest next k e h (from_above (next + k) qs),
      ranges_apart s (before ++ next ∷ []) (next + k) qs (e ∙ sym (append_assoc before (next ∷ []) rest))
          (All-append (λ (j : ℕ). j < next + k) before (next ∷ []) (before_more before next k h)
          (All-cons (λ (j : ℕ). j < next + k) next [] (omega (arith, some)) (All-nil (λ (j : ℕ). j < next + k)))),
    )

module _ (A : Type 0) (s : State) where
  C : Faults → Type 0
  C fs = A → IsClean fs

  sub_ruled_at :
      (h : Home) (in_process : Bool) (i next inner : ℕ) (around : List Level) (guard_view : List Level) (kind : KindTree) (b : BodyTree)
      → IsLawfulKind h (forget_kind kind) → (HoldsGuarded h → IsOfResource s.blocks i) → (A → IsClean (broken_when (env_at s guard_view (around_guard i)) kind))
      → (A → IsClean (broken_body (env_at s (here s.blocks.scopes next around) (around_sub in_process kind)) inner b))
      → IsRuled A s
      (block_of next i (env_at s (here s.blocks.scopes next around) (around_sub in_process kind)) inner b (sub_layout_at s.blocks next) 0
      (guard_of (env_at s guard_view (around_guard i)) kind))
  sub_ruled_at h in_process i next inner around guard_view procedure (body ss from to) lawful res when h' =
      record {
        state = refl;
        clean = h';
        range = λ p q. absurd (cc);
        layout = λ p q. absurd (cc);
        cells = refl;
        view = λ p q. absurd
            (cc);
        apart = λ p q. absurd (cc);
        resource = λ p. absurd (cc);
        guard = tt;
      }
  sub_ruled_at h in_process i next inner around guard_view (function x p) (body ss from to) lawful res when h' =
      record {
        state = refl;
        clean = h';
        range = λ p q. absurd (cc);
        layout = λ p q. absurd (cc);
        cells = refl;
        view = λ p q. absurd
            (cc);
        apart = λ p q. absurd (cc);
        resource = λ p. absurd (cc);
        guard = tt;
      }
  sub_ruled_at h in_process i next inner around guard_view (guarded e p) (body ss from to) lawful res when h' =
      record {
        state = refl;
        clean = h';
        range = λ p q. absurd (cc);
        layout = λ p q. absurd (cc);
        cells = refl;
        view = λ p q. absurd (cc);
        apart = λ p q. absurd (cc);
        resource = λ p. res lawful.0;
        guard = (refl, res lawful.0, λ z. (when z).0);
      }

  mutual
    pub part_ruled :
        (h : Home) (in_process : Bool) (i n : ℕ) (outer : List Level) (next : ℕ) (q : PartTree) → (HoldsModules h → ⊥) → IsLawfulPart h (forget_part q)
        → (HoldsGuarded h → IsOfResource s.blocks i) → (A → IsClean (broken_part s in_process i n outer next q))
        → All (IsRuled A s) (part_blocks s in_process i n outer next q)
    part_ruled h in_process i n outer next (consts items) apart lawful res c = All-nil (IsRuled A s)
    part_ruled h in_process i n outer next (types items) apart lawful res c = All-nil (IsRuled A s)
    part_ruled h in_process i n outer next (vars vs) apart lawful res c = All-nil (IsRuled A s)
    part_ruled h in_process i n outer next (sub_part b) apart lawful res c = sub_ruled h in_process i n outer next b lawful res c
    part_ruled h in_process i n outer next (monitor m) apart lawful res c = absurd (apart lawful.0)
    part_ruled h in_process i n outer next (resource m) apart lawful res c = absurd (apart lawful.0)
    part_ruled h in_process i n outer next (process_part p) apart lawful res c = absurd (apart lawful.0)

    pub parts_ruled :
        (h : Home) (in_process : Bool) (i n : ℕ) (outer : List Level) (next : ℕ) (qs : PartTrees) → (HoldsModules h → ⊥)
        → AreLawfulParts h (forget_parts qs) → (HoldsGuarded h → IsOfResource s.blocks i) → (A → IsClean (broken_parts s in_process i n outer next qs))
        → All (IsRuled A s) (parts_blocks s in_process i n outer next qs)
    parts_ruled h in_process i n outer next no_parts apart lawful res c = All-nil (IsRuled A s)
    parts_ruled h in_process i n outer next (more_parts q qs) apart lawful res c =
        let further = passed_part (scope_at s.blocks.scopes i) n q in
        All-append (IsRuled A s) (part_blocks s in_process i n outer next q) (parts_blocks s in_process i further outer (next + part_scopes q) qs)
        (part_ruled h in_process i n outer next q apart lawful.0 res (λ z. (c z).0))
        (parts_ruled h in_process i further outer (next + part_scopes q) qs apart lawful.1 res (λ z. (c z).1))

    pub sub_ruled :
        (h : Home) (in_process : Bool) (i n : ℕ) (outer : List Level) (next : ℕ) (b : SubTree) → IsLawfulSub h (forget_sub b)
        → (HoldsGuarded h → IsOfResource s.blocks i) → (A → IsClean (broken_sub s in_process i n outer next b))
        → All (IsRuled A s) (sub_blocks s in_process i n outer next b)
    sub_ruled h in_process i n outer next (sub x gs kind ps b p) lawful res c =
        let own = scope_at s.blocks.scopes next in
        let count = passed_groups own 0 gs in
        let around = level i (passed (scope_at s.blocks.scopes i) n x) ∷ outer in
        let view = level next count ∷ (level i n ∷ outer) in
        let this = block_of next i (env_at s (here s.blocks.scopes next around) (around_sub in_process kind)) (next + 1 + parts_scopes ps) b
        (sub_layout_at s.blocks next) 0 (guard_of (env_at s view (around_guard i)) kind) in
        All-append (IsRuled A s) (parts_blocks s in_process next count around (next + 1) ps) (this ∷ [])
        (parts_ruled of_other in_process next count around (next + 1) ps (λ e. e) lawful.2 (λ e. absurd e) (λ z. (c z).1.0))
        (All-cons (IsRuled A s) this []
        (sub_ruled_at h in_process i next (next + 1 + parts_scopes ps) around view kind b lawful.1 res (λ z. (c z).0) (λ z. (c z).1.1))
        (All-nil (IsRuled A s)))

  process_ruled :
      (n next : ℕ) (q : ProcessTree) → IsLawfulProcess (forget_process q) → (A → IsClean (broken_process s 0 n [] next q))
      → AreOutside s next (process_scopes q) → All (IsRuled A s) (process_blocks s 0 n [] next q)
  process_ruled n next (process many x gs es ps (body ss from to) p) lawful c outside =
      let own = scope_at s.blocks.scopes next in
      let count = passed_entries own (passed_groups own 0 gs) es in
      let around = level 0 (passed (scope_at s.blocks.scopes 0) n x) ∷ [] in
      let inner = next + 1 + parts_scopes ps in
      let b = body ss from to in
      let this = block_of next 0 (env_at s (here s.blocks.scopes next around) around_process) inner b
      (process_layout own (take (body_scopes b) (drop inner s.blocks.scopes))) (body_scopes b) None in
      All-append (IsRuled A s) (parts_blocks s true next count around (next + 1) ps) (this ∷ [])
      (parts_ruled of_other true next count around (next + 1) ps (λ e. e) lawful.2 (λ e. absurd e) (λ z. (c z).0))
      (All-cons (IsRuled A s) this []
      (record {
        state = refl;
        clean = λ z. (c z).1;
        range = λ p q. omega arith;
        layout = λ p q. refl;
        cells = refl;
        view = λ p q i seen. in_process next i seen;
        apart = λ p q k below low high. not_within next (parts_scopes ps) (stmts_scopes ss) (process_at s.blocks k).scope (outside k below) low high;
        resource = λ p. absurd (cc);
        guard = tt;
      })
      (All-nil (IsRuled A s)))

  module_ruled :
      (h : Home) (i n : ℕ) (outer : List Level) (next : ℕ) (m : ModuleTree) → (HoldsModules h → ⊥) → IsLawfulModule h (forget_module m)
      → (HoldsGuarded h → IsOfResource s.blocks next) → (A → IsClean (broken_module s i n outer next m))
      → All (IsRuled A s) (module_blocks s i n outer next m)
  module_ruled h i n outer next (the_module x exports ps b last p) apart lawful res c =
      parts_ruled h false next 0 (level i n ∷ outer) (next + 1) ps apart lawful.1 res (λ z. (c z).0)

  init_ruled :
      (scope : ℕ) (view : List Level) (next : ℕ) (b : Option BodyTree) → (A → IsClean (broken_init s view next b))
      → All (IsRuled A s) (init_block s scope view next b)
  init_ruled scope view next None c = All-nil (IsRuled A s)
  init_ruled scope view next (Some (body ss from to)) c =
      All-cons (IsRuled A s) _ []
      (record {
        state = refl;
        clean = c;
        range = λ p q. absurd (cc);
        layout = λ p q. absurd (cc);
        cells = refl;
        view = λ p q. absurd
            (cc);
        apart = λ p q. absurd (cc);
        resource = λ p. absurd (cc);
        guard = tt;
      }) (All-nil (IsRuled A s))

  inits_ruled : (n next : ℕ) (m : ModuleTree) → (A → IsClean (broken_module s 0 n [] next m)) → All (IsRuled A s) (module_inits s n next m)
  inits_ruled n next (the_module x exports ps b last p) c =
      init_ruled next (here s.blocks.scopes next (level 0 n ∷ [])) (next + 1 + parts_scopes ps) b (λ z. (c z).1)

  -- ## What stands in a text

  -- a body, or the end of a resource
  abbrev pub IsRuledPiece : Piece → Type 0
  IsRuledPiece (a_body b) = IsRuled A s b
  IsRuledPiece (an_initial b) = IsRuled A s b
  IsRuledPiece (a_resource line) = Unit {0}

  part_pieces :
      (n next : ℕ) (q : PartTree) (rest : List Piece) → All (IsRuled A s) (part_blocks s false 0 n [] next q) → All IsRuledPiece (resource_end q)
      → All (IsRuled A s) (part_inits s n next q) → All IsRuledPiece rest
      → All IsRuledPiece (map a_body (part_blocks s false 0 n [] next q) ++ (resource_end q ++ (map an_initial (part_inits s n next q) ++ rest)))
  part_pieces n next q rest bodies ends inits more =
      All-append IsRuledPiece (map a_body (part_blocks s false 0 n [] next q)) (resource_end q ++ (map an_initial (part_inits s n next q) ++ rest))
      (All-map IsRuledPiece a_body (part_blocks s false 0 n [] next q) bodies)
      (All-append IsRuledPiece (resource_end q) (map an_initial (part_inits s n next q) ++ rest) ends
      (All-append IsRuledPiece (map an_initial (part_inits s n next q)) rest (All-map IsRuledPiece an_initial (part_inits s n next q) inits) more))

  no_ends : All IsRuledPiece []
  no_ends = All-nil IsRuledPiece

  no_bodies : All (IsRuled A s) []
  no_bodies = All-nil (IsRuled A s)

  -- the scopes of the modules so far stand before the next one
  before_next : (before : List ModuleHead) (next k : ℕ) (r : Bool) → All (λ m. m.scope < next) before
      → All (λ m. m.scope < next + (1 + k)) (before ++ record { scope = next; resource = r } ∷ [])
  before_next before next k r h =
      All-append (λ (m : ModuleHead). m.scope < next + (1 + k)) before (record { scope = next; resource = r } ∷ [])
      (All-weaker (λ (m : ModuleHead). m.scope < next) (λ m. m.scope < next + (1 + k)) (λ m p. omega (arith, p)) before h)
      (All-cons (λ (m : ModuleHead). m.scope < next + (1 + k)) (record { scope = next; resource = r }) [] (omega arith)
      (All-nil (λ (m : ModuleHead). m.scope < next + (1 + k))))

  still_before : (before : List ModuleHead) (next k : ℕ) → All (λ m. m.scope < next) before → All (λ m. m.scope < next + k) before
  still_before before next k h =
      All-weaker (λ (m : ModuleHead). m.scope < next) (λ m. m.scope < next + k) (λ m p. omega (arith, p)) before h

  pub pieces_ruled :
      (before : List ModuleHead) (n next : ℕ) (qs : PartTrees) → s.blocks.modules ≡ before ++ modules_from next qs → All (λ m. m.scope < next) before
      → AreLawfulParts of_program (forget_parts qs) → (A → IsClean (broken_parts s false 0 n [] next qs)) → RangesApart s next qs
      → All IsRuledPiece (pieces s n next qs)
  pieces_ruled before n next no_parts e first lawful c ranges = no_ends
  pieces_ruled before n next (more_parts (consts items) qs) e first lawful c ranges =
      part_pieces n next (consts items) _ no_bodies no_ends no_bodies
      (pieces_ruled before (passed_part (scope_at s.blocks.scopes 0) n (consts items)) (next + 0) qs e (still_before before next 0 first) lawful.1
      (λ z. (c z).1) ranges)
  pieces_ruled before n next (more_parts (types items) qs) e first lawful c ranges =
      part_pieces n next (types items) _ no_bodies no_ends no_bodies
      (pieces_ruled before (passed_part (scope_at s.blocks.scopes 0) n (types items)) (next + 0) qs e (still_before before next 0 first) lawful.1 (λ z.
      (c z).1) ranges)
  pieces_ruled before n next (more_parts (vars vs) qs) e first lawful c ranges =
      part_pieces n next (vars vs) _ no_bodies no_ends no_bodies
      (pieces_ruled before (passed_part (scope_at s.blocks.scopes 0) n (vars vs)) (next + 0) qs e (still_before before next 0 first) lawful.1 (λ z.
      (c z).1) ranges)
  pieces_ruled before n next (more_parts (sub_part b) qs) e first lawful c ranges =
      part_pieces n next (sub_part b) _ (sub_ruled of_program false 0 n [] next b lawful.0 (λ q. absurd q) (λ z. (c z).0)) no_ends no_bodies
      (pieces_ruled before (passed_part (scope_at s.blocks.scopes 0) n (sub_part b)) (next + part_scopes (sub_part b)) qs e
      (still_before before next (part_scopes (sub_part b)) first) lawful.1 (λ z. (c z).1) ranges)
  pieces_ruled before n next (more_parts (process_part p) qs) e first lawful c ranges =
      part_pieces n next (process_part p) _ (process_ruled n next p lawful.0.1 (λ z. (c z).0) ranges.0) no_ends no_bodies
      (pieces_ruled before (passed_part (scope_at s.blocks.scopes 0) n (process_part p)) (next + part_scopes (process_part p)) qs e
      (still_before before next (part_scopes (process_part p)) first) lawful.1 (λ z. (c z).1) ranges.1)
  pieces_ruled before n next (more_parts (monitor (the_module x exports ps b last p)) qs) e first lawful c ranges =
      let m = the_module x exports ps b last p in
      let head : ModuleHead = record { scope = next; resource = false } in
      let rest = modules_from (next + part_scopes (monitor m)) qs in
      part_pieces n next (monitor m) _ (module_ruled of_other 0 n [] next m (λ q. q) lawful.0.1 (λ q. absurd q) (λ z. (c z).0)) no_ends
      (inits_ruled n next m (λ z. (c z).0))
      (pieces_ruled (before ++ head ∷ []) (passed_part (scope_at s.blocks.scopes 0) n (monitor m)) (next + part_scopes (monitor m)) qs
      (e ∙ sym (append_assoc before (head ∷ []) rest)) (further (monitor m) refl) lawful.1 (λ z. (c z).1) ranges)
    where
      further : (q : PartTree) → part_scopes q ≡ 1 + parts_scopes ps + init_scopes b
          → All (λ m. m.scope < next + part_scopes q) (before ++ record { scope = next; resource = false } ∷ [])
      further q same =
          subst (λ k. All (λ (m : ModuleHead). m.scope < next + k) (before ++ record { scope = next; resource = false } ∷ []))
          (omega (arith, same)) (before_next before next (parts_scopes ps + init_scopes b) false first)
  pieces_ruled before n next (more_parts (resource (the_module x exports ps b last p)) qs) e first lawful c ranges =
      let m = the_module x exports ps b last p in
      let head : ModuleHead = record { scope = next; resource = true } in
      let rest = modules_from (next + part_scopes (resource m)) qs in
      part_pieces n next (resource m) _
      (module_ruled of_resource 0 n [] next m (λ q. q) lawful.0.1 (λ q. resource_there s.blocks before rest next e first) (λ z. (c z).0))
      (All-cons IsRuledPiece (a_resource last.line) [] tt no_ends)
      (inits_ruled n next m (λ z. (c z).0))
      (pieces_ruled (before ++ head ∷ []) (passed_part (scope_at s.blocks.scopes 0) n (resource m)) (next + part_scopes (resource m)) qs
      (e ∙ sym (append_assoc before (head ∷ []) rest)) further lawful.1 (λ z. (c z).1) ranges)
    where
      further : All (λ m. m.scope < next + part_scopes (resource (the_module x exports ps b last p)))
          (before ++ record { scope = next; resource = true } ∷ [])
      further =
          subst (λ k. All (λ (m : ModuleHead). m.scope < next + k) (before ++ record { scope = next; resource = true } ∷ []))
          (let same : 1 + parts_scopes ps + init_scopes b ≡ part_scopes (resource (the_module x exports ps b last p)) = refl in omega (arith, same))
          (before_next before next (parts_scopes ps + init_scopes b) true first)

  -- the same of the blocks alone
  pub blocks_ruled :
      (before : List ModuleHead) (n next : ℕ) (qs : PartTrees) → s.blocks.modules ≡ before ++ modules_from next qs → All (λ m. m.scope < next) before
      → AreLawfulParts of_program (forget_parts qs) → (A → IsClean (broken_parts s false 0 n [] next qs)) → RangesApart s next qs
      → All (IsRuled A s) (parts_blocks s false 0 n [] next qs)
  blocks_ruled before n next no_parts e first lawful c ranges = no_bodies
  blocks_ruled before n next (more_parts (consts items) qs) e first lawful c ranges =
      All-append (IsRuled A s) (part_blocks s false 0 n [] next (consts items))
      (parts_blocks s false 0 (passed_part (scope_at s.blocks.scopes 0) n (consts items)) [] (next + 0) qs) no_bodies
      (blocks_ruled before (passed_part (scope_at s.blocks.scopes 0) n (consts items)) (next + 0) qs e (still_before before next 0 first) lawful.1
      (λ z. (c z).1) ranges)
  blocks_ruled before n next (more_parts (types items) qs) e first lawful c ranges =
      All-append (IsRuled A s) (part_blocks s false 0 n [] next (types items))
      (parts_blocks s false 0 (passed_part (scope_at s.blocks.scopes 0) n (types items)) [] (next + 0) qs) no_bodies
      (blocks_ruled before (passed_part (scope_at s.blocks.scopes 0) n (types items)) (next + 0) qs e (still_before before next 0 first) lawful.1 (λ z.
      (c z).1) ranges)
  blocks_ruled before n next (more_parts (vars vs) qs) e first lawful c ranges =
      All-append (IsRuled A s) (part_blocks s false 0 n [] next (vars vs))
      (parts_blocks s false 0 (passed_part (scope_at s.blocks.scopes 0) n (vars vs)) [] (next + 0) qs) no_bodies
      (blocks_ruled before (passed_part (scope_at s.blocks.scopes 0) n (vars vs)) (next + 0) qs e (still_before before next 0 first) lawful.1 (λ z.
      (c z).1) ranges)
  blocks_ruled before n next (more_parts (sub_part b) qs) e first lawful c ranges =
      All-append (IsRuled A s) (part_blocks s false 0 n [] next (sub_part b))
      (parts_blocks s false 0 (passed_part (scope_at s.blocks.scopes 0) n (sub_part b)) [] (next + part_scopes (sub_part b)) qs)
      (sub_ruled of_program false 0 n [] next b lawful.0 (λ q. absurd q) (λ z. (c z).0))
      (blocks_ruled before (passed_part (scope_at s.blocks.scopes 0) n (sub_part b)) (next + part_scopes (sub_part b)) qs e (still_before before next
      (part_scopes (sub_part b)) first) lawful.1 (λ z. (c z).1) ranges)
  blocks_ruled before n next (more_parts (process_part p) qs) e first lawful c ranges =
      All-append (IsRuled A s) (part_blocks s false 0 n [] next (process_part p))
      (parts_blocks s false 0 (passed_part (scope_at s.blocks.scopes 0) n (process_part p)) [] (next + part_scopes (process_part p)) qs)
      (process_ruled n next p lawful.0.1 (λ z. (c z).0) ranges.0)
      (blocks_ruled before (passed_part (scope_at s.blocks.scopes 0) n (process_part p)) (next + part_scopes (process_part p)) qs e
      (still_before before next (part_scopes (process_part p)) first) lawful.1 (λ z. (c z).1) ranges.1)
  blocks_ruled before n next (more_parts (monitor (the_module x exports ps b last p)) qs) e first lawful c ranges =
      let m = the_module x exports ps b last p in
      let head : ModuleHead = record { scope = next; resource = false } in
      let rest = modules_from (next + part_scopes (monitor m)) qs in
      All-append (IsRuled A s) (part_blocks s false 0 n [] next (monitor m))
      (parts_blocks s false 0 (passed_part (scope_at s.blocks.scopes 0) n (monitor m)) [] (next + part_scopes (monitor m)) qs)
      (module_ruled of_other 0 n [] next m (λ q. q) lawful.0.1 (λ q. absurd q) (λ z. (c z).0))
      (blocks_ruled (before ++ head ∷ []) (passed_part (scope_at s.blocks.scopes 0) n (monitor m)) (next + part_scopes (monitor m)) qs
      (e ∙ sym (append_assoc before (head ∷ []) rest)) further lawful.1 (λ z. (c z).1) ranges)
    where
      further : All (λ m. m.scope < next + part_scopes (monitor (the_module x exports ps b last p)))
          (before ++ record { scope = next; resource = false } ∷ [])
      further =
          subst (λ k. All (λ (m : ModuleHead). m.scope < next + k) (before ++ record { scope = next; resource = false } ∷ []))
          (let same : 1 + parts_scopes ps + init_scopes b ≡ part_scopes (monitor (the_module x exports ps b last p)) = refl in omega (arith, same))
          (before_next before next (parts_scopes ps + init_scopes b) false first)
  blocks_ruled before n next (more_parts (resource (the_module x exports ps b last p)) qs) e first lawful c ranges =
      let m = the_module x exports ps b last p in
      let head : ModuleHead = record { scope = next; resource = true } in
      let rest = modules_from (next + part_scopes (resource m)) qs in
      All-append (IsRuled A s) (part_blocks s false 0 n [] next (resource m))
      (parts_blocks s false 0 (passed_part (scope_at s.blocks.scopes 0) n (resource m)) [] (next + part_scopes (resource m)) qs)
      (module_ruled of_resource 0 n [] next m (λ q. q) lawful.0.1 (λ q. resource_there s.blocks before rest next e first) (λ z. (c z).0))
      (blocks_ruled (before ++ head ∷ []) (passed_part (scope_at s.blocks.scopes 0) n (resource m)) (next + part_scopes (resource m)) qs
      (e ∙ sym (append_assoc before (head ∷ []) rest)) further lawful.1 (λ z. (c z).1) ranges)
    where
      further : All (λ m. m.scope < next + part_scopes (resource (the_module x exports ps b last p)))
          (before ++ record { scope = next; resource = true } ∷ [])
      further =
          subst (λ k. All (λ (m : ModuleHead). m.scope < next + k) (before ++ record { scope = next; resource = true } ∷ []))
          (let same : 1 + parts_scopes ps + init_scopes b ≡ part_scopes (resource (the_module x exports ps b last p)) = refl in omega (arith, same))
          (before_next before next (parts_scopes ps + init_scopes b) true first)

-- what stands before the main body, and the main body
pub program_pieces :
    (A : Type 0) (t : ProgramTree) → IsLawful (forget_program t) → (A → IsClean (broken_bodies (finished t) t))
    → All (IsRuledPiece A (finished t)) (pieces (finished t) 0 1 t.parts)
program_pieces A t lawful c =
    pieces_ruled A (finished t) [] 0 1 t.parts (program_modules t lawful) (All-nil (λ (m : ModuleHead). m.scope < 1)) lawful.0 (λ z. (c z).0)
    (ranges_apart (finished t) [] 1 t.parts (program_processes t lawful) (All-nil (λ (j : ℕ). j < 1)))

pub main_ruled :
    (A : Type 0) (t : ProgramTree) → (A → IsClean (broken_bodies (finished t) t)) → IsRuled A (finished t) (program_of t).main
main_ruled A t c = by t.body (λ z. (c z).1)
  where
    by : (b : BodyTree) → (A → IsClean (broken_body (env_of_main (finished t)) (1 + parts_scopes t.parts) b))
        → IsRuled A (finished t)
        (block_of 0 0 (env_of_main (finished t)) (1 + parts_scopes t.parts) b (main_layout (finished t).blocks (scope_at (finished t).blocks.scopes 0)) 0 None)
    by (body ss from to) h = record {
      state = refl;
      clean = h;
      range = λ p q. absurd (cc);
      layout = λ p q. absurd
          (cc);
      cells = refl;
      view = λ p q. absurd (cc);
      apart = λ p q. absurd (cc);
      resource = λ p. absurd (cc);
      guard = tt;
    }

pub program_blocks :
    (A : Type 0) (t : ProgramTree) → IsLawful (forget_program t) → (A → IsClean (broken_bodies (finished t) t))
    → All (IsRuled A (finished t)) (program_of t).blocks
program_blocks A t lawful c =
    blocks_ruled A (finished t) [] 0 1 t.parts (program_modules t lawful) (All-nil (λ (m : ModuleHead). m.scope < 1)) lawful.0 (λ z. (c z).0)
    (ranges_apart (finished t) [] 1 t.parts (program_processes t lawful) (All-nil (λ (j : ℕ). j < 1)))
