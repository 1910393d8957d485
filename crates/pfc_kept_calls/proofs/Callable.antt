-- Wherever the code of a checked program calls a procedure or a function, that can be called; and at the end of a function its result is there.
use Rattle.std.proofs.Common.{◌≡◌, ℕ, zero, suc, ◌+◌, ◌<◌, ◌==◌, ◌||◌, ◌⊎◌, inl, inr, not, nat_lt, cond, if◌then◌else◌, Bool, true, false, is_some, List, []}
use Rattle.std.proofs.Common.{◌∷◌, length, take, get_or, slice_get, Option, Some, None, refl, sym, ap, ◌∙◌, subst, arith}
use Rattle.std.specs.Prelude.{position, unwrap_or}
use Rattle.std.specs.List.{position_or_len}
use Rattle.std.proofs.lemmas.Bool.Decides.{nat_tests}
use Rattle.pfc_code.specs.declared.instructions.Instr.{Instr}
use Rattle.pfc_code.specs.declared.instructions.Instr.TheVariants.{RET, RETF, END}
use Rattle.pfc_tree.specs.trees.Parts.{ProgramTree}
use Rattle.pfc_types.specs.Blocks.{no_sub, sub_at}
use Rattle.pfc_types.specs.declared.heads.Formal.{Formal}
use Rattle.pfc_types.specs.declared.heads.SubHead.{SubHead}
use Rattle.pfc_types.specs.declared.heads.SubSort.{SubSort}
use Rattle.pfc_types.specs.declared.heads.SubSort.TheVariants.{Procedure, Guarded, Function}
use Rattle.pfc_types.specs.rules.Routines.{is_function_sort}
use Rattle.pfc_semantics.specs.Layouts.{sub_with}
use Rattle.pfc_semantics.specs.Configurations.{Config}
use Rattle.pfc_semantics.specs.Programs.{Block, Guard, Program, block_at, block_number, layout_cells, program_of}
use Rattle.pfc_semantics.specs.Remainders.{Context, Remainder, AwaitsValue, Argument, Action, calls, to_procedure, to_function, finishes}
use Rattle.pfc_translation.specs.Sites.{is_mains, links_from}
use Rattle.pfc_translation.specs.Operands.{formals_of}
use Rattle.pfc_translation.specs.Images.{end_of}
use Rattle.pfc_image_laws.specs.Levels.{sees}
use Rattle.pfc_image_cells.proofs.Trees.{mains_no_sub}
use Rattle.pfc_machines.specs.declared.machine.Machine.{Machine}
use Rattle.pfc_standing_code.specs.Settings.{Trial, of_own, site_of, IsBeside, IsMains, same_block, both_mains}
use Rattle.pfc_standing_code.specs.Typed.{ByName, InExpressions, IsOfSub}
use Rattle.pfc_standing_code.specs.Performs.{own_block}
use Rattle.pfc_call_laws.specs.Around.{IsNested}
use Rattle.pfc_call_laws.proofs.Places.{or_cases}
use Rattle.pfc_typed_programs.specs.Bodies.{IsBody, of_block, of_module, of_main}
use Rattle.pfc_nesting_laws.proofs.Programs.{by_scope}
use Rattle.pfc_callee_laws.specs.Callees.{is_guarded_sort}
use Rattle.pfc_callee_laws.proofs.Images.{params_there}
use Rattle.pfc_callee_laws.proofs.Mains.{main_scope, of_mains}
use Rattle.pfc_callee_laws.proofs.Program.{its_layout}
use Rattle.pfc_callee_laws.proofs.Blocks.{sub_block, has_result}
use Rattle.pfc_callee_laws.proofs.Calls.{called_at, nested_in_main_code}
use Rattle.pfc_representation.specs.Levels.{Facts, program_in, LivingLevel, IsProgram, block_of, number_in}
use Rattle.pfc_representation.specs.Acting.{IsActing, HasArrived}
use Rattle.pfc_representation.specs.Actions.{AreKept}
use Rattle.pfc_kept_own_actions.proofs.Arrived.{has_setting}
use Rattle.pfc_kept_calls.specs.Callees.{IsCallable}
use Rattle.pfc_kept_calls.specs.Groups.{MayCall, HasResult, IsProcedureCall, IsFunctionCall, IsFunctionEnd}
use Rattle.pfc_kept_calls.proofs.Calling.{procedures_kept, functions_kept}
use Rattle.pfc_kept_calls.proofs.Returned.{has}
use Rattle.pfc_kept_calls.proofs.Returning.{function_ends}

-- ## Numbers of blocks

same_of : (n m : ℕ) → (n == m) ≡ true → n ≡ m
same_of n m h = grind (arith, nat_tests)

is_same : (n m : ℕ) → n ≡ m → (n == m) ≡ true
is_same n m h = grind (arith, nat_tests)

one_block : (x y : Block) → Some x ≡ Some y → x ≡ y
one_block x y e = cc

pub one_head : (x y : SubHead) → Some x ≡ Some y → x ≡ y
one_head x y e = cc

-- a block with this scope is there
found_before : (bs : List Block) (k i : ℕ) (b : Block) → slice_get bs k ≡ Some b → b.scope ≡ i
    → position_or_len (λ (c : Block). c.scope == i) bs < length bs
found_before [] k i b e is = absurd (cc)
found_before (x ∷ bs) k i b e is = by (x.scope == i) refl (λ j f. found_before bs j i b f is) k e
  where
    by : (r : Bool) → (x.scope == i) ≡ r
        → ((j : ℕ) → slice_get bs j ≡ Some b → position_or_len (λ (c : Block). c.scope == i) bs < length bs) → (j : ℕ) → slice_get (x ∷ bs) j ≡ Some b
        → cond (not r) (1 + position_or_len (λ (c : Block). c.scope == i) bs) 0 < suc (length bs)
    by true same rest j f = omega arith
    by false other rest zero f =
        (let mine : (x.scope == i) ≡ true = is_same x.scope i (ap (λ (y : Block). y.scope) (one_block x b f) ∙ is) in
        let both : true ≡ false = sym mine ∙ other in absurd (cc))
    by false other rest (suc j) f = let low = rest j f in omega (arith, low)

-- whatever else it would be
pub number_is : (bs : List Block) (k i d : ℕ) (b : Block) → slice_get bs k ≡ Some b → b.scope ≡ i
    → unwrap_or (position (λ (c : Block). c.scope == i) bs) d ≡ unwrap_or (position (λ (c : Block). c.scope == i) bs) 0
number_is bs k i d b e is = by (position_or_len (λ (c : Block). c.scope == i) bs) (found_before bs k i b e is)
  where
    by : (n : ℕ) → n < length bs
        → unwrap_or (cond (nat_lt n (length bs)) (Some n) None) d ≡ unwrap_or (cond (nat_lt n (length bs)) (Some n) None) 0
    by n low =
        let test : nat_lt n (length bs) ≡ true = grind (arith, nat_tests) in
        ap (λ (r : Bool). unwrap_or (cond r (Some n) None) d) test ∙ sym (ap (λ (r : Bool). unwrap_or (cond r (Some n) None) 0) test)

-- ## Headings by their scopes

-- a sub that is found by its scope is one of them
sub_number : (heads : List SubHead) (i : ℕ) (head : SubHead) → sub_with heads i ≡ Some head
    → (n : ℕ) × (n < length heads) × (get_or heads n no_sub ≡ head) × (head.scope ≡ i)
sub_number [] i head e = absurd (cc)
sub_number (h ∷ heads) i head e = by (h.scope == i) refl e (λ q. sub_number heads i head q)
  where
    by : (r : Bool) → (h.scope == i) ≡ r → (if r then Some h else sub_with heads i) ≡ Some head
        → (sub_with heads i ≡ Some head → (n : ℕ) × (n < length heads) × (get_or heads n no_sub ≡ head) × (head.scope ≡ i))
        → (n : ℕ) × (n < suc (length heads)) × (get_or (h ∷ heads) n no_sub ≡ head) × (head.scope ≡ i)
    by true same q rest =
        let is = one_head h head q in
        (0, omega arith, is, sym (ap (λ (x : SubHead). x.scope) is) ∙ same_of h.scope i same)
    by false other q rest = let found = rest q in let low = found.1 in (suc found.0, omega (arith, low), found.2, found.3)

-- only a function ends so
function_by_end : (o : Option SubHead) → end_of o ≡ RETF → (head : SubHead) × (o ≡ Some head) × (is_function_sort head.sort ≡ true)
function_by_end None e = absurd (let both : END ≡ RETF = e in cc)
function_by_end (Some head) e = (head, refl, by head.sort e)
  where
    by : (sort : SubSort) → end_of (Some (record head { sort = sort })) ≡ RETF → is_function_sort sort ≡ true
    by Procedure e = absurd (let both : RET ≡ RETF = e in cc)
    by Guarded e = absurd (let both : RET ≡ RETF = e in cc)
    by (Function t) e = refl

-- what is called by its name, or in an expression, has no guard
no_guard : (o : Option Guard) → is_some o ≡ false → o ≡ None
no_guard None e = refl
no_guard (Some w) e = absurd (cc)

abbrev IsUnguarded : (ℕ → SubSort → Type 0) → Type 0
IsUnguarded asked = (i : ℕ) (sort : SubSort) → asked i sort → is_guarded_sort sort ≡ false

by_name_unguarded : IsUnguarded ByName
by_name_unguarded i sort h = ap is_guarded_sort h

in_expressions_unguarded : IsUnguarded InExpressions
in_expressions_unguarded i Procedure h = refl
in_expressions_unguarded i Guarded h = absurd (cc)
in_expressions_unguarded i (Function t) h = refl

-- ## The block at hand

module _ (facts : Facts) (m : Machine) (c : Config) (p : ℕ) (level : LivingLevel) (n : Action) (acting : IsActing facts m c p level)
    (arrived : HasArrived facts m c p level n) (own : level.setting.trial ≡ of_own) where
  abbrev b0 : Block
  b0 = level.setting.block

  pub at_hand : block_of level ≡ b0
  at_hand = ap (λ (t : Trial). own_block t level.setting.block) own

  same_program : level.setting.program ≡ program_in facts
  same_program = (has_setting facts m c p level acting).image.program

  module _ (t : ProgramTree) (same : level.setting.program ≡ program_of t) where
    there : (k : ℕ) × ((slice_get (program_of t).blocks k ≡ Some b0) ⊎ (b0 ≡ (program_of t).main))
    there =
        let (k, code, block, goes) = arrived.within in (
          k,
          by k (subst (λ (z : Program). (slice_get z.blocks k ≡ Some (block_of level)) ⊎ ((k ≡ length z.blocks) × (block_of level ≡ z.main)))
              (sym same_program ∙ same) block.2),
        )
      where
        by : (k : ℕ)
            → (slice_get (program_of t).blocks k ≡ Some (block_of level)) ⊎ ((k ≡ length (program_of t).blocks) × (block_of level ≡ (program_of t).main))
            → (slice_get (program_of t).blocks k ≡ Some b0) ⊎ (b0 ≡ (program_of t).main)
        by k (inl e) = inl (e ∙ ap Some at_hand)
        by k (inr e) = inr (sym at_hand ∙ e.1)

    -- one of main's, by its number
    abbrev IsMainsAt : Block → Type 0
    IsMainsAt b = (i : ℕ) × (slice_get ((program_of t).main ∷ (program_of t).modules) i ≡ Some b)

    pub mains_at : (b : Block) → IsMains level.setting b → IsMainsAt b
    mains_at b is = (is.0, subst (λ (z : Program). slice_get (z.main ∷ z.modules) is.0 ≡ Some b) same is.1)

    mains_body : (b : Block) (i : ℕ) → slice_get ((program_of t).main ∷ (program_of t).modules) i ≡ Some b → IsBody t b
    mains_body b zero e = subst (IsBody t) (one_block (program_of t).main b e) of_main
    mains_body b (suc i) e = of_module i b e

    own_body : IsBody t b0
    own_body = by there.0 there.1
      where
        by : (k : ℕ) → (slice_get (program_of t).blocks k ≡ Some b0) ⊎ (b0 ≡ (program_of t).main) → IsBody t b0
        by k (inl e) = of_block k b0 e
        by k (inr e) = subst (IsBody t) (sym e) of_main

    pub body_of : (b : Block) → IsBeside level.setting b0 b → IsBody t b
    body_of b same_block = own_body
    body_of b (both_mains _ one two) = let is = mains_at b two in mains_body b is.0 is.1

    module _ (is : IsProgram t) where
      pub counted : (b : Block) → IsBody t b → b.cells ≡ layout_cells (program_of t).state.forms b.layout
      counted b (of_block k c e) = (its_layout t is.lawful k b e).cells
      counted b (of_module k c e) = (of_mains t is.lawful (suc k) b e).cells
      counted b of_main = (of_mains t is.lawful 0 b refl).cells

      -- ## What is called

      -- a sub that is nested in the block at an action is nested in those beside it
      nested_beside : (b b' callee : Block) (k : ℕ) → IsBeside level.setting b0 b → IsBeside level.setting b0 b'
          → slice_get (program_of t).blocks k ≡ Some callee
          → (is_mains (program_of t).state.blocks callee.outer || sees b.env.view callee.outer) ≡ true
          → IsNested (program_of t) b callee (links_from (program_of t).state.blocks b callee.outer)
          → IsNested (program_of t) b' callee (links_from (program_of t).state.blocks b' callee.outer)
      nested_beside b b' callee k beside beside' at seen nested = by b b' beside beside' seen nested
        where
          of_mains_code : (b b' : Block) → IsMainsAt b → IsMainsAt b'
              → (is_mains (program_of t).state.blocks callee.outer || sees b.env.view callee.outer) ≡ true
              → IsNested (program_of t) b' callee (links_from (program_of t).state.blocks b' callee.outer)
          of_mains_code b b' one two seen =
              nested_in_main_code t is.lawful is.unbroken two.0 k b' callee two.1 at
              (elim (or_cases (is_mains (program_of t).state.blocks callee.outer) (sees b.env.view callee.outer) seen) [
                | inl mains ↦ mains
                | inr e ↦ (of_mains t is.lawful one.0 b one.1).mains callee.outer e
              ])

          by : (b b' : Block) → IsBeside level.setting b0 b → IsBeside level.setting b0 b'
              → (is_mains (program_of t).state.blocks callee.outer || sees b.env.view callee.outer) ≡ true
              → IsNested (program_of t) b callee (links_from (program_of t).state.blocks b callee.outer)
              → IsNested (program_of t) b' callee (links_from (program_of t).state.blocks b' callee.outer)
          by b b' same_block same_block seen nested = nested
          by b b' same_block (both_mains _ one two) seen nested = of_mains_code b b' (mains_at b one) (mains_at b' two) seen
          by b b' (both_mains _ one two) same_block seen nested = of_mains_code b b' (mains_at b two) (mains_at b' one) seen
          by b b' (both_mains _ one two) (both_mains _ other last) seen nested = of_mains_code b b' (mains_at b two) (mains_at b' last) seen

      callable : (x : Context) (b : Block) (scope : ℕ) (formals : List Formal) (asked : ℕ → SubSort → Type 0) → IsUnguarded asked
          → IsBeside level.setting b0 b → IsOfSub (site_of level.setting b x) scope formals asked → (b' : Block) (i : ℕ) → IsBeside level.setting b0 b'
          → i < length (program_of t).state.blocks.subs → scope ≡ (sub_at (program_of t).state.blocks i).scope
          → IsCallable t b' (block_at (program_of t) scope) (block_number (program_of t) scope)
          (links_from (program_of t).state.blocks b' (block_at (program_of t) scope).outer) (sub_at (program_of t).state.blocks i).formals
      callable x b scope formals asked unguarded beside sub b' i beside' among scope_is =
          let called = called_at t is.lawful is.unbroken (site_of level.setting b x) scope formals asked same (body_of b beside) sub in
          let head = sub_at (program_of t).state.blocks i in
          let block = sub_block t is.lawful is.unbroken i among in
          let whole = block.activated in
          let same_head : called.head ≡ head =
          one_head called.head head (sym called.sub.headed ∙ ap (λ (j : ℕ). sub_with (program_of t).state.blocks.subs j) (sym called.own_scope ∙ scope_is)
          ∙ block.headed) in
          let plain : is_guarded_sort head.sort ≡ false =
          ap (λ (h : SubHead). is_guarded_sort h.sort) (sym same_head) ∙ unguarded _ called.head.sort called.as_asked in
          let here : (z : ℕ) → z ≡ scope
          → IsNested (program_of t) b' (block_at (program_of t) z) (links_from (program_of t).state.blocks b' (block_at (program_of t) z).outer) =
          λ z e. subst (λ (j : ℕ). IsNested (program_of t) b' (block_at (program_of t) j)
          (links_from (program_of t).state.blocks b' (block_at (program_of t) j).outer)) (sym e)
          (nested_beside b b' (block_at (program_of t) scope) (block_number (program_of t) scope) beside beside'
          (subst (λ (j : ℕ). slice_get (program_of t).blocks (block_number (program_of t) j) ≡ Some (block_at (program_of t) j)) (sym scope_is) whole.there)
          called.seen called.nested) in
          subst (λ (z : ℕ). IsCallable t b' (block_at (program_of t) z) (block_number (program_of t) z)
          (links_from (program_of t).state.blocks b' (block_at (program_of t) z).outer) head.formals) (sym scope_is)
          (record {
            head = head;
            headed = ap (λ (j : ℕ). sub_with (program_of t).state.blocks.subs j) whole.own_scope ∙ block.headed;
            formals_are = refl;
            there = whole.there;
            code = whole.code;
            is = whole.is;
            number = sym (number_is (program_of t).blocks (block_number (program_of t) head.scope) head.scope (length (program_of t).blocks)
                (block_at (program_of t) head.scope) whole.there whole.own_scope)
                ∙ ap (λ (j : ℕ). unwrap_or (position (λ (d : Block). d.scope == j) (program_of t).blocks) (length (program_of t).blocks))
                (sym whole.own_scope);
            takes = whole.takes;
            own = block.own;
            scopes = whole.scopes;
            nested = here head.scope (sym scope_is);
            objects = whole.objects;
            unguarded = no_guard (block_at (program_of t) head.scope).guard (block.guarded ∙ plain);
            apart = whole.apart;
            known = whole.known;
            state = whole.state;
          })

  may_call : (x : Context) (b : Block) (scope : ℕ) (formals : List Formal) (asked : ℕ → SubSort → Type 0) → IsUnguarded asked
      → IsBeside level.setting b0 b → IsOfSub (site_of level.setting b x) scope formals asked → MayCall level scope
  may_call x b scope formals asked unguarded beside sub =
      record {
        callable = λ t b' i same is beside' among scope_is. callable t same is x b scope formals asked unguarded beside sub b' i beside' among scope_is;
        counted = λ t b' same is beside'. counted t same is b' (body_of t same b' beside');
      }

-- ## Calls

pub procedure_may_be_called : (facts : Facts) (m : Machine) (c : Config) (p : ℕ) (level : LivingLevel) (x : Context) (scope : ℕ) (k : Remainder)
    (given : List Argument) → IsActing facts m c p level → HasArrived facts m c p level (calls x (to_procedure scope k) given) → MayCall level scope
procedure_may_be_called facts m c p level x scope k given acting arrived =
    let (b, checked, (formals, below, held, (alone, (sub, takes, leaves, there, behind)), lends)) = arrived.arrived in
    may_call facts m c p level (calls x (to_procedure scope k) given) acting arrived alone.0 x b scope formals ByName by_name_unguarded checked.beside sub

pub function_may_be_called : (facts : Facts) (m : Machine) (c : Config) (p : ℕ) (level : LivingLevel) (x : Context) (scope : ℕ) (u : AwaitsValue)
    (given : List Argument) → IsActing facts m c p level → HasArrived facts m c p level (calls x (to_function scope u) given) → MayCall level scope
function_may_be_called facts m c p level x scope u given acting arrived =
    let (b, checked, (formals, below, held, (own, (sub, takes, leaves, there, room, awaited)), lends)) = arrived.arrived in
    may_call facts m c p level (calls x (to_function scope u) given) acting arrived own x b scope formals InExpressions in_expressions_unguarded
    checked.beside sub

pub procedure_calls_kept : AreKept IsProcedureCall
procedure_calls_kept facts m c p choice level (calls x (to_procedure scope k) given) is acting arrived chosen =
    procedures_kept facts m c p choice level (calls x (to_procedure scope k) given)
    (procedure_may_be_called facts m c p level x scope k given acting arrived) acting arrived chosen
procedure_calls_kept facts m c p choice level n is acting arrived chosen = absurd is

pub function_calls_kept : AreKept IsFunctionCall
function_calls_kept facts m c p choice level (calls x (to_function scope u) given) is acting arrived chosen =
    functions_kept facts m c p choice level (calls x (to_function scope u) given)
    (function_may_be_called facts m c p level x scope u given acting arrived) acting arrived chosen
function_calls_kept facts m c p choice level n is acting arrived chosen = absurd is

-- ## Ends of functions

no_end_with : (i : Instr) → i ≡ RETF → i ≡ END → ⊥
no_end_with i h k = (let both : RETF ≡ END = sym h ∙ k in cc)

module _ (facts : Facts) (m : Machine) (c : Config) (p : ℕ) (level : LivingLevel) (line : ℕ) (acting : IsActing facts m c p level)
    (arrived : HasArrived facts m c p level (finishes line)) (own : level.setting.trial ≡ of_own) (last : level.setting.last ≡ RETF)
    (t : ProgramTree) (same : level.setting.program ≡ program_of t) (is : IsProgram t) where
  abbrev b1 : Block
  b1 = level.setting.block

  -- the block is that of a function
  its_head : (head : SubHead) × (sub_with (program_of t).state.blocks.subs b1.scope ≡ Some head) × (is_function_sort head.sort ≡ true)
  its_head =
      let over = no_end_with level.setting.last last in
      let ends = (has facts m c p level acting over).called.stands.of_block.last in
      function_by_end (sub_with (program_of t).state.blocks.subs b1.scope)
      (sym (ends ∙ ap (λ (z : Program). end_of (sub_with z.state.blocks.subs (block_of level).scope)) same
      ∙ ap (λ (b : Block). end_of (sub_with (program_of t).state.blocks.subs b.scope))
      (at_hand facts m c p level (finishes line) acting arrived own)) ∙ last)

  result_there : HasResult t b1
  result_there = by (there facts m c p level (finishes line) acting arrived own t same)
    where
      in_blocks : (j : ℕ) → slice_get (program_of t).blocks j ≡ Some b1 → HasResult t b1
      in_blocks j at =
          let headed = its_head.1 in
          let found = sub_number (program_of t).state.blocks.subs b1.scope its_head.0 headed in
          let n = found.0 in
          let head = sub_at (program_of t).state.blocks n in
          let scope : head.scope ≡ b1.scope = ap (λ (h : SubHead). h.scope) found.2 ∙ found.3 in
          let this : block_at (program_of t) head.scope ≡ b1 = ap (λ (i : ℕ). block_at (program_of t) i) scope ∙ by_scope t is.lawful j b1 at in
          let function : is_function_sort head.sort ≡ true = ap (λ (h : SubHead). is_function_sort h.sort) found.2 ∙ its_head.2 in
          let result = has_result t is.lawful is.unbroken n found.1 function in
          let block = sub_block t is.lawful is.unbroken n found.1 in
          let headed_by : sub_with (program_of t).state.blocks.subs b1.scope ≡ Some head = headed ∙ ap Some (sym found.2) in
          record {
            head = head;
            headed = headed_by;
            of_type = result.of_type;
            simple = result.simple;
            laid = ap (λ (b : Block). slice_get b.layout (length head.formals)) (sym this) ∙ result.laid;
            params = λ k code is_code number.
                (let in_number : number_in (program_of t) b1 ≡ block_number (program_of t) head.scope =
                number_is (program_of t).blocks j b1.scope (length (program_of t).blocks) b1 at refl
                ∙ ap (λ (i : ℕ). unwrap_or (position (λ (d : Block). d.scope == i) (program_of t).blocks) 0) (sym scope) in
                let at_number : slice_get (program_of t).blocks k ≡ Some b1 =
                ap (λ (i : ℕ). slice_get (program_of t).blocks i) (number ∙ in_number) ∙ block.activated.there ∙ ap Some this in
                params_there t k b1 code at_number is_code
                ∙ ap (λ (o : Option SubHead). layout_cells (program_of t).state.forms (take (formals_of (program_of t).state.blocks b1.scope o) b1.layout))
                headed_by);
          }

      by : (k : ℕ) × ((slice_get (program_of t).blocks k ≡ Some b1) ⊎ (b1 ≡ (program_of t).main)) → HasResult t b1
      by (k, inl e) = in_blocks k e
      by (k, inr e) =
          let none : sub_with (program_of t).state.blocks.subs b1.scope ≡ None =
          ap (λ (b : Block). sub_with (program_of t).state.blocks.subs b.scope) e
          ∙ (ap (λ (i : ℕ). sub_with (program_of t).state.blocks.subs i) (main_scope t) ∙ mains_no_sub t is.lawful 0 refl) in
          (let headed = its_head.1 in let both : None ≡ Some its_head.0 = sym none ∙ headed in absurd (cc))

pub function_has_result : (facts : Facts) (m : Machine) (c : Config) (p : ℕ) (level : LivingLevel) (line : ℕ) → IsActing facts m c p level
    → HasArrived facts m c p level (finishes line) → level.setting.last ≡ RETF
    → (t : ProgramTree) → level.setting.program ≡ program_of t → IsProgram t → HasResult t level.setting.block
function_has_result facts m c p level line acting arrived last t same is =
    let (b, names, ((own, none), rest)) = arrived.arrived in
    result_there facts m c p level line acting arrived own last t same is

pub function_ends_kept : AreKept IsFunctionEnd
function_ends_kept facts m c p choice level (finishes line) last acting arrived chosen =
    function_ends facts m c p choice level (finishes line)
    (last, λ t same is. function_has_result facts m c p level line acting arrived last t same is) acting arrived chosen
function_ends_kept facts m c p choice level n last acting arrived chosen = absurd last
