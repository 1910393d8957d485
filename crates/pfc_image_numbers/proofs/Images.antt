-- The numbers in the code of an image are those of its modules and entries: by induction over what stands in the text.
use Rattle.std.proofs.Common.{◌≡◌, ℕ, ◌+◌, ◌-◌, ◌<◌, ◌≤◌, suc, nat_lt, Bool, true, false, if◌then◌else◌, List, [], ◌∷◌, ◌++◌, length, ◌==◌, ◌||◌, ◌⊎◌, inl, inr}
use Rattle.std.proofs.Common.{take, drop, Option, Some, None, refl, ap, sym, ◌∙◌, subst, arith}
use Rattle.std.specs.List.{All}
use Rattle.std.proofs.lemmas.Bool.Decides.{nat_tests}
use Rattle.std.specs.Option.{IfSome}
use Rattle.std.proofs.lemmas.List.Elements.{All-weaker}
use Rattle.pfc_tree.specs.Symbols.{Text}
use Rattle.pfc_tree.specs.trees.Parts.{ProgramTree}
use Rattle.pfc_tree.specs.forget.Parts.{forget_program}
use Rattle.pfc_tree.specs.lawful.Parts.{IsLawful}
use Rattle.pfc_types.specs.Scopes.{Level, here, scope_at, found_in, meaning_of}
use Rattle.pfc_types.specs.Blocks.{State, module_at, process_at, entry_at}
use Rattle.pfc_types.specs.declared.heads.SubHead.{SubHead}
use Rattle.pfc_types.specs.declared.heads.SubSort.{SubSort}
use Rattle.pfc_types.specs.declared.heads.SubSort.TheVariants.{Procedure, Guarded, Function}
use Rattle.pfc_types.specs.declared.view.Around.{Around}
use Rattle.pfc_types.specs.declared.view.Found.{Found}
use Rattle.pfc_types.specs.rules.Expressions.{Env, broken_expr}
use Rattle.pfc_types.specs.rules.Statements.{broken_stmts}
use Rattle.pfc_types.specs.rules.Whole.{finished, broken, broken_bodies, faults_in}
use Rattle.pfc_semantics.specs.Layouts.{Layout, process_layout, sub_with}
use Rattle.pfc_semantics.specs.Objects.{of_kind, module_number}
use Rattle.pfc_semantics.specs.Programs.{Guard, Block, Program, layout_cells, block_number, program_of}
use Rattle.pfc_semantics.specs.Displays.{Spot}
use Rattle.pfc_semantics.specs.Expressions.{spot_of}
use Rattle.pfc_code.specs.declared.instructions.Instr.{Instr}
use Rattle.pfc_code.specs.declared.instructions.Instr.TheVariants.{ADDR, REF, ECALL, GRD, RET, RETF, END, REQ, ACC, ARMA, MCALL, RCALL}
use Rattle.pfc_code.specs.declared.instructions.Instr.TheVariants as instr
use Rattle.pfc_code.specs.Images.{PlainImage}
use Rattle.pfc_translation.specs.Sites.{Site, refers, links_to, cell_of, module_of}
use Rattle.pfc_translation.specs.Codes.{Code, Lined, nothing, ◌⨾◌, one}
use Rattle.pfc_translation.specs.Expressions.{expr_code}
use Rattle.pfc_translation.specs.Calls.{enter_instr, formals_cells, number_or_none}
use Rattle.pfc_translation.specs.Statements.{stmts_code}
use Rattle.pfc_translation.specs.Images.{instructions, site_in, guard_code, end_of, statements_code, body_code, Piece, a_body, an_initial, a_resource, pieces}
use Rattle.pfc_translation.specs.Images.{Coded, coded, strings_in, before_main, of_main, size_of, put_from, scans_from, image_over, image_of}
use Rattle.pfc_image_laws.specs.Instructions.{Each}
use Rattle.pfc_image_laws.specs.Levels.{sees}
use Rattle.pfc_image_laws.proofs.Holds.{each_append, each_then}
use Rattle.pfc_image_laws.proofs.Modules.{module_numbered, image_scans}
use Rattle.pfc_name_laws.specs.Reached.{HasEntry, entries_of}
use Rattle.pfc_name_laws.specs.Numbers.{AreNumbered}
use Rattle.pfc_name_laws.proofs.Numbers.{numbered, no_faulty, none_noted}
use Rattle.pfc_types.specs.rules.FaultyNames.{stands_faulty}
use Rattle.pfc_types.specs.rules.Declarations.{scope_cells}
use Rattle.pfc_types.specs.declared.scope.Meaning.{Meaning}
use Rattle.pfc_types.specs.declared.scope.Meaning.TheVariants.{Constant, Named, Variable, Sub, Module, Process, Entry, Predeclared, Faulty}
use Rattle.pfc_semantics.specs.Alternatives.{entry_number}
use Rattle.pfc_translation.specs.Selects.{accept_cell, accept_cells}
use Rattle.pfc_name_laws.proofs.Parts.{finished_reached}
use Rattle.pfc_image_numbers.specs.Numbers.{IsSomeEntry, AreThere, IsUnruled, AcceptsWithin}
use Rattle.pfc_image_numbers.proofs.Rules.{IsClean, HasCell, IsEntry as AcceptsEntry, clean_of, same_around}
use Rattle.pfc_image_numbers.proofs.Plain.{is_plain, plain_there, plain_takes}
use Rattle.pfc_image_numbers.proofs.AcceptCells.{accept_within}
use Rattle.pfc_image_numbers.proofs.Known.{Stands, stands, found_sees}
use Rattle.pfc_image_numbers.proofs.Phrases as phrases
use Rattle.pfc_image_numbers.proofs.Bodies.{IsOfResource, IsRuled, IsRuledPiece, program_pieces, program_blocks, main_ruled}

-- two processes of one scope are one
one_process : (s : State) → AreNumbered s → (m n : ℕ) → m < length s.blocks.processes → n < length s.blocks.processes
    → (process_at s.blocks m).scope ≡ (process_at s.blocks n).scope → m ≡ n
one_process s h m n first second e = by (nat_lt m n) (nat_lt n m) refl refl
  where
    by : (r q : Bool) → nat_lt m n ≡ r → nat_lt n m ≡ q → m ≡ n
    by true q x y = let less : m < n = grind (arith, nat_tests) in let apart = h.apart m n less second in absurd (omega (arith, apart, e))
    by false true x y = let less : n < m = grind (arith, nat_tests) in let apart = h.apart n m less first in absurd (omega (arith, apart, e))
    by false false x y = grind (arith, nat_tests)

-- ## One body

-- it is no requeue and no accept, or A is so
abbrev pub IsSaid : Type 0 → Instr → Type 0
IsSaid A (REQ g b) = A
IsSaid A (ACC e d z) = A
IsSaid A (ARMA e d z a) = A
IsSaid A i = Unit {0}

-- A says that no rule is broken: what is said of requeues and accepts is said under it.
module _ (A : Type 0) (g : Program) (image : PlainImage) (known : AreNumbered g.state)
    (monitors : image.monitors ≡ of_kind false g.state.blocks.modules)
    (resources : length image.scans ≡ of_kind true g.state.blocks.modules)
    (whole : A → g.state.blocks.noted ≡ [])
  where
    abbrev pub W : Instr → Type 0
    W i = IsSaid A i → AreThere image g.state 0 i

    -- in the code of a block
    abbrev pub X : Block → Instr → Type 0
    X b i = IsSaid A i → AreThere image g.state 0 i × AcceptsWithin g.state.blocks b.scope b.cells 0 i

    plain_said : (b : Block) (i : Instr) → is_plain i ≡ true → X b i
    plain_said b i h = λ q. (plain_there image g.state i h, plain_takes g.state.blocks b.scope b.cells i h)

    reaching_said : (b : Block) (r : Bool) (l d : ℕ) → X b (if r then REF l d else ADDR l d)
    reaching_said b true l d = λ q. ((tt, tt, tt), tt)
    reaching_said b false l d = λ q. ((tt, tt, tt), tt)

    reaching_at :
        (b : Block) (a : Around) (V : List Level → Type 0) (v : List Level) (l : ℕ) (x : Text) (o : Option Found) → found_in g.state.blocks.scopes v x ≡ o → V v
        → (A → HasCell g.state v (meaning_of o))
        → let s : Site = record { program = g; block = b; env = record { state = g.state; view = v; around = a }; line = l } in
        X b (if refers s (spot_of s.env o).spot then REF (links_to s (spot_of s.env o).spot.scope) (cell_of s (spot_of s.env o).spot)
        else ADDR (links_to s (spot_of s.env o).spot.scope) (cell_of s (spot_of s.env o).spot))
    reaching_at b a V v l x o same view cell =
        let s : Site = record { program = g; block = b; env = record { state = g.state; view = v; around = a }; line = l } in
        let k : Spot = (spot_of s.env o).spot in
        reaching_said b (refers s k) (links_to s k.scope) (cell_of s k)

    entering_said : (b : Block) (n i : ℕ) → n < length g.state.blocks.modules
        → X b (enter_instr (module_at g.state.blocks n).resource (module_number g.state.blocks n) (block_number g i))
    entering_said b n i below = by (module_at g.state.blocks n).resource (module_number g.state.blocks n) (module_numbered g.state.blocks n below)
      where
        by : (r : Bool) (k : ℕ) → k < of_kind r g.state.blocks.modules → X b (enter_instr r k (block_number g i))
        by true k h = λ q. ((omega (arith, h, resources), tt, tt), tt)
        by false k h = λ q. ((omega (arith, h, monitors), tt, tt), tt)

    meeting_said : (b : Block) (n e : ℕ) → n < length g.state.blocks.processes → HasEntry g.state.blocks (process_at g.state.blocks n).scope e
        → X b (ECALL e (formals_cells g.state.forms (entry_at g.state.blocks n e)))
    meeting_said b n e below h =
        let same : h.process ≡ n = one_process g.state known h.process n h.is below h.scope in
        λ q. ((tt, record { process = n; is = below; entry = subst (λ k. e < entries_of g.state.blocks k) same h.entry; cells = refl }, tt), tt)

    requesting_said :
        (b : Block) (i : ℕ) → (A → IsOfResource g.state.blocks b.outer)
        → X b (REQ (number_or_none g.state.blocks (module_of g.state.blocks b.outer)) (block_number g i))
    requesting_said b i h = λ q. ((let less = h q in omega (arith, less, resources), tt, tt), tt)

    -- an entry that is accepted
    entry_there : (v : List Level) (x : Text) (o : Option Found) → found_in g.state.blocks.scopes v x ≡ o → A → AcceptsEntry (meaning_of o)
        → IsSomeEntry g.state (entry_number (meaning_of o))
    entry_there v x None is q h = absurd h
    entry_there v x (Some f) is q h = by f.meaning refl h
      where
        by : (m : Meaning) → f.meaning ≡ m → AcceptsEntry (Some m) → IsSomeEntry g.state (entry_number (Some m))
        by (Constant t n) e h = absurd h
        by (Named t) e h = absurd h
        by (Variable t r) e h = absurd h
        by (Sub n) e h = absurd h
        by (Module n) e h = absurd h
        by (Process n) e h = absurd h
        by (Entry k) e h =
            let has = an_entry_of f.scope k (subst (λ (m : Meaning). Stands g.state.blocks f.scope m) e (stands g.state known v x f is)) in
            record { process = has.process; is = has.is; entry = has.entry }
          where
            an_entry_of : (o : Option ℕ) (k : ℕ) → Stands g.state.blocks o (Entry k) → IsSomeEntry g.state k
            an_entry_of None k h = absurd h
            an_entry_of (Some i) k h = record { process = h.process; is = h.is; entry = h.entry }
        by (Predeclared n) e h = absurd h
        by Faulty e h =
            let seen_so : stands_faulty (meaning_of (found_in g.state.blocks.scopes v x)) ≡ true =
            ap (λ (o : Option Found). stands_faulty (meaning_of o)) is ∙ ap (λ (m : Meaning). stands_faulty (Some m)) e in
            let none = no_faulty g.state known (whole q) v x in
            let both : true ≡ false = sym seen_so ∙ none in
            cc

    -- in the body of a process the scopes in view are its own, those of its accepts, and the program's
    abbrev pub IsViewed : Block → ℕ → Type 0
    IsViewed b i = ((i ≡ b.scope) ⊎ (i ≡ 0)) ⊎ ((b.next ≤ i) × (i < b.next + b.accepts))

    abbrev pub AreViewed : Block → List Level → Type 0
    AreViewed b v = A → b.env.around.process ≡ true → b.env.around.sub ≡ false → (i : ℕ) → sees v i ≡ true → IsViewed b i

    view_more : (b : Block) (v : List Level) (n : ℕ) → AreViewed b v
        → (A → (b.env.around.process ≡ true) × (b.env.around.sub ≡ false) × (b.next ≤ n) × (n + 1 ≤ b.next + b.accepts))
        → AreViewed b (here g.state.blocks.scopes n v)
    view_more b v n h is q p o i seen = by (n == i) refl seen
      where
        by : (r : Bool) → (n == i) ≡ r → (r || sees v i) ≡ true → IsViewed b i
        by true e k =
            let same : n ≡ i = grind (arith, nat_tests) in
            let range = is q in
            inr (omega (arith, same, range.2), omega (arith, same, range.3))
        by false e k = h q p o i k

    -- so the entry is its own
    own_entry :
        (b : Block) → IsRuled A g.state b → (v : List Level) → AreViewed b v → (x : Text) (o : Option Found) → found_in g.state.blocks.scopes v x ≡ o → A
        → b.env.around.process ≡ true → b.env.around.sub ≡ false → AcceptsEntry (meaning_of o) → HasEntry g.state.blocks b.scope (entry_number (meaning_of o))
    own_entry b r v view x None is q p o h = absurd h
    own_entry b r v view x (Some f) is q p o h = by f.meaning refl h
      where
        own_of : (i k : ℕ) → HasEntry g.state.blocks i k → IsViewed b i → HasEntry g.state.blocks b.scope k
        own_of i k has (inl (inl e)) = subst (λ (j : ℕ). HasEntry g.state.blocks j k) e has
        own_of i k has (inl (inr e)) =
            let some = known.own has.process has.is in let at = has.scope in absurd (omega (arith, some, at, e))
        own_of i k has (inr range) =
            let at = has.scope in
            absurd (r.apart p o has.process has.is (omega (arith, at, range.0)) (omega (arith, at, range.1)))

        at_scope : (o : Option ℕ) (k : ℕ) → f.scope ≡ o → Stands g.state.blocks o (Entry k) → HasEntry g.state.blocks b.scope k
        at_scope None k e h = absurd h
        at_scope (Some i) k e has = own_of i k has (view q p o i (found_sees g.state.blocks.scopes v x f i is e))

        by : (m : Meaning) → f.meaning ≡ m → AcceptsEntry (Some m) → HasEntry g.state.blocks b.scope (entry_number (Some m))
        by (Constant t n) e h = absurd h
        by (Named t) e h = absurd h
        by (Variable t r) e h = absurd h
        by (Sub n) e h = absurd h
        by (Module n) e h = absurd h
        by (Process n) e h = absurd h
        by (Entry k) e h =
            at_scope f.scope k refl (subst (λ (m : Meaning). Stands g.state.blocks f.scope m) e (stands g.state known v x f is))
        by (Predeclared n) e h = absurd h
        by Faulty e h =
            let seen_so : stands_faulty (meaning_of (found_in g.state.blocks.scopes v x)) ≡ true =
            ap (λ (o : Option Found). stands_faulty (meaning_of o)) is ∙ ap (λ (m : Meaning). stands_faulty (Some m)) e in
            let none = no_faulty g.state known (whole q) v x in
            let both : true ≡ false = sym seen_so ∙ none in
            cc

    -- the cells of its parameters
    cells_there : (b : Block) → IsRuled A g.state b → (s : Site) → s.program ≡ g → s.block ≡ b → (n : ℕ) → b.env.around.process ≡ true
        → b.env.around.sub ≡ false → b.next ≤ n → n + 1 ≤ b.next + b.accepts → (cell : ℕ)
        → cell ≡ layout_cells g.state.forms
        (take (length (process_layout (scope_at g.state.blocks.scopes b.scope) (take (n - b.next) (drop b.next g.state.blocks.scopes)))) b.layout)
        → cell + scope_cells g.state.forms (scope_at g.state.blocks.scopes n) ≤ b.cells
    cells_there b r s program block n process outer low high cell is =
        let layout = r.layout process outer in
        let own = scope_at g.state.blocks.scopes b.scope in
        let within = accept_within g.state.forms g.state.blocks.scopes own b.next b.accepts n low (omega (arith, high)) in
        let before = process_layout own (take (n - b.next) (drop b.next g.state.blocks.scopes)) in
        let at : cell ≡ layout_cells g.state.forms (take (length before) (process_layout own (take b.accepts (drop b.next g.state.blocks.scopes)))) =
        is ∙ ap (λ (l : Layout). layout_cells g.state.forms (take (length before) l)) layout in
        let all : b.cells ≡ layout_cells g.state.forms (process_layout own (take b.accepts (drop b.next g.state.blocks.scopes))) =
        r.cells ∙ ap (λ (l : Layout). layout_cells g.state.forms l) layout in
        omega (arith, within, at, all)

    -- wherever it is put
    pub There : Block → Code → Type 0
    There b c = (at n : ℕ) → Each (λ j i. X b i) at (instructions (c.put at n))

    moved : (Y : Instr → Type 0) (at to : ℕ) (code : List Instr) → Each (λ j i. Y i) at code → Each (λ j i. Y i) to code
    moved Y at to [] h = tt
    moved Y at to (i ∷ code) h = (h.0, moved Y (at + 1) (to + 1) code h.1)

    joined : (Y : Instr → Type 0) (at to : ℕ) (x y : Lined) → Each (λ j i. Y i) at (instructions x) → Each (λ j i. Y i) to (instructions y)
        → Each (λ j i. Y i) at (instructions (x ++ y))
    joined Y at to x y h k = each_append (λ j i. Y i) at x y h (moved Y to (at + length x) (instructions y) k)

    -- without what is said of the block
    anywhere_there : (b : Block) (at : ℕ) (code : List Instr) → Each (λ j i. X b i) at code → Each (λ j i. W i) at code
    anywhere_there b at code h = each_then (λ j i. X b i) (λ j i. W i) at code (λ j i f q. (f q).0) h

    both_there : (b : Block) (c d : Code) → There b c → There b d → There b (c ⨾ d)
    unfolding There
    both_there b c d p q at n =
        joined (X b) at (at + c.size) (c.put at n) (d.put (at + c.size) (n + length c.texts)) (p at n) (q (at + c.size) (n + length c.texts))

    one_there : (b : Block) (s : Site) (i : Instr) → X b i → There b (one s i)
    unfolding There
    one_there b s i h at n = (h, tt)

    nothing_there : (b : Block) → There b nothing
    unfolding There
    nothing_there b at n = tt

    -- an environment over what the declarations made
    same_env : (e : Env) → e.state ≡ g.state → record { state = g.state; view = e.view; around = e.around } ≡ e
    same_env e h = ap (λ (z : State). record { state = z; view = e.view; around = e.around }) (sym h)

    stmts_there : (b : Block) → IsRuled A g.state b → There b (statements_code g b)
    unfolding There
    stmts_there b r at n =
        let a = b.env.around in
        let v = b.env.view in
        let e = same_env b.env r.state in
        let V : List Level → Type 0 = AreViewed b in
        let takes : (w : List Level) (l m : ℕ) → A → (a.process ≡ true) × (a.sub ≡ false) × (b.next ≤ m) × (m + 1 ≤ b.next + b.accepts)
        → (let s : Site = record { program = g; block = b; env = record { state = g.state; view = w; around = a }; line = l } in
        accept_cell s m + accept_cells s m ≤ b.cells) =
        λ w l m q open_so.
        let s : Site = record { program = g; block = b; env = record { state = g.state; view = w; around = a }; line = l } in
        cells_there b r s refl refl m open_so.0 open_so.1 open_so.2 open_so.3 (accept_cell s m) refl in
        let clean : A → IsClean (broken_stmts (record { state = g.state; view = v; around = a }) b.next b.stmts) =
        λ z. subst (λ w. IsClean (broken_stmts w b.next b.stmts)) (sym e) (r.clean z) in
        subst (λ w. Each (λ j i. X b i) at
        (instructions ((stmts_code (record { program = g; block = b; env = w; line = b.last_line }) b.next b.stmts).put at n))) e
        (phrases.held_each A g b a (X b) V (plain_said b) (reaching_at b a V)
        (stmts_code (record { program = g; block = b; env = record { state = g.state; view = v; around = a }; line = b.last_line }) b.next b.stmts)
        (phrases.stmts A g b a (X b) V (plain_said b) (reaching_at b a V) known (entering_said b) (meeting_said b)
        (λ w l i guarded. requesting_said b i (λ z. r.resource (guarded z)))
        (λ w l m x view h q. (
          (tt, entry_there w x (found_in g.state.blocks.scopes w x) refl q (h q).1, tt),
          (
            own_entry b r w view x
                (found_in g.state.blocks.scopes w x) refl q (h q).0.0 (h q).0.1 (h q).1,
            takes w l m q (h q).0,
          ),
        ))
        (λ w l m x view h at q. (
          (tt, entry_there w x (found_in g.state.blocks.scopes w x) refl q (h q).1, tt),
          (
            own_entry b r w view x
                (found_in g.state.blocks.scopes w x) refl q (h q).0.0 (h q).0.1 (h q).1,
            takes w l m q (h q).0,
          ),
        ))
        (λ w m view h. view_more b w m view h)
        v b.last_line a (λ q p o i seen. inl (r.view p o i seen)) (same_around a) b.next b.stmts
        (λ z p q. let few = r.range p q in (omega arith, omega (arith, few))) clean) at n)

    test_there : (b : Block) (w : Guard) → (w.env.state ≡ g.state) × IsOfResource g.state.blocks b.outer × (A → IsClean (broken_expr w.env w.test))
        → There b (expr_code (record { program = g; block = b; env = w.env; line = w.line }) w.test)
    unfolding There
    test_there b w h at n =
        let a = w.env.around in
        let v = w.env.view in
        let e = same_env w.env h.0 in
        let V : List Level → Type 0 = λ u. Unit {0} in
        subst (λ u. Each (λ j i. X b i) at
        (instructions ((expr_code (record { program = g; block = b; env = u; line = w.line }) w.test).put at n))) e
        (phrases.held_each A g b a (X b) V (plain_said b) (reaching_at b a V)
        (expr_code (record { program = g; block = b; env = record { state = g.state; view = v; around = a }; line = w.line }) w.test)
        (phrases.expr A g b a (X b) V (plain_said b) (reaching_at b a V) v w.line a tt w.test
        (λ z. subst (λ u. IsClean (broken_expr u w.test)) (sym e) (h.2 z))) at n)

    guard_there : (b : Block) → (w : Option Guard) → IfSome w (λ w. (w.env.state ≡ g.state) × IsOfResource g.state.blocks b.outer × (A
        → IsClean (broken_expr w.env w.test)))
        → There b (guard_code g b w)
    guard_there b None h = nothing_there b
    guard_there b (Some w) h =
        both_there b (expr_code (record { program = g; block = b; env = w.env; line = w.line }) w.test)
        (one (record { program = g; block = b; env = w.env; line = w.line }) (GRD (number_or_none g.state.blocks (module_of g.state.blocks b.outer))))
        (test_there b w h)
        (one_there b (record { program = g; block = b; env = w.env; line = w.line }) (GRD (number_or_none g.state.blocks (module_of g.state.blocks b.outer)))
        (λ q. ((let less = h.1 in omega (arith, less, resources), tt, tt), tt)))

    end_there : (b : Block) (head : Option SubHead) → X b (end_of head)
    end_there b None = λ q. ((tt, tt, tt), tt)
    end_there b (Some head) = by head.sort
      where
        by : (sort : SubSort) → X b (end_of (Some (record head { sort = sort })))
        by Procedure = λ q. ((tt, tt, tt), tt)
        by Guarded = λ q. ((tt, tt, tt), tt)
        by (Function t) = λ q. ((tt, tt, tt), tt)

    pub body_there : (b : Block) → IsRuled A g.state b → There b (body_code g b)
    body_there b r =
        both_there b (guard_code g b b.guard) (statements_code g b ⨾ one (site_in g b) (end_of (sub_with g.state.blocks.subs b.scope)))
        (guard_there b b.guard r.guard)
        (both_there b (statements_code g b) (one (site_in g b) (end_of (sub_with g.state.blocks.subs b.scope))) (stmts_there b r)
        (one_there b (site_in g b) (end_of (sub_with g.state.blocks.subs b.scope)) (end_there b (sub_with g.state.blocks.subs b.scope))))

    -- ## What stands in the text

    pub resources_among : List Piece → ℕ
    resources_among [] = 0
    resources_among (a_body b ∷ ps) = resources_among ps
    resources_among (an_initial b ∷ ps) = resources_among ps
    resources_among (a_resource line ∷ ps) = 1 + resources_among ps

    outer_there :
        (ps : List Piece) (at number strings : ℕ) → All (IsRuledPiece A g.state) ps → number + resources_among ps ≤ length image.scans
        → Each (λ j i. W i) at (instructions (put_from at (before_main (coded g number strings ps))))
    unfolding There resources_among
    outer_there [] at number strings h few = tt
    outer_there (a_body b ∷ ps) at number strings h few =
        let code = body_code g b in
        joined W at (at + code.size) (code.put at strings)
        (put_from (at + code.size) (before_main (coded g (number + 0) (strings + length code.texts) ps)))
        (anywhere_there b at (instructions (code.put at strings)) (body_there b (h 0 (a_body b) (omega arith)) at strings))
        (outer_there ps (at + code.size) (number + 0) (strings + length code.texts) (λ k d below. h (suc k) d (omega (arith, below))) (omega (arith, few)))
    outer_there (an_initial b ∷ ps) at number strings h few =
        outer_there ps at (number + 0) (strings + length (statements_code g b).texts) (λ k d below. h (suc k) d (omega (arith, below))) (omega (arith, few))
    outer_there (a_resource line ∷ ps) at number strings h few = (
      λ q. (omega (arith, few), tt, tt),
      outer_there ps (at + 1) (number + 1) (strings + 0) (λ k d below. h (suc k) d (omega (arith, below))) (omega (arith, few)),
    )

    inner_there :
        (main : Coded) (ps : List Piece) (at number strings : ℕ) → All (IsRuledPiece A g.state) ps
        → ((at : ℕ) → Each (λ j i. W i) at (instructions (put_from at (main ∷ []))))
        → Each (λ j i. W i) at (instructions (put_from at (of_main (coded g number strings ps) ++ main ∷ [])))
    unfolding There
    inner_there main [] at number strings h rest = rest at
    inner_there main (a_body b ∷ ps) at number strings h rest =
        inner_there main ps at (number + 0) (strings + length (body_code g b).texts) (λ k d below. h (suc k) d (omega (arith, below))) rest
    inner_there main (a_resource line ∷ ps) at number strings h rest =
        inner_there main ps at (number + 1) (strings + 0) (λ k d below. h (suc k) d (omega (arith, below))) rest
    inner_there main (an_initial b ∷ ps) at number strings h rest =
        let code = statements_code g b in
        joined W at (at + code.size) (code.put at strings)
        (put_from (at + code.size) (of_main (coded g (number + 0) (strings + length code.texts) ps) ++ main ∷ []))
        (anywhere_there b at (instructions (code.put at strings)) (stmts_there b (h 0 (an_initial b) (omega arith)) at strings))
        (inner_there main ps (at + code.size) (number + 0) (strings + length code.texts) (λ k d below. h (suc k) d (omega (arith, below))) rest)

    pub scans_are : (ps : List Piece) (at number strings : ℕ) → length (scans_from at (before_main (coded g number strings ps))) ≡ resources_among ps
    unfolding resources_among
    scans_are [] at number strings = refl
    scans_are (a_body b ∷ ps) at number strings = scans_are ps (at + (body_code g b).size) (number + 0) (strings + length (body_code g b).texts)
    scans_are (an_initial b ∷ ps) at number strings = scans_are ps at (number + 0) (strings + length (statements_code g b).texts)
    scans_are (a_resource line ∷ ps) at number strings = let rest = scans_are ps (at + 1) (number + 1) (strings + 0) in omega (arith, rest)

    pub over_there :
        (t : ProgramTree) → image ≡ image_over g t → All (IsRuledPiece A g.state) (pieces g.state 0 1 t.parts) → IsRuled A g.state g.main
        → Each (λ j i. W i) 0 (image_over g t).code
    unfolding There
    over_there t same h main_is =
        let ps = pieces g.state 0 1 t.parts in
        let parts = coded g 0 0 ps in
        let n = length (strings_in parts) in
        let main : Coded = record { piece = a_body g.main; code = body_code g g.main; strings = n } in
        let at = size_of (before_main parts) in
        let count : length image.scans ≡ resources_among ps = ap (λ (i : PlainImage). length i.scans) same ∙ scans_are ps 0 0 0 in
        joined W 0 at (put_from 0 (before_main parts)) (put_from at (of_main parts ++ main ∷ []))
        (outer_there ps 0 0 0 h (omega (arith, count)))
        (inner_there main ps at 0 0 h
        (λ to. joined W to (to + main.code.size) (main.code.put to n) [] (anywhere_there g.main to (instructions (main.code.put to n))
        (body_there g.main main_is to n)) tt))

-- ## The image

pub image_there :
    (A : Type 0) (t : ProgramTree) → IsLawful (forget_program t) → (A → broken t ≡ [])
    → Each (λ at i. IsSaid A i → AreThere (image_of t) (finished t) at i) 0 (image_of t).code
image_there A t lawful whole =
    let clean : A → IsClean (broken_bodies (finished t) t) = λ q. (clean_of (faults_in (finished t) t) (whole q)).1 in
    over_there A (program_of t) (image_of t) (numbered (finished t) (finished_reached t)) refl (image_scans t lawful) (λ q. none_noted t (whole q)) t refl
    (program_pieces A t lawful clean) (main_ruled A t clean)

pub lawful_image :
    (t : ProgramTree) → IsLawful (forget_program t)
    → Each (λ at i. IsUnruled i → AreThere (image_of t) (finished t) at i) 0 (image_of t).code
lawful_image t lawful = image_there ⊥ t lawful (λ q. absurd q)

whatever : (i : Instr) → IsSaid (Unit {0}) i
whatever (instr.LIT x0) = tt
whatever (instr.ADDR x0 x1) = tt
whatever (instr.REF x0 x1) = tt
whatever (instr.IDX x0 x1 x2) = tt
whatever (instr.FLD x0) = tt
whatever (instr.LOAD x0) = tt
whatever (instr.STORE x0) = tt
whatever instr.OBJ = tt
whatever instr.NEG = tt
whatever instr.ADD = tt
whatever instr.SUB = tt
whatever instr.MUL = tt
whatever instr.DIV = tt
whatever instr.MOD = tt
whatever instr.ABS = tt
whatever instr.SQR = tt
whatever instr.ODD = tt
whatever instr.CHR = tt
whatever (instr.SUCC x0) = tt
whatever (instr.PRED x0) = tt
whatever instr.NOT = tt
whatever instr.AND = tt
whatever instr.OR = tt
whatever instr.EQ = tt
whatever instr.NE = tt
whatever instr.LT = tt
whatever instr.LE = tt
whatever instr.GT = tt
whatever instr.GE = tt
whatever (instr.JMP x0) = tt
whatever (instr.JF x0) = tt
whatever (instr.TURN x0) = tt
whatever (instr.FORB x0 x1) = tt
whatever instr.FORW = tt
whatever (instr.FORT x0 x1) = tt
whatever (instr.CEQ x0 x1) = tt
whatever instr.CERR = tt
whatever (instr.CALL x0 x1) = tt
whatever instr.RET = tt
whatever instr.RETF = tt
whatever (instr.MCALL x0 x1) = tt
whatever (instr.RCALL x0 x1) = tt
whatever (instr.GRD x0) = tt
whatever (instr.SCAN x0) = tt
whatever (instr.REQ x0 x1) = tt
whatever (instr.NEW x0) = tt
whatever instr.COEND = tt
whatever instr.END = tt
whatever instr.SINI = tt
whatever instr.SWAIT = tt
whatever instr.SSIG = tt
whatever (instr.SEND x0) = tt
whatever (instr.RECV x0) = tt
whatever (instr.ECALL x0 x1) = tt
whatever (instr.ACC x0 x1 x2) = tt
whatever instr.EACC = tt
whatever (instr.ARMS x0 x1) = tt
whatever (instr.ARMR x0 x1) = tt
whatever (instr.ARMA x0 x1 x2 x3) = tt
whatever (instr.ARMT x0) = tt
whatever instr.ARMX = tt
whatever (instr.SEL x0 x1) = tt
whatever instr.DELAY = tt
whatever instr.RESUME = tt
whatever instr.EMPTY = tt
whatever instr.SLEEP = tt
whatever instr.CLOCK = tt
whatever instr.RAND = tt
whatever (instr.WRI x0) = tt
whatever (instr.WRB x0) = tt
whatever (instr.WRC x0) = tt
whatever (instr.WRS x0 x1) = tt
whatever instr.WRNL = tt
whatever instr.RDI = tt
whatever instr.RDC = tt
whatever instr.RDNL = tt
whatever instr.EOF = tt
whatever instr.EOLN = tt

pub checked_image :
    (t : ProgramTree) → IsLawful (forget_program t) → broken t ≡ [] → Each (AreThere (image_of t) (finished t)) 0 (image_of t).code
checked_image t lawful whole =
    each_then (λ at i. IsSaid (Unit {0}) i → AreThere (image_of t) (finished t) at i) (AreThere (image_of t) (finished t)) 0 (image_of t).code
    (λ at i f. f (whatever i)) (image_there (Unit {0}) t lawful (λ q. whole))

-- the parameters of accepts lie in the block
pub checked_cells :
    (t : ProgramTree) → IsLawful (forget_program t) → broken t ≡ [] → (b : Block) → IsRuled (Unit {0}) (finished t) b → (at strings : ℕ)
    → Each (AcceptsWithin (finished t).blocks b.scope b.cells) at (instructions ((body_code (program_of t) b).put at strings))
unfolding There
checked_cells t lawful whole b r at strings =
    each_then (λ j i. X (Unit {0}) (program_of t) (image_of t) (numbered (finished t) (finished_reached t)) refl (image_scans t lawful)
    (λ q. none_noted t whole) b i) (AcceptsWithin (finished t).blocks b.scope b.cells) at (instructions ((body_code (program_of t) b).put at strings))
    (λ j i f. (f (whatever i)).1)
    (body_there (Unit {0}) (program_of t) (image_of t) (numbered (finished t) (finished_reached t)) refl (image_scans t lawful)
    (λ q. none_noted t whole) b r at strings)

pub blocks_cells :
    (t : ProgramTree) → IsLawful (forget_program t) → broken t ≡ []
    → All (λ (b : Block). (at strings : ℕ) → Each (AcceptsWithin (finished t).blocks b.scope b.cells) at (instructions ((body_code
    (program_of t) b).put at strings))) (program_of t).blocks
blocks_cells t lawful whole =
    let clean = (clean_of (faults_in (finished t) t) whole).1 in
    All-weaker (IsRuled (Unit {0}) (finished t))
    (λ (b : Block). (at strings : ℕ) → Each (AcceptsWithin (finished t).blocks b.scope b.cells) at (instructions ((body_code (program_of t) b).put at strings)))
    (λ b r. checked_cells t lawful whole b r) (program_of t).blocks (program_blocks (Unit {0}) t lawful (λ q. clean))

pub main_cells_there :
    (t : ProgramTree) → IsLawful (forget_program t) → broken t ≡ [] → (at strings : ℕ)
    → Each (AcceptsWithin (finished t).blocks (program_of t).main.scope (program_of t).main.cells) at (instructions ((body_code (program_of t)
    (program_of t).main).put at strings))
main_cells_there t lawful whole at strings =
    let clean = (clean_of (faults_in (finished t) t) whole).1 in
    checked_cells t lawful whole (program_of t).main (main_ruled (Unit {0}) t (λ q. clean)) at strings
