-- What the code of each body names by a level and a cell is a variable of the block that is reached: by induction over the phrases.
use Rattle.std.proofs.Common.{◌≡◌, ℕ, ◌+◌, ◌<◌, ◌≤◌, ◌==◌, ◌||◌, Bool, true, false, if◌then◌else◌, cond, List, [], ◌∷◌, ◌++◌, length, take, get_or, map}
use Rattle.std.proofs.Common.{position, unwrap_or, ◌⊎◌, inl, inr, Option, Some, None, refl, ap, sym, ◌∙◌, subst, arith}
use Rattle.std.specs.List.{All}
use Rattle.std.specs.Option.{IfSome}
use Rattle.std.proofs.lemmas.Bool.Decides.{nat_tests}
use Rattle.std.proofs.lemmas.Option.{slice_get_within}
use Rattle.std.proofs.lemmas.List.Elements.{All-nil, All-cons, All-head, All-tail, All-append}
use Rattle.pfc_tree.specs.Symbols.{Text}
use Rattle.pfc_tree.specs.trees.Parts.{PartTrees, no_parts, more_parts, ProgramTree}
use Rattle.pfc_tree.specs.forget.Parts.{forget_program}
use Rattle.pfc_tree.specs.lawful.Parts.{IsLawful}
use Rattle.pfc_types.specs.Scopes.{Level, here, scope_at, found_in, meaning_of, look}
use Rattle.pfc_types.specs.Blocks.{State, Blocks, sub_at, module_at}
use Rattle.pfc_types.specs.declared.types.TypeId.{TypeId}
use Rattle.pfc_types.specs.declared.heads.SubHead.{SubHead}
use Rattle.pfc_types.specs.declared.heads.SubSort.{SubSort}
use Rattle.pfc_types.specs.declared.heads.SubSort.TheVariants.{Procedure, Guarded, Function}
use Rattle.pfc_types.specs.declared.scope.Meaning.{Meaning}
use Rattle.pfc_types.specs.declared.scope.Meaning.TheVariants.{Constant, Named, Variable, Sub, Module, Process, Entry, Predeclared, Faulty}
use Rattle.pfc_types.specs.declared.view.Found.{Found}
use Rattle.pfc_types.specs.declared.view.Around.{Around}
use Rattle.pfc_types.specs.rules.Expressions.{Env, broken_expr}
use Rattle.pfc_types.specs.rules.Statements.{broken_stmts}
use Rattle.pfc_types.specs.rules.FaultyNames.{stands_faulty}
use Rattle.pfc_types.specs.rules.Whole.{finished, broken, faults_in}
use Rattle.pfc_semantics.specs.Layouts.{Layout, is_laid, sub_with, variable_place, sub_layout}
use Rattle.pfc_semantics.specs.Displays.{Spot}
use Rattle.pfc_semantics.specs.Expressions.{spot_of, found_spot, named_spot, result_spot}
use Rattle.pfc_semantics.specs.Objects.{module_number}
use Rattle.pfc_semantics.specs.Programs.{Guard, Block, Program, layout_cells, block_at, block_number, part_blocks, part_inits, parts_inits, program_of}
use Rattle.pfc_types.specs.rules.Bodies.{passed_part, part_scopes}
use Rattle.pfc_code.specs.declared.instructions.Instr.{Instr}
use Rattle.pfc_code.specs.declared.instructions.Instr.TheVariants.{ADDR, REF, GRD}
use Rattle.pfc_code.specs.declared.instructions.Instr.TheVariants as instr
use Rattle.pfc_translation.specs.Sites.{Site, forms_of, blocks_of, module_of, is_mains, linked, level_of, links_from, links_to, is_accept, before_accept}
use Rattle.pfc_translation.specs.Sites.{layout_with, place_of, cell_of, is_reference, refers}
use Rattle.pfc_translation.specs.Codes.{Code, nothing, ◌⨾◌, one}
use Rattle.pfc_translation.specs.Expressions.{expr_code}
use Rattle.pfc_translation.specs.Calls.{enter_instr, number_or_none}
use Rattle.pfc_translation.specs.Statements.{stmts_code}
use Rattle.pfc_translation.specs.Images.{instructions, site_in, guard_code, end_of, statements_code, body_code, Piece, a_body, an_initial, resource_end, pieces}
use Rattle.pfc_image_laws.specs.Instructions.{Each}
use Rattle.pfc_image_laws.specs.Levels.{held_with, links_up, sees, IsReached}
use Rattle.pfc_image_laws.proofs.Holds.{each_append, each_then}
use Rattle.pfc_image_laws.proofs.Levels.{blocks_reached, main_reached}
use Rattle.pfc_image_laws.proofs.Modules.{program_inits}
use Rattle.pfc_name_laws.specs.Numbers.{AreNumbered}
use Rattle.pfc_name_laws.proofs.Numbers.{numbered, no_faulty, none_noted}
use Rattle.pfc_name_laws.proofs.Parts.{finished_reached}
use Rattle.pfc_image_numbers.proofs.Rules.{IsClean, IsFunction, HasCell, clean_of, same_around}
use Rattle.pfc_image_numbers.proofs.Plain.{is_plain}
use Rattle.pfc_image_numbers.proofs.Known.{Stands, stands, found_sees}
use Rattle.pfc_image_numbers.proofs.Phrases as phrases
use Rattle.pfc_image_numbers.proofs.Bodies.{IsOfResource, IsRuled, IsRuledPiece, program_pieces, program_blocks, main_ruled}
use Rattle.pfc_image_cells.specs.Cells.{IsVariable, NamesCell}
use Rattle.pfc_image_cells.proofs.Subs.{program_named}
use Rattle.pfc_image_cells.proofs.Formals.{result_place}
use Rattle.pfc_types.proofs.Sound.{IsSound, AreSound}
use Rattle.pfc_types.proofs.Looks.{look_sound}
use Rattle.pfc_types.proofs.WalkParts.{scopes_sound}
use Rattle.pfc_types.specs.rules.FaultyNames.{is_whole_head}
use Rattle.pfc_types.specs.rules.Statements.{is_around}
use Rattle.pfc_image_cells.proofs.Layouts.{IsAt, found_place, cells_within, AreLaid, laid_place}
use Rattle.pfc_image_cells.proofs.Trees.{Fine, Holds, IsInitial, IsLaidOut, IsBlocks, Placed, blocks_placed, initial_placed, main_cells_are, main_found}
use Rattle.pfc_image_cells.proofs.Trees.{main_placed, mains_hold, mains_no_sub, own_sub, blocks_laid}

-- ## One variable

abbrev layout_in : Site → Spot → Bool → Bool → Layout
layout_in s w r q = if r then s.block.layout else if q then s.program.main.layout else (block_at s.program w.scope).layout

abbrev before_in : Site → Spot → Bool → ℕ
before_in s w r = if r then before_accept s w.scope else 0

abbrev reached_block : Site → Spot → Block
reached_block s w = block_at s.program (links_up s.program (links_to s w.scope) s.block.scope)

-- the variable has a place in the layout of the block that is reached
abbrev Reaches : Site → Spot → Bool → Bool → Type 0
Reaches s w r q =
    (before_in s w r + w.variable < length (layout_in s w r q)) × ((reached_block s w).layout ≡ layout_in s w r q)
    × ((reached_block s w).cells ≡ layout_cells (forms_of s) (reached_block s w).layout)

variable_named : (s : Site) (w : Spot) → Reaches s w (is_accept s.block w.scope) (is_mains (blocks_of s) w.scope) → (reference : Bool)
    → refers s w ≡ reference → AreLaid (reached_block s w).layout → IsVariable (forms_of s) (reached_block s w) reference (cell_of s w)
variable_named s w h reference e laid =
    let c = reached_block s w in
    let inside = h.0 in
    let long : length c.layout ≡ length (layout_with s w.scope) = ap (λ (l : Layout). length l) h.1 in
    let below : place_of s w < length c.layout = omega (arith, inside, long) in
    let first : cell_of s w ≡ layout_cells (forms_of s) (take (place_of s w) c.layout) =
    ap (λ (l : Layout). layout_cells (forms_of s) (take (place_of s w) l)) (sym h.1) in
    let all = cells_within (forms_of s) c.layout (place_of s w) Faulty below in
    let cells = h.2 in
    record {
      place = place_of s w;
      is = below;
      laid = laid_place c.layout (place_of s w) Faulty below laid;
      first = first;
      within = omega (arith, first, all, cells);
      refers = ap (λ (l : Layout). is_reference (get_or l (place_of s w) Faulty)) h.1 ∙ e;
    }

at_spot : (s : Site) (w : Spot) → Reaches s w (is_accept s.block w.scope) (is_mains (blocks_of s) w.scope) → AreLaid (reached_block s w).layout
    → NamesCell s.program s.block 0 (if refers s w then REF (links_to s w.scope) (cell_of s w) else ADDR (links_to s w.scope) (cell_of s w))
at_spot s w h laid = by (refers s w) refl
  where
    by : (r : Bool) → refers s w ≡ r
        → NamesCell s.program s.block 0 (if r then REF (links_to s w.scope) (cell_of s w) else ADDR (links_to s w.scope) (cell_of s w))
    by true e = variable_named s w h true e laid
    by false e = variable_named s w h false e laid

around_sees : (v : List Level) (i : ℕ) → is_around v i ≡ true → sees v i ≡ true
around_sees [] i e = absurd (cc)
around_sees (l ∷ v) i e = by (l.scope == i) e (λ q. around_sees v i q)
  where
    by : (r : Bool) → (r || is_around v i) ≡ true → (is_around v i ≡ true → sees v i ≡ true) → (r || sees v i) ≡ true
    by true q rest = refl
    by false q rest = rest q

plain_names : (g : Program) (b : Block) (i : Instr) → is_plain i ≡ true → NamesCell g b 0 i
plain_names g b (instr.ADDR x0 x1) h = absurd (cc)
plain_names g b (instr.REF x0 x1) h = absurd (cc)
plain_names g b (instr.LIT x0) h = tt
plain_names g b (instr.IDX x0 x1 x2) h = tt
plain_names g b (instr.FLD x0) h = tt
plain_names g b (instr.LOAD x0) h = tt
plain_names g b (instr.STORE x0) h = tt
plain_names g b instr.OBJ h = tt
plain_names g b instr.NEG h = tt
plain_names g b instr.ADD h = tt
plain_names g b instr.SUB h = tt
plain_names g b instr.MUL h = tt
plain_names g b instr.DIV h = tt
plain_names g b instr.MOD h = tt
plain_names g b instr.ABS h = tt
plain_names g b instr.SQR h = tt
plain_names g b instr.ODD h = tt
plain_names g b instr.CHR h = tt
plain_names g b (instr.SUCC x0) h = tt
plain_names g b (instr.PRED x0) h = tt
plain_names g b instr.NOT h = tt
plain_names g b instr.AND h = tt
plain_names g b instr.OR h = tt
plain_names g b instr.EQ h = tt
plain_names g b instr.NE h = tt
plain_names g b instr.LT h = tt
plain_names g b instr.LE h = tt
plain_names g b instr.GT h = tt
plain_names g b instr.GE h = tt
plain_names g b (instr.JMP x0) h = tt
plain_names g b (instr.JF x0) h = tt
plain_names g b (instr.TURN x0) h = tt
plain_names g b (instr.FORB x0 x1) h = tt
plain_names g b instr.FORW h = tt
plain_names g b (instr.FORT x0 x1) h = tt
plain_names g b (instr.CEQ x0 x1) h = tt
plain_names g b instr.CERR h = tt
plain_names g b (instr.CALL x0 x1) h = tt
plain_names g b instr.RET h = tt
plain_names g b instr.RETF h = tt
plain_names g b (instr.MCALL x0 x1) h = tt
plain_names g b (instr.RCALL x0 x1) h = tt
plain_names g b (instr.GRD x0) h = tt
plain_names g b (instr.SCAN x0) h = tt
plain_names g b (instr.REQ x0 x1) h = tt
plain_names g b (instr.NEW x0) h = tt
plain_names g b instr.COEND h = tt
plain_names g b instr.END h = tt
plain_names g b instr.SINI h = tt
plain_names g b instr.SWAIT h = tt
plain_names g b instr.SSIG h = tt
plain_names g b (instr.SEND x0) h = tt
plain_names g b (instr.RECV x0) h = tt
plain_names g b (instr.ECALL x0 x1) h = tt
plain_names g b (instr.ACC x0 x1 x2) h = tt
plain_names g b instr.EACC h = tt
plain_names g b (instr.ARMS x0 x1) h = tt
plain_names g b (instr.ARMR x0 x1) h = tt
plain_names g b (instr.ARMA x0 x1 x2 x3) h = tt
plain_names g b (instr.ARMT x0) h = tt
plain_names g b instr.ARMX h = tt
plain_names g b (instr.SEL x0 x1) h = tt
plain_names g b instr.DELAY h = tt
plain_names g b instr.RESUME h = tt
plain_names g b instr.EMPTY h = tt
plain_names g b instr.SLEEP h = tt
plain_names g b instr.CLOCK h = tt
plain_names g b instr.RAND h = tt
plain_names g b (instr.WRI x0) h = tt
plain_names g b (instr.WRB x0) h = tt
plain_names g b (instr.WRC x0) h = tt
plain_names g b (instr.WRS x0 x1) h = tt
plain_names g b instr.WRNL h = tt
plain_names g b instr.RDI h = tt
plain_names g b instr.RDC h = tt
plain_names g b instr.RDNL h = tt
plain_names g b instr.EOF h = tt
plain_names g b instr.EOLN h = tt

-- ## One block

-- in the body the scopes in view are reached by the links that the image has
abbrev Links : Program → Block → Type 0
Links g b =
    (i : ℕ) → sees b.env.view i ≡ true → links_up g (links_from g.state.blocks b i) b.scope ≡ held_with g.state.blocks i

module _ (g : Program) (known : AreNumbered g.state) (whole : g.state.blocks.noted ≡ []) (main_at : block_at g 0 ≡ g.main)
    (main_cells : g.main.cells ≡ layout_cells g.state.forms g.main.layout)
    (mains : (i : ℕ) → is_mains g.state.blocks i ≡ true → Holds g i g.main.layout)
    (nobody : (i : ℕ) → is_mains g.state.blocks i ≡ true → sub_with g.state.blocks.subs i ≡ None)
    (own : (n : ℕ) → n < length g.state.blocks.subs
    → sub_with g.state.blocks.subs (sub_at g.state.blocks n).scope ≡ Some (sub_at g.state.blocks n))
    (room : (n : ℕ) → n < length g.state.blocks.subs → is_whole_head (sub_at g.state.blocks n) ≡ true → IsFunction (sub_at g.state.blocks n).sort
    → length (sub_at g.state.blocks n).formals < length (sub_layout g.state.blocks (sub_at g.state.blocks n)))
    (sound : AreSound g.state.blocks) (all_laid : (i : ℕ) → AreLaid (block_at g i).layout)
    (b : Block) (r : IsRuled (Unit {0}) g.state b) (placed : Placed g b) (links : Links g b)
  where
    -- each scope in view is in view in the body, or that of one of its accepts
    abbrev V : List Level → Type 0
    V v = (i : ℕ) → sees v i ≡ true → (sees b.env.view i ≡ true) ⊎ (is_accept b i ≡ true)

    abbrev at : List Level → Around → ℕ → Site
    at v a l = record { program = g; block = b; env = record { state = g.state; view = v; around = a }; line = l }

    abbrev spot : ℕ → ℕ → Spot
    spot i k = record { scope = i; variable = variable_place g.state.blocks i k; selectors = [] }

    reaches : (v : List Level) (a : Around) (l i k : ℕ) (m : Meaning) → V v → sees v i ≡ true → IsAt (scope_at g.state.blocks.scopes i) k m
        → is_laid m ≡ true → Reaches (at v a l) (spot i k) (is_accept b i) (is_mains g.state.blocks i)
    reaches v a l i k m view seen is laid = by (view i seen)
      where
        s : Site
        s = at v a l

        same_cells : (x y : Block) → x ≡ y → y.cells ≡ layout_cells g.state.forms y.layout → x.cells ≡ layout_cells g.state.forms x.layout
        same_cells x y e h = subst (λ (z : Block). z.cells ≡ layout_cells g.state.forms z.layout) (sym e) h

        plain : sees b.env.view i ≡ true → Fine g i → (q : Bool) → is_mains g.state.blocks i ≡ q → Reaches (at v a l) (spot i k) false q
        plain there fine true e =
            let c : reached_block (at v a l) (spot i k) ≡ g.main =
            ap (λ (n : ℕ). block_at g n) (links i there ∙ ap (λ (z : Bool). cond z 0 i) e) ∙ main_at in
            let fits = slice_get_within g.main.layout (variable_place g.state.blocks i k) m (mains i e k m is laid) in
            (omega (arith, fits), ap (λ (x : Block). x.layout) c, same_cells (reached_block (at v a l) (spot i k)) g.main c main_cells)
        plain there fine false e =
            let f = fine e in
            let c : reached_block (at v a l) (spot i k) ≡ block_at g i =
            ap (λ (n : ℕ). block_at g n) (links i there ∙ ap (λ (z : Bool). cond z 0 i) e) in
            let fits = slice_get_within (block_at g i).layout (variable_place g.state.blocks i k) m (f.0 k m is laid) in
            (omega (arith, fits), ap (λ (x : Block). x.layout) c, same_cells (reached_block (at v a l) (spot i k)) (block_at g i) c f.1)

        by : (sees b.env.view i ≡ true) ⊎ (is_accept b i ≡ true) → Reaches (at v a l) (spot i k) (is_accept b i) (is_mains g.state.blocks i)
        by (inl there) =
            let one = placed.seen i there in
            subst (λ (z : Bool). Reaches (at v a l) (spot i k) z (is_mains g.state.blocks i)) (sym one.1) (plain there one.0 (is_mains g.state.blocks i) refl)
        by (inr own) =
            let one = placed.accept i own in
            subst (λ (z : Bool). Reaches (at v a l) (spot i k) z (is_mains g.state.blocks i)) (sym own) (
              slice_get_within b.layout (before_accept (at v a l) i + variable_place g.state.blocks i k) m (one.stands k m is laid),
              ap (λ (x : Block). x.layout) one.links,
              same_cells (reached_block (at v a l) (spot i k)) b one.links r.cells,
            )

    -- the result of a function, behind its parameters
    abbrev result_spot_of : ℕ → Spot
    result_spot_of n = (result_spot (sub_at g.state.blocks n)).spot

    result_reaches : (v : List Level) (a : Around) (l n : ℕ) → V v → n < length g.state.blocks.subs → is_whole_head (sub_at g.state.blocks n) ≡ true
        → is_around v (sub_at g.state.blocks n).scope ≡ true → IsFunction (sub_at g.state.blocks n).sort
        → Reaches (at v a l) (result_spot_of n) (is_accept b (sub_at g.state.blocks n).scope) (is_mains g.state.blocks (sub_at g.state.blocks n).scope)
    result_reaches v a l n view below head around function = by (view i (around_sees v i around))
      where
        i : ℕ
        i = (sub_at g.state.blocks n).scope

        -- it has a sub
        not_none : sub_with g.state.blocks.subs (sub_at g.state.blocks n).scope ≡ None → ⊥
        not_none e = let both : Some (sub_at g.state.blocks n) ≡ None = sym (own n below) ∙ e in cc

        of_layout : (c : reached_block (at v a l) (result_spot_of n) ≡ block_at g (sub_at g.state.blocks n).scope)
            → (block_at g (sub_at g.state.blocks n).scope).cells ≡ layout_cells g.state.forms (block_at g (sub_at g.state.blocks n).scope).layout
            → IsBlocks g (sub_at g.state.blocks n).scope (block_at g (sub_at g.state.blocks n).scope).layout
            → Reaches (at v a l) (result_spot_of n) false false
        of_layout c cells h =
            let is : (block_at g (sub_at g.state.blocks n).scope).layout ≡ sub_layout g.state.blocks (sub_at g.state.blocks n) =
            subst (λ (o : Option SubHead). IsLaidOut g (sub_at g.state.blocks n).scope o (block_at g (sub_at g.state.blocks n).scope).layout) (own n below) h in
            let fits = room n below head function in
            let long = ap (λ (y : Layout). length y) is in (
              omega (arith, fits, long),
              ap (λ (x : Block). x.layout) c,
              subst (λ (z : Block). z.cells ≡ layout_cells g.state.forms z.layout) (sym c) cells,
            )

        plain : sees b.env.view (sub_at g.state.blocks n).scope ≡ true → Fine g (sub_at g.state.blocks n).scope → (q : Bool)
            → is_mains g.state.blocks (sub_at g.state.blocks n).scope ≡ q → Reaches (at v a l) (result_spot_of n) false q
        plain there fine true e = absurd (not_none (nobody (sub_at g.state.blocks n).scope e))
        plain there fine false e =
            let f = fine e in
            of_layout
            (ap (λ (k : ℕ). block_at g k) (links (sub_at g.state.blocks n).scope there ∙ ap (λ (z : Bool). cond z 0 (sub_at g.state.blocks n).scope) e)) f.1 f.2

        by : (sees b.env.view (sub_at g.state.blocks n).scope ≡ true) ⊎ (is_accept b (sub_at g.state.blocks n).scope ≡ true)
            → Reaches (at v a l) (result_spot_of n) (is_accept b (sub_at g.state.blocks n).scope) (is_mains g.state.blocks (sub_at g.state.blocks n).scope)
        by (inl there) =
            let one = placed.seen (sub_at g.state.blocks n).scope there in
            subst (λ (z : Bool). Reaches (at v a l) (result_spot_of n) z (is_mains g.state.blocks (sub_at g.state.blocks n).scope)) (sym one.1)
            (plain there one.0 (is_mains g.state.blocks (sub_at g.state.blocks n).scope) refl)
        by (inr mine) = absurd (not_none (placed.accept (sub_at g.state.blocks n).scope mine).none)

    abbrev Goal : List Level → Around → ℕ → Spot → Type 0
    Goal v a l w =
        NamesCell g b 0 (if refers (at v a l) w then REF (links_to (at v a l) w.scope) (cell_of (at v a l) w)
        else ADDR (links_to (at v a l) w.scope) (cell_of (at v a l) w))

    found_named : (v : List Level) (a : Around) (l : ℕ) (x : Text) (f : Found) → found_in g.state.blocks.scopes v x ≡ Some f → V v
        → HasCell g.state v (Some f.meaning)
        → Goal v a l (spot_of (record { state = g.state; view = v; around = a }) (Some f)).spot
    found_named v a l x f is view cell = by f.meaning refl cell
      where
        bs : Blocks
        bs = g.state.blocks

        whole_spot : Spot
        whole_spot = (spot_of (record { state = g.state; view = v; around = a }) (Some f)).spot

        standing : (m : Meaning) → f.meaning ≡ m → (o : Option ℕ) → f.scope ≡ o → Stands g.state.blocks o m
        standing m e o at_o =
            subst (λ (p : Option ℕ). Stands g.state.blocks p m) at_o
            (subst (λ (n : Meaning). Stands g.state.blocks f.scope n) e (stands g.state known v x f is))

        spot_is : (m : Meaning) → f.meaning ≡ m → (i : ℕ) → f.scope ≡ Some i
            → (spot_of (record { state = g.state; view = v; around = a }) (Some f)).spot ≡ (named_spot g.state.blocks i f.place m).spot
        spot_is m e i at_i =
            ap (λ (o : Option ℕ). (found_spot g.state.blocks o f).spot) at_i ∙ ap (λ (n : Meaning). (named_spot g.state.blocks i f.place n).spot) e

        laid_at : (m : Meaning) → is_laid m ≡ true → f.meaning ≡ m → (i : ℕ) → f.scope ≡ Some i → Goal v a l (spot i f.place)
        laid_at m laid e i at_i =
            at_spot (at v a l) (spot i f.place)
            (reaches v a l i f.place m view (found_sees g.state.blocks.scopes v x f i is at_i)
            (subst (λ (n : Meaning). IsAt (scope_at g.state.blocks.scopes i) f.place n) e (found_place g.state.blocks.scopes v x f i is at_i)) laid)
            (all_laid (links_up g (links_to (at v a l) i) b.scope))

        of_variable : (t : TypeId) (reference : Bool) → f.meaning ≡ Variable t reference → (o : Option ℕ) → f.scope ≡ o → Stands g.state.blocks o
            (Variable t reference) → Goal v a l (spot_of (record { state = g.state; view = v; around = a }) (Some f)).spot
        of_variable t reference e None at_o h = absurd h
        of_variable t reference e (Some i) at_o h =
            subst (Goal v a l) (sym (spot_is (Variable t reference) e i at_o)) (laid_at (Variable t reference) refl e i at_o)

        of_process : (n : ℕ) → f.meaning ≡ Process n → (o : Option ℕ) → f.scope ≡ o → Stands g.state.blocks o (Process n)
            → Goal v a l (spot_of (record { state = g.state; view = v; around = a }) (Some f)).spot
        of_process n e None at_o h = absurd h
        of_process n e (Some i) at_o h = subst (Goal v a l) (sym (spot_is (Process n) e i at_o)) (laid_at (Process n) refl e i at_o)

        of_sub : (n : ℕ) → f.meaning ≡ Sub n → HasCell g.state v (Some (Sub n)) → (o : Option ℕ) → f.scope ≡ o → Stands g.state.blocks o (Sub n)
            → Goal v a l (spot_of (record { state = g.state; view = v; around = a }) (Some f)).spot
        of_sub n e cell None at_o h = absurd h
        of_sub n e cell (Some i) at_o h =
            let seen_so : look g.state.blocks.scopes v x ≡ Some (Sub n) =
            ap (λ (o : Option Found). meaning_of o) is ∙ ap (λ (m : Meaning). Some m) e in
            let whole_one : IsSound g.state.blocks (Some (Sub n)) =
            subst (λ (m : Option Meaning). IsSound g.state.blocks m) seen_so (look_sound g.state.blocks sound v x) in
            subst (Goal v a l) (sym (spot_is (Sub n) e i at_o))
            (at_spot (at v a l) (result_spot_of n) (result_reaches v a l n view h whole_one.1 cell.0 cell.1)
            (all_laid (links_up g (links_to (at v a l) (sub_at g.state.blocks n).scope) b.scope)))

        by : (m : Meaning) → f.meaning ≡ m → HasCell g.state v (Some m) → Goal v a l (spot_of (record { state = g.state; view = v; around = a }) (Some f)).spot
        by (Constant t n) e h = absurd h
        by (Named t) e h = absurd h
        by (Variable t reference) e h = of_variable t reference e f.scope refl (standing (Variable t reference) e f.scope refl)
        by (Sub n) e h = of_sub n e h f.scope refl (standing (Sub n) e f.scope refl)
        by (Module n) e h = absurd h
        by (Process n) e h = of_process n e f.scope refl (standing (Process n) e f.scope refl)
        by (Entry n) e h = absurd h
        by (Predeclared n) e h = absurd h
        by Faulty e h =
            let seen_so : stands_faulty (meaning_of (found_in g.state.blocks.scopes v x)) ≡ true =
            ap (λ (o : Option Found). stands_faulty (meaning_of o)) is ∙ ap (λ (m : Meaning). stands_faulty (Some m)) e in
            let none = no_faulty g.state known whole v x in
            let both : true ≡ false = sym seen_so ∙ none in
            absurd (cc)

    reaching_at :
        (a : Around) (v : List Level) (l : ℕ) (x : Text) (o : Option Found) → found_in g.state.blocks.scopes v x ≡ o → V v
        → (Unit {0} → HasCell g.state v (meaning_of o))
        → let s : Site = record { program = g; block = b; env = record { state = g.state; view = v; around = a }; line = l } in
        NamesCell g b 0 (if refers s (spot_of s.env o).spot then REF (links_to s (spot_of s.env o).spot.scope) (cell_of s (spot_of s.env o).spot)
        else ADDR (links_to s (spot_of s.env o).spot.scope) (cell_of s (spot_of s.env o).spot))
    reaching_at a v l x None same view cell = absurd (cell tt)
    reaching_at a v l x (Some f) same view cell = found_named v a l x f same view (cell tt)

    entering_names : (n i : ℕ) → n < length g.state.blocks.modules
        → NamesCell g b 0 (enter_instr (module_at g.state.blocks n).resource (module_number g.state.blocks n) (block_number g i))
    entering_names n i below = by (module_at g.state.blocks n).resource
      where
        by : (z : Bool) → NamesCell g b 0 (enter_instr z (module_number g.state.blocks n) (block_number g i))
        by true = tt
        by false = tt

    -- the scope of an accept that opens is one of the block's
    opened_view : (v : List Level) (n : ℕ) → V v
        → (Unit {0} → (b.env.around.process ≡ true) × (b.env.around.sub ≡ false) × (b.next ≤ n) × (n + 1 ≤ b.next + b.accepts))
        → V (here g.state.blocks.scopes n v)
    opened_view v n h is i seen = by (n == i) refl seen
      where
        accepts : (i : ℕ) → b.next ≤ i → i < b.next + b.accepts → is_accept b i ≡ true
        accepts i low high = grind (arith, nat_tests)

        by : (z : Bool) → (n == i) ≡ z → (z || sees v i) ≡ true → (sees b.env.view i ≡ true) ⊎ (is_accept b i ≡ true)
        by true e k =
            let same : n ≡ i = grind (arith, nat_tests) in
            let range = is tt in
            let low = range.2 in
            let high = range.3 in
            inr (accepts i (omega (arith, same, low)) (omega (arith, same, high)))
        by false e k = h i k

    -- wherever it is put
    Names : Code → Type 0
    Names c = (at n : ℕ) → Each (λ j i. NamesCell g b 0 i) at (instructions (c.put at n))

    moved : (at to : ℕ) (code : List Instr) → Each (λ j i. NamesCell g b 0 i) at code → Each (λ j i. NamesCell g b 0 i) to code
    moved at to [] h = tt
    moved at to (i ∷ code) h = (h.0, moved (at + 1) (to + 1) code h.1)

    both_name : (c d : Code) → Names c → Names d → Names (c ⨾ d)
    unfolding Names
    both_name c d p q at n =
        each_append (λ j i. NamesCell g b 0 i) at (c.put at n) (d.put (at + c.size) (n + length c.texts)) (p at n)
        (moved (at + c.size) (at + length (c.put at n)) (instructions (d.put (at + c.size) (n + length c.texts))) (q (at + c.size) (n + length c.texts)))

    one_names : (s : Site) (i : Instr) → NamesCell g b 0 i → Names (one s i)
    unfolding Names
    one_names s i h at n = (h, tt)

    no_names : Names nothing
    unfolding Names
    no_names at n = tt

    same_env : (e : Env) → e.state ≡ g.state → record { state = g.state; view = e.view; around = e.around } ≡ e
    same_env e h = ap (λ (z : State). record { state = z; view = e.view; around = e.around }) (sym h)

    statements_name : Names (statements_code g b)
    unfolding Names
    statements_name at n =
        let a = b.env.around in
        let v = b.env.view in
        let e = same_env b.env r.state in
        let clean : Unit {0} → IsClean (broken_stmts (record { state = g.state; view = v; around = a }) b.next b.stmts) =
        λ z. subst (λ w. IsClean (broken_stmts w b.next b.stmts)) (sym e) (r.clean z) in
        subst (λ w. Each (λ j i. NamesCell g b 0 i) at
        (instructions ((stmts_code (record { program = g; block = b; env = w; line = b.last_line }) b.next b.stmts).put at n))) e
        (phrases.held_each (Unit {0}) g b a (NamesCell g b 0) V (plain_names g b) (reaching_at a)
        (stmts_code (record { program = g; block = b; env = record { state = g.state; view = v; around = a }; line = b.last_line }) b.next b.stmts)
        (phrases.stmts (Unit {0}) g b a (NamesCell g b 0) V (plain_names g b) (reaching_at a) known entering_names (λ n e below h. tt)
        (λ w l i guarded. tt) (λ w l m x view h. tt) (λ w l m x view h at. tt) (λ w m view h. opened_view w m view h)
        v b.last_line a (λ i seen. inl seen) (same_around a) b.next b.stmts
        (λ z p q. let few = r.range p q in (omega arith, omega (arith, few))) clean) at n)

    test_names : (w : Guard) → (w.env.state ≡ g.state) × IsOfResource g.state.blocks b.outer × (Unit {0} → IsClean (broken_expr w.env w.test))
        → ((i : ℕ) → sees w.env.view i ≡ true → sees b.env.view i ≡ true)
        → Names (expr_code (record { program = g; block = b; env = w.env; line = w.line }) w.test)
    unfolding Names
    test_names w h sees_too at n =
        let a = w.env.around in
        let v = w.env.view in
        let e = same_env w.env h.0 in
        subst (λ u. Each (λ j i. NamesCell g b 0 i) at
        (instructions ((expr_code (record { program = g; block = b; env = u; line = w.line }) w.test).put at n))) e
        (phrases.held_each (Unit {0}) g b a (NamesCell g b 0) V (plain_names g b) (reaching_at a)
        (expr_code (record { program = g; block = b; env = record { state = g.state; view = v; around = a }; line = w.line }) w.test)
        (phrases.expr (Unit {0}) g b a (NamesCell g b 0) V (plain_names g b) (reaching_at a) v w.line a (λ i seen. inl (sees_too i seen)) w.test
        (λ z. subst (λ u. IsClean (broken_expr u w.test)) (sym e) (h.2 z))) at n)

    guard_names : (w : Option Guard)
        → IfSome w (λ w. (w.env.state ≡ g.state) × IsOfResource g.state.blocks b.outer × (Unit {0} → IsClean (broken_expr w.env w.test)))
        → IfSome w (λ w. (i : ℕ) → sees w.env.view i ≡ true → sees b.env.view i ≡ true) → Names (guard_code g b w)
    guard_names None h k = no_names
    guard_names (Some w) h k =
        both_name (expr_code (record { program = g; block = b; env = w.env; line = w.line }) w.test)
        (one (record { program = g; block = b; env = w.env; line = w.line }) (GRD (number_or_none g.state.blocks (module_of g.state.blocks b.outer))))
        (test_names w h k)
        (one_names (record { program = g; block = b; env = w.env; line = w.line }) (GRD (number_or_none g.state.blocks (module_of g.state.blocks b.outer))) tt)

    end_names : (head : Option SubHead) → NamesCell g b 0 (end_of head)
    end_names None = tt
    end_names (Some head) = by head.sort
      where
        by : (sort : SubSort) → NamesCell g b 0 (end_of (Some (record head { sort = sort })))
        by Procedure = tt
        by Guarded = tt
        by (Function t) = tt

    body_names : Names (body_code g b)
    body_names =
        both_name (guard_code g b b.guard) (statements_code g b ⨾ one (site_in g b) (end_of (sub_with g.state.blocks.subs b.scope)))
        (guard_names b.guard r.guard placed.guard)
        (both_name (statements_code g b) (one (site_in g b) (end_of (sub_with g.state.blocks.subs b.scope))) statements_name
        (one_names (site_in g b) (end_of (sub_with g.state.blocks.subs b.scope)) (end_names (sub_with g.state.blocks.subs b.scope))))

    pub body_cells : (at strings : ℕ) → Each (NamesCell g b) at (instructions ((body_code g b).put at strings))
    unfolding Names
    body_cells at strings =
        each_then (λ j i. NamesCell g b 0 i) (NamesCell g b) at (instructions ((body_code g b).put at strings)) (λ j i h. anywhere j i h)
        (body_names at strings)
      where
        anywhere : (j : ℕ) (i : Instr) → NamesCell g b 0 i → NamesCell g b j i
        anywhere j i h = h

    pub statements_cells : (at strings : ℕ) → Each (NamesCell g b) at (instructions ((statements_code g b).put at strings))
    unfolding Names
    statements_cells at strings =
        each_then (λ j i. NamesCell g b 0 i) (NamesCell g b) at (instructions ((statements_code g b).put at strings)) (λ j i h. anywhere j i h)
        (statements_name at strings)
      where
        anywhere : (j : ℕ) (i : Instr) → NamesCell g b 0 i → NamesCell g b j i
        anywhere j i h = h

-- ## The program

later_seen : (r q : Bool) → q ≡ true → (r || q) ≡ true
later_seen true q e = refl
later_seen false q e = e

reached_links : (g : Program) (b : Block) → IsReached g b → Links g b
reached_links g b h i seen = h i (later_seen (is_mains g.state.blocks i) (sees b.env.view i) seen)

block_names : (t : ProgramTree) → IsLawful (forget_program t) → broken t ≡ [] → (b : Block) → IsRuled (Unit {0}) (finished t) b
    → Placed (program_of t) b → IsReached (program_of t) b → (at strings : ℕ)
    → Each (NamesCell (program_of t) b) at (instructions ((body_code (program_of t) b).put at strings))
block_names t lawful clean b r placed reached =
    body_cells (program_of t) (numbered (finished t) (finished_reached t)) (none_noted t clean) (main_found t) (main_cells_are t)
    (mains_hold t lawful (program_named t lawful (none_noted t clean))) (mains_no_sub t lawful) (own_sub t)
    (result_place t (none_noted t clean)) (scopes_sound t) (blocks_laid t lawful) b r placed (reached_links (program_of t) b reached)

all_three : (P Q R S : Block → Type 0) (bs : List Block) → ((b : Block) → P b → Q b → R b → S b) → All P bs → All Q bs → All R bs → All S bs
all_three P Q R S bs f p q r n b below = f (get_or bs n b) (p n b below) (q n b below) (r n b below)

pub blocks_name : (t : ProgramTree) → IsLawful (forget_program t) → broken t ≡ []
    → All (λ (b : Block). (at strings : ℕ) → Each (NamesCell (program_of t) b) at (instructions ((body_code (program_of t) b).put at strings)))
    (program_of t).blocks
blocks_name t lawful clean =
    let rules = (clean_of (faults_in (finished t) t) clean).1 in
    all_three (IsRuled (Unit {0}) (finished t)) (Placed (program_of t)) (IsReached (program_of t))
    (λ b. (at strings : ℕ) → Each (NamesCell (program_of t) b) at (instructions ((body_code (program_of t) b).put at strings)))
    (program_of t).blocks (λ b r p h. block_names t lawful clean b r p h)
    (program_blocks (Unit {0}) t lawful (λ q. rules)) (blocks_placed t lawful) (blocks_reached t lawful)

pub main_names : (t : ProgramTree) → IsLawful (forget_program t) → broken t ≡ [] → (at strings : ℕ)
    → Each (NamesCell (program_of t) (program_of t).main) at (instructions ((body_code (program_of t) (program_of t).main).put at strings))
main_names t lawful clean =
    let rules = (clean_of (faults_in (finished t) t) clean).1 in
    block_names t lawful clean (program_of t).main (main_ruled (Unit {0}) t (λ q. rules)) (main_placed t) (main_reached t)

-- ## Initialising bodies

without : (A : Type 0) (s : State) (ps qs : List Piece) → All (IsRuledPiece A s) (ps ++ qs) → All (IsRuledPiece A s) qs
without A s [] qs h = h
without A s (p ∷ ps) qs h = without A s ps qs (All-tail (IsRuledPiece A s) p (ps ++ qs) h)

initials : (A : Type 0) (s : State) (bs : List Block) (qs : List Piece) → All (IsRuledPiece A s) (map an_initial bs ++ qs)
    → All (IsRuled A s) bs × All (IsRuledPiece A s) qs
initials A s [] qs h = (All-nil (IsRuled A s), h)
initials A s (b ∷ bs) qs h =
    let rest = initials A s bs qs (All-tail (IsRuledPiece A s) (an_initial b) (map an_initial bs ++ qs) h) in
    (All-cons (IsRuled A s) b bs (All-head (IsRuledPiece A s) (an_initial b) (map an_initial bs ++ qs) h) rest.0, rest.1)

pub inits_ruled : (A : Type 0) (s : State) (n next : ℕ) (qs : PartTrees) → All (IsRuledPiece A s) (pieces s n next qs) →
    All (IsRuled A s) (parts_inits s n next qs)
inits_ruled A s n next no_parts h = All-nil (IsRuled A s)
inits_ruled A s n next (more_parts q qs) h =
    let further = passed_part (scope_at s.blocks.scopes 0) n q in
    let inits = part_inits s n next q in
    let rest = pieces s further (next + part_scopes q) qs in
    let both = initials A s inits rest (without A s (resource_end q) (map an_initial inits ++ rest)
    (without A s (map a_body (part_blocks s false 0 n [] next q)) (resource_end q ++ (map an_initial inits ++ rest)) h)) in
    All-append (IsRuled A s) inits (parts_inits s further (next + part_scopes q) qs) both.0 (inits_ruled A s further (next + part_scopes q) qs both.1)

-- they see main's scopes alone, and follow no link
initial_links : (g : Program) (b : Block) → IsInitial g b → level_of g.state.blocks b ≡ 0 → Links g b
initial_links g b h level i seen =
    let bs = g.state.blocks in
    let mains = h.2 i seen in
    let none : links_from bs b i ≡ 0 =
    ap (λ (r : Bool). if r then level_of bs b else unwrap_or (position (λ j. j == i) (linked bs b.env.view)) 0) mains ∙ level in
    ap (λ (l : ℕ). links_up g l b.scope) none ∙ ap (λ (r : Bool). cond r 0 b.scope) h.1 ∙ sym (ap (λ (r : Bool). cond r 0 i) mains)

pub initial_names : (t : ProgramTree) → IsLawful (forget_program t) → broken t ≡ []
    → All (λ (b : Block). (at strings : ℕ) → Each (NamesCell (program_of t) b) at (instructions ((statements_code (program_of t) b).put at strings)))
    (program_of t).modules
initial_names t lawful clean =
    let g = program_of t in
    let rules = (clean_of (faults_in (finished t) t) clean).1 in
    all_three (IsRuled (Unit {0}) (finished t)) (IsInitial g) (λ b. level_of g.state.blocks b ≡ 0)
    (λ b. (at strings : ℕ) → Each (NamesCell g b) at (instructions ((statements_code g b).put at strings)))
    g.modules
    (λ b r h level. statements_cells g (numbered (finished t) (finished_reached t)) (none_noted t clean) (main_found t) (main_cells_are t)
    (mains_hold t lawful (program_named t lawful (none_noted t clean))) (mains_no_sub t lawful) (own_sub t)
    (result_place t (none_noted t clean)) (scopes_sound t) (blocks_laid t lawful) b r h.0 (initial_links g b h level))
    (inits_ruled (Unit {0}) (finished t) 0 1 t.parts (program_pieces (Unit {0}) t lawful (λ q. rules))) (initial_placed t lawful) (program_inits t lawful)
