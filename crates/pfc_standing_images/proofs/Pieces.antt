-- What stands in a text: its bodies, its initialising bodies and the ends of its resources are those of the program, in its order.
use Rattle.std.proofs.Common.{◌≡◌, ℕ, ◌+◌, false, List, [], ◌∷◌, ◌++◌, map, refl, ap, ◌∙◌}
use Rattle.pfc_tree.specs.trees.Parts.{PartTree, PartTrees, consts, types, vars, sub_part, monitor, resource, process_part, no_parts, more_parts}
use Rattle.pfc_types.specs.Scopes.{scope_at}
use Rattle.pfc_types.specs.Blocks.{State}
use Rattle.pfc_types.specs.rules.Bodies.{passed_part, part_scopes}
use Rattle.pfc_semantics.specs.Programs.{Block, part_blocks, parts_blocks, part_inits, parts_inits, module_end, ends_of_resources}
use Rattle.pfc_translation.specs.Images.{Piece, a_body, an_initial, a_resource, resource_end, pieces}

abbrev pub bodies_in : List Piece → List Block
bodies_in [] = []
bodies_in (a_body b ∷ ps) = b ∷ bodies_in ps
bodies_in (an_initial b ∷ ps) = bodies_in ps
bodies_in (a_resource line ∷ ps) = bodies_in ps

abbrev pub initials_in : List Piece → List Block
initials_in [] = []
initials_in (a_body b ∷ ps) = initials_in ps
initials_in (an_initial b ∷ ps) = b ∷ initials_in ps
initials_in (a_resource line ∷ ps) = initials_in ps

abbrev pub ends_in : List Piece → List ℕ
ends_in [] = []
ends_in (a_body b ∷ ps) = ends_in ps
ends_in (an_initial b ∷ ps) = ends_in ps
ends_in (a_resource line ∷ ps) = line ∷ ends_in ps

-- ## Behind the bodies of a part

bodies_first : (bs : List Block) (ps : List Piece) → bodies_in (map a_body bs ++ ps) ≡ bs ++ bodies_in ps
bodies_first [] ps = refl
bodies_first (b ∷ bs) ps = ap (λ (x : List Block). b ∷ x) (bodies_first bs ps)

bodies_behind : (bs : List Block) (ps : List Piece) → bodies_in (map an_initial bs ++ ps) ≡ bodies_in ps
bodies_behind [] ps = refl
bodies_behind (b ∷ bs) ps = bodies_behind bs ps

initials_behind : (bs : List Block) (ps : List Piece) → initials_in (map a_body bs ++ ps) ≡ initials_in ps
initials_behind [] ps = refl
initials_behind (b ∷ bs) ps = initials_behind bs ps

initials_first : (bs : List Block) (ps : List Piece) → initials_in (map an_initial bs ++ ps) ≡ bs ++ initials_in ps
initials_first [] ps = refl
initials_first (b ∷ bs) ps = ap (λ (x : List Block). b ∷ x) (initials_first bs ps)

ends_behind_bodies : (bs : List Block) (ps : List Piece) → ends_in (map a_body bs ++ ps) ≡ ends_in ps
ends_behind_bodies [] ps = refl
ends_behind_bodies (b ∷ bs) ps = ends_behind_bodies bs ps

ends_behind_initials : (bs : List Block) (ps : List Piece) → ends_in (map an_initial bs ++ ps) ≡ ends_in ps
ends_behind_initials [] ps = refl
ends_behind_initials (b ∷ bs) ps = ends_behind_initials bs ps

-- ## Behind the end of a resource

bodies_behind_end : (q : PartTree) (ps : List Piece) → bodies_in (resource_end q ++ ps) ≡ bodies_in ps
bodies_behind_end (consts items) ps = refl
bodies_behind_end (types items) ps = refl
bodies_behind_end (vars vs) ps = refl
bodies_behind_end (sub_part b) ps = refl
bodies_behind_end (monitor m) ps = refl
bodies_behind_end (resource m) ps = refl
bodies_behind_end (process_part p) ps = refl

initials_behind_end : (q : PartTree) (ps : List Piece) → initials_in (resource_end q ++ ps) ≡ initials_in ps
initials_behind_end (consts items) ps = refl
initials_behind_end (types items) ps = refl
initials_behind_end (vars vs) ps = refl
initials_behind_end (sub_part b) ps = refl
initials_behind_end (monitor m) ps = refl
initials_behind_end (resource m) ps = refl
initials_behind_end (process_part p) ps = refl

-- the pieces of one part, and others behind them
ends_next : (q : PartTree) (qs : PartTrees) (ps : List Piece) → ends_in ps ≡ ends_of_resources qs
    → ends_in (resource_end q ++ ps) ≡ ends_of_resources (more_parts q qs)
ends_next (consts items) qs ps e = e
ends_next (types items) qs ps e = e
ends_next (vars vs) qs ps e = e
ends_next (sub_part b) qs ps e = e
ends_next (monitor m) qs ps e = e
ends_next (resource m) qs ps e = ap (λ (x : List ℕ). module_end m ∷ x) e
ends_next (process_part p) qs ps e = e

-- ## Whole texts

pub bodies_of_parts : (s : State) (n next : ℕ) (qs : PartTrees) → bodies_in (pieces s n next qs) ≡ parts_blocks s false 0 n [] next qs
bodies_of_parts s n next no_parts = refl
bodies_of_parts s n next (more_parts q qs) =
    let own = part_blocks s false 0 n [] next q in
    let inits = part_inits s n next q in
    let next_n = passed_part (scope_at s.blocks.scopes 0) n q in
    let rest = pieces s next_n (next + part_scopes q) qs in
    bodies_first own (resource_end q ++ (map an_initial inits ++ rest))
    ∙ ap (λ (x : List Block). own ++ x)
    (bodies_behind_end q (map an_initial inits ++ rest) ∙ bodies_behind inits rest ∙ bodies_of_parts s next_n (next + part_scopes q) qs)

pub initials_of_parts : (s : State) (n next : ℕ) (qs : PartTrees) → initials_in (pieces s n next qs) ≡ parts_inits s n next qs
initials_of_parts s n next no_parts = refl
initials_of_parts s n next (more_parts q qs) =
    let own = part_blocks s false 0 n [] next q in
    let inits = part_inits s n next q in
    let next_n = passed_part (scope_at s.blocks.scopes 0) n q in
    let rest = pieces s next_n (next + part_scopes q) qs in
    initials_behind own (resource_end q ++ (map an_initial inits ++ rest))
    ∙ initials_behind_end q (map an_initial inits ++ rest) ∙ initials_first inits rest
    ∙ ap (λ (x : List Block). inits ++ x) (initials_of_parts s next_n (next + part_scopes q) qs)

pub ends_of_parts : (s : State) (n next : ℕ) (qs : PartTrees) → ends_in (pieces s n next qs) ≡ ends_of_resources qs
ends_of_parts s n next no_parts = refl
ends_of_parts s n next (more_parts q qs) =
    let own = part_blocks s false 0 n [] next q in
    let inits = part_inits s n next q in
    let next_n = passed_part (scope_at s.blocks.scopes 0) n q in
    let rest = pieces s next_n (next + part_scopes q) qs in
    ends_behind_bodies own (resource_end q ++ (map an_initial inits ++ rest))
    ∙ ends_next q qs (map an_initial inits ++ rest) (ends_behind_initials inits rest ∙ ends_of_parts s next_n (next + part_scopes q) qs)
