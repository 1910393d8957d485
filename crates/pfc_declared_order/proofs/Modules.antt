-- Parts of a program add modules behind the others.
use Rattle.std.proofs.Common.{◌≡◌, ℕ, Bool, true, false, List, [], ◌∷◌, ◌++◌, length, refl, sym, ap, ◌∙◌, append_assoc, append-nil}
use Rattle.pfc_tree.specs.trees.Parts.{PartTree, PartTrees, ModuleTree, ProcessTree, consts, types, vars, sub_part, monitor, resource, process_part, no_parts}
use Rattle.pfc_tree.specs.trees.Parts.{more_parts, the_module, process}
use Rattle.pfc_tree.specs.forget.Parts.{forget_part, forget_parts, forget_module, forget_process}
use Rattle.pfc_tree.specs.lawful.Parts.{Home, of_program, of_resource, of_other, HoldsModules, IsLawfulPart, AreLawfulParts, IsLawfulModule, IsLawfulProcess}
use Rattle.pfc_types.specs.Scopes.{Level, here}
use Rattle.pfc_types.specs.Blocks.{State, add_module, open_scope}
use Rattle.pfc_types.specs.declared.heads.ModuleHead.{ModuleHead}
use Rattle.pfc_types.specs.declared.scope.Meaning.TheVariants.{Module}
use Rattle.pfc_types.specs.rules.Declarations.{Owner, in_program, elsewhere, process_headed, process_cells, entries_state, exports_state, init_state}
use Rattle.pfc_types.specs.rules.Declarations.{body_state, module_owner, cells_rule, part_state, parts_state, module_state, process_state}
use Rattle.pfc_image_cells.proofs.Subs.{note_same, declare_same, consts_same, types_same, vars_same, entries_same, exports_same, body_same, init_same}
use Rattle.pfc_image_cells.proofs.Subs.{process_headed_same, sub_modules}

-- in a module and in a process stands none
inner_modules :
    (h : Home) (owner : Owner) (s : State) (i : ℕ) (outer : List Level) (qs : PartTrees) → (HoldsModules h → ⊥) → AreLawfulParts h (forget_parts qs)
    → (parts_state owner s i outer qs).blocks.modules ≡ s.blocks.modules
inner_modules h owner s i outer no_parts apart lawful = refl
inner_modules h owner s i outer (more_parts q qs) apart lawful =
    inner_modules h owner (part_state owner s i outer q) i outer qs apart lawful.1 ∙ one q lawful.0
  where
    one : (q : PartTree) → IsLawfulPart h (forget_part q) → (part_state owner s i outer q).blocks.modules ≡ s.blocks.modules
    one (consts items) lawful = (consts_same s i outer items).modules
    one (types items) lawful = (types_same s i outer items).modules
    one (vars vs) lawful = (vars_same owner s i outer vs).modules
    one (sub_part b) lawful = sub_modules h s i outer b lawful
    one (monitor m) lawful = absurd (apart lawful.0)
    one (resource m) lawful = absurd (apart lawful.0)
    one (process_part p) lawful = absurd (apart lawful.0)

process_modules : (s : State) (q : ProcessTree) → IsLawfulProcess (forget_process q) → (process_state s 0 [] q).blocks.modules ≡ s.blocks.modules
process_modules s (process many x gs es ps b p) lawful =
    let own = length s.blocks.scopes in
    let headed = process_headed s 0 [] many (x, p) gs in
    let around = here headed.blocks.scopes 0 [] in
    let entered = entries_state headed own around 0 es in
    let declared = parts_state elsewhere entered own around ps in
    let done = body_state declared (here declared.blocks.scopes own around) b in
    (note_same done (cells_rule (process_cells done own (length declared.blocks.scopes)) p)).modules
    ∙ ((body_same declared (here declared.blocks.scopes own around) b).modules
    ∙ (inner_modules of_other elsewhere entered own around ps (λ e. e) lawful.2 ∙ ((entries_same headed own around 0 es).modules
    ∙ (process_headed_same s 0 [] many (x, p) gs).modules)))

-- more of a list
pub record Longer {A : Type 0} (xs ys : List A) : Type 0 where
  pub more : List A
  pub is : ys ≡ xs ++ more

pub longer_same : {A : Type 0} (xs ys : List A) → ys ≡ xs → Longer xs ys
longer_same xs ys e = record { more = []; is = e ∙ sym (append-nil xs) }

pub longer_then : {A : Type 0} (xs ys zs : List A) → Longer xs ys → Longer ys zs → Longer xs zs
longer_then xs ys zs h k = record { more = h.more ++ k.more; is = k.is ∙ ap (λ l. l ++ k.more) h.is ∙ append_assoc xs h.more k.more }

module_added :
    (is_resource : Bool) (h : Home) (s : State) (m : ModuleTree) → (HoldsModules h → ⊥) → IsLawfulModule h (forget_module m)
    → Longer s.blocks.modules (module_state is_resource s 0 [] m).blocks.modules
module_added is_resource h s (the_module x exports ps b last p) apart lawful =
    let own = length s.blocks.scopes in
    let around = here s.blocks.scopes 0 [] in
    let declared = parts_state (module_owner is_resource) (open_scope s) own around ps in
    let inits = init_state declared (here declared.blocks.scopes own around) b in
    let t = exports_state inits own exports in
    let head : ModuleHead = record { scope = own; resource = is_resource } in
    let same : t.blocks.modules ≡ s.blocks.modules =
    (exports_same inits own exports).modules ∙ ((init_same declared (here declared.blocks.scopes own around) b).modules
    ∙ inner_modules h (module_owner is_resource) (open_scope s) own around ps apart lawful.1) in
    record {
      more = head ∷ [];
      is = (declare_same (add_module t head) 0 (x, p) (Module (length inits.blocks.modules))).modules ∙ ap (λ (l : List ModuleHead). l ++ head ∷ []) same;
    }

pub part_longer : (s : State) (q : PartTree) → IsLawfulPart of_program (forget_part q) → Longer s.blocks.modules (part_state in_program s 0 [] q).blocks.modules
part_longer s (consts items) lawful = longer_same _ _ (consts_same s 0 [] items).modules
part_longer s (types items) lawful = longer_same _ _ (types_same s 0 [] items).modules
part_longer s (vars vs) lawful = longer_same _ _ (vars_same in_program s 0 [] vs).modules
part_longer s (sub_part b) lawful = longer_same _ _ (sub_modules of_program s 0 [] b lawful)
part_longer s (monitor m) lawful = module_added false of_other s m (λ e. e) lawful.1
part_longer s (resource m) lawful = module_added true of_resource s m (λ e. e) lawful.1
part_longer s (process_part p) lawful = longer_same _ _ (process_modules s p lawful.1)

pub parts_longer :
    (s : State) (qs : PartTrees) → AreLawfulParts of_program (forget_parts qs) → Longer s.blocks.modules (parts_state in_program s 0 [] qs).blocks.modules
parts_longer s no_parts lawful = longer_same _ _ refl
parts_longer s (more_parts q qs) lawful =
    longer_then s.blocks.modules (part_state in_program s 0 [] q).blocks.modules (parts_state in_program s 0 [] (more_parts q qs)).blocks.modules
    (part_longer s q lawful.0) (parts_longer (part_state in_program s 0 [] q) qs lawful.1)
