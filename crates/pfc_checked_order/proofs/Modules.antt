-- Each module is told by the scope of its part.
use Rattle.std.proofs.Common.{◌≡◌, ℕ, zero, suc, ◌<◌, Bool, true, false, List, [], ◌∷◌, length, take, get_or, refl, sym, ◌∙◌, subst, arith}
use Rattle.std.specs.List.{AllByRecursion}
use Rattle.pfc_tree.specs.trees.Parts.{ProgramTree}
use Rattle.pfc_tree.specs.forget.Parts.{forget_program}
use Rattle.pfc_tree.specs.lawful.Parts.{IsLawful}
use Rattle.pfc_types.specs.Blocks.{no_module, module_at}
use Rattle.pfc_types.specs.declared.heads.ModuleHead.{ModuleHead}
use Rattle.pfc_types.specs.rules.Whole.{finished}
use Rattle.pfc_semantics.specs.Objects.{of_kind}
use Rattle.pfc_image_laws.proofs.Modules.{program_modules}
use Rattle.pfc_checked_guards.specs.Order.{marked, mark_of_module}
use Rattle.pfc_checked_order.specs.Order.{scope_of_kind, scope_of_mark, top_of, tops_of}
use Rattle.pfc_checked_order.proofs.Starts.{kind_found, module_starts, top_start}

of_marked : (ms : List ModuleHead) (r : Bool) (k : ℕ) → scope_of_mark ms (marked r k) ≡ scope_of_kind r ms k
of_marked ms true k = refl
of_marked ms false k = refl

pub mark_found : (t : ProgramTree) (n : ℕ) → n < length (finished t).blocks.modules
    → (tops_of t).of_mark (mark_of_module (finished t).blocks n) ≡ (module_at (finished t).blocks n).scope
mark_found t n low =
    let ms = (finished t).blocks.modules in
    let r = (get_or ms n no_module).resource in of_marked ms r (of_kind r (take n ms)) ∙ kind_found ms n no_module low

all_get : (P : ModuleHead → Type 0) (ms : List ModuleHead) (n : ℕ) (d : ModuleHead) → AllByRecursion P ms → n < length ms → P (get_or ms n d)
all_get P [] n d all low = absurd (omega (arith, low))
all_get P (m ∷ ms) zero d all low = all.0
all_get P (m ∷ ms) (suc n) d all low = all_get P ms n d all.1 (omega (arith, low))

pub module_start : (t : ProgramTree) (n : ℕ) → IsLawful (forget_program t) → n < length (finished t).blocks.modules
    → (tops_of t).of_scope (module_at (finished t).blocks n).scope ≡ (module_at (finished t).blocks n).scope
module_start t n lawful low =
    let P = λ (m : ModuleHead). top_of t.parts m.scope ≡ m.scope in
    all_get P (finished t).blocks.modules n no_module
    (subst (λ (ms : List ModuleHead). AllByRecursion P ms) (sym (program_modules t lawful))
    (module_starts (λ j. top_of t.parts j) 1 t.parts (λ j some. top_start t.parts j some))) low
