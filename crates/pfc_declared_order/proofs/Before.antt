-- What was named before a part of a program was declared before it.
use Rattle.std.proofs.Common.{◌≡◌, ℕ, zero, suc, ◌+◌, ◌<◌, Bool, true, false, if◌then◌else◌, nat_lt, List, [], ◌∷◌, ◌++◌, length, length-append, get_or, map}
use Rattle.std.proofs.Common.{bytes_eq, Option, Some, None, refl, sym, ap, ◌∙◌, subst, arith}
use Rattle.std.specs.Option.{IfSome}
use Rattle.std.proofs.lemmas.Map.Entries.{All-lookup}
use Rattle.std.proofs.Math.ListN.{get_or-append}
use Rattle.pfc_tree.specs.Symbols.{Text}
use Rattle.pfc_tree.specs.trees.Parts.{PartTrees, ProgramTree, no_parts, more_parts}
use Rattle.pfc_tree.specs.forget.Parts.{forget_parts, forget_program}
use Rattle.pfc_tree.specs.lawful.Parts.{of_program, AreLawfulParts, IsLawful}
use Rattle.pfc_types.specs.Growing.{Begins}
use Rattle.pfc_types.specs.Scopes.{Names, Level, scope_at, here, meaning_in, position_in, within, meaning_of}
use Rattle.pfc_types.specs.Blocks.{State, no_sub, no_module, module_at}
use Rattle.pfc_types.specs.declared.scope.Meaning.{Meaning}
use Rattle.pfc_types.specs.declared.scope.Meaning.TheVariants.{Sub, Module}
use Rattle.pfc_types.specs.declared.heads.SubHead.{SubHead}
use Rattle.pfc_types.specs.declared.heads.ModuleHead.{ModuleHead}
use Rattle.pfc_types.specs.rules.Bodies.{level, part_scopes}
use Rattle.pfc_types.specs.rules.Declarations.{in_program, cells_rule, part_state, parts_state}
use Rattle.pfc_types.specs.rules.Whole.{begun, declared_parts, declared_all, main_cells, finished}
use Rattle.pfc_types.proofs.Prefixes.{begins_same, begins_trans, found_alike}
use Rattle.pfc_types.proofs.Walking.{held, note_kept}
use Rattle.pfc_types.proofs.WalkStatements.{body_opened}
use Rattle.pfc_types.proofs.WalkParts.{part_walked, parts_walked}
use Rattle.pfc_name_laws.specs.Reached.{IsNumbered, Reached, at_begin}
use Rattle.pfc_name_laws.proofs.Numbers.{numbered}
use Rattle.pfc_name_laws.proofs.Parts.{part_grown}
use Rattle.pfc_image_cells.proofs.Subs.{sub_scopes_in, note_same, body_same, parts_added}
use Rattle.pfc_declared_order.specs.Before.{IsBefore, AreBefore}
use Rattle.pfc_declared_order.proofs.Modules.{Longer, longer_same, longer_then, parts_longer}

-- ## What declarations come to

-- later names, subs and modules stand behind these
record Toward (s t : State) : Type 0 where
  names : Begins (scope_at (held s) 0) (scope_at (held t) 0)
  subs : Longer (sub_scopes_in s) (sub_scopes_in t)
  modules : Longer s.blocks.modules t.blocks.modules

toward_then : (s t u : State) → Toward s t → Toward t u → Toward s u
toward_then s t u h k =
    record {
      names = begins_trans (scope_at (held s) 0) (scope_at (held t) 0) (scope_at (held u) 0) h.names k.names;
      subs = longer_then (sub_scopes_in s) (sub_scopes_in t) (sub_scopes_in u) h.subs k.subs;
      modules = longer_then s.blocks.modules t.blocks.modules u.blocks.modules h.modules k.modules;
    }

-- ## Lists

abbrev first_number : List ℕ → ℕ
first_number [] = 0
first_number (n ∷ l) = n

abbrev rest_numbers : List ℕ → List ℕ
rest_numbers [] = []
rest_numbers (n ∷ l) = l

abbrev scopes_of_heads : List SubHead → List ℕ
scopes_of_heads l = map (λ (h : SubHead). h.scope) l

same_scope : (xs ys : List SubHead) (rest : List ℕ) (k : ℕ) → scopes_of_heads ys ≡ scopes_of_heads xs ++ rest → k < length xs
    → (get_or ys k no_sub).scope ≡ (get_or xs k no_sub).scope
same_scope [] ys rest k e low = absurd (omega (arith, low))
same_scope (x ∷ xs) [] rest k e low = absurd (cc)
same_scope (x ∷ xs) (y ∷ ys) rest zero e low = ap first_number e
same_scope (x ∷ xs) (y ∷ ys) rest (suc k) e low = same_scope xs ys rest k (ap rest_numbers e) (omega (arith, low))

more_subs : (xs ys : List SubHead) (rest : List ℕ) (k : ℕ) → scopes_of_heads ys ≡ scopes_of_heads xs ++ rest → k < length xs → k < length ys
more_subs [] ys rest k e low = absurd (omega (arith, low))
more_subs (x ∷ xs) [] rest k e low = absurd (cc)
more_subs (x ∷ xs) (y ∷ ys) rest zero e low = omega arith
more_subs (x ∷ xs) (y ∷ ys) rest (suc k) e low = (let below = more_subs xs ys rest k (ap rest_numbers e) (omega (arith, low)) in omega (arith, below))

-- ## Names

named_within : (l : Level) (p : Option ℕ) (m : Option Meaning) (n : Meaning) → meaning_of (within l p m) ≡ Some n → m ≡ Some n
named_within l None m n e = absurd (cc)
named_within l (Some k) None n e = absurd (cc)
named_within l (Some k) (Some m) n e = by (nat_lt k l.count) e
  where
    by : (b : Bool) → meaning_of (if b then Some (record { scope = Some l.scope; place = k; meaning = m }) else None) ≡ Some n → Some m ≡ Some n
    by true h = h
    by false h = absurd (cc)

module _ (s fin : State) (reached : Reached s) (on : Toward s fin) where
  -- a name that is counted stood there before
  named_then : (x : Text) (m : Meaning)
      → meaning_of (within (level 0 (length (scope_at (held s) 0))) (position_in (scope_at (held fin) 0) x) (meaning_in (scope_at (held fin) 0) x)) ≡ Some m
      → meaning_in (scope_at (held s) 0) x ≡ Some m
  named_then x m e =
      let l = level 0 (length (scope_at (held s) 0)) in
      named_within l (position_in (scope_at (held s) 0) x) (meaning_in (scope_at (held s) 0) x) m
      (subst (λ o. meaning_of o ≡ Some m) (found_alike l (scope_at (held s) 0) (scope_at (held fin) 0) x on.names (omega arith)) e)

  heading_there : (x : Text) (m : Meaning) → meaning_in (scope_at (held s) 0) x ≡ Some m → IsNumbered s.blocks 0 m
  heading_there x m e =
      subst (λ (o : Option Meaning). IfSome o (IsNumbered s.blocks 0)) e
      (All-lookup (IsNumbered s.blocks 0) (bytes_eq x) (scope_at (held s) 0) ((numbered s reached).names 0))

  is_before : IsBefore fin (length (scope_at (held s) 0)) (length (held s))
  is_before =
      record {
        subs = λ x k e.
            let low = heading_there x (Sub k) (named_then x (Sub k) e) in
            let own = (numbered s reached).subs k low in
            let same = same_scope s.blocks.subs fin.blocks.subs on.subs.more k on.subs.is low in
            (more_subs s.blocks.subs fin.blocks.subs on.subs.more k on.subs.is low, omega (arith, own, same));
        modules = λ x k e.
            let low = heading_there x (Module k) (named_then x (Module k) e) in
            let own = (numbered s reached).modules k low in
            let same : module_at fin.blocks k ≡ module_at s.blocks k =
            ap (λ (l : List ModuleHead). get_or l k no_module) on.modules.is ∙ get_or-append s.blocks.modules on.modules.more no_module k low in
            let scope = ap (λ (h : ModuleHead). h.scope) same in
            let count = ap (λ (l : List ModuleHead). length l) on.modules.is in
            let more = length-append s.blocks.modules on.modules.more in (omega (arith, low, count, more), omega (arith, own, scope));
      }

-- ## Parts

toward_parts : (s : State) (qs : PartTrees) → AreLawfulParts of_program (forget_parts qs) → 0 < length (held s) → Toward s (parts_state in_program s 0 [] qs)
toward_parts s qs lawful some =
    let added = parts_added in_program s 0 [] (length (held s)) qs refl some in
    record { names = (parts_walked in_program s 0 [] qs some).own; subs = record { more = _; is = added.subs }; modules = parts_longer s qs lawful }

parts_before :
    (s fin : State) (qs : PartTrees) → AreLawfulParts of_program (forget_parts qs) → Reached s → 0 < length (held s)
    → Toward (parts_state in_program s 0 [] qs) fin → AreBefore fin (length (scope_at (held s) 0)) (length (held s)) qs
parts_before s fin no_parts lawful reached some on = is_before s fin reached on
parts_before s fin (more_parts q qs) lawful reached some on =
    let next = part_state in_program s 0 [] q in
    let one = part_walked in_program s 0 [] q some in
    let c = one.count in
    let further : 0 < length (held next) = omega (arith, some, c) in
    let behind = toward_then next (parts_state in_program next 0 [] qs) fin (toward_parts next qs lawful.1 further) on in
    let rest = parts_before next fin qs lawful.1 (part_grown in_program s 0 [] q reached some).reached further on in (
      is_before s fin reached
          (toward_then s (parts_state in_program s 0 [] (more_parts q qs)) fin (toward_parts s (more_parts q qs) lawful some) on),
      subst (λ n. AreBefore fin n (length (held s) + part_scopes q) qs) (sym (one.counts (scope_at (held fin) 0) behind.names))
          (subst (λ n. AreBefore fin (length (scope_at (held next) 0)) n qs) c rest),
    )

-- ## The whole

toward_finished : (t : ProgramTree) → Toward (declared_parts t) (finished t)
toward_finished t =
    let s = declared_parts t in
    let all = declared_all t in
    let rule = cells_rule (main_cells all) t.name.1 in
    let view = here (held s) 0 [] in
    let opened = body_opened s view t.body in
    let kept = note_kept all rule in
    let some : 0 < length (held s) = (let walked = parts_walked in_program begun 0 [] t.parts (omega arith) in omega (arith, walked.count)) in
    let same : scope_at (held (finished t)) 0 ≡ scope_at (held s) 0 = ap (λ (l : List Names). scope_at l 0) kept.scopes ∙ opened.others 0 some in
    record {
      names = subst (λ (l : Names). Begins (scope_at (held s) 0) l) (sym same) (begins_same (scope_at (held s) 0));
      subs = longer_same _ _ ((note_same all rule).subs ∙ (body_same s view t.body).subs);
      modules = longer_same _ _ ((note_same all rule).modules ∙ (body_same s view t.body).modules);
    }

pub program_before : (t : ProgramTree) → IsLawful (forget_program t) → AreBefore (finished t) 0 1 t.parts
program_before t lawful = parts_before begun (finished t) t.parts lawful.0 at_begin (omega arith) (toward_finished t)
