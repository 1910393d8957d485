-- The blocks of a lawful program.
use Rattle.pfc_standing_code.specs.Words.{is_known}
use Rattle.std.proofs.Common.{◌≡◌, ℕ, zero, suc, ◌+◌, ◌<◌, Bool, true, false, ◌||◌, if◌then◌else◌, List, [], ◌∷◌, length, slice_get, Option, Some, None, refl}
use Rattle.std.proofs.Common.{sym, ap, ◌∙◌, subst, arith, inl, inr, take, drop}
use Rattle.std.specs.Prelude.{◌==◌, position, unwrap_or}
use Rattle.std.specs.List.{list_any}
use Rattle.std.proofs.lemmas.List.Elements.{All-get_or}
use Rattle.std.proofs.lemmas.Option.{slice_get_within, get_or_from_slice_get}
use Rattle.pfc_tree.specs.trees.Stmts.{BodyTree, body}
use Rattle.pfc_tree.specs.trees.Parts.{ProgramTree}
use Rattle.pfc_tree.specs.forget.Parts.{forget_program}
use Rattle.pfc_tree.specs.lawful.Parts.{IsLawful}
use Rattle.pfc_types.specs.Blocks.{State}
use Rattle.pfc_types.specs.Scopes.{scope_at}
use Rattle.pfc_types.specs.rules.Expressions.{Env}
use Rattle.pfc_types.specs.rules.Whole.{finished}
use Rattle.pfc_types.specs.rules.Bodies.{parts_scopes}
use Rattle.pfc_semantics.specs.Layouts.{Layout, main_layout, process_layout}
use Rattle.pfc_semantics.specs.Programs.{Block, Guard, Program, block_of, env_of_main, found_block, block_at, program_of}
use Rattle.pfc_translation.specs.Sites.{is_mains, linked, level_of, links_from, is_accept}
use Rattle.pfc_image_laws.specs.Levels.{sees, IsReached}
use Rattle.pfc_image_laws.specs.Modules.{modules_from}
use Rattle.pfc_image_laws.proofs.Levels.{main_reached, blocks_reached}
use Rattle.pfc_image_laws.proofs.Modules.{program_modules}
use Rattle.pfc_call_laws.specs.Around.{scopes_around, HasScopes, IsNested}
use Rattle.pfc_call_laws.proofs.Places.{or_cases}
use Rattle.pfc_call_laws.proofs.Displays.{is_other, any_at, not_accept}
use Rattle.pfc_nesting_laws.specs.Nesting.{AreOnce}
use Rattle.pfc_nesting_laws.proofs.Numbered.{Every, every_at, linked_below, linked_once, Numbered, parts_numbered}
use Rattle.pfc_nesting_laws.proofs.Apart.{AreApart, parts_apart, found_apart, IsClear, parts_clear, not_mains}
use Rattle.pfc_nesting_laws.proofs.Layouts.{IsLaid, parts_laid}
use Rattle.pfc_nesting_laws.proofs.Chains.{nested}

some_same : {A : Type 0} (x y : A) → Some x ≡ Some y → x ≡ y
some_same x y h = cc

bit_false : (c : Bool) → (c ≡ true → ⊥) → c ≡ false
bit_false true h = absurd (h refl)
bit_false false h = refl

-- main's block
main_accepts : (scope outer : ℕ) (env : Env) (next : ℕ) (b : BodyTree) (layout : Layout) (accepts : ℕ) (guard : Option Guard)
    → (block_of scope outer env next b layout accepts guard).accepts ≡ accepts
main_accepts scope outer env next (body ss from to) layout accepts guard = refl

main_env_is : (scope outer : ℕ) (env : Env) (next : ℕ) (b : BodyTree) (layout : Layout) (accepts : ℕ) (guard : Option Guard)
    → (block_of scope outer env next b layout accepts guard).env ≡ env
main_env_is scope outer env next (body ss from to) layout accepts guard = refl

found_none : (bs : List Block) (other : Block) (from to : ℕ) → 0 < from → Every (Numbered from to) bs → found_block bs 0 other ≡ other
found_none [] other from to some h = refl
found_none (b ∷ bs) other from to some h =
    ap (λ (c : Bool). if c then b else found_block bs 0 other) (is_other b.scope 0 (λ e. (let low = h.0.low in omega (arith, low, some, e))))
    ∙ found_none bs other from to some h.1

module _ (t : ProgramTree) (lawful : IsLawful (forget_program t)) where
  abbrev g : Program
  g = program_of t

  abbrev s : State
  s = finished t

  numbered : Every (Numbered 1 (1 + parts_scopes t.parts)) g.blocks
  numbered = parts_numbered s false 0 0 [] 1 t.parts (omega arith) tt

  apart : AreApart g.blocks
  apart = parts_apart s false 0 0 [] 1 t.parts (omega arith) tt

  clear : Every (IsClear (modules_from 1 t.parts)) g.blocks
  clear = parts_clear s false 0 0 [] 1 t.parts (omega arith) tt

  -- ## A block

  module _ (k : ℕ) (b : Block) (at : slice_get g.blocks k ≡ Some b) where
    its_numbers : Numbered 1 (1 + parts_scopes t.parts) b
    its_numbers = every_at (Numbered 1 (1 + parts_scopes t.parts)) g.blocks k b numbered at

    is_clear : IsClear (modules_from 1 t.parts) b
    is_clear = every_at (IsClear (modules_from 1 t.parts)) g.blocks k b clear at

    pub by_scope : block_at g b.scope ≡ b
    by_scope = found_apart g.blocks g.main k b apart at

    pub own_not_mains : is_mains s.blocks b.scope ≡ false
    own_not_mains = not_mains s.blocks (modules_from 1 t.parts) b.scope (program_modules t lawful) is_clear.own
        (let low = its_numbers.low in omega (arith, low))

    pub once : AreOnce (scopes_around g b)
    once = linked_once s.blocks (b.scope + 1) b.env.view its_numbers.below

    pub no_accept : (i : ℕ) → is_known s.blocks b [] i ≡ true → is_accept b i ≡ false
    no_accept i known = bit_false (is_accept b i) (λ h. not_both h)
      where
        not_both : is_accept b i ≡ true → ⊥
        not_both h =
            elim (or_cases (is_mains s.blocks i) (list_any (λ j. j == i) (linked s.blocks b.env.view) || list_any (λ j. j == i) []) known) [
              | inl m ↦ main h m
              | inr rest ↦ elim (or_cases (list_any (λ j. j == i) (linked s.blocks b.env.view)) (list_any (λ j. j == i) []) rest)
                  [ inl x ↦ around h x | inr x ↦ nothing x ]
            ]
          where
            over : is_accept b i ≡ true → b.scope < i
            over h = (its_numbers.accepts i h).0

            main : is_accept b i ≡ true → is_mains s.blocks i ≡ true → ⊥
            main h m =
                let low = over h in
                let no : is_mains s.blocks i ≡ false = not_mains s.blocks (modules_from 1 t.parts) i (program_modules t lawful) (is_clear.accepts i h)
                (omega (arith, low)) in
                let both : true ≡ false = sym m ∙ no in
                cc

            around : is_accept b i ≡ true → list_any (λ j. j == i) (linked s.blocks b.env.view) ≡ true → ⊥
            around h x =
                let place = any_at i (linked s.blocks b.env.view) x in
                let few = linked_below s.blocks (b.scope + 1) b.env.view place.0 i its_numbers.below place.1 in
                let low = over h in
                omega (arith, few, low)

            nothing : list_any (λ j. j == i) [] ≡ true → ⊥
            nothing x = cc

    pub has_scopes : HasScopes g b
    has_scopes = record { by_scope = by_scope; no_accept = no_accept }

    pub is_laid : (i : ℕ) → is_accept b i ≡ true → b.layout ≡ process_layout (scope_at s.blocks.scopes b.scope) (take b.accepts (drop b.next s.blocks.scopes))
    is_laid i accept = every_at (IsLaid s) g.blocks k b (parts_laid s false 0 0 [] 1 t.parts) at i accept

    pub reached : IsReached g b
    reached =
        subst (λ (x : Block). IsReached g x) (get_or_from_slice_get g.blocks k b g.main at)
        (All-get_or (λ (x : Block). IsReached g x) g.blocks k g.main (slice_get_within g.blocks k b at) (blocks_reached t lawful))

  -- ## Main

  pub main_alone : scopes_around g g.main ≡ []
  main_alone = ap (λ (e : Env). linked s.blocks e.view) (main_env_is 0 0 (env_of_main s) (1 + parts_scopes t.parts) t.body
      (main_layout s.blocks (scope_at s.blocks.scopes 0)) 0 None)

  pub main_has_none : (i : ℕ) → is_accept g.main i ≡ false
  main_has_none i = not_accept g.main i (main_accepts 0 0 (env_of_main s) (1 + parts_scopes t.parts) t.body
      (main_layout s.blocks (scope_at s.blocks.scopes 0)) 0 None)

  pub main_found : block_at g 0 ≡ g.main
  main_found = found_none g.blocks g.main 1 (1 + parts_scopes t.parts) (omega arith) numbered

  main_once : AreOnce (scopes_around g g.main)
  main_once = subst AreOnce (sym main_alone) none_once
    where
      none_once : AreOnce []
      none_once i j k x y = absurd (cc)

  -- ## A call

  pub nested_in : (j k : ℕ) (b callee : Block) → slice_get (g.main ∷ g.blocks) j ≡ Some b → slice_get g.blocks k ≡ Some callee
      → (is_mains s.blocks callee.outer || sees b.env.view callee.outer) ≡ true
      → IsNested g b callee (links_from s.blocks b callee.outer)
  nested_in zero k b callee at at_callee seen =
      subst (λ (x : Block). IsNested g x callee (links_from s.blocks x callee.outer)) (some_same g.main b at)
      (nested g g.main callee (main_reached t) (reached k callee at_callee) (by_scope k callee at_callee) (own_not_mains k callee at_callee) main_once
      (once k callee at_callee)
      (subst (λ (x : Block). (is_mains s.blocks callee.outer || sees x.env.view callee.outer) ≡ true) (sym (some_same g.main b at)) seen)
      (λ i known. main_has_none i))
  nested_in (suc j) k b callee at at_callee seen =
      nested g b callee (reached j b at) (reached k callee at_callee) (by_scope k callee at_callee) (own_not_mains k callee at_callee) (once j b at)
      (once k callee at_callee) seen (no_accept j b at)

  -- from main's code what is declared in one of main's scopes is next to it
  module _ (b : Block) (b_alone : scopes_around g b ≡ []) (b_accepts : (i : ℕ) → is_accept b i ≡ false) (k : ℕ) (callee : Block)
      (at : slice_get g.blocks k ≡ Some callee)
      (outer_mains : is_mains s.blocks callee.outer ≡ true) where
    no_links : links_from s.blocks g.main callee.outer ≡ 0
    no_links =
        ap (λ (c : Bool). if c then level_of s.blocks g.main else unwrap_or (position (λ j. j == callee.outer) (linked s.blocks g.main.env.view)) 0)
        outer_mains ∙ ap length main_alone

    from_main : IsNested g g.main callee 0
    from_main =
        subst (λ n. IsNested g g.main callee n) no_links
        (nested_in 0 k g.main callee refl at (ap (λ (c : Bool). c || sees g.main.env.view callee.outer) outer_mains))

    nowhere : (xs : List ℕ) (j i : ℕ) → xs ≡ [] → slice_get xs j ≡ Some i → ⊥
    nowhere [] j i e h = cc
    nowhere (x ∷ xs) j i e h = cc

    pub nested_in_mains : IsNested g b callee 0
    nested_in_mains =
        record {
          around = from_main.around ∙ ap (λ xs. callee.scope ∷ xs) (main_alone ∙ sym b_alone);
          within = omega arith;
          inner = λ i h. absurd (nowhere (scopes_around g b) 0 i b_alone h);
          outermost = λ h. outer_mains;
          once = λ i j n x y. absurd (nowhere (scopes_around g b) j i b_alone x);
          new = λ j h. absurd (nowhere (scopes_around g b) j callee.scope b_alone h);
          no_accept = λ i known. b_accepts i;
        }
