-- What the stacks hold where no cell changes, and behind a write.
use Rattle.std.proofs.Common.{◌≡◌, ◌≢◌, ℕ, ◌+◌, ◌-◌, ◌^◌, ◌<◌, ◌≤◌, ℤ, true, false, List, ◌++◌, length, take, drop, slice_get, Option, Some, sym, ap, ap₂, ◌∙◌}
use Rattle.std.proofs.Common.{subst, arith, length-append, ◌⊎◌, inl, inr}
use Rattle.std.proofs.lemmas.List.{get_or-set_same, get_or-set_other, get_or_past, length-set, length-take-le, length-drop}
use Rattle.pfc_types.specs.declared.types.TypeId.{TypeId}
use Rattle.pfc_semantics.specs.Values.{Value, Location, path_of}
use Rattle.pfc_semantics.specs.Store.{Store, stored}
use Rattle.pfc_translation.specs.Sites.{type_cells}
use Rattle.pfc_stacks.specs.declared.refs.Ref.{Ref}
use Rattle.pfc_stacks.specs.Stacks.{Stack, Stacks, own_cells, no_stack, stack_of, cells_of, with_words, written}
use Rattle.pfc_stacks.specs.Effects.{moved}
use Rattle.pfc_cells.specs.Shapes.{Fits, IsPath, here, words_of}
use Rattle.pfc_cells.specs.Homes.{Home, Homes, Lies, Begins, laid_type, layout_at, cells_before}
use Rattle.pfc_cells.specs.Memory.{Entries, Lives, ProcessIs}
use Rattle.pfc_cells.proofs.Words.{words_fit}
use Rattle.pfc_cells.proofs.Reading.{found, are_live, writes}
use Rattle.pfc_cells.proofs.Values.{value_kept}
use Rattle.pfc_standing_code.specs.Shapes as code
use Rattle.pfc_standing_code.specs.Shapes.{is_object_type}
use Rattle.pfc_standing_code.specs.Settings.{Setting}
use Rattle.pfc_views.specs.Views.{AreObjects, AreFew}
use Rattle.pfc_stack_laws.specs.Standing.{HoldStore}
use Rattle.pfc_stack_laws.proofs.Plain.{value_fits, part_plain, path_split, object_path}

pub either : (n m : ℕ) → (n ≡ m) ⊎ (n ≢ m)
either n m = grind arith

-- ## One process moves

pub cells_moved : (stacks : Stacks) (p at : ℕ) (ops : List ℤ) (q : ℕ) → p < length stacks → cells_of (moved stacks p at ops) q ≡ cells_of stacks q
cells_moved stacks p at ops q there = elim (either q p) [ inl h ↦ same h | inr h ↦ other h ]
  where
    same : q ≡ p → cells_of (moved stacks p at ops) q ≡ cells_of stacks q
    same h =
        ap (λ n. cells_of (moved stacks p at ops) n) h
        ∙ ap (λ (s : Stack). s.cells) (get_or-set_same stacks p (record (stack_of stacks p) { at = at; operands = ops }) no_stack there)
        ∙ ap (λ n. cells_of stacks n) (sym h)

    other : q ≢ p → cells_of (moved stacks p at ops) q ≡ cells_of stacks q
    other h = ap (λ (s : Stack). s.cells) (get_or-set_other stacks p q (record (stack_of stacks p) { at = at; operands = ops }) no_stack h)

pub same_cells :
    (g : Setting) (homes : Homes) (entries : Entries) (store : Store) (stacks stacks' : Stacks)
    → ((q : ℕ) → cells_of stacks' q ≡ cells_of stacks q) → length stacks' ≡ length stacks → HoldStore g homes entries store stacks →
    HoldStore g homes entries store stacks'
same_cells g homes entries store stacks stacks' same size hold =
    record {
      types = hold.types;
      memory = λ q. subst (λ ws. ProcessIs g.program homes store q (entries q) ws) (sym (same q)) (hold.memory q);
      few = record {
        cells = λ q. subst (λ (ws : List ℤ). length ws < 2 ^ 32) (sym (same q)) (hold.few.cells q);
        processes = subst (λ n. n ≤ 1024) (sym size) hold.few.processes;
      };
      objects = hold.objects;
    }

pub hold_moved :
    (g : Setting) (homes : Homes) (entries : Entries) (store : Store) (stacks : Stacks) (p at : ℕ) (ops : List ℤ) → p < length stacks
    → HoldStore g homes entries store stacks → HoldStore g homes entries store (moved stacks p at ops)
hold_moved g homes entries store stacks p at ops there hold =
    same_cells g homes entries store stacks (moved stacks p at ops) (λ q. cells_moved stacks p at ops q there)
    (length-set stacks p (record (stack_of stacks p) { at = at; operands = ops })) hold

-- ## A write

words_there : (cells words : List ℤ) (k : ℕ) → k + length words ≤ length cells → length (with_words cells k words) ≡ length cells
words_there cells words k fit =
    let front : length (take k cells) ≡ k = length-take-le k cells (omega (arith, fit)) in
    let back : length (drop (k + length words) cells) ≡ length cells - (k + length words) = length-drop (k + length words) cells in
    let all : length (with_words cells k words) ≡ length (take k cells ++ words) + length (drop (k + length words) cells) =
    length-append (take k cells ++ words) (drop (k + length words) cells) in
    let inner : length (take k cells ++ words) ≡ length (take k cells) + length words = length-append (take k cells) words in
    omega (arith, front, back, all, inner, fit)

length_written : (stacks : Stacks) (r : Ref) (words : List ℤ) (q : ℕ) → r.process < length stacks → r.cell + length words ≤ length (cells_of stacks r.process) →
    length (cells_of (written stacks r words) q) ≡ length (cells_of stacks q)
length_written stacks r words q there fit = elim (either q r.process) [ inl h ↦ same h | inr h ↦ other h ]
  where
    same : q ≡ r.process → length (cells_of (written stacks r words) q) ≡ length (cells_of stacks q)
    same h =
        ap (λ n. length (cells_of (written stacks r words) n)) h
        ∙ ap (λ (s : Stack). length s.cells) (get_or-set_same stacks r.process (record (stack_of stacks r.process) {
          cells =
              with_words (cells_of stacks r.process) r.cell words;
        }) no_stack there)
        ∙ words_there (cells_of stacks r.process) words r.cell fit ∙ ap (λ n. length (cells_of stacks n)) (sym h)

    other : q ≢ r.process → length (cells_of (written stacks r words) q) ≡ length (cells_of stacks q)
    other h = ap (λ (s : Stack). length s.cells) (get_or-set_other stacks r.process q (record (stack_of stacks r.process) {
      cells =
          with_words (cells_of stacks r.process) r.cell words;
    }) no_stack h)

-- a process that has cells is one
is_process : (stacks : Stacks) (q : ℕ) → 0 < length (cells_of stacks q) → q < length stacks
is_process stacks q some = grind (arith, some, past)
  where
    past : length stacks ≤ q → length (cells_of stacks q) ≡ 0
    past h = ap (λ (s : Stack). length s.cells) (get_or_past stacks q no_stack h)

some_same : {A : Type 0} (x y : A) → Some x ≡ Some y → x ≡ y
some_same x y h = cc

module _ (g : Setting) (homes : Homes) (entries : Entries) (store : Store) (stacks : Stacks) (hold : HoldStore g homes entries store stacks)
    (l : Location) (t : TypeId) (r : Ref) (v : Value)
    (lives : Lives entries l.activation) (lies : Lies g.program homes l (Some t) r) (is : code.IsOf g.program.state.forms t v) where
  fits : Fits g.program.state.forms (Some t) v
  fits = value_fits g.program.state.forms hold.types is

  -- an object is no part of what is written, and what is written is no part of an object
  no_object_within : (m : Location) (u : Option TypeId) (x : Ref) → Lies g.program homes m u x → is_object_type g.program.state.forms u ≡ true → Begins l m → ⊥
  no_object_within m u x other object begins =
      let home : lies.home ≡ other.home = some_same lies.home other.home (sym lies.is.at ∙ ap homes begins.0 ∙ other.is.at) in
      let meaning : lies.is.meaning ≡ other.is.meaning =
      some_same lies.is.meaning other.is.meaning (sym lies.is.laid ∙
      ap₂ (λ (h : Home) (k : ℕ). slice_get (layout_at g.program h) k) home begins.1 ∙ other.is.laid) in
      let path : IsPath g.program.state.forms (laid_type lies.is.meaning) (path_of m.selectors) u other.behind =
      subst (λ y. IsPath g.program.state.forms (laid_type y) (path_of m.selectors) u other.behind) (sym meaning) other.is.path in
      let rest = path_split g.program.state.forms hold.types begins.2.1 lies.is.path path in
      let plain : is_object_type g.program.state.forms u ≡ false = part_plain g.program.state.forms hold.types is rest.1 in
      cc

  no_object_around : (m : Location) (u : Option TypeId) (x : Ref) → Lies g.program homes m u x → is_object_type g.program.state.forms u ≡ true → Begins m l → ⊥
  no_object_around m u x other object begins =
      let home : lies.home ≡ other.home = some_same lies.home other.home (sym lies.is.at ∙ ap homes (sym begins.0) ∙ other.is.at) in
      let meaning : lies.is.meaning ≡ other.is.meaning =
      some_same lies.is.meaning other.is.meaning (sym lies.is.laid ∙
      ap₂ (λ (h : Home) (k : ℕ). slice_get (layout_at g.program h) k) home (sym begins.1) ∙ other.is.laid) in
      let path : IsPath g.program.state.forms (laid_type other.is.meaning) (path_of l.selectors) (Some t) lies.behind =
      subst (λ y. IsPath g.program.state.forms (laid_type y) (path_of l.selectors) (Some t) lies.behind) meaning lies.is.path in
      let rest = path_split g.program.state.forms hold.types begins.2.1 other.is.path path in
      let still : is_object_type g.program.state.forms (Some t) ≡ true = object_path g.program.state.forms hold.types object rest.1 in
      let plain : is_object_type g.program.state.forms (Some t) ≡ false = part_plain g.program.state.forms hold.types is (here (Some t)) in
      cc

  objects_written : AreObjects g.program homes entries (stored store l v) g.number
  objects_written =
      record {
        known = λ m u x other object. (
            let old = hold.objects.known m u x other object in (
              old.0,
              old.1,
              value_kept store l m v (found g.program hold.types.counted homes entries store stacks l (Some t) r hold.memory lives lies).there
                  (no_object_within m u x other object, no_object_around m u x other object) ∙ old.2,
            ));
        only = hold.objects.only;
      }

  few_written : AreFew (written stacks r (words_of v))
  few_written =
      let there : r.cell + type_cells g.program.state.forms (Some t) ≤ length (cells_of stacks r.process) =
      are_live g.program hold.types.counted homes entries store stacks l (Some t) r hold.memory lives lies in
      let size : length (words_of v) ≡ type_cells g.program.state.forms (Some t) = words_fit g.program.state.forms hold.types.counted (Some t) v fits in
      let cell : r.cell ≡ lies.home.cell + own_cells + cells_before g.program.state.forms (layout_at g.program lies.home) l.variable + lies.behind =
      ap (λ (x : Ref). x.cell) lies.place in
      let process : r.process < length stacks = is_process stacks r.process (omega (arith, there, cell)) in
      let inside : r.cell + length (words_of v) ≤ length (cells_of stacks r.process) = omega (arith, there, size) in
      record {
        cells = λ q. subst (λ n. n < 2 ^ 32) (sym (length_written stacks r (words_of v) q process inside)) (hold.few.cells q);
        processes = subst (λ n. n ≤ 1024)
            (sym (length-set stacks r.process (record (stack_of stacks r.process) {
              cells =
                  with_words (cells_of stacks r.process) r.cell (words_of v);
            }))) hold.few.processes;
      }

  pub hold_written : HoldStore g homes entries (stored store l v) (written stacks r (words_of v))
  hold_written =
      record {
        types = hold.types;
        memory = writes g.program hold.types.counted homes entries store stacks l (Some t) r v hold.memory lives lies fits;
        few = few_written;
        objects = objects_written;
      }
