-- Names in view are as the laws on standing code ask of them.
use Rattle.std.proofs.Common.{◌≡◌, ℕ, ◌+◌, ◌*◌, ◌^◌, ◌<◌, ◌≤◌, ℤ, pos, Bool, true, List, [], length, Option, Some, refl, sym, ap, ◌∙◌, subst, arith}
use Rattle.std.proofs.lemmas.List.{get_or_past}
use Rattle.std.proofs.lemmas.Option.{get_or_from_slice_get}
use Rattle.pfc_types.specs.declared.types.TypeId.{TypeId}
use Rattle.pfc_types.specs.declared.scope.Meaning.TheVariants.{Faulty}
use Rattle.pfc_types.specs.rules.Expressions.{Env}
use Rattle.pfc_semantics.specs.Values.{Selector, Location, path_of}
use Rattle.pfc_semantics.specs.Store.{Store}
use Rattle.pfc_semantics.specs.Displays.{Spot, Display, located}
use Rattle.pfc_semantics.specs.Programs.{Block}
use Rattle.pfc_translation.specs.Sites.{refers, is_reference, layout_with, place_of, type_cells}
use Rattle.pfc_stacks.specs.declared.refs.Ref.{Ref}
use Rattle.pfc_stacks.specs.Refs.{word_of}
use Rattle.pfc_stacks.specs.Stacks.{Stack, Stacks, no_stack, own_cells, cells_of}
use Rattle.pfc_cells.specs.Shapes.{AreCounted, here, IsPath}
use Rattle.pfc_cells.specs.Homes.{Homes, Lies, layout_at, cells_before}
use Rattle.pfc_cells.specs.Memory.{Entries, Lives, MemoryIs}
use Rattle.pfc_cells.proofs.Reading.{are_live}
use Rattle.pfc_standing_code.specs.Shapes.{IsSound, is_object_type}
use Rattle.pfc_standing_code.specs.Settings.{Setting, IsInTrial, IsBeside}
use Rattle.pfc_standing_code.specs.Typed.{IsDeclaredAt}
use Rattle.pfc_standing_code.specs.Words.{AreKnown, first_word, IsWordAt, names_at, IsInView, IsChecked}
use Rattle.pfc_views.specs.Views.{block_site, Sees, LiesAt, AreObjects, AreFew}
use Rattle.pfc_views.proofs.Named.{lies_in_view}

-- a process that has cells is one
is_process : (stacks : Stacks) (q : ℕ) → 0 < length (cells_of stacks q) → q < length stacks
is_process stacks q some = grind (arith, some, past)
  where
    past : length stacks ≤ q → length (cells_of stacks q) ≡ 0
    past h = ap (λ (s : Stack). length s.cells) (get_or_past stacks q no_stack h)

module _ (g : Setting) (homes : Homes) (entries : Entries) (store : Store) (keeps : ℕ → Bool) (display : Display) (b : Block)
    (w : ℤ) (chain : List ℕ) (stacks : Stacks)
    (counted : AreCounted g.program.state.forms) (sound : IsSound g.program.state.forms)
    (memory : MemoryIs g.program homes entries store stacks) (few : AreFew stacks)
    (objects : AreObjects g.program homes entries store g.number) (sees : Sees g.program homes entries store keeps display b g.accepts w chain g.view)
    (env : Env) (known : AreKnown g.program b g.accepts env) where
  word_whole : (v : Spot) (t : Option TypeId) → IsDeclaredAt (names_at g b env) v t →
      IsWordAt g.view (names_at g b env) v t (pos (first_word g.view (names_at g b env) (record v { selectors = [] }) + 0))
  word_whole v t d =
      record {
        whole = t;
        behind = 0;
        declared = record {
          seen = d.seen;
          own = d.own;
          meaning = d.meaning;
          laid = d.laid;
          variable = d.variable;
          typed = d.typed;
          whole = refl;
          named = d.named;
        };
        path = subst (λ (ss : List Selector). IsPath g.program.state.forms t (path_of ss) t 0) (sym d.whole) (here t);
        word = refl;
      }

  seen_in_view : (v : Spot) (t : Option TypeId) → IsDeclaredAt (names_at g b env) v t → IsInView g.view (names_at g b env) v
  seen_in_view v t d =
      let named = sees.names v d.meaning (known v.scope d.seen) d.own d.laid d.variable in
      let reference : refers (names_at g b env) v ≡ is_reference d.meaning =
      ap is_reference (get_or_from_slice_get (layout_with (block_site g.program b) v.scope)
      (place_of (block_site g.program b) v) d.meaning Faulty d.laid) in
      (named.reached, λ is. named.refers (sym reference ∙ is))

  whole_lies : (v : Spot) (t : Option TypeId) (x : ℤ) → IsWordAt g.view (names_at g b env) v t x → LiesAt g.program homes store keeps display v t x
  whole_lies v t x h = lies_in_view g.program counted homes entries store keeps display b g.accepts w chain g.view stacks memory sees env 0 v t x known h

  -- cells that are there have addresses
  is_placed : (l : Location) (t : Option TypeId) (r : Ref) (n : ℕ) → Lives entries l.activation → Lies g.program homes l t r → pos n ≡ word_of r →
      n + type_cells g.program.state.forms t < 2 ^ 42
  is_placed l t r n lives lies word =
      let there : r.cell + type_cells g.program.state.forms t ≤ length (cells_of stacks r.process) =
      are_live g.program counted homes entries store stacks l t r memory lives lies in
      let cell : r.cell ≡ lies.home.cell + own_cells + cells_before g.program.state.forms (layout_at g.program lies.home) l.variable + lies.behind =
      ap (λ (x : Ref). x.cell) lies.place in
      let process : r.process < length stacks = is_process stacks r.process (omega (arith, there, cell)) in
      let number : n ≡ r.process * 2 ^ 32 + r.cell = cc in
      omega (arith, number, there, process, few.cells r.process, few.processes)

  is_placed_word : (v : Spot) (t : Option TypeId) → IsDeclaredAt (names_at g b env) v t →
      first_word g.view (names_at g b env) v + type_cells g.program.state.forms t < 2 ^ 42
  is_placed_word v t d =
      let at = whole_lies v t _ (word_whole v t d) in
      let number : pos (first_word g.view (names_at g b env) v) ≡ word_of at.place = ap pos (omega (arith)) ∙ at.word in
      is_placed (located store display v) t at.place (first_word g.view (names_at g b env) v)
      (sees.live (located store display v).activation at.kept) at.lies number

  has_number : (v : Spot) (t : Option TypeId) (x : ℤ) → IsWordAt g.view (names_at g b env) v t x →
      is_object_type g.program.state.forms t ≡ true → (n : ℤ) × (g.number x ≡ Some n)
  has_number v t x h object =
      let at = whole_lies v t x h in
      let known_as = objects.known (located store display v) t at.place at.lies object in
      (known_as.0, ap g.number at.word ∙ known_as.1)

  pub names_checked : env.state ≡ g.program.state → IsBeside g g.block b → IsInTrial g.trial env → IsChecked g b env
  names_checked state beside tried =
      record {
        sound = sound;
        known = known;
        seen = seen_in_view;
        placed = is_placed_word;
        objects = has_number;
        state = state;
        beside = beside;
        tried = tried;
      }
