-- A process at one of its accepts: it is in its first activation, which stands for the block of its declaration.
use Rattle.std.proofs.Common.{◌≡◌, ◌≢◌, ℕ, zero, suc, ◌+◌, ◌*◌, ◌^◌, ◌<◌, ◌≤◌, ◌==◌, ℤ, pos, Bool, true, false, if◌then◌else◌, List, [], ◌∷◌, ◌++◌, length}
use Rattle.std.proofs.Common.{drop, slice_get, get_or, Some, None, unwrap_or, refl, sym, ap, ◌∙◌, subst, arith, length-append, ◌⊎◌, inl, inr}
use Rattle.std.specs.Prelude.{position}
use Rattle.std.specs.List.{list_any}
use Rattle.pfc_code.specs.declared.instructions.Instr.TheVariants.{END, RET, RETF}
use Rattle.pfc_types.specs.Blocks.{process_at, entry_at}
use Rattle.pfc_world.specs.Tables.{Table}
use Rattle.pfc_semantics.specs.Layouts.{sub_with}
use Rattle.pfc_semantics.specs.Processes.{declaration_of, process_block}
use Rattle.pfc_semantics.specs.Programs.{Block, Program, block_at}
use Rattle.pfc_semantics.specs.Remainders.{Context}
use Rattle.pfc_semantics.specs.Store.{Store}
use Rattle.pfc_semantics.specs.Configurations.{Mark, of_nobody, of_remainder, of_value, Caller, Activation, Config, activity_of}
use Rattle.pfc_translation.specs.Images.{end_of}
use Rattle.pfc_translation.specs.Sites.{Site, is_mains, linked, links_to}
use Rattle.pfc_stacks.specs.declared.refs.Ref.{Ref}
use Rattle.pfc_stacks.specs.Refs.{word_of, ref_of}
use Rattle.pfc_stacks.specs.Stacks.{stack_of, cells_of, last_activation, link_place}
use Rattle.pfc_stacks.specs.Activations.{main_link}
use Rattle.pfc_cells.specs.Homes.{Home, Homes, layout_at}
use Rattle.pfc_cells.specs.Memory.{Entry, Entries}
use Rattle.pfc_machines.specs.declared.machine.Machine.{Machine}
use Rattle.pfc_machines.specs.Communications.{Communicating}
use Rattle.pfc_machines.specs.Descriptors.{descriptor_of}
use Rattle.pfc_standing_code.specs.Settings.{Trial, of_own, IsMains, IsBeside, same_block, both_mains}
use Rattle.pfc_standing_code.specs.Performs.{own_block}
use Rattle.pfc_standing_code.specs.TypedStatements.{AcceptsEntry}
use Rattle.pfc_standing_code.specs.Words.{IsChecked, is_known}
use Rattle.pfc_views.specs.Views.{own_place, IsLiving, latest, earlier, IsKept, AreLinked, block_site}
use Rattle.pfc_views.proofs.Living.{own_of}
use Rattle.pfc_views.proofs.Links.{ref_back, link_is}
use Rattle.pfc_call_laws.specs.Around.{HasScopes, IsNested, scopes_around}
use Rattle.pfc_call_laws.proofs.Displays.{is_same, same_of, place_of_scope, no_place, linked_not_mains, any_at, at_any}
use Rattle.pfc_call_laws.proofs.Places.{or_left, or_right}
use Rattle.pfc_nesting_laws.proofs.Programs.{has_scopes, nested_in_mains, main_alone, main_has_none}
use Rattle.pfc_representation.specs.Levels.{Facts, program_in, LivingLevel, block_of}
use Rattle.pfc_representation.specs.Callers.{GoesBack, ending_of, first_block, IsFirst, AreCallers}
use Rattle.pfc_representation.specs.Hands.{entry_formals}
use Rattle.pfc_representation.specs.Holding.{holders_in}
use Rattle.pfc_representation.specs.Machines.{AreAlike}
use Rattle.pfc_representation.specs.Processes.{IsAtLevel}
use Rattle.pfc_kept_messages.proofs.Sight.{same_program}
use Rattle.pfc_kept_meetings.specs.Accepts.{IsProcessBlock, HasProcesses}

bit_false : (c : Bool) → (c ≡ true → ⊥) → c ≡ false
bit_false true h = absurd (h refl)
bit_false false h = refl

some_same : {A : Type 0} (x y : A) → Some x ≡ Some y → x ≡ y
some_same x y h = cc

-- one scope is the first
only_place : (s j : ℕ) → unwrap_or (position (λ n. n == j) (s ∷ [])) 0 ≡ 0
only_place s j = by_test (s == j) refl
  where
    least : (n : ℕ) → 0 ≤ n
    least n = grind arith

    by_test : (t : Bool) → (s == j) ≡ t → unwrap_or (position (λ n. n == j) (s ∷ [])) 0 ≡ 0
    by_test true is = place_of_scope (s ∷ []) 0 j (ap (λ n. Some n) (same_of s j is)) (λ n there. least n)
    by_test false is = no_place (s ∷ []) j other
      where
        other : (k : ℕ) → slice_get (s ∷ []) k ≡ Some j → ⊥
        other zero there = (let both : true ≡ false = sym (is_same s j (some_same s j there)) ∙ is in (let none : ⊥ = cc in none))
        other (suc k) there = (let no : None ≡ Some j = there in (let none : ⊥ = cc in none))

not_living : (f : Entry) (es : List Entry) → es ≡ [] → IsLiving f es → ⊥
not_living f _ same (latest below) = (let no : f ∷ below ≡ [] = same in cc)
not_living f _ same (earlier other below there) = (let no : other ∷ below ≡ [] = same in cc)

one_living : (f e : Entry) (es : List Entry) → es ≡ e ∷ [] → IsLiving f es → f ≡ e
one_living f e _ same (latest below) = (let both : f ∷ below ≡ e ∷ [] = same in cc)
one_living f e _ same (earlier other below there) =
    absurd (not_living f below (let both : other ∷ below ≡ e ∷ [] = same in cc) there)

-- ## One activation

module _ (facts : Facts) (homes : Homes) (entries : Entries) (store : Store) (table : Table) (q room : ℕ) (level : LivingLevel) (w : ℤ)
    (latest_made : Communicating) where
  pub record IsOnly (xs : List Activation) (es : List Entry) : Type 0 where
    pub activation : Activation
    pub entry : Entry
    pub activations : xs ≡ activation ∷ []
    pub entries_are : es ≡ entry ∷ []
    pub first : IsFirst facts homes store q room level w latest_made activation entry

  ends : (c : Caller) → ending_of c ≡ END → c ≡ of_nobody
  ends of_nobody is = refl
  ends (of_remainder env k) is = absurd (let no : RET ≡ END = is in (let none : ⊥ = cc in none))
  ends (of_value x u) is = absurd (let no : RETF ≡ END = is in (let none : ⊥ = cc in none))

  pub only_one : (xs : List Activation) (es : List Entry) → sub_with level.setting.program.state.blocks.subs (block_of level).scope ≡ None
      → AreCallers facts homes entries store table q room level w latest_made xs es → IsOnly xs es
  only_one [] es none is = absurd is
  only_one (a ∷ xs) [] none is = absurd is
  only_one (a ∷ []) (e ∷ []) none is = record { activation = a; entry = e; activations = refl; entries_are = refl; first = is }
  only_one (a ∷ []) (e ∷ f ∷ es) none is = absurd is
  only_one (a ∷ b ∷ xs) (e ∷ []) none is = absurd is
  only_one (a ∷ b ∷ xs) (e ∷ f ∷ es) none (outer, v, earlier_made, called, within, others) =
      let last : ending_of a.caller ≡ END = sym called.stands.last ∙ called.stands.of_block.last ∙ ap end_of none in
      absurd (goes_nowhere outer called.own.address level.setting.under a.mark a.caller (ends a.caller last) called.back)
    where
      goes_nowhere : (outer : LivingLevel) (back : ℕ) (under : List ℤ) (mark : Mark) (caller : Caller) → caller ≡ of_nobody
          → GoesBack facts outer back under mark caller → ⊥
      goes_nowhere outer back under mark caller is h = (let none : ⊥ = subst (λ (y : Caller). GoesBack facts outer back under mark y) is h in none)

-- ## Its block

module _ (facts : Facts) (m : Machine) (c : Config) (homes : Homes) (entries : Entries) (alike : AreAlike facts homes entries m c) (q : ℕ) (level : LivingLevel)
    (stands : IsAtLevel facts homes entries c.store m.stacks c.table (holders_in facts c) q (activity_of (program_in facts) c q)
    (descriptor_of m.descriptors q) level)
    (own : level.setting.trial ≡ of_own) (there : q < length c.activities) (processes : HasProcesses facts.tree) (b : Block) (x : Context)
    (checked : IsChecked level.setting b x.env) (entry i : ℕ) (accepts : AcceptsEntry level.setting.program.state.blocks b.scope entry i) where
  abbrev g : Program
  g = program_in facts

  abbrev w : ℤ
  w = word_of (last_activation m.stacks q)

  abbrev here : Site
  here = block_site g b

  program_is : level.setting.program ≡ g
  program_is = same_program facts m c homes entries alike q (descriptor_of m.descriptors q) level stands own

  pub known : AcceptsEntry g.state.blocks b.scope entry i
  known = subst (λ (y : Program). AcceptsEntry y.state.blocks b.scope entry i) program_is accepts

  named_block : IsProcessBlock g known.process (block_at g (process_at g.state.blocks known.process).scope)
  named_block = processes.blocks known.process known.among

  no_body : (j : ℕ) (y : Block) → slice_get (g.main ∷ g.modules) j ≡ Some y → y.scope ≢ b.scope
  no_body j y is same = named_block.no_body j y is (same ∙ sym known.own ∙ sym named_block.scope)

  beside_is : (y : Block) → IsBeside level.setting level.setting.block y → y.scope ≡ b.scope → level.setting.block ≡ y
  beside_is _ same_block same = refl
  beside_is _ (both_mains y one two) same =
      absurd (no_body two.0 y (ap (λ (z : Program). slice_get (z.main ∷ z.modules) two.0) (sym program_is) ∙ two.1) same)

  pub setting_block : level.setting.block ≡ b
  setting_block = beside_is b checked.beside refl

  pub beside_same : (y : Block) → IsBeside level.setting level.setting.block y → y ≡ b
  beside_same _ same_block = setting_block
  beside_same _ (both_mains y one two) =
      absurd
      (no_body one.0 b (ap (λ (z : Program). slice_get (z.main ∷ z.modules) one.0) (sym program_is) ∙ one.1 ∙ ap (λ (z : Block). Some z) setting_block) refl)

  pub no_main : IsMains level.setting b → ⊥
  no_main mains = no_body mains.0 b (ap (λ (z : Program). slice_get (z.main ∷ z.modules) mains.0) (sym program_is) ∙ mains.1) refl

  pub beside_b : (y : Block) → IsBeside level.setting b y → y ≡ b
  beside_b _ same_block = refl
  beside_b _ (both_mains y one two) = absurd (no_main one)

  pub block_is : block_of level ≡ b
  block_is = ap (λ (t : Trial). own_block t level.setting.block) own ∙ setting_block

  no_sub : sub_with level.setting.program.state.blocks.subs (block_of level).scope ≡ None
  no_sub =
      ap (λ (y : Program). sub_with y.state.blocks.subs (block_of level).scope) program_is ∙ ap (λ (y : Block). sub_with g.state.blocks.subs y.scope) block_is
      ∙ ap (λ j. sub_with g.state.blocks.subs j) (sym (named_block.scope ∙ known.own)) ∙ named_block.no_sub

  pub only : IsOnly facts homes entries c.store c.table q (stack_of m.stacks q).room level w (descriptor_of m.descriptors q).communications
      (activity_of g c q).activations (entries q)
  only =
      only_one facts homes entries c.store c.table q (stack_of m.stacks q).room level w (descriptor_of m.descriptors q).communications
      (activity_of g c q).activations (entries q) no_sub stands.callers

  abbrev pub a : Activation
  a = only.activation

  abbrev pub e : Entry
  e = only.entry

  abbrev pub first : IsFirst facts homes c.store q (stack_of m.stacks q).room level w (descriptor_of m.descriptors q).communications a e
  first = only.first

  numbered : (j : ℕ) → b ≡ first_block g j → (0 < j) × (b ≡ process_block g j)
  numbered zero is = absurd (no_body 0 g.main refl (ap (λ (y : Block). y.scope) (sym is)))
  numbered (suc j) is = (grind arith, is)

  by_number : (0 < q) × (b ≡ process_block g q)
  by_number = numbered q (sym block_is ∙ first.block)

  pub child : 0 < q
  child = by_number.0

  declared : declaration_of g q < length g.state.blocks.processes
  declared = processes.declared q child (subst (λ n. q < n) alike.words.processes there)

  pub of_process : IsProcessBlock g (declaration_of g q) b
  of_process = subst (λ (y : Block). IsProcessBlock g (declaration_of g q) y) (sym by_number.1) (processes.blocks (declaration_of g q) declared)

  pub process_is : b ≡ process_block g q
  process_is = by_number.1

  declaration_is : known.process ≡ declaration_of g q
  declaration_is = processes.once known.process (declaration_of g q) known.among declared (known.own ∙ of_process.scope)

  pub formals_are : entry_at g.state.blocks known.process entry ≡ entry_formals g q entry
  formals_are = ap (λ n. entry_at g.state.blocks n entry) declaration_is

  pub in_blocks : slice_get g.blocks first.own.block ≡ Some b
  in_blocks = by_place first.stands.is.2
    where
      by_place : (slice_get g.blocks first.own.block ≡ Some (block_of level)) ⊎ ((first.own.block ≡ length g.blocks) × (block_of level ≡ g.main))
          → slice_get g.blocks first.own.block ≡ Some b
      by_place (inl is) = is ∙ ap (λ (y : Block). Some y) block_is
      by_place (inr (last, is)) = absurd (no_body 0 g.main refl (ap (λ (y : Block). y.scope) (sym is ∙ block_is)))

  pub scopes : HasScopes g b
  scopes = has_scopes facts.tree alike.program.lawful first.own.block b in_blocks

  nested : IsNested g g.main b 0
  nested =
      nested_in_mains facts.tree alike.program.lawful g.main (main_alone facts.tree alike.program.lawful)
      (λ j. main_has_none facts.tree alike.program.lawful j) first.own.block b in_blocks of_process.outer

  around : scopes_around g b ≡ b.scope ∷ []
  around = nested.around ∙ ap (λ (xs : List ℕ). b.scope ∷ drop 0 xs) (main_alone facts.tree alike.program.lawful)

  -- the one scope that static links lead to is its own
  pub around_is : (j : ℕ) → list_any (λ n. n == j) (linked g.state.blocks b.env.view) ≡ true → j ≡ b.scope
  around_is j among =
      let one = any_at j (scopes_around g b) among in
      by_place one.0 (ap (λ (xs : List ℕ). slice_get xs one.0) (sym around) ∙ one.1)
    where
      by_place : (k : ℕ) → slice_get (b.scope ∷ []) k ≡ Some j → j ≡ b.scope
      by_place zero there_is = sym (some_same b.scope j there_is)
      by_place (suc k) there_is = absurd (let no : None ≡ Some j = there_is in (let none : ⊥ = cc in none))

  -- ### Its scopes

  pub own_not_mains : is_mains g.state.blocks b.scope ≡ false
  own_not_mains = linked_not_mains g.state.blocks b.env.view 0 b.scope (ap (λ (xs : List ℕ). slice_get xs 0) around)

  pub own_known : is_known g.state.blocks b [] b.scope ≡ true
  own_known =
      or_right (is_mains g.state.blocks b.scope) _
      (or_left (list_any (λ j. j == b.scope) (scopes_around g b)) _ (at_any b.scope (scopes_around g b) 0 (ap (λ (xs : List ℕ). slice_get xs 0) around)))

  pub links_own : (j : ℕ) → is_mains g.state.blocks j ≡ false → links_to here j ≡ 0
  links_own j is =
      ap (λ (y : Bool). if y then length (scopes_around g b) else unwrap_or (position (λ n. n == j) (scopes_around g b)) 0) is
      ∙ ap (λ (xs : List ℕ). unwrap_or (position (λ n. n == j) xs) 0) around ∙ only_place b.scope j

  pub links_mains : (j : ℕ) → is_mains g.state.blocks j ≡ true → links_to here j ≡ 1
  links_mains j is =
      ap (λ (y : Bool). if y then length (scopes_around g b) else unwrap_or (position (λ n. n == j) (scopes_around g b)) 0) is
      ∙ ap (λ (xs : List ℕ). length xs) around

  pub near : (j : ℕ) → (links_to here j ≡ 0) ⊎ (links_to here j ≡ 1)
  near j = by_mains (is_mains g.state.blocks j) refl
    where
      by_mains : (t : Bool) → is_mains g.state.blocks j ≡ t → (links_to here j ≡ 0) ⊎ (links_to here j ≡ 1)
      by_mains true is = inr (links_mains j is)
      by_mains false is = inl (links_own j is)

  -- ### Its place

  abbrev pub home : Home
  home = first.stands.home

  pub its_layout : layout_at g home ≡ b.layout
  its_layout = first.stands.laid ∙ ap (λ (y : Block). y.layout) block_is

  pub living : IsLiving e (entries q)
  living = subst (λ (es : List Entry). IsLiving e es) (sym only.entries_are) (latest [])

  alone : (f : Entry) → IsLiving f (entries q) → f ≡ e
  alone f is = one_living f e (entries q) only.entries_are is

  short : (f : Entry) (r : ℕ) (other : Home) → homes f.activation ≡ Some other → IsLiving f (entries r) → (other.cell < 2 ^ 32) × (other.process ≡ r)
  short f r other at is =
      let cells = own_of g homes entries c.store m.stacks r f other alike.holds.memory at is in (
        few (length (cells_of m.stacks r)) (length cells.before) (length (f.own ++ cells.after)) other.cell
            (ap (λ (ws : List ℤ). length ws) cells.reads ∙ length-append cells.before (f.own ++ cells.after)) (alike.holds.few.cells r) cells.place,
        cells.process,
      )
    where
      few : (n k j i : ℕ) → n ≡ k + j → n < 2 ^ 32 → k ≡ i → i < 2 ^ 32
      few n k j i is less same = omega (arith, is, less, same)

  -- whoever has its word is it
  pub is_it : (keeps : ℕ → Bool) (y : ℕ) → IsKept homes entries keeps w y → y ≡ a.number
  is_it keeps y is =
      let at : homes is.entry.activation ≡ Some is.home = ap homes is.number ∙ is.at in
      let theirs = short is.entry is.process is.home at is.living in
      let mine = short e q home (ap homes first.stands.number ∙ first.stands.at) living in
      let one : own_place is.home ≡ own_place home =
      sym (ref_back (own_place is.home) theirs.0) ∙ ap ref_of (sym is.word ∙ first.stands.word) ∙ ref_back (own_place home) mine.0 in
      let process : is.process ≡ q = sym theirs.1 ∙ ap (λ (r : Ref). r.process) one ∙ mine.1 in
      let same : is.entry ≡ e = alone is.entry (subst (λ n. IsLiving is.entry (entries n)) process is.living) in
      sym is.number ∙ ap (λ (f : Entry). f.activation) same ∙ first.stands.number

  -- and its static link leads to main's
  its_link : get_or e.own link_place (pos 0) ≡ main_link
  its_link = ap (λ (ws : List ℤ). get_or ws link_place (pos 0)) first.stands.words ∙ first.link

  pub links_on : (keeps : ℕ → Bool) (y : ℕ) (is : IsKept homes entries keeps w y) → get_or is.entry.own link_place (pos 0) ≡ pos 0
  links_on keeps y is =
      sym (link_is g homes entries c.store keeps m.stacks alike.holds.memory alike.holds.few.cells w y is)
      ∙ link_is g homes entries c.store (λ n. true) m.stacks alike.holds.memory alike.holds.few.cells w a.number
      (record {
        home = home;
        at = first.stands.at;
        process = q;
        entry = e;
        living = living;
        number = first.stands.number;
        kept = refl;
        word = first.stands.word;
      })
      ∙ its_link

  pub main_apart : (keeps : ℕ → Bool) (chain : List ℕ) → AreLinked homes entries keeps w chain → slice_get chain 1 ≡ Some a.number → ⊥
  main_apart keeps [] links at = (let no : None ≡ Some a.number = at in (let none : ⊥ = cc in none))
  main_apart keeps (y ∷ []) links at = (let no : None ≡ Some a.number = at in (let none : ⊥ = cc in none))
  main_apart keeps (y ∷ z ∷ rest) links at =
      let same : z ≡ a.number = some_same z a.number at in
      let is : IsKept homes entries keeps (get_or links.0.entry.own link_place (pos 0)) z = links.1.0 in
      let its_home : is.home ≡ home = some_same is.home home (sym is.at ∙ ap homes same ∙ first.stands.at) in
      let word : pos 0 ≡ word_of (own_place home) =
      sym (links_on keeps y links.0) ∙ is.word ∙ ap (λ (h : Home). word_of (own_place h)) its_home in
      no_main home.process home.cell (subst (λ n. 0 < n) (sym first.stands.process) child) (some_number 0 (home.process * 2 ^ 32 + home.cell) word)
    where
      some_number : (n k : ℕ) → pos n ≡ pos k → n ≡ k
      some_number n k h = cc

      no_main : (p n : ℕ) → 0 < p → 0 ≡ p * 2 ^ 32 + n → ⊥
      no_main p n less same = omega (arith, less, same)

  pub head_is : (keeps : ℕ → Bool) (chain : List ℕ) → AreLinked homes entries keeps w chain → (y : ℕ) (rest : List ℕ) → chain ≡ y ∷ rest → y ≡ a.number
  head_is keeps [] links y rest is = absurd (let no : [] ≡ y ∷ rest = is in (let none : ⊥ = cc in none))
  head_is keeps (z ∷ zs) links y rest is = (let same : z ≡ y = (let both : z ∷ zs ≡ y ∷ rest = is in cc) in sym same ∙ is_it keeps z links.0)
