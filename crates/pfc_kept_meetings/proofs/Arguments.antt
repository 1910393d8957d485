-- The arguments of a call of an entry, as both sides have them.
use Rattle.std.proofs.Common.{◌≡◌, ℕ, zero, suc, ◌+◌, ℤ, pos, true, false, if◌then◌else◌, List, [], ◌∷◌, ◌++◌, length, take, drop, reverse, get_or, slice_get}
use Rattle.std.proofs.Common.{Option, Some, refl, sym, ap, ap₂, ◌∙◌, subst, arith, take-append-drop}
use Rattle.std.proofs.lemmas.List.{reverse-reverse}
use Rattle.std.proofs.lemmas.List.Sums.{sum_by-cons}
use Rattle.pfc_types.specs.Types.{Forms}
use Rattle.pfc_types.specs.declared.types.TypeId.{TypeId}
use Rattle.pfc_types.specs.declared.heads.Formal.{Formal}
use Rattle.pfc_types.specs.declared.scope.Meaning.{Meaning}
use Rattle.pfc_types.specs.declared.scope.Meaning.TheVariants.{Variable, Process}
use Rattle.pfc_types.specs.rules.Declarations.{name_cells}
use Rattle.pfc_world.specs.Tables.{Table, at}
use Rattle.pfc_semantics.specs.Displays.{Display}
use Rattle.pfc_semantics.specs.Layouts.{Layout}
use Rattle.pfc_semantics.specs.Programs.{Block, Program, layout_cells}
use Rattle.pfc_semantics.specs.Remainders.{Context, Argument}
use Rattle.pfc_semantics.specs.Store.{Store}
use Rattle.pfc_semantics.specs.Values.{Value, Location, ordinal, compound, points}
use Rattle.pfc_semantics.specs.Configurations.{Config, activity_of, all_passed}
use Rattle.pfc_translation.specs.Sites.{type_cells}
use Rattle.pfc_translation.specs.Calls.{formal_cells, formals_cells}
use Rattle.pfc_stacks.specs.Refs.{word_of}
use Rattle.pfc_stacks.specs.Stacks.{operand, operands_of, last_activation}
use Rattle.pfc_cells.specs.Shapes.{IsOf, is_number, is_array, is_record}
use Rattle.pfc_cells.specs.Homes.{Homes}
use Rattle.pfc_cells.specs.Memory.{AreCells, IsHeld, Entry, Entries}
use Rattle.pfc_machines.specs.declared.machine.Machine.{Machine}
use Rattle.pfc_machines.specs.Descriptors.{descriptor_of}
use Rattle.pfc_standing_code.specs.Settings.{View, Trial, Setting, of_own, site_of}
use Rattle.pfc_standing_code.specs.Words.{IsChecked, AreHeld}
use Rattle.pfc_standing_code.specs.Performs.{own_view, own_accepts, own_block}
use Rattle.pfc_call_laws.specs.Blocks.{AreLaidAs}
use Rattle.pfc_call_laws.proofs.Passing.{words_hold, words_left, words_lent}
use Rattle.pfc_stack_laws.specs.Standing.{IsAtHand}
use Rattle.pfc_views.specs.Views.{Sees}
use Rattle.pfc_representation.specs.Levels.{Facts, program_in, LivingLevel, is_met_by, MayKeep, SeesWith, SeesThrough}
use Rattle.pfc_representation.specs.Hands.{laid_parameters, AreKept}
use Rattle.pfc_representation.specs.Acting.{IsActing}
use Rattle.pfc_representation.proofs.Kept.{may_keep}
use Rattle.pfc_kept_own_actions.proofs.Arrived.{has_setting, hold_store}
use Rattle.pfc_kept_messages.proofs.Others.{lender_waits}

-- ## Operands

pub behind_some : (z : ℕ) (xs : List ℤ) (y : ℤ) (ys : List ℤ) → drop z xs ≡ y ∷ ys → length xs ≡ z + suc (length ys)
behind_some zero xs y ys is = (let same : length xs ≡ suc (length ys) = ap (λ (l : List ℤ). length l) is in grind (arith, same))
behind_some (suc z) [] y ys is = absurd (let no : [] ≡ y ∷ ys = is in cc)
behind_some (suc z) (x ∷ xs) y ys is = (let less : length xs ≡ z + suc (length ys) = behind_some z xs y ys is in grind (arith, less))

pub operand_behind : (z : ℕ) (xs : List ℤ) (y : ℤ) (ys : List ℤ) → drop z xs ≡ y ∷ ys → operand xs z ≡ y
operand_behind zero xs y ys is = ap (λ (l : List ℤ). operand l 0) is
operand_behind (suc z) [] y ys is = absurd (let no : [] ≡ y ∷ ys = is in cc)
operand_behind (suc z) (x ∷ xs) y ys is = operand_behind z xs y ys is

pub over_number : (z : ℕ) (xs : List ℤ) (y : ℤ) (ys : List ℤ) → drop z xs ≡ y ∷ ys → xs ≡ reverse (reverse (take z xs)) ++ y ∷ ys
over_number z xs y ys is =
    sym (take-append-drop z xs) ∙ ap (λ (l : List ℤ). take z xs ++ l) is ∙ ap (λ (l : List ℤ). l ++ y ∷ ys) (sym (reverse-reverse (take z xs)))

behind_one : (z : ℕ) (xs : List ℤ) (y : ℤ) (ys : List ℤ) → drop z xs ≡ y ∷ ys → drop (suc z) xs ≡ ys
behind_one zero [] y ys is = absurd (let no : [] ≡ y ∷ ys = is in cc)
behind_one zero (x ∷ xs) y ys is = ap (λ (l : List ℤ). drop 1 l) is
behind_one (suc z) [] y ys is = absurd (let no : [] ≡ y ∷ ys = is in cc)
behind_one (suc z) (x ∷ xs) y ys is = behind_one z xs y ys is

pub behind_number : (z : ℕ) (xs : List ℤ) (y : ℤ) (ys : List ℤ) → drop z xs ≡ y ∷ ys → drop (z + 1) xs ≡ ys
behind_number z xs y ys is = ap (λ n. drop n xs) (let h : z + 1 ≡ suc z = grind arith in h) ∙ behind_one z xs y ys is

-- ## Cells

one_cell : (forms : Forms) (f : Formal) (m : Meaning) → ((t : TypeId) × (f.t ≡ Some t) × (m ≡ Variable t f.reference))
    → formal_cells forms f ≡ name_cells forms m
one_cell forms f m (t, typed, is) =
    ap (λ (o : Option TypeId). if f.reference then 1 else type_cells forms o) typed ∙ sym (ap (λ (y : Meaning). name_cells forms y) is)

pub laid_cells : (forms : Forms) (formals : List Formal) (layout : Layout) → AreLaidAs formals layout → formals_cells forms formals ≡ layout_cells forms layout
laid_cells forms [] [] laid = refl
laid_cells forms [] (m ∷ layout) laid = absurd laid
laid_cells forms (f ∷ formals) [] laid = absurd laid
laid_cells forms (f ∷ formals) (m ∷ layout) laid =
    sum_by-cons (λ (x : Formal). formal_cells forms x) f formals
    ∙ ap₂ (λ n k. n + k) (one_cell forms f m laid.0) (laid_cells forms formals layout laid.1) ∙ sym (sum_by-cons (λ (x : Meaning). name_cells forms x) m layout)

-- ## What is lent

-- of what may be kept there may be a reference, and what is passed by reference is kept
abbrev LendsSo : (ℕ → Type 0) → Layout → List Value → Type 0
LendsSo may layout values =
    (k : ℕ) (t : TypeId) → slice_get layout k ≡ Some (Variable t true) → (l : Location) × (get_or values k (ordinal (pos 0)) ≡ points l) × may l.activation

no_value : (forms : Forms) (t : TypeId) (l : Location) → IsOf forms t (points l) → ⊥
no_value forms t l is = no_pointer forms t (points l) is refl
  where
    no_pointer : (forms : Forms) (t : TypeId) (v : Value) → IsOf forms t v → v ≡ points l → ⊥
    no_pointer forms _ _ (is_number t n none) same = (let no : ordinal n ≡ points l = same in cc)
    no_pointer forms _ _ (is_array t over element low high vs form of) same = (let no : compound vs ≡ points l = same in cc)
    no_pointer forms _ _ (is_record t fields vs form of) same = (let no : compound vs ≡ points l = same in cc)

one_lent : (may : ℕ → Type 0) (g : Program) (homes : Homes) (m : Meaning) (layout : Layout) (l : Location) (values : List Value) (words : List ℤ)
    → IsHeld g homes m (points l) words → LendsSo may (m ∷ layout) (points l ∷ values) → may l.activation
one_lent may g homes (Variable t true) layout l values words held lends =
    let one = lends 0 t refl in
    let same : one.0 ≡ l = (let both : points l ≡ points one.0 = one.1 in cc) in
    subst (λ (y : Location). may y.activation) same one.2
one_lent may g homes (Variable t false) layout l values words held lends = absurd (no_value g.state.forms t l held.0)
one_lent may g homes (Process n) layout l values words held lends = absurd (let no : points l ≡ ordinal held.0.0 = held.0.1 in (let none : ⊥ = cc in none))
one_lent may g homes m layout l values words held lends = absurd held

pub lent_are_kept : (table : Table) (entries : Entries) (p : ℕ) (lenders : List ℕ) (g : Program) (homes : Homes) (layout : Layout) (values : List Value)
    (words : List ℤ)
    → AreCells g homes layout values words → LendsSo (λ a. MayKeep table entries p lenders (entries p) a) layout values → AreKept table entries p lenders values
lent_are_kept table entries p lenders g homes layout [] words cells lends = tt
lent_are_kept table entries p lenders g homes [] (v ∷ values) words cells lends = absurd cells
lent_are_kept table entries p lenders g homes (m ∷ layout) (points l ∷ values) words cells lends = (
  one_lent (λ a. MayKeep table entries p lenders (entries p) a) g homes m layout l values cells.0 cells.3 lends,
  lent_are_kept table entries p lenders g homes layout values cells.1 cells.4 (λ k t there. lends (suc k) t there),
)
lent_are_kept table entries p lenders g homes (m ∷ layout) (ordinal n ∷ values) words cells lends =
    lent_are_kept table entries p lenders g homes layout values cells.1 cells.4 (λ k t there. lends (suc k) t there)
lent_are_kept table entries p lenders g homes (m ∷ layout) (compound vs ∷ values) words cells lends =
    lent_are_kept table entries p lenders g homes layout values cells.1 cells.4 (λ k t there. lends (suc k) t there)

-- it is kept still, where those in a rendezvous stand where they stood
pub kept_anew : (table table' : Table) (entries : Entries) (p : ℕ) (lenders : List ℕ) (values : List Value)
    → ((r s : ℕ) → is_met_by (at table.rows r) s → at table'.rows r ≡ at table.rows r) → AreKept table entries p lenders values
    → AreKept table' entries p lenders values
kept_anew table table' entries p lenders [] met kept = tt
kept_anew table table' entries p lenders (points l ∷ values) met kept = (
  may_keep table table' entries entries p lenders (entries p) l.activation kept.0
      (λ r lender. let waits = lender_waits table p r lender in (met r waits.0 waits.1, refl)),
  kept_anew table table' entries p lenders values met kept.1,
)
kept_anew table table' entries p lenders (ordinal n ∷ values) met kept = kept_anew table table' entries p lenders values met kept
kept_anew table table' entries p lenders (compound vs ∷ values) met kept = kept_anew table table' entries p lenders values met kept

-- ## Of the process that acts

pub first_with : (facts : Facts) (homes : Homes) (entries : Entries) (store : Store) (table : Table) (p : ℕ) (mine : List Entry) (w : ℤ) (display : Display)
    (g : Setting) (b : Block) (view : View) (others accepts meetings : List ℕ)
    → SeesThrough facts homes entries store table p mine w display g b view others accepts meetings
    → SeesWith facts homes entries store table p (meetings ++ others) mine w display g b accepts view
first_with facts homes entries store table p mine w display g b view others [] [] is = is
first_with facts homes entries store table p mine w display g b view others (i ∷ accepts) (q ∷ meetings) is = is.0
first_with facts homes entries store table p mine w display g b view others [] (q ∷ meetings) is = absurd is
first_with facts homes entries store table p mine w display g b view others (i ∷ accepts) [] is = absurd is

pub seen_plainly : (facts : Facts) (homes : Homes) (entries : Entries) (store : Store) (table : Table) (p : ℕ) (mine : List Entry) (w : ℤ) (display : Display)
    (g : Setting) (others : List ℕ) (t : Trial) → t ≡ of_own
    → SeesThrough facts homes entries store table p mine w display g (own_block t g.block) (own_view t g.view) others (own_accepts t g.accepts) g.meetings
    → SeesThrough facts homes entries store table p mine w display g g.block g.view others g.accepts g.meetings
seen_plainly facts homes entries store table p mine w display g others t own sees =
    subst (λ (y : Trial). SeesThrough facts homes entries store table p mine w display g (own_block y g.block) (own_view y g.view) others
    (own_accepts y g.accepts) g.meetings) own sees

module _ (facts : Facts) (m : Machine) (c : Config) (p : ℕ) (level : LivingLevel) (acting : IsActing facts m c p level) (own : level.setting.trial ≡ of_own)
    (b : Block) (x : Context) (checked : IsChecked level.setting b x.env) where
  abbrev g : Setting
  g = level.setting

  abbrev program : Program
  program = program_in facts

  abbrev w : ℤ
  w = word_of (last_activation m.stacks p)

  abbrev display : Display
  display = (activity_of program c p).display

  same_program : g.program ≡ program
  same_program = (has_setting facts m c p level acting).image.program

  seen_with : SeesWith facts acting.homes acting.entries c.store c.table p (descriptor_of m.descriptors p).communications.callers (acting.entries p) w display
      g g.block g.accepts g.view
  seen_with =
      let seen = acting.actor.stands.seen in
      subst (λ (qs : List ℕ). SeesWith facts acting.homes acting.entries c.store c.table p qs (acting.entries p) w display g g.block g.accepts g.view)
      (sym seen.met)
      (first_with facts acting.homes acting.entries c.store c.table p (acting.entries p) w display g g.block g.view seen.others g.accepts g.meetings
      (seen_plainly facts acting.homes acting.entries c.store c.table p (acting.entries p) w display g seen.others g.trial own seen.sees))

  abbrev hand : IsAtHand g acting.homes acting.entries c.store b w
  hand =
      record {
        keeps = seen_with.keeps;
        display = display;
        chain = seen_with.chain;
        sees =
            subst (λ (y : Program). Sees y acting.homes acting.entries c.store seen_with.keeps display b g.accepts w seen_with.chain g.view) (sym same_program)
            (seen_with.sees b checked.beside);
      }

  module _ (formals : List Formal) (given : List Argument) (over : List ℤ) (laid : AreLaidAs formals (laid_parameters formals))
      (held : AreHeld g.view (site_of g b x) formals given (operands_of m.stacks p) over) where
    abbrev ops : List ℤ
    ops = operands_of m.stacks p

    abbrev pub cells : ℕ
    cells = formals_cells g.program.state.forms formals

    abbrev values : List Value
    values = all_passed program c p given

    size : cells ≡ layout_cells g.program.state.forms (laid_parameters formals)
    size = laid_cells g.program.state.forms formals (laid_parameters formals) laid

    shown : hand.display ≡ (activity_of g.program c p).display
    shown = ap (λ (y : Program). (activity_of y c p).display) (sym same_program)

    pub arguments_left : drop cells ops ≡ over
    arguments_left =
        words_left g acting.homes acting.entries c m.stacks b w hand p x (hold_store facts m c p level acting) shown checked.known formals
        (laid_parameters formals) given ops over cells laid size held

    pub arguments_hold : AreCells program acting.homes (laid_parameters formals) values (reverse (take cells ops))
    arguments_hold =
        subst (λ (y : Program). AreCells y acting.homes (laid_parameters formals) (all_passed y c p given) (reverse (take cells ops))) same_program
        (words_hold g acting.homes acting.entries c m.stacks b w hand p x (hold_store facts m c p level acting) shown checked.known formals
        (laid_parameters formals) given ops over cells laid size held)

    pub arguments_kept : AreKept c.table acting.entries p (descriptor_of m.descriptors p).communications.callers values
    arguments_kept =
        lent_are_kept c.table acting.entries p (descriptor_of m.descriptors p).communications.callers program acting.homes (laid_parameters formals) values
        (reverse (take cells ops)) arguments_hold lends
      where
        lends : LendsSo (λ a. MayKeep c.table acting.entries p (descriptor_of m.descriptors p).communications.callers (acting.entries p) a)
            (laid_parameters formals) values
        lends k t there =
            let one =
            words_lent g acting.homes acting.entries c m.stacks b w hand p x (hold_store facts m c p level acting) shown checked.known formals
            (laid_parameters formals) given ops over cells laid size held k t there in (
              one.0,
              ap (λ (y : Program). get_or (all_passed y c p given) k (ordinal (pos 0))) (sym same_program) ∙ one.1,
              seen_with.keeps_these one.0.activation one.2,
            )

    -- what is passed by reference is a location
    pub arguments_given : (k : ℕ) (t : TypeId) → slice_get (laid_parameters formals) k ≡ Some (Variable t true)
        → (l : Location) × (get_or values k (ordinal (pos 0)) ≡ points l)
    arguments_given k t there =
        let one =
        words_lent g acting.homes acting.entries c m.stacks b w hand p x (hold_store facts m c p level acting) shown checked.known formals
        (laid_parameters formals) given ops over cells laid size held k t there in
        (one.0, ap (λ (y : Program). get_or (all_passed y c p given) k (ordinal (pos 0))) (sym same_program) ∙ one.1)
