-- What each action comes to.
use Rattle.std.proofs.Common.{◌≡◌, ℕ, ◌/◌, Bool, ℤ, pos, negsuc, List, [], ◌++◌, get_or, Option, Ok, Err, refl, sym, ap, ◌∙◌, subst}
use Rattle.std.proofs.lemmas.List.{append-nil}
use Rattle.rand_pcg.specs.Lcg.{Lcg}
use Rattle.pfc_base.specs.declared.faults.RunFault.{RunFault}
use Rattle.pfc_types.specs.declared.types.TypeId.{TypeId}
use Rattle.pfc_world.specs.Tables.{Table}
use Rattle.pfc_sched.specs.Draws.{drawn, after_draw}
use Rattle.pfc_values.specs.Inputs.{Left as InputLeft, Item, item, skipped, at_end, at_line_end}
use Rattle.pfc_values.specs.Numbers.{fitting, truth}
use Rattle.pfc_values.specs.Pieces.{piece as piece_of}
use Rattle.pfc_program.specs.declared.tables.Tables.{Tables}
use Rattle.pfc_store.specs.declared.spots.Spot.{Spot as HeldSpot}
use Rattle.pfc_store.specs.declared.values.Location.{Location as HeldLocation}
use Rattle.pfc_store.specs.declared.values.Value.{Value as HeldValue}
use Rattle.pfc_store.specs.Views.{spot_view, value_view, location_view, store_view}
use Rattle.pfc_semantics.specs.Values.{Value, Location, ordinal}
use Rattle.pfc_semantics.specs.Store.{Store, value_at, stored}
use Rattle.pfc_semantics.specs.Displays.{Display, Spot, located}
use Rattle.pfc_semantics.specs.Operators.{simple_of}
use Rattle.pfc_semantics.specs.Programs.{Program}
use Rattle.pfc_semantics.specs.Remainders.{Context, Remainder, AwaitsValue, Action, prints, faults}
use Rattle.pfc_semantics.specs.Rewriting.{going, holding, from_value}
use Rattle.pfc_semantics.specs.Configurations.{Config, location_for, value_for, written_for}
use Rattle.pfc_semantics.specs.Statements.{from_piece}
use Rattle.pfc_semantics.specs.Steps.{effect, read_in, skipped_in, drawn_in}
use Rattle.pfc_semantics.specs.Time.{clocked}
use Rattle.pfc_pending.specs.Pieces.{piece_bytes}
use Rattle.pfc_pending.specs.Waiting.{remainder_of, awaits_of}
use Rattle.pfc_pending.specs.declared.actions.Deed.TheVariants as deed
use Rattle.pfc_pending.specs.declared.at_hand.At.TheVariants as at
use Rattle.pfc_pending.specs.declared.pending.Piece.{Piece}
use Rattle.pfc_activities.specs.declared.activities.Activity.{Activity}
use Rattle.pfc_activities.specs.declared.changes.Done.{Done}
use Rattle.pfc_activities.specs.declared.source.Source.{Source}
use Rattle.pfc_activities.specs.declared.state.State.{State}
use Rattle.pfc_activities.specs.Views.{context_of, pending_of, deed_of}
use Rattle.pfc_activities.specs.Relation.{IsIn, IsAt, GoesOn, IsFault, Ends, IsPerformed}
use Rattle.pfc_activities.proofs.Acting.{located_is, other_parts}

-- only variables, input and draws were changed
abbrev pub IsMid : State → State → Type 0
IsMid s mid = mid ≡ record s { store = mid.store; input = mid.input; draws = mid.draws }

-- ## Variables

-- the display of the process was found
abbrev pub IsFound : State → ℕ → Display → Type 0
IsFound s p found = (b : Activity) → IsIn s.activities.items p b → found ≡ b.display

pub found_in : (s : State) (p : ℕ) (a : Activity) → a ≡ get_or s.activities.items p a → IsFound s p a.display
found_in s p a is b there = ap (λ (x : Activity). x.display) (is ∙ there.is a)

-- where a spot lies by the display of the process that was found
found_location :
    (source : Source) (g : Program) (s : State) (c : Config) (p : ℕ) (a : Activity) (found : Display) (n : Action) (spot : Spot)
    → IsAt source s c p a n → IsFound s p found → located (store_view s.store) found spot ≡ location_for g c p spot
found_location source g s c p a found n spot is_at is =
    ap (λ (display : Display). located (store_view s.store) display spot) (is a is_at.before.there) ∙ located_is source g s c p a n is_at.before spot

pub reads_so :
    (s new : State) (p : ℕ) (spot : HeldSpot) (v : HeldValue) (found : Display) (d : Done)
    → IsFound s p found → value_view v ≡ value_at (store_view s.store) (located (store_view s.store) found (spot_view spot))
    → GoesOn s new p (at.Value v) d → IsPerformed s new p (deed.Reads spot) [] d
reads_so s new p spot v found d is held goes source g c choice a program is_at =
    let t : Tables = source.program.tables in
    let x : Context = context_of t a.doing in
    let u : AwaitsValue = awaits_of (pending_of t a.doing) in
    let n : Action = deed_of t a.doing (deed.Reads spot) in
    let value : value_view v ≡ value_for g c p (spot_view spot)
    = held ∙ ap (value_at (store_view s.store)) (found_location source g s c p a found n (spot_view spot) is_at is)
    ∙ ap (λ (store : Store). value_at store (location_for g c p (spot_view spot))) is_at.before.agrees.store in
    goes source g c c choice a n (holding x (value_for g c p (spot_view spot)) u) [] is_at refl
    (ap (λ (w : Value). from_value x u w) (sym value)) refl (sym (append-nil c.output))

-- a value was put where the spot lies
stored_there :
    (source : Source) (g : Program) (s : State) (c : Config) (p : ℕ) (a : Activity) (found : Display) (n : Action) (spot : Spot)
    (l : HeldLocation) (v : Value) (after : Store)
    → IsAt source s c p a n → IsFound s p found → location_view l ≡ located (store_view s.store) found spot
    → after ≡ stored (store_view s.store) (location_view l) v → after ≡ stored c.store (location_for g c p spot) v
stored_there source g s c p a found n spot l v after is_at is there put =
    put ∙ ap (λ (k : Location). stored (store_view s.store) k v) (there ∙ found_location source g s c p a found n spot is_at is)
    ∙ ap (λ (store : Store). stored store (location_for g c p spot) v) is_at.before.agrees.store

pub writes_so :
    (s mid new : State) (p : ℕ) (spot : HeldSpot) (v : HeldValue) (l : HeldLocation) (found : Display) (d : Done)
    → IsMid s mid → mid.input ≡ s.input → mid.draws ≡ s.draws → IsFound s p found
    → location_view l ≡ located (store_view s.store) found (spot_view spot)
    → store_view mid.store ≡ stored (store_view s.store) (location_view l) (value_view v)
    → GoesOn mid new p at.Rest d → IsPerformed s new p (deed.Writes spot v) [] d
writes_so s mid new p spot v l found d mid_is input words is there put goes source g c choice a program is_at =
    let t : Tables = source.program.tables in
    let x : Context = context_of t a.doing in
    let k : Remainder = remainder_of (pending_of t a.doing) in
    let n : Action = deed_of t a.doing (deed.Writes spot v) in
    let c2 : Config = written_for g c p (spot_view spot) (value_view v) in
    let after : store_view mid.store ≡ c2.store
    = stored_there source g s c p a found n (spot_view spot) l (value_view v) (store_view mid.store) is_at is there put in
    goes source g c c2 choice a n (going x.env k) []
    (other_parts source s mid c p a n c2.store c.input c.words c.output is_at mid_is after
    (input ∙ is_at.before.agrees.input) (words ∙ is_at.before.agrees.words))
    refl refl refl (sym (append-nil c.output))

-- ## Nothing outside

pub turns_so : (s new : State) (p : ℕ) (d : Done) → GoesOn s new p at.Rest d → IsPerformed s new p deed.Turns [] d
turns_so s new p d goes source g c choice a program is_at =
    let t : Tables = source.program.tables in
    let x : Context = context_of t a.doing in
    goes source g c c choice a (deed_of t a.doing deed.Turns) (going x.env (remainder_of (pending_of t a.doing)))
    [] is_at refl refl refl (sym (append-nil c.output))

pub faults_so : (s new : State) (p : ℕ) (f : RunFault) (d : Done) → IsFault s new p f d → IsPerformed s new p (deed.Faults f) [] d
faults_so s new p f d ends source g c choice a program is_at = ends source g c choice a (deed_of source.program.tables a.doing (deed.Faults f)) is_at refl refl

-- a fault draws no word
no_word : (w : Lcg) (n : ℤ) (f : RunFault) → Err f ≡ drawn w n → after_draw w n ≡ w
no_word w (pos n) f h = absurd cc
no_word w (negsuc n) f h = refl

pub draws_so :
    (s mid new : State) (p : ℕ) (n m : ℤ) (v : HeldValue) (d : Done)
    → IsMid s mid → mid.store ≡ s.store → mid.input ≡ s.input → Ok m ≡ drawn s.draws n → mid.draws ≡ after_draw s.draws n → value_view v ≡ ordinal m
    → GoesOn mid new p (at.Value v) d → IsPerformed s new p (deed.Draws n) [] d
draws_so s mid new p n m v d mid_is store input given words held goes source g c choice a program is_at =
    let t : Tables = source.program.tables in
    let x : Context = context_of t a.doing in
    let u : AwaitsValue = awaits_of (pending_of t a.doing) in
    let act : Action = deed_of t a.doing (deed.Draws n) in
    let left : Lcg = after_draw s.draws n in
    let e : effect g c p choice act ≡ drawn_in g c p x u left (Ok m)
    = ap (λ (w : Lcg). drawn_in g c p x u (after_draw w n) (drawn w n)) (sym is_at.before.agrees.words) ∙ ap (drawn_in g c p x u left) (sym given) in
    goes source g c (record c { words = left }) choice a act (holding x (ordinal m) u) []
    (other_parts source s mid c p a act c.store c.input left c.output is_at mid_is
    (ap store_view store ∙ is_at.before.agrees.store) (input ∙ is_at.before.agrees.input) words)
    e (ap (λ (w : Value). from_value x u w) (sym held)) refl (sym (append-nil c.output))

pub draws_stop :
    (s mid new : State) (p : ℕ) (n : ℤ) (f : RunFault) (d : Done)
    → IsMid s mid → mid.store ≡ s.store → mid.input ≡ s.input → Err f ≡ drawn s.draws n → mid.draws ≡ after_draw s.draws n
    → IsFault mid new p f d → IsPerformed s new p (deed.Draws n) [] d
draws_stop s mid new p n f d mid_is store input given words ends source g c choice a program is_at =
    let t : Tables = source.program.tables in
    let x : Context = context_of t a.doing in
    let u : AwaitsValue = awaits_of (pending_of t a.doing) in
    let act : Action = deed_of t a.doing (deed.Draws n) in
    let e : effect g c p choice act ≡ Err f
    = ap (λ (w : Lcg). drawn_in g c p x u (after_draw w n) (drawn w n)) (sym is_at.before.agrees.words)
    ∙ ap (drawn_in g c p x u (after_draw s.draws n)) (sym given) in
    ends source g c choice a act
    (other_parts source s mid c p a act c.store c.input c.words c.output is_at mid_is
    (ap store_view store ∙ is_at.before.agrees.store) (input ∙ is_at.before.agrees.input)
    (words ∙ no_word s.draws n f given ∙ is_at.before.agrees.words))
    e refl

pub asks_clock_so :
    (s new : State) (p : ℕ) (n : ℤ) (v : HeldValue) (d : Done)
    → Ok n ≡ fitting (pos (s.world.moment / 1000)) → value_view v ≡ ordinal n → GoesOn s new p (at.Value v) d → IsPerformed s new p deed.AsksClock [] d
asks_clock_so s new p n v d given held goes source g c choice a program is_at =
    let t : Tables = source.program.tables in
    let x : Context = context_of t a.doing in
    let u : AwaitsValue = awaits_of (pending_of t a.doing) in
    let act : Action = deed_of t a.doing deed.AsksClock in
    let e : effect g c p choice act ≡ clocked g c p x u (Ok n)
    = ap (λ (w : Table). clocked g c p x u (fitting (pos (w.moment / 1000)))) (sym is_at.before.agrees.table) ∙ ap (clocked g c p x u) (sym given) in
    goes source g c c choice a act (holding x (ordinal n) u) [] is_at e (ap (λ (w : Value). from_value x u w) (sym held)) refl (sym (append-nil c.output))

pub asks_clock_stop :
    (s new : State) (p : ℕ) (f : RunFault) (d : Done)
    → Err f ≡ fitting (pos (s.world.moment / 1000)) → IsFault s new p f d → IsPerformed s new p deed.AsksClock [] d
asks_clock_stop s new p f d given ends source g c choice a program is_at =
    let t : Tables = source.program.tables in
    let x : Context = context_of t a.doing in
    let u : AwaitsValue = awaits_of (pending_of t a.doing) in
    ends source g c choice a (deed_of t a.doing deed.AsksClock) is_at
    (ap (λ (w : Table). clocked g c p x u (fitting (pos (w.moment / 1000)))) (sym is_at.before.agrees.table) ∙ ap (clocked g c p x u) (sym given)) refl

-- ## Input

-- the input behind what was taken from it
left_is :
    (source : Source) (s mid : State) (c : Config) (p : ℕ) (a : Activity) (n : Action)
    → IsAt source s c p a n → mid.input.whole_lines ≡ s.input.whole_lines → mid.input ≡ record c.input { bytes = mid.input.bytes }
left_is source s mid c p a n is_at whole =
    ap (λ (b : Bool). (let l : InputLeft = record { bytes = mid.input.bytes; whole_lines = b } in l)) (whole ∙
    ap (λ (l : InputLeft). l.whole_lines) is_at.before.agrees.input)

pub inputs_so :
    (s mid new : State) (p : ℕ) (t : Option TypeId) (spot : HeldSpot) (n : ℤ) (v : HeldValue) (l : HeldLocation) (found : Display) (d : Done)
    → IsMid s mid → mid.draws ≡ s.draws → IsFound s p found
    → location_view l ≡ located (store_view s.store) found (spot_view spot)
    → item (simple_of t) s.input.bytes ≡ Ok (record { value = n; left = mid.input.bytes }) → mid.input.whole_lines ≡ s.input.whole_lines
    → value_view v ≡ ordinal n → store_view mid.store ≡ stored (store_view s.store) (location_view l) (value_view v)
    → GoesOn mid new p at.Rest d → IsPerformed s new p (deed.Inputs t spot) [] d
inputs_so s mid new p t spot n v l found d mid_is words is there given whole held put goes source g c choice a program is_at =
    let ts : Tables = source.program.tables in
    let x : Context = context_of ts a.doing in
    let k : Remainder = remainder_of (pending_of ts a.doing) in
    let act : Action = deed_of ts a.doing (deed.Inputs t spot) in
    let i : Item = record { value = n; left = mid.input.bytes } in
    let c2 : Config = record (written_for g c p (spot_view spot) (ordinal n)) { input = record c.input { bytes = mid.input.bytes } } in
    let e : effect g c p choice act ≡ read_in g c p x (spot_view spot) k (Ok i)
    = ap (λ (left : InputLeft). read_in g c p x (spot_view spot) k (item (simple_of t) left.bytes)) (sym is_at.before.agrees.input)
    ∙ ap (read_in g c p x (spot_view spot) k) given in
    let after : store_view mid.store ≡ c2.store
    = stored_there source g s c p a found act (spot_view spot) l (value_view v) (store_view mid.store) is_at is there put
    ∙ ap (λ (w : Value). stored c.store (location_for g c p (spot_view spot)) w) held in
    goes source g c c2 choice a act (going x.env k) []
    (other_parts source s mid c p a act c2.store c2.input c.words c.output is_at mid_is after (left_is source s mid c p a act is_at whole)
    (words ∙ is_at.before.agrees.words))
    e refl refl (sym (append-nil c.output))

pub inputs_stop :
    (s mid new : State) (p : ℕ) (t : Option TypeId) (spot : HeldSpot) (f : RunFault) (d : Done)
    → IsMid s mid → mid.store ≡ s.store → mid.input ≡ s.input → mid.draws ≡ s.draws → item (simple_of t) s.input.bytes ≡ Err f
    → IsFault mid new p f d → IsPerformed s new p (deed.Inputs t spot) [] d
inputs_stop s mid new p t spot f d mid_is store input words given ends source g c choice a program is_at =
    let ts : Tables = source.program.tables in
    let x : Context = context_of ts a.doing in
    let k : Remainder = remainder_of (pending_of ts a.doing) in
    let act : Action = deed_of ts a.doing (deed.Inputs t spot) in
    ends source g c choice a act
    (other_parts source s mid c p a act c.store c.input c.words c.output is_at mid_is
    (ap store_view store ∙ is_at.before.agrees.store) (input ∙ is_at.before.agrees.input) (words ∙ is_at.before.agrees.words))
    (ap (λ (left : InputLeft). read_in g c p x (spot_view spot) k (item (simple_of t) left.bytes)) (sym is_at.before.agrees.input)
    ∙ ap (read_in g c p x (spot_view spot) k) given) refl

pub skips_so :
    (s mid new : State) (p : ℕ) (d : Done)
    → IsMid s mid → mid.store ≡ s.store → mid.draws ≡ s.draws → skipped s.input.whole_lines s.input.bytes ≡ Ok mid.input.bytes
    → mid.input.whole_lines ≡ s.input.whole_lines → GoesOn mid new p at.Rest d → IsPerformed s new p deed.Skips [] d
skips_so s mid new p d mid_is store words given whole goes source g c choice a program is_at =
    let t : Tables = source.program.tables in
    let x : Context = context_of t a.doing in
    let k : Remainder = remainder_of (pending_of t a.doing) in
    let act : Action = deed_of t a.doing deed.Skips in
    let c2 : Config = record c { input = record c.input { bytes = mid.input.bytes } } in
    let e : effect g c p choice act ≡ skipped_in g c p x k (Ok mid.input.bytes)
    = ap (λ (left : InputLeft). skipped_in g c p x k (skipped left.whole_lines left.bytes)) (sym is_at.before.agrees.input)
    ∙ ap (skipped_in g c p x k) given in
    goes source g c c2 choice a act (going x.env k) []
    (other_parts source s mid c p a act c.store c2.input c.words c.output is_at mid_is
    (ap store_view store ∙ is_at.before.agrees.store) (left_is source s mid c p a act is_at whole) (words ∙ is_at.before.agrees.words))
    e refl refl (sym (append-nil c.output))

pub skips_stop :
    (s mid new : State) (p : ℕ) (f : RunFault) (d : Done)
    → IsMid s mid → mid.store ≡ s.store → mid.input ≡ s.input → mid.draws ≡ s.draws → skipped s.input.whole_lines s.input.bytes ≡ Err f
    → IsFault mid new p f d → IsPerformed s new p deed.Skips [] d
skips_stop s mid new p f d mid_is store input words given ends source g c choice a program is_at =
    let t : Tables = source.program.tables in
    let x : Context = context_of t a.doing in
    let k : Remainder = remainder_of (pending_of t a.doing) in
    let act : Action = deed_of t a.doing deed.Skips in
    ends source g c choice a act
    (other_parts source s mid c p a act c.store c.input c.words c.output is_at mid_is
    (ap store_view store ∙ is_at.before.agrees.store) (input ∙ is_at.before.agrees.input) (words ∙ is_at.before.agrees.words))
    (ap (λ (left : InputLeft). skipped_in g c p x k (skipped left.whole_lines left.bytes)) (sym is_at.before.agrees.input)
    ∙ ap (skipped_in g c p x k) given) refl

pub asks_eof_so :
    (s new : State) (p : ℕ) (v : HeldValue) (d : Done)
    → value_view v ≡ ordinal (truth (at_end s.input.bytes)) → GoesOn s new p (at.Value v) d → IsPerformed s new p deed.AsksEof [] d
asks_eof_so s new p v d held goes source g c choice a program is_at =
    let t : Tables = source.program.tables in
    let x : Context = context_of t a.doing in
    let u : AwaitsValue = awaits_of (pending_of t a.doing) in
    let value : value_view v ≡ ordinal (truth (at_end c.input.bytes))
    = held ∙ ap (λ (left : InputLeft). ordinal (truth (at_end left.bytes))) is_at.before.agrees.input in
    goes source g c c choice a (deed_of t a.doing deed.AsksEof) (holding x (ordinal (truth (at_end c.input.bytes))) u) [] is_at refl
    (ap (λ (w : Value). from_value x u w) (sym value)) refl (sym (append-nil c.output))

pub asks_eoln_so :
    (s new : State) (p : ℕ) (v : HeldValue) (d : Done)
    → value_view v ≡ ordinal (truth (at_line_end s.input.bytes)) → GoesOn s new p (at.Value v) d → IsPerformed s new p deed.AsksEoln [] d
asks_eoln_so s new p v d held goes source g c choice a program is_at =
    let t : Tables = source.program.tables in
    let x : Context = context_of t a.doing in
    let u : AwaitsValue = awaits_of (pending_of t a.doing) in
    let value : value_view v ≡ ordinal (truth (at_line_end c.input.bytes))
    = held ∙ ap (λ (left : InputLeft). ordinal (truth (at_line_end left.bytes))) is_at.before.agrees.input in
    goes source g c c choice a (deed_of t a.doing deed.AsksEoln) (holding x (ordinal (truth (at_line_end c.input.bytes))) u) [] is_at refl
    (ap (λ (w : Value). from_value x u w) (sym value)) refl (sym (append-nil c.output))

-- ## Output

pub prints_so :
    (s new : State) (p : ℕ) (bytes : Piece) (width : Option ℤ) (added : List ℕ) (d : Done)
    → piece_of width (piece_bytes bytes) ≡ Ok added → GoesOn s new p at.Rest d → IsPerformed s new p (deed.Prints bytes width) added d
prints_so s new p bytes width added d given goes source g c choice a program is_at =
    let t : Tables = source.program.tables in
    let x : Context = context_of t a.doing in
    let k : Remainder = remainder_of (pending_of t a.doing) in
    let is : deed_of t a.doing (deed.Prints bytes width) ≡ prints x added k = ap (from_piece x k) given in
    let at_it : IsAt source s c p a (prints x added k) = subst (λ (m : Action). IsAt source s c p a m) is is_at in
    subst (λ (m : Action). Ends source g new c p choice m added d) (sym is)
    (goes source g c (record c { output = c.output ++ added }) choice a (prints x added k) (going x.env k) added
    (other_parts source s s c p a (prints x added k) c.store c.input c.words (c.output ++ added) at_it refl
    at_it.before.agrees.store at_it.before.agrees.input at_it.before.agrees.words)
    refl refl refl refl)

pub prints_stop :
    (s new : State) (p : ℕ) (bytes : Piece) (width : Option ℤ) (f : RunFault) (d : Done)
    → piece_of width (piece_bytes bytes) ≡ Err f → IsFault s new p f d → IsPerformed s new p (deed.Prints bytes width) [] d
prints_stop s new p bytes width f d given ends source g c choice a program is_at =
    let t : Tables = source.program.tables in
    let x : Context = context_of t a.doing in
    let k : Remainder = remainder_of (pending_of t a.doing) in
    let is : deed_of t a.doing (deed.Prints bytes width) ≡ faults x f = ap (from_piece x k) given in
    subst (λ (m : Action). Ends source g new c p choice m [] d) (sym is)
    (ends source g c choice a (faults x f) (subst (λ (m : Action). IsAt source s c p a m) is is_at) refl refl)
