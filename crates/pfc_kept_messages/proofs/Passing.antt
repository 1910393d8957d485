-- A message passes: its words, and where they are written.
use Rattle.std.proofs.Common.{◌≡◌, ℕ, ◌+◌, ◌<◌, ◌≤◌, ℤ, pos, List, [], ◌∷◌, ◌++◌, length, reverse, take, drop, get_or, Option, Some, None, refl, sym, ap, ◌∙◌}
use Rattle.std.proofs.Common.{subst, arith, length-append, append_assoc, take_at, drop_at, ◌⊎◌, inl, inr}
use Rattle.std.proofs.lemmas.List.{length-reverse, reverse-reverse}
use Rattle.pfc_types.specs.Types.{Forms, synchronous}
use Rattle.pfc_types.specs.declared.types.TypeId.{TypeId}
use Rattle.pfc_semantics.specs.Values.{Value, Location}
use Rattle.pfc_semantics.specs.Displays.{Spot, Display, located}
use Rattle.pfc_semantics.specs.Programs.{Block, Program}
use Rattle.pfc_semantics.specs.Remainders.{Context}
use Rattle.pfc_semantics.specs.Store.{Store, stored}
use Rattle.pfc_semantics.specs.Configurations.{Config, activity_of, location_for, number_for}
use Rattle.pfc_semantics.specs.Channels.{delivered}
use Rattle.pfc_stacks.specs.Conditions.{AreLive}
use Rattle.pfc_stacks.specs.Refs.{ref_of, number_of}
use Rattle.pfc_stacks.specs.Stacks.{Stacks, operand, written, cells_of}
use Rattle.pfc_cells.specs.Shapes.{words_of}
use Rattle.pfc_cells.specs.Homes.{Homes}
use Rattle.pfc_cells.specs.Memory.{Entries}
use Rattle.pfc_machines.specs.declared.machine.Machine.{Machine}
use Rattle.pfc_machines.specs.declared.descriptors.Descriptor.{Descriptor}
use Rattle.pfc_standing_code.specs.Shapes.{shape_of, shape_cells, IsOf}
use Rattle.pfc_standing_code.specs.Settings.{of_own, site_of}
use Rattle.pfc_standing_code.specs.TypedStatements.{IsCarried}
use Rattle.pfc_standing_code.specs.Words.{IsWord, IsChecked}
use Rattle.pfc_standing_code.specs.Performs.{IsSent, of_message, of_signal, IsReceived, into_variable, into_nothing}
use Rattle.pfc_representation.specs.Levels.{Facts, program_in, LivingLevel}
use Rattle.pfc_representation.specs.Holding.{holders_in}
use Rattle.pfc_representation.specs.Machines.{AreAlike}
use Rattle.pfc_representation.specs.Processes.{IsAtLevel}
use Rattle.pfc_kept_messages.proofs.Sight.{nothing_written, StillHolds, IsChannelAt, one_type, same_program, channel_number, TakesMessage, takes_message}
use Rattle.pfc_kept_messages.proofs.Sight.{message_size}

-- ## Operands

seam : (xs ys : List ℤ) (y : ℤ) → get_or (xs ++ y ∷ ys) (length xs) (pos 0) ≡ y
seam [] ys y = refl
seam (x ∷ xs) ys y = seam xs ys y

-- the message lies over the channel's number
pub record LiesOver (ops message below : List ℤ) (n : ℤ) (z : ℕ) : Type 0 where
  pub top : take z ops ≡ message
  pub under : operand ops z ≡ n
  pub rest : drop (z + 1) ops ≡ below
  pub count : length ops ≡ z + 1 + length below

pub lies_over : (ops message below : List ℤ) (n : ℤ) (z : ℕ) → ops ≡ (message ++ n ∷ []) ++ below → length message ≡ z → LiesOver ops message below n z
lies_over ops message below n z is size =
    let flat : ops ≡ message ++ n ∷ below = is ∙ append_assoc message (n ∷ []) below in
    let front : length (message ++ n ∷ []) ≡ z + 1 = length-append message (n ∷ []) ∙ ap (λ k. k + 1) size in
    record {
      top = ap (λ xs. take z xs) flat ∙ take_at message (n ∷ below) z size;
      under = ap (λ (xs : List ℤ). operand xs z) flat ∙ ap (λ k. operand (message ++ n ∷ below) k) (sym size) ∙ seam message below n;
      rest = ap (λ xs. drop (z + 1) xs) is ∙ drop_at (message ++ n ∷ []) below (z + 1) front;
      count = ap (λ (xs : List ℤ). length xs) is ∙ length-append (message ++ n ∷ []) below ∙ ap (λ k. k + length below) front;
    }

-- ## What is sent

-- a value, or over a channel of `synchronous` nothing
pub data IsMessage (forms : Forms) (u : TypeId) (v : Value) (z : ℕ) (message : List ℤ) : Type 0 where
  a_value : IsCarried forms u → IsOf forms u v → z ≡ shape_cells forms (shape_of u) → message ≡ reverse (words_of v) → IsMessage forms u v z message
  nothing_at_all : u ≡ synchronous → z ≡ 0 → message ≡ [] → IsMessage forms u v z message

-- ## Of one process

module _ (facts : Facts) (m : Machine) (c : Config) (homes : Homes) (entries : Entries) (alike : AreAlike facts homes entries m c) (r : ℕ) (d : Descriptor)
    (level : LivingLevel)
    (stands : IsAtLevel facts homes entries c.store m.stacks c.table (holders_in facts c) r (activity_of (program_in facts) c r) d level)
    (own : level.setting.trial ≡ of_own)
    (b : Block) (x : Context) (checked : IsChecked level.setting b x.env) where
  abbrev g : Program
  g = program_in facts

  forms_same : level.setting.program.state.forms ≡ g.state.forms
  forms_same = ap (λ (y : Program). y.state.forms) (same_program facts m c homes entries alike r d level stands own)

  -- it sends this: the words of the message over the number of a channel
  pub record Sends (channel : Spot) (v : Value) (z : ℕ) (sent : List ℤ) : Type 0 where
    pub u : TypeId
    pub n : ℤ
    pub message : List ℤ
    pub is : sent ≡ message ++ n ∷ []
    pub size : length message ≡ z
    pub passes : IsMessage g.state.forms u v z message
    pub k : ℕ
    pub word : number_of n ≡ k
    pub spot : number_for g c r channel ≡ k
    pub here : IsChannelAt facts homes c (location_for g c r channel) u k

  pub sends : (channel : Spot) (v : Value) (z : ℕ) (sent : List ℤ) → IsSent level.setting (site_of level.setting b x) channel v z sent → Sends channel v z sent
  sends channel v z sent (of_message t u n carries object carried typed size held) =
      let number = channel_number facts m c homes entries alike r d level stands own b x channel t u n checked carries object in
      let typed_there : IsOf g.state.forms u v = subst (λ (f : Forms). IsOf f u v) forms_same typed in
      let cells : z ≡ shape_cells g.state.forms (shape_of u) = size ∙ ap (λ (f : Forms). shape_cells f (shape_of u)) forms_same in
      record {
        u = u;
        n = n;
        message = reverse (words_of v);
        is = held;
        size = length-reverse (words_of v) ∙ message_size facts m c homes entries alike r d level stands own u v typed_there ∙ sym cells;
        passes = a_value (subst (λ (f : Forms). IsCarried f u) forms_same carried) typed_there cells refl;
        k = number.k;
        word = number.word;
        spot = number.spot;
        here = number.here;
      }
  sends channel v z sent (of_signal t u n carries object signal value size held) =
      let number = channel_number facts m c homes entries alike r d level stands own b x channel t u n checked carries object in
      record {
        u = u;
        n = n;
        message = [];
        is = held;
        size = sym size;
        passes = nothing_at_all signal size refl;
        k = number.k;
        word = number.word;
        spot = number.spot;
        here = number.here;
      }

  -- ## What it receives

  -- the operands of a receive: an address over the channel's number, or the number alone
  pub data IsTarget (z : ℕ) (n : ℤ) (held : List ℤ) (u : TypeId) : Option Spot → ℤ → Type 0 where
    to_variable : (target : Spot) (word : ℤ) → IsCarried g.state.forms u → IsWord level.setting.view (site_of level.setting b x) target (Some u) word
        → z ≡ shape_cells g.state.forms (shape_of u) → held ≡ word ∷ n ∷ [] → IsTarget z n held u (Some target) word
    to_nobody : u ≡ synchronous → z ≡ 0 → held ≡ n ∷ [] → IsTarget z n held u None (pos 0)

  pub record Receives (channel : Spot) (z : ℕ) (held : List ℤ) (target : Option Spot) : Type 0 where
    pub u : TypeId
    pub n : ℤ
    pub word : ℤ
    pub into : IsTarget z n held u target word
    pub k : ℕ
    pub number : number_of n ≡ k
    pub spot : number_for g c r channel ≡ k
    pub here : IsChannelAt facts homes c (location_for g c r channel) u k

  pub receives : (channel : Spot) (z : ℕ) (held : List ℤ) (target : Option Spot) → IsReceived level.setting (site_of level.setting b x) channel z held target
      → Receives channel z held target
  receives channel z held _ (into_variable t u n word target carries object carried lies size is) =
      let number = channel_number facts m c homes entries alike r d level stands own b x channel t u n checked carries object in
      record {
        u = u;
        n = n;
        word = word;
        into =
            to_variable target word (subst (λ (f : Forms). IsCarried f u) forms_same carried) lies
            (size ∙ ap (λ (f : Forms). shape_cells f (shape_of u)) forms_same) is;
        k = number.k;
        number = number.word;
        spot = number.spot;
        here = number.here;
      }
  receives channel z held _ (into_nothing t u n carries object signal size is) =
      let number = channel_number facts m c homes entries alike r d level stands own b x channel t u n checked carries object in
      record {
        u = u;
        n = n;
        word = pos 0;
        into = to_nobody signal size is;
        k = number.k;
        number = number.word;
        spot = number.spot;
        here = number.here;
      }

  -- ## What is written for it

  pub record Delivers (target : Option Spot) (word : ℤ) (v : Value) (z : ℕ) (message : List ℤ) : Type 0 where
    pub store : Store
    pub text : (e : Config) → e.store ≡ c.store → (activity_of g e r).display ≡ (activity_of g c r).display
        → delivered g e r target v ≡ record e { store = store }
    pub holds : StillHolds facts homes entries c.store store (written m.stacks (ref_of word) (reverse message))
    pub live : AreLive m.stacks (ref_of word) z
    pub inside : ((ref_of word).process < length m.stacks) ⊎ (message ≡ [])

  unchanged : StillHolds facts homes entries c.store c.store m.stacks
  unchanged =
      record {
        memory = alike.holds.memory;
        few = alike.holds.few;
        objects = alike.holds.objects;
        like = λ keeps. record { at_home = λ n home at. at; living = λ q e kept lives. lives; references = λ n k home t kept at laid. refl };
      }

  put_back : (ws : List ℤ) → reverse (reverse ws) ≡ ws
  put_back ws = reverse-reverse ws

  delivers_to : (z z' : ℕ) (n : ℤ) (held : List ℤ) (u : TypeId) (target : Option Spot) (word : ℤ) (v : Value) (message : List ℤ)
      → IsMessage g.state.forms u v z message
      → IsTarget z' n held u target word → Delivers target word v z message
  delivers_to z z' n held u _ _ v message (a_value carried typed size is) (to_variable target word also lies size' held_is) =
      let takes : TakesMessage facts m c homes entries alike r d level stands own target word u =
      takes_message facts m c homes entries alike r d level stands own b x target u word checked lies in
      let new : Store = stored c.store (location_for g c r target) v in
      record {
        store = new;
        text = λ e same display.
            ap (λ (y : Store). record e { store = stored y (located y (activity_of g e r).display target) v }) same
            ∙ ap (λ (y : Display). record e { store = stored c.store (located c.store y target) v }) display;
        holds =
            subst (λ (ws : List ℤ). StillHolds facts homes entries c.store new (written m.stacks (ref_of word) ws))
            (sym (ap (λ (ws : List ℤ). reverse ws) is ∙ put_back (words_of v)))
            (takes.takes v typed);
        live = subst (λ k. AreLive m.stacks (ref_of word) k) (sym size) takes.live;
        inside = inl takes.inside;
      }
  delivers_to z z' n held u _ _ v message (nothing_at_all signal size is) (to_nobody also size' held_is) =
      record {
        store = c.store;
        text = λ e same display. ap (λ (y : Store). record e { store = y }) same;
        holds =
            subst (λ (ws : List ℤ). StillHolds facts homes entries c.store c.store (written m.stacks (ref_of (pos 0)) (reverse ws))) (sym is)
            (subst (λ (s : Stacks). StillHolds facts homes entries c.store c.store s) (sym (nothing_written m.stacks (ref_of (pos 0)))) unchanged);
        live = subst (λ k. AreLive m.stacks (ref_of (pos 0)) k) (sym size) (least (length (cells_of m.stacks 0)));
        inside = inr is;
      }
    where
      least : (k : ℕ) → 0 + 0 ≤ k
      least k = grind arith
  delivers_to z z' n held u _ _ v message (a_value carried typed size is) (to_nobody signal size' held_is) = absurd (carried.1 signal)
  delivers_to z z' n held u _ _ v message (nothing_at_all signal size is) (to_variable target word carried lies size' held_is) = absurd (carried.1 signal)

  -- the same channel carries messages of one type
  pub delivers : (l : Location) (u : TypeId) (k z : ℕ) (v : Value) (message : List ℤ) → IsChannelAt facts homes c l u k → IsMessage g.state.forms u v z message
      → (channel : Spot) (z' : ℕ) (held : List ℤ) (target : Option Spot) (is : Receives channel z' held target) → k ≡ is.k → Delivers target is.word v z message
  delivers l u k z v message there passes channel z' held target is same =
      let one : u ≡ is.u = one_type facts m c homes entries alike l (location_for g c r channel) u is.u k is.k there is.here same in
      delivers_to z z' is.n held is.u target is.word v message (subst (λ (t : TypeId). IsMessage g.state.forms t v z message) one passes) is.into
