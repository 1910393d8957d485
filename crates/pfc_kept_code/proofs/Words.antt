-- What is said in words of what the activation sees is kept where another view agrees on the names in view.
use Rattle.std.proofs.Common.{◌≡◌, ℕ, ◌+◌, ◌^◌, ◌<◌, ℤ, pos, Bool, true, false, if◌then◌else◌, List, Option, Some, sym, ap, ◌∙◌, subst}
use Rattle.pfc_types.specs.rules.Expressions.{Env}
use Rattle.pfc_types.specs.declared.types.TypeId.{TypeId}
use Rattle.pfc_types.specs.declared.heads.Formal.{Formal}
use Rattle.pfc_semantics.specs.Values.{Value}
use Rattle.pfc_semantics.specs.Displays.{Spot}
use Rattle.pfc_semantics.specs.Programs.{Block}
use Rattle.pfc_semantics.specs.Remainders.{Argument, by_value, by_reference}
use Rattle.pfc_translation.specs.Sites.{Site, links_to, cell_of, refers, type_cells}
use Rattle.pfc_standing_code.specs.Settings.{View, Setting, IsBeside, same_block, both_mains}
use Rattle.pfc_standing_code.specs.Typed.{unlined, whole_of, IsDeclaredAt}
use Rattle.pfc_standing_code.specs.Words.{first_word, IsWordAt, IsWord, IsSimpleWord, IsObject, IsInView, names_at, IsChecked, IsArgument, AreHeldAt, none_held}
use Rattle.pfc_standing_code.specs.Words.{one_more}
use Rattle.pfc_standing_code.specs.Performs.{IsSent, of_message, of_signal, IsReceived, into_variable, into_nothing}
use Rattle.pfc_kept_code.specs.Kept.{SeesAlike, AgreeAt}

-- ## Addresses

module _ (s : Site) (view other : View) (agree : AgreeAt s view other) where
  pub first_kept : (v : Spot) (t : Option TypeId) → IsDeclaredAt s v t → first_word view s v ≡ first_word other s v
  first_kept v t declared = by (refers s v)
    where
      l : ℕ
      l = links_to s v.scope

      d : ℕ
      d = cell_of s v

      alike : SeesAlike view other (links_to s v.scope) (cell_of s v)
      alike = agree v t declared

      by : (r : Bool)
          → (if r then view.held (links_to s v.scope) (cell_of s v) else view.first (links_to s v.scope) + cell_of s v)
          ≡ (if r then other.held (links_to s v.scope) (cell_of s v) else other.first (links_to s v.scope) + cell_of s v)
      by true = alike.held
      by false = ap (λ (n : ℕ). n + cell_of s v) alike.first

  pub word_kept : (v : Spot) (t : Option TypeId) (w : ℤ) → IsWordAt view s v t w → IsWordAt other s v t w
  word_kept v t w is =
      record {
        whole = is.whole;
        behind = is.behind;
        declared = is.declared;
        path = is.path;
        word = is.word ∙ ap (λ (n : ℕ). pos (n + is.behind)) (first_kept (whole_of v) is.whole is.declared);
      }

  word_back : (v : Spot) (t : Option TypeId) (w : ℤ) → IsWordAt other s v t w → IsWordAt view s v t w
  word_back v t w is =
      record {
        whole = is.whole;
        behind = is.behind;
        declared = is.declared;
        path = is.path;
        word = is.word ∙ ap (λ (n : ℕ). pos (n + is.behind)) (sym (first_kept (whole_of v) is.whole is.declared));
      }

  in_view_kept : (v : Spot) (t : Option TypeId) → IsDeclaredAt s v t → IsInView view s v → IsInView other s v
  in_view_kept v t declared seen =
      let alike = agree v t declared in (sym alike.reaches ∙ seen.0, λ refer. sym alike.refers ∙ seen.1 refer)

-- ## Names, values and arguments

-- the names in view are known
beside_viewed : (g : Setting) (view : View) (b c : Block) → IsBeside g b c → IsBeside (record g { view = view }) b c
beside_viewed g view b _ same_block = same_block
beside_viewed g view b _ (both_mains c m n) = both_mains c m n

pub names_kept : (g : Setting) (view : View) (b : Block) (env : Env) → AgreeAt (names_at g b env) g.view view → IsChecked g b env
    → IsChecked (record g { view = view }) b env
names_kept g view b env agree checked =
    record {
      sound = checked.sound;
      known = checked.known;
      seen = λ v t declared. in_view_kept (names_at g b env) g.view view agree v t declared (checked.seen v t declared);
      placed =
          λ v t declared. subst (λ (n : ℕ). n + type_cells g.program.state.forms t < 2 ^ 42)
          (first_kept (names_at g b env) g.view view agree v t declared) (checked.placed v t declared);
      objects = λ v t w is object. checked.objects v t w (word_back (names_at g b env) g.view view agree v t w is) object;
      state = checked.state;
      beside = beside_viewed g view g.block b checked.beside;
      tried = checked.tried;
    }

module _ (g : Setting) (view : View) (s : Site) (agree : AgreeAt (unlined s) g.view view) where
  abbrev other : Setting
  other = record g { view = view }

  pub lies_kept : (v : Spot) (t : Option TypeId) (w : ℤ) → IsWord g.view s v t w → IsWord view s v t w
  lies_kept v t w is = word_kept (unlined s) g.view view agree v t w is

  pub simple_kept : (v : Spot) (w : ℤ) → IsSimpleWord g.view s v w → IsSimpleWord view s v w
  simple_kept v w is = (is.0, is.1, lies_kept v (Some is.0) w is.2)

  pub object_kept : (v : Spot) (t : Option TypeId) (n : ℤ) → IsObject g s v t n → IsObject other s v t n
  object_kept v t n is = (is.0, lies_kept v t is.0 is.1, is.2)

  argument_kept : (f : Formal) (a : Argument) (words : List ℤ) → IsArgument g.view (unlined s) f a words → IsArgument view (unlined s) f a words
  argument_kept f (by_value v) words is = is
  argument_kept f (by_reference v) words is = (is.0, is.1, lies_kept v f.t is.0 is.2, is.3)

  pub held_kept : {formals : List Formal} {given : List Argument} {ops below : List ℤ} → AreHeldAt g.view (unlined s) formals given ops below
      → AreHeldAt view (unlined s) formals given ops below
  held_kept (none_held below) = none_held below
  held_kept (one_more formals given ops below f a words held is) =
      one_more formals given ops below f a words (held_kept held) (argument_kept f a words is)

  pub sent_kept : (channel : Spot) (v : Value) (z : ℕ) (ops : List ℤ) → IsSent g s channel v z ops → IsSent other s channel v z ops
  sent_kept channel v z ops (of_message t u n carries object some is cells e) =
      of_message t u n carries (object_kept channel t n object) some is cells e
  sent_kept channel v z ops (of_signal t u n carries object none is cells e) =
      of_signal t u n carries (object_kept channel t n object) none is cells e

  pub received_kept : (channel : Spot) (z : ℕ) (ops : List ℤ) (target : Option Spot) → IsReceived g s channel z ops target
      → IsReceived other s channel z ops target
  received_kept channel z ops _ (into_variable t u n w target carries object some lies cells e) =
      into_variable t u n w target carries (object_kept channel t n object) some (lies_kept target (Some u) w lies) cells e
  received_kept channel z ops _ (into_nothing t u n carries object none cells e) =
      into_nothing t u n carries (object_kept channel t n object) none cells e
