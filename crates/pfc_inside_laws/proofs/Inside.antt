-- What is asked of names in view, so that who performs the text of a monitor is inside it, is so wherever runs lead.
use Rattle.std.proofs.Common.{◌≡◌, ◌≢◌, ℕ, suc, ◌==◌, ◌||◌, Bool, true, false, if◌then◌else◌, List, [], ◌∷◌, Option, Some, None, refl, sym, ap, ◌∙◌, subst}
use Rattle.std.proofs.Common.{arith}
use Rattle.std.specs.Prelude.{nat_lt, option_map}
use Rattle.std.specs.Option.{option_or}
use Rattle.std.specs.List.{AllByRecursion, list_any, slice_get}
use Rattle.std.proofs.lemmas.Bool.Decides.{nat_tests}
use Rattle.pfc_tree.specs.Symbols.{Text}
use Rattle.pfc_types.specs.Scopes.{Names, Level, within, found_at, predeclared_names, meaning_in, position_in, scope_at, found_in}
use Rattle.pfc_types.specs.Blocks.{Blocks, State, sub_at}
use Rattle.pfc_types.specs.declared.scope.Meaning.{Meaning}
use Rattle.pfc_types.specs.declared.scope.Meaning.TheVariants.{Variable, Process, Sub}
use Rattle.pfc_types.specs.declared.view.Found.{Found}
use Rattle.pfc_types.specs.rules.Expressions.{Env, find}
use Rattle.pfc_types.specs.rules.Statements.{within_accept}
use Rattle.pfc_semantics.specs.Expressions.{named_spot, found_spot, spot_of}
use Rattle.pfc_semantics.specs.Programs.{Guard, Block, Program, found_block, block_at}
use Rattle.pfc_semantics.specs.Remainders.{Action, resumes, Context, Remainder}
use Rattle.pfc_semantics.specs.Displays.{Spot}
use Rattle.pfc_semantics.specs.Configurations.{Mark, plain, Activation, Config, activity_of}
use Rattle.pfc_semantics.specs.Monitors.{is_in, is_inside}
use Rattle.pfc_semantics.specs.Steps.{next_of}
use Rattle.pfc_state.specs.Stands.{Stand, Is_ready, is_unfinished}
use Rattle.pfc_world.specs.Tables.{at}
use Rattle.pfc_run_invariants.specs.Asked.{IsClosed}
use Rattle.pfc_run_invariants.specs.Fitting.{FitNames}
use Rattle.pfc_run_invariants.specs.Remainders.{FitsAction}
use Rattle.pfc_run_invariants.specs.Written.{FitStmts}
use Rattle.pfc_run_invariants.specs.Configurations.{FitsGuard, FitsBlock, FitsProgram, marks_of, IsStable}
use Rattle.pfc_inside_laws.specs.Inside.{IsMonitor, IsForAccept, IsOf, of_main, of_module, of_block, of_guard, in_accept, IsScoped, IsWithin, inside_of}
use Rattle.pfc_inside_laws.specs.Inside.{FitsTest, HasText, AreInside, IsAlive}
use Rattle.pfc_run_invariants.proofs.Runs.{next_of_fits}

-- ## Names that are found

one_of : (a b : Bool) → a ≡ true → (a || b) ≡ true
one_of true b h = refl
one_of false b h = absurd (cc)

or_other : (a b : Bool) → b ≡ true → (a || b) ≡ true
or_other true b h = refl
or_other false b h = h

itself : (i : ℕ) → (i == i) ≡ true
itself i = grind (arith, nat_tests)

-- the scope of a name that is found is in view
within_is : (level : Level) (k : Option ℕ) (m : Option Meaning) (f : Found) → within level k m ≡ Some f → f.scope ≡ Some level.scope
within_is level None m f is = (let no : None ≡ Some f = is in absurd (cc))
within_is level (Some k) None f is = (let no : None ≡ Some f = is in absurd (cc))
within_is level (Some k) (Some m) f is = by (nat_lt k level.count) is
  where
    by : (b : Bool) → (if b then Some (record { scope = Some level.scope; place = k; meaning = m }) else None) ≡ Some f → f.scope ≡ Some level.scope
    by true e = (let same : record { scope = Some level.scope; place = k; meaning = m } ≡ f = cc in sym (ap (λ (h : Found). h.scope) same))
    by false e = (let no : None ≡ Some f = e in absurd (cc))

seen : (scopes : List Names) (view : List Level) (x : Text) (f : Found) (i : ℕ) → found_in scopes view x ≡ Some f → f.scope ≡ Some i
    → list_any (λ (level : Level). level.scope == i) view ≡ true
seen scopes [] x f i is scope = absurd (none (meaning_in predeclared_names x) is)
  where
    none : (m : Option Meaning) → option_map (λ (m : Meaning). record { scope = None; place = 0; meaning = m }) m ≡ Some f → ⊥
    none None e = (let no : None ≡ Some f = e in cc)
    none (Some m) e =
        let same : record { scope = None; place = 0; meaning = m } ≡ f = cc in let no : None ≡ Some i = ap (λ (h : Found). h.scope) same ∙ scope in cc
seen scopes (level ∷ view) x f i is scope = by (found_at scopes level x) refl is (λ later. seen scopes view x f i later scope)
  where
    by : (o : Option Found) → found_at scopes level x ≡ o → option_or o (found_in scopes view x) ≡ Some f
        → (found_in scopes view x ≡ Some f → list_any (λ (level : Level). level.scope == i) view ≡ true)
        → ((level.scope == i) || list_any (λ (level : Level). level.scope == i) view) ≡ true
    by None e h later = or_other (level.scope == i) _ (later h)
    by (Some h) e here later =
        let same : Some h ≡ Some f = here in
        let own : f.scope ≡ Some level.scope =
        within_is level (position_in (scope_at scopes level.scope) x) (meaning_in (scope_at scopes level.scope) x) f (e ∙ same) in
        let at : Some level.scope ≡ Some i = sym own ∙ scope in
        let number : level.scope ≡ i = cc in one_of (level.scope == i) _ (subst (λ (j : ℕ). (level.scope == j) ≡ true) number (itself level.scope))

-- ## Bodies

found_of :
    (g : Program) (bs : List Block) (i : ℕ) (other : Block) → ((k : ℕ) (b : Block) → slice_get bs k ≡ Some b → IsOf g b.env) → IsOf g other.env
    → IsOf g (found_block bs i other).env
found_of g [] i other all one = one
found_of g (b ∷ bs) i other all one = by (b.scope == i) (found_of g bs i other (λ k c is. all (suc k) c is) one)
  where
    by : (t : Bool) → IsOf g (found_block bs i other).env → IsOf g (if t then b else found_block bs i other).env
    by true later = all 0 b refl
    by false later = later

all_from : {X : Type 0} (P : X → Type 0) (xs : List X) → ((k : ℕ) (x : X) → slice_get xs k ≡ Some x → P x) → AllByRecursion P xs
all_from P [] each = tt
all_from P (x ∷ xs) each = (each 0 x refl, all_from P xs (λ k y is. each (suc k) y is))

module _ (g : Program) (scoped : IsScoped g) where
  block_of : (i : ℕ) → IsOf g (block_at g i).env
  block_of i = found_of g g.blocks i g.main (λ k b is. of_block k b is) of_main

  -- ## Spots

  -- a child is inside the monitor of the scope i
  abbrev AtSpot : ℕ → List Mark → ℕ → Type 0
  AtSpot p ms i = (p ≢ 0) → (n : ℕ) → IsMonitor g i n → list_any (is_in n) ms ≡ true

  named_at :
      (p : ℕ) (ms : List Mark) (b : Blocks) (i place : ℕ) (m : Meaning) → b ≡ g.state.blocks → AtSpot p ms i → AtSpot p ms (named_spot b i place m).spot.scope
  named_at p ms b i place (Variable t reference) same here = here
  named_at p ms b i place (Process n) same here = here
  named_at p ms b i place (Sub n) same here =
      λ child k monitor.
      absurd (scoped.subs n k (subst (λ (blocks : Blocks). IsMonitor g (sub_at blocks n).scope k) same monitor))
  named_at p ms b i place m same here = λ child n monitor. absurd (monitor.inner refl)

  found_at_scope :
      (p : ℕ) (ms : List Mark) (b : Blocks) (i : Option ℕ) (f : Found) → b ≡ g.state.blocks → ((j : ℕ) → i ≡ Some j → AtSpot p ms j)
      → AtSpot p ms (found_spot b i f).spot.scope
  found_at_scope p ms b None f same here = λ child n monitor. absurd (monitor.inner refl)
  found_at_scope p ms b (Some i) f same here = named_at p ms b i f.place f.meaning same (here i refl)

  spot_at :
      (p : ℕ) (ms : List Mark) (env : Env) (x : Text) → IsOf g env → IsWithin g p ms env → AtSpot p ms (spot_of env (find env x)).spot.scope
  spot_at p ms env x of within = by (find env x) refl
    where
      by : (o : Option Found) → find env x ≡ o → AtSpot p ms (spot_of env o).spot.scope
      by None e = λ child n monitor. absurd (monitor.inner refl)
      by (Some f) e =
          found_at_scope p ms env.state.blocks f.scope f (ap (λ (s : State). s.blocks) (scoped.state env of))
          (λ j at child n monitor. within child j n (seen env.state.blocks.scopes env.view x f j e at) monitor)

  -- ## It is so wherever runs lead

  abbrev Is : ℕ → List Mark → Env → Type 0
  Is p ms env = IsOf g env × IsWithin g p ms env

  accept_at : (p : ℕ) (ms : List Mark) (env : Env) (i : ℕ) → Is p ms env → IsForAccept g i → IsWithin g p ms (within_accept env i)
  accept_at p ms env i is none child j n seen_there monitor = by (i == j) refl seen_there
    where
      by : (b : Bool) → (i == j) ≡ b → (b || list_any (λ (level : Level). level.scope == j) env.view) ≡ true → list_any (is_in n) ms ≡ true
      by true e h =
          let same : i ≡ j = grind (arith, nat_tests) in absurd (none.monitor n (subst (λ (k : ℕ). IsMonitor g k n) (sym same) monitor))
      by false e h = is.1 child j n h monitor

  pub closed : IsClosed (inside_of g)
  closed =
      record {
        names = λ p ms env is. subst (λ (s : State). FitNames s.blocks.scopes) (sym (scoped.state env is.0)) scoped.names;
        spots = λ p ms env x is. spot_at p ms env x is.0 is.1;
        outside = λ p ms child n monitor. absurd (monitor.inner refl);
        accepts = λ p ms env i is none. (in_accept env i is.0 none, accept_at p ms env i is none);
        calls = λ p ms env x k is named. (
          block_of (sub_at env.state.blocks k).scope,
          λ child i n there monitor. is.1 child i n (scoped.calls env x k i n is.0 named monitor there) monitor,
        );
        requeues = λ p ms env x k is named. (
          block_of (sub_at env.state.blocks k).scope,
          λ child i n there monitor. is.1 child i n (scoped.calls env x k i n is.0 named monitor there) monitor,
        );
        enters = λ p ms env x y j k is named exported. (
          block_of (sub_at env.state.blocks k).scope,
          λ child i n there monitor. one_of _ _ (scoped.enters env x y j k i n is.0 named exported monitor there),
        );
        guards = λ p ms env is. (is.0, λ child i n there monitor. absurd (is.1 i n there monitor));
        begins = λ p n. (block_of _, λ child i k there monitor. absurd (scoped.processes n i k there monitor));
        idle = λ p n lives. absurd (lives refl);
        nobody = λ p lives. absurd (lives refl);
        living = λ c p acting. acting.1;
        main = (of_main, λ child. absurd (child refl));
        inits =
            all_from (λ (b : Block). Is 0 (plain ∷ []) b.env) g.modules (λ k b is. (of_module k b is, λ child. absurd (child refl)));
      }

  -- who is ready is not created anew
  not_created : (s : Stand) → s ≡ Is_ready → is_unfinished s ≡ false → ⊥
  not_created s ready h = no (sym (ap is_unfinished ready) ∙ h)
    where
      no : true ≡ false → ⊥
      no e = cc

  pub stable : IsStable (inside_of g)
  stable =
      record {
        all = λ lives activations. absurd (lives refl);
        ends = λ p ms doing lives fits. absurd (lives refl);
        anew = λ c p old new env k acting finished known left. absurd (not_created (at c.table.rows p) acting.0 finished);
      }

  -- ## The program

  module _ (text : HasText g) where
    guard_fits : (k : ℕ) (b : Block) (o : Option Guard) → slice_get g.blocks k ≡ Some b → b.guard ≡ o → FitsTest o → FitsGuard (inside_of g) o
    guard_fits k b None is same test = tt
    guard_fits k b (Some guard) is same test = ((of_guard k b guard is same, scoped.guards k b guard is same), test)

    block_fits : (k : ℕ) (b : Block) → slice_get g.blocks k ≡ Some b → FitsBlock (inside_of g) b
    block_fits k b is = let t = text.blocks k b is in record { stmts = t.stmts; guard = guard_fits k b b.guard is refl t.guard }

    unguarded : (b : Block) → FitStmts (IsForAccept g) b.next b.stmts × (b.guard ≡ None) → FitsBlock (inside_of g) b
    unguarded b t = record { stmts = t.0; guard = subst (λ (o : Option Guard). FitsGuard (inside_of g) o) (sym t.1) tt }

    pub program_fits : FitsProgram (inside_of g)
    program_fits =
        record {
          blocks = all_from (FitsBlock (inside_of g)) g.blocks block_fits;
          modules = all_from (FitsBlock (inside_of g)) g.modules (λ k b is. unguarded b (text.modules k b is));
          main = unguarded g.main text.main;
          firsts = text.firsts;
          variables = text.variables;
        }

    -- ## Who resumes

    marked : (n : ℕ) (activations : List Activation) → list_any (is_in n) (marks_of activations) ≡ list_any (λ (a : Activation). is_in n a.mark) activations
    marked n [] = refl
    marked n (a ∷ below) = ap (λ (b : Bool). is_in n a.mark || b) (marked n below)

    pub resumes_inside :
        (c : Config) (p n : ℕ) (x : Context) (v : Spot) (k : Remainder) → AreInside g c → IsAlive g c p → p ≢ 0 → next_of g c p ≡ resumes x v k
        → IsMonitor g v.scope n → is_inside g c p n ≡ true
    resumes_inside c p n x v k inside alive child is monitor =
        let ms = marks_of (activity_of g c p).activations in
        let fits = subst (λ (a : Action). FitsAction (inside_of g) p ms a) is (next_of_fits (inside_of g) closed program_fits c p inside alive) in
        sym (marked n (activity_of g c p).activations) ∙ fits.1 child n monitor
