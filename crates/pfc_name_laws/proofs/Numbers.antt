-- What a name stands for has its heading: each step keeps it.
use Rattle.std.proofs.Common.{◌≡◌, ◌≢◌, ℕ, ◌+◌, ◌-◌, ◌<◌, ◌≤◌, zero, suc, ◌==◌, nat_lt, Bool, true, false, List, [], ◌∷◌, ◌++◌, length, get_or, set, bytes_eq}
use Rattle.std.proofs.Common.{option_map, cond, if◌then◌else◌, Option, Some, None, refl, ap, sym, ◌∙◌, subst, arith, length-append, length-set, get_or-set_same}
use Rattle.std.proofs.Common.{get_or-set_other}
use Rattle.std.specs.List.{All}
use Rattle.std.specs.Option.{IfSome, option_or}
use Rattle.std.proofs.Math.ListN.{get_or-append}
use Rattle.std.proofs.Math.Seq.{get_or-append_seam}
use Rattle.std.proofs.lemmas.Bool.Decides.{nat_tests}
use Rattle.std.proofs.lemmas.List.Elements.{All-nil, All-cons, All-append, All-weaker}
use Rattle.pfc_base.specs.declared.faults.Refusal.{Refusal}
use Rattle.pfc_tree.specs.Symbols.{Text}
use Rattle.pfc_types.specs.Scopes.{Names, Level, meaning_in, scope_at, position_in, within, found_at, found_in, predeclared, predeclared_names, meaning_of}
use Rattle.pfc_types.specs.Scopes.{look}
use Rattle.pfc_types.specs.Faulty.{IsSimpleConstant, HoldSimpleConstants}
use Rattle.pfc_types.specs.rules.FaultyNames.{stands_faulty}
use Rattle.pfc_types.specs.declared.view.Found.{Found}
use Rattle.std.proofs.lemmas.Map.Entries.{All-lookup}
use Rattle.pfc_types.specs.Blocks.{State, Blocks, no_sub, no_module, no_process, sub_at, module_at, process_at, open_scope, add_name, add_sub, add_module}
use Rattle.pfc_types.specs.Blocks.{add_process, add_entry, add_form, export_sub}
use Rattle.pfc_tree.specs.trees.Parts.{ProgramTree}
use Rattle.pfc_types.specs.Faults.{listed, all_of}
use Rattle.pfc_types.specs.rules.Whole.{begun, finished, broken, broken_bodies}
use Rattle.pfc_types.specs.declared.types.TypeForm.{TypeForm}
use Rattle.pfc_types.specs.declared.types.TypeForm.TheVariants.{Channel, Array, Record, Process as AProcess}
use Rattle.pfc_types.specs.declared.scope.Meaning.{Meaning}
use Rattle.pfc_types.specs.declared.scope.Meaning.TheVariants.{Constant, Named, Variable, Sub, Module, Process, Entry, Predeclared, Faulty}
use Rattle.pfc_types.specs.declared.heads.Formal.{Formal}
use Rattle.pfc_types.specs.declared.heads.SubHead.{SubHead}
use Rattle.pfc_types.specs.declared.heads.ModuleHead.{ModuleHead}
use Rattle.pfc_types.specs.declared.heads.ProcessHead.{ProcessHead}
use Rattle.pfc_name_laws.specs.Reached.{entries_of, HasEntry, IsNumbered, IsOfProcess, IsNextProcess, Reached, at_begin, noted, opened, named, a_sub, exported}
use Rattle.pfc_name_laws.specs.Reached.{a_module, a_process, an_entry, a_type, counted}
use Rattle.pfc_name_laws.specs.Numbers.{AreNumbered}

-- ## Lists

equal_of : (k n : ℕ) → (k == n) ≡ true → k ≡ n
equal_of k n h = grind (arith, nat_tests)

other_of : (k n : ℕ) → (k == n) ≡ false → k ≢ n
other_of k n h e = let same : (n == n) ≡ false = subst (λ (m : ℕ). (m == n) ≡ false) e h in absurd (grind (arith, nat_tests))

-- what holds of the elements of a list and of one more holds of each element of both
pub each_push :
    {X : Type 0} (P : ℕ → X → Type 0) (xs : List X) (y d : X) → ((n : ℕ) → n < length xs → P n (get_or xs n d)) → P (length xs) y
    → (n : ℕ) → n < length (xs ++ y ∷ []) → P n (get_or (xs ++ y ∷ []) n d)
each_push P xs y d h last n below = by (nat_lt n (length xs)) refl
  where
    by : (r : Bool) → nat_lt n (length xs) ≡ r → P n (get_or (xs ++ y ∷ []) n d)
    by true e =
        let inside : n < length xs = grind (arith, nat_tests) in
        subst (λ x. P n x) (sym (get_or-append xs (y ∷ []) d n inside)) (h n inside)
    by false e =
        let all = length-append xs (y ∷ []) in
        let outside : length xs ≤ n = grind (arith, nat_tests) in
        let end : length xs ≡ n = omega (arith, all, outside, below) in
        subst (λ m. P m (get_or (xs ++ y ∷ []) m d)) end (subst (λ x. P (length xs) x) (sym (get_or-append_seam xs y [] d)) last)

nothing_behind : {X : Type 0} (xs : List X) (d : X) (n : ℕ) → get_or (xs ++ d ∷ []) n d ≡ get_or xs n d
nothing_behind [] d zero = refl
nothing_behind [] d (suc n) = refl
nothing_behind (x ∷ xs) d zero = refl
nothing_behind (x ∷ xs) d (suc n) = nothing_behind xs d n

pub get_or-beyond : {X : Type 0} (xs : List X) (n : ℕ) (d : X) → length xs ≤ n → get_or xs n d ≡ d
get_or-beyond [] n d h = refl
get_or-beyond (x ∷ xs) zero d h = absurd (omega (arith, h))
get_or-beyond (x ∷ xs) (suc n) d h = get_or-beyond xs n d (omega (arith, h))

-- where there is no process behind, the last entry is the end
later_end :
    (heads : List ProcessHead) (n a c : ℕ) → a ≤ c
    → (get_or heads n (record no_process { entries = a })).entries ≤ (get_or heads n (record no_process { entries = c })).entries
later_end [] n a c h = h
later_end (x ∷ heads) zero a c h = omega arith
later_end (x ∷ heads) (suc n) a c h = later_end heads n a c h

pub none_before : {X : Type 0} (xs ys : List X) → xs ++ ys ≡ [] → xs ≡ []
none_before [] ys h = refl
none_before (x ∷ xs) ys h = absurd (cc)

pub none_behind : {X : Type 0} (xs ys : List X) → xs ++ ys ≡ [] → ys ≡ []
none_behind [] ys h = h
none_behind (x ∷ xs) ys h = absurd (cc)

-- ## Headings are added behind the others

pub record Grows (b c : Blocks) : Type 0 where
  pub subs : length b.subs ≤ length c.subs
  pub modules : length b.modules ≤ length c.modules
  pub processes : length b.processes ≤ length c.processes
  pub scopes : (n : ℕ) → n < length b.processes → (process_at c n).scope ≡ (process_at b n).scope
  pub entries : (n : ℕ) → n < length b.processes → entries_of b n ≤ entries_of c n
  pub clean : c.noted ≡ [] → b.noted ≡ []

pub still : (b c : Blocks) → c.subs ≡ b.subs → c.modules ≡ b.modules → c.processes ≡ b.processes → c.entries ≡ b.entries → (c.noted ≡ []
    → b.noted ≡ []) → Grows b c
still b c subs modules processes entries rules =
    record {
      subs = let e = ap length subs in omega (arith, e);
      modules = let e = ap length modules in omega (arith, e);
      processes = let e = ap length processes in omega (arith, e);
      scopes = λ n h. ap (λ (l : List ProcessHead). (get_or l n no_process).scope) processes;
      entries = λ n h.
          let e : entries_of c n ≡ entries_of b n = ap
          (λ (l : List ProcessHead). (get_or l (n + 1) (record no_process { entries = length c.entries })).entries - (get_or l n no_process).entries) processes
          ∙ ap
          (λ (l : List (List Formal)). (get_or b.processes (n + 1) (record no_process { entries = length l })).entries -
          (get_or b.processes n no_process).entries) entries
          in omega (arith, e);
      clean = rules;
    }

entry_then : (b c : Blocks) (i k : ℕ) → Grows b c → HasEntry b i k → HasEntry c i k
entry_then b c i k g h =
    record {
      process = h.process;
      is = omega (arith, g.processes, h.is);
      scope = g.scopes h.process h.is ∙ h.scope;
      entry = let more = g.entries h.process h.is in omega (arith, more, h.entry);
    }

pub numbered_then : (b c : Blocks) (i : ℕ) (m : Meaning) → Grows b c → IsNumbered b i m → IsNumbered c i m
numbered_then b c i (Constant t v) g h = h
numbered_then b c i (Named t) g h = tt
numbered_then b c i (Variable t r) g h = tt
numbered_then b c i (Sub n) g h = omega (arith, g.subs, h)
numbered_then b c i (Module n) g h = omega (arith, g.modules, h)
numbered_then b c i (Process n) g h = omega (arith, g.processes, h)
numbered_then b c i (Entry k) g h = entry_then b c i k g h
numbered_then b c i (Predeclared k) g h = h
numbered_then b c i Faulty g h = λ e. h (g.clean e)

form_then : (b c : Blocks) (form : Option TypeForm) → Grows b c → IfSome form (IsOfProcess b) → IfSome form (IsOfProcess c)
form_then b c None g h = tt
form_then b c (Some (Channel t)) g h = tt
form_then b c (Some (Array x low high t)) g h = tt
form_then b c (Some (Record fields)) g h = tt
form_then b c (Some (AProcess n)) g h = omega (arith, g.processes, h)

AreNamed : Blocks → List Names → Type 0
AreNamed b scopes = (i : ℕ) → All (λ x. IsNumbered b i x.1) (scope_at scopes i)

names_then : (b c : Blocks) (scopes : List Names) → Grows b c → AreNamed b scopes → AreNamed c scopes
unfolding AreNamed
names_then b c scopes g h i =
    All-weaker (λ (x : Text × Meaning). IsNumbered b i x.1) (λ x. IsNumbered c i x.1) (λ x p. numbered_then b c i x.1 g p) (scope_at scopes i) (h i)

forms_then : (b c : Blocks) (forms : List (Option TypeForm)) → Grows b c → All (λ form. IfSome form (IsOfProcess b)) forms
    → All (λ form. IfSome form (IsOfProcess c)) forms
forms_then b c forms g h = All-weaker (λ (form : Option TypeForm). IfSome form (IsOfProcess b)) (λ form. IfSome form (IsOfProcess c))
    (λ form p. form_then b c form g p) forms h

called : {s : State} → AreNumbered s → AreNamed s.blocks s.blocks.scopes
unfolding AreNamed
called h = h.names

-- ## Steps

-- the same headings, and more scopes or types
same_heads : (s t : State) → AreNumbered s → Grows s.blocks t.blocks → t.blocks.subs ≡ s.blocks.subs → t.blocks.modules ≡ s.blocks.modules
    → t.blocks.processes ≡ s.blocks.processes → t.blocks.entries ≡ s.blocks.entries → length s.blocks.scopes ≤ length t.blocks.scopes
    → AreNamed t.blocks t.blocks.scopes → All (λ form. IfSome form (IsOfProcess t.blocks)) t.forms → AreNumbered t
unfolding AreNamed
same_heads s t h g subs modules processes entries more names types =
    let counts : (length t.blocks.subs ≡ length s.blocks.subs) × (length t.blocks.modules ≡ length s.blocks.modules)
    × (length t.blocks.processes ≡ length s.blocks.processes) × (length t.blocks.entries ≡ length s.blocks.entries) =
    (ap length subs, ap length modules, ap length processes, ap length entries) in
    record {
      names = names;
      types = types;
      subs = λ n below.
          let old = h.subs n (omega (arith, below, counts.0)) in
          let is : (sub_at t.blocks n).scope ≡ (sub_at s.blocks n).scope = ap (λ (l : List SubHead). (get_or l n no_sub).scope) subs in
          omega (arith, old, is, more);
      modules = λ n below.
          let old = h.modules n (omega (arith, below, counts.1)) in
          let is : (module_at t.blocks n).scope ≡ (module_at s.blocks n).scope = ap (λ (l : List ModuleHead). (get_or l n no_module).scope) modules in
          omega (arith, old, is, more);
      processes = λ n below.
          let old = h.processes n (omega (arith, below, counts.2)) in
          let is : (process_at t.blocks n).scope ≡ (process_at s.blocks n).scope = ap (λ (l : List ProcessHead). (get_or l n no_process).scope) processes in
          omega (arith, old, is, more);
      own = λ n below.
          let old = h.own n (omega (arith, below, counts.2)) in
          let is : (process_at t.blocks n).scope ≡ (process_at s.blocks n).scope = ap (λ (l : List ProcessHead). (get_or l n no_process).scope) processes in
          omega (arith, old, is);
      apart = λ m n before below.
          let old = h.apart m n before (omega (arith, below, counts.2)) in
          let first : (process_at t.blocks m).scope ≡ (process_at s.blocks m).scope = ap (λ (l : List ProcessHead). (get_or l m no_process).scope) processes in
          let second : (process_at t.blocks n).scope ≡ (process_at s.blocks n).scope = ap (λ (l : List ProcessHead). (get_or l n no_process).scope) processes in
          omega (arith, old, first, second);
      entries = λ n below.
          let old = h.entries n (omega (arith, below, counts.2)) in
          let is : (process_at t.blocks n).entries ≡ (process_at s.blocks n).entries = ap
          (λ (l : List ProcessHead). (get_or l n no_process).entries) processes in
          omega (arith, old, is, counts.3);
    }

-- nothing but what is no name, no type and no heading
nothing_new : (s t : State) → AreNumbered s → t.blocks.scopes ≡ s.blocks.scopes → t.forms ≡ s.forms → t.blocks.subs ≡ s.blocks.subs
    → t.blocks.modules ≡ s.blocks.modules → t.blocks.processes ≡ s.blocks.processes → t.blocks.entries ≡ s.blocks.entries → (t.blocks.noted ≡ []
    → s.blocks.noted ≡ []) → AreNumbered t
unfolding AreNamed
nothing_new s t h scopes forms subs modules processes entries rules =
    let g = still s.blocks t.blocks subs modules processes entries rules in
    same_heads s t h g subs modules processes entries (let e = ap length scopes in omega (arith, e))
    (subst (λ l. AreNamed t.blocks l) (sym scopes) (names_then s.blocks t.blocks s.blocks.scopes g h.names))
    (subst (λ l. All (λ form. IfSome form (IsOfProcess t.blocks)) l) (sym forms) (forms_then s.blocks t.blocks s.forms g h.types))

none_more :
    (b : Blocks) (forms : List (Option TypeForm)) → All (λ form. IfSome form (IsOfProcess b)) forms
    → All (λ form. IfSome form (IsOfProcess b)) (None ∷ forms)
none_more b forms h = All-cons (λ (form : Option TypeForm). IfSome form (IsOfProcess b)) None forms tt h

begun_numbered : AreNumbered begun
begun_numbered =
    record {
      names = λ i. subst (λ names. All (λ x. IsNumbered begun.blocks i x.1) names) (sym (nothing_behind {X = Names} [] [] i))
          (All-nil (λ (x : Text × Meaning). IsNumbered begun.blocks i x.1));
      types =
          let b = begun.blocks in
          none_more b (None ∷ None ∷ None ∷ None ∷ None ∷ []) (none_more b (None ∷ None ∷ None ∷ None ∷ []) (none_more b (None ∷ None ∷ None ∷ [])
          (none_more b (None ∷ None ∷ []) (none_more b (None ∷ []) (none_more b [] (All-nil (λ form. IfSome form (IsOfProcess b))))))));
      subs = λ n below. absurd (omega (arith, below));
      modules = λ n below. absurd (omega (arith, below));
      processes = λ n below. absurd (omega (arith, below));
      own = λ n below. absurd (omega (arith, below));
      apart = λ m n before below. absurd (omega (arith, below));
      entries = λ n below. absurd (omega (arith, below));
    }

opened_numbered : (s : State) → AreNumbered s → AreNumbered (open_scope s)
unfolding AreNamed
opened_numbered s h =
    let t = open_scope s in
    let g = still s.blocks t.blocks refl refl refl refl (λ e. e) in
    same_heads s t h g refl refl refl refl (let e = length-append s.blocks.scopes ([] ∷ []) in omega (arith, e))
    (names_then s.blocks t.blocks t.blocks.scopes g
    (λ i. subst (λ names. All (λ (x : Text × Meaning). IsNumbered s.blocks i x.1) names) (sym (nothing_behind s.blocks.scopes [] i)) (h.names i)))
    (forms_then s.blocks t.blocks s.forms g h.types)

-- the scopes with one name more
named_more :
    (b : Blocks) (scopes : List Names) (i : ℕ) (x : Text) (m : Meaning) → AreNamed b scopes → i < length scopes → IsNumbered b i m
    → AreNamed b (set scopes i (scope_at scopes i ++ (x, m) ∷ []))
unfolding AreNamed
named_more b scopes i x m h below is j = by (j == i) refl
  where
    more : Names
    more = scope_at scopes i ++ (x, m) ∷ []

    by : (r : Bool) → (j == i) ≡ r → All (λ (y : Text × Meaning). IsNumbered b j y.1) (scope_at (set scopes i more) j)
    by true e =
        subst (λ k. All (λ (y : Text × Meaning). IsNumbered b k y.1) (scope_at (set scopes i more) k)) (sym (equal_of j i e))
        (subst (λ names. All (λ (y : Text × Meaning). IsNumbered b i y.1) names) (sym (get_or-set_same scopes i more [] below))
        (All-append (λ (y : Text × Meaning). IsNumbered b i y.1) (scope_at scopes i) ((x, m) ∷ []) (h i)
        (All-cons (λ (y : Text × Meaning). IsNumbered b i y.1) (x, m) [] is (All-nil (λ (y : Text × Meaning). IsNumbered b i y.1)))))
    by false e =
        subst (λ names. All (λ (y : Text × Meaning). IsNumbered b j y.1) names)
        (sym (get_or-set_other scopes i j more [] (other_of j i e))) (h j)

named_numbered : (s : State) (i : ℕ) (x : Text) (m : Meaning) → AreNumbered s → i < length s.blocks.scopes → IsNumbered s.blocks i m → AreNumbered
    (add_name s i x m)
named_numbered s i x m h below is =
    let t = add_name s i x m in
    let g = still s.blocks t.blocks refl refl refl refl (λ e. e) in
    same_heads s t h g refl refl refl refl
    (let e = length-set s.blocks.scopes i (scope_at s.blocks.scopes i ++ (x, m) ∷ []) in omega (arith, e))
    (names_then s.blocks t.blocks t.blocks.scopes g (named_more s.blocks s.blocks.scopes i x m (called h) below is))
    (forms_then s.blocks t.blocks s.forms g h.types)

type_numbered : (s : State) (form : TypeForm) → AreNumbered s → IsOfProcess s.blocks form → AreNumbered (add_form s form)
type_numbered s form h is =
    same_heads s (add_form s form) h (still s.blocks s.blocks refl refl refl refl (λ e. e)) refl refl refl refl (omega arith) (called h)
    (All-append (λ f. IfSome f (IsOfProcess s.blocks)) s.forms (Some form ∷ []) h.types
    (All-cons (λ f. IfSome f (IsOfProcess s.blocks)) (Some form) [] is (All-nil (λ f. IfSome f (IsOfProcess s.blocks)))))

grown_by : {X : Type 0} (xs : List X) (y : X) → length xs ≤ length (xs ++ y ∷ [])
grown_by xs y = let e = length-append xs (y ∷ []) in omega (arith, e)

sub_numbered : (s : State) (head : SubHead) → AreNumbered s → head.scope < length s.blocks.scopes → AreNumbered (add_sub s head)
unfolding AreNamed
sub_numbered s head h below =
    let t = add_sub s head in
    let g : Grows s.blocks t.blocks =
    record {
      subs = grown_by s.blocks.subs head;
      modules = omega arith;
      processes = omega arith;
      scopes = λ n b. refl;
      entries =
          λ n b. omega arith;
      clean = λ e. e;
    } in
    record {
      names = names_then s.blocks t.blocks s.blocks.scopes g h.names;
      types = forms_then s.blocks t.blocks s.forms g h.types;
      subs = each_push (λ n (x : SubHead). x.scope < length s.blocks.scopes) s.blocks.subs head no_sub h.subs below;
      modules = h.modules;
      processes = h.processes;
      own = h.own;
      apart = h.apart;
      entries = h.entries;
    }

module_numbered : (s : State) (head : ModuleHead) → AreNumbered s → head.scope < length s.blocks.scopes → AreNumbered (add_module s head)
unfolding AreNamed
module_numbered s head h below =
    let t = add_module s head in
    let g : Grows s.blocks t.blocks =
    record {
      subs = omega arith;
      modules = grown_by s.blocks.modules head;
      processes = omega arith;
      scopes = λ n b. refl;
      entries =
          λ n b. omega arith;
      clean = λ e. e;
    } in
    record {
      names = names_then s.blocks t.blocks s.blocks.scopes g h.names;
      types = forms_then s.blocks t.blocks s.forms g h.types;
      subs = h.subs;
      modules = each_push (λ n (x : ModuleHead). x.scope < length s.blocks.scopes) s.blocks.modules head no_module h.modules below;
      processes = h.processes;
      own = h.own;
      apart = h.apart;
      entries = h.entries;
    }

-- an exported sub keeps its scope
exported_scope : (s : State) (n k : ℕ) → k < length s.blocks.subs → (sub_at (export_sub s n).blocks k).scope ≡ (sub_at s.blocks k).scope
exported_scope s n k below = by (k == n) refl
  where
    head : SubHead
    head = record (sub_at s.blocks n) { exported = true }

    by : (r : Bool) → (k == n) ≡ r → (get_or (set s.blocks.subs n head) k no_sub).scope ≡ (get_or s.blocks.subs k no_sub).scope
    by true e =
        let at = equal_of k n e in
        subst (λ j. (get_or (set s.blocks.subs n head) j no_sub).scope ≡ (get_or s.blocks.subs j no_sub).scope) (sym at)
        (ap (λ (x : SubHead). x.scope) (get_or-set_same s.blocks.subs n head no_sub (subst (λ j. j < length s.blocks.subs) at below)))
    by false e = ap (λ (x : SubHead). x.scope) (get_or-set_other s.blocks.subs n k head no_sub (other_of k n e))

export_numbered : (s : State) (n : ℕ) → AreNumbered s → AreNumbered (export_sub s n)
unfolding AreNamed
export_numbered s n h =
    let t = export_sub s n in
    let count : length t.blocks.subs ≡ length s.blocks.subs = length-set s.blocks.subs n (record (sub_at s.blocks n) { exported = true }) in
    let g : Grows s.blocks t.blocks =
    record {
      subs = omega
          (arith, count);
      modules = omega arith;
      processes = omega arith;
      scopes = λ k b. refl;
      entries = λ k b. omega arith;
      clean = λ e. e;
    } in
    record {
      names = names_then s.blocks t.blocks s.blocks.scopes g h.names;
      types = forms_then s.blocks t.blocks s.forms g h.types;
      subs = λ k below.
          let old = h.subs k (omega (arith, below, count)) in
          let is = exported_scope s n k (omega (arith, below, count)) in
          omega (arith, old, is);
      modules = h.modules;
      processes = h.processes;
      own = h.own;
      apart = h.apart;
      entries = h.entries;
    }

-- the entries of the processes before are the same
process_entries :
    (b : Blocks) (head : ProcessHead) (n : ℕ) → head.entries ≡ length b.entries → n < length b.processes
    → entries_of (record b { processes = b.processes ++ head ∷ [] }) n ≡ entries_of b n
process_entries b head n first below = by (nat_lt (n + 1) (length b.processes)) refl
  where
    none : ProcessHead
    none = record no_process { entries = length b.entries }

    own : (get_or (b.processes ++ head ∷ []) n no_process).entries ≡ (get_or b.processes n no_process).entries
    own = ap (λ (x : ProcessHead). x.entries) (get_or-append b.processes (head ∷ []) no_process n below)

    next_is : (e : (get_or (b.processes ++ head ∷ []) (n + 1) none).entries ≡ (get_or b.processes (n + 1) none).entries)
        → entries_of (record b { processes = b.processes ++ head ∷ [] }) n ≡ entries_of b n
    next_is e = omega (arith, own, e)

    by : (r : Bool) → nat_lt (n + 1) (length b.processes) ≡ r → entries_of (record b { processes = b.processes ++ head ∷ [] }) n ≡ entries_of b n
    by true e =
        let inside : n + 1 < length b.processes = grind (arith, nat_tests) in
        next_is (ap (λ (x : ProcessHead). x.entries) (get_or-append b.processes (head ∷ []) none (n + 1) inside))
    by false e =
        let outside : length b.processes ≤ n + 1 = grind (arith, nat_tests) in
        let end : length b.processes ≡ n + 1 = omega (arith, outside, below) in
        let new : (get_or (b.processes ++ head ∷ []) (n + 1) none).entries ≡ head.entries = ap (λ (x : ProcessHead). x.entries)
        (subst (λ j. get_or (b.processes ++ head ∷ []) j none ≡ head) end (get_or-append_seam b.processes head [] none)) in
        let old : (get_or b.processes (n + 1) none).entries ≡ length b.entries = ap (λ (x : ProcessHead). x.entries)
        (get_or-beyond b.processes (n + 1) none outside) in
        next_is (new ∙ first ∙ sym old)

process_numbered : (s : State) (head : ProcessHead) → AreNumbered s → IsNextProcess s.blocks head → AreNumbered (add_process s head)
unfolding AreNamed
process_numbered s head h is =
    let t = add_process s head in
    let same : (n : ℕ) → n < length s.blocks.processes → process_at t.blocks n ≡ process_at s.blocks n =
    λ n below. get_or-append s.blocks.processes (head ∷ []) no_process n below in
    let g : Grows s.blocks t.blocks =
    record {
      subs = omega arith;
      modules = omega arith;
      processes = grown_by s.blocks.processes head;
      scopes = λ n below. ap (λ (x : ProcessHead). x.scope) (same n below);
      entries = λ n below. let e = process_entries s.blocks head n is.entries below in omega (arith, e);
      clean = λ e. e;
    } in
    record {
      names = names_then s.blocks t.blocks s.blocks.scopes g h.names;
      types = forms_then s.blocks t.blocks s.forms g h.types;
      subs = h.subs;
      modules = h.modules;
      processes = each_push (λ n (x : ProcessHead). x.scope < length s.blocks.scopes) s.blocks.processes head no_process h.processes is.heading.opened;
      own = each_push (λ n (x : ProcessHead). 0 < x.scope) s.blocks.processes head no_process h.own is.own;
      apart = λ m n before below.
          each_push (λ k (x : ProcessHead). m < k → (process_at t.blocks m).scope < x.scope) s.blocks.processes head no_process
          (λ k inside first.
          let old = h.apart m k first inside in
          let e = ap (λ (x : ProcessHead). x.scope) (same m (omega (arith, first, inside))) in
          omega (arith, old, e))
          (λ first. let e = ap (λ (x : ProcessHead). x.scope) (same m first) in let old = is.behind m first in omega (arith, old, e)) n below before;
      entries = each_push (λ n (x : ProcessHead). x.entries ≤ length s.blocks.entries) s.blocks.processes head no_process h.entries
          (let e = is.entries in omega (arith, e));
    }

entry_numbered : (s : State) (formals : List Formal) → AreNumbered s → AreNumbered (add_entry s formals)
unfolding AreNamed
entry_numbered s formals h =
    let t = add_entry s formals in
    let more = grown_by s.blocks.entries formals in
    let g : Grows s.blocks t.blocks =
    record {
      subs = omega arith;
      modules = omega arith;
      processes = omega arith;
      scopes = λ n below. refl;
      entries = λ n below. let e = later_end s.blocks.processes (n + 1) (length s.blocks.entries) (length t.blocks.entries) more in omega (arith, e);
      clean = λ e. e;
    } in
    record {
      names = names_then s.blocks t.blocks s.blocks.scopes g h.names;
      types = forms_then s.blocks t.blocks s.forms g h.types;
      subs = h.subs;
      modules = h.modules;
      processes = h.processes;
      own = h.own;
      apart = h.apart;
      entries = λ n below. let old = h.entries n below in omega (arith, old, more);
    }

pub numbered : (s : State) → Reached s → AreNumbered s
numbered s at_begin = begun_numbered
numbered s (noted {s = r} f p) = nothing_new r s (numbered r p) refl refl refl refl refl refl (λ e. none_before r.blocks.noted (f ∷ []) e)
numbered s (opened {s = r} p) = opened_numbered r (numbered r p)
numbered s (named {s = r} i x m p below fresh is) = named_numbered r i x m (numbered r p) below is
numbered s (a_sub {s = r} head p is) = sub_numbered r head (numbered r p) is.heading.opened
numbered s (exported {s = r} n p is) = export_numbered r n (numbered r p)
numbered s (a_module {s = r} head p below) = module_numbered r head (numbered r p) below
numbered s (a_process {s = r} head p is) = process_numbered r head (numbered r p) is
numbered s (an_entry {s = r} formals p some typed) = entry_numbered r formals (numbered r p)
numbered s (a_type {s = r} form p fits is) = type_numbered r form (numbered r p) is
numbered s (counted {s = r} n p) = nothing_new r s (numbered r p) refl refl refl refl refl refl (λ e. e)

-- ## Names in view

-- no name in these scopes is faulty
abbrev pub NoFaulty : List Names → List Level → Type 0
NoFaulty scopes v = (x : Text) → stands_faulty (look scopes v x) ≡ false

not_faulty : (b : Blocks) (i : ℕ) (m : Option Meaning) → b.noted ≡ [] → IfSome m (IsNumbered b i) → stands_faulty m ≡ false
not_faulty b i None e h = refl
not_faulty b i (Some (Constant t v)) e h = refl
not_faulty b i (Some (Named t)) e h = refl
not_faulty b i (Some (Variable t r)) e h = refl
not_faulty b i (Some (Sub n)) e h = refl
not_faulty b i (Some (Module n)) e h = refl
not_faulty b i (Some (Process n)) e h = refl
not_faulty b i (Some (Entry n)) e h = refl
not_faulty b i (Some (Predeclared n)) e h = refl
not_faulty b i (Some Faulty) e h = absurd (h e)

pub meaning_numbered : (s : State) → AreNumbered s → (i : ℕ) (x : Text) → IfSome (meaning_in (scope_at s.blocks.scopes i) x) (IsNumbered s.blocks i)
meaning_numbered s h i x = All-lookup (IsNumbered s.blocks i) (bytes_eq x) (scope_at s.blocks.scopes i) (h.names i)

within_faulty : (l : Level) (k : Option ℕ) (m : Option Meaning) → stands_faulty m ≡ false → stands_faulty (meaning_of (within l k m)) ≡ false
within_faulty l None None h = refl
within_faulty l None (Some m) h = refl
within_faulty l (Some k) None h = refl
within_faulty l (Some k) (Some m) h = by (nat_lt k l.count)
  where
    by : (r : Bool) → stands_faulty (meaning_of (if r then Some (record { scope = Some l.scope; place = k; meaning = m }) else None)) ≡ false
    by true = h
    by false = refl

or_faulty : (o q : Option Found) → stands_faulty (meaning_of o) ≡ false → stands_faulty (meaning_of q) ≡ false
    → stands_faulty (meaning_of (option_or o q)) ≡ false
or_faulty None q h k = k
or_faulty (Some f) q h k = h

abbrev NamesNotFaulty : Names → Type 0
NamesNotFaulty [] = Unit {0}
NamesNotFaulty (x ∷ names) = (stands_faulty (Some x.1) ≡ false) × NamesNotFaulty names

names_faulty : (names : Names) (x : Text) → NamesNotFaulty names → stands_faulty (meaning_in names x) ≡ false
names_faulty [] x h = refl
names_faulty (y ∷ names) x h = by (bytes_eq x y.0) (names_faulty names x h.1)
  where
    by : (r : Bool) → stands_faulty (meaning_in names x) ≡ false → stands_faulty (cond r (Some y.1) (meaning_in names x)) ≡ false
    by true k = h.0
    by false k = k

predeclared_faulty : (x : Text) → stands_faulty (meaning_of (predeclared x)) ≡ false
predeclared_faulty x = by (meaning_in predeclared_names x) (names_faulty predeclared_names x (
  refl,
  (
    refl,
    (
      refl,
      (
        refl,
        (
          refl,
          (
            refl,
            (
              refl,
              (
                refl,
                (
                  refl,
                  (
                    refl,
                    (
                      refl,
                      (
                        refl,
                        (
                          refl,
                          (
                            refl,
                            (
                              refl,
                              (
                                refl,
                                (
                                  refl,
                                  (
                                    refl,
                                    (
                                      refl,
                                      (
                                        refl,
                                        (
                                          refl,
                                          (
                                            refl,
                                            (
                                              refl,
                                              (
                                                refl,
                                                (
                                                  refl,
                                                  (
                                                    refl,
                                                    (
                                                      refl,
                                                      (
                                                        refl,
                                                        (
                                                          refl,
                                                          (refl, (refl, (refl, tt))),
                                                        ),
                                                      ),
                                                    ),
                                                  ),
                                                ),
                                              ),
                                            ),
                                          ),
                                        ),
                                      ),
                                    ),
                                  ),
                                ),
                              ),
                            ),
                          ),
                        ),
                      ),
                    ),
                  ),
                ),
              ),
            ),
          ),
        ),
      ),
    ),
  ),
))
  where
    by : (m : Option Meaning) → stands_faulty m ≡ false
        → stands_faulty (meaning_of (option_map (λ m. record { scope = None; place = 0; meaning = m }) m)) ≡ false
    by None h = refl
    by (Some m) h = h

pub no_faulty : (s : State) → AreNumbered s → s.blocks.noted ≡ [] → (v : List Level) → NoFaulty s.blocks.scopes v
no_faulty s h e [] x = predeclared_faulty x
no_faulty s h e (l ∷ v) x =
    let names = scope_at s.blocks.scopes l.scope in
    or_faulty (found_at s.blocks.scopes l x) (found_in s.blocks.scopes v x)
    (within_faulty l (position_in names x) (meaning_in names x)
    (not_faulty s.blocks l.scope (meaning_in names x) e (meaning_numbered s h l.scope x))) (no_faulty s h e v x)

constant_holds : (b : Blocks) (i : ℕ) (m : Option Meaning) → IfSome m (IsNumbered b i) → IsSimpleConstant m
constant_holds b i None h = tt
constant_holds b i (Some (Constant t v)) h = h
constant_holds b i (Some (Named t)) h = tt
constant_holds b i (Some (Variable t r)) h = tt
constant_holds b i (Some (Sub n)) h = tt
constant_holds b i (Some (Module n)) h = tt
constant_holds b i (Some (Process n)) h = tt
constant_holds b i (Some (Entry n)) h = tt
constant_holds b i (Some (Predeclared n)) h = tt
constant_holds b i (Some Faulty) h = tt

pub simple_constants : (s : State) → AreNumbered s → HoldSimpleConstants s.blocks.scopes
simple_constants s h i x = constant_holds s.blocks i (meaning_in (scope_at s.blocks.scopes i) x) (meaning_numbered s h i x)

listed_all : (fs : List Refusal) → listed (all_of fs) ≡ fs
listed_all [] = refl
listed_all (f ∷ fs) = ap (λ (l : List Refusal). f ∷ l) (listed_all fs)

-- where no rule is broken, none is noted
pub none_noted : (t : ProgramTree) → broken t ≡ [] → (finished t).blocks.noted ≡ []
none_noted t e =
    sym (listed_all (finished t).blocks.noted)
    ∙ none_before (listed (all_of (finished t).blocks.noted)) (listed (broken_bodies (finished t) t)) e
