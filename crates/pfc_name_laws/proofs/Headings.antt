-- Each heading is one as its step has it: each further step keeps it.
use Rattle.std.proofs.Common.{◌≡◌, ◌≢◌, ℕ, ◌<◌, ◌≤◌, ◌==◌, Bool, true, false, List, [], ◌∷◌, ◌++◌, length, length-append, length-set, get_or, set}
use Rattle.std.proofs.Common.{get_or-set_same, get_or-set_other, map, refl, ap, sym, ◌∙◌, subst, arith}
use Rattle.std.proofs.Math.ListN.{get_or-append}
use Rattle.std.proofs.lemmas.Bool.Decides.{nat_tests}
use Rattle.std.proofs.lemmas.List.{map-append}
use Rattle.pfc_tree.specs.Symbols.{Text}
use Rattle.pfc_types.specs.Growing.{Begins}
use Rattle.pfc_types.specs.Scopes.{Names, scope_at}
use Rattle.pfc_types.specs.Blocks.{Blocks, State, no_sub, no_process, sub_at, process_at, export_sub}
use Rattle.pfc_types.specs.rules.FaultyNames.{all_typed}
use Rattle.pfc_types.specs.rules.Whole.{begun}
use Rattle.pfc_types.specs.declared.scope.Meaning.{Meaning}
use Rattle.pfc_types.specs.declared.heads.Formal.{Formal}
use Rattle.pfc_types.specs.declared.heads.SubHead.{SubHead}
use Rattle.pfc_types.specs.declared.heads.ProcessHead.{ProcessHead}
use Rattle.pfc_types.proofs.Prefixes.{begins_same, begins_trans}
use Rattle.pfc_name_laws.specs.Reached.{formal_meaning, meanings_of, IsHeading, is_function, IsSubHeading, Reached, at_begin, noted, opened, named, a_sub}
use Rattle.pfc_name_laws.specs.Reached.{exported, a_module, a_process, an_entry, a_type, counted}
use Rattle.pfc_name_laws.specs.Headings.{AreHeaded}
use Rattle.pfc_name_laws.proofs.Numbers.{each_push, none_before}

-- ## Scopes grow at their ends

-- each scope begins with what it was, and no note is taken back
pub record Follows (b c : Blocks) : Type 0 where
  pub count : length b.scopes ≤ length c.scopes
  pub names : (i : ℕ) → i < length b.scopes → Begins (meanings_of (scope_at b.scopes i)) (meanings_of (scope_at c.scopes i))
  pub clean : c.noted ≡ [] → b.noted ≡ []

same_scopes : (b c : Blocks) → c.scopes ≡ b.scopes → (c.noted ≡ [] → b.noted ≡ []) → Follows b c
same_scopes b c e clean =
    record {
      count = let n = ap length e in omega (arith, n);
      names = λ i below. subst (λ (l : List Names). Begins (meanings_of (scope_at b.scopes i)) (meanings_of (scope_at l i))) (sym e)
          (begins_same (meanings_of (scope_at b.scopes i)));
      clean = clean;
    }

heading_then : (b c : Blocks) (scope : ℕ) (formals : List Formal) → Follows b c → IsHeading b scope formals → IsHeading c scope formals
heading_then b c scope formals f h =
    record {
      opened = omega (arith, f.count, h.opened);
      typed = λ q. h.typed (f.clean q);
      first = λ q. begins_trans (map formal_meaning formals) (meanings_of (scope_at b.scopes scope)) (meanings_of (scope_at c.scopes scope))
          (h.first (f.clean q)) (f.names scope h.opened);
    }

sub_then : (b c : Blocks) (head : SubHead) → Follows b c → IsSubHeading b head → IsSubHeading c head
sub_then b c head f h =
    record {
      heading = heading_then b c head.scope head.formals f h.heading;
      gives = λ q. h.gives (f.clean q);
      exported = h.exported;
    }

-- no heading is added
none_added :
    (s t : State) → AreHeaded s → Follows s.blocks t.blocks → t.blocks.subs ≡ s.blocks.subs → t.blocks.processes ≡ s.blocks.processes
    → t.blocks.entries ≡ s.blocks.entries → AreHeaded t
none_added s t h f subs processes entries =
    record {
      subs = subst (λ (l : List SubHead). (n : ℕ) → n < length l → IsSubHeading t.blocks (get_or l n no_sub)) (sym subs)
          (λ n below. sub_then s.blocks t.blocks (sub_at s.blocks n) f (h.subs n below));
      processes = subst
          (λ (l : List ProcessHead). (n : ℕ) → n < length l
          → IsHeading t.blocks (get_or l n no_process).scope (get_or l n no_process).formals) (sym processes)
          (λ n below. heading_then s.blocks t.blocks (process_at s.blocks n).scope (process_at s.blocks n).formals f (h.processes n below));
      entries = subst (λ (l : List (List Formal)). (k : ℕ) → k < length l → t.blocks.noted ≡ [] → all_typed (get_or l k []) ≡ true) (sym entries)
          (λ k below q. h.entries k below (f.clean q));
    }

equal_of : (k n : ℕ) → (k == n) ≡ true → k ≡ n
equal_of k n h = grind (arith, nat_tests)

other_of : (k n : ℕ) → (k == n) ≡ false → k ≢ n
other_of k n h e = let same : (n == n) ≡ false = subst (λ (m : ℕ). (m == n) ≡ false) e h in absurd (grind (arith, nat_tests))

-- one name more
named_follows : (b : Blocks) (i : ℕ) (x : Text) (m : Meaning) → Follows b (record b { scopes = set b.scopes i (scope_at b.scopes i ++ (x, m) ∷ []) })
named_follows b i x m =
    record {
      count = let n = length-set b.scopes i more in omega (arith, n);
      names = λ j below. by j below (j == i) refl;
      clean = λ q. q;
    }
  where
    more : Names
    more = scope_at b.scopes i ++ (x, m) ∷ []

    by : (j : ℕ) → j < length b.scopes → (r : Bool) → (j == i) ≡ r
        → Begins (meanings_of (scope_at b.scopes j)) (meanings_of (scope_at (set b.scopes i more) j))
    by j below true e =
        let is = equal_of j i e in
        subst (λ k. Begins (meanings_of (scope_at b.scopes k)) (meanings_of (scope_at (set b.scopes i more) k))) (sym is) (record {
          more = m ∷ [];
          splits = ap meanings_of (get_or-set_same b.scopes i more [] (subst (λ k. k < length b.scopes) is below))
              ∙ map-append (λ (y : Text × Meaning). y.1) (scope_at b.scopes i) ((x, m) ∷ []);
        })
    by j below false e =
        subst (λ (l : Names). Begins (meanings_of (scope_at b.scopes j)) (meanings_of l)) (sym (get_or-set_other b.scopes i j more [] (other_of j i e)))
        (begins_same (meanings_of (scope_at b.scopes j)))

opened_follows : (b : Blocks) → Follows b (record b { scopes = b.scopes ++ [] ∷ [] })
opened_follows b =
    record {
      count = let n = length-append b.scopes ([] ∷ []) in omega (arith, n);
      names = λ i below. subst (λ (l : Names). Begins (meanings_of (scope_at b.scopes i)) (meanings_of l))
          (sym (get_or-append b.scopes ([] ∷ []) [] i below)) (begins_same (meanings_of (scope_at b.scopes i)));
      clean = λ q. q;
    }

-- ## Headings are added

sub_headed : (s : State) (head : SubHead) → AreHeaded s → IsSubHeading s.blocks head
    → AreHeaded (record s { blocks = record s.blocks { subs = s.blocks.subs ++ head ∷ [] } })
sub_headed s head h is =
    let c : Blocks = record s.blocks { subs = s.blocks.subs ++ head ∷ [] } in
    let f = same_scopes s.blocks c refl (λ q. q) in
    record {
      subs = each_push (λ n (x : SubHead). IsSubHeading c x) s.blocks.subs head no_sub (λ n below. sub_then s.blocks c (sub_at s.blocks n) f (h.subs n below))
          (sub_then s.blocks c head f is);
      processes = λ n below. heading_then s.blocks c (process_at s.blocks n).scope (process_at s.blocks n).formals f (h.processes n below);
      entries = h.entries;
    }

process_headed : (s : State) (head : ProcessHead) → AreHeaded s → IsHeading s.blocks head.scope head.formals → AreHeaded
    (record s { blocks = record s.blocks { processes = s.blocks.processes ++ head ∷ [] } })
process_headed s head h is =
    let c : Blocks = record s.blocks { processes = s.blocks.processes ++ head ∷ [] } in
    let f = same_scopes s.blocks c refl (λ q. q) in
    record {
      subs = λ n below. sub_then s.blocks c (sub_at s.blocks n) f (h.subs n below);
      processes = each_push (λ n (x : ProcessHead). IsHeading c x.scope x.formals) s.blocks.processes head no_process
          (λ n below. heading_then s.blocks c (process_at s.blocks n).scope (process_at s.blocks n).formals f (h.processes n below))
          (heading_then s.blocks c head.scope head.formals f is);
      entries = h.entries;
    }

entry_headed : (s : State) (formals : List Formal) → AreHeaded s → (s.blocks.noted ≡ [] → all_typed formals ≡ true) → AreHeaded
    (record s { blocks = record s.blocks { entries = s.blocks.entries ++ formals ∷ [] } })
entry_headed s formals h typed =
    let c : Blocks = record s.blocks { entries = s.blocks.entries ++ formals ∷ [] } in
    let f = same_scopes s.blocks c refl (λ q. q) in
    record {
      subs = λ n below. sub_then s.blocks c (sub_at s.blocks n) f (h.subs n below);
      processes = λ n below. heading_then s.blocks c (process_at s.blocks n).scope (process_at s.blocks n).formals f (h.processes n below);
      entries = each_push (λ n (x : List Formal). c.noted ≡ [] → all_typed x ≡ true) s.blocks.entries formals [] h.entries typed;
    }

export_headed : (s : State) (n : ℕ) → AreHeaded s → is_function (sub_at s.blocks n).sort ≡ false → AreHeaded (export_sub s n)
export_headed s n h plain =
    let c = (export_sub s n).blocks in
    let f = same_scopes s.blocks c refl (λ q. q) in
    record {
      subs = λ k below. by c f k (let e = length-set s.blocks.subs n head in omega (arith, e, below)) (k == n) refl;
      processes = λ k below. heading_then s.blocks c (process_at s.blocks k).scope (process_at s.blocks k).formals f (h.processes k below);
      entries = h.entries;
    }
  where
    head : SubHead
    head = record (sub_at s.blocks n) { exported = true }

    now_exported : (c : Blocks) → IsSubHeading c (sub_at s.blocks n) → IsSubHeading c head
    now_exported c is =
        record {
          heading = is.heading;
          gives = is.gives;
          exported = λ e. plain;
        }

    by : (c : Blocks) → Follows s.blocks c → (k : ℕ) → k < length s.blocks.subs → (r : Bool) → (k == n) ≡ r
        → IsSubHeading c (get_or (set s.blocks.subs n head) k no_sub)
    by c f k below true e =
        let is = equal_of k n e in
        let at : n < length s.blocks.subs = subst (λ j. j < length s.blocks.subs) is below in
        subst (λ j. IsSubHeading c (get_or (set s.blocks.subs n head) j no_sub)) (sym is)
        (subst (λ (x : SubHead). IsSubHeading c x) (sym (get_or-set_same s.blocks.subs n head no_sub at))
        (now_exported c (sub_then s.blocks c (sub_at s.blocks n) f (h.subs n at))))
    by c f k below false e =
        subst (λ (x : SubHead). IsSubHeading c x) (sym (get_or-set_other s.blocks.subs n k head no_sub (other_of k n e)))
        (sub_then s.blocks c (sub_at s.blocks k) f (h.subs k below))

-- ## All steps

begun_headed : AreHeaded begun
begun_headed =
    record {
      subs = λ n below. absurd (omega (arith, below));
      processes = λ n below. absurd (omega (arith, below));
      entries = λ n below q. absurd (omega (arith, below));
    }

pub all_headed : (s : State) → Reached s → AreHeaded s
all_headed s at_begin = begun_headed
all_headed s (noted {s = r} f p) =
    none_added r s (all_headed r p) (same_scopes r.blocks s.blocks refl (λ e. none_before r.blocks.noted (f ∷ []) e)) refl refl refl
all_headed s (opened {s = r} p) = none_added r s (all_headed r p) (opened_follows r.blocks) refl refl refl
all_headed s (named {s = r} i x m p below fresh is) = none_added r s (all_headed r p) (named_follows r.blocks i x m) refl refl refl
all_headed s (a_sub {s = r} head p is) = sub_headed r head (all_headed r p) is
all_headed s (exported {s = r} n p plain) = export_headed r n (all_headed r p) plain
all_headed s (a_module {s = r} head p below) = none_added r s (all_headed r p) (same_scopes r.blocks s.blocks refl (λ q. q)) refl refl refl
all_headed s (a_process {s = r} head p is) = process_headed r head (all_headed r p) is.heading
all_headed s (an_entry {s = r} formals p some typed) = entry_headed r formals (all_headed r p) typed
all_headed s (a_type {s = r} form p fits is) = none_added r s (all_headed r p) (same_scopes r.blocks s.blocks refl (λ q. q)) refl refl refl
all_headed s (counted {s = r} n p) = none_added r s (all_headed r p) (same_scopes r.blocks s.blocks refl (λ q. q)) refl refl refl
