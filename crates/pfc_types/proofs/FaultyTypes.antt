-- Faulty types as they are written: what is made is a type exactly where no rule is noted on the way and no faulty name is used.
use Rattle.std.proofs.Common.{◌≡◌, ◌≢◌, ◌⊎◌, inl, inr, Bool, true, false, not, ◌&&◌, ◌||◌, if◌then◌else◌, nat_le, is_some, List, [], ◌∷◌, ◌++◌, Option, Some}
use Rattle.std.proofs.Common.{None, refl, sym, ap, ap₂, ◌∙◌, subst, append_assoc, append-nil}
use Rattle.std.specs.Prelude.{int_le}
use Rattle.std.proofs.lemmas.List.{append_cancel_left}
use Rattle.pfc_base.specs.declared.places.Place.{Place}
use Rattle.pfc_base.specs.declared.faults.Refusal.{Refusal}
use Rattle.pfc_tree.specs.Symbols.{Text}
use Rattle.pfc_tree.specs.declared.tree.Range.{Range}
use Rattle.pfc_tree.specs.trees.Types.{TypeTree, VarTree, VarTrees, named, channel, array, fields, var_item, no_vars, more_vars}
use Rattle.pfc_types.specs.Faults.{Faults, none, one, ◌⨾◌, unless}
use Rattle.pfc_types.specs.Faulty.{HoldSimpleConstants, IsMadeExactly, AreWrittenExactly}
use Rattle.pfc_types.specs.Fields.{type_named}
use Rattle.pfc_types.specs.Types.{integer, is_simple, is_object, has_bounds, held_form, all_held}
use Rattle.pfc_types.specs.Blocks.{State, note}
use Rattle.pfc_types.specs.Scopes.{Names, Level, look}
use Rattle.pfc_types.specs.declared.types.TypeId.{TypeId}
use Rattle.pfc_types.specs.declared.types.TypeForm.{TypeForm}
use Rattle.pfc_types.specs.declared.types.TypeForm.TheVariants.{Channel, Array, Record}
use Rattle.pfc_types.specs.declared.table.TypeFault.TheVariants.{Bounds, Cells}
use Rattle.pfc_types.specs.rules.Kinds.{type_name_rules}
use Rattle.pfc_types.specs.rules.Constants.{constant_value, broken_constant, broken_ranges, range_extents, Extent, Made, added_unless, added, made_channel}
use Rattle.pfc_types.specs.rules.Constants.{array_of, made_arrays, MadeFields, made_field, made_names, made_group, record_form, fields_begun, made, made_items}
use Rattle.pfc_types.specs.rules.Constants.{made_item, type_place}
use Rattle.pfc_types.specs.rules.Declarations.{group_type, broken_group}
use Rattle.pfc_types.specs.rules.FaultyNames.{stands_faulty, constant_uses_faulty, ranges_use_faulty, group_uses_faulty, type_uses_faulty, items_use_faulty}
use Rattle.pfc_types.specs.rules.FaultyNames.{item_uses_faulty}
use Rattle.pfc_types.proofs.Clean.{clean, and-false, and-true, then_parts, faulty_exactly}
use Rattle.pfc_types.proofs.FaultyConstants.{constant_exact, all_some, extents_exact, AreBounds, extents_bounds, named_type_exact, group_exact}
use Rattle.pfc_types.proofs.Walking.{held, note_kept}
use Rattle.pfc_types.proofs.WalkDeclarations.{item_kept}

-- ## What is noted

abbrev is_nil : List Refusal → Bool
is_nil [] = true
is_nil (f ∷ fs) = false

abbrev noted : State → List Refusal
noted s = s.blocks.noted

-- rules were noted from s to t, none exactly where q is so
record Noted (s t : State) (q : Bool) : Type 0 where
  more : List Refusal
  splits : noted t ≡ noted s ++ more
  quiet : is_nil more ≡ q

noted_same : (s : State) → Noted s s true
noted_same s = record { more = []; splits = sym (append-nil (noted s)); quiet = refl }

nil-append : (fs gs : List Refusal) → is_nil (fs ++ gs) ≡ (is_nil fs && is_nil gs)
nil-append [] gs = refl
nil-append (f ∷ fs) gs = refl

noted_trans : {s t u : State} {p q : Bool} → Noted s t p → Noted t u q → Noted s u (p && q)
noted_trans {s} {t} {u} h k =
    record {
      more = h.more ++ k.more;
      splits = k.splits ∙ ap (λ l. l ++ k.more) h.splits ∙ append_assoc (noted s) h.more k.more;
      quiet = nil-append h.more k.more ∙ ap₂ (λ a b. a && b) h.quiet k.quiet;
    }

noted_as : {s t : State} {p q : Bool} → Noted s t p → p ≡ q → Noted s t q
noted_as h e = record { more = h.more; splits = h.splits; quiet = h.quiet ∙ e }

note_noted : (s : State) (fs : Faults) → Noted s (note s fs) (clean fs)
note_noted s none = noted_same s
note_noted s (one f) = record { more = f ∷ []; splits = refl; quiet = refl }
note_noted s (fs ⨾ gs) = noted_trans (note_noted s fs) (note_noted (note s fs) gs)

-- ## What is made

-- what is made from the state s is a type exactly where no rule is noted on the way and no faulty name is used
record MadeExact (s : State) (m : Made) (uses : Bool) : Type 0 where
  quiet : Bool
  rules : Noted s m.state quiet
  exact : is_some m.t ≡ (quiet && not uses)

made_uses : {s : State} {m : Made} {u v : Bool} → MadeExact s m u → u ≡ v → MadeExact s m v
made_uses h e = record { quiet = h.quiet; rules = h.rules; exact = h.exact ∙ ap (λ x. h.quiet && not x) e }

made_exactly : (s : State) (m : Made) (u : Bool) → MadeExact s m u → IsMadeExactly s m u
made_exactly s m u h = (λ e. why h.quiet u h.rules.quiet (ap is_some (sym e) ∙ h.exact), λ w. missing m.t h.exact w)
  where
    cc_of : {A : Type 0} → true ≡ false → A
    cc_of x = absurd (no x)
      where
        no : true ≡ false → ⊥
        no x = cc

    nil_of : noted m.state ≡ noted s → h.rules.more ≡ []
    nil_of e = append_cancel_left (noted s) h.rules.more [] (sym h.rules.splits ∙ e ∙ sym (append-nil (noted s)))

    same_of : (fs : List Refusal) → is_nil fs ≡ true → noted s ++ fs ≡ noted s
    same_of [] e = append-nil (noted s)
    same_of (f ∷ fs) e = cc_of (sym e)

    why : (q v : Bool) → is_nil h.rules.more ≡ q → false ≡ (q && not v) → (noted m.state ≢ noted s) ⊎ (v ≡ true)
    why false v is k = inl (λ e. cc_of (sym (ap is_nil (nil_of e)) ∙ is))
    why true true is k = inr refl
    why true false is k = cc_of (sym k)

    missing : (r : Option TypeId) → is_some r ≡ (h.quiet && not u) → (noted m.state ≢ noted s) ⊎ (u ≡ true) → r ≡ None
    missing None k w = refl
    missing (Some t) k (inl w) = absurd (by h.quiet h.rules.quiet k)
      where
        by : (q : Bool) → is_nil h.rules.more ≡ q → true ≡ (q && not u) → ⊥
        by true is k = w (h.rules.splits ∙ same_of h.rules.more is)
        by false is k = cc
    missing (Some t) k (inr w) = cc_of (k ∙ ap (λ v. h.quiet && not v) w ∙ and-false h.quiet)

-- what a form adds to the table
record AddedExact (s : State) (m : Made) : Type 0 where
  quiet : Bool
  rules : Noted s m.state quiet
  exact : is_some m.t ≡ quiet

added_exact : (s : State) (form : TypeForm) (p : Place) → has_bounds form ≡ true → AddedExact s (added s (Some form) p)
added_exact s form p = by (has_bounds form) (nat_le (held_form (all_held s.forms) form).cells 65536)
  where
    by : (b n : Bool) → b ≡ true → AddedExact s (added_unless (if b then (if n then None else Some Cells) else Some Bounds) s form p)
    by true true h = record { quiet = true; rules = record { more = []; splits = sym (append-nil (noted s)); quiet = refl }; exact = refl }
    by true false h = record { quiet = false; rules = note_noted s (unless false p 304); exact = refl }
    by false n h = absurd (no h)
      where
        no : false ≡ true → ⊥
        no x = cc

behind_added : (q r u : Bool) → true ≡ (q && not u) → r ≡ ((q && r) && not u)
behind_added true true false e = refl
behind_added true false false e = refl
behind_added true r true e = cc
behind_added false r u e = cc

behind_none : (q r u : Bool) → false ≡ (q && not u) → false ≡ ((q && r) && not u)
behind_none false r u e = refl
behind_none true true u e = e
behind_none true false u e = refl

and-assoc : (a b c : Bool) → ((a && b) && c) ≡ (a && (b && c))
and-assoc true b c = refl
and-assoc false b c = refl

-- ## Channels

channel_exact : (s st : State) (o : Option TypeId) (q u : Bool) (carried p : Place) → Noted s st q → is_some o ≡ (q && not u) →
    MadeExact s (made_channel (record { state = st; t = o }) carried p) u
channel_exact s st None q u carried p rules e = record { quiet = q; rules = rules; exact = e }
channel_exact s st (Some t) q u carried p rules e = by (is_object st.forms t)
  where
    by : (b : Bool) → MadeExact s (added (note st (unless (not b) carried 406)) (if b then None else Some (Channel t)) p) u
    by true = record {
      quiet = q && false;
      rules = noted_trans rules (note_noted st (unless false carried 406));
      exact =
          sym (ap (λ x. x && not u) (and-false q));
    }
    by false = let a = added_exact st (Channel t) p refl in record {
      quiet = q && a.quiet;
      rules = noted_trans rules a.rules;
      exact = a.exact ∙ behind_added q a.quiet u e;
    }

-- ## Arrays

record ArraysExact (m : Made) (rs : List (Option Extent)) (p : Place) : Type 0 where
  quiet : Bool
  rules : Noted m.state (made_arrays m rs p).state quiet
  exact : is_some (made_arrays m rs p).t ≡ ((is_some m.t && all_some rs) && quiet)

-- one array over what is made inside
record OuterExact (m : Made) (r : Extent) (t : Option TypeId) (p : Place) (sure : Bool) : Type 0 where
  quiet : Bool
  rules : Noted m.state (added m.state (array_of (Some r) t) p).state quiet
  exact : is_some (added m.state (array_of (Some r) t) p).t ≡ (sure && quiet)

outer_exact : (m : Made) (r : Extent) (t : Option TypeId) (p : Place) (sure : Bool) → (is_simple r.index && int_le r.low r.high) ≡ true →
    is_some t ≡ sure → OuterExact m r t p sure
outer_exact m r None p sure b e = record { quiet = true; rules = noted_same m.state; exact = e ∙ sym (and-true sure) }
outer_exact m r (Some t) p sure b e =
    let a = added_exact m.state (Array r.index r.low r.high t) p b in record { quiet = a.quiet; rules = a.rules; exact = a.exact ∙ ap (λ x. x && a.quiet) e }

array_exact : (m : Made) (r : Extent) (rs : List (Option Extent)) (p : Place) → (is_simple r.index && int_le r.low r.high) ≡ true →
    ArraysExact m rs p → ArraysExact m (Some r ∷ rs) p
array_exact m r rs p b inner =
    let outer = outer_exact (made_arrays m rs p) r (made_arrays m rs p).t p ((is_some m.t && all_some rs) && inner.quiet) b inner.exact in
    record {
      quiet = inner.quiet && outer.quiet;
      rules = noted_trans inner.rules outer.rules;
      exact = outer.exact ∙
          and-assoc (is_some m.t && all_some rs) inner.quiet outer.quiet;
    }

arrays_exact : (m : Made) (rs : List (Option Extent)) (p : Place) → AreBounds rs → ArraysExact m rs p
arrays_exact m [] p b = record { quiet = true; rules = noted_same m.state; exact = sym (and-true (is_some m.t && true) ∙ and-true (is_some m.t)) }
arrays_exact m (None ∷ rs) p b =
    let inner = arrays_exact m rs p b in
    record { quiet = inner.quiet; rules = inner.rules; exact = sym (ap (λ x. x && inner.quiet) (and-false (is_some m.t))) }
arrays_exact m (Some r ∷ rs) p b = array_exact m r rs p b.0 (arrays_exact m rs p b.1)

-- ## Records

record NamesExact (r t : MadeFields) : Type 0 where
  quiet : Bool
  rules : Noted r.state t.state quiet
  exact : t.whole ≡ (r.whole && quiet)

field_exact : (t : TypeId) (r : MadeFields) (x : Text × Place) → NamesExact r (made_field t r x)
field_exact t r x = by (is_some (type_named r.list x.0))
  where
    by : (b : Bool) → NamesExact r (if b then record {
      state = note r.state (unless false x.1 302);
      list = r.list;
      whole =
          false;
    } else record r { list = r.list ++ (x.0, t) ∷ [] })
    by true = record { quiet = false; rules = note_noted r.state (unless false x.1 302); exact = sym (and-false r.whole) }
    by false = record { quiet = true; rules = noted_same r.state; exact = sym (and-true r.whole) }

names_exact : (t : TypeId) (r : MadeFields) (xs : List (Text × Place)) → NamesExact r (made_names t r xs)
names_exact t r [] = record { quiet = true; rules = noted_same r.state; exact = sym (and-true r.whole) }
names_exact t r (x ∷ xs) =
    let first = field_exact t r x in
    let others = names_exact t (made_field t r x) xs in
    record {
      quiet = first.quiet && others.quiet;
      rules = noted_trans first.rules others.rules;
      exact = others.exact ∙ ap (λ w. w && others.quiet) first.exact ∙
          and-assoc r.whole first.quiet others.quiet;
    }

record ItemsExact (r t : MadeFields) (uses : Bool) : Type 0 where
  quiet : Bool
  rules : Noted r.state t.state quiet
  exact : t.whole ≡ (r.whole && (quiet && not uses))

group_fields_exact : (r : MadeFields) (st : State) (o : Option TypeId) (q u : Bool) (xs : List (Text × Place)) → Noted r.state st q → is_some o ≡ (q && not u) →
    ItemsExact r (made_group (record r { state = st }) o xs) u
group_fields_exact r st None q u xs rules e =
    let n = names_exact integer (record { state = st; list = r.list; whole = false }) xs in
    record { quiet = q && n.quiet; rules = noted_trans rules n.rules; exact = n.exact ∙ by r.whole (behind_none q n.quiet u e) }
  where
    by : {x : Bool} (w : Bool) → false ≡ x → false ≡ (w && x)
    by true h = h
    by false h = refl
group_fields_exact r st (Some t) q u xs rules e =
    let n = names_exact t (record { state = st; list = r.list; whole = r.whole }) xs in
    record { quiet = q && n.quiet; rules = noted_trans rules n.rules; exact = n.exact ∙ ap (λ x. r.whole && x) (behind_added q n.quiet u e) }

record_exact : (s : State) (r : MadeFields) (q u : Bool) (p : Place) → Noted s r.state q → r.whole ≡ (q && not u) →
    MadeExact s (added r.state (record_form r) p) u
record_exact s r q u p rules e = by r.whole e
  where
    by : (w : Bool) → w ≡ (q && not u) → MadeExact s (added r.state (if w then Some (Record r.list) else None) p) u
    by true h = let a = added_exact r.state (Record r.list) p refl in record {
      quiet = q && a.quiet;
      rules = noted_trans rules a.rules;
      exact = a.exact ∙ behind_added q a.quiet u h;
    }
    by false h = record { quiet = q; rules = rules; exact = h }

-- ## Arrays with their ranges

arrays_made :
    (s : State) (view : List Level) (rs : List Range) (t : TypeTree) (p : Place) (scopes : List Names) → held s ≡ scopes → HoldSimpleConstants scopes
    → MadeExact (note s (broken_ranges (held s) view rs)) (made false (note s (broken_ranges (held s) view rs)) view t) (type_uses_faulty scopes view t)
    → MadeExact s (made_arrays (made false (note s (broken_ranges (held s) view rs)) view t) (range_extents (held s) view rs) p)
    (ranges_use_faulty scopes view rs || type_uses_faulty scopes view t)
arrays_made s view rs t p scopes e h inner =
    record {
      quiet = clean (broken_ranges (held s) view rs) && (inner.quiet && outer.quiet);
      rules = noted_trans (note_noted s (broken_ranges (held s) view rs)) (noted_trans inner.rules outer.rules);
      exact =
          outer.exact
          ∙ ap₂ (λ a b. (a && b) && outer.quiet) inner.exact (extents_exact (held s) view rs ∙
          ap (λ l. clean (broken_ranges (held s) view rs) && not (ranges_use_faulty l view rs)) e)
          ∙ by inner.quiet (type_uses_faulty scopes view t) (clean (broken_ranges (held s) view rs)) (ranges_use_faulty scopes view rs) outer.quiet;
    }
  where
    outer : ArraysExact (made false (note s (broken_ranges (held s) view rs)) view t) (range_extents (held s) view rs) p
    outer = arrays_exact (made false (note s (broken_ranges (held s) view rs)) view t) (range_extents (held s) view rs) p
        (extents_bounds (held s) (subst HoldSimpleConstants (sym e) h) view rs)

    by : (q u c v r : Bool) → (((q && not u) && (c && not v)) && r) ≡ ((c && (q && r)) && not (v || u))
    by false u true v r = refl
    by false u false v r = refl
    by true true true true r = sym (and-false r)
    by true true true false r = sym (and-false r)
    by true true false v r = refl
    by true false true true r = sym (and-false r)
    by true false true false true = refl
    by true false true false false = refl
    by true false false v r = refl

-- ## The induction

-- The scopes are those of the state, under which the names are looked up.
mutual
  made_exact : (carried : Bool) (s : State) (view : List Level) (t : TypeTree) (scopes : List Names) → held s ≡ scopes → HoldSimpleConstants scopes →
      MadeExact s (made carried s view t) (type_uses_faulty scopes view t)
  made_exact carried s view (named x p) scopes e h =
      record {
        quiet = clean (type_name_rules carried (look (held s) view x) p);
        rules = note_noted s (type_name_rules carried (look (held s) view x) p);
        exact = named_type_exact carried (look (held s) view x) p ∙
            ap (λ l. clean (type_name_rules carried (look (held s) view x) p) && not (stands_faulty (look l view x))) e;
      }
  made_exact carried s view (channel t p) scopes e h =
      let inner = made_exact true s view t scopes e h in channel_exact s (made true s view t).state (made true s view t).t inner.quiet
      (type_uses_faulty scopes view t) (type_place t) p inner.rules inner.exact
  made_exact carried s view (array rs t p) scopes e h =
      arrays_made s view rs t p scopes e h (made_exact false (note s (broken_ranges (held s) view rs)) view t scopes
      ((note_kept s (broken_ranges (held s) view rs)).scopes ∙ e) h)
  made_exact carried s view (fields vs last p) scopes e h =
      let r = made_items view (fields_begun s) vs in
      let items = items_exact view (fields_begun s) vs scopes e h in record_exact s r items.quiet (items_use_faulty scopes view vs) p items.rules items.exact

  items_exact : (view : List Level) (r : MadeFields) (vs : VarTrees) (scopes : List Names) → held r.state ≡ scopes → HoldSimpleConstants scopes →
      ItemsExact r (made_items view r vs) (items_use_faulty scopes view vs)
  items_exact view r no_vars scopes e h = record { quiet = true; rules = noted_same r.state; exact = sym (and-true r.whole) }
  items_exact view r (more_vars v vs) scopes e h =
      let first = item_exact view r v scopes e h in
      let others = items_exact view (made_item view r v) vs scopes ((item_kept view r v).scopes ∙ e) h in
      record {
        quiet = first.quiet && others.quiet;
        rules = noted_trans first.rules others.rules;
        exact = others.exact ∙ ap (λ w. w && (others.quiet && not (items_use_faulty scopes view vs))) first.exact ∙
            then_parts r.whole first.quiet (item_uses_faulty scopes view v) others.quiet (items_use_faulty scopes view vs);
      }

  item_exact : (view : List Level) (r : MadeFields) (v : VarTree) (scopes : List Names) → held r.state ≡ scopes → HoldSimpleConstants scopes →
      ItemsExact r (made_item view r v) (item_uses_faulty scopes view v)
  item_exact view r (var_item xs t) scopes e h =
      let m = made_exact false r.state view t scopes e h in group_fields_exact r (made false r.state view t).state (made false r.state view t).t m.quiet
      (type_uses_faulty scopes view t) xs m.rules m.exact

-- ## The law

pub written_exactly : (s : State) (view : List Level) → HoldSimpleConstants s.blocks.scopes → AreWrittenExactly s view
written_exactly s view h =
    record {
      constants = λ c. faulty_exactly (constant_value s.blocks.scopes view c) (broken_constant s.blocks.scopes view c)
          (constant_uses_faulty s.blocks.scopes view c) (constant_exact s.blocks.scopes view c);
      types = λ carried t. made_exactly s (made carried s view t) (type_uses_faulty s.blocks.scopes view t)
          (made_exact carried s view t s.blocks.scopes refl h);
      groups = λ g. faulty_exactly (group_type s view g) (broken_group s view g) (group_uses_faulty s.blocks.scopes view g) (group_exact s view g);
    }
