-- Who waits in a rendezvous, and what is kept where it waits there no more.
use Rattle.std.proofs.Common.{◌≡◌, ◌≢◌, ℕ, suc, ℤ, List, [], ◌∷◌, ◌++◌, length, slice_get, Some, refl, sym, ap, ◌∙◌, subst}
use Rattle.pfc_state.specs.Stands.{Stand, Is_ready, Waits}
use Rattle.pfc_state.specs.declared.waits.Arm.{Arm as WaitArm}
use Rattle.pfc_state.specs.declared.waits.Why.TheVariants.{Meeting}
use Rattle.pfc_meet.specs.Meetings.{IsInMeeting}
use Rattle.pfc_world.specs.Tables.{Table, at}
use Rattle.pfc_semantics.specs.Configurations.{Activation}
use Rattle.pfc_semantics.specs.Displays.{Display}
use Rattle.pfc_semantics.specs.Programs.{Block}
use Rattle.pfc_semantics.specs.Store.{Store}
use Rattle.pfc_cells.specs.Homes.{Homes}
use Rattle.pfc_cells.specs.Memory.{Entry, Entries}
use Rattle.pfc_machines.specs.Communications.{Communicating}
use Rattle.pfc_standing_code.specs.Settings.{View, Setting}
use Rattle.pfc_standing_code.specs.Performs.{own_view, own_accepts}
use Rattle.pfc_representation.specs.Levels.{Facts, LivingLevel, block_of, is_met_by, MayKeep, of_main, of_own, lent, SeesWith, SeesThrough, IsSeenBy}
use Rattle.pfc_representation.specs.Callers.{IsCalled, AreCallers}
use Rattle.pfc_representation.specs.Keeping.{IsLender, meets, meets_lender}
use Rattle.pfc_representation.proofs.Kept.{may_keep}

-- ## Who is met

pub met_stand : (s : Stand) (p : ℕ) → is_met_by s p → (t : ℕ) × (arms : List WaitArm) × (s ≡ Waits (Meeting p) t arms)
met_stand (Waits (Meeting owner) t arms) p met = (t, arms, ap (λ n. Waits (Meeting n) t arms) met)
met_stand s p met = absurd met

pub met_by_one : (s : Stand) (p q : ℕ) → is_met_by s p → is_met_by s q → p ≡ q
met_by_one (Waits (Meeting owner) t arms) p q one two = sym one ∙ two
met_by_one s p q one two = absurd one

pub met_in_meeting : (s : Stand) (p : ℕ) → is_met_by s p → IsInMeeting s
met_in_meeting (Waits (Meeting owner) t arms) p met = tt
met_in_meeting s p met = absurd met

pub ready_unmet : (s : Stand) (p : ℕ) → s ≡ Is_ready → is_met_by s p → ⊥
ready_unmet s p ready met = (let none : is_met_by Is_ready p = subst (λ (x : Stand). is_met_by x p) ready met in none)

-- ## Lists of callers

-- none of these is this one
abbrev pub HasNot : ℕ → List ℕ → Type 0
HasNot gone xs = (k q : ℕ) → slice_get xs k ≡ Some q → q ≢ gone

pub has_not_tail : (gone x : ℕ) (xs : List ℕ) → HasNot gone (x ∷ xs) → HasNot gone xs
has_not_tail gone x xs h k q there = h (suc k) q there

pub has_not_behind : (gone : ℕ) (xs ys : List ℕ) → HasNot gone (xs ++ ys) → HasNot gone ys
has_not_behind gone [] ys h = h
has_not_behind gone (x ∷ xs) ys h = has_not_behind gone xs ys (has_not_tail gone x (xs ++ ys) h)

-- ## One waits in a rendezvous no more

module _ (facts : Facts) (homes : Homes) (entries : Entries) (store : Store) (table table' : Table) (p gone : ℕ)
    (rows : (r : ℕ) → r ≢ gone → at table'.rows r ≡ at table.rows r) (awake : (s : ℕ) → is_met_by (at table.rows p) s → ⊥)
    (only : (s : ℕ) → is_met_by (at table.rows gone) s → s ≡ p) where
  -- it lent to no other
  pub lends_to_none : (q r : ℕ) → q ≢ p → IsLender table q r → r ≢ gone
  lends_to_none _ _ apart (meets q r met) same = apart (only q (subst (λ n. is_met_by (at table.rows n) q) same met))
  lends_to_none _ _ apart (meets_lender q s r met inner) same =
      lends_to_none s r (λ (is : s ≡ p). awake q (subst (λ n. is_met_by (at table.rows n) q) is met)) inner same

  pub lenders_stay : (q r : ℕ) → q ≢ p → IsLender table q r → at table'.rows r ≡ at table.rows r
  lenders_stay q r apart lender = rows r (lends_to_none q r apart lender)

  keeps_less : (q : ℕ) (lenders : List ℕ) (mine : List Entry) (a : ℕ) → q ≡ p → HasNot gone lenders → MayKeep table entries q lenders mine a
      → MayKeep table' entries q lenders mine a
  keeps_less _ _ _ _ same without (of_main q lenders mine) = of_main q lenders mine
  keeps_less _ _ _ _ same without (of_own q lenders mine a among) = of_own q lenders mine a among
  keeps_less _ _ _ _ same without (lent q lenders mine a k r others there met inner) =
      let apart : r ≢ p = λ (is : r ≡ p). awake q (subst (λ n. is_met_by (at table.rows n) q) is met) in
      lent q lenders mine a k r others there (subst (λ (s : Stand). is_met_by s q) (sym (rows r (without k r there))) met)
      (may_keep table table' entries entries r others (entries r) a inner (λ s lender. (lenders_stay r s apart lender, refl)))

  with_less : (lenders : List ℕ) (mine : List Entry) (w : ℤ) (display : Display) (setting : Setting) (b : Block) (accepts : List ℕ) (view : View)
      → HasNot gone lenders → SeesWith facts homes entries store table p lenders mine w display setting b accepts view
      → SeesWith facts homes entries store table' p lenders mine w display setting b accepts view
  with_less lenders mine w display setting b accepts view without is =
      record {
        keeps = is.keeps;
        chain = is.chain;
        sees = is.sees;
        keeps_these = λ a kept. keeps_less p lenders mine a refl without (is.keeps_these a kept);
      }

  through_less : (mine : List Entry) (w : ℤ) (display : Display) (setting : Setting) (b : Block) (view : View) (others accepts meetings : List ℕ)
      → HasNot gone (meetings ++ others) → SeesThrough facts homes entries store table p mine w display setting b view others accepts meetings
      → SeesThrough facts homes entries store table' p mine w display setting b view others accepts meetings
  through_less mine w display setting b view others [] [] without is = with_less others mine w display setting b [] view without is
  through_less mine w display setting b view others (i ∷ accepts) (r ∷ meetings) without is = (
    with_less (r ∷ meetings ++ others) mine w display setting b (i ∷ accepts) view without is.0,
    through_less mine w display setting b view others accepts meetings (has_not_tail gone r (meetings ++ others) without) is.1,
  )
  through_less mine w display setting b view others [] (r ∷ meetings) without is = absurd is
  through_less mine w display setting b view others (i ∷ accepts) [] without is = absurd is

  pub seen_less : (callers : List ℕ) (mine : List Entry) (w : ℤ) (display : Display) (level : LivingLevel) → HasNot gone callers
      → IsSeenBy facts homes entries store table p callers mine w display level → IsSeenBy facts homes entries store table' p callers mine w display level
  seen_less callers mine w display level without is =
      record {
        others = is.others;
        met = is.met;
        sees =
            through_less mine w display level.setting (block_of level) (own_view level.setting.trial level.setting.view) is.others
            (own_accepts level.setting.trial level.setting.accepts) level.setting.meetings
            (subst (λ (xs : List ℕ). HasNot gone xs) is.met without) is.sees;
        around = is.around;
      }

  abbrev called_less : (room depth : ℕ) (level : LivingLevel) (w : ℤ) (latest : Communicating) (a b : Activation) (e : Entry) (below : List Entry)
      (outer : LivingLevel) (v : ℤ) (earlier : Communicating) → HasNot gone earlier.callers
      → IsCalled facts homes entries store table p room depth level w latest a b e below outer v earlier
      → IsCalled facts homes entries store table' p room depth level w latest a b e below outer v earlier
  called_less room depth level w latest a b e below outer v earlier without is =
      record {
        own = is.own;
        stands = is.stands;
        fits = is.fits;
        made = is.made;
        home = is.home;
        at = is.at;
        word = is.word;
        caller = is.caller;
        trial = is.trial;
        accepts = is.accepts;
        seen = seen_less earlier.callers below v a.display outer without is.seen;
        back = is.back;
      }

  pub callers_less : (room : ℕ) (level : LivingLevel) (w : ℤ) (latest : Communicating) (xs : List Activation) (es : List Entry) → HasNot gone latest.callers
      → AreCallers facts homes entries store table p room level w latest xs es → AreCallers facts homes entries store table' p room level w latest xs es
  callers_less room level w latest [] es without h = absurd h
  callers_less room level w latest (a ∷ xs) [] without h = absurd h
  callers_less room level w latest (a ∷ []) (e ∷ []) without h = h
  callers_less room level w latest (a ∷ []) (e ∷ f ∷ es) without h = absurd h
  callers_less room level w latest (a ∷ b ∷ xs) (e ∷ []) without h = absurd h
  callers_less room level w latest (a ∷ b ∷ xs) (e ∷ f ∷ es) without (outer, v, earlier, called, within, others) =
      let earlier_without : HasNot gone earlier.callers =
      has_not_behind gone level.setting.meetings earlier.callers (subst (λ (qs : List ℕ). HasNot gone qs) called.made.1 without) in (
        outer,
        v,
        earlier,
        called_less room (length (a ∷ b ∷ xs)) level w latest a b e (f ∷ es) outer v earlier earlier_without called,
        within,
        callers_less room outer v earlier (b ∷ xs) (f ∷ es) earlier_without others,
      )
