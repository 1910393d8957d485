-- Settling, on both sides.
use Rattle.std.proofs.Common.{◌≡◌, ℕ, Bool, true, false, List, [], ◌∷◌, length, map, if◌then◌else◌, refl, sym, ap, ◌∙◌, subst}
use Rattle.std.proofs.lemmas.List.{length-map}
use Rattle.pfc_program.specs.declared.tables.Tables.{Tables}
use Rattle.pfc_state.specs.Stands.{Stand, may_end}
use Rattle.pfc_world.specs.Tables.{Table}
use Rattle.pfc_world.specs.Tickets.{IsNew}
use Rattle.pfc_world.specs.Settling.{settled, may_all_end}
use Rattle.pfc_world.specs.Terminating.{terminated, terminated_where}
use Rattle.pfc_store.specs.Views.{store_view}
use Rattle.pfc_semantics.specs.Configurations as configurations
use Rattle.pfc_semantics.specs.Configurations.{Config, with_table}
use Rattle.pfc_semantics.specs.Processes.{ended_activity}
use Rattle.pfc_semantics.specs.Time.{ended_children, terminated_over, settled_config}
use Rattle.pfc_activities.specs.declared.source.Source.{Source}
use Rattle.pfc_activities.specs.declared.state.State.{State}
use Rattle.pfc_activities.specs.declared.activities.Activity.{Activity}
use Rattle.pfc_activities.specs.Shown.{Shown, shown, activities_shown}
use Rattle.pfc_activities.specs.Relation.{Stands, Reports}
use Rattle.pfc_settling.specs.Ending.{all_ended, all_left, lines_of, EndsChildren}
use Rattle.pfc_settling.proofs.Ending.{ended_are, left_are}
use Rattle.pfc_settling.proofs.Standings.{settled_acting, settled_rows, terminated_acting, terminated_rows, terminated_new}

-- ## The configuration

half_is : (c : Config) → may_all_end (settled c.table).rows ≡ false → settled_config c ≡ with_table c (settled c.table)
half_is c e =
    let w : Table = settled c.table in
    ap (λ (b : Bool). with_table (if b then terminated_over w c else c) (terminated_where b w)) e

whole_is : (c : Config) → may_all_end (settled c.table).rows ≡ true →
    settled_config c ≡ with_table (terminated_over (settled c.table) c) (terminated (settled c.table))
whole_is c e =
    let w : Table = settled c.table in
    ap (λ (b : Bool). with_table (if b then terminated_over w c else c) (terminated_where b w)) e

-- ## Lines

either_line : (b : Bool) (a : configurations.Activity) → (let x : configurations.Activity = if b then ended_activity a else a in x.line) ≡ a.line
either_line true a = refl
either_line false a = refl

lines_stay : (rows : List Stand) (cs : List configurations.Activity) → map (λ (a : configurations.Activity). a.line) (ended_children rows cs) ≡ map
    (λ (a : configurations.Activity). a.line) cs
lines_stay [] cs = refl
lines_stay (stand ∷ rows) [] = refl
lines_stay (stand ∷ rows) (a ∷ cs) =
    ap (λ (n : ℕ). n ∷ map (λ (x : configurations.Activity). x.line) (ended_children rows cs)) (either_line (may_end stand) a)
    ∙ ap (λ (l : List ℕ). a.line ∷ l) (lines_stay rows cs)

-- ## Where somebody may go on, or nobody serves

module _ (s mid : State) (c : Config) (is : mid ≡ record s { world = mid.world }) (world : mid.world ≡ settled s.world) where
  pub half_stands :
      (source : Source) → Stands source s c → (IsNew s.world.rows s.world.done → IsNew mid.world.rows mid.world.done) → may_all_end mid.world.rows ≡ false
      → Stands source mid (settled_config c)
  half_stands source stands fresh more =
      let agrees = stands.mirrors.agrees in
      let table : mid.world ≡ settled c.table = world ∙ ap settled agrees.table in
      let half : Stands source mid (with_table c (settled c.table)) = record {
        mirrors = record {
          activities = stands.mirrors.activities ∙ ap (λ (x : State). activities_shown source.program.tables x.activities.items) (sym is);
          agrees = record {
            table = table;
            counts = ap (λ (x : State). x.semaphores) is ∙ agrees.counts;
            monitors = ap (λ (x : State). x.monitors.holders) is ∙ agrees.monitors;
            resources = ap (λ (x : State). x.resources) is ∙ agrees.resources;
            store = ap (λ (x : State). store_view x.store) is ∙ agrees.store;
            input = ap (λ (x : State). x.input) is ∙ agrees.input;
            words = ap (λ (x : State). x.draws) is ∙ agrees.words;
            count = ap (λ (x : State). length x.activities.items) is ∙ agrees.count ∙ sym (settled_rows c.table);
            conditions = ap (λ (x : State). x.monitors.owners) is ∙ agrees.conditions;
          };
        };
        quiet = record {
          acting = settled_acting c.table ∙ stands.quiet.acting;
          fresh = subst (λ (w : Table). IsNew w.rows w.done) table (fresh (subst (λ (w : Table). IsNew w.rows w.done) (sym agrees.table) stands.quiet.fresh));
          sound = stands.quiet.sound;
        };
      } in
      subst (λ (d : Config). Stands source mid d) (sym (half_is c (sym (ap (λ (w : Table). may_all_end w.rows) table) ∙ more))) half

  pub half_reports : Reports s c → may_all_end mid.world.rows ≡ false → Reports mid (settled_config c)
  half_reports reports more =
      let table : mid.world ≡ settled c.table = world ∙ ap settled reports.table in
      let half : Reports mid (with_table c (settled c.table)) = record {
        table = table;
        acting = settled_acting c.table ∙ reports.acting;
        lines = ap (λ (x : State). map (λ (a : Activity). a.line) x.activities.items) is ∙ reports.lines;
      } in
      subst (λ (d : Config). Reports mid d) (sym (half_is c (sym (ap (λ (w : Table). may_all_end w.rows) table) ∙ more))) half

  -- ## Where the children end

  module _
      (end new : State) (serve : may_all_end mid.world.rows ≡ true) (ends : EndsChildren mid end) (end_is : new ≡ record end { world = new.world })
      (last : new.world ≡ terminated end.world)
    where
      pub whole_reports : Reports s c → Reports new (settled_config c)
      whole_reports reports =
          let w : Table = settled c.table in
          let table : mid.world ≡ w = world ∙ ap settled reports.table in
          let whole : Reports new (with_table (terminated_over w c) (terminated w)) = record {
            table = last ∙ ap (λ (x : State). terminated x.world) ends.rest ∙ ap terminated table;
            acting = terminated_acting w ∙ settled_acting c.table ∙ reports.acting;
            lines =
                ap lines_of end_is ∙ ends.lines ∙ ap lines_of is ∙ reports.lines ∙ sym (lines_stay w.rows c.activities);
          } in
          subst (λ (d : Config). Reports new d) (sym (whole_is c (sym (ap (λ (x : Table). may_all_end x.rows) table) ∙ serve))) whole

      pub whole_stands :
          (source : Source) → Stands source s c → (IsNew s.world.rows s.world.done → IsNew mid.world.rows mid.world.done) → Stands source new (settled_config c)
      whole_stands source stands fresh =
          let t : Tables = source.program.tables in
          let agrees = stands.mirrors.agrees in
          let w : Table = settled c.table in
          let table : mid.world ≡ w = world ∙ ap settled agrees.table in
          let seen : activities_shown t mid.activities.items ≡ map shown c.activities
          = ap (λ (x : State). activities_shown t x.activities.items) is ∙ sym stands.mirrors.activities in
          let stored : store_view mid.store ≡ c.store = ap (λ (x : State). store_view x.store) is ∙ agrees.store in
          let many : length new.activities.items ≡ length s.activities.items
          = sym (length-map new.activities.items (λ (a : Activity). a.line)) ∙ ap length (ap lines_of end_is ∙ ends.lines ∙ ap lines_of is)
          ∙ length-map s.activities.items (λ (a : Activity). a.line) in
          let whole : Stands source new (with_table (terminated_over w c) (terminated w)) = record {
            mirrors = record {
              activities =
                  ended_are w.rows c.activities ∙ ap (all_ended w.rows) (sym seen)
                  ∙ ap (λ (x : Table). all_ended x.rows (activities_shown t mid.activities.items)) (sym table)
                  ∙ sym (ends.activities t) ∙ ap (λ (x : State). activities_shown t x.activities.items) (sym end_is);
              agrees = record {
                table = last ∙ ap (λ (x : State). terminated x.world) ends.rest ∙ ap terminated table;
                counts = ap (λ (x : State). x.semaphores) end_is ∙ ap (λ (x : State). x.semaphores) ends.rest ∙
                    ap (λ (x : State). x.semaphores) is ∙ agrees.counts;
                monitors = ap (λ (x : State). x.monitors.holders) end_is ∙ ap (λ (x : State). x.monitors.holders) ends.rest ∙
                    ap (λ (x : State). x.monitors.holders) is ∙ agrees.monitors;
                resources = ap (λ (x : State). x.resources) end_is ∙ ap (λ (x : State). x.resources) ends.rest ∙
                    ap (λ (x : State). x.resources) is ∙ agrees.resources;
                store =
                    ap (λ (x : State). store_view x.store) end_is ∙ ends.store t
                    ∙ ap (λ (x : Table). all_left x.rows (activities_shown t mid.activities.items) (store_view mid.store)) table
                    ∙ ap (λ (xs : List Shown). all_left w.rows xs (store_view mid.store)) seen
                    ∙ ap (all_left w.rows (map shown c.activities)) stored
                    ∙ sym (left_are w.rows c.activities c.store);
                input = ap (λ (x : State). x.input) end_is ∙ ap (λ (x : State). x.input) ends.rest ∙ ap (λ (x : State). x.input) is ∙ agrees.input;
                words = ap (λ (x : State). x.draws) end_is ∙ ap (λ (x : State). x.draws) ends.rest ∙ ap (λ (x : State). x.draws) is ∙ agrees.words;
                count = many ∙ agrees.count ∙ sym (terminated_rows w ∙ settled_rows c.table);
                conditions = ap (λ (x : State). x.monitors.owners) end_is ∙ ap (λ (x : State). x.monitors.owners) ends.rest ∙
                    ap (λ (x : State). x.monitors.owners) is ∙ agrees.conditions;
              };
            };
            quiet = record {
              acting = terminated_acting w ∙ settled_acting c.table ∙ stands.quiet.acting;
              fresh = terminated_new w (subst (λ (x : Table). IsNew x.rows x.done) table
                  (fresh (subst (λ (x : Table). IsNew x.rows x.done) (sym agrees.table) stands.quiet.fresh)));
              sound = stands.quiet.sound;
            };
          } in
          subst (λ (d : Config). Stands source new d) (sym (whole_is c (sym (ap (λ (x : Table). may_all_end x.rows) table) ∙ serve))) whole
