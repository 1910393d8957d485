use Rattle.std.proofs.Common.{List, ◌≡◌, ◌∙◌, sym, ap, map, rules, ℕ, nat_le, ◌+◌, length}
use Rattle.pfc_tree.specs.declared.tree.Group.{Group}
use Rattle.pfc_tree.specs.declared.tree.Part.{Part}
use Rattle.pfc_tree.specs.declared.tree.Sub.{fold_out-Sub}
use Rattle.pfc_tree.specs.declared.tree.Process.{fold_out-Process}
use Rattle.pfc_tree.specs.declared.tree.Entry.{Entry}
use Rattle.pfc_tree.specs.Symbols.{Text}
use Rattle.pfc_base.specs.declared.places.Place.{Place}
use Rattle.pfc_tree.specs.trees.Parts.{sub, process}
use Rattle.pfc_tree.specs.views.Types.{group_view}
use Rattle.pfc_tree.specs.views.Stmts.{body_view}
use Rattle.pfc_tree.specs.views.Parts.{kind_view, parts_view, entry_view, sub_view, process_view}
use Rattle.pfc_types.specs.Scopes.{here, scope_at}
use Rattle.pfc_types.specs.Views.{levels}
use Rattle.pfc_types.specs.rules.Declarations.{elsewhere, scope_cells, result_cells, process_cells, entries_state, parts_state, sub_headed, process_headed}
use Rattle.pfc_check.specs.States.{state_of, around}
use Rattle.pfc_check.proofs.Endings.{sub_walked, process_walked}
use Rattle.pfc_check.proofs.state.State.+parts.Goals as goal

pub sub-returns : goal.sub-returns
sub-returns t c =
    let tree = c.args.sub.now in
    let s = state_of c.args.self.now in
    let i = c.args.block.scope in
    let outer = around c.args.block in
    let name : Text × Place = (tree.name, tree.place) in
    let gs = map group_view tree.formals.items in
    let kind = kind_view tree.kind in
    let ps = parts_view tree.parts.items in
    let b = body_view tree.body in
    let headed = state_of c.sub_heading.new.self in
    let declared = state_of c.parts.new.self in
    let done = state_of c.body.new.self in
    let own = c.inside-inner.result.scope in
    let about = around c.inside-inner.result in
    let fits = c.sub_fits.result in
    let tree_is : sub_view tree ≡ sub tree.name gs kind ps b tree.place = search (rules, fold_out-Sub) in
    let own_is : own ≡ length s.blocks.scopes = c.inside-inner.ensures.scope ∙ c.len-own.ensures in
    let headed_is : headed ≡ sub_headed s i outer name gs kind =
    c.in_ok-sub_heading.ensures ∙ ap (λ (xs : List Group). sub_headed s i outer name (map group_view xs) kind) c.deref.ensures.value in
    let about_is : about ≡ here headed.blocks.scopes i outer = c.inside-inner.ensures.around ∙ c.here-around.ensures in
    let declared_is : declared ≡ parts_state elsewhere headed own about ps =
    c.in_ok-parts.ensures ∙ ap (λ (xs : List Part). parts_state elsewhere headed own about (parts_view xs)) c.deref-2.ensures.value in
    let fits_is : fits ≡ nat_le (scope_cells done.forms (scope_at done.blocks.scopes own) + result_cells kind) 65536 =
    c.sub_fits.ensures ∙ ap (λ (n : ℕ). nat_le (scope_cells done.forms (scope_at done.blocks.scopes n) + result_cells kind) 65536)
    (sym c.inside-inner.ensures.scope) in
    sub_walked s headed declared done (state_of c.unless.new.self) i own outer about
    (levels c.here-view.result) tree.name gs kind ps b tree.place fits (sub_view tree) tree_is
    own_is headed_is about_is declared_is c.here-view.ensures c.in_ok-body.ensures fits_is c.in_ok-unless.ensures

pub process-returns : goal.process-returns
process-returns t c =
    let tree = c.args.process.now in
    let s = state_of c.args.self.now in
    let i = c.args.block.scope in
    let outer = around c.args.block in
    let name : Text × Place = (tree.name, tree.place) in
    let gs = map group_view tree.formals.items in
    let es = map entry_view tree.entries.items in
    let ps = parts_view tree.parts.items in
    let b = body_view tree.body in
    let headed = state_of c.process_heading.new.self in
    let entered = state_of c.entries.new.self in
    let declared = state_of c.parts.new.self in
    let done = state_of c.body.new.self in
    let own = c.inside-inner.result.scope in
    let about = around c.inside-inner.result in
    let k = c.len-accepts.result in
    let fits = c.process_fits.result in
    let tree_is : process_view tree ≡ process tree.many tree.name gs es ps b tree.place = search (rules, fold_out-Process) in
    let own_is : own ≡ length s.blocks.scopes = c.inside-inner.ensures.scope ∙ c.len-own.ensures in
    let headed_is : headed ≡ process_headed s i outer tree.many name gs =
    c.in_ok-process_heading.ensures ∙ ap (λ (xs : List Group). process_headed s i outer tree.many name (map group_view xs)) c.deref.ensures.value in
    let about_is : about ≡ here headed.blocks.scopes i outer = c.inside-inner.ensures.around ∙ c.here-around.ensures in
    let entered_is : entered ≡ entries_state headed own about 0 es =
    c.in_ok-entries.ensures ∙ ap (λ (xs : List Entry). entries_state headed own about 0 (map entry_view xs)) c.deref-2.ensures.value in
    let declared_is : declared ≡ parts_state elsewhere entered own about ps =
    c.in_ok-parts.ensures ∙ ap (λ (xs : List Part). parts_state elsewhere entered own about (parts_view xs)) c.deref-3.ensures.value in
    let fits_is : fits ≡ nat_le (process_cells done own k) 65536 =
    c.process_fits.ensures ∙ ap (λ (n : ℕ). nat_le (process_cells done n k) 65536) (sym c.inside-inner.ensures.scope) in
    process_walked s headed entered declared done (state_of c.unless.new.self) i own k outer about
    (levels c.here-view.result) tree.many tree.name gs es ps b tree.place fits (process_view tree) tree_is
    own_is headed_is about_is entered_is declared_is c.len-accepts.ensures c.here-view.ensures c.in_ok-body.ensures fits_is c.in_ok-unless.ensures
