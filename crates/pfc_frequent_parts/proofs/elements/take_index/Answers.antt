use Rattle.std.proofs.Common.{◌≡◌, List, [], ◌∷◌, ◌++◌, sym, ◌∙◌, ap}
use Rattle.std.specs.Prelude.{option_to_list}
use Rattle.pfc_semantics.specs.Alternatives.{context}
use Rattle.pfc_semantics.specs.Rewriting.{from_value}
use Rattle.pfc_semantics.specs.Values.{ordinal}
use Rattle.pfc_phrases.specs.Views.{env_view}
use Rattle.pfc_pending.specs.Waiting.{Waiting, awaits_of, over, waiting}
use Rattle.pfc_pending.specs.declared.pending.Pending.{Pending}
use Rattle.pfc_frequent_parts.proofs.Entered.{reached_same}
use Rattle.pfc_frequent_parts.proofs.Waiting.{waiting_more}
use Rattle.pfc_frequent_parts.proofs.elements.take_index.Goals as goal

pub returns-in-Some-clause-next : goal.returns-in-Some-clause-next
returns-in-Some-clause-next c = λ t line.
    let here = context (env_view c.args.site.env) line in
    let before = c.pop.new.self.items in
    let part = c.in-Some.part in
    let all : c.args.pending.now.items ≡ before ++ part ∷ [] = c.pop.ensures.items ∙ ap (λ o. before ++ option_to_list o) c.in-Some.is in
    reached_same t here (waiting t c.enter.new.pending.items) c.args.i c.enter.result (awaits_of (over t (waiting t before) part))
    c.ranges.i (c.enter.ensures.next t line)
    ∙ ap (λ (w : Waiting). from_value here (awaits_of w) (ordinal c.args.i))
    (sym (ap (λ (items : List Pending). waiting t items) all ∙ waiting_more t before part))
