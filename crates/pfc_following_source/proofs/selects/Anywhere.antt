-- The same for any names in view whose types and blocks are the program's.
use Rattle.std.proofs.Common.{◌+◌, refl}
use Rattle.pfc_semantics.specs.Programs.{Block}
use Rattle.pfc_semantics.specs.Remainders.{Context}
use Rattle.pfc_translation.specs.Statements.{stmts_code, branches_code}
use Rattle.pfc_types.specs.rules.Statements.{alts_scopes}
use Rattle.pfc_standing_code.specs.Settings.{Setting, site_of}
use Rattle.pfc_following_expressions.proofs.Anywhere.{anywhere}
use Rattle.pfc_following_expressions.proofs.Expressions.{env_in}
use Rattle.pfc_following_source.specs.selects.Phrases.{AlternativesFollow, OpeningFollows, SelectFollows, SelectElseFollows}
use Rattle.pfc_following_source.proofs.selects.Alternatives.{opening_follows, all_follow}
use Rattle.pfc_following_source.proofs.selects.Selects.{select_follows, select_else_follows}

abbrev inside : Setting → Context → Context
inside g x = record { env = env_in g x.env.view x.env.around; line = x.line }

pub alternatives_follow_anywhere : (g : Setting) (b : Block) (x : Context) → AlternativesFollow g b x
alternatives_follow_anywhere g b x checked =
    anywhere g b x (λ y. AlternativesFollow g b y) checked
    (λ known own alts sel k at ops arms few is. all_follow g b x.env.view x.env.around known own x.line k alts sel at ops arms few is) checked

pub opening_follows_anywhere : (g : Setting) (b : Block) (x : Context) → OpeningFollows g b x
opening_follows_anywhere g b x checked =
    anywhere g b x (λ y. OpeningFollows g b y) checked
    (λ known own a rest sel k at ops arms few guard is.
    opening_follows g b x.env.view x.env.around known own x.line k a.guard a rest sel at ops arms
    (all_follow g b x.env.view x.env.around known own x.line k rest) guard is)
    checked

pub select_follows_anywhere : (g : Setting) (b : Block) (x : Context) → SelectFollows g b x
select_follows_anywhere g b x checked =
    anywhere g b x (λ y. SelectFollows g b y) checked
    (λ known own pri m alts k is accepts at n ops st left.
    select_follows g b x.env.view x.env.around known own x.line k ops accepts pri m alts at n is st left) checked

pub select_else_follows_anywhere : (g : Setting) (b : Block) (x : Context) → SelectElseFollows g b x
select_else_follows_anywhere g b x checked =
    anywhere g b x (λ y. SelectElseFollows g b y) checked
    (λ known own pri m alts ts k is typed accepts at n ops st left.
    let s = site_of g b (inside g x) in
    let other = stmts_code s (m + alts_scopes alts) ts in
    select_else_follows g b x.env.view x.env.around known own x.line k ops accepts pri m alts ts at n other
    (branches_code s m alts other.size) is typed refl refl st left) checked
