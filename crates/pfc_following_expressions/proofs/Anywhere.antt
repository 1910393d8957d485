-- The same for any names in view whose types and blocks are the program's.
use Rattle.std.proofs.Common.{◌+◌, sym, refl, subst, inl}
use Rattle.pfc_tree.specs.trees.Exprs.{desig}
use Rattle.pfc_types.specs.Blocks.{State}
use Rattle.pfc_types.specs.rules.Expressions.{find}
use Rattle.pfc_semantics.specs.Programs.{Block}
use Rattle.pfc_semantics.specs.Remainders.{Context}
use Rattle.pfc_semantics.specs.Expressions.{spot_of}
use Rattle.pfc_translation.specs.Expressions.{expr_code, desig_code, args_code}
use Rattle.pfc_standing_code.specs.Settings.{Setting, site_of}
use Rattle.pfc_standing_code.specs.Words.{IsChecked}
use Rattle.pfc_following_expressions.specs.Phrases.{ExpressionFollows, VariableFollows, ArgumentsFollow}
use Rattle.pfc_following_expressions.proofs.Expressions.{env_in, address_follows, expr_follows, args_follow, selectors_follow}

-- what is true with the program's own types and blocks
pub anywhere : (g : Setting) (b : Block) (x : Context) (P : Context → Type 0) → IsChecked g b x.env →
    P (record { env = env_in g x.env.view x.env.around; line = x.line }) → P x
anywhere g b x P checked h =
    subst (λ (state : State). P (record { env = record { state = state; view = x.env.view; around = x.env.around }; line = x.line })) (sym checked.state) h

pub expression_follows : (g : Setting) (b : Block) (x : Context) → ExpressionFollows g b x
expression_follows g b x checked =
    anywhere g b x (λ y. ExpressionFollows g b y) checked
    (λ known arms few e h is u go at n ops st waits on.
    expr_follows g b x.env.view x.env.around known x.line arms few e h is u go at n
    (at + (expr_code (site_of g b (record { env = env_in g x.env.view x.env.around; line = x.line })) e).size) ops st refl waits on)
    checked

pub variable_follows : (g : Setting) (b : Block) (x : Context) → VariableFollows g b x
variable_follows g b x checked own =
    anywhere g b x (λ y. VariableFollows g b y) checked by checked own
  where
    by : VariableFollows g b (record { env = env_in g x.env.view x.env.around; line = x.line })
    by known own arms few (desig y ss p) t is goal lends go at n ops st waits on =
        address_follows g b x.env.view x.env.around known x.line arms few (spot_of (env_in g x.env.view x.env.around)
        (find (env_in g x.env.view x.env.around) y)) ss t is.0 (inl own) is.1
        (selectors_follow g b x.env.view x.env.around known x.line arms few ss) goal go at n
        (at + (desig_code (site_of g b (record { env = env_in g x.env.view x.env.around; line = x.line })) (desig y ss p)).size) ops st refl waits
        (lends (spot_of (env_in g x.env.view x.env.around) (find (env_in g x.env.view x.env.around) y)).spot)
        (λ l w lies may lent. on l w lies)

pub arguments_follow : (g : Setting) (b : Block) (x : Context) → ArgumentsFollow g b x
arguments_follow g b x checked =
    anywhere g b x (λ y. ArgumentsFollow g b y) checked
    (λ known arms few args formals are before given call at n ops below held st waits lends.
    args_follow g b x.env.view x.env.around known x.line arms few args formals are before given call at n
    (at + (args_code (site_of g b (record { env = env_in g x.env.view x.env.around; line = x.line })) formals args).size) ops below held st refl waits lends)
    checked
