-- The same for any names in view whose types and blocks are the program's.
use Rattle.std.proofs.Common.{ℕ, ◌≤◌, arith}
use Rattle.pfc_types.specs.rules.Expressions.{Env}
use Rattle.pfc_semantics.specs.Programs.{Block}
use Rattle.pfc_semantics.specs.Alternatives.{context}
use Rattle.pfc_standing_code.specs.Settings.{Setting}
use Rattle.pfc_following_expressions.proofs.Anywhere.{anywhere}
use Rattle.pfc_following_source.specs.structures.Structured.{NothingFollows, BlockFollows, ListFollows, IfFollows, IfElseFollows, CaseFollows, ArmListFollows}
use Rattle.pfc_following_source.specs.structures.Structured.{WhileFollows, RepeatFollows, ForeverFollows, ForFollows, CobeginFollows, AcceptFollows}
use Rattle.pfc_following_source.specs.structures.Structured.{AssignFollows}
use Rattle.pfc_following_source.specs.structures.Structured.{SendsFollow, ReceivesFollow, CallsFollow, RequeuesFollow, SelectStatementsFollow}
use Rattle.pfc_following_source.specs.structures.Structured.{EveryStatementFollows}
use Rattle.pfc_following_source.specs.structures.Structured.{EveryListFollows}
use Rattle.pfc_following_source.specs.structures.Left.{UntilFollows, PassFollows, PassEndFollows, ReplicaFollows}
use Rattle.pfc_following_source.proofs.structures.Compound.{empty_follows, null_follows, block_follows, none_follow, more_follow, if_follows, if_else_follows}
use Rattle.pfc_following_source.proofs.structures.Compound.{while_follows, repeat_follows, forever_follows, until_follows, cobegin_follows, accept_follows}
use Rattle.pfc_following_source.proofs.structures.Cases.{case_follows, no_arms_follow, more_arms_follow}
use Rattle.pfc_following_source.proofs.structures.Counting.{first_pass, behind_follows, for_follows}
use Rattle.pfc_following_source.proofs.structures.Replicas.{replica_follows}
use Rattle.pfc_following_source.proofs.structures.Selecting.{selected_follows, selected_else_follows}
use Rattle.pfc_following_source.proofs.structures.Single.{assigned_follows, sent_follows, received_follows, called_follows, requeued_follows}
use Rattle.pfc_following_source.proofs.structures.Every.{every_follows, all_follow}

least : (n : ℕ) → 0 ≤ n
least n = omega arith

pub nothing_follows : (g : Setting) (b : Block) (env : Env) → NothingFollows g b env
nothing_follows g b env checked =
    anywhere g b (context env 0) (λ y. NothingFollows g b y.env) checked
    (λ known own. (empty_follows g b env.view env.around known (least g.arms) own, null_follows g b env.view env.around known (least g.arms) own)) checked

pub list_follows : (g : Setting) (b : Block) (env : Env) → ListFollows g b env
list_follows g b env checked =
    anywhere g b (context env 0) (λ y. ListFollows g b y.env) checked
    (λ known own. (none_follow g b env.view env.around known (least g.arms) own, more_follow g b env.view env.around known (least g.arms) own)) checked

pub block_follows_anywhere : (g : Setting) (b : Block) (env : Env) → BlockFollows g b env
block_follows_anywhere g b env checked =
    anywhere g b (context env 0) (λ y. BlockFollows g b y.env) checked (λ known own. block_follows g b env.view env.around known (least g.arms) own) checked

pub if_then_follows : (g : Setting) (b : Block) (env : Env) → IfFollows g b env
if_then_follows g b env checked =
    anywhere g b (context env 0) (λ y. IfFollows g b y.env) checked (λ known own. if_follows g b env.view env.around known (least g.arms) own) checked

pub if_then_else_follows : (g : Setting) (b : Block) (env : Env) → IfElseFollows g b env
if_then_else_follows g b env checked =
    anywhere g b (context env 0) (λ y. IfElseFollows g b y.env) checked (λ known own. if_else_follows g b env.view env.around known (least g.arms) own) checked

pub case_of_follows : (g : Setting) (b : Block) (env : Env) → CaseFollows g b env
case_of_follows g b env checked =
    anywhere g b (context env 0) (λ y. CaseFollows g b y.env) checked (λ known own. case_follows g b env.view env.around known (least g.arms) own) checked

pub arm_list_follows : (g : Setting) (b : Block) (env : Env) → ArmListFollows g b env
arm_list_follows g b env checked =
    anywhere g b (context env 0) (λ y. ArmListFollows g b y.env) checked
    (λ known own. (no_arms_follow g b env.view env.around known (least g.arms) own, more_arms_follow g b env.view env.around known (least g.arms) own)) checked

pub while_do_follows : (g : Setting) (b : Block) (env : Env) → WhileFollows g b env
while_do_follows g b env checked =
    anywhere g b (context env 0) (λ y. WhileFollows g b y.env) checked (λ known own. while_follows g b env.view env.around known (least g.arms) own) checked

pub repeat_until_follows : (g : Setting) (b : Block) (env : Env) → RepeatFollows g b env
repeat_until_follows g b env checked =
    anywhere g b (context env 0) (λ y. RepeatFollows g b y.env) checked (λ known own. repeat_follows g b env.view env.around known (least g.arms) own) checked

pub repeat_forever_follows : (g : Setting) (b : Block) (env : Env) → ForeverFollows g b env
repeat_forever_follows g b env checked =
    anywhere g b (context env 0) (λ y. ForeverFollows g b y.env) checked (λ known own. forever_follows g b env.view env.around known (least g.arms) own) checked

pub for_statement_follows : (g : Setting) (b : Block) (env : Env) → ForFollows g b env
for_statement_follows g b env checked =
    anywhere g b (context env 0) (λ y. ForFollows g b y.env) checked (λ known own. for_follows g b env.view env.around known (least g.arms) own) checked

pub cobegin_statement_follows : (g : Setting) (b : Block) (env : Env) → CobeginFollows g b env
cobegin_statement_follows g b env checked =
    anywhere g b (context env 0) (λ y. CobeginFollows g b y.env) checked (λ known own. cobegin_follows g b env.view env.around known (least g.arms) own) checked

pub accepting_follows : (g : Setting) (b : Block) (env : Env) → AcceptFollows g b env
accepting_follows g b env checked =
    anywhere g b (context env 0) (λ y. AcceptFollows g b y.env) checked (λ known own. accept_follows g b env.view env.around known (least g.arms) own) checked

pub assignment_statement_follows : (g : Setting) (b : Block) (env : Env) → AssignFollows g b env
assignment_statement_follows g b env checked =
    anywhere g b (context env 0) (λ y. AssignFollows g b y.env) checked (λ known own. assigned_follows g b env.view env.around known (least g.arms) own) checked

pub send_statement_follows : (g : Setting) (b : Block) (env : Env) → SendsFollow g b env
send_statement_follows g b env checked =
    anywhere g b (context env 0) (λ y. SendsFollow g b y.env) checked (λ known own. sent_follows g b env.view env.around known (least g.arms) own) checked

pub receive_statement_follows : (g : Setting) (b : Block) (env : Env) → ReceivesFollow g b env
receive_statement_follows g b env checked =
    anywhere g b (context env 0) (λ y. ReceivesFollow g b y.env) checked
    (λ known own. received_follows g b env.view env.around known (least g.arms) own) checked

pub call_statement_follows : (g : Setting) (b : Block) (env : Env) → CallsFollow g b env
call_statement_follows g b env checked =
    anywhere g b (context env 0) (λ y. CallsFollow g b y.env) checked (λ known own. called_follows g b env.view env.around known (least g.arms) own) checked

pub requeue_statement_follows : (g : Setting) (b : Block) (env : Env) → RequeuesFollow g b env
requeue_statement_follows g b env checked =
    anywhere g b (context env 0) (λ y. RequeuesFollow g b y.env) checked
    (λ known own. requeued_follows g b env.view env.around known (least g.arms) own) checked

pub select_statement_follows : (g : Setting) (b : Block) (env : Env) → SelectStatementsFollow g b env
select_statement_follows g b env checked =
    anywhere g b (context env 0) (λ y. SelectStatementsFollow g b y.env) checked
    (λ known own. (selected_follows g b env.view env.around known own, selected_else_follows g b env.view env.around known own)) checked

pub every_statement_anywhere : (g : Setting) (b : Block) (env : Env) → EveryStatementFollows g b env
every_statement_anywhere g b env checked =
    anywhere g b (context env 0) (λ y. EveryStatementFollows g b y.env) checked
    (λ known own. every_follows g b env.view env.around known (least g.arms) own) checked

pub every_list_anywhere : (g : Setting) (b : Block) (env : Env) → EveryListFollows g b env
every_list_anywhere g b env checked =
    anywhere g b (context env 0) (λ y. EveryListFollows g b y.env) checked (λ known own. all_follow g b env.view env.around known (least g.arms) own) checked

pub until_left_follows : (g : Setting) (b : Block) (env : Env) → UntilFollows g b env
until_left_follows g b env checked =
    anywhere g b (context env 0) (λ y. UntilFollows g b y.env) checked (λ known own. until_follows g b env.view env.around known (least g.arms) own) checked

pub pass_left_follows : (g : Setting) (b : Block) (env : Env) → PassFollows g b env
pass_left_follows g b env checked =
    anywhere g b (context env 0) (λ y. PassFollows g b y.env) checked (λ known own. first_pass g b env.view env.around known (least g.arms) own) checked

pub pass_end_follows : (g : Setting) (b : Block) (env : Env) → PassEndFollows g b env
pass_end_follows g b env checked =
    anywhere g b (context env 0) (λ y. PassEndFollows g b y.env) checked (λ known own. behind_follows g b env.view env.around known (least g.arms) own) checked

pub replica_left_follows : (g : Setting) (b : Block) (env : Env) → ReplicaFollows g b env
replica_left_follows g b env checked =
    anywhere g b (context env 0) (λ y. ReplicaFollows g b y.env) checked (λ known own. replica_follows g b env.view env.around known (least g.arms) own) checked
