-- What may stand for an expression may do so with hash joins, where its joins are fair.
use Rattle.std.proofs.Common.{List, ◌∙◌, subst, sym}
use Rattle.gx_types.specs.SchemaSet.{SchemaSet}
use Rattle.gx_model.specs.Forest.{Forest}
use Rattle.gx_model.specs.Item.{Items}
use Rattle.gx_core.specs.declared.signature.FunctionSignature.{FunctionSignature}
use Rattle.gx_core.specs.Outcome.{Outcome}
use Rattle.gx_core.specs.Meaning.{CallOutcomes}
use Rattle.gx_core.specs.Soundness.{typed_setting, calling_setting, context_of, Keeps, CallsKeepTypes}
use Rattle.gx_plan.specs.StandingFor.{CallsAgree}
use Rattle.gx_plan.proofs.TypedPlans.{plans_mean_their_typed_core}
use Rattle.gx_join_laws.specs.JoinedStanding.{FairJoinsMayStandFor}
use Rattle.gx_join_laws.proofs.FairMeaning.{fair_joins_are_hash_joins}

-- calls that agree with calls which keep their types keep them too
agreeing_keep : (s : SchemaSet) (known : List FunctionSignature) (calls others : CallOutcomes) (forest : Forest) → CallsKeepTypes (calling_setting s known calls) forest
    → CallsAgree (calling_setting s known calls) others forest → CallsKeepTypes (calling_setting s known others) forest
agreeing_keep s known calls others forest keep agree now signature values k e honest belong =
    subst (λ (o : Outcome Items). Keeps (typed_setting s) now signature.result o) (sym (agree now signature values k e honest belong))
    (keep now signature values k e honest belong)

pub fair_joins_may_stand_for : FairJoinsMayStandFor
fair_joins_may_stand_for s variables e other types ready stands known calls others called situation agree =
    fair_joins_are_hash_joins s variables known others other types (ready known others called) (record {
      bindings = situation.bindings;
      forest = situation.forest;
      honest = situation.honest;
      fits = situation.fits;
      calls_keep = agreeing_keep s known calls others situation.forest situation.calls_keep agree;
    })
    ∙ sym (plans_mean_their_typed_core (context_of (calling_setting s known others)) other situation.bindings situation.forest)
    ∙ stands known calls others called situation agree
