-- What the evaluations that wait make of what the innermost call comes to.
use Rattle.std.proofs.Common.{◌≡◌, ℕ, zero, suc, List, [], ◌∷◌, ◌++◌, Option, None, Some, refl, sym, ◌∙◌, ap, length, take, arith}
use Rattle.std.specs.Prelude.{Result, Ok, Err, OnOk, IfErr}
use Rattle.std.specs.List.{slice_get}
use Rattle.gx_base.specs.declared.code.Code.TheVariants.{GLXD0001}
use Rattle.gx_types.specs.SchemaSet.{SchemaSet}
use Rattle.gx_model.specs.Forest.{Forest}
use Rattle.gx_model.specs.Item.{Items}
use Rattle.gx_core.specs.declared.signature.FunctionSignature.{FunctionSignature}
use Rattle.gx_plan.specs.Plan.{FunctionOfPlan}
use Rattle.gx_core.specs.Converting.{converted, arguments_converted}
use Rattle.gx_core.specs.declared.expression.Binder.{Binder}
use Rattle.gx_core.specs.Functions.{arguments_bound}
use Rattle.gx_joins.specs.JoinedMeaning.{joined_calls}
use Rattle.gx_core.specs.declared.operator.Operator.TheVariants as operators
use Rattle.gx_core.specs.Meaning.{CallOutcomes, Bindings}
use Rattle.gx_core.specs.Outcome.{Outcome, gives, raises, wrong, after, given}
use Rattle.gx_machine.specs.declared.failure.Failure.{Failure}
use Rattle.gx_machine.specs.declared.frames.Frame.{Frame}
use Rattle.gx_machine.specs.Failing.{FailsSo}
use Rattle.gx_machine.specs.Frames.{function_called, frames_resumed}
use Rattle.gx_machine.specs.Resume.{context_with, operated}
use Rattle.gx_machine.proofs.JoinedCalls.{joined_calls_end, joined_calls_go_on}
use Rattle.gx_machine.proofs.Resuming.{fails_through}

-- a failure of the innermost call is that of the whole
pub frames_fail : (s : SchemaSet) (functions : List FunctionOfPlan) (globals : Bindings) (later : Forest) (frames : List Frame) (e : Failure) (o : Outcome Items)
    → FailsSo e o → FailsSo e (frames_resumed s functions globals later frames o)
frames_fail s functions globals later [] e o h = h
frames_fail s functions globals later (frame ∷ frames) e o h =
    frames_fail s functions globals later frames e _
    (fails_through (after o (λ xs left. converted s frame.result.now xs left)) _ e (fails_through o (λ xs left. converted s frame.result.now xs left) e h))

-- ---- a call between its marks

pub call_entered : (s : SchemaSet) (calls : CallOutcomes) (signature : FunctionSignature) (count : ℕ) (operands values : List Items) (rest : Items) (forest : Forest) (next : Items → Forest → Outcome Items)
    → arguments_converted s signature.parameters operands forest ≡ gives values forest
    → operated (context_with s calls) (operators.User signature count) operands rest forest next ≡ after (calls signature values forest) (λ more left. next (rest ++ more) left)
call_entered s calls signature count operands values rest forest next e =
    ap (λ (o : Outcome (List Items)). after (after o (λ arguments left. calls signature arguments left)) (λ more left. next (rest ++ more) left)) e

pub call_fails : (s : SchemaSet) (calls : CallOutcomes) (signature : FunctionSignature) (count : ℕ) (operands : List Items) (rest : Items) (forest : Forest) (next : Items → Forest → Outcome Items) (e : Failure)
    → FailsSo e (after (arguments_converted s signature.parameters operands forest) (λ arguments left. calls signature arguments left))
    → FailsSo e (operated (context_with s calls) (operators.User signature count) operands rest forest next)
call_fails s calls signature count operands rest forest next e h =
    fails_through (after (arguments_converted s signature.parameters operands forest) (λ arguments left. calls signature arguments left)) (λ more left. next (rest ++ more) left) e h

-- ---- a call of a function

pub call_goes_on : (s : SchemaSet) (functions : List FunctionOfPlan) (globals : Bindings) (now left : ℕ) (signature : FunctionSignature) (values : List Items) (forest : Forest) (f : FunctionOfPlan)
    → now ≡ suc left → slice_get functions signature.number ≡ Some f → function_called s functions globals left values forest f ≡ joined_calls s functions globals now signature values forest
call_goes_on s functions globals now left signature values forest f e h =
    sym (ap (λ (n : ℕ). joined_calls s functions globals n signature values forest) e
    ∙ joined_calls_go_on s functions globals left signature values forest
    ∙ ap (λ (o : Option FunctionOfPlan). given o (function_called s functions globals left values forest)) h)

pub call_ends : (s : SchemaSet) (functions : List FunctionOfPlan) (globals : Bindings) (now : ℕ) (signature : FunctionSignature) (values : List Items) (forest : Forest)
    → now ≡ zero → joined_calls s functions globals now signature values forest ≡ raises GLXD0001
call_ends s functions globals now signature values forest e =
    ap (λ (n : ℕ). joined_calls s functions globals n signature values forest) e ∙ joined_calls_end s functions globals signature values forest

pub call_is_wrong : (s : SchemaSet) (functions : List FunctionOfPlan) (globals : Bindings) (now left : ℕ) (signature : FunctionSignature) (values : List Items) (forest : Forest)
    → now ≡ suc left → slice_get functions signature.number ≡ None → joined_calls s functions globals now signature values forest ≡ wrong
call_is_wrong s functions globals now left signature values forest e h =
    ap (λ (n : ℕ). joined_calls s functions globals n signature values forest) e
    ∙ joined_calls_go_on s functions globals left signature values forest
    ∙ ap (λ (o : Option FunctionOfPlan). given o (function_called s functions globals left values forest)) h

-- ---- parameters

-- where one of both is shorter, the rest of the other is bound to nothing
pub bound_alike : (parameters : List Binder) (values : List Items) → arguments_bound (take (length (take (length parameters) values)) parameters) (take (length parameters) values) ≡ arguments_bound parameters values
bound_alike [] values = refl
bound_alike (p ∷ parameters) [] = refl
bound_alike (p ∷ parameters) (v ∷ values) = ap (λ (bindings : Bindings). (p.variable, v) ∷ bindings) (bound_alike parameters values)

-- the last of as many
pub last_bound : (parameters : List Binder) (values : List Items) (p : Binder) (v : Items) (bindings : Bindings) → length parameters ≡ length values
    → arguments_bound parameters values ++ (p.variable, v) ∷ bindings ≡ arguments_bound (parameters ++ p ∷ []) (values ++ v ∷ []) ++ bindings
last_bound [] [] p v bindings e = refl
last_bound [] (w ∷ values) p v bindings e = absurd (omega arith)
last_bound (q ∷ parameters) [] p v bindings e = absurd (omega arith)
last_bound (q ∷ parameters) (w ∷ values) p v bindings e = ap (λ (bs : Bindings). (q.variable, w) ∷ bs) (last_bound parameters values p v bindings (omega arith))

-- ---- a piece of work of the innermost call

pub frames_follow : {T E : Type 0} (r : Result T E) (s : SchemaSet) (functions : List FunctionOfPlan) (globals : Bindings) (later : Forest) (frames : List Frame) (o p : Outcome Items)
    → OnOk r (o ≡ p) → OnOk r (frames_resumed s functions globals later frames o ≡ frames_resumed s functions globals later frames p)
frames_follow (Ok x) s functions globals later frames o p h = ap (frames_resumed s functions globals later frames) h
frames_follow (Err e) s functions globals later frames o p h = h

pub failure_follows : {T : Type 0} (r : Result T Failure) (s : SchemaSet) (functions : List FunctionOfPlan) (globals : Bindings) (later : Forest) (frames : List Frame) (o : Outcome Items)
    → IfErr r (λ e. FailsSo e o) → IfErr r (λ e. FailsSo e (frames_resumed s functions globals later frames o))
failure_follows (Ok x) s functions globals later frames o h = h
failure_follows (Err e) s functions globals later frames o h = frames_fail s functions globals later frames e o h
