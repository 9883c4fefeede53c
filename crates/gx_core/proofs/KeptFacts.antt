-- What outcomes keep, in a forest that grows.
use Rattle.std.proofs.Common.{◌≡◌, Bool, true, false, [], ◌∷◌, Some, refl, subst, nat_eq, if◌then◌else◌}
use Rattle.gx_types.specs.SequenceType.{SequenceType}
use Rattle.gx_model.specs.Forest.{Forest}
use Rattle.gx_model.specs.Honest.{IsHonest}
use Rattle.gx_model.specs.Item.{Items}
use Rattle.gx_model.specs.Belongs.{Belongs}
use Rattle.gx_model.specs.Growth.{Extends}
use Rattle.gx_model.proofs.PublicLaws.{growth_is_an_order, values_stay}
use Rattle.gx_core.specs.Bindings.{look_up, Types}
use Rattle.gx_core.specs.Outcome.{Outcome, gives, raises, wrong, after}
use Rattle.gx_core.specs.Meaning.{all_of}
use Rattle.gx_core.specs.Soundness.{Setting, KeepsFact, IsOfType, AreOfTypes, CallsKeepTypes, Situation}
use Rattle.gx_core.specs.Laws.{AfterKeeps, BindingsFitStill, BindingFits, OperandsKeepTheirTypes}

-- what an outcome keeps in a forest, it keeps in each one that this one has grown from
keeps_from : {R : Type 0} (setting : Setting) (before now : Forest) (Fact : Forest → R → Type 0) (o : Outcome R) → Extends before now
    → KeepsFact setting now Fact o → KeepsFact setting before Fact o
keeps_from setting before now Fact (gives x last) e k =
    record { grown = growth_is_an_order.transitive before now last e k.grown; honest = k.honest; fact = k.fact }
keeps_from setting before now Fact (raises code) e k = tt
keeps_from setting before now Fact wrong e k = absurd k

-- what is made of a result
pub fact_after : {R S : Type 0} (setting : Setting) (before : Forest) (P : Forest → R → Type 0) (Q : Forest → S → Type 0) (o : Outcome R)
    (next : R → Forest → Outcome S) → KeepsFact setting before P o
    → ((x : R) (now : Forest) → Extends before now → IsHonest setting.schemas now → P now x → KeepsFact setting now Q (next x now))
    → KeepsFact setting before Q (after o next)
fact_after setting before P Q (gives x now) next k h =
    keeps_from setting before now Q (next x now) k.grown (h x now k.grown k.honest k.fact)
fact_after setting before P Q (raises code) next k h = tt
fact_after setting before P Q wrong next k h = absurd k

pub after_keeps : AfterKeeps
after_keeps setting before t u o next k h = fact_after setting before (IsOfType setting.schemas t) (IsOfType setting.schemas u) o next k h

-- a result that leaves the forest as it is
pub fact_at_once : {R : Type 0} (setting : Setting) (forest : Forest) (Fact : Forest → R → Type 0) (x : R) → IsHonest setting.schemas forest
    → Fact forest x → KeepsFact setting forest Fact (gives x forest)
fact_at_once setting forest Fact x honest fact = record { grown = growth_is_an_order.reflexive forest; honest = honest; fact = fact }

pub bindings_fit_still : BindingsFitStill
bindings_fit_still setting types bindings before now e fits number t found =
    let b =
    fits number t found in record {
      value = b.value;
      bound = b.bound;
      belongs = values_stay setting.schemas before now b.value t e b.belongs;
    }

pub binding_fits : BindingFits
binding_fits setting binder t xs types bindings forest fits belongs number u found =
    let b = elim (nat_eq binder.variable number) as (λ (same : Bool). (if same then Some t else look_up types number) ≡ Some u
    → (value : Items) × ((if same then Some xs else look_up bindings number) ≡ Some value) × Belongs setting.schemas forest value u) [
      | true ↦ λ g. let same : t ≡ u = cc in (xs, refl, subst (λ (v : SequenceType). Belongs setting.schemas forest xs v) same belongs)
      | false ↦ λ g. let b = fits number u g in (b.value, b.bound, b.belongs)
    ] found in
    record { value = b.0; bound = b.1; belongs = b.2 }

-- calls that keep their types keep them still
pub calls_keep_still : (setting : Setting) (before now : Forest) → Extends before now → CallsKeepTypes setting before → CallsKeepTypes setting now
calls_keep_still setting before now e keep last signature values known f honest belong =
    keep last signature values known (growth_is_an_order.transitive before now last e f) honest belong

-- the same bindings, later
abbrev pub later : (setting : Setting) (types : Types) (situation : Situation setting types) (now : Forest) → Extends situation.forest now
    → IsHonest setting.schemas now → Situation setting types
later setting types situation now e honest = record {
  bindings = situation.bindings;
  forest = now;
  honest = honest;
  fits = bindings_fit_still setting types situation.bindings situation.forest now e situation.fits;
  calls_keep = calls_keep_still setting situation.forest now e situation.calls_keep;
}

pub operands_keep : OperandsKeepTheirTypes
operands_keep setting types [] [] situation k = fact_at_once setting situation.forest (AreOfTypes setting.schemas []) [] situation.honest tt
operands_keep setting types [] (t ∷ ts) situation k = absurd k
operands_keep setting types (part ∷ parts) [] situation k = absurd k
operands_keep setting types (part ∷ parts) (t ∷ ts) situation k =
    fact_after setting situation.forest (IsOfType setting.schemas t) (AreOfTypes setting.schemas (t ∷ ts))
    (part situation.bindings situation.forest)
    (λ x now. after (all_of parts situation.bindings now) (λ xs last. gives (x ∷ xs) last)) (k.0 situation)
    (λ x now e honest b. fact_after setting now (AreOfTypes setting.schemas ts) (AreOfTypes setting.schemas (t ∷ ts))
    (all_of parts situation.bindings now) (λ xs last. gives (x ∷ xs) last)
    (operands_keep setting types parts ts (later setting types situation now e honest) k.1)
    (λ xs last f honest bs. fact_at_once setting last (AreOfTypes setting.schemas (t ∷ ts)) (x ∷ xs) honest
    (values_stay setting.schemas now last x t f b, bs)))
