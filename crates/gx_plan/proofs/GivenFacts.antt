-- Facts about what an outcome gives, where it gives something, and about the evaluations that follow it.
use Rattle.std.proofs.Common.{◌≡◌, Bool, true, false, Option, None, Some, List, [], ◌∷◌, ◌++◌, refl, if◌then◌else◌}
use Rattle.std.specs.List.{AllByRecursion}
use Rattle.gx_types.specs.SchemaSet.{SchemaSet}
use Rattle.gx_model.specs.Forest.{Forest}
use Rattle.gx_model.specs.Honest.{IsHonest}
use Rattle.gx_model.specs.Growth.{Extends}
use Rattle.gx_model.proofs.PublicLaws.{growth_is_an_order}
use Rattle.gx_core.specs.Outcome.{Outcome, gives, raises, wrong, after, given}
use Rattle.gx_core.specs.Evaluations.{PartEvaluation, evaluations_after, evaluations_given}
use Rattle.gx_core.specs.Soundness.{Setting, Leaves, KeepsFact}

-- ---- outcomes that give something

-- where an outcome gives a result, the forest has grown and is honest, and there is a fact about the result
abbrev pub GivesFact : {R : Type 0} → SchemaSet → (before : Forest) → (Fact : Forest → R → Type 0) → Outcome R → Type 0
GivesFact schemas before Fact (gives result now) = Leaves schemas before Fact result now
GivesFact schemas before Fact (raises code) = Unit {0}
GivesFact schemas before Fact wrong = Unit {0}

pub kept_gives : {R : Type 0} (setting : Setting) (before : Forest) (Fact : Forest → R → Type 0) (o : Outcome R) → KeepsFact setting before Fact o
    → GivesFact setting.schemas before Fact o
kept_gives setting before Fact (gives x now) k = k
kept_gives setting before Fact (raises code) k = tt
kept_gives setting before Fact wrong k = tt

pub gives_from : {R : Type 0} (s : SchemaSet) (before now : Forest) (Fact : Forest → R → Type 0) (o : Outcome R) → Extends before now
    → GivesFact s now Fact o → GivesFact s before Fact o
gives_from s before now Fact (gives x last) e k =
    record { grown = growth_is_an_order.transitive before now last e k.grown; honest = k.honest; fact = k.fact }
gives_from s before now Fact (raises code) e k = tt
gives_from s before now Fact wrong e k = tt

pub gives_after : {R S : Type 0} (s : SchemaSet) (before : Forest) (P : Forest → R → Type 0) (Q : Forest → S → Type 0) (o : Outcome R)
    (next : R → Forest → Outcome S) → GivesFact s before P o
    → ((x : R) (now : Forest) → Extends before now → IsHonest s now → P now x → GivesFact s now Q (next x now))
    → GivesFact s before Q (after o next)
gives_after s before P Q (gives x now) next k h = gives_from s before now Q (next x now) k.grown (h x now k.grown k.honest k.fact)
gives_after s before P Q (raises code) next k h = tt
gives_after s before P Q wrong next k h = tt

pub gives_given : {R S : Type 0} (s : SchemaSet) (before : Forest) (Q : Forest → S → Type 0) (found : Option R) (next : R → Outcome S)
    → ((x : R) → GivesFact s before Q (next x)) → GivesFact s before Q (given found next)
gives_given s before Q None next h = tt
gives_given s before Q (Some x) next h = h x

pub gives_at_once : {R : Type 0} (s : SchemaSet) (forest : Forest) (Fact : Forest → R → Type 0) (x : R) → IsHonest s forest → Fact forest x
    → GivesFact s forest Fact (gives x forest)
gives_at_once s forest Fact x honest fact = record { grown = growth_is_an_order.reflexive forest; honest = honest; fact = fact }

-- ---- what holds of all evaluations

pub all_after : {R : Type 0} (s : SchemaSet) (Holds : PartEvaluation → Type 0) (before : Forest) (Fact : Forest → R → Type 0) (o : Outcome R)
    (asked : R → Forest → List PartEvaluation) → GivesFact s before Fact o
    → ((x : R) (now : Forest) → Extends before now → IsHonest s now → Fact now x → AllByRecursion Holds (asked x now))
    → AllByRecursion Holds (evaluations_after o asked)
all_after s Holds before Fact (gives x now) asked k h = h x now k.grown k.honest k.fact
all_after s Holds before Fact (raises code) asked k h = tt
all_after s Holds before Fact wrong asked k h = tt

pub all_given : {R : Type 0} (Holds : PartEvaluation → Type 0) (found : Option R) (asked : R → List PartEvaluation)
    → ((x : R) → AllByRecursion Holds (asked x)) → AllByRecursion Holds (evaluations_given found asked)
all_given Holds None asked h = tt
all_given Holds (Some x) asked h = h x

pub all_either : (Holds : PartEvaluation → Type 0) (b : Bool) (chosen others : List PartEvaluation) → (b ≡ true → AllByRecursion Holds chosen)
    → AllByRecursion Holds others → AllByRecursion Holds (if b then chosen else others)
all_either Holds true chosen others h k = h refl
all_either Holds false chosen others h k = k

pub all_both : (Holds : PartEvaluation → Type 0) (first second : List PartEvaluation) → AllByRecursion Holds first → AllByRecursion Holds second
    → AllByRecursion Holds (first ++ second)
all_both Holds [] second h k = k
all_both Holds (x ∷ first) second h k = (h.0, all_both Holds first second h.1 k)
