-- The restrictions of schemas have a judgement.
use Rattle.std.proofs.Common.{◌≡◌, ℕ, zero, suc, ◌+◌, ◌^◌, ◌<◌, Bool, true, false, List, [], ◌∷◌, ◌⊎◌, Option, None, Some, refl, sym, ◌∙◌, ap, subst, length, slice_get, arith, inl, inr, unwrap_or, is_some, if◌then◌else◌}
use Rattle.std.specs.Prelude.{Vec}
use Rattle.std.specs.declared.alloc.Global.{Global}
use denote.RawPtr.{null_ptr}
use Rattle.std.proofs.lemmas.Bool.{false≢true}
use Rattle.std.proofs.lemmas.Option.{slice_get_cases}
use Rattle.gx_types.specs.declared.declaration.AttributeUse.{AttributeUse}
use Rattle.gx_types.specs.declared.declaration.Declared.{Declared}
use Rattle.gx_types.specs.declared.shape.Shape.TheVariants as shapes
use Rattle.gx_types.specs.Derivation.{bases_of}
use Rattle.gx_types.specs.Grounded.{Grounded}
use Rattle.gx_types.specs.SameItemType.{same_type_name}
use Rattle.gx_types.specs.SchemaInvariant.{HoldsOfEach}
use Rattle.gx_types.specs.SchemaSet.{SchemaSet, declaration_among, declaration_of}
use Rattle.gx_types.specs.TypeRules.{positions_of}
use Rattle.gx_base.specs.declared.type_name.TypeName.{TypeName}
use Rattle.gx_include.specs.declared.verdict.Verdict.{Verdict}
use Rattle.gx_include.specs.declared.verdict.Verdict.TheVariants.{Yes, No}
use Rattle.gx_include.specs.Existence.{AnAnswerOfTypesExists}
use Rattle.gx_schema_restriction.specs.declared.restrictions.Restrictions.{Restrictions}
use Rattle.gx_schema_restriction.specs.declared.restrictions.Restrictions.TheVariants.{Sound, Unsound, Undecided}
use Rattle.gx_schema_restriction.specs.Laws.{AJudgementExists, AreCountable, IsCountable}
use Rattle.gx_schema_restriction.specs.Restriction.{AreUsesJudged, IsContentVerdict, IsRestriction, IsUndecided, children_in, children_of_base, use_fault}
use Rattle.gx_schema_restriction.specs.Restrictions.{AreJudged, AreSoundBelow, is_restricted}
use Rattle.gx_schema_restriction.proofs.Below.{below_more}

a_heap : Global
a_heap = record { memory = record { seal = tt } }

vec_of_one : {X : Type 0} (x : X) → (v : Vec X Global) × (v.items ≡ x ∷ [])
vec_of_one {X} x = (record { ptr = null_ptr; len = 1; cap = 1; alloc = a_heap; items = x ∷ []; ok = (refl, omega arith); small = omega arith }, refl)

-- what holds of each of a list

held_at : {X : Type 0} (Fact : X → Type 0) (xs : List X) (i : ℕ) (x : X) → HoldsOfEach Fact xs → slice_get xs i ≡ Some x → Fact x
held_at Fact [] i x h e = absurd (false≢true (ap is_some e))
held_at Fact (y ∷ ys) zero x h e = subst Fact (ap (λ found. unwrap_or found y) e) h.0
held_at Fact (y ∷ ys) (suc i) x h e = held_at Fact ys i x h.1 e

-- of a declaration that is found, and of none, where it holds by default
abbrev HeldBy : (Declared → Type 0) → Option Declared → Type 0
HeldBy Fact None = Unit {0}
HeldBy Fact (Some declared) = Fact declared

held_if : (Fact : Declared → Type 0) (same : Bool) (declared : Declared) (other : Option Declared) → Fact declared → HeldBy Fact other → HeldBy Fact (if same then Some declared else other)
held_if Fact true declared other h k = h
held_if Fact false declared other h k = k

held_of : (Fact : Declared → Type 0) (types : List Declared) (t : TypeName) → HoldsOfEach Fact types → HeldBy Fact (declaration_among types t)
held_of Fact [] t h = tt
held_of Fact (declared ∷ others) t h = held_if Fact (same_type_name declared.name t) declared (declaration_among others t) h.0 (held_of Fact others t h.1)

base_is_countable : (base : Option Declared) → HeldBy IsCountable base → positions_of (children_of_base base) < 2 ^ 62
base_is_countable None h = omega arith
base_is_countable (Some base) h = h

-- the verdict on one type

uses_judged : (fault : Option AttributeUse) → (verdict : Verdict) × AreUsesJudged fault verdict
uses_judged None = (Yes, refl)
uses_judged (Some found) =
    let list = vec_of_one (shapes.Attr found.name found.kind) in
    (No list.0, (found, refl, list.1))

module _ (some_answer : AnAnswerOfTypesExists) (schemas : SchemaSet) (pairs : ℕ) (grounded : Grounded (bases_of schemas)) (countable : AreCountable schemas.types) (few : pairs < 2 ^ 62) where
  content_judged : (declared : Declared) → IsCountable declared → IsUndecided schemas pairs declared ⊎ ((verdict : Verdict) × IsContentVerdict schemas pairs declared verdict)
  content_judged declared small =
      some_answer schemas (children_in declared.content) (children_of_base (declaration_of schemas declared.base)) pairs grounded small
      (base_is_countable (declaration_of schemas declared.base) (held_of IsCountable schemas.types declared.base countable)) few

  verdict_by_content : (declared : Declared) (verdict : Verdict) → IsContentVerdict schemas pairs declared verdict → (verdict : Verdict) × IsRestriction schemas pairs declared verdict
  verdict_by_content declared Yes h =
      let uses = uses_judged (use_fault schemas declared) in
      (uses.0, inr (h, uses.1))
  verdict_by_content declared (No list) h = (No list, inl (tt, h))

  some_verdict : (declared : Declared) → IsCountable declared → IsUndecided schemas pairs declared ⊎ ((verdict : Verdict) × IsRestriction schemas pairs declared verdict)
  some_verdict declared small =
      elim (content_judged declared small) [
        | inl many ↦ inl many
        | inr judged ↦ inr (verdict_by_content declared judged.0 judged.1)
      ]

  module _ (restricted : List Bool) where
    abbrev Judged : Type 0
    Judged = (judgement : Restrictions) × AreJudged schemas pairs restricted judgement

    -- one type more, and then the others
    judge_marked : (number : ℕ) (declared : Declared) (verdict : Verdict) → slice_get schemas.types number ≡ Some declared → is_restricted restricted number ≡ true
        → AreSoundBelow schemas pairs restricted number → IsRestriction schemas pairs declared verdict → (AreSoundBelow schemas pairs restricted (number + 1) → Judged) → Judged
    judge_marked number declared Yes here is_one sound h others = others (below_more schemas pairs restricted number declared here (λ e. h) sound)
    judge_marked number declared (No list) here is_one sound h others = (Unsound number list, (sound, (declared, here, is_one, h)))

    judge_if : (number : ℕ) (declared : Declared) (is_one : Bool) → is_restricted restricted number ≡ is_one → slice_get schemas.types number ≡ Some declared
        → AreSoundBelow schemas pairs restricted number → (AreSoundBelow schemas pairs restricted (number + 1) → Judged) → Judged
    judge_if number declared true e here sound others =
        elim (some_verdict declared (held_at IsCountable schemas.types number declared countable here)) [
          | inl many ↦ (Undecided number, (sound, (declared, here, e, many)))
          | inr judged ↦ judge_marked number declared judged.0 here e sound judged.1 others
        ]
    judge_if number declared false e here sound others = others (below_more schemas pairs restricted number declared here (λ is_one. absurd (false≢true (sym e ∙ is_one))) sound)

    judge_next : (number : ℕ) → number < length schemas.types → AreSoundBelow schemas pairs restricted number → (AreSoundBelow schemas pairs restricted (number + 1) → Judged) → Judged
    judge_next number l sound others =
        elim ((slice_get_cases schemas.types number).1) [
          | inl found ↦ judge_if number found.0 (is_restricted restricted number) refl found.2 sound others
          | inr past ↦ absurd (omega (arith, l, past.0))
        ]

    judge_others : (left number : ℕ) → number + left ≡ length schemas.types → AreSoundBelow schemas pairs restricted number → Judged
    judge_others zero number e sound = (Sound, subst (AreSoundBelow schemas pairs restricted) (omega (arith, e)) sound)
    judge_others (suc left) number e sound =
        judge_next number (omega (arith, e)) sound (λ more. judge_others left (number + 1) (omega (arith, e)) more)

pub a_judgement_exists : AnAnswerOfTypesExists → AJudgementExists
a_judgement_exists some_answer schemas pairs restricted grounded countable few =
    judge_others some_answer schemas pairs grounded countable few restricted (length schemas.types) 0 (omega arith) (λ number declared l. absurd (omega (arith, l)))
