-- A restriction that is answered with Yes is sound.
use Rattle.std.proofs.Common.{◌≡◌, Bool, true, false, not, ◌&&◌, List, [], ◌∷◌, Option, Some, None, inl, inr, refl, if◌then◌else◌}
use Rattle.std.specs.List.{list_any}
use Rattle.std.specs.Option.{option_or}
use Rattle.gx_types.specs.SchemaSet.{SchemaSet, declaration_of}
use Rattle.gx_types.specs.declared.declaration.AttributeUse.{AttributeUse}
use Rattle.gx_schema_restriction.specs.Attributes.{allows, first_added, first_loosened, is_required_as}
use Rattle.gx_schema_restriction.specs.Laws.{YesMeansSound}
use Rattle.gx_schema_restriction.specs.Restriction.{uses_of_base}
use Rattle.gx_schema_restriction.specs.SoundRestriction.{AreAllowedBy, AreRequiredAsBy}

first_none : (one other : Option AttributeUse) → option_or one other ≡ None → one ≡ None
first_none None other e = refl
first_none (Some x) other e = absurd (cc)

second_none : (one other : Option AttributeUse) → option_or one other ≡ None → other ≡ None
second_none None other e = e
second_none (Some x) other e = absurd (cc)

-- ---- no attribute is added

passes_here : (b : Bool) (given : AttributeUse) (others : Option AttributeUse) → (if b then others else Some given) ≡ None → (b ≡ true) × (others ≡ None)
passes_here true given others e = (refl, e)
passes_here false given others e = absurd (cc)

none_added : (schemas : SchemaSet) (base uses : List AttributeUse) → first_added schemas base uses ≡ None → AreAllowedBy schemas base uses
none_added schemas base [] e = tt
none_added schemas base (given ∷ others) e =
    let here = passes_here (list_any (allows schemas given) base) given (first_added schemas base others) e in (here.0, none_added schemas base others here.1)

-- ---- none is loosened

kept_here : (b : Bool) (inherited : AttributeUse) (others : Option AttributeUse) → (if b then Some inherited else others) ≡ None → (b ≡ false) × (others ≡ None)
kept_here true inherited others e = absurd (cc)
kept_here false inherited others e = (refl, e)

required_stays : (required found : Bool) → (required && not found) ≡ false → required ≡ true → found ≡ true
required_stays true true e h = refl
required_stays true false e h = absurd (cc)
required_stays false found e h = absurd (cc)

none_loosened : (base uses : List AttributeUse) → first_loosened base uses ≡ None → AreRequiredAsBy base uses
none_loosened [] uses e = tt
none_loosened (inherited ∷ others) uses e =
    let found = list_any (is_required_as inherited) uses in
    let here = kept_here (inherited.required && not found) inherited (first_loosened others uses) e in
    (λ required. required_stays inherited.required found here.0 required, none_loosened others uses here.1)

-- ---- all

pub yes_means_sound : YesMeansSound
yes_means_sound schemas pairs declared (inl h) = absurd h.0
yes_means_sound schemas pairs declared (inr h) =
    let answer = h.0 in
    let verdict = answer.verdict_is in
    let base = uses_of_base (declaration_of schemas declared.base) in
    let added = first_added schemas base declared.attributes in
    let loosened = first_loosened base declared.attributes in record {
      content = verdict.0;
      allowed = none_added schemas base declared.attributes (first_none added loosened h.1);
      required = none_loosened base declared.attributes (second_none added loosened h.1);
    }
