-- What is kept for types stays their declarations and content models.
use Rattle.std.proofs.Common.{◌≡◌, Bool, true, false, cond, List, [], ◌∷◌, Option, Some, IfOk, Result, refl, sym, ◌∙◌, ap, subst, if◌then◌else◌, ◌↔◌, rules}
use Rattle.std.specs.Prelude.{IfSome, unwrap_or}
use Rattle.std.specs.Bool.{IsTrue}
use Rattle.std.specs.Borrow.{Bor}
use Rattle.std.specs.Cmp.Rules.{comparing}
use Rattle.indexmap.specs.IndexMap.{IndexMap, get}
use Rattle.gx_base.specs.declared.type_name.TypeName.{TypeName}
use Rattle.gx_types.specs.Grounded.{Grounded}
use Rattle.gx_types.specs.Derivation.{bases_of}
use Rattle.gx_types.specs.SameItemType.{same_type_name}
use Rattle.gx_types.specs.SequenceType.{SequenceType}
use Rattle.gx_types.specs.SchemaSet.{SchemaSet, declaration_among, declaration_of}
use Rattle.gx_types.specs.Takes.{Takes}
use Rattle.gx_types.specs.declared.declaration.Declared.{Declared}
use Rattle.gx_types.specs.declared.shape.Shape.{Shape}
use Rattle.gx_types.proofs.EqualNames.{type_names_are_equivalent}
use Rattle.gx_types.specs.TypeIndex.{equal_kinds}
use Rattle.gx_include_takes.specs.Tried.{Tried}
use Rattle.gx_model.specs.DeclaredContent.{text_model, complex_model, content_model}
use Rattle.gx_validate.specs.Taking.{takes_shapes}
use Rattle.gx_validate.specs.Takers.{content_tried, AreTakers, AreHolders}
use Rattle.gx_validate.proofs.Takings.{exact_result}

equal_kinds_are : (t u : TypeName) → equal_kinds t u ≡ same_type_name t u
equal_kinds_are t u = search (comparing, rules)

-- equal names have one declaration
declared_alike : (types : List Declared) (t u : TypeName) → same_type_name t u ≡ true → declaration_among types t ≡ declaration_among types u
declared_alike [] t u e = refl
declared_alike (declared ∷ others) t u e =
    let name = declared.name in
    ap (λ b. if b then Some declared else declaration_among others t)
    (type_names_are_equivalent.symm name t ∙ type_names_are_equivalent.congr t u name e ∙ type_names_are_equivalent.symm u name)
    ∙ ap (λ rest. if same_type_name name u then Some declared else rest) (declared_alike others t u e)

tried_alike : (s : SchemaSet) (t u : TypeName) → equal_kinds t u ≡ true → content_tried s t ≡ content_tried s u
tried_alike s t u e =
    let one : Option Declared → Tried = λ holder. record { schemas = s; model = content_model holder } in
    ap one (declared_alike s.types t u (sym (equal_kinds_are t u) ∙ e))

abbrev IsKeptFor : SchemaSet → TypeName → Option Tried → Type 0
IsKeptFor s kind found = IfSome found (λ (tried : Tried). tried ≡ content_tried s kind)

module _ {S : Type 0} (s : SchemaSet) where
  -- one more, or the same again
  pub takers_with : (old new : IndexMap TypeName Tried S) (kind : TypeName) (tried : Tried) → AreTakers s old → tried ≡ content_tried s kind
      → ((other : TypeName) → get equal_kinds new other ≡ cond (equal_kinds kind other) (Some tried) (get equal_kinds old other)) → AreTakers s new
  takers_with old new kind tried are is updates other = subst (IsKeptFor s other) (sym (updates other)) (by (equal_kinds kind other) refl)
    where
      by : (b : Bool) → equal_kinds kind other ≡ b → IsKeptFor s other (cond b (Some tried) (get equal_kinds old other))
      by true g = is ∙ tried_alike s kind other g
      by false g = are other

  -- what is looked up is the content model of the type
  pub taker_is : (known : IndexMap TypeName Tried S) (kind : TypeName) (tried : Tried) → AreTakers s known → get equal_kinds known kind ≡ Some tried → tried ≡ content_tried s kind
  taker_is known kind tried are found = subst (IsKeptFor s kind) found (are kind)

-- the content model of a type that has one
pub model_is : (s : SchemaSet) (kind : TypeName) (model : SequenceType) → complex_model (declaration_of s kind) ≡ Some model → record { schemas = s; model = model } ≡ content_tried s kind
model_is s kind model e =
    let one : SequenceType → Tried = λ m. record { schemas = s; model = m } in ap one (sym (ap (λ o. unwrap_or o text_model) e))

-- an exact answer over a content model is that of the test
pub tried_answer : {E : Type 0} (s : SchemaSet) (tried : Tried) (kind : TypeName) (shapes : List Shape) (r : Result Bool E) → Grounded (bases_of s) → tried ≡ content_tried s kind
    → IfOk r (λ answer. IsTrue answer ↔ Takes tried.schemas tried.model shapes) → IfOk r (λ answer. answer ≡ takes_shapes s (content_model (declaration_of s kind)) shapes)
tried_answer s tried kind shapes r g is h =
    exact_result s (content_model (declaration_of s kind)) shapes r g (subst (λ (t : Tried). IfOk r (λ answer. IsTrue answer ↔ Takes t.schemas t.model shapes)) is h)

abbrev IsHolderOf : SchemaSet → TypeName → Option (Bor Declared) → Type 0
IsHolderOf s kind found = IfSome found (λ (declared : Bor Declared). declaration_of s kind ≡ Some declared.now)

held_alike : (s : SchemaSet) (t u : TypeName) (declared : Declared) → equal_kinds t u ≡ true → declaration_of s t ≡ Some declared → declaration_of s u ≡ Some declared
held_alike s t u declared e h = sym (declared_alike s.types t u (sym (equal_kinds_are t u) ∙ e)) ∙ h

module _ {S : Type 0} (s : SchemaSet) where
  -- one more declaration, or the same again
  pub holders_with : (old new : IndexMap TypeName (Bor Declared) S) (kind : TypeName) (declared : Bor Declared) → AreHolders s old → declaration_of s kind ≡ Some declared.now
      → ((other : TypeName) → get equal_kinds new other ≡ cond (equal_kinds kind other) (Some declared) (get equal_kinds old other)) → AreHolders s new
  holders_with old new kind declared are is updates other = subst (IsHolderOf s other) (sym (updates other)) (by (equal_kinds kind other) refl)
    where
      by : (b : Bool) → equal_kinds kind other ≡ b → IsHolderOf s other (cond b (Some declared) (get equal_kinds old other))
      by true g = held_alike s kind other declared.now g is
      by false g = are other

  -- what is kept for an equal name is the declaration
  pub holder_is : (holders : IndexMap TypeName (Bor Declared) S) (name kind : TypeName) (declared : Bor Declared) → AreHolders s holders → get equal_kinds holders name ≡ Some declared → equal_kinds name kind ≡ true
      → declaration_of s kind ≡ Some declared.now
  holder_is holders name kind declared are found e = held_alike s name kind declared.now e (subst (IsHolderOf s name) found (are name))
