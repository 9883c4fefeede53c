-- Children of an element that keeps to its type: the content model of a type is the content of its elements.
use Rattle.std.proofs.Common.{◌≡◌, true, List, ◌∷◌, map, Option, None, Some, is_some, unwrap_or, refl, sym, ◌∙◌, ap, subst}
use Rattle.std.proofs.lemmas.Bool.{true≢false}
use Rattle.gx_base.specs.declared.type_name.Builtin.{Builtin}
use Rattle.gx_base.specs.declared.type_name.Builtin.TheVariants as builtins
use Rattle.gx_base.specs.declared.type_name.TypeName.{TypeName}
use Rattle.gx_base.specs.declared.type_name.TypeName.TheVariants as names
use Rattle.gx_types.specs.declared.declaration.Content.{Content}
use Rattle.gx_types.specs.declared.declaration.Content.TheVariants as contents
use Rattle.gx_types.specs.declared.declaration.Declared.{Declared}
use Rattle.gx_types.specs.declared.shape.Shape.{Shape}
use Rattle.gx_types.specs.SchemaSet.{SchemaSet, declaration_of}
use Rattle.gx_types.specs.SchemaInvariant.{is_nameable, is_named_type, IsSchemaSet}
use Rattle.gx_types.specs.SequenceType.{SequenceType}
use Rattle.gx_types.specs.Takes.{Takes}
use Rattle.gx_tree.specs.PlainTree.{PlainTrees, no_trees, a_tree, list_of}
use Rattle.gx_tree.specs.declared.attribute.Attribute.{Attribute}
use Rattle.gx_model.specs.Belongs.{shape_of}
use Rattle.gx_model.specs.DeclaredContent.{text_model, model_in, content_model}
use Rattle.gx_model.specs.TypedTree.{shapes_of_trees, KeepsToType}
use Rattle.gx_steptype.specs.StepType.{content_type, declared_content, content_of}
use Rattle.gx_steptype.proofs.Declarations.{builtin_is_undeclared}

model_is_content : (c : Content) → unwrap_or (model_in c) text_model ≡ content_type c
model_is_content (contents.Atomic facets) = refl
model_is_content (contents.List kind facets) = refl
model_is_content (contents.Simple kind facets) = refl
model_is_content (contents.Complex mixed model) = refl

declared_model : (o : Option Declared) → is_some o ≡ true → content_model o ≡ declared_content o
declared_model None h = absurd (true≢false (sym h))
declared_model (Some d) h = model_is_content d.content

builtin_model : (s : SchemaSet) (b : Builtin) → is_nameable b ≡ true → text_model ≡ content_of s (names.Builtin b)
builtin_model s builtins.AnyType h = absurd (true≢false (sym h))
builtin_model s builtins.Untyped h = absurd (true≢false (sym h))
builtin_model s _ h = refl

model_of_type : (s : SchemaSet) (t : TypeName) → IsSchemaSet s → is_named_type s t ≡ true → content_model (declaration_of s t) ≡ content_of s t
model_of_type s (names.Builtin b) is h = ap content_model (builtin_is_undeclared s b is) ∙ builtin_model s b h
model_of_type s (names.Named n) is h = declared_model (declaration_of s (names.Named n)) h
model_of_type s (names.Anonymous n) is h = declared_model (declaration_of s (names.Anonymous n)) h

shapes_are : (ts : PlainTrees) → shapes_of_trees ts ≡ map shape_of (list_of ts)
shapes_are no_trees = refl
shapes_are (a_tree t ts) = ap (λ (ss : List Shape). shape_of t ∷ ss) (shapes_are ts)

pub own_content_takes : (s : SchemaSet) (kind : TypeName) (l : List Attribute) (ts : PlainTrees) → IsSchemaSet s → KeepsToType s kind l ts → Takes s (content_of s kind) (map shape_of (list_of ts))
own_content_takes s kind l ts is k =
    subst (λ (t : SequenceType). Takes s t (map shape_of (list_of ts))) (model_of_type s kind is k.known) (subst (Takes s (content_model (declaration_of s kind))) (shapes_are ts) k.children)
