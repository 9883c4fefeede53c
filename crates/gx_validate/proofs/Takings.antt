-- The test whether a type takes a list of shapes is exact.
use Rattle.std.proofs.Common.{◌≡◌, ℕ, ◌≤◌, ◌++◌, length, arith, Bool, true, false, List, [], ◌∷◌, inl, inr, refl, sym, ◌∙◌, ap, ◌↔◌, Result, Ok, Err, IfOk, Option, Some, None}
use Rattle.std.specs.Prelude.{unwrap_or}
use Rattle.std.specs.Bool.{IsTrue}
use Rattle.gx_types.specs.declared.shape.Shape.{Shape}
use Rattle.gx_types.specs.declared.shape.Shape.TheVariants as shapes
use Rattle.gx_types.specs.declared.item_type.ItemType.TheVariants as items
use Rattle.gx_types.specs.SchemaSet.{SchemaSet}
use Rattle.gx_types.specs.declared.declaration.Declared.{Declared}
use Rattle.gx_types.specs.Grounded.{Grounded}
use Rattle.gx_types.specs.Derivation.{bases_of}
use Rattle.gx_types.specs.ItemTakes.{ItemTakes}
use Rattle.gx_types.specs.Takes.{Takes}
use Rattle.gx_types.specs.SequenceType.{SequenceType}
use Rattle.gx_include_positions.specs.Step.{single, step_over, is_end}
use Rattle.gx_include_positions.specs.Test.{is_taken}
use Rattle.gx_include_positions.proofs.SetReads.{Reads, reads_forward, reads_back, end_reads, reads_end, start_reads, reads_start}
use Rattle.gx_include_positions.proofs.Decided.{decided}
use Rattle.gx_types.specs.declared.declaration.Content.{Content}
use Rattle.gx_types.specs.declared.declaration.Content.TheVariants as contents
use Rattle.gx_xml.specs.SourceTree.{SourceContents, no_content, a_child, a_text}
use Rattle.gx_xml.specs.SourceView.{contents_of}
use Rattle.gx_xml.specs.declared.source.SourceChild.{SourceChild}
use Rattle.gx_xml.specs.declared.source.SourceChild.TheVariants as children
use Rattle.gx_xml.specs.declared.source.Declaration.{Declaration}
use Rattle.gx_validate.specs.ElementContent.{child_shapes, is_text_alone, text_shapes, texts_allowed, texts_allowed_in}
use Rattle.gx_validate.specs.Taking.{set_behind, takes_shapes, is_text_at_most}
use Rattle.gx_validate.specs.declared.content.Texts.{Texts}
use Rattle.gx_validate.specs.declared.content.Texts.TheVariants.{Kept}
use Rattle.gx_model.specs.DeclaredContent.{text_model, complex_model, content_model, model_in}

-- from a set of positions the list leads to one where the type may end, exactly where the set reads the list
walk_reads : (s : SchemaSet) (t : SequenceType) → Grounded (bases_of s) → (shapes : List Shape) (set : List Bool)
    → (is_end t (set_behind s t shapes set) ≡ true) ↔ Reads s t set shapes
walk_reads s t g [] set = (end_reads s t set, reads_end s t set)
walk_reads s t g (x ∷ xs) set =
    let next = walk_reads s t g xs (step_over t (is_taken s x) set) in
    (λ h. reads_forward s x t set xs (decided s g x t) (next.0 h), λ h. next.1 (reads_back s x t set xs (decided s g x t) h))

pub takes_where_tested : (s : SchemaSet) (t : SequenceType) (shapes : List Shape) → Grounded (bases_of s) → takes_shapes s t shapes ≡ true → Takes s t shapes
unfolding takes_shapes
takes_where_tested s t shapes g h = reads_start s t shapes ((walk_reads s t g shapes (single 0)).0 h)

pub tested_where_takes : (s : SchemaSet) (t : SequenceType) (shapes : List Shape) → Grounded (bases_of s) → Takes s t shapes → takes_shapes s t shapes ≡ true
unfolding takes_shapes
tested_where_takes s t shapes g h = (walk_reads s t g shapes (single 0)).1 (start_reads s t shapes h)

-- two tests of one fact agree
agree : {P : Type 0} (a b : Bool) → (a ≡ true → P) → (P → a ≡ true) → (b ≡ true → P) → (P → b ≡ true) → a ≡ b
agree true true f g h k = refl
agree false false f g h k = refl
agree true false f g h k = sym (k (f refl))
agree false true f g h k = g (h refl)

-- an answer that is exact is that of the test
answer_is_tested : (s : SchemaSet) (t : SequenceType) (shapes : List Shape) (answer : Bool) → Grounded (bases_of s)
    → IsTrue answer ↔ Takes s t shapes → answer ≡ takes_shapes s t shapes
answer_is_tested s t shapes answer g e =
    agree answer (takes_shapes s t shapes) e.0 e.1 (takes_where_tested s t shapes g) (tested_where_takes s t shapes g)

pub exact_result : {E : Type 0} (s : SchemaSet) (t : SequenceType) (shapes : List Shape) (r : Result Bool E) → Grounded (bases_of s)
    → IfOk r (λ answer. IsTrue answer ↔ Takes s t shapes) → IfOk r (λ answer. answer ≡ takes_shapes s t shapes)
exact_result s t shapes (Ok answer) g h = answer_is_tested s t shapes answer g h
exact_result s t shapes (Err e) g h = h

-- a text or nothing is what the model of a text takes
text_takes : (s : SchemaSet) (shapes : List Shape) → is_text_at_most shapes ≡ true → Takes s text_model shapes
text_takes s [] h = inl refl
text_takes s (shapes.Text ∷ []) h = inr (shapes.Text, refl, tt)
text_takes s (shapes.Text ∷ (y ∷ ys)) h = absurd (cc)
text_takes s (shapes.Elem n t ∷ xs) h = absurd (cc)
text_takes s (shapes.Attr n t ∷ xs) h = absurd (cc)
text_takes s (shapes.Doc d ∷ xs) h = absurd (cc)
text_takes s (shapes.Atom t ∷ xs) h = absurd (cc)

text_item : (s : SchemaSet) (x : Shape) → ItemTakes s items.Text x → is_text_at_most (x ∷ []) ≡ true
text_item s shapes.Text h = refl
text_item s (shapes.Elem n t) h = absurd h
text_item s (shapes.Attr n t) h = absurd h
text_item s (shapes.Doc d) h = absurd h
text_item s (shapes.Atom t) h = absurd h

takes_text : (s : SchemaSet) (shapes : List Shape) → Takes s text_model shapes → is_text_at_most shapes ≡ true
takes_text s shapes (inl e) = ap is_text_at_most e
takes_text s shapes (inr h) = ap is_text_at_most h.1 ∙ text_item s h.0 h.2

-- of the content of a type that has none
pub text_is_tested : (s : SchemaSet) (holder : Option Declared) (shapes : List Shape) → Grounded (bases_of s) → complex_model holder ≡ None
    → is_text_at_most shapes ≡ takes_shapes s (content_model holder) shapes
text_is_tested s holder shapes g e =
    agree (is_text_at_most shapes) (takes_shapes s text_model shapes) (text_takes s shapes) (takes_text s shapes) (takes_where_tested s text_model shapes g) (tested_where_takes s text_model shapes g)
    ∙ ap (λ o. takes_shapes s (unwrap_or o text_model) shapes) (sym e)

-- ---- children of an element whose type has no model

kept_in : (content : Content) → model_in content ≡ None → texts_allowed_in content ≡ Kept
kept_in (contents.Complex mixed model) e = absurd (cc)
kept_in (contents.Atomic facets) e = refl
kept_in (contents.List item facets) e = refl
kept_in (contents.Simple kind facets) e = refl

texts_are_kept : (holder : Option Declared) → complex_model holder ≡ None → texts_allowed holder ≡ Kept
texts_are_kept None e = refl
texts_are_kept (Some declared) e = kept_in declared.content e

alone_behind : (s : SchemaSet) (scope : List Declaration) (holder : Option Declared) (x : List ℕ) (cs : SourceContents) → texts_allowed holder ≡ Kept
    → is_text_alone (a_text x cs) ≡ is_text_at_most (shapes.Text ∷ child_shapes s scope holder cs)
alone_behind s scope holder x no_content e = refl
alone_behind s scope holder x (a_child t cs) e = refl
alone_behind s scope holder x (a_text y cs) e = sym (ap (λ (texts : Texts). is_text_at_most (shapes.Text ∷ (text_shapes texts y ++ child_shapes s scope holder cs))) e)

alone_is_at_most : (s : SchemaSet) (scope : List Declaration) (holder : Option Declared) (cs : SourceContents) → texts_allowed holder ≡ Kept
    → is_text_alone cs ≡ is_text_at_most (child_shapes s scope holder cs)
alone_is_at_most s scope holder no_content e = refl
alone_is_at_most s scope holder (a_child t cs) e = refl
alone_is_at_most s scope holder (a_text x cs) e =
    alone_behind s scope holder x cs e ∙ sym (ap (λ (texts : Texts). is_text_at_most (text_shapes texts x ++ child_shapes s scope holder cs)) e)

-- the children are a text alone or nothing exactly where the model of a text takes them
pub alone_is_tested : (s : SchemaSet) (scope : List Declaration) (holder : Option Declared) (cs : SourceContents) → Grounded (bases_of s) → complex_model holder ≡ None
    → is_text_alone cs ≡ takes_shapes s (content_model holder) (child_shapes s scope holder cs)
alone_is_tested s scope holder cs g e =
    alone_is_at_most s scope holder cs (texts_are_kept holder e) ∙ text_is_tested s holder (child_shapes s scope holder cs) g e

-- two children or more are not a text alone
pub two_are_not_alone : (children : List SourceChild) → 2 ≤ length children → false ≡ is_text_alone (contents_of children)
two_are_not_alone [] h = absurd (omega (arith, h))
two_are_not_alone (children.Element t ∷ others) h = refl
two_are_not_alone (children.Text x ∷ []) h = absurd (omega (arith, h))
two_are_not_alone (children.Text x ∷ (children.Element t ∷ others)) h = refl
two_are_not_alone (children.Text x ∷ (children.Text y ∷ others)) h = refl
