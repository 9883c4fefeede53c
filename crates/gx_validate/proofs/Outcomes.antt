-- What validation comes to is the valid tree.
use Rattle.std.proofs.Common.{◌≡◌, ℕ, ◌++◌, Bool, true, false, not, ◌||◌, ◌&&◌, List, [], ◌∷◌, inl, inr, refl, sym, ◌∙◌, ap, subst, map, append_assoc, Option, Some, None, Result, Ok, Err, if◌then◌else◌}
use Rattle.std.specs.Prelude.{IsSome}
use Rattle.std.proofs.lemmas.List.{append-nil}
use Rattle.std.proofs.lemmas.Bool.{not-false}
use Rattle.gx_base.specs.Name.{same_name}
use Rattle.gx_base.specs.declared.name.Name.{Name}
use Rattle.gx_base.specs.declared.type_name.TypeName.{TypeName}
use Rattle.gx_tree.specs.PlainTree.{PlainTree, PlainTrees, document, element, text, no_trees, a_tree, trees_of, list_of}
use Rattle.gx_tree.specs.StringValue.{texts_joined}
use Rattle.gx_tree.specs.declared.attribute.Attribute.{Attribute}
use Rattle.gx_types.specs.SchemaSet.{SchemaSet, declaration_of, global_type}
use Rattle.gx_types.specs.SchemaInvariant.{IsSchemaSet, HoldsOfEach, is_named_type}
use Rattle.gx_types.specs.Takes.{Takes}
use Rattle.gx_types.specs.declared.declaration.Declared.{Declared}
use Rattle.gx_types.specs.declared.shape.Shape.{Shape}
use Rattle.gx_xml.specs.Sound.{IsSoundSource, AreSoundContents, HasNoRepeats}
use Rattle.gx_xml.specs.SourceTree.{SourceTree, SourceContents, source, no_content, a_child, a_text, tree_name}
use Rattle.gx_xml.specs.declared.source.Declaration.{Declaration}
use Rattle.gx_xml.specs.declared.source.SourceAttribute.{SourceAttribute}
use Rattle.gx_validate.specs.InstanceAttributes.{has_nil}
use Rattle.gx_validate.specs.Annotation.{annotation}
use Rattle.gx_model.specs.DeclaredContent.{content_model, has_values, uses_allowed, is_valued}
use Rattle.gx_validate.specs.ElementContent.{texts_allowed, is_ignored, type_of_child, child_shapes}
use Rattle.gx_validate.specs.Taking.{takes_shapes}
use Rattle.gx_validate.specs.Rules.{has_extra, lacks_required, has_stray_text, child_texts, has_bad_attribute, has_bad_text, broken_rule, unless_rule_broken, element_judged_as, element_judged}
use Rattle.gx_validate.specs.Outcome.{Fault, path_step, number_among_siblings, within_step, typed_attributes, and_then, at_itself, with_kept_text, typed_element, typed_contents, root_type, typed_root, validated}
use Rattle.gx_model.specs.TypedTree.{KeepsToType, IsWellTyped, AreWellTyped, IsGivenWhereRequired}
use Rattle.gx_validate.specs.Valid.{IsTypedStart, IsTypedTree, AreTypedTrees, IsTreeOfDocument, IsValidTree}
use Rattle.gx_validate.specs.Laws.{OutcomesAreValid, ValidTreesAreOne, FaultsExcludeTrees}
use Rattle.gx_validate.specs.declared.invalid.InvalidRule.{InvalidRule}
use Rattle.gx_validate.specs.declared.invalid.InvalidRule.TheVariants as rules
use Rattle.gx_validate.proofs.Annotations.{annotation_is, is_annotation, annotation_is_known, root_is_known}
use Rattle.gx_validate.proofs.HonestTrees.{honest_tree, root_keeps}
use Rattle.gx_validate.proofs.Models.{holder_fits, uses_are_simple, AreKnown, children_are_known, no_stray_text}
use Rattle.gx_validate.proofs.Takings.{takes_where_tested, tested_where_takes}
use Rattle.gx_validate.proofs.TypedAttributes.{AreAllowed, allowed_are, given_where_required, required_are_given, attributes_are_allowed, own_names, typed_are_same}
use Rattle.gx_validate.proofs.TypedChildren.{shapes_are, value_is_text}
use Rattle.gx_validate.proofs.Tests.{or_left_false, or_right_false, either_false}

-- ---- results

then_parts : {A B : Type 0} (r : Result A Fault) (next : A → Result B Fault) (y : B) → and_then r next ≡ Ok y → (x : A) × (r ≡ Ok x) × (next x ≡ Ok y)
then_parts (Ok x) next y h = (x, refl, h)
then_parts (Err fault) next y h = absurd (cc)

itself_parts : (r : Result TypeName InvalidRule) (kind : TypeName) → at_itself r ≡ Ok kind → r ≡ Ok kind
itself_parts (Ok k) kind h = let e : k ≡ kind = cc in ap Ok e
itself_parts (Err rule) kind h = absurd (cc)

step_parts : {A : Type 0} (step : List ℕ) (r : Result A Fault) (x : A) → within_step step r ≡ Ok x → r ≡ Ok x
step_parts step (Ok y) x h = h
step_parts step (Err fault) x h = absurd (cc)

ok_same : {A : Type 0} (x y : A) (r : Result A Fault) → r ≡ Ok x → r ≡ Ok y → x ≡ y
ok_same x y r h k = cc

not_broken : (b : Bool) (rule : InvalidRule) (others : Option InvalidRule) → (if b then Some rule else others) ≡ None → (b ≡ false) × (others ≡ None)
not_broken true rule others h = absurd (cc)
not_broken false rule others h = (refl, h)

go_on : (b : Bool) (rule : InvalidRule) (others : Option InvalidRule) → b ≡ false → others ≡ None → (if b then Some rule else others) ≡ None
go_on true rule others e h = absurd (cc)
go_on false rule others e h = h

value_step : (has valued : Bool) → (has && not valued) ≡ false → has ≡ true → valued ≡ true
value_step true valued h k = not-false valued h
value_step false valued h k = absurd (cc)

text_step : (has valued : Bool) → (has ≡ true → valued ≡ true) → (has && not valued) ≡ false
text_step true true h = refl
text_step true false h = sym (h refl)
text_step false valued h = refl

-- ---- the rules of one element

-- an element breaks no rule
record KeepsRules (s : SchemaSet) (scope : List Declaration) (kind : TypeName) (holder : Option Declared) (attributes : List SourceAttribute) (cs : SourceContents) : Type 0 where
  not_nil : has_nil attributes ≡ false
  no_extra : has_extra (uses_allowed holder) attributes ≡ false
  none_lacking : lacks_required (uses_allowed holder) attributes ≡ false
  no_stray : has_stray_text (texts_allowed holder) cs ≡ false
  taken : takes_shapes s (content_model holder) (child_shapes s scope holder cs) ≡ true
  no_bad_text : has_bad_text s kind holder cs ≡ false
  no_bad_attribute : has_bad_attribute s (uses_allowed holder) attributes ≡ false

keeps_rules : (s : SchemaSet) (scope : List Declaration) (kind : TypeName) (holder : Option Declared) (attributes : List SourceAttribute) (cs : SourceContents)
    → broken_rule s scope kind holder attributes cs ≡ None → KeepsRules s scope kind holder attributes cs
keeps_rules s scope kind holder attributes cs h =
    let a = not_broken (has_nil attributes) rules.Nil _ h in
    let b = not_broken (has_extra (uses_allowed holder) attributes) rules.ExtraAttribute _ a.1 in
    let d = not_broken (lacks_required (uses_allowed holder) attributes) rules.MissingAttribute _ b.1 in
    let e = not_broken (has_stray_text (texts_allowed holder) cs) rules.TextInElementContent _ d.1 in
    let f = not_broken (not (takes_shapes s (content_model holder) (child_shapes s scope holder cs))) rules.WrongContent _ e.1 in
    let g = not_broken (has_bad_text s kind holder cs || has_bad_attribute s (uses_allowed holder) attributes) rules.BadSimpleValue None f.1 in record {
      not_nil = a.0;
      no_extra = b.0;
      none_lacking = d.0;
      no_stray = e.0;
      taken = not-false (takes_shapes s (content_model holder) (child_shapes s scope holder cs)) f.0;
      no_bad_text = or_left_false (has_bad_text s kind holder cs) (has_bad_attribute s (uses_allowed holder) attributes) g.0;
      no_bad_attribute = or_right_false (has_bad_text s kind holder cs) (has_bad_attribute s (uses_allowed holder) attributes) g.0;
    }

breaks_none : (s : SchemaSet) (scope : List Declaration) (kind : TypeName) (holder : Option Declared) (attributes : List SourceAttribute) (cs : SourceContents)
    → KeepsRules s scope kind holder attributes cs → broken_rule s scope kind holder attributes cs ≡ None
breaks_none s scope kind holder attributes cs k =
    go_on (has_nil attributes) rules.Nil _ k.not_nil (go_on (has_extra (uses_allowed holder) attributes) rules.ExtraAttribute _ k.no_extra
    (go_on (lacks_required (uses_allowed holder) attributes) rules.MissingAttribute _ k.none_lacking (go_on (has_stray_text (texts_allowed holder) cs) rules.TextInElementContent _ k.no_stray
    (go_on (not (takes_shapes s (content_model holder) (child_shapes s scope holder cs))) rules.WrongContent _ (ap not k.taken)
    (go_on (has_bad_text s kind holder cs || has_bad_attribute s (uses_allowed holder) attributes) rules.BadSimpleValue None
    (either_false (has_bad_text s kind holder cs) (has_bad_attribute s (uses_allowed holder) attributes) k.no_bad_text k.no_bad_attribute) refl)))))

unbroken : (kind found : TypeName) (broken : Option InvalidRule) → unless_rule_broken kind broken ≡ Ok found → (kind ≡ found) × (broken ≡ None)
unbroken kind found None h = let e : kind ≡ found = cc in (e, refl)
unbroken kind found (Some rule) h = absurd (cc)

-- what validation finds of an element
record IsJudged (s : SchemaSet) (scope : List Declaration) (declared : TypeName) (attributes : List SourceAttribute) (cs : SourceContents) (kind : TypeName) : Type 0 where
  typed : annotation s scope declared attributes ≡ Some kind
  keeps : KeepsRules s scope kind (declaration_of s kind) attributes cs

judged_step : (s : SchemaSet) (scope : List Declaration) (declared : TypeName) (attributes : List SourceAttribute) (cs : SourceContents) (kind : TypeName) (o : Option TypeName)
    → annotation s scope declared attributes ≡ o → element_judged_as s scope attributes cs o ≡ Ok kind → IsJudged s scope declared attributes cs kind
judged_step s scope declared attributes cs kind None e h = absurd (cc)
judged_step s scope declared attributes cs kind (Some t) e h =
    let q = unbroken t kind (broken_rule s scope t (declaration_of s t) attributes cs) h in record {
      typed = e ∙ ap Some q.0;
      keeps = subst (λ (k : TypeName). KeepsRules s scope k (declaration_of s k) attributes cs) q.0 (keeps_rules s scope t (declaration_of s t) attributes cs q.1);
    }

is_element_judged : (s : SchemaSet) (scope : List Declaration) (declared : TypeName) (attributes : List SourceAttribute) (cs : SourceContents) (kind : TypeName)
    → element_judged s scope declared attributes cs ≡ Ok kind → IsJudged s scope declared attributes cs kind
is_element_judged s scope declared attributes cs kind h = judged_step s scope declared attributes cs kind (annotation s scope declared attributes) refl h

element_judged_is : (s : SchemaSet) (scope : List Declaration) (declared : TypeName) (attributes : List SourceAttribute) (cs : SourceContents) (kind : TypeName)
    → IsJudged s scope declared attributes cs kind → element_judged s scope declared attributes cs ≡ Ok kind
element_judged_is s scope declared attributes cs kind h =
    ap (element_judged_as s scope attributes cs) h.typed ∙ ap (unless_rule_broken kind) (breaks_none s scope kind (declaration_of s kind) attributes cs h.keeps)

-- ---- from outcomes to valid trees

-- an element that breaks no rule, with the trees of its children, keeps to its type
keeps_to_type : (s : SchemaSet) (scope : List Declaration) (kind : TypeName) (attributes : List SourceAttribute) (cs : SourceContents) (ts : PlainTrees) → IsSchemaSet s
    → is_named_type s kind ≡ true → KeepsRules s scope kind (declaration_of s kind) attributes cs → HasNoRepeats same_name (map (λ (a : SourceAttribute). a.name) attributes) → AreTypedTrees s scope (declaration_of s kind) cs ts
    → KeepsToType s kind (typed_attributes (uses_allowed (declaration_of s kind)) attributes) ts
keeps_to_type s scope kind attributes cs ts i known k own trees =
    let holder : Option Declared = declaration_of s kind in
    let takes : Takes s (content_model holder) (child_shapes s scope holder cs) = takes_where_tested s (content_model holder) (child_shapes s scope holder cs) i.grounded k.taken in record {
      known = known;
      allowed = attributes_are_allowed s (uses_allowed holder) attributes (uses_are_simple s kind i) k.no_extra k.no_bad_attribute;
      required = required_are_given (uses_allowed holder) attributes k.none_lacking;
      distinct = own_names (uses_allowed holder) attributes own;
      children = subst (λ (xs : List Shape). Takes s (content_model holder) xs) (sym (shapes_are s scope holder cs ts i.grounded trees)) takes;
      value = λ has. ap (is_valued s kind) (value_is_text s scope holder cs ts has takes trees)
          ∙ value_step (has_values holder) (is_valued s kind (texts_joined (child_texts cs))) k.no_bad_text has;
    }

-- the trees of children behind others that are done
abbrev BehindDone : SchemaSet → List Declaration → Option Declared → SourceContents → (done all : List PlainTree) → Type 0
BehindDone s scope holder cs done all =
    (rest : List PlainTree) × (all ≡ done ++ rest) × AreTypedTrees s scope holder cs (trees_of rest) × AreWellTyped s (trees_of rest)

text_case : (s : SchemaSet) (scope : List Declaration) (holder : Option Declared) (x : List ℕ) (cs : SourceContents) (done all : List PlainTree) (b : Bool) → is_ignored (texts_allowed holder) x ≡ b
    → BehindDone s scope holder cs (if b then done else (done ++ text x ∷ [])) all → BehindDone s scope holder (a_text x cs) done all
text_case s scope holder x cs done all true e h = (h.0, h.1, inl (e, h.2), h.3)
text_case s scope holder x cs done all false e h =
    (text x ∷ h.0, h.1 ∙ append_assoc done (text x ∷ []) h.0, inr (e, (trees_of h.0, refl, h.2)), (tt, h.3))

mutual
  tree_from : (s : SchemaSet) (scope : List Declaration) (declared : TypeName) (u : SourceTree) (v : PlainTree) → IsSchemaSet s → IsSoundSource u → is_named_type s declared ≡ true
      → typed_element s scope declared u ≡ Ok v → IsTypedTree s scope declared u v × IsWellTyped s v
  tree_from s scope declared (source name declarations attributes cs) v i sound known h =
      let inner : List Declaration = declarations ++ scope in
      let first = then_parts (at_itself (element_judged s inner declared attributes cs)) _ v h in
      let kind : TypeName = first.0 in
      let holder : Option Declared = declaration_of s kind in
      let found = is_element_judged s inner declared attributes cs kind (itself_parts (element_judged s inner declared attributes cs) kind first.1) in
      let note = is_annotation s inner declared attributes kind found.typed in
      let second = then_parts (typed_contents s inner holder [] cs) _ v first.2 in
      let takes = takes_where_tested s (content_model holder) (child_shapes s inner holder cs) i.grounded found.keeps.taken in
      let rest = trees_from s inner holder cs [] second.0 i sound.2 (children_are_known s inner holder cs (holder_fits s kind i) takes) second.1 in
      let all : second.0 ≡ rest.0 = rest.1 in
      let typed : List Attribute = typed_attributes (uses_allowed holder) attributes in
      let e : v ≡ element name kind typed (trees_of rest.0) =
      sym (ok_same (element name kind typed (trees_of second.0)) v (Ok (element name kind typed (trees_of second.0))) refl second.2) ∙ ap (λ (ts : List PlainTree). element name kind typed (trees_of ts)) all in (
        (kind, typed, trees_of rest.0, e, record { annotation = note; not_nil = found.keeps.not_nil; same = typed_are_same (uses_allowed holder) attributes }, rest.2),
        subst (IsWellTyped s) (sym e)
            (keeps_to_type s inner kind attributes cs (trees_of rest.0) i (annotation_is_known s inner declared attributes kind known note) found.keeps sound.1 rest.2, rest.3),
      )

  trees_from : (s : SchemaSet) (scope : List Declaration) (holder : Option Declared) (cs : SourceContents) (done all : List PlainTree) → IsSchemaSet s → AreSoundContents cs → AreKnown s holder cs
      → typed_contents s scope holder done cs ≡ Ok all → BehindDone s scope holder cs done all
  trees_from s scope holder no_content done all i sound known h =
      let e : done ≡ all = cc in ([], sym e ∙ sym (append-nil done), refl, tt)
  trees_from s scope holder (a_child t cs) done all i sound known h =
      let first = then_parts (within_step (path_step (tree_name t) (number_among_siblings done (tree_name t))) (typed_element s scope (type_of_child holder (tree_name t)) t)) _ all h in
      let tree = tree_from s scope (type_of_child holder (tree_name t)) t first.0 i sound.0 known.0
      (step_parts (path_step (tree_name t) (number_among_siblings done (tree_name t))) (typed_element s scope (type_of_child holder (tree_name t)) t) first.0 first.1) in
      let rest = trees_from s scope holder cs (done ++ first.0 ∷ []) all i sound.1 known.1 first.2 in
      (first.0 ∷ rest.0, rest.1 ∙ append_assoc done (first.0 ∷ []) rest.0, (first.0, trees_of rest.0, refl, tree.0, rest.2), (tree.1, rest.3))
  trees_from s scope holder (a_text x cs) done all i sound known h =
      text_case s scope holder x cs done all (is_ignored (texts_allowed holder) x) refl (trees_from s scope holder cs (with_kept_text (texts_allowed holder) done x) all i sound.2 known h)

-- ---- from valid trees to outcomes

listed_again : (ts : PlainTrees) → trees_of (list_of ts) ≡ ts
listed_again no_trees = refl
listed_again (a_tree t ts) = ap (a_tree t) (listed_again ts)

-- an element whose tree keeps to its type breaks no rule
keeps_rules_of : (s : SchemaSet) (scope : List Declaration) (declared kind : TypeName) (attributes : List SourceAttribute) (typed : List Attribute) (cs : SourceContents) (ts : PlainTrees) → IsSchemaSet s
    → IsTypedStart s scope declared attributes kind typed → AreAllowed s (uses_allowed (declaration_of s kind)) attributes typed → KeepsToType s kind typed ts → AreTypedTrees s scope (declaration_of s kind) cs ts
    → KeepsRules s scope kind (declaration_of s kind) attributes cs
keeps_rules_of s scope declared kind attributes typed cs ts i start allowed k trees =
    let holder : Option Declared = declaration_of s kind in
    let takes : Takes s (content_model holder) (child_shapes s scope holder cs) =
    subst (λ (xs : List Shape). Takes s (content_model holder) xs) (shapes_are s scope holder cs ts i.grounded trees) k.children in record {
      not_nil = start.not_nil;
      no_extra = allowed.no_extra;
      none_lacking = given_where_required (uses_allowed holder) attributes (subst (λ (l : List Attribute). HoldsOfEach (IsGivenWhereRequired l) (uses_allowed holder)) allowed.typed_so k.required);
      no_stray = no_stray_text s scope holder cs (holder_fits s kind i) takes;
      taken = tested_where_takes s (content_model holder) (child_shapes s scope holder cs) i.grounded takes;
      no_bad_text = text_step (has_values holder) (is_valued s kind (texts_joined (child_texts cs)))
          (λ has. sym (ap (is_valued s kind) (value_is_text s scope holder cs ts has takes trees)) ∙ k.value has);
      no_bad_attribute = allowed.no_bad;
    }

mutual
  tree_to : (s : SchemaSet) (scope : List Declaration) (declared : TypeName) (u : SourceTree) (v : PlainTree) → IsSchemaSet s → IsTypedTree s scope declared u v → IsWellTyped s v
      → typed_element s scope declared u ≡ Ok v
  tree_to s scope declared (source name declarations attributes cs) v i h well =
      let inner : List Declaration = declarations ++ scope in
      let kind : TypeName = h.0 in
      let typed : List Attribute = h.1 in
      let ts : PlainTrees = h.2 in
      let holder : Option Declared = declaration_of s kind in
      let parts : KeepsToType s kind typed ts × AreWellTyped s ts = subst (IsWellTyped s) h.3 well in
      let allowed = allowed_are s (uses_allowed holder) attributes typed h.4.same parts.0.allowed in
      let found : IsJudged s inner declared attributes cs kind =
      record { typed = annotation_is s inner declared attributes kind i.grounded h.4.annotation; keeps = keeps_rules_of s inner declared kind attributes typed cs ts i h.4 allowed parts.0 h.5 } in
      let children : typed_contents s inner holder [] cs ≡ Ok (list_of ts) = trees_to s inner holder cs ts [] i h.5 parts.1 in
      let made : List Attribute = typed_attributes (uses_allowed holder) attributes in
      let finish : List PlainTree → Result PlainTree Fault = λ trees. Ok (element name kind made (trees_of trees)) in
      let go : TypeName → Result PlainTree Fault =
      λ k. and_then (typed_contents s inner (declaration_of s k) [] cs) (λ trees. Ok (element name k (typed_attributes (uses_allowed (declaration_of s k)) attributes) (trees_of trees))) in
      ap (λ (r : Result TypeName InvalidRule). and_then (at_itself r) go) (element_judged_is s inner declared attributes cs kind found)
      ∙ ap (λ (r : Result (List PlainTree) Fault). and_then r finish) children
      ∙ ap (λ (us : PlainTrees). Ok (element name kind made us)) (listed_again ts)
      ∙ ap (λ (l : List Attribute). Ok (element name kind l ts)) (sym allowed.typed_so)
      ∙ ap Ok (sym h.3)

  trees_to : (s : SchemaSet) (scope : List Declaration) (holder : Option Declared) (cs : SourceContents) (ts : PlainTrees) (done : List PlainTree) → IsSchemaSet s → AreTypedTrees s scope holder cs ts
      → AreWellTyped s ts → typed_contents s scope holder done cs ≡ Ok (done ++ list_of ts)
  trees_to s scope holder no_content ts done i h well = ap Ok (sym (append-nil done) ∙ ap (λ (us : PlainTrees). done ++ list_of us) (sym h))
  trees_to s scope holder (a_child t cs) ts done i h well =
      let v : PlainTree = h.0 in
      let vs : PlainTrees = h.1 in
      let parts : IsWellTyped s v × AreWellTyped s vs = subst (AreWellTyped s) h.2 well in
      let step : List ℕ = path_step (tree_name t) (number_among_siblings done (tree_name t)) in
      let go : PlainTree → Result (List PlainTree) Fault = λ tree. typed_contents s scope holder (done ++ tree ∷ []) cs in
      ap (λ (r : Result PlainTree Fault). and_then (within_step step r) go) (tree_to s scope (type_of_child holder (tree_name t)) t v i h.3 parts.0)
      ∙ trees_to s scope holder cs vs (done ++ v ∷ []) i h.4 parts.1
      ∙ ap Ok (append_assoc done (v ∷ []) (list_of vs)) ∙ ap (λ (us : PlainTrees). Ok (done ++ list_of us)) (sym h.2)
  trees_to s scope holder (a_text x cs) ts done i (inl h) well =
      ap (λ (b : Bool). typed_contents s scope holder (if b then done else (done ++ text x ∷ [])) cs) h.0 ∙ trees_to s scope holder cs ts done i h.1 well
  trees_to s scope holder (a_text x cs) ts done i (inr h) well =
      let vs : PlainTrees = h.1.0 in
      let parts : Unit {0} × AreWellTyped s vs = subst (AreWellTyped s) h.1.1 well in
      ap (λ (b : Bool). typed_contents s scope holder (if b then done else (done ++ text x ∷ [])) cs) h.0
      ∙ trees_to s scope holder cs vs (done ++ text x ∷ []) i h.1.2 parts.1
      ∙ ap Ok (append_assoc done (text x ∷ []) (list_of vs)) ∙ ap (λ (us : PlainTrees). Ok (done ++ list_of us)) (sym h.1.1)

-- ---- documents

root_from : (s : SchemaSet) (root : Name) (u : SourceTree) (v : PlainTree) (b : Bool) → IsSchemaSet s → IsSome (global_type s root) → IsSoundSource u → same_name (tree_name u) root ≡ b
    → (if b then (typed_element s [] (root_type s root) u) else Err (record { rule = rules.WrongRoot; path = [] })) ≡ Ok v
    → (same_name (tree_name u) root ≡ true) × IsTypedTree s [] (root_type s root) u v × IsWellTyped s v
root_from s root u v true i g sound e h =
    let q = tree_from s [] (root_type s root) u v i sound (root_is_known s root i g) h in (e, q.0, q.1)
root_from s root u v false i g sound e h = absurd (cc)

valid_from : (s : SchemaSet) (root : Name) (u : SourceTree) (v : PlainTree) → IsSchemaSet s → IsSome (global_type s root) → IsSoundSource u → validated s root u ≡ Ok v → IsValidTree s root u v
valid_from s root u v i g sound h =
    let first = then_parts (within_step (path_step (tree_name u) 1) (typed_root s root u)) _ v h in
    let q = root_from s root u first.0 (same_name (tree_name u) root) i g sound refl (step_parts (path_step (tree_name u) 1) (typed_root s root u) first.0 first.1) in
    let whole : v ≡ document (a_tree first.0 no_trees) = sym (ok_same (document (a_tree first.0 no_trees)) v (Ok (document (a_tree first.0 no_trees))) refl first.2) in
    let tree : IsTreeOfDocument s root u v = record { top = first.0; whole = whole; named = q.0; of_root = q.1 } in
    record { honest = honest_tree s root u v sound tree (subst (IsWellTyped s) (sym whole) (q.2, tt)); of_document = tree }

tree_of_document_to : (s : SchemaSet) (root : Name) (u : SourceTree) (v : PlainTree) → IsSchemaSet s → (h : IsTreeOfDocument s root u v) → IsWellTyped s h.top → validated s root u ≡ Ok v
tree_of_document_to s root u v i h well =
    let go : PlainTree → Result PlainTree Fault = λ tree. Ok (document (a_tree tree no_trees)) in
    ap (λ (b : Bool). and_then (within_step (path_step (tree_name u) 1) (if b then (typed_element s [] (root_type s root) u) else Err (record { rule = rules.WrongRoot; path = [] }))) go) h.named
    ∙ ap (λ (r : Result PlainTree Fault). and_then (within_step (path_step (tree_name u) 1) r) go) (tree_to s [] (root_type s root) u h.top i h.of_root well)
    ∙ ap Ok (sym h.whole)

valid_to : (s : SchemaSet) (root : Name) (u : SourceTree) (v : PlainTree) → IsSchemaSet s → IsSome (global_type s root) → IsValidTree s root u v → validated s root u ≡ Ok v
valid_to s root u v i g h =
    let honest = h.honest in
    tree_of_document_to s root u v i h.of_document (root_keeps s root u v i g h.of_document honest.typed)

pub outcomes_are_valid : OutcomesAreValid
outcomes_are_valid s root u v i g sound = (valid_from s root u v i g sound, valid_to s root u v i g)

pub valid_trees_are_one : ValidTreesAreOne
valid_trees_are_one s root u v w i g sound h k = ok_same v w (validated s root u) (valid_to s root u v i g h) (valid_to s root u w i g k)

no_fault_beside : (r : Result PlainTree Fault) (v : PlainTree) → r ≡ Ok v → ((fault : Fault) × (r ≡ Err fault)) → ⊥
no_fault_beside r v h k = let e = k.1 in absurd (cc)

fault_or_tree : (r : Result PlainTree Fault) → ((v : PlainTree) → r ≡ Ok v → ⊥) → (fault : Fault) × (r ≡ Err fault)
fault_or_tree (Ok v) h = absurd (h v refl)
fault_or_tree (Err fault) h = (fault, refl)

pub faults_exclude_trees : FaultsExcludeTrees
faults_exclude_trees s root u i g sound = (
  λ k v h. no_fault_beside (validated s root u) v (valid_to s root u v i g h) k,
  λ h. fault_or_tree (validated s root u) (λ v e. h v (valid_from s root u v i g sound e)),
)
