-- The declarations of a written tag are such as a document may have, and no prefix is declared twice.
use Rattle.std.proofs.Common.{◌≡◌, ◌≢◌, ℕ, ◌+◌, ◌^◌, ◌<◌, List, [], ◌∷◌, ◌++◌, length, get_or, drop, map, Bool, true, false, not, cond, refl, sym, ap, ◌∙◌, subst, arith, append_assoc, append-nil}
use Rattle.std.specs.Prelude.{Option, Some, None, bytes_eq, ◌&&◌, ◌||◌}
use Rattle.std.proofs.Math.Seq.{drop-append_seam}
use Rattle.std.proofs.lemmas.List.{length-map}
use Rattle.gx_base.specs.declared.name.Name.{Name}
use Rattle.gx_tree.specs.declared.attribute.Attribute.{Attribute}
use Rattle.gx_tree.specs.PlainTree.{PlainTree, PlainTrees, document, element, attribute, text, no_trees, a_tree}
use Rattle.gx_serial.specs.Binding.{Binding, bound_to, gives, needs_declaration, xml, xml_uri, numbered_prefix, is_prefix_among}
use Rattle.gx_serial.specs.Marked.{Begun, begun, prefixes_of, with_prefix, unless_taken, after_attributes, scope_within, tag_of, marked, all_marked}
use Rattle.gx_serial.specs.Reading.{uri_read, IsWritableName, AreWritableAttributes, IsWritable, AreWritable}
use Rattle.gx_serial.specs.Declarations.{IsAllowedDeclaration, AreAllowedDeclarations, DeclareOnce, IsSoundTag, HasSoundTags, HaveSoundTags}
use Rattle.gx_serial.proofs.FreeLemmas.{by_bool, bytes_same, bytes_self, bound_to-snoc, or_left, or_right}
use Rattle.gx_serial.proofs.ReadingLemmas.{Holds, some_same, holds_with, none_some, chosen_is_good, length_with, bare_state, full_state}

abbrev prefixes : List Binding → List (List ℕ)
prefixes bs = map (λ (b : Binding). b.0) bs

-- ---- lists of declarations

allowed-snoc : (bs : List Binding) (b : Binding) → AreAllowedDeclarations bs → IsAllowedDeclaration b → AreAllowedDeclarations (bs ++ (b ∷ []))
allowed-snoc [] b p q = (q, tt)
allowed-snoc (c ∷ cs) b p q = (p.0, allowed-snoc cs b p.1 q)

bytes_differ : (a b : List ℕ) → bytes_eq a b ≡ false → bytes_eq b a ≡ false
bytes_differ a b e = by_bool (bytes_eq b a) (λ d. let same : b ≡ a = bytes_same b a d in let clash : true ≡ false = sym (bytes_self a) ∙ subst (λ (x : List ℕ). bytes_eq a x ≡ false) same e in absurd (cc)) (λ d. d)

both_false : (a b : Bool) → a ≡ false → b ≡ false → (a || b) ≡ false
both_false true b e f = e
both_false false b e f = f

among-snoc : (bs : List Binding) (b : Binding) (p : List ℕ) → is_prefix_among (prefixes bs) p ≡ false → bytes_eq b.0 p ≡ false → is_prefix_among (prefixes (bs ++ (b ∷ []))) p ≡ false
among-snoc [] b p e d = both_false (bytes_eq b.0 p) false d refl
among-snoc (c ∷ cs) b p e d =
    both_false (bytes_eq c.0 p) (is_prefix_among (prefixes (cs ++ (b ∷ []))) p) (or_left (bytes_eq c.0 p) (is_prefix_among (prefixes cs) p) e)
    (among-snoc cs b p (or_right (bytes_eq c.0 p) (is_prefix_among (prefixes cs) p) e) d)

once-snoc : (bs : List Binding) (b : Binding) → DeclareOnce bs → is_prefix_among (prefixes bs) b.0 ≡ false → DeclareOnce (bs ++ (b ∷ []))
once-snoc [] b p e = (refl, tt)
once-snoc (c ∷ cs) b p e = (
  among-snoc cs b c.0 p.0 (bytes_differ c.0 b.0 (or_left (bytes_eq c.0 b.0) (is_prefix_among (prefixes cs) b.0) e)),
  once-snoc cs b p.1 (or_right (bytes_eq c.0 b.0) (is_prefix_among (prefixes cs) b.0) e),
)

-- ---- a tag that is being written

-- what a tag has declared so far
pub record HasDeclared (outer : List Binding) (s : Begun) (added : List Binding) : Type 0 where
  pub grown : s.scope ≡ outer ++ added
  pub allowed : AreAllowedDeclarations added
  pub once : DeclareOnce added
  pub known : (p : List ℕ) → bound_to s.taken_bindings p ≡ None → is_prefix_among (prefixes added) p ≡ false

cond_none : (b : Bool) (uri : List ℕ) (o : Option (List ℕ)) → cond b (Some uri) o ≡ None → (b ≡ false) × (o ≡ None)
cond_none true uri o e = absurd (cc)
cond_none false uri o e = (refl, e)

not_bound_before : (s : Begun) (prefix uri p : List ℕ) → bound_to (with_prefix s prefix uri).taken_bindings p ≡ None → (bytes_eq prefix p ≡ false) × (bound_to s.taken_bindings p ≡ None)
not_bound_before s prefix uri p e = cond_none (bytes_eq prefix p) uri (bound_to s.taken_bindings p) (sym (bound_to-snoc s.taken_bindings (prefix, uri) p) ∙ e)

needs_both : (a b : Bool) → (not a && not b) ≡ true → (a ≡ false) × (b ≡ false)
needs_both true b e = absurd (cc)
needs_both false true e = absurd (cc)
needs_both false false e = (refl, refl)

-- a prefix that has to be declared has no declaration in the tag
is_new : (outer : List Binding) (s : Begun) (added : List Binding) (prefix uri : List ℕ) → HasDeclared outer s added → Holds s
    → ((v : List ℕ) → bound_to s.taken_bindings prefix ≡ Some v → v ≡ uri) → needs_declaration s.scope prefix uri ≡ true
    → (o : Option (List ℕ)) → bound_to s.taken_bindings prefix ≡ o → is_prefix_among (prefixes added) prefix ≡ false
is_new outer s added prefix uri h holds alike needed None e = h.known prefix e
is_new outer s added prefix uri h holds alike needed (Some v) e =
    let parts = needs_both (bytes_eq prefix xml) (gives (bound_to s.scope prefix) uri) needed in
    let read : uri_read s.scope prefix ≡ Some v = holds prefix v e in
    let bound : bound_to s.scope prefix ≡ Some v = rw parts.0 at read in
    let given : gives (bound_to s.scope prefix) uri ≡ true = ap (λ b. gives b uri) bound ∙ ap (λ u. bytes_eq u uri) (alike v e) ∙ bytes_self uri in
    let clash : true ≡ false = sym given ∙ parts.1 in
    absurd (cc)

-- a name takes a prefix
declared_with : (outer : List Binding) (s : Begun) (added : List Binding) (prefix uri : List ℕ) → HasDeclared outer s added → Holds s
    → ((v : List ℕ) → bound_to s.taken_bindings prefix ≡ Some v → v ≡ uri) → IsAllowedDeclaration (prefix, uri)
    → (more : List Binding) × HasDeclared outer (with_prefix s prefix uri) more
declared_with outer s added prefix uri h holds alike allowed = by_bool (needs_declaration s.scope prefix uri)
    (λ needed. (
      added ++ ((prefix, uri) ∷ []),
      record {
        grown = rw needed (ap (λ x. x ++ ((prefix, uri) ∷ [])) h.grown ∙ append_assoc outer added ((prefix, uri) ∷ []));
        allowed = allowed-snoc added (prefix, uri) h.allowed allowed;
        once = once-snoc added (prefix, uri) h.once (is_new outer s added prefix uri h holds alike needed (bound_to s.taken_bindings prefix) refl);
        known = λ p e. let before = not_bound_before s prefix uri p e in among-snoc added (prefix, uri) p (h.known p before.1) before.0;
      },
    ))
    (λ enough. (
      added,
      record {
        grown = rw enough h.grown;
        allowed = h.allowed;
        once = h.once;
        known = λ p e. h.known p (not_bound_before s prefix uri p e).1;
      },
    ))

-- ---- the prefixes that attributes take

name_is_allowed : (name : Name) → IsWritableName name → IsAllowedDeclaration (name.prefix, name.uri)
name_is_allowed name w = record {
  not_xmlns = w.not_xmlns;
  not_uri_of_xmlns = w.not_uri_of_xmlns;
  xml_has_its_uri = w.xml_has_its_uri;
  uri_of_xml_is_its = w.uri_of_xml_is_its;
  prefix_has_uri = w.prefix_has_uri;
}

numbered_is_not : (k c : ℕ) (cs : List ℕ) → c ≢ 110 → numbered_prefix k ≡ c ∷ cs → ⊥
numbered_is_not k c cs d e = d (sym (ap (λ l. get_or l 0 0) e))

not_empty : (prefix : List ℕ) → bytes_eq prefix [] ≡ false → prefix ≢ []
not_empty prefix e f = let clash : true ≡ false = sym (ap (λ x. bytes_eq x []) f) ∙ e in absurd (cc)

chosen_is_allowed : (used : List (List ℕ)) (s : Begun) (name : Name) → IsWritableName name → Holds s → bytes_eq name.prefix [] ≡ false
    → (o : Option (List ℕ)) → bound_to s.taken_bindings name.prefix ≡ o → IsAllowedDeclaration (unless_taken o used s.taken_bindings name.prefix name.uri, name.uri)
chosen_is_allowed used s name w holds full None e = name_is_allowed name w
chosen_is_allowed used s name w holds full (Some b) e = by_bool (bytes_eq b name.uri)
    (λ d. rw d (name_is_allowed name w))
    (λ d. rw d (record {
      not_xmlns = λ f. numbered_is_not _ 120 _ (omega arith) f;
      not_uri_of_xmlns = w.not_uri_of_xmlns;
      xml_has_its_uri = λ f. absurd (numbered_is_not _ 120 _ (omega arith) f);
      uri_of_xml_is_its = λ f.
          let own : name.prefix ≡ xml = w.uri_of_xml_is_its f in
          let taken : bound_to s.taken_bindings xml ≡ Some b = ap (bound_to s.taken_bindings) (sym own) ∙ e in
          let read : Some xml_uri ≡ Some b = holds xml b taken in
          let same : name.uri ≡ b = f ∙ some_same xml_uri b read in
          let clash : true ≡ false = sym (ap (λ u. bytes_eq b u) same ∙ bytes_self b) ∙ d in
          absurd (cc);
      prefix_has_uri = λ f. w.prefix_has_uri (not_empty name.prefix full);
    }))

pub attributes_declare : (outer : List Binding) (used : List (List ℕ)) (s : Begun) (added : List Binding) (attributes : List Attribute) → HasDeclared outer s added → Holds s
    → AreWritableAttributes attributes → 1 + length used + length s.taken_bindings + length attributes < 2 ^ 64
    → (more : List Binding) × HasDeclared outer (after_attributes used s attributes) more
attributes_declare outer used s added [] h holds w small = (added, h)
attributes_declare outer used s added (a ∷ others) h holds w small =
    let chosen = unless_taken (bound_to s.taken_bindings a.name.prefix) used s.taken_bindings a.name.prefix a.name.uri in
    by_bool (bytes_eq a.name.prefix [])
    (λ e. let rest = attributes_declare outer used s added others h holds w.1 (omega arith) in
    (rest.0, subst (λ (n : Begun). HasDeclared outer (after_attributes used n others) rest.0) (sym (bare_state used s a e)) rest.1))
    (λ e. let good = chosen_is_good used s a.name.prefix a.name.uri e w.0.own_name.xml_has_its_uri (omega arith) (bound_to s.taken_bindings a.name.prefix) refl in
    let allowed = chosen_is_allowed used s a.name w.0.own_name holds e (bound_to s.taken_bindings a.name.prefix) refl in
    let step = declared_with outer s added chosen a.name.uri h holds good.alike allowed in
    let rest = attributes_declare outer used (with_prefix s chosen a.name.uri) step.0 others step.1 (holds_with s chosen a.name.uri holds good.own) w.1
    (omega (arith, length_with s chosen a.name.uri)) in
    (rest.0, subst (λ (n : Begun). HasDeclared outer (after_attributes used n others) rest.0) (sym (full_state used s a e)) rest.1))

-- a start tag
tag_is_sound : (scope : List Binding) (name : Name) (attributes : List Attribute) → IsWritableName name → AreWritableAttributes attributes → length attributes < 2 ^ 62
    → IsSoundTag (tag_of scope name attributes)
tag_is_sound scope name attributes w ws small =
    let start : Begun = record { taken_bindings = []; scope = scope } in
    let nothing : HasDeclared scope start [] = record { grown = sym (append-nil scope); allowed = tt; once = tt; known = λ p e. refl } in
    let none : Holds start = λ p u e. absurd (none_some None u refl e) in
    let first = declared_with scope start [] name.prefix name.uri nothing none (λ v e. absurd (none_some None v refl e)) (name_is_allowed name w) in
    let last = attributes_declare scope (prefixes_of name attributes) (begun scope name) first.0 attributes first.1 (holds_with start name.prefix name.uri none w.xml_has_its_uri) ws
    (omega (arith, length-map attributes (λ (a : Attribute). a.name.prefix), small)) in
    let same : drop (length scope) (scope_within scope name attributes) ≡ last.0 = ap (drop (length scope)) last.1.grown ∙ drop-append_seam scope last.0 in
    record { allowed = subst AreAllowedDeclarations (sym same) last.1.allowed; declared_once = subst DeclareOnce (sym same) last.1.once }

mutual
  pub tree_is_sound : (scope : List Binding) (t : PlainTree) → IsWritable t → HasSoundTags (marked scope t)
  tree_is_sound scope (document ts) w = trees_are_sound scope ts w
  tree_is_sound scope (element name kind attributes ts) w =
      (tag_is_sound scope name attributes w.0 w.1 w.2, trees_are_sound (scope_within scope name attributes) ts w.3)
  tree_is_sound scope (attribute a) w = tt
  tree_is_sound scope (text t) w = tt

  trees_are_sound : (scope : List Binding) (ts : PlainTrees) → AreWritable ts → HaveSoundTags (all_marked scope ts)
  trees_are_sound scope no_trees w = tt
  trees_are_sound scope (a_tree t ts) w = (tree_is_sound scope t w.0, trees_are_sound scope ts w.1)
