-- The names of a written tree are read with the URIs that the tree has.
use Rattle.std.proofs.Common.{◌≡◌, ℕ, suc, ◌+◌, ◌^◌, ◌<◌, List, [], ◌∷◌, ◌++◌, length, get_or, drop, map, Bool, true, false, cond, refl, sym, ap, ◌∙◌, subst, arith, append_assoc, append-nil, length-append}
use Rattle.std.specs.Prelude.{Option, Some, None, bytes_eq}
use Rattle.std.proofs.Math.Seq.{drop-append_seam}
use Rattle.std.proofs.lemmas.List.{length-map}
use Rattle.gx_base.specs.declared.name.Name.{Name}
use Rattle.gx_tree.specs.declared.attribute.Attribute.{Attribute}
use Rattle.gx_tree.specs.PlainTree.{PlainTree, PlainTrees, document, element, attribute, text, no_trees, a_tree}
use Rattle.gx_serial.specs.Binding.{Binding, bound_to, gives, needs_declaration, xml, xml_uri, numbered_prefix, free_prefix}
use Rattle.gx_serial.specs.Marked.{Begun, begun, prefixes_of, with_prefix, unless_taken, written_prefix, after_attribute, after_attributes, written_attributes, scope_within, marked, all_marked}
use Rattle.gx_serial.specs.Reading.{uri_read, attribute_uri_read, AttributesReadAs, ReadsAs, AllReadAs, IsWritableAttribute, AreWritableAttributes, IsWritable, AreWritable}
use Rattle.gx_serial.proofs.FreeLemmas.{by_bool, bytes_same, bytes_self, free_prefix_is_free, is_prefix_among-back, not_bound, bound_to-snoc}

-- each prefix that is taken is read with the URI that took it
abbrev pub Holds : Begun → Type 0
Holds s = (p u : List ℕ) → bound_to s.taken_bindings p ≡ Some u → uri_read s.scope p ≡ Some u

pub some_same : (a b : List ℕ) → Some a ≡ Some b → a ≡ b
some_same a b e = cc

pub gives_some : (o : Option (List ℕ)) (uri : List ℕ) → gives o uri ≡ true → o ≡ Some uri
gives_some None uri e = absurd (cc)
gives_some (Some b) uri e = ap Some (bytes_same b uri e)

-- what is read of a prefix that was taken by a URI, after it was declared where needed
read_new : (scope : List Binding) (prefix uri : List ℕ) → (prefix ≡ xml → uri ≡ xml_uri)
    → uri_read (cond (needs_declaration scope prefix uri) (scope ++ ((prefix, uri) ∷ [])) scope) prefix ≡ Some uri
read_new scope prefix uri own = by_bool (bytes_eq prefix xml)
    (λ e. rw e (ap Some (sym (own (bytes_same prefix xml e)))))
    (λ e. by_bool (gives (bound_to scope prefix) uri)
    (λ g. rw (e, g) (gives_some (bound_to scope prefix) uri g))
    (λ g. rw (e, g) (bound_to-snoc scope (prefix, uri) prefix ∙ rw (bytes_self prefix) refl)))

-- another prefix is read as before
read_other : (scope : List Binding) (prefix uri p : List ℕ) (b : Bool) → bytes_eq prefix p ≡ false
    → uri_read (cond b (scope ++ ((prefix, uri) ∷ [])) scope) p ≡ uri_read scope p
read_other scope prefix uri p true d = ap (cond (bytes_eq p xml) (Some xml_uri)) (bound_to-snoc scope (prefix, uri) p ∙ rw d refl)
read_other scope prefix uri p false d = refl

pub holds_with : (s : Begun) (prefix uri : List ℕ) → Holds s → (prefix ≡ xml → uri ≡ xml_uri) → Holds (with_prefix s prefix uri)
holds_with s prefix uri h own p u e =
    let f : cond (bytes_eq prefix p) (Some uri) (bound_to s.taken_bindings p) ≡ Some u = sym (bound_to-snoc s.taken_bindings (prefix, uri) p) ∙ e in
    by_bool (bytes_eq prefix p)
    (λ d. let same : prefix ≡ p = bytes_same prefix p d in
    let g : Some uri ≡ Some u = rw d at f in
    subst (λ (q : List ℕ). uri_read (with_prefix s prefix uri).scope q ≡ Some u) same (read_new s.scope prefix uri own ∙ g))
    (λ d. let g : bound_to s.taken_bindings p ≡ Some u = rw d at f in
    read_other s.scope prefix uri p (needs_declaration s.scope prefix uri) d ∙ h p u g)

-- a prefix that was taken stays taken by its URI, where a later name takes it with that URI alone
pub keeps_with : (s : Begun) (prefix uri : List ℕ) → ((v : List ℕ) → bound_to s.taken_bindings prefix ≡ Some v → v ≡ uri)
    → (p u : List ℕ) → bound_to s.taken_bindings p ≡ Some u → bound_to (with_prefix s prefix uri).taken_bindings p ≡ Some u
keeps_with s prefix uri alike p u e = bound_to-snoc s.taken_bindings (prefix, uri) p ∙ by_bool (bytes_eq prefix p)
    (λ d. rw d (ap Some (sym (alike u (subst (λ (q : List ℕ). bound_to s.taken_bindings q ≡ Some u) (sym (bytes_same prefix p d)) e)))))
    (λ d. rw d e)

pub takes_with : (s : Begun) (prefix uri : List ℕ) → bound_to (with_prefix s prefix uri).taken_bindings prefix ≡ Some uri
takes_with s prefix uri = bound_to-snoc s.taken_bindings (prefix, uri) prefix ∙ rw (bytes_self prefix) refl

-- a free prefix is not bound
free_not_bound : (used : List (List ℕ)) (taken : List Binding) → 1 + length used + length taken < 2 ^ 64
    → bound_to taken (free_prefix (used ++ map (λ (b : Binding). b.0) taken)) ≡ None
free_not_bound used taken small =
    let prefixes = map (λ (b : Binding). b.0) taken in
    not_bound taken (free_prefix (used ++ prefixes))
    (is_prefix_among-back used prefixes (free_prefix (used ++ prefixes))
    (free_prefix_is_free (used ++ prefixes) (omega (arith, length-append used prefixes, length-map taken (λ (b : Binding). b.0)))))

-- what a chosen prefix is: it is not empty, it is taken by no other URI, and where it is xml the URI is that of xml
pub record IsGood (s : Begun) (chosen uri : List ℕ) : Type 0 where
  pub full : bytes_eq chosen [] ≡ false
  pub alike : (v : List ℕ) → bound_to s.taken_bindings chosen ≡ Some v → v ≡ uri
  pub own : chosen ≡ xml → uri ≡ xml_uri

pub none_some : (o : Option (List ℕ)) (v : List ℕ) → o ≡ None → o ≡ Some v → ⊥
none_some o v e f = cc

not_xml : (k : ℕ) → numbered_prefix k ≡ xml → ⊥
not_xml k e = let first : ◌≡◌ {A = ℕ} 110 120 = ap (λ l. get_or l 0 0) e in absurd (omega arith)

free_is_good : (used : List (List ℕ)) (s : Begun) (uri : List ℕ) → 1 + length used + length s.taken_bindings < 2 ^ 64
    → IsGood s (free_prefix (used ++ map (λ (b : Binding). b.0) s.taken_bindings)) uri
free_is_good used s uri small = record {
  full = refl;
  alike = λ v e. absurd (none_some _ v (free_not_bound used s.taken_bindings small) e);
  own = λ e. absurd (not_xml _ e);
}

pub chosen_is_good : (used : List (List ℕ)) (s : Begun) (prefix uri : List ℕ) → bytes_eq prefix [] ≡ false → (prefix ≡ xml → uri ≡ xml_uri)
    → 1 + length used + length s.taken_bindings < 2 ^ 64
    → (o : Option (List ℕ)) → bound_to s.taken_bindings prefix ≡ o → IsGood s (unless_taken o used s.taken_bindings prefix uri) uri
chosen_is_good used s prefix uri full own small None e =
    record { full = full; alike = λ v f. absurd (none_some (bound_to s.taken_bindings prefix) v e f); own = own }
chosen_is_good used s prefix uri full own small (Some b) e = by_bool (bytes_eq b uri)
    (λ d. rw d (record { full = full; alike = λ v f. some_same v b (sym f ∙ e) ∙ bytes_same b uri d; own = own }))
    (λ d. rw d (free_is_good used s uri small))

pub length_with : (s : Begun) (prefix uri : List ℕ) → length (with_prefix s prefix uri).taken_bindings ≡ suc (length s.taken_bindings)
length_with s prefix uri = omega (arith, length-append s.taken_bindings ((prefix, uri) ∷ []))

-- the attributes of a tag
pub record Reads (used : List (List ℕ)) (s : Begun) (attributes : List Attribute) : Type 0 where
  pub holds : Holds (after_attributes used s attributes)
  pub keeps : (p u : List ℕ) → bound_to s.taken_bindings p ≡ Some u → bound_to (after_attributes used s attributes).taken_bindings p ≡ Some u
  pub reads : AttributesReadAs (after_attributes used s attributes).scope (written_attributes used s attributes) attributes

-- what an attribute leaves of a tag, and what is written for it
pub bare_state : (used : List (List ℕ)) (s : Begun) (a : Attribute) → bytes_eq a.name.prefix [] ≡ true → after_attribute used s a ≡ s
bare_state used s a e = rw e refl

bare_prefix : (used : List (List ℕ)) (s : Begun) (a : Attribute) → bytes_eq a.name.prefix [] ≡ true → written_prefix used s a ≡ []
bare_prefix used s a e = rw e refl

full_prefix : (used : List (List ℕ)) (s : Begun) (a : Attribute) → bytes_eq a.name.prefix [] ≡ false
    → written_prefix used s a ≡ unless_taken (bound_to s.taken_bindings a.name.prefix) used s.taken_bindings a.name.prefix a.name.uri
full_prefix used s a e = rw e refl

pub full_state : (used : List (List ℕ)) (s : Begun) (a : Attribute) → bytes_eq a.name.prefix [] ≡ false
    → after_attribute used s a ≡ with_prefix s (unless_taken (bound_to s.taken_bindings a.name.prefix) used s.taken_bindings a.name.prefix a.name.uri) a.name.uri
full_state used s a e = rw e refl

-- an attribute before others
reads_step : (used : List (List ℕ)) (s next : Begun) (a : Attribute) (others : List Attribute) (chosen : List ℕ)
    → after_attribute used s a ≡ next → written_prefix used s a ≡ chosen
    → ((p u : List ℕ) → bound_to s.taken_bindings p ≡ Some u → bound_to next.taken_bindings p ≡ Some u)
    → attribute_uri_read (after_attributes used next others).scope chosen ≡ Some a.name.uri
    → Reads used next others → Reads used s (a ∷ others)
reads_step used s next a others chosen state own keeps read r = record {
  holds = subst (λ (n : Begun). Holds (after_attributes used n others)) (sym state) r.holds;
  keeps = subst (λ (n : Begun). (p u : List ℕ) → bound_to s.taken_bindings p ≡ Some u → bound_to (after_attributes used n others).taken_bindings p ≡ Some u) (sym state)
      (λ p u e. r.keeps p u (keeps p u e));
  reads = (
    subst (λ (n : Begun). attribute_uri_read (after_attributes used n others).scope (written_prefix used s a) ≡ Some a.name.uri) (sym state)
        (subst (λ (q : List ℕ). attribute_uri_read (after_attributes used next others).scope q ≡ Some a.name.uri) (sym own) read),
    refl,
    refl,
    subst (λ (n : Begun). AttributesReadAs (after_attributes used n others).scope (written_attributes used n others) others) (sym state) r.reads,
  );
}

-- an attribute without a prefix
reads_bare : (used : List (List ℕ)) (s : Begun) (a : Attribute) (others : List Attribute) → bytes_eq a.name.prefix [] ≡ true → IsWritableAttribute a
    → Reads used s others → Reads used s (a ∷ others)
reads_bare used s a others bare w r =
    reads_step used s s a others [] (bare_state used s a bare) (bare_prefix used s a bare) (λ p u e. e)
    (ap Some (sym (w.uri_has_prefix (bytes_same a.name.prefix [] bare)))) r

-- an attribute with a prefix
reads_prefixed : (used : List (List ℕ)) (s : Begun) (a : Attribute) (others : List Attribute) → bytes_eq a.name.prefix [] ≡ false
    → IsGood s (unless_taken (bound_to s.taken_bindings a.name.prefix) used s.taken_bindings a.name.prefix a.name.uri) a.name.uri
    → Reads used (with_prefix s (unless_taken (bound_to s.taken_bindings a.name.prefix) used s.taken_bindings a.name.prefix a.name.uri) a.name.uri) others
    → Reads used s (a ∷ others)
reads_prefixed used s a others full good r =
    let chosen = unless_taken (bound_to s.taken_bindings a.name.prefix) used s.taken_bindings a.name.prefix a.name.uri in
    let next = with_prefix s chosen a.name.uri in
    let last = after_attributes used next others in
    let read : uri_read last.scope chosen ≡ Some a.name.uri =
    r.holds chosen a.name.uri (r.keeps chosen a.name.uri (takes_with s chosen a.name.uri)) in
    let bare : attribute_uri_read last.scope chosen ≡ Some a.name.uri = rw good.full read in
    reads_step used s next a others chosen (full_state used s a full) (full_prefix used s a full) (keeps_with s chosen a.name.uri good.alike) bare r

pub attributes_read : (used : List (List ℕ)) (s : Begun) (attributes : List Attribute) → Holds s → AreWritableAttributes attributes
    → 1 + length used + length s.taken_bindings + length attributes < 2 ^ 64 → Reads used s attributes
attributes_read used s [] h w small = record { holds = h; keeps = λ p u e. e; reads = tt }
attributes_read used s (a ∷ others) h w small =
    let chosen = unless_taken (bound_to s.taken_bindings a.name.prefix) used s.taken_bindings a.name.prefix a.name.uri in
    let bare = attributes_read used s others h w.1 (omega arith) in
    by_bool (bytes_eq a.name.prefix [])
    (λ e. reads_bare used s a others e w.0 bare)
    (λ e. let good = chosen_is_good used s a.name.prefix a.name.uri e w.0.own_name.xml_has_its_uri (omega arith) (bound_to s.taken_bindings a.name.prefix) refl in
    reads_prefixed used s a others e good
    (attributes_read used (with_prefix s chosen a.name.uri) others (holds_with s chosen a.name.uri h good.own) w.1
    (omega (arith, length_with s chosen a.name.uri))))

-- a tag adds its declarations to the bindings in force
grown_by : (s : Begun) (prefix uri : List ℕ) (b : Bool) → (added : List Binding) × (cond b (s.scope ++ ((prefix, uri) ∷ [])) s.scope ≡ s.scope ++ added)
grown_by s prefix uri true = ((prefix, uri) ∷ [], refl)
grown_by s prefix uri false = ([], sym (append-nil s.scope))

grown : (used : List (List ℕ)) (s : Begun) (attributes : List Attribute) → (added : List Binding) × ((after_attributes used s attributes).scope ≡ s.scope ++ added)
grown used s [] = ([], sym (append-nil s.scope))
grown used s (a ∷ others) =
    let chosen = unless_taken (bound_to s.taken_bindings a.name.prefix) used s.taken_bindings a.name.prefix a.name.uri in
    let bare = grown used s others in
    let later = grown used (with_prefix s chosen a.name.uri) others in
    let first = grown_by s chosen a.name.uri (needs_declaration s.scope chosen a.name.uri) in
    by_bool (bytes_eq a.name.prefix [])
    (λ e. (bare.0, ap (λ (n : Begun). (after_attributes used n others).scope) (bare_state used s a e) ∙ bare.1))
    (λ e. (
      first.0 ++ later.0,
      ap (λ (n : Begun). (after_attributes used n others).scope) (full_state used s a e)
          ∙ later.1 ∙ ap (λ x. x ++ later.0) first.1 ∙ append_assoc s.scope first.0 later.0,
    ))

pub scope_is_declared : (scope : List Binding) (name : Name) (attributes : List Attribute)
    → scope ++ drop (length scope) (scope_within scope name attributes) ≡ scope_within scope name attributes
scope_is_declared scope name attributes =
    let used = prefixes_of name attributes in
    let start : Begun = record { taken_bindings = []; scope = scope } in
    let first = grown_by start name.prefix name.uri (needs_declaration scope name.prefix name.uri) in
    let later = grown used (begun scope name) attributes in
    let all : scope_within scope name attributes ≡ scope ++ (first.0 ++ later.0) =
    later.1 ∙ ap (λ x. x ++ later.0) first.1 ∙ append_assoc scope first.0 later.0 in
    ap (λ x. scope ++ drop (length scope) x) all ∙ ap (λ x. scope ++ x) (drop-append_seam scope (first.0 ++ later.0)) ∙ sym all

mutual
  pub tree_reads : (scope : List Binding) (t : PlainTree) → IsWritable t → ReadsAs scope (marked scope t) t
  tree_reads scope (document ts) w = trees_read scope ts w
  tree_reads scope (element name kind attributes ts) w =
      let used = prefixes_of name attributes in
      let start : Begun = record { taken_bindings = []; scope = scope } in
      let first : Holds (begun scope name) = holds_with start name.prefix name.uri (λ p u e. absurd (none_some None u refl e)) w.0.xml_has_its_uri in
      let r = attributes_read used (begun scope name) attributes first w.1 (omega (arith, length-map attributes (λ (a : Attribute). a.name.prefix), w.2)) in
      let inner = scope_within scope name attributes in
      let own : uri_read inner name.prefix ≡ Some name.uri =
      r.holds name.prefix name.uri (r.keeps name.prefix name.uri (takes_with start name.prefix name.uri)) in
      rw (scope_is_declared scope name attributes) (own, refl, r.reads, trees_read inner ts w.3)
  tree_reads scope (attribute a) w = refl
  tree_reads scope (text t) w = refl

  trees_read : (scope : List Binding) (ts : PlainTrees) → AreWritable ts → AllReadAs scope (all_marked scope ts) ts
  trees_read scope no_trees w = tt
  trees_read scope (a_tree t ts) w = (tree_reads scope t w.0, trees_read scope ts w.1)
