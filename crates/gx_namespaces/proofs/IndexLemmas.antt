-- Bindings and their index, after a binding was added or taken away.
use Rattle.std.proofs.Common.{◌≡◌, ℕ, List, [], ◌∷◌, ◌++◌, map, Bool, true, false, cond, refl, sym, ap, ◌∙◌, subst, append_assoc, append-nil}
use Rattle.std.specs.Prelude.{Option, Some, None, Result, Ok, Err, OnOk, OnErr, bytes_eq}
use Rattle.std.specs.BTreeMap.{get, UpdatesBy}
use Rattle.std.specs.Cmp.Lexicographic.{bytes_decides}
use Rattle.std.proofs.lemmas.List.{map-append}
use Rattle.std.proofs.lemmas.Map.Text.{is_eq-slice_cmp}
use Rattle.gx_base.specs.Text.{text_cmp}
use Rattle.gx_tree.specs.Binding.{Binding, bound_to, last_of}
use Rattle.gx_namespaces.specs.declared.bindings.Bound.{Bound}
use Rattle.gx_namespaces.specs.declared.bindings.Bindings.TheInside.{Inside}
use Rattle.gx_namespaces.specs.BindingIndex.{binding_kept, bindings_kept, HideWhatStood, HasIndex}

pub by_bool : {P : Type 0} (b : Bool) → (b ≡ true → P) → (b ≡ false → P) → P
by_bool true f g = f refl
by_bool false f g = g refl

pub bytes_same : (a b : List ℕ) → bytes_eq a b ≡ true → a ≡ b
bytes_same a b e = (bytes_decides a b).0 e

pub bytes_self : (a : List ℕ) → bytes_eq a a ≡ true
bytes_self a = (bytes_decides a a).1 refl

last_of-cond : (b : Bool) (first rest : Option (List ℕ)) (uri : List ℕ) → last_of first (cond b (Some uri) rest) ≡ cond b (Some uri) (last_of first rest)
last_of-cond true first rest uri = refl
last_of-cond false first rest uri = refl

bound_to-snoc : (bs : List Binding) (b : Binding) (p : List ℕ) → bound_to (bs ++ (b ∷ [])) p ≡ cond (bytes_eq b.0 p) (Some b.1) (bound_to bs p)
bound_to-snoc [] b p = refl
bound_to-snoc (c ∷ cs) b p =
    let first = cond (bytes_eq c.0 p) (Some c.1) None in
    ap (last_of first) (bound_to-snoc cs b p) ∙ last_of-cond (bytes_eq b.0 p) first (bound_to cs p) b.1

hide_push : (before : List Binding) (bs : List Bound) (b : Bound) → HideWhatStood before bs
    → b.hidden ≡ bound_to (before ++ map binding_kept bs) b.prefix → HideWhatStood before (bs ++ (b ∷ []))
hide_push before [] b h e = (rw append-nil at e, tt)
hide_push before (c ∷ cs) b h e = (h.0, hide_push (before ++ (binding_kept c ∷ [])) cs b h.1 (rw append_assoc e))

hide_pop : (before : List Binding) (bs : List Bound) (b : Bound) → HideWhatStood before (bs ++ (b ∷ []))
    → HideWhatStood before bs × (b.hidden ≡ bound_to (before ++ map binding_kept bs) b.prefix)
hide_pop before [] b h = (tt, rw append-nil h.0)
hide_pop before (c ∷ cs) b h =
    let r = hide_pop (before ++ (binding_kept c ∷ [])) cs b h.1 in
    ((h.0, r.0), rw append_assoc at r.1)

-- what the last binding leaves of the others
bound_to-last : (whole front : List Bound) (b : Bound) (q : List ℕ) → whole ≡ front ++ (b ∷ [])
    → bound_to (map binding_kept whole) q ≡ cond (bytes_eq b.prefix q) (Some b.uri) (bound_to (map binding_kept front) q)
bound_to-last whole front b q e =
    ap (λ bs. bound_to bs q) (ap (map binding_kept) e ∙ map-append binding_kept front (b ∷ [])) ∙ bound_to-snoc (map binding_kept front) (binding_kept b) q

-- the index at each prefix, after a change at one
pub updated : (old new : Inside) (prefix : List ℕ) (w : Option (List ℕ)) → UpdatesBy text_cmp (text_cmp prefix) old.last new.last w
    → (q : List ℕ) → get text_cmp new.last q ≡ cond (bytes_eq prefix q) w (get text_cmp old.last q)
updated old new prefix w u q = u.0 q ∙ ap (λ t. cond t w (get text_cmp old.last q)) (is_eq-slice_cmp prefix q)

-- one more binding
pub indexed_push : (old new : Inside) (b : Bound) → new.all.items ≡ old.all.items ++ (b ∷ [])
    → ((q : List ℕ) → get text_cmp new.last q ≡ cond (bytes_eq b.prefix q) (Some b.uri) (get text_cmp old.last q))
    → b.hidden ≡ get text_cmp old.last b.prefix → HasIndex old → HasIndex new
indexed_push old new b items updates hidden h = record {
  last = λ q. updates q ∙ ap (cond (bytes_eq b.prefix q) (Some b.uri)) (h.last q) ∙ sym (bound_to-last new.all.items old.all.items b q items);
  hidden = subst (HideWhatStood []) (sym items) (hide_push [] old.all.items b h.hidden (hidden ∙ h.last b.prefix));
}

-- one binding less
pub indexed_pop : (old new : Inside) (b : Bound) → old.all.items ≡ new.all.items ++ (b ∷ [])
    → ((q : List ℕ) → get text_cmp new.last q ≡ cond (bytes_eq b.prefix q) b.hidden (get text_cmp old.last q))
    → HasIndex old → HasIndex new
indexed_pop old new b items updates h =
    let kept = hide_pop [] new.all.items b (subst (HideWhatStood []) items h.hidden) in
    record {
      last = λ q. by_bool (bytes_eq b.prefix q)
          (λ e. (rw e at (updates q)) ∙ subst (λ (p : List ℕ). b.hidden ≡ bound_to (bindings_kept new) p) (bytes_same b.prefix q e) kept.1)
          (λ e. (rw e at (updates q)) ∙ h.last q ∙ rw e at (bound_to-last old.all.items new.all.items b q items));
      hidden = kept.0;
    }

-- the index has the prefix of each binding
indexed_last : (old : Inside) (front : List Bound) (b : Bound) → old.all.items ≡ front ++ (b ∷ []) → HasIndex old
    → get text_cmp old.last b.prefix ≡ None → ⊥
indexed_last old front b items h none =
    let found : None ≡ Some b.uri = sym none ∙ h.last b.prefix ∙ bound_to-last old.all.items front b b.prefix items ∙ rw (bytes_self b.prefix) refl in
    cc

-- what follows from either outcome
either_way : {T E P Q : Type 0} (r : Result T E) → OnOk r P → OnErr r Q → (Q → P) → P
either_way (Ok x) p q f = p
either_way (Err e) p q f = f q

-- one binding less, whose prefix is bound again to what it hid
pub indexed_again : {T E : Type 0} (r : Result T E) (old new : Inside) (b : Bound) (uri : List ℕ) → old.all.items ≡ new.all.items ++ (b ∷ [])
    → b.hidden ≡ Some uri → OnOk r (UpdatesBy text_cmp (text_cmp b.prefix) old.last new.last (Some uri))
    → OnErr r (get text_cmp old.last b.prefix ≡ None) → HasIndex old → HasIndex new
indexed_again r old new b uri items is ok err h =
    let put = either_way r ok err (λ none. absurd (indexed_last old new.all.items b items h none)) in
    indexed_pop old new b items (updated old new b.prefix b.hidden (rw is put)) h
