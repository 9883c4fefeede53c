-- The rows of trees, put behind one another.
use Rattle.std.proofs.Common.{◌≡◌, ℕ, suc, ◌+◌, ◌<◌, List, [], ◌∷◌, ◌++◌, map, take, length, get_or, Option, Some, refl, sym, ap, ◌∙◌, arith, subst, append_assoc, length-append}
use Rattle.std.specs.List.{slice_get}
use Rattle.std.specs.Option.{option_map}
use Rattle.std.proofs.lemmas.List.{take_more, length-take-le, length-map}
use Rattle.gx_base.specs.declared.name.Name.{Name}
use Rattle.gx_base.specs.declared.type_name.TypeName.{TypeName}
use Rattle.gx_tree.specs.declared.attribute.Attribute.{Attribute}
use Rattle.gx_model.proofs.ListLemmas.{append_none, map_appended}
use Rattle.gx_nodes.specs.Rows.{an_element, PlainRow}
use Rattle.gx_nodes.proofs.Standing.{got_before}
use Rattle.gx_store.specs.declared.labels.Label.{Label}
use Rattle.gx_store.specs.declared.row.Form.TheVariants as forms
use Rattle.gx_store.specs.declared.row.Row.{Row}
use Rattle.gx_store.specs.Grown.{Grows}
use Rattle.gx_store.specs.Opened.{opening_rows}
use Rattle.gx_store.specs.RowView.{row_seen, row_of_attribute, attribute_rows, Adds}

-- lists that grow

pub grows_not : {A : Type 0} (xs : List A) → Grows xs xs
grows_not xs = record { more = []; is = sym (append_none xs) }

pub grows_on : {A : Type 0} (xs ys zs : List A) → Grows xs ys → Grows ys zs → Grows xs zs
grows_on xs ys zs g h = record { more = g.more ++ h.more; is = h.is ∙ ap (λ l. l ++ h.more) g.is ∙ append_assoc xs g.more h.more }

pub got_stays : {A : Type 0} (xs ys : List A) (n : ℕ) (x : A) → Grows xs ys → slice_get xs n ≡ Some x → slice_get ys n ≡ Some x
got_stays xs ys n x g e = ap (λ l. slice_get l n) g.is ∙ got_before xs g.more n x e

-- rows that are added

pub adds_nothing : (labels : List Label) (rows : List Row) → Adds labels rows rows []
adds_nothing labels rows = record { more = []; is = sym (append_none rows); seen = λ later g. refl }

pub adds_then : (l m : List Label) (a b c : List Row) (p q : List PlainRow) → Grows l m → Adds l a b p → Adds m b c q → Adds m a c (p ++ q)
adds_then l m a b c p q g x y = record {
  more = x.more ++ y.more;
  is = y.is ∙ ap (λ rows. rows ++ y.more) x.is ∙ append_assoc a x.more y.more;
  seen = λ later h.
      map_appended (row_seen later) x.more y.more
      ∙ ap (λ rows. rows ++ map (row_seen later) y.more) (x.seen later (grows_on l m later g h))
      ∙ ap (λ rows. map (λ r. Some r) p ++ rows) (y.seen later h)
      ∙ sym (map_appended (λ r. Some r) p q);
}

as_many : (labels : List Label) (a b : List Row) (p : List PlainRow) → (x : Adds labels a b p) → length x.more ≡ length p
as_many labels a b p x = sym (length-map x.more (row_seen labels)) ∙ ap length (x.seen labels (grows_not labels)) ∙ length-map p (λ r. Some r)

pub adds_length : (labels : List Label) (a b : List Row) (p : List PlainRow) → Adds labels a b p → length b ≡ length a + length p
adds_length labels a b p x = ap length x.is ∙ length-append a x.more ∙ ap (λ (n : ℕ). length a + n) (as_many labels a b p x)

-- one more

attributes_more : (position : ℕ) (list : List Attribute) (a : Attribute) → attribute_rows position (list ++ a ∷ []) ≡ attribute_rows position list ++ row_of_attribute (suc (position + length list)) a ∷ []
attributes_more position [] a = ap (λ (n : ℕ). row_of_attribute (suc n) a ∷ []) (omega arith)
attributes_more position (b ∷ list) a =
    ap (λ rows. row_of_attribute (suc position) b ∷ rows) (attributes_more (suc position) list a ∙ ap (λ (n : ℕ). attribute_rows (suc position) list ++ row_of_attribute (suc n) a ∷ []) (omega arith))

pub attribute_added : (l m : List Label) (a b c : List Row) (list : List Attribute) (i up : ℕ) (x : Attribute) → i < length list → x ≡ get_or list i x → up ≡ i + 1 → Grows l m
    → Adds l a b (attribute_rows 0 (take i list)) → Adds m b c (row_of_attribute up x ∷ []) → Adds m a c (attribute_rows 0 (take (i + 1) list))
attribute_added l m a b c list i up x h e u g p q =
    let front : List Attribute = take i list in
    let place : up ≡ suc (0 + length front) = omega (arith, u, length-take-le i list (omega (arith, h))) in
    let one : take (i + 1) list ≡ front ++ x ∷ [] = take_more list i x h ∙ ap (λ y. front ++ y ∷ []) (sym e) in
    let same : attribute_rows 0 front ++ row_of_attribute up x ∷ [] ≡ attribute_rows 0 (take (i + 1) list) =
    ap (λ (n : ℕ). attribute_rows 0 front ++ row_of_attribute n x ∷ []) place ∙ sym (attributes_more 0 front x) ∙ sym (ap (attribute_rows 0) one) in
    subst (Adds m a c) same (adds_then l m a b c (attribute_rows 0 front) (row_of_attribute up x ∷ []) g p q)

pub element_added : (l m : List Label) (a b c : List Row) (up number count : ℕ) (name : Name) (kind : TypeName) (list : List Attribute)
    → slice_get l number ≡ Some (record { name = name; kind = kind }) → Grows l m → count ≡ length list → b ≡ a ++ (record { form = forms.Element number count; up = up; below = 0 }) ∷ []
    → Adds m b c (attribute_rows 0 list) → Adds m a c (opening_rows up name kind list)
element_added l m a b c up number count name kind list label g many f x =
    let row : Row = record { form = forms.Element number count; up = up; below = 0 } in
    let first : Adds l a b (record { form = an_element name kind (length list); up = up; below = 0 } ∷ []) = record {
      more = row ∷ [];
      is = f;
      seen = λ later h.
          ap (λ (o : Option Label). option_map (λ form. record { form = form; up = up; below = 0 }) (option_map (λ (e : Label). an_element e.name e.kind count) o) ∷ []) (got_stays l later number (record { name = name; kind = kind }) h label)
          ∙ ap (λ (i : ℕ). Some (record { form = an_element name kind i; up = up; below = 0 }) ∷ []) many;
    } in
    adds_then l m a b c (record { form = an_element name kind (length list); up = up; below = 0 } ∷ []) (attribute_rows 0 list) g first x
