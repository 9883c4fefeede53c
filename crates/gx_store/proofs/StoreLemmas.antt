-- What the rows of a store say of its forest.
use Rattle.std.proofs.Common.{◌≡◌, ℕ, suc, ◌+◌, ◌-◌, ◌<◌, ◌≤◌, ◌↔◌, Bool, true, false, ltb, List, [], ◌∷◌, ◌++◌, map, length, get_or, Option, None, Some, refl, sym, ap, ◌∙◌, arith, subst}
use Rattle.std.specs.Prelude.{IsTrue, Result, Ok, Err, OnErr}
use Rattle.std.specs.declared.alloc.AllocError.{AllocError}
use Rattle.std.specs.List.{slice_get}
use Rattle.std.specs.Option.{option_map}
use Rattle.std.proofs.lemmas.List.{length-map}
use Rattle.std.proofs.lemmas.Bool.{ltb-true, ltb-false, true≢false}
use Rattle.gx_tree.specs.declared.attribute.Attribute.{Attribute}
use Rattle.gx_tree.specs.PlainTree.{PlainTree, document, element, attribute, text}
use Rattle.gx_model.specs.Forest.{Forest, PlainNode, own_attributes, node_in, then_found}
use Rattle.gx_model.specs.Growth.{Extends}
use Rattle.gx_model.proofs.ListLemmas.{map_appended}
use Rattle.gx_nodes.specs.Entries.{count_below, NodeEntry, node_entries, count_in, beyond, entry_in, place_of_number}
use Rattle.gx_nodes.specs.Rows.{PlainForm, an_element, an_attribute, PlainRow, form_of_tree, row_of, tree_rows, rows_of, forest_of}
use Rattle.gx_nodes.specs.Near.{places_below, places_where_found, parent_in, child_nodes_in, attributes_in, descendants_in}
use Rattle.gx_nodes.specs.Hops.{hops}
use Rattle.gx_nodes.proofs.Standing.{got_within, got_past, got_mapped}
use Rattle.gx_nodes.proofs.EntryLemmas.{got_entry, below_within, below_parts}
use Rattle.gx_nodes.proofs.FoundLemmas.{node_found, entry_stays, place_is_not_there}
use Rattle.gx_nodes.proofs.ParentLemmas.{parent_is}
use Rattle.gx_nodes.proofs.RowLemmas.{rows_back, rows_of_more}
use Rattle.gx_nodes.proofs.HopLemmas.{hops_end, hops_more}
use Rattle.gx_nodes.proofs.NearLemmas.{children_hops, attributes_hops, descendants_hops, nothing_at, no_parent_at, no_parent, parent_before}
use Rattle.gx_store.specs.declared.labels.Label.{Label}
use Rattle.gx_store.specs.declared.number.NodeId.{NodeId}
use Rattle.gx_store.specs.declared.row.Form.{Form}
use Rattle.gx_store.specs.declared.row.Form.TheVariants as forms
use Rattle.gx_store.specs.declared.row.Row.{Row}
use Rattle.gx_store.specs.Grown.{Grows}
use Rattle.gx_store.specs.Opened.{Stand}
use Rattle.gx_store.specs.RowView.{form_seen, row_seen}
use Rattle.gx_store.specs.Stored.{known_of, forest_seen, IsStored, below_in, attributes_at, label_of, label_in, FitsForm, attributes_in_form, label_of_form, IsRowOf}
use Rattle.gx_store.specs.Left.{numbered, children_left, attributes_left, descendants_left}
use Rattle.gx_store.proofs.LoadLemmas.{got_stays, grows_not}

-- the forest that is seen

known_back : {A : Type 0} (xs : List A) → known_of (map (λ x. Some x) xs) ≡ xs
known_back [] = refl
known_back (x ∷ xs) = ap (λ ys. x ∷ ys) (known_back xs)

abbrev pub AreRowsOf : List Label → List Row → Forest → Type 0
AreRowsOf labels rows forest = map (row_seen labels) rows ≡ map (λ r. Some r) (rows_of forest)

pub seen_is : (labels : List Label) (rows : List Row) (forest : Forest) → AreRowsOf labels rows forest → forest_seen labels rows ≡ forest
seen_is labels rows forest h = ap (λ os. forest_of (known_of os)) h ∙ ap forest_of (known_back (rows_of forest)) ∙ rows_back forest

pub stored_from : (labels : List Label) (rows : List Row) (forest : Forest) → AreRowsOf labels rows forest → IsStored labels rows
stored_from labels rows forest h = h ∙ ap (λ (f : Forest). map (λ r. Some r) (rows_of f)) (sym (seen_is labels rows forest h))

pub rows_from : (labels : List Label) (rows : List Row) (forest : Forest) → IsStored labels rows → forest_seen labels rows ≡ forest → AreRowsOf labels rows forest
rows_from labels rows forest h e = h ∙ ap (λ (f : Forest). map (λ r. Some r) (rows_of f)) e

-- rows keep what they stand for where labels come

form_stays : (labels later : List Label) (form : Form) (f : PlainForm) → Grows labels later → form_seen labels form ≡ Some f → form_seen later form ≡ Some f
form_stays labels later forms.Document f g e = e
form_stays labels later (forms.Element n k) f g e = by_label (slice_get labels n) refl e
  where
    by_label : (found : Option Label) → slice_get labels n ≡ found → form_seen labels (forms.Element n k) ≡ Some f → form_seen later (forms.Element n k) ≡ Some f
    by_label None h s = let never : None ≡ Some f = sym (ap (option_map (λ l. an_element l.name l.kind k)) h) ∙ s in absurd (cc)
    by_label (Some l) h s = ap (option_map (λ l. an_element l.name l.kind k)) (got_stays labels later n l g h ∙ sym h) ∙ s
form_stays labels later (forms.Attribute n v) f g e = by_label (slice_get labels n) refl e
  where
    by_label : (found : Option Label) → slice_get labels n ≡ found → form_seen labels (forms.Attribute n v) ≡ Some f → form_seen later (forms.Attribute n v) ≡ Some f
    by_label None h s = let never : None ≡ Some f = sym (ap (option_map (λ l. an_attribute (record { name = l.name; kind = l.kind; value = v }))) h) ∙ s in absurd (cc)
    by_label (Some l) h s = ap (option_map (λ l. an_attribute (record { name = l.name; kind = l.kind; value = v }))) (got_stays labels later n l g h ∙ sym h) ∙ s
form_stays labels later (forms.Text t) f g e = e

-- the parts of a row that is seen
pub record SeenAs (labels : List Label) (r : Row) (p : PlainRow) : Type 0 where
  pub form : form_seen labels r.form ≡ Some p.form
  pub up : r.up ≡ p.up
  pub below : r.below ≡ p.below

seen_as : (labels : List Label) (r : Row) (p : PlainRow) → row_seen labels r ≡ Some p → SeenAs labels r p
seen_as labels r p e = by_form (form_seen labels r.form) refl e
  where
    by_form : (found : Option PlainForm) → form_seen labels r.form ≡ found → option_map (λ form. record { form = form; up = r.up; below = r.below }) (form_seen labels r.form) ≡ Some p → SeenAs labels r p
    by_form None h s =
        let never : None ≡ Some p = sym (ap (option_map (λ (form : PlainForm). record { form = form; up = r.up; below = r.below })) h) ∙ s in absurd (cc)
    by_form (Some f) h s =
        let row : PlainRow = record { form = f; up = r.up; below = r.below } in
        let whole : Some row ≡ Some p = sym (ap (option_map (λ (form : PlainForm). record { form = form; up = r.up; below = r.below })) h) ∙ s in
        let same : row ≡ p = cc in
        record { form = h ∙ ap (λ (q : PlainRow). Some q.form) same; up = ap (λ (q : PlainRow). q.up) same; below = ap (λ (q : PlainRow). q.below) same }

rows_stay : (labels later : List Label) (rows : List Row) (ps : List PlainRow) → Grows labels later → map (row_seen labels) rows ≡ map (λ r. Some r) ps → map (row_seen later) rows ≡ map (λ r. Some r) ps
rows_stay labels later [] [] g e = refl
rows_stay labels later [] (p ∷ ps) g e = absurd (cc)
rows_stay labels later (r ∷ rows) [] g e = absurd (cc)
rows_stay labels later (r ∷ rows) (p ∷ ps) g e =
    let first : row_seen labels r ≡ Some p = cc in
    let others : map (row_seen labels) rows ≡ map (λ r. Some r) ps = cc in
    let s = seen_as labels r p first in
    let form : form_seen later r.form ≡ Some p.form = form_stays labels later r.form p.form g s.form in
    let up : r.up ≡ p.up = s.up in
    let below : r.below ≡ p.below = s.below in
    ap (λ (o : Option PlainForm). option_map (λ f. record { form = f; up = r.up; below = r.below }) o ∷ map (row_seen later) rows) form
    ∙ ap (λ (n : ℕ). Some (record { form = p.form; up = n; below = r.below }) ∷ map (row_seen later) rows) up
    ∙ ap (λ (n : ℕ). Some (record { form = p.form; up = p.up; below = n }) ∷ map (row_seen later) rows) below
    ∙ ap (λ os. Some p ∷ os) (rows_stay labels later rows ps g others)

pub stays_rows : (labels later : List Label) (rows : List Row) (forest : Forest) → Grows labels later → AreRowsOf labels rows forest → AreRowsOf later rows forest
stays_rows labels later rows forest g h = rows_stay labels later rows (rows_of forest) g h

-- the rows of a tree behind others
pub loaded_rows : (labels later : List Label) (rows fresh now : List Row) (forest : Forest) (t : PlainTree) → Grows labels later → AreRowsOf labels rows forest → Stand later fresh (tree_rows 0 t) → now ≡ rows ++ fresh
    → AreRowsOf later now (forest ++ t ∷ [])
loaded_rows labels later rows fresh now forest t g h x e =
    ap (map (row_seen later)) e
    ∙ map_appended (row_seen later) rows fresh
    ∙ ap (λ os. os ++ map (row_seen later) fresh) (stays_rows labels later rows forest g h)
    ∙ ap (λ os. map (λ r. Some r) (rows_of forest) ++ os) (x later (grows_not later))
    ∙ sym (map_appended (λ r. Some r) (rows_of forest) (tree_rows 0 t))
    ∙ ap (map (λ r. Some r)) (sym (rows_of_more forest t))

-- one row

pub stored_count : (labels : List Label) (rows : List Row) (forest : Forest) → AreRowsOf labels rows forest → length rows ≡ count_in forest
stored_count labels rows forest h = sym (length-map rows (row_seen labels)) ∙ ap length h ∙ length-map (rows_of forest) (λ r. Some r) ∙ length-map (node_entries forest) row_of

row_there : (labels : List Label) (rows : List Row) (forest : Forest) → AreRowsOf labels rows forest → (n : ℕ) → n < count_in forest → (r : Row) → slice_get rows n ≡ Some r → SeenAs labels r (row_of (entry_in forest n))
row_there labels rows forest h n l r e =
    let one : slice_get (map (row_seen labels) rows) n ≡ Some (row_seen labels r) = got_mapped (row_seen labels) rows n r e in
    let two : slice_get (map (λ r. Some r) (rows_of forest)) n ≡ Some (Some (row_of (entry_in forest n))) =
    got_mapped (λ r. Some r) (rows_of forest) n (row_of (entry_in forest n)) (got_mapped row_of (node_entries forest) n (entry_in forest n) (got_entry forest n l)) in
    let both : Some (row_seen labels r) ≡ Some (Some (row_of (entry_in forest n))) = sym one ∙ ap (λ os. slice_get os n) h ∙ two in
    let same : row_seen labels r ≡ Some (row_of (entry_in forest n)) = cc in
    seen_as labels r (row_of (entry_in forest n)) same

element_seen : (labels : List Label) (n k : ℕ) (t : PlainTree) (found : Option Label) → slice_get labels n ≡ found → form_seen labels (forms.Element n k) ≡ Some (form_of_tree t)
    → FitsForm (forms.Element n k) t × (slice_get labels n ≡ label_of t)
element_seen labels n k t None h e =
    let never : None ≡ Some (form_of_tree t) = sym (ap (option_map (λ l. an_element l.name l.kind k)) h) ∙ e in absurd (cc)
element_seen labels n k t (Some l) h e =
    by_tree t (sym (ap (option_map (λ l. an_element l.name l.kind k)) h) ∙ e)
  where
    by_tree : (u : PlainTree) → Some (an_element l.name l.kind k) ≡ Some (form_of_tree u) → FitsForm (forms.Element n k) u × (slice_get labels n ≡ label_of u)
    by_tree (document ts) s = absurd (cc)
    by_tree (element name kind list ts) s =
        let same_name : l.name ≡ name = cc in
        let same_kind : l.kind ≡ kind = cc in
        let many : k ≡ length list = cc in
        (many, h ∙ ap (λ x. Some (record { name = x; kind = l.kind })) same_name ∙ ap (λ x. Some (record { name = name; kind = x })) same_kind)
    by_tree (attribute a) s = absurd (cc)
    by_tree (text x) s = absurd (cc)

attribute_seen : (labels : List Label) (n : ℕ) (v : List ℕ) (t : PlainTree) (found : Option Label) → slice_get labels n ≡ found → form_seen labels (forms.Attribute n v) ≡ Some (form_of_tree t)
    → FitsForm (forms.Attribute n v) t × (slice_get labels n ≡ label_of t)
attribute_seen labels n v t None h e =
    let never : None ≡ Some (form_of_tree t) = sym (ap (option_map (λ l. an_attribute (record { name = l.name; kind = l.kind; value = v }))) h) ∙ e in absurd (cc)
attribute_seen labels n v t (Some l) h e =
    by_tree t (sym (ap (option_map (λ l. an_attribute (record { name = l.name; kind = l.kind; value = v }))) h) ∙ e)
  where
    by_tree : (u : PlainTree) → Some (an_attribute (record { name = l.name; kind = l.kind; value = v })) ≡ Some (form_of_tree u) → FitsForm (forms.Attribute n v) u × (slice_get labels n ≡ label_of u)
    by_tree (document ts) s = absurd (cc)
    by_tree (element name kind list ts) s = absurd (cc)
    by_tree (attribute a) s =
        let given : Attribute = record { name = l.name; kind = l.kind; value = v } in
        let same : given ≡ a = cc in
        (ap (λ (x : Attribute). x.value) same, h ∙ ap (λ (x : Attribute). Some (record { name = x.name; kind = x.kind })) same)
    by_tree (text x) s = absurd (cc)

form_fits : (labels : List Label) (form : Form) (t : PlainTree) → form_seen labels form ≡ Some (form_of_tree t) → FitsForm form t × (label_of_form labels form ≡ label_of t)
form_fits labels forms.Document (document ts) e = (tt, refl)
form_fits labels forms.Document (element name kind list ts) e = absurd (cc)
form_fits labels forms.Document (attribute a) e = absurd (cc)
form_fits labels forms.Document (text x) e = absurd (cc)
form_fits labels (forms.Element n k) t e = element_seen labels n k t (slice_get labels n) refl e
form_fits labels (forms.Attribute n v) t e = attribute_seen labels n v t (slice_get labels n) refl e
form_fits labels (forms.Text x) (document ts) e = absurd (cc)
form_fits labels (forms.Text x) (element name kind list ts) e = absurd (cc)
form_fits labels (forms.Text x) (attribute a) e = absurd (cc)
form_fits labels (forms.Text x) (text y) e = let same : x ≡ y = cc in (same, refl)

-- what is read at a number

pub read_row : (labels : List Label) (rows : List Row) (forest : Forest) → AreRowsOf labels rows forest → (n : ℕ) (r : Row) → n < length rows → r ≡ get_or rows n r → IsRowOf forest n r
read_row labels rows forest h n r l e =
    let inside : n < count_in forest = omega (arith, l, stored_count labels rows forest h) in
    let s = row_there labels rows forest h n inside r (got_within rows n r l ∙ ap (λ x. Some x) (sym e)) in
    record { within = inside; form = (form_fits labels r.form (entry_in forest n).tree s.form).0; up = s.up; below = s.below }

pub read_label : (labels : List Label) (rows : List Row) (forest : Forest) → AreRowsOf labels rows forest → (n : ℕ) (r : Row) → n < length rows → r ≡ get_or rows n r → label_of_form labels r.form ≡ label_in forest n
read_label labels rows forest h n r l e =
    let inside : n < count_in forest = omega (arith, l, stored_count labels rows forest h) in
    let s = row_there labels rows forest h n inside r (got_within rows n r l ∙ ap (λ x. Some x) (sym e)) in
    (form_fits labels r.form (entry_in forest n).tree s.form).1

pub no_label : (labels : List Label) (rows : List Row) (forest : Forest) → AreRowsOf labels rows forest → (n : ℕ) → length rows ≤ n → None ≡ label_in forest n
no_label labels rows forest h n l =
    sym (ap (λ (e : NodeEntry). label_of e.tree) (got_past (node_entries forest) n (beyond forest n) (omega (arith, l, stored_count labels rows forest h))))

pub attributes_fit : (form : Form) (t : PlainTree) → FitsForm form t → attributes_in_form form ≡ length (own_attributes t)
attributes_fit forms.Document (document ts) h = refl
attributes_fit forms.Document (element name kind list ts) h = absurd h
attributes_fit forms.Document (attribute a) h = absurd h
attributes_fit forms.Document (text x) h = absurd h
attributes_fit (forms.Element n k) (document ts) h = absurd h
attributes_fit (forms.Element n k) (element name kind list ts) h = h
attributes_fit (forms.Element n k) (attribute a) h = absurd h
attributes_fit (forms.Element n k) (text x) h = absurd h
attributes_fit (forms.Attribute n v) (document ts) h = absurd h
attributes_fit (forms.Attribute n v) (element name kind list ts) h = absurd h
attributes_fit (forms.Attribute n v) (attribute a) h = refl
attributes_fit (forms.Attribute n v) (text x) h = absurd h
attributes_fit (forms.Text y) (document ts) h = absurd h
attributes_fit (forms.Text y) (element name kind list ts) h = absurd h
attributes_fit (forms.Text y) (attribute a) h = absurd h
attributes_fit (forms.Text y) (text x) h = refl

-- the same, from a store and its view

pub row_at : (labels : List Label) (rows : List Row) (forest : Forest) → IsStored labels rows → forest_seen labels rows ≡ forest → (n : ℕ) (r : Row) → n < length rows → r ≡ get_or rows n r → IsRowOf forest n r
row_at labels rows forest h v = read_row labels rows forest (rows_from labels rows forest h v)

pub row_of_node : (labels : List Label) (rows : List Row) (forest : Forest) → IsStored labels rows → forest_seen labels rows ≡ forest → (n : ℕ) (r : Row) → n < count_in forest → r ≡ get_or rows n r → IsRowOf forest n r
row_of_node labels rows forest h v n r l = read_row labels rows forest (rows_from labels rows forest h v) n r (omega (arith, l, stored_count labels rows forest (rows_from labels rows forest h v)))

pub label_at : (labels : List Label) (rows : List Row) (forest : Forest) → IsStored labels rows → forest_seen labels rows ≡ forest → (n : ℕ) (r : Row) → n < length rows → r ≡ get_or rows n r → label_of_form labels r.form ≡ label_in forest n
label_at labels rows forest h v = read_label labels rows forest (rows_from labels rows forest h v)

pub count_at : (labels : List Label) (rows : List Row) (forest : Forest) → IsStored labels rows → forest_seen labels rows ≡ forest → length rows ≡ count_in forest
count_at labels rows forest h v = stored_count labels rows forest (rows_from labels rows forest h v)

-- what a store keeps where only labels come, and what it has where a tree comes

pub kept_rows : (labels later : List Label) (rows : List Row) (forest : Forest) → IsStored labels rows → forest_seen labels rows ≡ forest → Grows labels later → AreRowsOf later rows forest
kept_rows labels later rows forest h v g = stays_rows labels later rows forest g (rows_from labels rows forest h v)

pub on_err : {T P : Type 0} (r : Result T AllocError) → P → OnErr r P
on_err (Ok x) h = tt
on_err (Err e) h = h

-- how far below and beside

pub row_ends : (forest : Forest) (n : ℕ) (r : Row) → IsRowOf forest n r → n + r.below < count_in forest
row_ends forest n r h = omega (arith, h.below, below_within forest n h.within)

pub attributes_end : (forest : Forest) (n : ℕ) (r : Row) → IsRowOf forest n r → (attributes_in_form r.form ≡ attributes_at forest n) × (attributes_at forest n ≤ below_in forest n)
attributes_end forest n r h = (attributes_fit r.form (entry_in forest n).tree h.form, omega (arith, below_parts (entry_in forest n).tree))

-- where the forest grows

pub at_later : (forest later : Forest) (x : Extends forest later) (P : Forest → Type 0) → P (forest ++ x.more) → P later
at_later forest later x P h = subst P (sym x.is) h

pub named_later : {A : Type 0} (forest later : Forest) (n : ℕ) (part : PlainTree → Option A) → part (text []) ≡ None → Extends forest later
    → part (entry_in forest n).tree ≡ then_found (node_in forest (place_of_number later n)) part
named_later {A = A} forest later n part none x = at_later forest later x (λ f. part (entry_in forest n).tree ≡ then_found (node_in forest (place_of_number f n)) part) (by_count (ltb n (count_in forest)) refl)
  where
    by_count : (b : Bool) → ltb n (count_in forest) ≡ b → part (entry_in forest n).tree ≡ then_found (node_in forest (place_of_number (forest ++ x.more) n)) part
    by_count true e =
        let h = ltb-true n (count_in forest) e in
        let same : place_of_number (forest ++ x.more) n ≡ place_of_number forest n = ap (λ (y : NodeEntry). y.place) (entry_stays forest x.more n h) in
        ap (λ (o : Option PlainTree). then_found o part) (sym (node_found forest n h)) ∙ ap (λ (p : PlainNode). then_found (node_in forest p) part) (sym same)
    by_count false e =
        let h = ltb-false n (count_in forest) e in
        ap (λ (y : NodeEntry). part y.tree) (got_past (node_entries forest) n (beyond forest n) h) ∙ none
        ∙ sym (ap (λ (o : Option PlainTree). then_found o part) (place_is_not_there forest x.more n h))

-- the node of a number, in each forest that grows from this one

pub found_later : (forest later : Forest) (n : ℕ) → n < count_in forest → Extends forest later → node_in forest (place_of_number later n) ≡ Some (entry_in forest n).tree
found_later forest later n h x =
    at_later forest later x (λ f. node_in forest (place_of_number f n) ≡ Some (entry_in forest n).tree)
    (ap (λ (e : NodeEntry). node_in forest e.place) (entry_stays forest x.more n h) ∙ node_found forest n h)

pub not_found_later : (forest later : Forest) (n : ℕ) → count_in forest ≤ n → Extends forest later → node_in forest (place_of_number later n) ≡ None
not_found_later forest later n h x = at_later forest later x (λ f. node_in forest (place_of_number f n) ≡ None) (place_is_not_there forest x.more n h)

pub parent_past : (forest later : Forest) (n : ℕ) → count_in forest ≤ n → Extends forest later → None ≡ parent_in forest (place_of_number later n)
parent_past forest later n h x = at_later forest later x (λ f. None ≡ parent_in forest (place_of_number f n)) (sym (no_parent_at forest x.more n h))

pub parent_of_root : (forest later : Forest) (n : ℕ) (r : Row) → IsRowOf forest n r → r.up ≡ 0 → Extends forest later → None ≡ parent_in forest (place_of_number later n)
parent_of_root forest later n r h e x =
    at_later forest later x (λ f. None ≡ parent_in forest (place_of_number f n)) (sym (no_parent forest x.more n h.within (sym h.up ∙ e)))

pub parent_above : (forest later : Forest) (n : ℕ) (r : Row) → IsRowOf forest n r → 0 < r.up → Extends forest later → Some (place_of_number later (n - r.up)) ≡ parent_in forest (place_of_number later n)
parent_above forest later n r h b x =
    at_later forest later x (λ f. Some (place_of_number f (n - r.up)) ≡ parent_in forest (place_of_number f n))
    (ap (λ (k : ℕ). Some (place_of_number (forest ++ x.more) (n - k))) h.up ∙ sym (parent_before forest x.more n h.within (omega (arith, b, h.up))))

pub up_within : (forest : Forest) (n : ℕ) (r : Row) → IsRowOf forest n r → 0 < r.up → r.up ≤ n
up_within forest n r h b = omega (arith, h.up, (parent_is forest n h.within (omega (arith, b, h.up))).0)

-- iterators

pub not_there : (b : Bool) (n m : ℕ) → IsTrue b ↔ (n < m) → b ≡ false → m ≤ n
not_there b n m h e = by_test (ltb n m) refl
  where
    by_test : (c : Bool) → ltb n m ≡ c → m ≤ n
    by_test true f = let here : b ≡ true = h.1 (ltb-true n m f) in absurd (true≢false (sym here ∙ e))
    by_test false f = ltb-false n m f

placed_left : (later : Forest) (ns : List ℕ) → map (λ (m : NodeId). place_of_number later m.number) (map numbered ns) ≡ map (place_of_number later) ns
placed_left later [] = refl
placed_left later (n ∷ ns) = ap (λ ps. place_of_number later n ∷ ps) (placed_left later ns)

pub children_from : (forest later : Forest) (n next end : ℕ) → n < count_in forest → next ≡ suc (n + attributes_at forest n) → end ≡ suc (n + below_in forest n) → Extends forest later
    → map (λ (m : NodeId). place_of_number later m.number) (children_left forest next end) ≡ child_nodes_in forest (place_of_number later n)
children_from forest later n next end h a b x =
    placed_left later (hops (below_in forest) next end)
    ∙ ap (λ (k : ℕ). map (place_of_number later) (hops (below_in forest) k end)) a
    ∙ ap (λ (k : ℕ). map (place_of_number later) (hops (below_in forest) (suc (n + attributes_at forest n)) k)) b
    ∙ at_later forest later x (λ f. map (place_of_number f) (hops (below_in forest) (suc (n + attributes_at forest n)) (suc (n + below_in forest n))) ≡ child_nodes_in forest (place_of_number f n)) (children_hops forest x.more n h)

pub attributes_from : (forest later : Forest) (n next end : ℕ) → n < count_in forest → next ≡ suc n → end ≡ suc (n + attributes_at forest n) → Extends forest later
    → map (λ (m : NodeId). place_of_number later m.number) (attributes_left next end) ≡ attributes_in forest (place_of_number later n)
attributes_from forest later n next end h a b x =
    placed_left later (hops (λ m. 0) next end)
    ∙ ap (λ (k : ℕ). map (place_of_number later) (hops (λ m. 0) k end)) a
    ∙ ap (λ (k : ℕ). map (place_of_number later) (hops (λ m. 0) (suc n) k)) b
    ∙ at_later forest later x (λ f. map (place_of_number f) (hops (λ m. 0) (suc n) (suc (n + attributes_at forest n))) ≡ attributes_in forest (place_of_number f n)) (attributes_hops forest x.more n h)

pub descendants_from : (forest later : Forest) (n next end : ℕ) → n < count_in forest → next ≡ suc (n + attributes_at forest n) → end ≡ suc (n + below_in forest n) → Extends forest later
    → map (λ (m : NodeId). place_of_number later m.number) (descendants_left forest next end) ≡ descendants_in forest (place_of_number later n)
descendants_from forest later n next end h a b x =
    placed_left later (hops (attributes_at forest) next end)
    ∙ ap (λ (k : ℕ). map (place_of_number later) (hops (attributes_at forest) k end)) a
    ∙ ap (λ (k : ℕ). map (place_of_number later) (hops (attributes_at forest) (suc (n + attributes_at forest n)) k)) b
    ∙ at_later forest later x (λ f. map (place_of_number f) (hops (attributes_at forest) (suc (n + attributes_at forest n)) (suc (n + below_in forest n))) ≡ descendants_in forest (place_of_number f n)) (descendants_hops forest x.more n h)

pub nothing_later : (forest later : Forest) (n : ℕ) (places : PlainNode → PlainTree → List PlainNode) → count_in forest ≤ n → Extends forest later
    → [] ≡ places_where_found (node_in forest (place_of_number later n)) (places (place_of_number later n))
nothing_later forest later n places h x =
    at_later forest later x (λ f. [] ≡ places_where_found (node_in forest (place_of_number f n)) (places (place_of_number f n))) (sym (nothing_at forest x.more n h (places (place_of_number (forest ++ x.more) n))))

pub left_more : (left_out : ℕ → ℕ) (n next end : ℕ) → n < end → next ≡ suc (n + left_out n) → map numbered (hops left_out n end) ≡ numbered n ∷ map numbered (hops left_out next end)
left_more left_out n next end h e = ap (map numbered) (hops_more left_out n end h) ∙ ap (λ (k : ℕ). numbered n ∷ map numbered (hops left_out k end)) (sym e)

pub left_end : (left_out : ℕ → ℕ) (n end : ℕ) → end ≤ n → map numbered (hops left_out n end) ≡ []
left_end left_out n end h = ap (map numbered) (hops_end left_out n end h)

pub fewer_left : (old new : List NodeId) (n : NodeId) → old ≡ n ∷ new → length new < length old
fewer_left old new n e = omega (arith, ap length e)

pub descendants_anywhere : (forest later : Forest) (n : ℕ) → Extends forest later
    → map (λ (m : NodeId). place_of_number later m.number) (descendants_left forest (suc (n + attributes_at forest n)) (suc (n + below_in forest n))) ≡ descendants_in forest (place_of_number later n)
descendants_anywhere forest later n x = by_count (ltb n (count_in forest)) refl
  where
    by_count : (b : Bool) → ltb n (count_in forest) ≡ b
        → map (λ (m : NodeId). place_of_number later m.number) (descendants_left forest (suc (n + attributes_at forest n)) (suc (n + below_in forest n))) ≡ descendants_in forest (place_of_number later n)
    by_count true e = descendants_from forest later n (suc (n + attributes_at forest n)) (suc (n + below_in forest n)) (ltb-true n (count_in forest) e) refl refl x
    by_count false e =
        let h = ltb-false n (count_in forest) e in
        let past : entry_in forest n ≡ beyond forest n = got_past (node_entries forest) n (beyond forest n) h in
        let none : below_in forest n ≡ 0 = ap (λ (y : NodeEntry). count_below y.tree) past in
        ap (map (λ (m : NodeId). place_of_number later m.number)) (left_end (attributes_at forest) (suc (n + attributes_at forest n)) (suc (n + below_in forest n)) (omega (arith, none)))
        ∙ nothing_later forest later n (λ p t. places_below p.tree p.path t) h x
