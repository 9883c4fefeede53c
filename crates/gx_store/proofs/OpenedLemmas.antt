-- Rows that are put down node by node.
use Rattle.std.proofs.Common.{◌≡◌, ℕ, zero, suc, ◌+◌, ◌*◌, ◌-◌, ◌<◌, ◌≤◌, List, [], ◌∷◌, ◌++◌, map, set, length, get_or, Option, None, Some, refl, sym, ap, ◌∙◌, arith, subst, append_assoc, length-append}
use Rattle.std.specs.Prelude.{Result, Ok, Err, OnOk}
use Rattle.std.specs.declared.alloc.AllocError.{AllocError}
use Rattle.std.specs.Option.{option_map}
use Rattle.std.proofs.lemmas.List.{length-map}
use Rattle.gx_base.specs.declared.name.Name.{Name}
use Rattle.gx_base.specs.declared.type_name.TypeName.{TypeName}
use Rattle.gx_tree.specs.declared.attribute.Attribute.{Attribute as AttributeNode}
use Rattle.gx_tree.specs.PlainTree.{PlainTree, PlainTrees, document, element, attribute, text, no_trees, a_tree, trees_of, tree_size, trees_size}
use Rattle.gx_model.proofs.ListLemmas.{append_none, map_appended}
use Rattle.gx_nodes.specs.Entries.{count_below, count_of_all, attribute_entries, entries_of, child_entries}
use Rattle.gx_nodes.specs.Rows.{PlainForm, a_document, an_element, PlainRow, row_of, tree_rows}
use Rattle.gx_nodes.proofs.EntryLemmas.{length_attributes, length_children, length_tree}
use Rattle.gx_nodes.proofs.RowLemmas.{rows_are}
use Rattle.gx_store.specs.declared.labels.Label.{Label}
use Rattle.gx_store.specs.declared.load.Opened.{Opened}
use Rattle.gx_store.specs.declared.row.Form.TheVariants as forms
use Rattle.gx_store.specs.declared.row.Row.{Row}
use Rattle.gx_store.specs.Grown.{Grows}
use Rattle.gx_store.specs.Opened.{Stand, opening_rows, plain_closed_at, rows_to_come, AreWithin, WillBe, size_left}
use Rattle.gx_store.specs.RowView.{form_seen, row_seen, row_of_attribute, attribute_rows, child_rows, Adds, closed_at}
use Rattle.gx_store.proofs.LoadLemmas.{grows_not, grows_on}

-- rows and what they stand for

pub as_many : (labels : List Label) (rows : List Row) (plain : List PlainRow) → Stand labels rows plain → length rows ≡ length plain
as_many labels rows plain s = sym (length-map rows (row_seen labels)) ∙ ap length (s labels (grows_not labels)) ∙ length-map plain (λ r. Some r)

stand_more : (l m : List Label) (a b : List Row) (plain more : List PlainRow) → Stand l a plain → Grows l m → Adds m a b more → Stand m b (plain ++ more)
stand_more l m a b plain more s g x later h =
    ap (map (row_seen later)) x.is
    ∙ map_appended (row_seen later) a x.more
    ∙ ap (λ os. os ++ map (row_seen later) x.more) (s later (grows_on l m later g h))
    ∙ ap (λ os. map (λ r. Some r) plain ++ os) (x.seen later h)
    ∙ sym (map_appended (λ r. Some r) plain more)

-- rows that are closed

closed_row : (later : List Label) (r : Row) (p : PlainRow) (n : ℕ) → row_seen later r ≡ Some p
    → row_seen later (record { form = r.form; up = r.up; below = n }) ≡ Some (record { form = p.form; up = p.up; below = n })
closed_row later r p n e = by_form (form_seen later r.form) refl
  where
    by_form : (found : Option PlainForm) → form_seen later r.form ≡ found → row_seen later (record { form = r.form; up = r.up; below = n }) ≡ Some (record { form = p.form; up = p.up; below = n })
    by_form None h =
        let never : None ≡ Some p = sym (ap (option_map (λ (form : PlainForm). record { form = form; up = r.up; below = r.below })) h) ∙ e in absurd (cc)
    by_form (Some f) h =
        let row : PlainRow = record { form = f; up = r.up; below = r.below } in
        let whole : Some row ≡ Some p = sym (ap (option_map (λ (form : PlainForm). record { form = form; up = r.up; below = r.below })) h) ∙ e in
        let same : row ≡ p = cc in
        ap (option_map (λ (form : PlainForm). record { form = form; up = r.up; below = n })) h ∙ ap (λ (q : PlainRow). Some (record { form = q.form; up = q.up; below = n })) same

closed_rows : (later : List Label) (rows : List Row) (plain : List PlainRow) (at : ℕ) → map (row_seen later) rows ≡ map (λ r. Some r) plain
    → map (row_seen later) (closed_at at rows) ≡ map (λ r. Some r) (plain_closed_at at plain)
closed_rows later [] [] at e = refl
closed_rows later [] (p ∷ plain) at e = absurd (cc)
closed_rows later (r ∷ rows) [] at e = absurd (cc)
closed_rows later (r ∷ rows) (p ∷ plain) zero e =
    let first : row_seen later r ≡ Some p = cc in
    let others : map (row_seen later) rows ≡ map (λ x. Some x) plain = cc in
    let many : length rows ≡ length plain = sym (length-map rows (row_seen later)) ∙ ap length others ∙ length-map plain (λ x. Some x) in
    ap (λ (o : Option PlainRow). o ∷ map (row_seen later) rows) (closed_row later r p (length rows) first)
    ∙ ap (λ (n : ℕ). Some (record { form = p.form; up = p.up; below = n }) ∷ map (row_seen later) rows) many
    ∙ ap (λ os. Some (record { form = p.form; up = p.up; below = length plain }) ∷ os) others
closed_rows later (r ∷ rows) (p ∷ plain) (suc at) e =
    let first : row_seen later r ≡ Some p = cc in
    let others : map (row_seen later) rows ≡ map (λ x. Some x) plain = cc in
    ap (λ (o : Option PlainRow). o ∷ map (row_seen later) (closed_at at rows)) first ∙ ap (λ os. Some p ∷ os) (closed_rows later rows plain at others)

closed_length : (at : ℕ) (rows : List Row) → length (closed_at at rows) ≡ length rows
closed_length at [] = refl
closed_length zero (r ∷ rows) = refl
closed_length (suc at) (r ∷ rows) = ap suc (closed_length at rows)

closed_behind : (xs ys : List PlainRow) (r : PlainRow) → plain_closed_at (length xs) (xs ++ r ∷ ys) ≡ xs ++ (record { form = r.form; up = r.up; below = length ys }) ∷ ys
closed_behind [] ys r = refl
closed_behind (x ∷ xs) ys r = ap (λ rows. x ∷ rows) (closed_behind xs ys r)

pub closed_is : (rows : List Row) (at n : ℕ) (r : Row) → at < length rows → r ≡ get_or rows at r → n ≡ length rows - at - 1
    → set rows at (record { form = r.form; up = r.up; below = n }) ≡ closed_at at rows
closed_is [] at n r h e b = absurd (omega (arith, h))
closed_is (x ∷ rows) zero n r h e b =
    let count : n ≡ length rows = omega (arith, b) in
    ap (λ (y : Row). record { form = y.form; up = y.up; below = n } ∷ rows) e ∙ ap (λ (k : ℕ). record { form = x.form; up = x.up; below = k } ∷ rows) count
closed_is (x ∷ rows) (suc at) n r h e b = ap (λ l. x ∷ l) (closed_is rows at n r (omega (arith, h)) e (omega (arith, b)))

-- the rows of a tree whose first rows are put down

opened_tree : (plain own : List PlainRow) (form : PlainForm) (up at : ℕ) (ts : PlainTrees) → at ≡ length plain
    → plain_closed_at at ((plain ++ (record { form = form; up = up; below = 0 }) ∷ own) ++ child_rows (length (plain ++ (record { form = form; up = up; below = 0 }) ∷ own) - at) ts)
    ≡ plain ++ (record { form = form; up = up; below = length (own ++ child_rows (suc (length own)) ts) }) ∷ (own ++ child_rows (suc (length own)) ts)
opened_tree plain own form up at ts e =
    let row : PlainRow = record { form = form; up = up; below = 0 } in
    let C : List PlainRow = child_rows (suc (length own)) ts in
    let many : length (plain ++ row ∷ own) - at ≡ suc (length own) = omega (arith, e, length-append plain (row ∷ own)) in
    ap (λ (n : ℕ). plain_closed_at at ((plain ++ row ∷ own) ++ child_rows n ts)) many
    ∙ ap (plain_closed_at at) (append_assoc plain (row ∷ own) C)
    ∙ ap (λ (n : ℕ). plain_closed_at n (plain ++ row ∷ (own ++ C))) e
    ∙ closed_behind plain (own ++ C) row

opened_document : (plain : List PlainRow) (up at : ℕ) (ts : PlainTrees) → at ≡ length plain
    → plain_closed_at at ((plain ++ (record { form = a_document; up = up; below = 0 }) ∷ []) ++ child_rows (length (plain ++ (record { form = a_document; up = up; below = 0 }) ∷ []) - at) ts)
    ≡ plain ++ tree_rows up (document ts)
opened_document plain up at ts e =
    let count : length (child_rows 1 ts) ≡ count_of_all ts = length-map (child_entries 0 [] 0 1 ts) row_of ∙ length_children 0 [] 0 1 ts in
    opened_tree plain [] a_document up at ts e ∙ ap (λ (n : ℕ). plain ++ (record { form = a_document; up = up; below = n }) ∷ child_rows 1 ts) count

opened_element : (plain : List PlainRow) (up at : ℕ) (name : Name) (kind : TypeName) (list : List AttributeNode) (ts : PlainTrees) → at ≡ length plain
    → plain_closed_at at ((plain ++ opening_rows up name kind list) ++ child_rows (length (plain ++ opening_rows up name kind list) - at) ts) ≡ plain ++ tree_rows up (element name kind list ts)
opened_element plain up at name kind list ts e =
    let A : List PlainRow = attribute_rows 0 list in
    let n : ℕ = suc (length list) in
    let first : length A ≡ length list = length-map (attribute_entries 0 [] 0 list) row_of ∙ length_attributes 0 [] 0 list in
    let last : length (child_rows n ts) ≡ count_of_all ts = length-map (child_entries 0 [] 0 n ts) row_of ∙ length_children 0 [] 0 n ts in
    let whole : length (A ++ child_rows n ts) ≡ length list + count_of_all ts = omega (arith, length-append A (child_rows n ts), first, last) in
    let form : PlainForm = an_element name kind (length list) in
    opened_tree plain A form up at ts e
    ∙ ap (λ (k : ℕ). plain ++ (record { form = form; up = up; below = length (A ++ child_rows (suc k) ts) }) ∷ (A ++ child_rows (suc k) ts)) first
    ∙ ap (λ (k : ℕ). plain ++ (record { form = form; up = up; below = k }) ∷ (A ++ child_rows n ts)) whole
    ∙ ap (λ rows. plain ++ (record { form = form; up = up; below = length list + count_of_all ts }) ∷ rows) (sym (map_appended row_of (attribute_entries 0 [] 0 list) (child_entries 0 [] 0 n ts)))

-- the rows of a child and those behind it

shifted : (path q : List ℕ) (i j up : ℕ) (ts : PlainTrees) → map row_of (child_entries 0 path i up ts) ≡ map row_of (child_entries 0 q j up ts)
shifted path q i j up no_trees = refl
shifted path q i j up (a_tree t ts) =
    let next : ℕ = up + suc (count_below t) in
    map_appended row_of (entries_of 0 (path ++ i ∷ []) up t) (child_entries 0 path (suc i) next ts)
    ∙ ap (λ (rows : List PlainRow). rows ++ map row_of (child_entries 0 path (suc i) next ts)) (rows_are 0 0 (path ++ i ∷ []) (q ++ j ∷ []) up t)
    ∙ ap (λ (rows : List PlainRow). map row_of (entries_of 0 (q ++ j ∷ []) up t) ++ rows) (shifted path q (suc i) (suc j) next ts)
    ∙ sym (map_appended row_of (entries_of 0 (q ++ j ∷ []) up t) (child_entries 0 q (suc j) next ts))

child_rows_more : (up : ℕ) (t : PlainTree) (ts : PlainTrees) → child_rows up (a_tree t ts) ≡ tree_rows up t ++ child_rows (up + suc (count_below t)) ts
child_rows_more up t ts =
    let next : ℕ = up + suc (count_below t) in
    map_appended row_of (entries_of 0 (0 ∷ []) up t) (child_entries 0 [] 1 next ts)
    ∙ ap (λ (rows : List PlainRow). rows ++ map row_of (child_entries 0 [] 1 next ts)) (rows_are 0 0 (0 ∷ []) [] up t)
    ∙ ap (λ (rows : List PlainRow). tree_rows up t ++ rows) (shifted [] [] 1 0 next ts)

child_comes : (plain : List PlainRow) (at : ℕ) (t : PlainTree) (ts : PlainTrees) → at < length plain
    → (plain ++ tree_rows (length plain - at) t) ++ child_rows (length (plain ++ tree_rows (length plain - at) t) - at) ts ≡ plain ++ child_rows (length plain - at) (a_tree t ts)
child_comes plain at t ts h =
    let up : ℕ = length plain - at in
    let T : List PlainRow = tree_rows up t in
    let count : length T ≡ suc (count_below t) = length-map (entries_of 0 [] up t) row_of ∙ length_tree 0 [] up t in
    let place : length (plain ++ T) - at ≡ up + suc (count_below t) = omega (arith, h, count, length-append plain T) in
    ap (λ (n : ℕ). (plain ++ T) ++ child_rows n ts) place
    ∙ append_assoc plain T (child_rows (up + suc (count_below t)) ts)
    ∙ ap (λ rows. plain ++ rows) (sym (child_rows_more up t ts))

-- all opened nodes stand within rows that grow

wider : (n m : ℕ) (opened : List Opened) → n ≤ m → AreWithin n opened → AreWithin m opened
wider n m [] h w = tt
wider n m (o ∷ outer) h w = (omega (arith, h, w.0), wider n m outer h w.1)

added_length : (labels : List Label) (a b : List Row) (more : List PlainRow) → Adds labels a b more → length a ≤ length b
added_length labels a b more x = omega (arith, ap length x.is, length-append a x.more)

-- one node is put down

pub document_opened : (labels : List Label) (a b : List Row) (before now : List Opened) (o : Opened) (plain : List PlainRow) (up : ℕ) (t : PlainTree) (ts : PlainTrees)
    → Stand labels a plain → AreWithin (length a) before → b ≡ a ++ (record { form = forms.Document; up = up; below = 0 }) ∷ [] → now ≡ o ∷ before → o.at ≡ length a → trees_of o.left.now ≡ ts → t ≡ document ts
    → WillBe labels b now (rows_to_come (plain ++ tree_rows up t) before)
document_opened labels a b before now o plain up t ts s w e n place left is =
    let row : PlainRow = record { form = a_document; up = up; below = 0 } in
    let added : Adds labels a b (row ∷ []) = record { more = record { form = forms.Document; up = up; below = 0 } ∷ []; is = e; seen = λ later h. refl } in
    let at : o.at ≡ length plain = place ∙ as_many labels a plain s in
    let longer : length b ≡ suc (length a) = omega (arith, ap length e, length-append a (record { form = forms.Document; up = up; below = 0 } ∷ [])) in
    record {
      plain = plain ++ row ∷ [];
      stands = stand_more labels labels a b plain (row ∷ []) s (grows_not labels) added;
      within = subst (AreWithin (length b)) (sym n) (omega (arith, place, longer), wider (length a) (length b) before (omega (arith, longer)) w);
      whole = ap (rows_to_come (plain ++ row ∷ [])) n
          ∙ ap (λ (us : PlainTrees). rows_to_come (plain_closed_at o.at ((plain ++ row ∷ []) ++ child_rows (length (plain ++ row ∷ []) - o.at) us)) before) left
          ∙ ap (λ rows. rows_to_come rows before) (opened_document plain up o.at ts at)
          ∙ ap (λ (u : PlainTree). rows_to_come (plain ++ tree_rows up u) before) (sym is);
    }

pub element_opened : (l m : List Label) (a b : List Row) (before now : List Opened) (o : Opened) (plain : List PlainRow) (up : ℕ) (t : PlainTree) (name : Name) (kind : TypeName) (list : List AttributeNode) (ts : PlainTrees)
    → Stand l a plain → AreWithin (length a) before → Grows l m → Adds m a b (opening_rows up name kind list) → now ≡ o ∷ before → o.at ≡ length a → trees_of o.left.now ≡ ts → t ≡ element name kind list ts
    → WillBe m b now (rows_to_come (plain ++ tree_rows up t) before)
element_opened l m a b before now o plain up t name kind list ts s w g x n place left is =
    let own : List PlainRow = opening_rows up name kind list in
    let at : o.at ≡ length plain = place ∙ as_many l a plain s in
    let stands = stand_more l m a b plain own s g x in
    let longer : length a < length b = omega (arith, as_many m b (plain ++ own) stands, as_many l a plain s, length-append plain own) in
    record {
      plain = plain ++ own;
      stands = stands;
      within = subst (AreWithin (length b)) (sym n) (omega (arith, place, longer), wider (length a) (length b) before (omega (arith, longer)) w);
      whole = ap (rows_to_come (plain ++ own)) n
          ∙ ap (λ (us : PlainTrees). rows_to_come (plain_closed_at o.at ((plain ++ own) ++ child_rows (length (plain ++ own) - o.at) us)) before) left
          ∙ ap (λ rows. rows_to_come rows before) (opened_element plain up o.at name kind list ts at)
          ∙ ap (λ (u : PlainTree). rows_to_come (plain ++ tree_rows up u) before) (sym is);
    }

-- a node that holds no others
pub lone_put_down : (l m : List Label) (a b : List Row) (before : List Opened) (plain : List PlainRow) (up : ℕ) (t : PlainTree) → Stand l a plain → AreWithin (length a) before → Grows l m → Adds m a b (tree_rows up t)
    → WillBe m b before (rows_to_come (plain ++ tree_rows up t) before)
lone_put_down l m a b before plain up t s w g x = record {
  plain = plain ++ tree_rows up t;
  stands = stand_more l m a b plain (tree_rows up t) s g x;
  within = wider (length a) (length b) before (added_length m a b (tree_rows up t) x) w;
  whole = refl;
}

pub text_added : (labels : List Label) (a b : List Row) (up : ℕ) (t : PlainTree) (x : List ℕ) → b ≡ a ++ (record { form = forms.Text x; up = up; below = 0 }) ∷ [] → t ≡ text x → Adds labels a b (tree_rows up t)
text_added labels a b up t x e is = subst (λ (u : PlainTree). Adds labels a b (tree_rows up u)) (sym is) (record { more = record { form = forms.Text x; up = up; below = 0 } ∷ []; is = e; seen = λ later h. refl })

pub attribute_put_down : (labels : List Label) (a b : List Row) (up : ℕ) (t : PlainTree) (x : AttributeNode) → Adds labels a b (row_of_attribute up x ∷ []) → t ≡ attribute x → Adds labels a b (tree_rows up t)
attribute_put_down labels a b up t x h is = subst (λ (u : PlainTree). Adds labels a b (tree_rows up u)) (sym is) h

-- a node goes on

pub nothing_left : (ts : List PlainTree) → length ts ≡ 0 → ts ≡ []
nothing_left [] e = refl
nothing_left (t ∷ ts) e = absurd (omega (arith, e))

pub closed_comes : (labels : List Label) (a b : List Row) (outer : List Opened) (o : Opened) (plain : List PlainRow) → Stand labels a plain → AreWithin (length a) (o ∷ outer) → o.left.now ≡ [] → b ≡ closed_at o.at a
    → WillBe labels b outer (rows_to_come plain (o ∷ outer))
closed_comes labels a b outer o plain s w left e = record {
  plain = plain_closed_at o.at plain;
  stands = λ later h. ap (map (row_seen later)) e ∙ closed_rows later a plain o.at (s later h);
  within = wider (length a) (length b) outer (omega (arith, ap length e, closed_length o.at a)) w.1;
  whole = sym (ap (λ (us : List PlainTree). rows_to_come (plain_closed_at o.at (plain ++ child_rows (length plain - o.at) (trees_of us))) outer) left
      ∙ ap (λ rows. rows_to_come (plain_closed_at o.at rows) outer) (append_none plain));
}

pub comes_as : (labels : List Label) (rows : List Row) (opened : List Opened) (w v : List PlainRow) → w ≡ v → WillBe labels rows opened w → WillBe labels rows opened v
comes_as labels rows opened w v e h = subst (WillBe labels rows opened) e h

pub child_goes_on : (labels : List Label) (a : List Row) (outer : List Opened) (o next : Opened) (plain : List PlainRow) (up : ℕ) (t : PlainTree) → Stand labels a plain → AreWithin (length a) (o ∷ outer)
    → next.at ≡ o.at → o.left.now ≡ t ∷ next.left.now → up ≡ length a - o.at
    → rows_to_come (plain ++ tree_rows up t) (next ∷ outer) ≡ rows_to_come plain (o ∷ outer)
child_goes_on labels a outer o next plain up t s w same left e =
    let count : length a ≡ length plain = as_many labels a plain s in
    let place : up ≡ length plain - o.at = omega (arith, e, count) in
    let ts : PlainTrees = trees_of next.left.now in
    ap (λ (n : ℕ). rows_to_come (plain_closed_at n ((plain ++ tree_rows up t) ++ child_rows (length (plain ++ tree_rows up t) - n) ts)) outer) same
    ∙ ap (λ (k : ℕ). rows_to_come (plain_closed_at o.at ((plain ++ tree_rows k t) ++ child_rows (length (plain ++ tree_rows k t) - o.at) ts)) outer) place
    ∙ ap (λ rows. rows_to_come (plain_closed_at o.at rows) outer) (child_comes plain o.at t ts (omega (arith, w.0, count)))
    ∙ ap (λ (us : List PlainTree). rows_to_come (plain_closed_at o.at (plain ++ child_rows (length plain - o.at) (trees_of us))) outer) (sym left)

pub next_within : (count : ℕ) (outer : List Opened) (o next : Opened) → next.at ≡ o.at → AreWithin count (o ∷ outer) → AreWithin count (next ∷ outer)
next_within count outer o next same w = (omega (arith, same, w.0), w.1)

pub all_stand : (labels : List Label) (rows : List Row) (opened : List Opened) (whole : List PlainRow) → WillBe labels rows opened whole → opened ≡ [] → Stand labels rows whole
all_stand labels rows opened whole h e = subst (Stand labels rows) (sym (ap (rows_to_come h.plain) e) ∙ h.whole) h.stands

pub all_begin : (l m : List Label) (a b : List Row) (before now : List Opened) (t : PlainTree) → a ≡ [] → before ≡ []
    → ((plain : List PlainRow) → Stand l a plain → AreWithin (length a) before → WillBe m b now (rows_to_come (plain ++ tree_rows 0 t) before)) → WillBe m b now (tree_rows 0 t)
all_begin l m a b before now t e f h =
    subst (WillBe m b now) (ap (rows_to_come (tree_rows 0 t)) f)
    (h [] (subst (λ (rows : List Row). Stand l rows []) (sym e) (λ later g. refl)) (subst (AreWithin (length a)) (sym f) tt))

-- how much is left

pub size_document : (before now : List Opened) (o : Opened) (t : PlainTree) (ts : PlainTrees) → now ≡ o ∷ before → trees_of o.left.now ≡ ts → t ≡ document ts → size_left now < size_left before + 2 * tree_size t
size_document before now o t ts n left is = omega (arith, ap size_left n, ap trees_size left, ap tree_size is)

pub size_element : (before now : List Opened) (o : Opened) (t : PlainTree) (name : Name) (kind : TypeName) (list : List AttributeNode) (ts : PlainTrees) → now ≡ o ∷ before → trees_of o.left.now ≡ ts → t ≡ element name kind list ts
    → size_left now < size_left before + 2 * tree_size t
size_element before now o t name kind list ts n left is = omega (arith, ap size_left n, ap trees_size left, ap tree_size is)

pub size_lone : (before : List Opened) (t : PlainTree) → size_left before < size_left before + 2 * tree_size t
size_lone before (document ts) = omega arith
size_lone before (element name kind list ts) = omega arith
size_lone before (attribute a) = omega arith
size_lone before (text x) = omega arith

pub size_child : (outer now : List Opened) (o next : Opened) (t : PlainTree) → o.left.now ≡ t ∷ next.left.now → size_left now < size_left (next ∷ outer) + 2 * tree_size t → size_left now < size_left (o ∷ outer)
size_child outer now o next t left h = omega (arith, h, ap (λ (us : List PlainTree). trees_size (trees_of us)) left)

-- where a step succeeds

pub on_ok : {P Q : Type 0} (r : Result (Unit {0}) AllocError) → (P → Q) → OnOk r P → OnOk r Q
on_ok (Ok x) f h = f h
on_ok (Err e) f h = tt
