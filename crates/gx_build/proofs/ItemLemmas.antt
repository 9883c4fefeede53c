-- What the items of a part give, one by one.
use Rattle.std.proofs.Common.{◌≡◌, ℕ, suc, ◌+◌, ◌<◌, Bool, true, false, List, [], ◌∷◌, ◌++◌, drop, length, get_or, Option, None, Some, refl, sym, ap, ◌∙◌, arith, append_assoc}
use Rattle.std.specs.Option.{option_map}
use Rattle.std.proofs.Math.Seq.{drop-cons}
use Rattle.gx_facets.specs.declared.Atomic.{Atomic}
use Rattle.gx_facets.specs.Value.{printed_value}
use Rattle.gx_tree.specs.PlainTree.{PlainTree, text}
use Rattle.gx_model.specs.Forest.{Forest, node_in}
use Rattle.gx_nodes.specs.Entries.{place_of_number}
use Rattle.gx_store.specs.declared.item.Item.{Item}
use Rattle.gx_store.specs.declared.item.Item.TheVariants.{Atom, Node}
use Rattle.gx_store.specs.Items.{items_in}
use Rattle.gx_core.specs.Constructing.{copies_of, spaced_values, joined_content, content_after, text_before, merged_content}
use Rattle.gx_build.specs.Making.{content_with, merged_with, space_if, items_content}
use Rattle.gx_build.specs.declared.content.Content.{Content}
use Rattle.gx_build.proofs.ContentLemmas.{no_text, text_twice, merged_front}

-- values with spaces between them
value_more : (values : List Atomic) (a b : Atomic) → spaced_values ((a ∷ values) ++ b ∷ []) ≡ spaced_values (a ∷ values) ++ (32 ∷ printed_value b.value)
value_more [] a b = refl
value_more (c ∷ values) a b =
    ap (λ (s : List ℕ). printed_value a.value ++ 32 ∷ s) (value_more values c b) ∙ sym (append_assoc (printed_value a.value) (32 ∷ spaced_values (c ∷ values)) (32 ∷ printed_value b.value))

joined_same : (front a b : Option (List PlainTree)) (rest : List PlainTree) → merged_with a rest ≡ merged_with b rest → merged_with (joined_content front a) rest ≡ merged_with (joined_content front b) rest
joined_same None a b rest h = refl
joined_same (Some us) None None rest h = refl
joined_same (Some us) None (Some bs) rest h = absurd (cc)
joined_same (Some us) (Some as') None rest h = absurd (cc)
joined_same (Some us) (Some as') (Some bs) rest h =
    let same : merged_content (as' ++ rest) ≡ merged_content (bs ++ rest) = cc in
    ap (λ (ts : List PlainTree). Some (merged_content ts)) (append_assoc us as' rest)
    ∙ ap (λ (ts : List PlainTree). Some ts) (merged_front us (as' ++ rest) (bs ++ rest) same)
    ∙ ap (λ (ts : List PlainTree). Some (merged_content ts)) (sym (append_assoc us bs rest))

abbrev behind_text : List ℕ → Option (List PlainTree) → Option (List PlainTree)
behind_text x found = joined_content (Some (text x ∷ [])) found

two_texts : (x y : List ℕ) (found : Option (List PlainTree)) (rest : List PlainTree) → merged_with (behind_text x (behind_text y found)) rest ≡ merged_with (behind_text (x ++ y) found) rest
two_texts x y None rest = refl
two_texts x y (Some ts) rest = ap (λ (us : List PlainTree). Some us) (sym (text_twice x y (merged_content (ts ++ rest))))

empty_text : (found : Option (List PlainTree)) (rest : List PlainTree) → merged_with (behind_text [] found) rest ≡ merged_with found rest
empty_text None rest = refl
empty_text (Some ts) rest = ap (λ (us : List PlainTree). Some us) (no_text (merged_content (ts ++ rest)))

abbrev are_some : List Atomic → Bool
are_some [] = false
are_some (a ∷ values) = true

text_more : (values : List Atomic) (a : Atomic) → spaced_values (values ++ a ∷ []) ≡ spaced_values values ++ (space_if (are_some values) ++ printed_value a.value)
text_more [] a = refl
text_more (b ∷ values) a = value_more values b a

some_more : (values : List Atomic) (a : Atomic) → are_some (values ++ a ∷ []) ≡ true
some_more [] a = refl
some_more (b ∷ values) a = refl

items_are : (forest : Forest) (values : List Atomic) (items : List Item) (rest : List PlainTree)
    → merged_with (behind_text (spaced_values values) (items_content (are_some values) forest items)) rest ≡ merged_with (content_after forest values (items_in forest items)) rest
items_are forest values [] rest = refl
items_are forest values (Atom a ∷ items) rest =
    let shown : List ℕ = space_if (are_some values) ++ printed_value a.value in
    two_texts (spaced_values values) shown (items_content true forest items) rest
    ∙ ap (λ (x : List ℕ). merged_with (behind_text x (items_content true forest items)) rest) (sym (text_more values a))
    ∙ ap (λ (b : Bool). merged_with (behind_text (spaced_values (values ++ a ∷ [])) (items_content b forest items)) rest) (sym (some_more values a))
    ∙ items_are forest (values ++ a ∷ []) items rest
items_are forest values (Node m ∷ items) rest =
    let copies : Option (List PlainTree) = option_map copies_of (node_in forest (place_of_number forest m.number)) in
    let others : Option (List PlainTree) = content_after forest [] (items_in forest items) in
    let same : merged_with (items_content false forest items) rest ≡ merged_with others rest = sym (empty_text (items_content false forest items) rest) ∙ items_are forest [] items rest in
    joined_same (Some (text (spaced_values values) ∷ [])) (joined_content copies (items_content false forest items)) (joined_content copies others) rest
    (joined_same copies (items_content false forest items) others rest same)

seen_same : (c : Content) (a b : Option (List PlainTree)) (rest : List PlainTree) → merged_with a rest ≡ merged_with b rest → content_with c a rest ≡ content_with c b rest
seen_same c None None rest h = refl
seen_same c None (Some bs) rest h = absurd (cc)
seen_same c (Some as') None rest h = absurd (cc)
seen_same c (Some as') (Some bs) rest h =
    let same : merged_content (as' ++ rest) ≡ merged_content (bs ++ rest) = cc in
    ap (λ (ts : List PlainTree). Some (c.trees.items ++ text_before c.pending ts)) same

-- the items of a part one by one, and all of them
pub items_begin : (c : Content) (forest : Forest) (items : List Item) (rest : List PlainTree) → content_with c (items_content false forest items) rest ≡ content_with c (content_after forest [] (items_in forest items)) rest
items_begin c forest items rest =
    seen_same c (items_content false forest items) (content_after forest [] (items_in forest items)) rest (sym (empty_text (items_content false forest items) rest) ∙ items_are forest [] items rest)

-- one of a list and those behind it
pub dropped : {A : Type 0} (xs : List A) (i : ℕ) (x : A) → i < length xs → x ≡ get_or xs i x → drop i xs ≡ x ∷ drop (i + 1) xs
dropped xs i x h e =
    let next : suc i ≡ i + 1 = omega arith in
    drop-cons xs i x h ∙ ap (λ y. y ∷ drop (suc i) xs) (sym e) ∙ ap (λ (k : ℕ). x ∷ drop k xs) next
