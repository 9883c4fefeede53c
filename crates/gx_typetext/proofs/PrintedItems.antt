-- Printed operands are read as they were written.
use Rattle.std.proofs.Common.{◌≡◌, ◌≢◌, ℕ, zero, suc, Bool, true, false, List, [], ◌∷◌, ◌++◌, nat_le, refl, sym, ap, subst, ◌∙◌, Option, None, Some, append_assoc, if◌then◌else◌}
use Rattle.std.specs.Prelude.{codes}
use Rattle.std.specs.Cmp.{unsigned_Decides}
use Rattle.std.specs.Cmp.Lexicographic.{pointwise_decides}
use Rattle.gx_base.specs.Text.{same_text}
use Rattle.gx_base.specs.declared.name.Name.{Name}
use Rattle.gx_base.specs.declared.type_name.TypeName.{TypeName}
use Rattle.gx_base.specs.declared.type_name.TypeName.TheVariants as names
use Rattle.gx_types.specs.declared.item_type.ItemType.{ItemType}
use Rattle.gx_types.specs.declared.item_type.ItemType.TheVariants as items
use Rattle.gx_types.specs.SchemaSet.{SchemaSet}
use Rattle.gx_grammar.specs.Derivation.{of_token, of_empty, of_both, of_keyed, of_left, of_right, of_rule, of_made}
use Rattle.gx_grammar.specs.First.{head_passes}
use Rattle.gx_grammar.specs.Grammar.{token, rule}
use Rattle.gx_grammar.specs.Apart.{is}
use Rattle.gx_grammar.specs.Gaps.{gap_ends, ends_gap}
use Rattle.gx_grammar.specs.Value.{nothing, characters, pair}
use Rattle.gx_typetext.specs.declared.written.Space.TheVariants as space
use Rattle.gx_typetext.specs.declared.written.Inside.{Inside}
use Rattle.gx_typetext.specs.declared.written.Inside.TheVariants as inside
use Rattle.gx_typetext.specs.declared.written.NameWord.{NameWord}
use Rattle.gx_typetext.specs.declared.written.NameWord.TheVariants as word_is
use Rattle.gx_typetext.specs.declared.written.WrittenItem.{WrittenItem}
use Rattle.gx_typetext.specs.declared.written.WrittenItem.TheVariants as written_as
use Rattle.gx_typetext.specs.declared.written.Operand.{Operand}
use Rattle.gx_typetext.specs.declared.written.Operand.TheVariants as operand_is
use Rattle.gx_typetext.specs.declared.written.Piece.{Piece}
use Rattle.gx_typetext.specs.declared.written.Piece.TheVariants as piece
use Rattle.gx_typetext.specs.BuiltinName.{local_name}
use Rattle.gx_typetext.specs.Grammar.{operand, behind, nothing_inside, document_test, document, word_content, room_inside, room_bare, tail, behind_word, item, nested}
use Rattle.gx_typetext.specs.ItemText.{is_any_type, is_any_simple_type, test_text, element_text, item_text}
use Rattle.gx_base.specs.NameCharacters.{is_ncname_start, is_ncname_character}
use Rattle.gx_typetext.specs.NameText.{word, type_name_text}
use Rattle.gx_typetext.specs.Nodes.{Made, pieces, inside_made, name_word, with_inside, bare, is_type_word}
use Rattle.gx_typetext.specs.ReadBack.{is_ncname, CanBeWritten, IsKnownKind, IsKnownItem, IsNotNone}
use Rattle.gx_typetext.specs.Tokens.{symbol, keyword, local, gap}
use Rattle.gx_typetext.proofs.WordTests.{all_low}
use Rattle.gx_typetext.proofs.PrintedTokens.{D, IsGap, IsPlain, Begins, gap_read, symbol_read, symbol_gap, keyword_gap, local_token, name_begins, begins_no_gap}
use Rattle.gx_typetext.proofs.PrintedNames as names_read
use Rattle.gx_typetext.proofs.PrintedNames.{word_is as plain_word, space_by, text_by, written, written_kind, written_test, builtin_is_name, not_empty, after_braces, prefixed_read, braced_read, test_read, no_gap, kind_text_begins}

-- what stands behind an operand, and an operand with what is behind it

pub record Behind (depth room : ℕ) (qs : List Piece) (y : List ℕ) : Type 0 where
  pub rest : List ℕ
  pub gap : IsGap y rest
  pub plain : IsPlain y
  pub derived : D (rule (behind depth room)) (pieces qs) rest []

pub record Due (depth room : ℕ) (ps : List Piece) (x : List ℕ) : Type 0 where
  pub begins : Begins x
  pub derived : D (rule (operand depth room)) (pieces ps) x []

pub due_at : (depth room : ℕ) (ps : List Piece) (x y : List ℕ) → x ≡ y → Due depth room ps y → Due depth room ps x
due_at depth room ps x y e d = subst (Due depth room ps) (sym e) d

not_opened : (b : Bool) (depth room : ℕ) (ps : List Piece) (x : List ℕ) → D (item depth room) (pieces ps) x [] → D (nested b depth room) (pieces ps) x []
unfolding nested
not_opened true depth room ps x d = of_right d
not_opened false depth room ps x d = d

one_item : (depth room : ℕ) (ps : List Piece) (x : List ℕ) → Begins x → D (item depth room) (pieces ps) x [] → Due depth room ps x
one_item depth room ps x b d = record { begins = b; derived = of_rule (not_opened (nat_le (suc depth) 40) depth room ps x d) }

-- words with parentheses

opened_plain : (t : List ℕ) → IsPlain (40 ∷ t)
unfolding is_ncname_start is_ncname_character
opened_plain t = record { ended = refl; colon = refl }

worded : (l : List ℕ) (c : Inside) (t z : List ℕ) (depth room rest : ℕ) (qs : List Piece) → is_ncname l ≡ true → head_passes (is 58) t ≡ false → ends_gap (40 ∷ t) ≡ true
    → room_inside (name_word (characters l)) room ≡ Some rest → D (word_content (name_word (characters l))) (inside_made c) (40 ∷ t) z → D (rule (behind depth rest)) (pieces qs) z []
    → D (item depth (suc room)) (pieces (piece.Operand (with_inside (name_word (characters l)) c) ∷ qs)) (l ++ 40 ∷ t) []
unfolding item behind_word tail
worded l c t z depth room rest qs h k e r d f =
    of_right (of_right (of_made (of_keyed (local_token l (40 ∷ t) h (opened_plain t))
    (of_both (gap_read (40 ∷ t) (40 ∷ t) (gap_ends e)) (subst (λ o. D (tail (name_word (characters l)) o depth (room_bare (name_word (characters l)) room)) (pair (inside_made c) (pieces qs)) (40 ∷ t) []) (sym r) (of_left (of_both d f)))))))

-- a text behind a word in parentheses
in_parentheses_text : (w t y : List ℕ) → all_low w ≡ true → ((word w ++ t) ++ word (codes ")")) ++ y ≡ w ++ (t ++ 41 ∷ y)
in_parentheses_text w t y e =
    ap (λ u. ((u ++ t) ++ word (codes ")")) ++ y) (plain_word w e) ∙ ap (λ u. ((w ++ t) ++ u) ++ y) (plain_word (codes ")") refl)
    ∙ append_assoc (w ++ t) (41 ∷ []) y ∙ append_assoc w t (41 ∷ y)

abbrev pub written_item : ItemType → WrittenItem
written_item (items.Element name kind) = written_as.Element (written_test name kind (is_any_type kind))
written_item (items.Attribute name kind) = written_as.Attribute (written_test name kind (is_any_simple_type kind))
written_item items.Text = written_as.Text
written_item (items.Document None) = written_as.Document
written_item (items.Document (Some element)) = written_as.DocumentOf (written_test element.0 element.1 (is_any_type element.1))
written_item (items.Atom kind) = written_as.Atomic (written_kind kind)

-- a `)` stands at once behind a `(`
closed_gap : (y : List ℕ) → ends_gap (40 ∷ 41 ∷ y) ≡ true
closed_gap y = refl

-- what begins no gap stands behind a `(`
pub opened_gap : (x : List ℕ) → head_passes (is 58) x ≡ false → ends_gap (40 ∷ x) ≡ true
opened_gap [] e = refl
opened_gap (c ∷ x) e = ap (λ b. Rattle.std.proofs.Common.not b) e

test_colon : (s : SchemaSet) (n : Option Name) (kind : TypeName) (any : Bool) → Rattle.gx_typetext.specs.ReadBack.IsKnownTest s n kind → (y : List ℕ) → head_passes (is 58) (test_text n kind any ++ 41 ∷ y) ≡ false
test_colon s None kind true k y = refl
test_colon s (Some n) kind true k y = (names_read.name_text_begins n k.0 (41 ∷ y)).colon
test_colon s None kind false k y = rw (plain_word (codes "*, ") refl) refl
test_colon s (Some n) kind false k y =
    let same : test_text (Some n) kind false ++ 41 ∷ y ≡ Rattle.gx_typetext.specs.NameText.name_text n ++ (44 ∷ 32 ∷ (type_name_text kind ++ 41 ∷ y)) = rw (plain_word (codes ", ") refl) (simp append_assoc) in
    ap (head_passes (is 58)) same ∙ (names_read.name_text_begins n k.0 (44 ∷ 32 ∷ (type_name_text kind ++ 41 ∷ y))).colon

module _ (s : SchemaSet) (depth room : ℕ) (qs : List Piece) (y : List ℕ) (b : Behind depth room qs y) where
  element_due : (n : Option Name) (kind : TypeName) → Rattle.gx_typetext.specs.ReadBack.IsKnownTest s n kind → Due depth (suc room) (piece.Operand (operand_is.Item (written_item (items.Element n kind))) ∷ qs) (item_text (items.Element n kind) ++ y)
  unfolding is_ncname_start is_ncname_character word_content
  element_due n kind k =
      let t = test_text n kind (is_any_type kind) ++ 41 ∷ y in
      let c = test_colon s n kind (is_any_type kind) k y in
      due_at depth (suc room) (piece.Operand (operand_is.Item (written_item (items.Element n kind))) ∷ qs) (item_text (items.Element n kind) ++ y) (codes "element(" ++ t)
      (in_parentheses_text (codes "element(") (test_text n kind (is_any_type kind)) y refl)
      (one_item depth (suc room) (piece.Operand (operand_is.Item (written_item (items.Element n kind))) ∷ qs) (codes "element(" ++ t) (record { gap = refl; colon = refl })
      (worded (codes "element") (inside.Test (written_test n kind (is_any_type kind))) t b.rest depth room room qs refl c (opened_gap t c) refl (test_read s n kind (is_any_type kind) k y b.rest b.gap) b.derived))

  attribute_due : (n : Option Name) (kind : TypeName) → Rattle.gx_typetext.specs.ReadBack.IsKnownTest s n kind → Due depth (suc room) (piece.Operand (operand_is.Item (written_item (items.Attribute n kind))) ∷ qs) (item_text (items.Attribute n kind) ++ y)
  unfolding is_ncname_start is_ncname_character word_content
  attribute_due n kind k =
      let t = test_text n kind (is_any_simple_type kind) ++ 41 ∷ y in
      let c = test_colon s n kind (is_any_simple_type kind) k y in
      due_at depth (suc room) (piece.Operand (operand_is.Item (written_item (items.Attribute n kind))) ∷ qs) (item_text (items.Attribute n kind) ++ y) (codes "attribute(" ++ t)
      (in_parentheses_text (codes "attribute(") (test_text n kind (is_any_simple_type kind)) y refl)
      (one_item depth (suc room) (piece.Operand (operand_is.Item (written_item (items.Attribute n kind))) ∷ qs) (codes "attribute(" ++ t) (record { gap = refl; colon = refl })
      (worded (codes "attribute") (inside.Test (written_test n kind (is_any_simple_type kind))) t b.rest depth room room qs refl c (opened_gap t c) refl (test_read s n kind (is_any_simple_type kind) k y b.rest b.gap) b.derived))

  text_due : Due depth (suc room) (piece.Operand (operand_is.Item written_as.Text) ∷ qs) (item_text items.Text ++ y)
  unfolding is_ncname_start is_ncname_character word_content nothing_inside
  text_due =
      due_at depth (suc room) (piece.Operand (operand_is.Item written_as.Text) ∷ qs) (item_text items.Text ++ y) (codes "text()" ++ y) (ap (λ x. x ++ y) (plain_word (codes "text()") refl))
      (one_item depth (suc room) (piece.Operand (operand_is.Item written_as.Text) ∷ qs) (codes "text()" ++ y) (record { gap = refl; colon = refl })
      (worded (codes "text") inside.Nothing (41 ∷ y) b.rest depth room room qs refl refl refl refl
      (of_made (of_both (symbol_gap (codes "(") (41 ∷ y) (41 ∷ y) (no_gap 41 y refl refl)) (symbol_gap (codes ")") y b.rest b.gap))) b.derived))

  document_due : Due depth (suc room) (piece.Operand (operand_is.Item written_as.Document) ∷ qs) (item_text (items.Document None) ++ y)
  unfolding is_ncname_start is_ncname_character word_content document
  document_due =
      due_at depth (suc room) (piece.Operand (operand_is.Item written_as.Document) ∷ qs) (item_text (items.Document None) ++ y) (codes "document-node()" ++ y) (ap (λ x. x ++ y) (plain_word (codes "document-node()") refl))
      (one_item depth (suc room) (piece.Operand (operand_is.Item written_as.Document) ∷ qs) (codes "document-node()" ++ y) (record { gap = refl; colon = refl })
      (worded (codes "document-node") inside.Nothing (41 ∷ y) b.rest depth room room qs refl refl refl refl
      (of_made (of_both (symbol_gap (codes "(") (41 ∷ y) (41 ∷ y) (no_gap 41 y refl refl)) (of_left (symbol_gap (codes ")") y b.rest b.gap)))) b.derived))

  -- the test of a document's element
  element_test_read : (n : Option Name) (kind : TypeName) → Rattle.gx_typetext.specs.ReadBack.IsKnownTest s n kind
      → D document (inside_made (inside.Element (written_test n kind (is_any_type kind)))) (40 ∷ (codes "element(" ++ (test_text n kind (is_any_type kind) ++ 41 ∷ 41 ∷ y))) b.rest
  unfolding document document_test is_ncname_start is_ncname_character
  element_test_read n kind k =
      let t = test_text n kind (is_any_type kind) ++ 41 ∷ 41 ∷ y in
      let c = test_colon s n kind (is_any_type kind) k (41 ∷ y) in
      of_made (of_both (symbol_gap (codes "(") (codes "element(" ++ t) (codes "element(" ++ t) (gap_ends refl))
      (of_right (of_both (of_left (of_made (of_both (keyword_gap (codes "element") (40 ∷ t) (40 ∷ t) refl (gap_ends (opened_gap t c))) (test_read s n kind (is_any_type kind) k (41 ∷ y) (41 ∷ y) (no_gap 41 y refl refl)))))
      (symbol_gap (codes ")") y b.rest b.gap))))

  document_of_due : (element : Option Name × TypeName) → Rattle.gx_typetext.specs.ReadBack.IsKnownTest s element.0 element.1
      → Due depth (suc room) (piece.Operand (operand_is.Item (written_item (items.Document (Some element)))) ∷ qs) (item_text (items.Document (Some element)) ++ y)
  unfolding is_ncname_start is_ncname_character word_content
  document_of_due element k =
      let test = test_text element.0 element.1 (is_any_type element.1) in
      let t = codes "element(" ++ (test ++ 41 ∷ 41 ∷ y) in
      let same : item_text (items.Document (Some element)) ++ y ≡ codes "document-node(" ++ t =
      in_parentheses_text (codes "document-node(") (element_text element.0 element.1) y refl ∙ ap (λ x. codes "document-node(" ++ x) (in_parentheses_text (codes "element(") test (41 ∷ y) refl) in
      due_at depth (suc room) (piece.Operand (operand_is.Item (written_item (items.Document (Some element)))) ∷ qs) (item_text (items.Document (Some element)) ++ y) (codes "document-node(" ++ t) same
      (one_item depth (suc room) (piece.Operand (operand_is.Item (written_item (items.Document (Some element)))) ∷ qs) (codes "document-node(" ++ t) (record { gap = refl; colon = refl })
      (worded (codes "document-node") (inside.Element (written_test element.0 element.1 (is_any_type element.1))) t b.rest depth room room qs refl refl refl refl (element_test_read element.0 element.1 k) b.derived))

  -- atomic types

  atom_prefixed : (l : List ℕ) → is_ncname l ≡ true
      → D (item depth (suc room)) (pieces (piece.Operand (operand_is.Item (written_as.Atomic (record { space = space.Schema; local = l }))) ∷ qs)) (120 ∷ 115 ∷ 58 ∷ (l ++ y)) []
  unfolding item
  atom_prefixed l h = of_right (of_left (of_made (of_both (prefixed_read l y b.rest h b.plain b.gap) b.derived)))

  atom_braced : (uri l : List ℕ) → uri ≢ [] → Rattle.gx_grammar.specs.Tokens.all_pass Rattle.gx_typetext.specs.Letters.is_uri_character uri ≡ true → is_ncname l ≡ true
      → D (item depth (suc room)) (pieces (piece.Operand (operand_is.Item (written_as.Atomic (record { space = space.Uri uri; local = l }))) ∷ qs)) (123 ∷ (uri ++ 125 ∷ (l ++ y))) []
  unfolding item
  atom_braced uri l n u h = of_left (of_made (of_both (braced_read uri l y b.rest n u h b.plain b.gap) b.derived))

  -- a word by itself that is not `none`
  abbrev IsBare : List ℕ → NameWord → Type 0
  IsBare l w = (room_bare w room ≡ room) × (bare w l ≡ operand_is.Item (written_as.Atomic (record { space = space.Nowhere; local = l })))

  no_never : (l : List ℕ) (p q r t u v x z : Bool)
      → IsBare l (if p then word_is.Empty else (if q then word_is.Node else (if r then word_is.Item else (if t then word_is.Text else (if u then word_is.Document else (if v then word_is.Element else (if x then word_is.Attribute else (if z then word_is.Schema else word_is.Other))))))))
  no_never l true q r t u v x z = (refl, refl)
  no_never l false true r t u v x z = (refl, refl)
  no_never l false false true t u v x z = (refl, refl)
  no_never l false false false true u v x z = (refl, refl)
  no_never l false false false false true v x z = (refl, refl)
  no_never l false false false false false true x z = (refl, refl)
  no_never l false false false false false false true z = (refl, refl)
  no_never l false false false false false false false true = (refl, refl)
  no_never l false false false false false false false false = (refl, refl)

  is_bare : (l : List ℕ) (none : Bool) → none ≡ is_type_word (codes "none") (characters l) → l ≢ codes "none" → IsBare l (name_word (characters l))
  is_bare l true e n = absurd (n (sym ((pointwise_decides unsigned_Decides (codes "none") l).0 (sym e))))
  is_bare l false e n =
      subst (λ f. IsBare l (if f then word_is.Never else (if is_type_word (codes "empty-sequence") (characters l) then word_is.Empty else (if is_type_word (codes "node") (characters l) then word_is.Node else (if is_type_word (codes "item") (characters l) then word_is.Item else (if is_type_word (codes "text") (characters l) then word_is.Text else (if is_type_word (codes "document-node") (characters l) then word_is.Document else (if is_type_word (codes "element") (characters l) then word_is.Element else (if is_type_word (codes "attribute") (characters l) then word_is.Attribute else (if is_type_word (codes "schema-element") (characters l) then word_is.Schema else word_is.Other)))))))))) e
      (no_never l (is_type_word (codes "empty-sequence") (characters l)) (is_type_word (codes "node") (characters l)) (is_type_word (codes "item") (characters l)) (is_type_word (codes "text") (characters l))
      (is_type_word (codes "document-node") (characters l)) (is_type_word (codes "element") (characters l)) (is_type_word (codes "attribute") (characters l)) (is_type_word (codes "schema-element") (characters l)))

  -- what stands behind a word and its gap, where no parentheses do
  bare_tail : (w : NameWord) (o : Option ℕ) (rest : ℕ) → D (rule (behind depth rest)) (pieces qs) b.rest [] → D (tail w o depth rest) (pieces qs) b.rest []
  unfolding tail
  bare_tail w None rest d = d
  bare_tail w (Some other) rest d = of_right d

  atom_bare : (l : List ℕ) → is_ncname l ≡ true → l ≢ codes "none"
      → D (item depth (suc room)) (pieces (piece.Operand (operand_is.Item (written_as.Atomic (record { space = space.Nowhere; local = l }))) ∷ qs)) (l ++ y) []
  unfolding item behind_word
  atom_bare l h n =
      let w = name_word (characters l) in
      let k = is_bare l (is_type_word (codes "none") (characters l)) refl n in
      subst (λ o. D (item depth (suc room)) (pieces (piece.Operand o ∷ qs)) (l ++ y) []) k.1
      (of_right (of_right (of_made (of_keyed (local_token l y h b.plain)
      (of_both (gap_read y b.rest b.gap) (bare_tail w (room_inside w room) (room_bare w room) (subst (λ r. D (rule (behind depth r)) (pieces qs) b.rest []) (sym k.0) b.derived)))))))

  abbrev AtomDue : TypeName → Type 0
  AtomDue t = Due depth (suc room) (piece.Operand (operand_is.Item (written_as.Atomic (written_kind t))) ∷ qs) (type_name_text t ++ y)

  named_by : (nowhere schema : Bool) (n : Name) → CanBeWritten n → (same_text n.uri [] ≡ nowhere) → (nowhere ≡ true → n.local ≢ codes "none")
      → D (item depth (suc room)) (pieces (piece.Operand (operand_is.Item (written_as.Atomic (record { space = space_by nowhere schema n.uri; local = n.local }))) ∷ qs)) ((text_by nowhere schema n.uri ++ n.local) ++ y) []
  named_by true schema n w e k = atom_bare n.local w.local (k refl)
  named_by false true n w e k = rw (plain_word (codes "xs:") refl) (atom_prefixed n.local w.local)
  named_by false false n w e k =
      subst (λ x. D (item depth (suc room)) (pieces (piece.Operand (operand_is.Item (written_as.Atomic (record { space = space.Uri n.uri; local = n.local }))) ∷ qs)) x []) (sym (after_braces n.uri n.local y))
      (atom_braced n.uri n.local (not_empty n.uri e) w.uri w.local)

  atom_due : (t : TypeName) → IsKnownKind s t → IsNotNone t → AtomDue t
  atom_due (names.Builtin c) k n =
      one_item depth (suc room) (piece.Operand (operand_is.Item (written_as.Atomic (written_kind (names.Builtin c)))) ∷ qs) (type_name_text (names.Builtin c) ++ y) (kind_text_begins s (names.Builtin c) k y)
      (rw (plain_word (codes "xs:") refl) (atom_prefixed (word (local_name c)) (builtin_is_name c)))
  atom_due (names.Named m) k n =
      one_item depth (suc room) (piece.Operand (operand_is.Item (written_as.Atomic (written_kind (names.Named m)))) ∷ qs) (type_name_text (names.Named m) ++ y) (kind_text_begins s (names.Named m) k y)
      (named_by (same_text m.uri []) (same_text m.uri Rattle.gx_typetext.specs.NameText.schema_namespace) m k.written refl
      (λ e f. n ((pointwise_decides unsigned_Decides m.uri []).0 e) (f ∙ sym (plain_word (codes "none") refl))))
  atom_due (names.Anonymous number) k n = absurd k

  pub item_due : (kind : ItemType) → IsKnownItem s kind → Due depth (suc room) (piece.Operand (operand_is.Item (written_item kind)) ∷ qs) (item_text kind ++ y)
  item_due (items.Element n kind) k = element_due n kind k
  item_due (items.Attribute n kind) k = attribute_due n kind k
  item_due items.Text k = text_due
  item_due (items.Document None) k = document_due
  item_due (items.Document (Some element)) k = document_of_due element k
  item_due (items.Atom kind) k = atom_due kind k.0 k.1

-- the empty sequence, and the type of no value

empty_item : (depth room : ℕ) (qs : List Piece) (y : List ℕ) → Behind depth room qs y → D (item depth room) (pieces (piece.Operand operand_is.Empty ∷ qs)) (codes "empty-sequence()" ++ y) []
unfolding is_ncname_start is_ncname_character item nothing_inside word_content
empty_item depth zero qs y b =
    of_right (of_made (of_both (keyword_gap (codes "empty-sequence") (40 ∷ 41 ∷ y) (40 ∷ 41 ∷ y) refl (gap_ends refl))
    (of_both (of_made (of_both (symbol_gap (codes "(") (41 ∷ y) (41 ∷ y) (no_gap 41 y refl refl)) (symbol_gap (codes ")") y b.rest b.gap))) b.derived)))
empty_item depth (suc room) qs y b =
    worded (codes "empty-sequence") inside.Nothing (41 ∷ y) b.rest depth room (suc room) qs refl refl refl refl
    (of_made (of_both (symbol_gap (codes "(") (41 ∷ y) (41 ∷ y) (no_gap 41 y refl refl)) (symbol_gap (codes ")") y b.rest b.gap))) b.derived

pub empty_due : (depth room : ℕ) (qs : List Piece) (y : List ℕ) → Behind depth room qs y → Due depth room (piece.Operand operand_is.Empty ∷ qs) (word (codes "empty-sequence()") ++ y)
empty_due depth room qs y b =
    due_at depth room (piece.Operand operand_is.Empty ∷ qs) (word (codes "empty-sequence()") ++ y) (codes "empty-sequence()" ++ y) (ap (λ x. x ++ y) (plain_word (codes "empty-sequence()") refl))
    (one_item depth room (piece.Operand operand_is.Empty ∷ qs) (codes "empty-sequence()" ++ y) (record { gap = refl; colon = refl }) (empty_item depth room qs y b))

none_item : (depth room : ℕ) (qs : List Piece) (y : List ℕ) → Behind depth room qs y → D (item depth room) (pieces (piece.Operand operand_is.Never ∷ qs)) (codes "none" ++ y) []
unfolding is_ncname_start is_ncname_character item behind_word tail
none_item depth zero qs y b = of_left (of_made (of_both (keyword_gap (codes "none") y b.rest b.plain.ended b.gap) b.derived))
none_item depth (suc room) qs y b = of_right (of_right (of_made (of_keyed (local_token (codes "none") y refl b.plain) (of_both (gap_read y b.rest b.gap) b.derived))))

pub none_due : (depth room : ℕ) (qs : List Piece) (y : List ℕ) → Behind depth room qs y → Due depth room (piece.Operand operand_is.Never ∷ qs) (word (codes "none") ++ y)
none_due depth room qs y b =
    due_at depth room (piece.Operand operand_is.Never ∷ qs) (word (codes "none") ++ y) (codes "none" ++ y) (ap (λ x. x ++ y) (plain_word (codes "none") refl))
    (one_item depth room (piece.Operand operand_is.Never ∷ qs) (codes "none" ++ y) (record { gap = refl; colon = refl }) (none_item depth room qs y b))
