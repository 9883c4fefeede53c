-- The names in a printed type are found, and stand for what they were.
use Rattle.std.proofs.Common.{◌≡◌, ℕ, zero, suc, ◌+◌, Bool, true, false, ◌&&◌, ◌||◌, List, [], ◌∷◌, ◌++◌, ◌↔◌, refl, sym, ap, subst, ◌∙◌, Option, None, Some, option_map, if◌then◌else◌, length}
use Rattle.std.specs.Prelude.{codes, find, unwrap_or, is_some}
use Rattle.std.specs.Bool.{IsTrue}
use Rattle.std.specs.Cmp.{unsigned_Decides}
use Rattle.std.specs.Cmp.Lexicographic.{pointwise_decides}
use Rattle.std.proofs.lemmas.Bool.{and_from}
use mathlib.Core.Path.{fun_ext}
use Rattle.gx_base.specs.Name.{same_name}
use Rattle.gx_base.specs.Text.{same_text}
use Rattle.gx_base.specs.declared.name.Name.{Name}
use Rattle.gx_base.specs.declared.type_name.Builtin.{Builtin}
use Rattle.gx_base.specs.declared.type_name.Builtin.TheVariants.{AnyType, Untyped, AnySimple, AnyAtomic, UntypedAtomic, Str, NormalizedStr, Token, Boolean, Decimal, Integer, NonPositive, Negative, Long, Int, Short, Byte, NonNegative, UnsignedLong, UnsignedInt, UnsignedShort, UnsignedByte, Positive}
use Rattle.gx_base.specs.declared.type_name.TypeName.{TypeName}
use Rattle.gx_base.specs.declared.type_name.TypeName.TheVariants as names
use Rattle.gx_types.specs.declared.declaration.Declared.{Declared}
use Rattle.gx_types.specs.declared.item_type.ItemType.{ItemType}
use Rattle.gx_types.specs.declared.item_type.ItemType.TheVariants as items
use Rattle.gx_types.specs.SchemaInvariant.{content_is, is_atomic_content}
use Rattle.gx_types.specs.Laws.{TakeTheSame}
use Rattle.gx_types.specs.SameItemType.{same_optional_name, same_type_name, same_item_type}
use Rattle.gx_types.specs.SameType.{same_type}
use Rattle.gx_types.specs.SchemaSet.{SchemaSet, declaration_among, declaration_of}
use Rattle.gx_types.specs.SequenceType.{SequenceType, never, nothing, item, both, either, optional, star, plus}
use Rattle.gx_types.proofs.EqualNames.{type_names_are_equivalent}
use Rattle.gx_types.proofs.PublicLaws.{equal_types_take_the_same}
use Rattle.gx_typetext.specs.declared.context.Context.{Context}
use Rattle.gx_typetext.specs.declared.context.Context.TheVariants.{Whole, Sequence, Choice, Indicator}
use Rattle.gx_typetext.specs.declared.written.Indicator.{Indicator as Mark}
use Rattle.gx_typetext.specs.declared.written.Indicator.TheVariants as marks
use Rattle.gx_typetext.specs.TypeText.{sequence_is_wrapped, choice_is_wrapped, indicated_is_wrapped}
use Rattle.gx_typetext.specs.declared.written.Piece.{Piece}
use Rattle.gx_typetext.specs.declared.written.Piece.TheVariants as piece
use Rattle.gx_typetext.specs.BuiltinName.{local_name, all_builtins}
use Rattle.gx_typetext.specs.ItemText.{is_any_type, is_any_simple_type}
use Rattle.gx_typetext.specs.KnownNames.{uri_of_space, expanded_name, builtin_of_name, builtin_with_name, or_declared, is_atomic_name, declared_with_name, type_with_name, if_atomic, atomic_with_name, unless_known, unknown_kind, unknown_in_item, unknown_in_piece, first_of_names, first_unknown, tested_kind, atomic_kind, written_item_type}
use Rattle.gx_typetext.specs.NameText.{word, schema_namespace}
use Rattle.gx_typetext.specs.ReadBack.{IsKnownKind, IsKnownItem, AreKnownItems}
use Rattle.gx_typetext.proofs.PrintedNames.{word_is as plain_word, plain_local, space_by, written, written_kind}
use Rattle.gx_typetext.proofs.PrintedItems.{written_item}
use Rattle.gx_typetext.proofs.PrintedPieces.{wrapped_pieces, pieces_in}

-- without prefixes

abbrev without_prefix : Name → Name
without_prefix n = record { uri = n.uri; prefix = []; local = n.local }

abbrev bare_kind : TypeName → TypeName
bare_kind (names.Builtin b) = names.Builtin b
bare_kind (names.Named n) = names.Named (without_prefix n)
bare_kind (names.Anonymous k) = names.Anonymous k

abbrev bare_item : ItemType → ItemType
bare_item (items.Element n t) = items.Element (option_map without_prefix n) (bare_kind t)
bare_item (items.Attribute n t) = items.Attribute (option_map without_prefix n) (bare_kind t)
bare_item items.Text = items.Text
bare_item (items.Document None) = items.Document None
bare_item (items.Document (Some element)) = items.Document (Some (option_map without_prefix element.0, bare_kind element.1))
bare_item (items.Atom t) = items.Atom (bare_kind t)

text_itself : (x : List ℕ) → same_text x x ≡ true
text_itself x = (pointwise_decides unsigned_Decides x x).1 refl

-- names are what they were

uri_is : (nowhere schema : Bool) (uri : List ℕ) → same_text uri [] ≡ nowhere → same_text uri schema_namespace ≡ schema → uri_of_space (space_by nowhere schema uri) ≡ uri
uri_is true schema uri e f = sym ((pointwise_decides unsigned_Decides uri []).0 e)
uri_is false true uri e f = sym ((pointwise_decides unsigned_Decides uri schema_namespace).0 f)
uri_is false false uri e f = refl

expanded_is : (n : Name) → expanded_name (written n) ≡ without_prefix n
expanded_is n =
    let f : List ℕ → Name = λ u. record { uri = u; prefix = []; local = n.local } in
    ap f (uri_is (same_text n.uri []) (same_text n.uri schema_namespace) n.uri refl refl)

by_locals : (local : List ℕ) → builtin_with_name local ≡ find (λ c. same_text (local_name c) local) all_builtins
by_locals local =
    let e : ◌≡◌ {A = Builtin → Bool} (λ c. same_text (word (local_name c)) local) (λ c. same_text (local_name c) local) =
    fun_ext (λ (c : Builtin). ap (λ (w : List ℕ). same_text w local) (plain_word (local_name c) (plain_local c).0)) in
    ap (λ (f : Builtin → Bool). find f all_builtins) e

found_by_local : (b : Builtin) → find (λ c. same_text (local_name c) (local_name b)) all_builtins ≡ Some b
found_by_local AnyType = refl
found_by_local Untyped = refl
found_by_local AnySimple = refl
found_by_local AnyAtomic = refl
found_by_local UntypedAtomic = refl
found_by_local Str = refl
found_by_local NormalizedStr = refl
found_by_local Token = refl
found_by_local Boolean = refl
found_by_local Decimal = refl
found_by_local Integer = refl
found_by_local NonPositive = refl
found_by_local Negative = refl
found_by_local Long = refl
found_by_local Int = refl
found_by_local Short = refl
found_by_local Byte = refl
found_by_local NonNegative = refl
found_by_local UnsignedLong = refl
found_by_local UnsignedInt = refl
found_by_local UnsignedShort = refl
found_by_local UnsignedByte = refl
found_by_local Positive = refl

builtin_found : (b : Builtin) → builtin_with_name (word (local_name b)) ≡ Some b
builtin_found b = ap builtin_with_name (plain_word (local_name b) (plain_local b).0) ∙ by_locals (local_name b) ∙ found_by_local b

kind_alike : (x : TypeName) (n : Name) → same_type_name x (names.Named n) ≡ same_type_name x (names.Named (without_prefix n))
kind_alike (names.Builtin b) n = refl
kind_alike (names.Named m) n = refl
kind_alike (names.Anonymous k) n = refl

declared_alike : (types : List Declared) (n : Name) → declaration_among types (names.Named n) ≡ declaration_among types (names.Named (without_prefix n))
declared_alike [] n = refl
declared_alike (d ∷ ds) n =
    ap (λ b. if b then Some d else declaration_among ds (names.Named n)) (kind_alike d.name n)
    ∙ ap (λ o. if same_type_name d.name (names.Named (without_prefix n)) then Some d else o) (declared_alike ds n)

module _ (s : SchemaSet) where
  found : (t : TypeName) → IsKnownKind s t → type_with_name s (expanded_name (written_kind t)) ≡ Some (bare_kind t)
  found (names.Builtin b) k =
      ap (λ c. or_declared s (expanded_name (written_kind (names.Builtin b))) (if c then builtin_with_name (word (local_name b)) else None)) (text_itself schema_namespace)
      ∙ ap (or_declared s (expanded_name (written_kind (names.Builtin b)))) (builtin_found b)
  found (names.Named n) k =
      ap (type_with_name s) (expanded_is n)
      ∙ ap (or_declared s (without_prefix n)) k.unshared
      ∙ ap (λ c. if c then Some (names.Named (without_prefix n)) else None) (ap is_some (sym (declared_alike s.types n)) ∙ k.declared)
  found (names.Anonymous number) k = absurd k

  atomic_alike : (t : TypeName) → is_atomic_name s (bare_kind t) ≡ is_atomic_name s t
  atomic_alike (names.Builtin b) = refl
  atomic_alike (names.Named n) = ap (λ o. content_is o is_atomic_content) (sym (declared_alike s.types n))
  atomic_alike (names.Anonymous k) = refl

  atomic_found : (t : TypeName) → IsKnownKind s t → IsTrue (is_atomic_name s t) → atomic_with_name s (expanded_name (written_kind t)) ≡ Some (bare_kind t)
  atomic_found t k d = ap (if_atomic s) (found t k) ∙ ap (λ c. if c then Some (bare_kind t) else None) (atomic_alike t ∙ d)

  any_is : (t : TypeName) → is_any_type t ≡ true → t ≡ names.Builtin AnyType
  any_is (names.Builtin AnyType) e = refl
  any_is _ e = absurd (cc e)

  any_simple_is : (t : TypeName) → is_any_simple_type t ≡ true → t ≡ names.Builtin AnySimple
  any_simple_is (names.Builtin AnySimple) e = refl
  any_simple_is _ e = absurd (cc e)

  tested_is : (any : Builtin) (t : TypeName) (unwritten : Bool) → (unwritten ≡ true → t ≡ names.Builtin any) → IsKnownKind s t
      → tested_kind s any (if unwritten then None else Some (written_kind t)) ≡ bare_kind t
  tested_is any t true e k = sym (ap bare_kind (e refl))
  tested_is any t false e k = ap (λ o. unwrap_or o (names.Builtin any)) (found t k)

  tested_known : (t : TypeName) (unwritten : Bool) → IsKnownKind s t → unknown_kind s (if unwritten then None else Some (written_kind t)) ≡ None
  tested_known t true k = refl
  tested_known t false k = ap (λ o. unless_known o (expanded_name (written_kind t))) (found t k)

  name_is : (n : Option Name) → option_map expanded_name (option_map written n) ≡ option_map without_prefix n
  name_is None = refl
  name_is (Some n) = ap (λ m. Some m) (expanded_is n)

  item_known : (kind : ItemType) → IsKnownItem s kind → unknown_in_item s (written_item kind) ≡ None
  item_known (items.Element n t) k = tested_known t (is_any_type t) k.1
  item_known (items.Attribute n t) k = tested_known t (is_any_simple_type t) k.1
  item_known items.Text k = refl
  item_known (items.Document None) k = refl
  item_known (items.Document (Some element)) k = tested_known element.1 (is_any_type element.1) k.1
  item_known (items.Atom t) k = ap (λ o. unless_known o (expanded_name (written_kind t))) (atomic_found t k.0 k.2)

  item_is : (kind : ItemType) → IsKnownItem s kind → written_item_type s (written_item kind) ≡ item (bare_item kind)
  item_is (items.Element n t) k =
      ap (λ m. item (items.Element m (tested_kind s AnyType (if is_any_type t then None else Some (written_kind t))))) (name_is n)
      ∙ ap (λ u. item (items.Element (option_map without_prefix n) u)) (tested_is AnyType t (is_any_type t) (any_is t) k.1)
  item_is (items.Attribute n t) k =
      ap (λ m. item (items.Attribute m (tested_kind s AnySimple (if is_any_simple_type t then None else Some (written_kind t))))) (name_is n)
      ∙ ap (λ u. item (items.Attribute (option_map without_prefix n) u)) (tested_is AnySimple t (is_any_simple_type t) (any_simple_is t) k.1)
  item_is items.Text k = refl
  item_is (items.Document None) k = refl
  item_is (items.Document (Some element)) k =
      ap (λ m. item (items.Document (Some (m, tested_kind s AnyType (if is_any_type element.1 then None else Some (written_kind element.1)))))) (name_is element.0)
      ∙ ap (λ u. item (items.Document (Some (option_map without_prefix element.0, u)))) (tested_is AnyType element.1 (is_any_type element.1) (any_is element.1) k.1)
  item_is (items.Atom t) k = ap (λ o. item (items.Atom (unwrap_or o (names.Builtin AnyAtomic)))) (atomic_found t k.0 k.2)

  -- equal up to prefixes

  abbrev AreAlike : ItemType → ItemType → Type 0
  AreAlike a b = (same_item_type a b ≡ true) × (same_item_type b a ≡ true)

  kind_itself : (t : TypeName) → (same_type_name t (bare_kind t) ≡ true) × (same_type_name (bare_kind t) t ≡ true)
  kind_itself (names.Builtin b) = (type_names_are_equivalent.refl (names.Builtin b), type_names_are_equivalent.refl (names.Builtin b))
  kind_itself (names.Named n) = (type_names_are_equivalent.refl (names.Named n), type_names_are_equivalent.refl (names.Named n))
  kind_itself (names.Anonymous k) = (type_names_are_equivalent.refl (names.Anonymous k), type_names_are_equivalent.refl (names.Anonymous k))

  name_itself : (n : Option Name) → same_optional_name n (option_map without_prefix n) ≡ true
  name_itself None = refl
  name_itself (Some n) = and_from (same_text n.uri n.uri) (same_text n.local n.local) (text_itself n.uri) (text_itself n.local)

  name_back : (n : Option Name) → same_optional_name (option_map without_prefix n) n ≡ true
  name_back None = refl
  name_back (Some n) = and_from (same_text n.uri n.uri) (same_text n.local n.local) (text_itself n.uri) (text_itself n.local)

  test_itself : (n : Option Name) (t : TypeName)
      → ((same_optional_name n (option_map without_prefix n) && same_type_name t (bare_kind t)) ≡ true) × ((same_optional_name (option_map without_prefix n) n && same_type_name (bare_kind t) t) ≡ true)
  test_itself n t = (
    and_from (same_optional_name n (option_map without_prefix n)) (same_type_name t (bare_kind t)) (name_itself n) (kind_itself t).0,
    and_from (same_optional_name (option_map without_prefix n) n) (same_type_name (bare_kind t) t) (name_back n) (kind_itself t).1,
  )

  item_itself : (kind : ItemType) → AreAlike kind (bare_item kind)
  item_itself (items.Element n t) = test_itself n t
  item_itself (items.Attribute n t) = test_itself n t
  item_itself items.Text = (refl, refl)
  item_itself (items.Document None) = (refl, refl)
  item_itself (items.Document (Some element)) = test_itself element.0 element.1
  item_itself (items.Atom t) = kind_itself t

  pub item_takes : (kind : ItemType) → IsKnownItem s kind → TakeTheSame s (item kind) (written_item_type s (written_item kind))
  item_takes kind k =
      let a = item_itself kind in
      subst (TakeTheSame s (item kind)) (sym (item_is kind k))
      (λ shapes. (equal_types_take_the_same s (item (bare_item kind)) (item kind) shapes a.1, equal_types_take_the_same s (item kind) (item (bare_item kind)) shapes a.0))

  -- no name is unknown

  AreFound : List Piece → Type 0
  AreFound [] = Unit {0}
  AreFound (p ∷ ps) = (unknown_in_piece s p ≡ None) × AreFound ps

  none_unknown : (ps : List Piece) → AreFound ps → first_unknown s ps ≡ None
  unfolding AreFound
  none_unknown [] h = refl
  none_unknown (p ∷ ps) h = ap (λ o. first_of_names o (first_unknown s ps)) h.0 ∙ none_unknown ps h.1

  both_found : (ps qs : List Piece) → AreFound ps → AreFound qs → AreFound (ps ++ qs)
  unfolding AreFound
  both_found [] qs h k = k
  both_found (p ∷ ps) qs h k = (h.0, both_found ps qs h.1 k)

  wrapped_found : (wrapped : Bool) (ps : List Piece) → AreFound ps → AreFound (wrapped_pieces wrapped ps)
  unfolding AreFound
  wrapped_found true ps h = (refl, both_found ps (piece.Closing ∷ []) h (refl, tt))
  wrapped_found false ps h = h

  mark_found : (c : Context) (a : SequenceType) (i : Mark) → AreFound (pieces_in Indicator a) → AreFound (wrapped_pieces (indicated_is_wrapped c) (pieces_in Indicator a ++ piece.Indicated i ∷ []))
  unfolding AreFound
  mark_found c a i h = wrapped_found (indicated_is_wrapped c) (pieces_in Indicator a ++ piece.Indicated i ∷ []) (both_found (pieces_in Indicator a) (piece.Indicated i ∷ []) h (refl, tt))

  pieces_found : (c : Context) (t : SequenceType) → AreKnownItems s t → AreFound (pieces_in c t)
  unfolding AreFound
  pieces_found c never k = (refl, tt)
  pieces_found c nothing k = (refl, tt)
  pieces_found c (item kind) k = (item_known kind k, tt)
  pieces_found c (both a b) k =
      wrapped_found (sequence_is_wrapped c) (pieces_in Sequence a ++ piece.Comma ∷ pieces_in Sequence b)
      (both_found (pieces_in Sequence a) (piece.Comma ∷ pieces_in Sequence b) (pieces_found Sequence a k.0) (refl, pieces_found Sequence b k.1))
  pieces_found c (either a b) k =
      wrapped_found (choice_is_wrapped c) (pieces_in Choice a ++ piece.Bar ∷ pieces_in Choice b)
      (both_found (pieces_in Choice a) (piece.Bar ∷ pieces_in Choice b) (pieces_found Choice a k.0) (refl, pieces_found Choice b k.1))
  pieces_found c (optional a) k = mark_found c a marks.Optional (pieces_found Indicator a k)
  pieces_found c (star a) k = mark_found c a marks.Star (pieces_found Indicator a k)
  pieces_found c (plus a) k = mark_found c a marks.Plus (pieces_found Indicator a k)

  pub all_known : (c : Context) (t : SequenceType) → AreKnownItems s t → first_unknown s (pieces_in c t) ≡ None
  all_known c t k = none_unknown (pieces_in c t) (pieces_found c t k)
