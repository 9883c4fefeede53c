-- What the grammar makes of a text is sound.
use Rattle.std.proofs.Common.{◌≡◌, ◌≢◌, ℕ, zero, suc, ◌-◌, ◌≤◌, Bool, true, false, if◌then◌else◌, List, [], ◌∷◌, ◌++◌, length, codes, bytes_eq, map, refl, sym, ap, subst, ◌∙◌, append_assoc, Option, None, arith}
use Rattle.std.specs.Prelude.{◌||◌, is_none}
use Rattle.std.specs.List.{list_any}
use Rattle.gx_base.specs.Name.{same_name}
use Rattle.gx_tree.specs.Binding.{Binding, xmlns}
use Rattle.gx_grammar.specs.Value.{nothing, node, pair, characters, no_item, an_item}
use Rattle.gx_grammar.specs.Grammar.{token, empty, ◌&◌, keyed, choose, many, rule, made}
use Rattle.gx_grammar.specs.Derivation.{Derives, of_token, of_empty, of_both, of_keyed, of_left, of_right, of_none, of_item, of_rule, of_made}
use Rattle.gx_xml.specs.declared.runs.Quote.{Quote}
use Rattle.gx_xml.specs.declared.runs.Run.TheVariants as run_of
use Rattle.gx_xml.specs.declared.marks.Choice.TheVariants as choice_of
use Rattle.gx_xml.specs.declared.marks.Maybe.TheVariants as maybe
use Rattle.gx_xml.specs.declared.marks.Mark.{Mark}
use Rattle.gx_xml.specs.declared.marks.Mark.TheVariants as mark
use Rattle.gx_xml.specs.Runs.{quote_character, text_normalised, value_normalised}
use Rattle.gx_xml.specs.SourceTree.{SourceContents, no_content, a_child, a_text}
use Rattle.gx_xml.specs.Nodes.{Made, Marked, Root, Held, rooted, mark_of, run_in, has_some, earlier, quote_read, put_characters, with_characters, with_child, with_text, with_section, section_text}
use Rattle.gx_xml.specs.Marks.{is_misc}
use Rattle.gx_xml.specs.Tokens.{Token, symbol, run, maybe_run, target, declared_prefix, numeral, choice, maybe_choice, tag_end, prolog_mark, numeral_value, derives}
use Rattle.gx_xml.specs.Tags.{TagSoFar, Purpose, default_namespace, namespace_of, ordinary, purpose_of, declares_xml, with_attribute, tagged_element, tag_fault, tag_attributes, has_doubled, has_unbound, fault_in, fault_by_room, repeats_behind}
use Rattle.gx_xml.specs.Grammar.{Production, prolog, epilog, element, inside, value, content, Phrase, on, past, spaced, past_space, past_equals, past_opening_quote, past_quote, past_comment, past_data, past_instruction, past_standalone, behind_encoding, past_encoding, behind_version, past_declaration, character_read, character_of, character_reference, behind_name, qualified, past_element_name, begun_tag, with_content, closing_tag, behind_tag, tag_ending, attribute, attribute_or_end, behind_tag_space, value_run, expected_at, behind_value_run, value_ending, behind_content, past_misc, root_and_behind, behind_prolog, rules, behind_start, whole_document, documents}
use Rattle.gx_xml.specs.Sound.{HasNoRepeats, IsSoundSource, AreSoundContents, source_depth, contents_depth}
use Rattle.gx_xml.proofs.DoubleLemmas.{any-append}
use Rattle.gx_xml.proofs.DocumentTokens.{or_parts}

-- an element that is sound, with at most so many elements in one another
abbrev pub IsSoundRoot : ℕ → Made → Type 0
IsSoundRoot room (node (Root t)) = IsSoundSource t × (source_depth t ≤ room)
IsSoundRoot room _ = ⊥

abbrev IsSoundHeld : ℕ → Made → Type 0
IsSoundHeld room (node (Held cs)) = AreSoundContents cs × (contents_depth cs ≤ room)
IsSoundHeld room _ = ⊥

-- what each production makes
abbrev Makes : Production → Made → Type 0
Makes prolog v = IsSoundRoot 200 v
Makes epilog v = Unit {0}
Makes (element room scope) v = IsSoundRoot room v
Makes (inside t) v = IsSoundRoot t.room v
Makes (value t prefix local q so_far) v = IsSoundRoot t.room v
Makes (content room scope) v = IsSoundHeld room v

-- whatever is derived from the phrase, if productions make what they are to make, has the property
abbrev Yields : (Made → Type 0) → Phrase → Type 0
Yields P (token t) = (v : Made) (x y : List ℕ) → derives t v x y → P v
Yields P empty = P nothing
Yields P (A & B) = Yields (λ v. Yields (λ w. P (pair v w)) B) A
Yields P (keyed t f) = (v : Made) (x y : List ℕ) → derives t v x y → Yields (λ w. P (pair v w)) (f v)
Yields P (choose g A B) = Yields P A × Yields P B
Yields P (many g A) = (v : Made) → P v
Yields P (rule p) = (v : Made) → Makes p v → P v
Yields P (made f A) = Yields (λ v. (n : ℕ) → P (f n v)) A

weaken : (A : Phrase) (P Q : Made → Type 0) → ((v : Made) → P v → Q v) → Yields P A → Yields Q A
weaken (token t) P Q g h = λ v x y d. g v (h v x y d)
weaken empty P Q g h = g nothing h
weaken (A & B) P Q g h = weaken A (λ v. Yields (λ w. P (pair v w)) B) (λ v. Yields (λ w. Q (pair v w)) B) (λ v. weaken B (λ w. P (pair v w)) (λ w. Q (pair v w)) (λ w. g (pair v w))) h
weaken (keyed t f) P Q g h = λ v x y d. weaken (f v) (λ w. P (pair v w)) (λ w. Q (pair v w)) (λ w. g (pair v w)) (h v x y d)
weaken (choose c A B) P Q g h = (weaken A P Q g h.0, weaken B P Q g h.1)
weaken (many c A) P Q g h = λ v. g v (h v)
weaken (rule p) P Q g h = λ v m. g v (h v m)
weaken (made f A) P Q g h = weaken A (λ v. (n : ℕ) → P (f n v)) (λ v. (n : ℕ) → Q (f n v)) (λ v k n. g (f n v) (k n)) h

anything : (A : Phrase) (P : Made → Type 0) → ((v : Made) → P v) → Yields P A
anything (token t) P h = λ v x y d. h v
anything empty P h = h nothing
anything (A & B) P h = anything A (λ v. Yields (λ w. P (pair v w)) B) (λ v. anything B (λ w. P (pair v w)) (λ w. h (pair v w)))
anything (keyed t f) P h = λ v x y d. anything (f v) (λ w. P (pair v w)) (λ w. h (pair v w))
anything (choose c A B) P h = (anything A P h, anything B P h)
anything (many c A) P h = h
anything (rule p) P h = λ v m. h v
anything (made f A) P h = anything A (λ v. (n : ℕ) → P (f n v)) (λ v n. h (f n v))

-- phrases hand on the value of what stands last

module _ (P : Made → Type 0) where
  y_on : (t : Token) (f : Made → Phrase) → ((v : Made) (x y : List ℕ) → derives t v x y → Yields P (f v)) → Yields P (on t f)
  unfolding on
  y_on t f h = λ v x y d. weaken (f v) P (λ w. (n : ℕ) → P w) (λ w p n. p) (h v x y d)

  y_past : (t : Token) (A : Phrase) → Yields P A → Yields P (past t A)
  y_past t A h = y_on t (λ v. A) (λ v x y d. h)

  y_spaced : (f : Bool → Phrase) → ((b : Bool) → Yields P (f b)) → Yields P (spaced f)
  y_spaced f h = y_on (maybe_run run_of.Space 0) (λ v. f (has_some (run_in v))) (λ v x y d. h (has_some (run_in v)))

  y_past_space : (A : Phrase) → Yields P A → Yields P (past_space A)
  y_past_space A h = y_spaced (λ b. A) (λ b. h)

  y_equals : (A : Phrase) → Yields P A → Yields P (past_equals A)
  unfolding past_equals
  y_equals A h = y_past_space (past (symbol (codes "=")) (past_space A)) (y_past (symbol (codes "=")) (past_space A) (y_past_space A h))

  y_quoted : (f : Quote → Phrase) → ((q : Quote) → Yields P (f q)) → Yields P (past_opening_quote f)
  y_quoted f h = y_on (choice choice_of.Quote) (λ v. f (quote_read (mark_of v))) (λ v x y d. h (quote_read (mark_of v)))

  y_quote : (q : Quote) (A : Phrase) → Yields P A → Yields P (past_quote q A)
  y_quote q A h = y_past (symbol (quote_character q ∷ [])) A h

  y_comment : (A : Phrase) → Yields P A → Yields P (past_comment A)
  unfolding past_comment
  y_comment A h = y_past (run run_of.Comment 0) (past (symbol (codes ">")) A) (y_past (symbol (codes ">")) A h)

  y_data : (b : Bool) (A : Phrase) → Yields P A → Yields P (past_data b A)
  unfolding past_data
  y_data false A h = y_past (symbol (codes "?>")) A h
  y_data true A h = y_past (run run_of.Instruction 0) (past (symbol (codes ">")) A) (y_past (symbol (codes ">")) A h)

  y_instruction : (A : Phrase) → Yields P A → Yields P (past_instruction A)
  unfolding past_instruction
  y_instruction A h = y_past target (spaced (λ b. past_data b A)) (y_spaced (λ b. past_data b A) (λ b. y_data b A h))

  y_end : (A : Phrase) → Yields P A → Yields P (past_space (past (symbol (codes "?>")) A))
  y_end A h = y_past_space (past (symbol (codes "?>")) A) (y_past (symbol (codes "?>")) A h)

  y_standalone : (A : Phrase) → Yields P A → Yields P (past_standalone A)
  unfolding past_standalone
  y_standalone A h =
      let last : (q : Quote) → Yields P (past (choice choice_of.Answer) (past_quote q (past_space (past (symbol (codes "?>")) A)))) =
      λ q. y_past (choice choice_of.Answer) (past_quote q (past_space (past (symbol (codes "?>")) A))) (y_quote q (past_space (past (symbol (codes "?>")) A)) (y_end A h)) in
      y_equals (past_opening_quote (λ q. past (choice choice_of.Answer) (past_quote q (past_space (past (symbol (codes "?>")) A))))) (y_quoted (λ q. past (choice choice_of.Answer) (past_quote q (past_space (past (symbol (codes "?>")) A)))) last)

  y_behind_encoding : (m : Mark) (A : Phrase) → Yields P A → Yields P (behind_encoding m A)
  unfolding behind_encoding
  y_behind_encoding mark.Standalone A h = y_standalone A h
  y_behind_encoding _ A h = h

  abbrev encoded : Phrase → Bool → Phrase
  encoded A b = on (choice (choice_of.Declaration b false)) (λ v. behind_encoding (mark_of v) A)

  abbrev encoding_value : Phrase → Quote → Phrase
  encoding_value A q = past (choice choice_of.Encoding) (past_quote q (spaced (encoded A)))

  y_encoding : (A : Phrase) → Yields P A → Yields P (past_encoding A)
  unfolding past_encoding
  y_encoding A h =
      let ending : (b : Bool) → Yields P (encoded A b) = λ b. y_on (choice (choice_of.Declaration b false)) (λ v. behind_encoding (mark_of v) A) (λ v x y d. y_behind_encoding (mark_of v) A h) in
      y_equals (past_opening_quote (encoding_value A)) (y_quoted (encoding_value A) (λ q. y_past (choice choice_of.Encoding) (past_quote q (spaced (encoded A))) (y_quote q (spaced (encoded A)) (y_spaced (encoded A) ending))))

  y_behind_version : (m : Mark) (A : Phrase) → Yields P A → Yields P (behind_version m A)
  unfolding behind_version
  y_behind_version mark.Encoding A h = y_encoding A h
  y_behind_version mark.Standalone A h = y_standalone A h
  y_behind_version _ A h = h

  abbrev versioned : Phrase → Bool → Phrase
  versioned A b = on (choice (choice_of.Declaration b true)) (λ v. behind_version (mark_of v) A)

  abbrev version_value : Phrase → Quote → Phrase
  version_value A q = past (symbol (codes "1.")) (past (run run_of.Digits 0) (past_quote q (spaced (versioned A))))

  y_declaration : (A : Phrase) → Yields P A → Yields P (past_declaration A)
  unfolding past_declaration
  y_declaration A h =
      let ending : (b : Bool) → Yields P (versioned A b) = λ b. y_on (choice (choice_of.Declaration b true)) (λ v. behind_version (mark_of v) A) (λ v x y d. y_behind_version (mark_of v) A h) in
      let number : (q : Quote) → Yields P (version_value A q) =
      λ q. y_past (symbol (codes "1.")) (past (run run_of.Digits 0) (past_quote q (spaced (versioned A)))) (y_past (run run_of.Digits 0) (past_quote q (spaced (versioned A))) (y_quote q (spaced (versioned A)) (y_spaced (versioned A) ending))) in
      y_past_space (past (symbol (codes "version")) (past_equals (past_opening_quote (version_value A)))) (y_past (symbol (codes "version")) (past_equals (past_opening_quote (version_value A))) (y_equals (past_opening_quote (version_value A)) (y_quoted (version_value A) number)))

  y_character : (expected : Option ℕ) (m : Mark) (f : ℕ → Phrase) → ((c : ℕ) → Yields P (f c)) → Yields P (character_read expected m f)
  unfolding character_read
  y_character expected (mark.Numeral b) f h = y_on (numeral b expected) (λ v. past (symbol (codes ";")) (f (numeral_value b expected (run_in v)))) (λ v x y d. y_past (symbol (codes ";")) (f (numeral_value b expected (run_in v))) (h (numeral_value b expected (run_in v))))
  y_character expected mark.Only f h = h (character_of mark.Only)
  y_character expected mark.Declaration f h = h (character_of mark.Declaration)
  y_character expected mark.Encoding f h = h (character_of mark.Encoding)
  y_character expected mark.Standalone f h = h (character_of mark.Standalone)
  y_character expected (mark.Quote q) f h = h (character_of (mark.Quote q))
  y_character expected mark.Comment f h = h (character_of mark.Comment)
  y_character expected mark.Instruction f h = h (character_of mark.Instruction)
  y_character expected mark.CData f h = h (character_of mark.CData)
  y_character expected mark.Reference f h = h (character_of mark.Reference)
  y_character expected mark.StartTag f h = h (character_of mark.StartTag)
  y_character expected mark.EndTag f h = h (character_of mark.EndTag)
  y_character expected mark.Open f h = h (character_of mark.Open)
  y_character expected mark.Empty f h = h (character_of mark.Empty)
  y_character expected (mark.Character c) f h = h (character_of (mark.Character c))

  y_reference : (expected : Option ℕ) (f : ℕ → Phrase) → ((c : ℕ) → Yields P (f c)) → Yields P (character_reference expected f)
  unfolding character_reference
  y_reference expected f h = y_on (choice (choice_of.Reference (is_none expected))) (λ v. character_read expected (mark_of v) f) (λ v x y d. y_character expected (mark_of v) f h)

  y_behind_name : (b : Bool) (n : List ℕ) (f : List ℕ → List ℕ → Phrase) → ((p l : List ℕ) → Yields P (f p l)) → Yields P (behind_name b n f)
  unfolding behind_name
  y_behind_name false n f h = h [] n
  y_behind_name true n f h = y_on (if bytes_eq n xmlns then declared_prefix else run run_of.Name 0) (λ v. f n (run_in v)) (λ v x y d. h n (run_in v))

  y_qualified : (n : List ℕ) (f : List ℕ → List ℕ → Phrase) → ((p l : List ℕ) → Yields P (f p l)) → Yields P (qualified n f)
  unfolding qualified
  y_qualified n f h = y_on (maybe_run run_of.Colon 0) (λ v. behind_name (has_some (run_in v)) n f) (λ v x y d. y_behind_name (has_some (run_in v)) n f h)

  y_by_test : (b : Bool) (A B : Phrase) → Yields P A → Yields P B → Yields P (if b then A else B)
  y_by_test true A B h k = h
  y_by_test false A B h k = k

  y_element_name : (n : List ℕ) (f : List ℕ → List ℕ → Phrase) → ((p l : List ℕ) → Yields P (f p l)) → Yields P (past_element_name n f)
  unfolding past_element_name
  y_element_name n f h = y_by_test (bytes_eq n xmlns) (f [] n) (qualified n f) (h [] n) (y_qualified n f h)

  y_misc : (m : Mark) (A : Phrase) → Yields P A → Yields P (past_misc m A)
  unfolding past_misc
  y_misc mark.Comment A h = y_comment A h
  y_misc mark.Instruction A h = y_instruction A h
  y_misc _ A h = h

-- tags

-- nothing that follows in a list is the same
none_behind : {A : Type 0} (same : A → A → Bool) (before after : List A) (e : A) (xs : List A) → repeats_behind same (before ++ e ∷ after) xs ≡ false → list_any (same e) xs ≡ false
none_behind same before after e [] h = refl
none_behind same before after e (x ∷ xs) h =
    let parts = or_parts (list_any (λ y. same y x) (before ++ e ∷ after)) (repeats_behind same ((before ++ e ∷ after) ++ x ∷ []) xs) h in
    let here = or_parts (list_any (λ y. same y x) before) (list_any (λ y. same y x) (e ∷ after)) (sym (any-append (λ y. same y x) before (e ∷ after)) ∙ parts.0) in
    let first = or_parts (same e x) (list_any (λ y. same y x) after) here.1 in
    let others = none_behind same before (after ++ x ∷ []) e xs (ap (λ l. repeats_behind same l xs) (sym (append_assoc before (e ∷ after) (x ∷ []))) ∙ parts.1) in
    ap (λ b. b || list_any (same e) xs) first.0 ∙ others

distinct : {A : Type 0} (same : A → A → Bool) (earlier xs : List A) → repeats_behind same earlier xs ≡ false → HasNoRepeats same xs
distinct same earlier [] h = tt
distinct same earlier (x ∷ xs) h =
    let parts = or_parts (list_any (λ y. same y x) earlier) (repeats_behind same (earlier ++ x ∷ []) xs) h in
    (none_behind same earlier [] x xs parts.1, distinct same (earlier ++ x ∷ []) xs parts.1)

-- a tag without a fault
record IsFaultless (t : TagSoFar) : Type 0 where
  room : t.room ≢ 0
  prefixes : HasNoRepeats bytes_eq (map (λ d. d.prefix) t.declarations)
  names : HasNoRepeats same_name (map (λ a. a.name) (tag_attributes t))

undoubled : (unbound doubled : Bool) → is_none (fault_in unbound doubled) ≡ true → doubled ≡ false
undoubled true doubled e = absurd (cc)
undoubled false true e = absurd (cc)
undoubled false false e = refl

faultless_by_room : (t : TagSoFar) (room : ℕ) → t.room ≡ room → is_none (fault_by_room room (fault_in (has_unbound t) (has_doubled t))) ≡ true → IsFaultless t
faultless_by_room t zero r e = absurd (cc)
faultless_by_room t (suc room) r e =
    let d = undoubled (has_unbound t) (has_doubled t) e in
    let parts = or_parts (repeats_behind bytes_eq [] (map (λ d. d.prefix) t.declarations)) (repeats_behind same_name [] (map (λ a. a.name) (tag_attributes t))) d in
    record {
      room = λ z. omega (arith, r, z);
      prefixes = distinct bytes_eq [] (map (λ d. d.prefix) t.declarations) parts.0;
      names = distinct same_name [] (map (λ a. a.name) (tag_attributes t)) parts.1;
    }

faultless : (t : TagSoFar) → is_none (tag_fault t) ≡ true → IsFaultless t
unfolding tag_fault
faultless t e = faultless_by_room t t.room refl e

sound_element : (t : TagSoFar) (room : ℕ) (cs : SourceContents) → IsFaultless t → t.room ≡ room → AreSoundContents cs → contents_depth cs ≤ room - 1 → IsSoundRoot room (rooted (tagged_element t cs))
sound_element t room cs f r s d = ((f.prefixes, f.names, s), (let n : room ≢ 0 = λ z. f.room (r ∙ z) in omega (arith, n, d)))

y_behind_tag : (t : TagSoFar) (m : Mark) → IsFaultless t → Yields (IsSoundRoot t.room) (behind_tag t m)
unfolding behind_tag
y_behind_tag t mark.Open f = λ v h. anything (closing_tag t) (λ w. (n : ℕ) → IsSoundRoot t.room (with_content t (pair v w))) (λ w n. go v w h)
  where
    go : (v w : Made) → IsSoundHeld (t.room - 1) v → IsSoundRoot t.room (with_content t (pair v w))
    go (node (Held cs)) w h = sound_element t t.room cs f refl h.0 h.1
    go (node (Root u)) w h = absurd h
    go (node (Marked m)) w h = absurd h
    go nothing w h = absurd h
    go (characters x) w h = absurd h
    go (pair a b) w h = absurd h
    go no_item w h = absurd h
    go (an_item a b) w h = absurd h
y_behind_tag t _ f = λ n. sound_element t t.room no_content f refl tt (omega arith)

y_ending : (t : TagSoFar) → Yields (IsSoundRoot t.room) (tag_ending t)
unfolding tag_ending
y_ending t = y_on (IsSoundRoot t.room) (tag_end (tag_fault t)) (λ v. behind_tag t (mark_of v)) (λ v x y d. y_behind_tag t (mark_of v) (faultless t d.fits))

y_attribute : (t : TagSoFar) (n : List ℕ) → Yields (IsSoundRoot t.room) (attribute t n)
unfolding attribute
y_attribute t n =
    let P : Made → Type 0 = IsSoundRoot t.room in
    y_qualified P n (λ prefix local. past_equals (past_opening_quote (λ q. rule (value t prefix local q [])))) (λ prefix local. y_equals P (past_opening_quote (λ q. rule (value t prefix local q []))) (y_quoted P (λ q. rule (value t prefix local q [])) (λ q v h. h)))

y_attribute_or_end : (t : TagSoFar) (n : List ℕ) → Yields (IsSoundRoot t.room) (attribute_or_end t n)
unfolding attribute_or_end
y_attribute_or_end t [] = y_ending t
y_attribute_or_end t (c ∷ n) = y_attribute t (c ∷ n)

y_behind_space : (t : TagSoFar) (b : Bool) → Yields (IsSoundRoot t.room) (behind_tag_space t b)
unfolding behind_tag_space
y_behind_space t false = y_ending t
y_behind_space t true = y_on (IsSoundRoot t.room) (maybe_run run_of.Name 0) (λ v. attribute_or_end t (run_in v)) (λ v x y d. y_attribute_or_end t (run_in v))

-- values

room_kept : (t : TagSoFar) (prefix local x : List ℕ) (p : Purpose) → (with_attribute t prefix local x p).room ≡ t.room
room_kept t prefix local x default_namespace = refl
room_kept t prefix local x (namespace_of p) = refl
room_kept t prefix local x ordinary = refl

y_inside : (t : TagSoFar) (prefix local so_far : List ℕ) → Yields (IsSoundRoot t.room) (rule (inside (with_attribute t prefix local so_far (purpose_of prefix local))))
y_inside t prefix local so_far = λ v h. subst (λ room. IsSoundRoot room v) (room_kept t prefix local so_far (purpose_of prefix local)) h

y_behind_value : (t : TagSoFar) (prefix local : List ℕ) (q : Quote) (so_far : List ℕ) (m : Mark) → Yields (IsSoundRoot t.room) (behind_value_run t prefix local q so_far m)
unfolding behind_value_run
y_behind_value t prefix local q so_far mark.Reference = y_reference (IsSoundRoot t.room) (expected_at (declares_xml (purpose_of prefix local)) (length so_far)) (λ c. rule (value t prefix local q (so_far ++ c ∷ []))) (λ c v h. h)
y_behind_value t prefix local q so_far _ = y_inside t prefix local so_far

-- content

put_sound : (x : List ℕ) (cs : SourceContents) (room : ℕ) → AreSoundContents cs × (contents_depth cs ≤ room) → AreSoundContents (put_characters x cs) × (contents_depth (put_characters x cs) ≤ room)
put_sound [] cs room h = h
put_sound (c ∷ x) no_content room h = ((λ e. absurd (cc e), tt, tt), h.1)
put_sound (c ∷ x) (a_child t cs) room h = ((λ e. absurd (cc e), tt, h.0), h.1)
put_sound (c ∷ x) (a_text y cs) room h = ((λ e. absurd (cc e), h.0.1, h.0.2), h.1)

put_held : (x : List ℕ) (room : ℕ) (v : Made) → IsSoundHeld room v → IsSoundHeld room (with_characters x v)
put_held x room (node (Held cs)) h = put_sound x cs room h
put_held x room (node (Root u)) h = absurd h
put_held x room (node (Marked m)) h = absurd h
put_held x room nothing h = absurd h
put_held x room (characters y) h = absurd h
put_held x room (pair a b) h = absurd h
put_held x room no_item h = absurd h
put_held x room (an_item a b) h = absurd h

child_held : (room : ℕ) (v w : Made) → IsSoundRoot room v → IsSoundHeld room w → IsSoundHeld room (with_child (pair v w))
child_held room (node (Root t)) (node (Held cs)) h k = ((h.0, k.0), omega (arith, h.1, k.1))
child_held room (node (Root t)) (node (Root u)) h k = absurd k
child_held room (node (Root t)) (node (Marked m)) h k = absurd k
child_held room (node (Root t)) nothing h k = absurd k
child_held room (node (Root t)) (characters y) h k = absurd k
child_held room (node (Root t)) (pair a b) h k = absurd k
child_held room (node (Root t)) no_item h k = absurd k
child_held room (node (Root t)) (an_item a b) h k = absurd k
child_held room (node (Held cs)) w h k = absurd h
child_held room (node (Marked m)) w h k = absurd h
child_held room nothing w h k = absurd h
child_held room (characters y) w h k = absurd h
child_held room (pair a b) w h k = absurd h
child_held room no_item w h k = absurd h
child_held room (an_item a b) w h k = absurd h

y_content : (room : ℕ) (scope : List Binding) (m : Mark) → Yields (IsSoundHeld room) (behind_content room scope m)
unfolding behind_content
y_content room scope mark.Comment = y_comment (IsSoundHeld room) (rule (content room scope)) (λ v h. h)
y_content room scope mark.Instruction = y_instruction (IsSoundHeld room) (rule (content room scope)) (λ v h. h)
y_content room scope mark.CData =
    λ v x y d. y_past (λ w. (n : ℕ) → IsSoundHeld room (with_section (pair v w))) (symbol (codes ">")) (rule (content room scope)) (λ w h n. put_held (section_text (run_in v)) room w h)
y_content room scope mark.Reference =
    y_reference (IsSoundHeld room) None (λ c. made (λ left v. with_characters (c ∷ []) v) (rule (content room scope))) (λ c v h n. put_held (c ∷ []) room v h)
y_content room scope mark.StartTag = λ v h w k n. child_held room v w h k
y_content room scope _ = λ n. (tt, omega arith)

root_alone : (v w : Made) → IsSoundRoot 200 v → IsSoundRoot 200 (earlier (pair v w))
root_alone v w h = h

y_root : Yields (IsSoundRoot 200) root_and_behind
unfolding root_and_behind
y_root = λ v h w k n. h

makes : (p : Production) → Yields (Makes p) (rules p)
unfolding rules value_ending
makes prolog =
    let P : Made → Type 0 = IsSoundRoot 200 in
    y_past_space P (on prolog_mark (λ v. behind_prolog (mark_of v))) (y_on P prolog_mark (λ v. behind_prolog (mark_of v)) (λ v x y d. y_by_test P (is_misc (mark_of v)) (past_misc (mark_of v) (rule prolog)) root_and_behind (y_misc P (mark_of v) (rule prolog) (λ w h. h)) y_root))
makes epilog = anything (rules epilog) (λ v. Unit {0}) (λ v. tt)
makes (element room scope) =
    let P : Made → Type 0 = IsSoundRoot room in
    y_on P (run run_of.Name 0) (λ v. past_element_name (run_in v) (λ prefix local. rule (inside (begun_tag room scope prefix local)))) (λ v x y d. y_element_name P (run_in v) (λ prefix local. rule (inside (begun_tag room scope prefix local))) (λ prefix local w h. h))
makes (inside t) = y_spaced (IsSoundRoot t.room) (λ b. behind_tag_space t b) (λ b. y_behind_space t b)
makes (value t prefix local q so_far) =
    let P : Made → Type 0 = IsSoundRoot t.room in
    y_on P (value_run (declares_xml (purpose_of prefix local)) q (length so_far)) (λ v. value_ending t prefix local q (so_far ++ value_normalised (run_in v)))
    (λ v x y d. y_on P _ (λ w. behind_value_run t prefix local q (so_far ++ value_normalised (run_in v)) (mark_of w)) (λ w a b e. y_behind_value t prefix local q (so_far ++ value_normalised (run_in v)) (mark_of w)))
makes (content room scope) =
    λ v x y d. y_on (λ w. (n : ℕ) → IsSoundHeld room (with_text (pair v w))) (choice choice_of.Content) (λ m. behind_content room scope (mark_of m))
    (λ m a b e. weaken (behind_content room scope (mark_of m)) (IsSoundHeld room) (λ w. (n : ℕ) → IsSoundHeld room (with_text (pair v w))) (λ w h n. put_held (text_normalised (run_in v)) room w h) (y_content room scope (mark_of m)))

y_start : (m : Mark) → Yields (IsSoundRoot 200) (behind_start m)
unfolding behind_start
y_start mark.Declaration = y_declaration (IsSoundRoot 200) (rule prolog) (λ v h. h)
y_start _ = λ v h. h

y_document : Yields (IsSoundRoot 200) whole_document
unfolding whole_document
y_document =
    let P : Made → Type 0 = IsSoundRoot 200 in
    y_past P (maybe_run run_of.ByteOrderMark 0) (on (maybe_choice maybe.DeclarationStart) (λ v. behind_start (mark_of v))) (y_on P (maybe_choice maybe.DeclarationStart) (λ v. behind_start (mark_of v)) (λ v x y d. y_start (mark_of v)))

yielded : {A : Phrase} {v : Made} {x y : List ℕ} → Derives documents A v x y → (P : Made → Type 0) → Yields P A → P v
yielded (of_token {v = v} {x = x} {y = y} d) P h = h v x y d
yielded of_empty P h = h
yielded (of_both {A = A} {B = B} {v = v} d e) P h = yielded e (λ w. P (pair v w)) (yielded d (λ u. Yields (λ w. P (pair u w)) B) h)
yielded (of_keyed {v = v} {x = x} {y = y} d e) P h = yielded e (λ w. P (pair v w)) (h v x y d)
yielded (of_left d) P h = yielded d P h.0
yielded (of_right d) P h = yielded d P h.1
yielded of_none P h = h no_item
yielded (of_item {v = v} {w = w} d e) P h = h (an_item v w)
yielded (of_rule {p = p} {v = v} d) P h = h v (yielded d (Makes p) (makes p))
yielded (of_made {f = f} {x = x} d) P h = yielded d (λ u. (n : ℕ) → P (f n u)) h (length x)

-- whatever the grammar makes of a text is a sound element
pub made_root : (v : Made) (x y : List ℕ) → Derives documents whole_document v x y → IsSoundRoot 200 v
made_root v x y d = yielded d (IsSoundRoot 200) y_document
