-- The faults of documents have the codes of rules.
use Rattle.std.proofs.Common.{◌≡◌, ℕ, zero, suc, Bool, true, false, if◌then◌else◌, List, [], ◌∷◌, ◌++◌, length, codes, bytes_eq, refl, subst, ◌⊎◌, inl, inr, Option, Some, None}
use Rattle.gx_tree.specs.Binding.{Binding, xmlns}
use Rattle.gx_grammar.specs.Grammar.{token, empty, ◌&◌, keyed, choose, many, rule, made}
use Rattle.gx_grammar.specs.Tokens.{strip}
use Rattle.gx_grammar.specs.Words.{scan_one_of}
use Rattle.gx_grammar.specs.Halting.{Halts, halt_token, halt_first, halt_second, halt_key, halt_behind, halt_left, halt_right, halt_item, halt_later, halt_rule, halt_made}
use Rattle.gx_xml.specs.declared.runs.Quote.{Quote}
use Rattle.gx_xml.specs.declared.runs.Run.TheVariants as run_of
use Rattle.gx_xml.specs.declared.marks.Choice.TheVariants as choice_of
use Rattle.gx_xml.specs.declared.marks.Mark.{Mark}
use Rattle.gx_xml.specs.declared.marks.Mark.TheVariants as mark
use Rattle.gx_xml.specs.Runs.{value_normalised}
use Rattle.gx_xml.specs.Nodes.{Made, mark_of, run_in, has_some}
use Rattle.gx_xml.specs.Marks.{is_misc, choice_words}
use Rattle.gx_xml.specs.Tokens.{Token, symbol, run, maybe_run, target, declared_prefix, numeral, choice, maybe_choice, tag_end, prolog_mark, faults, if_stands, doctype, unbound_prefix, duplicate_attribute, too_deep}
use Rattle.gx_xml.specs.Tags.{TagSoFar, tag_fault, fault_in, fault_by_room, has_unbound, has_doubled, declares_xml, purpose_of}
use Rattle.gx_xml.specs.Grammar.{Production, prolog, epilog, element, inside, value, content, Phrase, on, past_equals, past_comment, past_data, past_instruction, past_standalone, behind_encoding, past_encoding, behind_version, past_declaration, character_read, character_reference, behind_name, qualified, past_element_name, past_name, closing_tag, behind_tag, tag_ending, attribute, attribute_or_end, behind_tag_space, value_run, behind_value_run, value_ending, behind_content, past_misc, root_and_behind, rules, behind_start, whole_document, documents}

abbrev pub IsCode : ℕ → Type 0
IsCode code = (doctype ≡ code) ⊎ ((unbound_prefix ≡ code) ⊎ ((duplicate_attribute ≡ code) ⊎ (too_deep ≡ code)))

-- the token has faults with these codes alone
abbrev HasCodes : Token → Type 0
HasCodes (tag_end None) = Unit {0}
HasCodes (tag_end (Some code)) = IsCode code
HasCodes _ = Unit {0}

not_none : (code : ℕ) → None ≡ Some code → ⊥
not_none code e = absurd (cc e)

stood_code : {A : Type 0} (o : Option A) (k code : ℕ) → if_stands o (Some k) ≡ Some code → k ≡ code
stood_code None k code e = absurd (not_none code e)
stood_code (Some a) k code e = cc e

stood_none : {A : Type 0} (o : Option A) (code : ℕ) → if_stands o None ≡ Some code → ⊥
stood_none None code e = not_none code e
stood_none (Some a) code e = not_none code e

token_codes : (t : Token) (x : List ℕ) (code : ℕ) → HasCodes t → faults t x ≡ Some code → IsCode code
token_codes (tag_end None) x code h e = absurd (stood_none (scan_one_of (choice_words choice_of.TagEnd) x) code e)
token_codes (tag_end (Some k)) x code h e = subst IsCode (stood_code (scan_one_of (choice_words choice_of.TagEnd) x) k code e) h
token_codes prolog_mark x code h e = inl (stood_code (strip (codes "<!DOCTYPE") x) doctype code e)
token_codes (symbol w) x code h e = absurd (not_none code e)
token_codes (run r n) x code h e = absurd (not_none code e)
token_codes (maybe_run r n) x code h e = absurd (not_none code e)
token_codes target x code h e = absurd (not_none code e)
token_codes declared_prefix x code h e = absurd (not_none code e)
token_codes (numeral b k) x code h e = absurd (not_none code e)
token_codes (choice c) x code h e = absurd (not_none code e)
token_codes (maybe_choice m) x code h e = absurd (not_none code e)

-- each token of the phrase has faults with these codes alone
abbrev Blames : Phrase → Type 0
Blames (token t) = HasCodes t
Blames empty = Unit {0}
Blames (A & B) = Blames A × Blames B
Blames (keyed t f) = HasCodes t × ((v : Made) → Blames (f v))
Blames (choose g A B) = Blames A × Blames B
Blames (many g A) = Blames A
Blames (rule p) = Unit {0}
Blames (made f A) = Blames A

b_equals : (A : Phrase) → Blames A → Blames (past_equals A)
unfolding past_equals on
b_equals A g = (tt, λ u. (tt, λ v. (tt, λ w. g)))

b_comment : (A : Phrase) → Blames A → Blames (past_comment A)
unfolding past_comment on
b_comment A g = (tt, λ u. (tt, λ v. g))

b_data : (b : Bool) (A : Phrase) → Blames A → Blames (past_data b A)
unfolding past_data on
b_data false A g = (tt, λ u. g)
b_data true A g = (tt, λ u. (tt, λ v. g))

b_instruction : (A : Phrase) → Blames A → Blames (past_instruction A)
unfolding past_instruction on
b_instruction A g = (tt, λ u. (tt, λ v. b_data (has_some (run_in v)) A g))

b_standalone : (A : Phrase) → Blames A → Blames (past_standalone A)
unfolding past_standalone on past_equals
b_standalone A g = (tt, λ u. (tt, λ v. (tt, λ w. (tt, λ q. (tt, λ a. (tt, λ b. (tt, λ c. (tt, λ d. g))))))))

b_behind_encoding : (m : Mark) (A : Phrase) → Blames A → Blames (behind_encoding m A)
unfolding behind_encoding
b_behind_encoding mark.Standalone A g = b_standalone A g
b_behind_encoding _ A g = g

b_encoding : (A : Phrase) → Blames A → Blames (past_encoding A)
unfolding past_encoding on past_equals
b_encoding A g = (tt, λ u. (tt, λ v. (tt, λ w. (tt, λ q. (tt, λ a. (tt, λ b. (tt, λ c. (tt, λ d. b_behind_encoding (mark_of d) A g))))))))

b_behind_version : (m : Mark) (A : Phrase) → Blames A → Blames (behind_version m A)
unfolding behind_version
b_behind_version mark.Encoding A g = b_encoding A g
b_behind_version mark.Standalone A g = b_standalone A g
b_behind_version _ A g = g

b_declaration : (A : Phrase) → Blames A → Blames (past_declaration A)
unfolding past_declaration on past_equals
b_declaration A g = (tt, λ a. (tt, λ b. (tt, λ u. (tt, λ v. (tt, λ w. (tt, λ q. (tt, λ c. (tt, λ d. (tt, λ e. (tt, λ s. (tt, λ m. b_behind_version (mark_of m) A g)))))))))))

b_character : (expected : Option ℕ) (m : Mark) (f : ℕ → Phrase) → ((c : ℕ) → Blames (f c)) → Blames (character_read expected m f)
unfolding character_read on
b_character expected (mark.Numeral b) f g = (tt, λ u. (tt, λ v. g _))
b_character expected _ f g = g _

b_reference : (expected : Option ℕ) (f : ℕ → Phrase) → ((c : ℕ) → Blames (f c)) → Blames (character_reference expected f)
unfolding character_reference on
b_reference expected f g = (tt, λ v. b_character expected (mark_of v) f g)

name_codes : (b : Bool) → HasCodes (if b then declared_prefix else run run_of.Name 0)
name_codes true = tt
name_codes false = tt

b_behind_name : (b : Bool) (n : List ℕ) (f : List ℕ → List ℕ → Phrase) → ((p l : List ℕ) → Blames (f p l)) → Blames (behind_name b n f)
unfolding behind_name on
b_behind_name false n f g = g [] n
b_behind_name true n f g = (name_codes (bytes_eq n xmlns), λ v. g n (run_in v))

b_qualified : (n : List ℕ) (f : List ℕ → List ℕ → Phrase) → ((p l : List ℕ) → Blames (f p l)) → Blames (qualified n f)
unfolding qualified on
b_qualified n f g = (tt, λ v. b_behind_name (has_some (run_in v)) n f g)

b_by_test : (b : Bool) (A B : Phrase) → Blames A → Blames B → Blames (if b then A else B)
b_by_test true A B p q = p
b_by_test false A B p q = q

b_element_name : (n : List ℕ) (f : List ℕ → List ℕ → Phrase) → ((p l : List ℕ) → Blames (f p l)) → Blames (past_element_name n f)
unfolding past_element_name
b_element_name n f g = b_by_test (bytes_eq n xmlns) (f [] n) (qualified n f) (g [] n) (b_qualified n f g)

b_name : (p l : List ℕ) (A : Phrase) → Blames A → Blames (past_name p l A)
unfolding on
b_name [] l A g = (tt, λ u. g)
b_name (c ∷ p) l A g = (tt, λ u. (tt, λ v. (tt, λ w. g)))

b_closing : (t : TagSoFar) → Blames (closing_tag t)
unfolding closing_tag on
b_closing t = b_name t.prefix t.local _ (tt, λ u. tt)

b_behind_tag : (t : TagSoFar) (m : Mark) → Blames (behind_tag t m)
unfolding behind_tag
b_behind_tag t mark.Open = (tt, b_closing t)
b_behind_tag t _ = tt

fault_codes : (room : ℕ) (unbound doubled : Bool) → HasCodes (tag_end (fault_by_room room (fault_in unbound doubled)))
fault_codes zero unbound doubled = inr (inr (inr refl))
fault_codes (suc room) true doubled = inr (inl refl)
fault_codes (suc room) false true = inr (inr (inl refl))
fault_codes (suc room) false false = tt

b_ending : (t : TagSoFar) → Blames (tag_ending t)
unfolding tag_ending on tag_fault
b_ending t = (fault_codes t.room (has_unbound t) (has_doubled t), λ v. b_behind_tag t (mark_of v))

b_attribute : (t : TagSoFar) (n : List ℕ) → Blames (attribute t n)
unfolding attribute on
b_attribute t n = b_qualified n _ (λ p l. b_equals _ (tt, λ q. tt))

b_attribute_or_end : (t : TagSoFar) (n : List ℕ) → Blames (attribute_or_end t n)
unfolding attribute_or_end
b_attribute_or_end t [] = b_ending t
b_attribute_or_end t (c ∷ n) = b_attribute t (c ∷ n)

b_behind_space : (t : TagSoFar) (b : Bool) → Blames (behind_tag_space t b)
unfolding behind_tag_space on
b_behind_space t false = b_ending t
b_behind_space t true = (tt, λ v. b_attribute_or_end t (run_in v))

b_behind_value : (t : TagSoFar) (p l : List ℕ) (q : Quote) (x : List ℕ) (m : Mark) → Blames (behind_value_run t p l q x m)
unfolding behind_value_run
b_behind_value t p l q x mark.Reference = b_reference _ _ (λ c. tt)
b_behind_value t p l q x _ = tt

b_value_ending : (t : TagSoFar) (p l : List ℕ) (q : Quote) (x : List ℕ) → Blames (value_ending t p l q x)
unfolding value_ending on
b_value_ending t p l q x = (tt, λ v. b_behind_value t p l q x (mark_of v))

b_content : (room : ℕ) (scope : List Binding) (m : Mark) → Blames (behind_content room scope m)
unfolding behind_content on
b_content room scope mark.Comment = b_comment _ tt
b_content room scope mark.Instruction = b_instruction _ tt
b_content room scope mark.CData = (tt, λ u. (tt, λ v. tt))
b_content room scope mark.Reference = b_reference None _ (λ c. tt)
b_content room scope mark.StartTag = (tt, tt)
b_content room scope _ = tt

b_misc : (m : Mark) (A : Phrase) → Blames A → Blames (past_misc m A)
unfolding past_misc
b_misc mark.Comment A g = b_comment A g
b_misc mark.Instruction A g = b_instruction A g
b_misc _ A g = g

b_root : Blames root_and_behind
unfolding root_and_behind
b_root = (tt, tt)

value_codes : (of_xml : Bool) (q : Quote) (n : ℕ) → HasCodes (value_run of_xml q n)
value_codes true q n = tt
value_codes false q n = tt

b_rules : (p : Production) → Blames (rules p)
unfolding rules on
b_rules prolog = (tt, λ s. (tt, λ v. b_by_test (is_misc (mark_of v)) (past_misc (mark_of v) (rule prolog)) root_and_behind (b_misc (mark_of v) (rule prolog) tt) b_root))
b_rules epilog = (tt, λ s. (tt, λ v. b_by_test (is_misc (mark_of v)) (past_misc (mark_of v) (rule epilog)) empty (b_misc (mark_of v) (rule epilog) tt) tt))
b_rules (element room scope) = (tt, λ v. b_element_name (run_in v) _ (λ p l. tt))
b_rules (inside t) = (tt, λ v. b_behind_space t (has_some (run_in v)))
b_rules (value t p l q x) = (value_codes (declares_xml (purpose_of p l)) q (length x), λ v. b_value_ending t p l q (x ++ value_normalised (run_in v)))
b_rules (content room scope) = (tt, λ v. (tt, λ m. b_content room scope (mark_of m)))

b_start : (m : Mark) → Blames (behind_start m)
unfolding behind_start
b_start mark.Declaration = b_declaration (rule prolog) tt
b_start _ = tt

b_document : Blames whole_document
unfolding whole_document on
b_document = (tt, λ u. (tt, λ v. b_start (mark_of v)))

halted : {A : Phrase} {x z : List ℕ} {code : ℕ} → Halts documents A x code z → Blames A → IsCode code
halted (halt_token {t = t} {x = x} {code = code} e) b = token_codes t x code b e
halted (halt_first h) b = halted h b.0
halted (halt_second d h) b = halted h b.1
halted (halt_key {t = t} {x = x} {code = code} e) b = token_codes t x code b.0 e
halted (halt_behind {v = v} d h) b = halted h (b.1 v)
halted (halt_left h) b = halted h b.0
halted (halt_right h) b = halted h b.1
halted (halt_item h) b = halted h b
halted (halt_later d h) b = halted h b
halted (halt_rule {p = p} h) b = halted h (b_rules p)
halted (halt_made h) b = halted h b

pub document_codes : (x z : List ℕ) (code : ℕ) → Halts documents whole_document x code z → IsCode code
document_codes x z code h = halted h b_document
