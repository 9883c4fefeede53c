-- The grammar of documents has no guards, so that it is read exactly, and each production takes a character before the next.
use Rattle.std.proofs.Common.{◌≡◌, ℕ, Bool, true, false, if◌then◌else◌, codes, List, [], ◌∷◌, ◌++◌, bytes_eq, inl, inr, refl, arith}
use Rattle.std.specs.Prelude.{Option, None}
use Rattle.gx_grammar.specs.Grammar.{token, empty, ◌&◌, keyed, choose, many, rule, made}
use Rattle.gx_grammar.specs.Decision.{Texts, Decides, Until, BeforeCut}
use Rattle.gx_grammar.specs.Levels.{Takings, takes_some, HasRanksBelow, IsShielded, IsLevelled}
use Rattle.gx_grammar.specs.Text.{IsReadable}
use Rattle.gx_tree.specs.Binding.{xmlns}
use Rattle.gx_xml.specs.declared.runs.Quote.{Quote}
use Rattle.gx_xml.specs.declared.marks.Mark.{Mark}
use Rattle.gx_xml.specs.declared.marks.Mark.TheVariants as mark
use Rattle.gx_xml.specs.Nodes.{Made, mark_of, run_in, has_some}
use Rattle.gx_xml.specs.Marks.{is_misc}
use Rattle.gx_xml.specs.declared.runs.Run.TheVariants as run_of
use Rattle.gx_xml.specs.Tokens.{symbol, takes, run, declared_prefix}
use Rattle.gx_xml.specs.Runs.{value_normalised}
use Rattle.gx_xml.specs.Tags.{TagSoFar}
use Rattle.gx_xml.specs.Grammar.{Production, prolog, epilog, element, inside, value, content, Phrase, on, past_equals, past_comment, past_data, past_instruction, past_standalone, behind_encoding, past_encoding, behind_version, past_declaration, character_read, character_reference, behind_name, qualified, past_element_name, closing_tag, behind_tag, tag_ending, attribute, attribute_or_end, behind_tag_space, behind_value_run, value_ending, behind_content, past, past_space, spaced, past_misc, behind_prolog, behind_epilog, root_and_behind, behind_start, rules, whole_document, documents, past_name, begun_tag}
use Rattle.gx_xml.proofs.DocumentTokens.{lawful, tokens_taken}

-- no reader has to look ahead
abbrev Guardless : Phrase → Type 0
Guardless (token t) = Unit {0}
Guardless empty = Unit {0}
Guardless (A & B) = Guardless A × Guardless B
Guardless (keyed t f) = (v : Made) → Guardless (f v)
Guardless (choose g A B) = ⊥
Guardless (many g A) = ⊥
Guardless (rule p) = Unit {0}
Guardless (made f A) = Guardless A

decided : (A : Phrase) → Guardless A → (K C : Texts) → Decides documents A K C
decided (token t) g K C = tt
decided empty g K C = tt
decided (A & B) g K C = (decided A g.0 (Until documents B K) (BeforeCut documents B C), decided B g.1 K C)
decided (keyed t f) g K C = λ v. decided (f v) (g v) K C
decided (choose h A B) g K C = absurd g
decided (many h A) g K C = absurd g
decided (rule p) g K C = (λ y k. tt, λ y c. tt)
decided (made f A) g K C = decided A g K C

g_equals : (A : Phrase) → Guardless A → Guardless (past_equals A)
unfolding past_equals on
g_equals A g = λ u v w. g

g_comment : (A : Phrase) → Guardless A → Guardless (past_comment A)
unfolding past_comment on
g_comment A g = λ u v. g

g_data : (b : Bool) (A : Phrase) → Guardless A → Guardless (past_data b A)
unfolding past_data on
g_data false A g = λ u. g
g_data true A g = λ u v. g

g_instruction : (A : Phrase) → Guardless A → Guardless (past_instruction A)
unfolding past_instruction on
g_instruction A g = λ u v. g_data (has_some (run_in v)) A g

g_standalone : (A : Phrase) → Guardless A → Guardless (past_standalone A)
unfolding past_standalone on
g_standalone A g = g_equals _ (λ q a b c d. g)

g_behind_encoding : (m : Mark) (A : Phrase) → Guardless A → Guardless (behind_encoding m A)
unfolding behind_encoding
g_behind_encoding mark.Standalone A g = g_standalone A g
g_behind_encoding _ A g = g

g_encoding : (A : Phrase) → Guardless A → Guardless (past_encoding A)
unfolding past_encoding on
g_encoding A g = g_equals _ (λ q a b c v. g_behind_encoding (mark_of v) A g)

g_behind_version : (m : Mark) (A : Phrase) → Guardless A → Guardless (behind_version m A)
unfolding behind_version
g_behind_version mark.Encoding A g = g_encoding A g
g_behind_version mark.Standalone A g = g_standalone A g
g_behind_version _ A g = g

g_declaration : (A : Phrase) → Guardless A → Guardless (past_declaration A)
unfolding past_declaration on
g_declaration A g = λ a b. g_equals _ (λ q c d e s v. g_behind_version (mark_of v) A g)

g_character : (expected : Option ℕ) (m : Mark) (f : ℕ → Phrase) → ((c : ℕ) → Guardless (f c)) → Guardless (character_read expected m f)
unfolding character_read on
g_character expected (mark.Numeral b) f g = λ u v. g _
g_character expected _ f g = g _

g_reference : (expected : Option ℕ) (f : ℕ → Phrase) → ((c : ℕ) → Guardless (f c)) → Guardless (character_reference expected f)
unfolding character_reference on
g_reference expected f g = λ v. g_character expected (mark_of v) f g

g_behind_name : (b : Bool) (n : List ℕ) (f : List ℕ → List ℕ → Phrase) → ((p l : List ℕ) → Guardless (f p l)) → Guardless (behind_name b n f)
unfolding behind_name on
g_behind_name false n f g = g [] n
g_behind_name true n f g = λ v. g n (run_in v)

g_qualified : (n : List ℕ) (f : List ℕ → List ℕ → Phrase) → ((p l : List ℕ) → Guardless (f p l)) → Guardless (qualified n f)
unfolding qualified on
g_qualified n f g = λ v. g_behind_name (has_some (run_in v)) n f g

by_test : (P : Phrase → Type 0) (b : Bool) (A B : Phrase) → P A → P B → P (if b then A else B)
by_test P true A B p q = p
by_test P false A B p q = q

g_element_name : (n : List ℕ) (f : List ℕ → List ℕ → Phrase) → ((p l : List ℕ) → Guardless (f p l)) → Guardless (past_element_name n f)
unfolding past_element_name
g_element_name n f g = by_test Guardless (bytes_eq n xmlns) (f [] n) (qualified n f) (g [] n) (g_qualified n f g)

g_name : (p l : List ℕ) (A : Phrase) → Guardless A → Guardless (past_name p l A)
unfolding on
g_name [] l A g = λ u. g
g_name (c ∷ p) l A g = λ u v w. g

g_end_tag : (t : TagSoFar) → Guardless (closing_tag t)
unfolding closing_tag on
g_end_tag t = g_name t.prefix t.local _ (λ u. tt)

g_behind_tag : (t : TagSoFar) (m : Mark) → Guardless (behind_tag t m)
unfolding behind_tag
g_behind_tag t mark.Open = (tt, g_end_tag t)
g_behind_tag t _ = tt

g_ending : (t : TagSoFar) → Guardless (tag_ending t)
unfolding tag_ending on
g_ending t = λ v. g_behind_tag t (mark_of v)

g_attribute : (t : TagSoFar) (n : List ℕ) → Guardless (attribute t n)
unfolding attribute on
g_attribute t n = g_qualified n _ (λ p l. g_equals _ (λ q. tt))

g_attribute_or_end : (t : TagSoFar) (n : List ℕ) → Guardless (attribute_or_end t n)
unfolding attribute_or_end
g_attribute_or_end t [] = g_ending t
g_attribute_or_end t (c ∷ n) = g_attribute t (c ∷ n)

g_behind_space : (t : TagSoFar) (b : Bool) → Guardless (behind_tag_space t b)
unfolding behind_tag_space on
g_behind_space t false = g_ending t
g_behind_space t true = λ v. g_attribute_or_end t (run_in v)

g_behind_run : (t : TagSoFar) (p l : List ℕ) (q : Quote) (x : List ℕ) (m : Mark) → Guardless (behind_value_run t p l q x m)
unfolding behind_value_run
g_behind_run t p l q x mark.Reference = g_reference _ _ (λ c. tt)
g_behind_run t p l q x _ = tt

g_value_ending : (t : TagSoFar) (p l : List ℕ) (q : Quote) (x : List ℕ) → Guardless (value_ending t p l q x)
unfolding value_ending on
g_value_ending t p l q x = λ v. g_behind_run t p l q x (mark_of v)

g_content : (room : ℕ) (scope : _) (m : Mark) → Guardless (behind_content room scope m)
unfolding behind_content on
g_content room scope mark.Comment = g_comment _ tt
g_content room scope mark.Instruction = g_instruction _ tt
g_content room scope mark.CData = λ u v. tt
g_content room scope mark.Reference = g_reference None _ (λ c. tt)
g_content room scope mark.StartTag = (tt, tt)
g_content room scope _ = tt

g_misc : (m : Mark) (A : Phrase) → Guardless A → Guardless (past_misc m A)
unfolding past_misc
g_misc mark.Comment A g = g_comment A g
g_misc mark.Instruction A g = g_instruction A g
g_misc _ A g = g

g_root : Guardless root_and_behind
unfolding root_and_behind
g_root = (tt, tt)

guardless : (p : Production) → Guardless (rules p)
unfolding rules on
guardless prolog = λ s v. by_test Guardless (is_misc (mark_of v)) (past_misc (mark_of v) (rule prolog)) root_and_behind (g_misc (mark_of v) (rule prolog) tt) g_root
guardless epilog = λ s v. by_test Guardless (is_misc (mark_of v)) (past_misc (mark_of v) (rule epilog)) empty (g_misc (mark_of v) (rule epilog) tt) tt
guardless (element room scope) = λ v. g_element_name (run_in v) _ (λ p l. tt)
guardless (inside t) = λ v. g_behind_space t (has_some (run_in v))
guardless (value t p l q x) = λ v. g_value_ending t p l q _
guardless (content room scope) = λ v m. g_content room scope (mark_of m)

g_start : (m : Mark) → Guardless (behind_start m)
unfolding behind_start
g_start mark.Declaration = g_declaration (rule prolog) tt
g_start _ = tt

g_document : Guardless whole_document
unfolding whole_document on
g_document = λ u v. g_start (mark_of v)

pub documents_readable : IsReadable documents whole_document
documents_readable = record {
  tokens = lawful;
  productions = λ p. decided (rules p) (guardless p) (λ y. Unit {0}) (λ y. Unit {0});
  top = decided whole_document g_document _ _;
}

abbrev pub takes_element : Production → Bool
takes_element (element room scope) = true
takes_element _ = false

abbrev pub takings : Takings documents
takings = record { token_takes = takes; production_takes = takes_element }

abbrev pub all_low : (A : Phrase) → HasRanksBelow documents (λ p. 0) 1 A
all_low (token t) = tt
all_low empty = tt
all_low (A & B) = (all_low A, all_low B)
all_low (keyed t f) = λ v. all_low (f v)
all_low (choose g A B) = (all_low A, all_low B)
all_low (many g A) = all_low A
all_low (rule p) = omega arith
all_low (made f A) = all_low A

abbrev Shields : Phrase → Type 0
Shields A = IsShielded documents takings (λ p. 0) 0 A

s_equals : (A : Phrase) → Shields (past_equals A)
unfolding past_equals on
s_equals A = inr (λ u. inl (refl, λ v. all_low (past_space A)))

name_takes : (b : Bool) (f : Made → Phrase) → Shields (on (if b then declared_prefix else run run_of.Name 0) f)
unfolding on
name_takes true f = inl (refl, λ v. all_low (f v))
name_takes false f = inl (refl, λ v. all_low (f v))

s_behind_name : (b : Bool) (n : List ℕ) (f : List ℕ → List ℕ → Phrase) → ((p l : List ℕ) → Shields (f p l)) → Shields (behind_name b n f)
unfolding behind_name
s_behind_name false n f s = s [] n
s_behind_name true n f s = name_takes _ _

s_ending : (t : TagSoFar) → Shields (tag_ending t)
unfolding tag_ending on
s_ending t = inl (refl, λ v. all_low (behind_tag t (mark_of v)))

s_attribute : (t : TagSoFar) (n : List ℕ) → Shields (attribute t n)
unfolding attribute qualified on
s_attribute t n = inr (λ v. s_behind_name (has_some (run_in v)) n _ (λ p l. s_equals _))

s_attribute_or_end : (t : TagSoFar) (n : List ℕ) → Shields (attribute_or_end t n)
unfolding attribute_or_end
s_attribute_or_end t [] = s_ending t
s_attribute_or_end t (c ∷ n) = s_attribute t (c ∷ n)

s_behind_space : (t : TagSoFar) (b : Bool) → Shields (behind_tag_space t b)
unfolding behind_tag_space on
s_behind_space t false = s_ending t
s_behind_space t true = inr (λ v. s_attribute_or_end t (run_in v))

s_epilog : (m : Mark) → Shields (behind_epilog m)
unfolding past_misc past_comment past_instruction on
s_epilog mark.Comment = inl (refl, λ v. all_low (past (symbol (codes ">")) (rule epilog)))
s_epilog mark.Instruction = inl (refl, λ v. all_low (spaced (λ b. past_data b (rule epilog))))
s_epilog _ = tt

pub shielded : (p : Production) → Shields (rules p)
unfolding rules value_ending on
shielded prolog = inr (λ s. inl (refl, λ v. all_low (behind_prolog (mark_of v))))
shielded epilog = inr (λ s. inr (λ v. s_epilog (mark_of v)))
shielded (element room scope) = inl (refl, λ v. all_low (past_element_name (run_in v) (λ prefix local. rule (inside (begun_tag room scope prefix local)))))
shielded (inside t) = inr (λ v. s_behind_space t (has_some (run_in v)))
shielded (value t p l q x) = inr (λ v. inl (refl, λ w. all_low (behind_value_run t p l q (x ++ value_normalised (run_in v)) (mark_of w))))
shielded (content room scope) = inr (λ v. inl (refl, λ w. all_low (behind_content room scope (mark_of w))))

pub taken_productions : (p : Production) → takings.production_takes p ≡ true → takes_some documents takings (rules p) ≡ true
unfolding rules on
taken_productions prolog e = absurd (cc)
taken_productions epilog e = absurd (cc)
taken_productions (element room scope) e = refl
taken_productions (inside t) e = absurd (cc)
taken_productions (value t p l q x) e = absurd (cc)
taken_productions (content room scope) e = absurd (cc)

abbrev pub documents_levelled : IsLevelled documents takings
documents_levelled = record {
  takings = record { tokens = tokens_taken; productions = taken_productions };
  rank = λ p. 0;
  shielded = shielded;
}
