-- The guards of the grammar of type texts decide.
use Rattle.std.proofs.Common.{◌≡◌, ℕ, zero, suc, nat_le, Bool, true, false, List, [], ◌∷◌, inl, inr, refl, Option, Some, None, codes, arith}
use Rattle.gx_grammar.specs.Grammar.{token, empty, ◌&◌, keyed, choose, many, rule, made}
use Rattle.gx_grammar.specs.Opening.{Opens, open_token, open_first, open_made}
use Rattle.gx_grammar.specs.Levels.{takes_some, HasRanksBelow, AreTakings, IsShielded, IsLevelled}
use Rattle.gx_grammar.specs.Text.{IsReadable}
use Rattle.gx_grammar.specs.First.{IsIn, AllOf, HasHead, by_character, AreFronts, IsSorted, first_of, first_behind}
use Rattle.gx_grammar.specs.Apart.{is, shape_begins}
use Rattle.gx_grammar.proofs.PublicLaws.{character_chooses, computed_heads, sorted_readable, tokens_choose}
use Rattle.std.specs.List.{list_all}
use Rattle.gx_typetext.specs.declared.written.NameWord.{NameWord}
use Rattle.gx_typetext.specs.declared.written.NameWord.TheVariants as word
use Rattle.gx_base.specs.NameCharacters.{is_ncname_start}
use Rattle.gx_typetext.specs.Nodes.{name_word}
use Rattle.gx_typetext.specs.Tokens.{Token, symbol, keyword, local, opens, takes, token_shape}
use Rattle.gx_typetext.specs.Grammar.{Production, operand, behind, TypePhrase, lexeme, braced, prefixed, unprefixed, if_prefixed, name, tested_name, behind_comma, nothing_inside, tested, declared, document_test, document, word_content, room_inside, room_bare, tail, behind_word, item, nested, ending, separated, indicated, rules, type_phrase, type_texts, firsts, production_takes, fronts}
use Rattle.gx_typetext.proofs.TypeTokens.{lawful, tokens_taken, shaped, prefix_apart}

-- what the productions begin with

nested_taken : (b : Bool) (depth room : ℕ) → takes_some type_texts fronts.takings (nested b depth room) ≡ true
unfolding nested item braced prefixed
nested_taken true depth zero = refl
nested_taken true depth (suc room) = refl
nested_taken false depth zero = refl
nested_taken false depth (suc room) = refl

rules_taken : (p : Production) → production_takes p ≡ true → takes_some type_texts fronts.takings (rules p) ≡ true
rules_taken (operand depth room) e = nested_taken (nat_le (suc depth) 40) depth room
rules_taken (behind depth room) e = absurd (cc)

pub taken : AreTakings type_texts fronts.takings
taken = record { tokens = tokens_taken; productions = rules_taken }

abbrev Begins : (depth room : ℕ) → TypePhrase → Type 0
Begins depth room A = AllOf (IsIn (firsts (operand depth room))) (first_of type_texts fronts A)

nested_firsts : (b : Bool) (depth room : ℕ) → Begins depth room (nested b depth room)
unfolding nested item braced prefixed
nested_firsts true depth zero = (inl refl, (inr (inr (inr (inr (inl refl)))), (inr (inr (inr (inr (inr (inl refl))))), tt)))
nested_firsts true depth (suc room) = (inl refl, (inr (inl refl), (inr (inr (inl refl)), (inr (inr (inr (inl refl))), tt))))
nested_firsts false depth zero = (inr (inr (inr (inr (inl refl)))), (inr (inr (inr (inr (inr (inl refl))))), tt))
nested_firsts false depth (suc room) = (inr (inl refl), (inr (inr (inl refl)), (inr (inr (inr (inl refl))), tt)))

behind_firsts : (depth room : ℕ) → AllOf (IsIn (firsts (behind depth room))) (first_of type_texts fronts (indicated depth room))
unfolding indicated separated ending
behind_firsts zero room = (inl refl, (inr (inl refl), (inr (inr (inl refl)), (inr (inr (inr (inl refl))), (inr (inr (inr (inr (inl refl)))), tt)))))
behind_firsts (suc depth) room = (inl refl, (inr (inl refl), (inr (inr (inl refl)), (inr (inr (inr (inl refl))), (inr (inr (inr (inr (inl refl)))), (inr (inr (inr (inr (inr (inl refl))))), tt))))))

rules_firsts : (p : Production) → AllOf (IsIn (fronts.first p)) (first_of type_texts fronts (rules p))
rules_firsts (operand depth room) = nested_firsts (nat_le (suc depth) 40) depth room
rules_firsts (behind depth room) = behind_firsts depth room

right : AreFronts type_texts fronts
right = record { taken = taken; firsts = rules_firsts; follows = λ p y. ((λ h. h), (λ h. h)); follows_cut = λ p y. ((λ h. h), (λ h. h)) }

-- the guards

abbrev Sorts : TypePhrase → List Token → Type 0
Sorts A us = IsSorted type_texts fronts A us

abbrev heads : (k : ℕ) (b : Bool) (ts : List Token) → list_all (λ t. shape_begins k b (token_shape t)) ts ≡ true → AllOf (HasHead type_texts (is k) b) ts
heads k b ts e = computed_heads type_texts token_shape shaped k b ts e

-- A choice by the first character: the first part begins with it, what stands otherwise begins with other ones.
by_first : (k : ℕ) (A B : TypePhrase) (us : List Token) → takes_some type_texts fronts.takings A ≡ true
    → list_all (λ t. shape_begins k true (token_shape t)) (first_of type_texts fronts A) ≡ true
    → list_all (λ t. shape_begins k false (token_shape t)) (first_behind type_texts fronts B us) ≡ true
    → Sorts A us → Sorts B us → Sorts (choose (by_character (is k)) A B) us
by_first k A B us t p f a b = (
  character_chooses type_texts (is k) fronts right A B us
      (record { takes = t; passes = heads k true (first_of type_texts fronts A) p; fails = heads k false (first_behind type_texts fronts B us) f }),
  a,
  b,
)

-- A choice of what begins with `xs:` before what begins with a name.
by_prefix : (A B : TypePhrase) (us : List Token) → takes_some type_texts fronts.takings A ≡ true → first_of type_texts fronts A ≡ symbol (codes "xs:") ∷ []
    → ((x : List ℕ) → opens (symbol (codes "xs:")) x → Opens type_texts A x) → first_behind type_texts fronts B us ≡ local ∷ []
    → Sorts A us → Sorts B us → Sorts (if_prefixed A B) us
by_prefix A B us t p o f a b = (
  tokens_choose type_texts lawful fronts right (symbol (codes "xs:") ∷ []) A B us
      (record {
        takes = t;
        first = rw p (inl refl, tt);
        full = (refl, tt);
        opening = (o, tt);
        apart = rw f ((prefix_apart, tt), tt);
      }),
  a,
  b,
)

name_sorted : (us : List Token) → Sorts name us
unfolding name braced prefixed unprefixed is_ncname_start
name_sorted us =
    by_first 123 _ _ us refl refl refl (tt, (tt, (tt, (tt, tt)))) (by_prefix _ _ us refl refl (λ x o. open_made (open_first (open_token o))) refl (tt, (tt, tt)) (tt, tt))

tested_name_sorted : (us : List Token) → Sorts tested_name us
unfolding tested_name name braced prefixed unprefixed is_ncname_start
tested_name_sorted us = by_first 42 _ _ us refl refl refl (tt, tt) (name_sorted us)

behind_comma_sorted : (us : List Token) → list_all (λ t. shape_begins 44 false (token_shape t)) us ≡ true → Sorts behind_comma us
unfolding behind_comma name braced prefixed unprefixed
behind_comma_sorted us e = by_first 44 _ _ us refl refl e ((tt, tt), name_sorted us) tt

inside_sorted : (us : List Token) → Sorts nothing_inside us
unfolding nothing_inside
inside_sorted us = ((tt, tt), (tt, tt))

tested_sorted : (us : List Token) → Sorts tested us
unfolding tested tested_name name braced prefixed unprefixed is_ncname_start
tested_sorted us = ((tt, tt), by_first 41 _ _ us refl refl refl (tt, tt) ((tested_name_sorted _, behind_comma_sorted (symbol (codes ")") ∷ []) refl), (tt, tt)))

declared_sorted : (us : List Token) → Sorts declared us
unfolding declared
declared_sorted us = ((tt, tt), (name_sorted _, (tt, tt)))

document_test_sorted : (us : List Token) → Sorts document_test us
unfolding document_test
document_test_sorted us = by_first 101 _ _ us refl refl refl ((tt, tt), tested_sorted us) ((tt, tt), declared_sorted us)

document_sorted : (us : List Token) → Sorts document us
unfolding document document_test
document_sorted us = ((tt, tt), by_first 41 _ _ us refl refl refl (tt, tt) (document_test_sorted _, (tt, tt)))

content_sorted : (w : NameWord) (us : List Token) → Sorts (word_content w) us
unfolding word_content
content_sorted word.Never us = inside_sorted us
content_sorted word.Empty us = inside_sorted us
content_sorted word.Node us = inside_sorted us
content_sorted word.Item us = inside_sorted us
content_sorted word.Text us = inside_sorted us
content_sorted word.Document us = document_sorted us
content_sorted word.Element us = tested_sorted us
content_sorted word.Attribute us = tested_sorted us
content_sorted word.Schema us = declared_sorted us
content_sorted word.Other us = inside_sorted us

-- what stands in parentheses begins with `(`

content_taken : (w : NameWord) → takes_some type_texts fronts.takings (word_content w) ≡ true
unfolding word_content nothing_inside document tested declared
content_taken word.Never = refl
content_taken word.Empty = refl
content_taken word.Node = refl
content_taken word.Item = refl
content_taken word.Text = refl
content_taken word.Document = refl
content_taken word.Element = refl
content_taken word.Attribute = refl
content_taken word.Schema = refl
content_taken word.Other = refl

content_first : (w : NameWord) → first_of type_texts fronts (word_content w) ≡ symbol (codes "(") ∷ []
unfolding word_content nothing_inside document tested declared
content_first word.Never = refl
content_first word.Empty = refl
content_first word.Node = refl
content_first word.Item = refl
content_first word.Text = refl
content_first word.Document = refl
content_first word.Element = refl
content_first word.Attribute = refl
content_first word.Schema = refl
content_first word.Other = refl

enclosed_taken : (w : NameWord) (depth room : ℕ) → takes_some type_texts fronts.takings (word_content w & rule (behind depth room)) ≡ true
enclosed_taken w depth room = let e = content_taken w in rw e refl

enclosed_first : (w : NameWord) (depth room : ℕ) → list_all (λ t. shape_begins 40 true (token_shape t)) (first_of type_texts fronts (word_content w & rule (behind depth room))) ≡ true
enclosed_first w depth room = let e = content_taken w in let f = content_first w in rw e (rw f refl)

tail_sorted : (w : NameWord) (inside : Option ℕ) (depth room : ℕ) → Sorts (tail w inside depth room) []
unfolding tail
tail_sorted w None depth room = tt
tail_sorted w (Some r) depth room = by_first 40 _ _ [] (enclosed_taken w depth r) (enclosed_first w depth r) refl (content_sorted w _, tt) tt

-- operands and what is behind them

item_sorted : (depth room : ℕ) → Sorts (item depth room) []
unfolding item behind_word braced prefixed is_ncname_start
item_sorted depth zero = by_first 110 _ _ [] refl refl refl ((tt, tt), tt) ((tt, tt), (inside_sorted _, tt))
item_sorted depth (suc room) =
    by_first 123 _ _ [] refl refl refl ((tt, (tt, (tt, (tt, tt)))), tt)
    (by_prefix _ _ [] refl refl (λ x o. open_made (open_first (open_made (open_first (open_token o))))) refl ((tt, (tt, tt)), tt)
    (λ v. (tt, tail_sorted (name_word v) (room_inside (name_word v) room) depth (room_bare (name_word v) room))))

item_not_open : (depth room : ℕ) → list_all (λ t. shape_begins 40 false (token_shape t)) (first_behind type_texts fronts (item depth room) []) ≡ true
unfolding item braced prefixed is_ncname_start
item_not_open depth zero = refl
item_not_open depth (suc room) = refl

nested_sorted : (b : Bool) (depth room : ℕ) → Sorts (nested b depth room) []
unfolding nested
nested_sorted true depth room = by_first 40 _ _ [] refl refl (item_not_open depth room) ((tt, tt), tt) (item_sorted depth room)
nested_sorted false depth room = item_sorted depth room

separated_sorted : (depth room : ℕ) → Sorts (separated depth room) []
unfolding separated ending
separated_sorted zero room = by_first 44 _ _ [] refl refl refl ((tt, tt), tt) (by_first 124 _ _ [] refl refl refl ((tt, tt), tt) tt)
separated_sorted (suc depth) room = by_first 44 _ _ [] refl refl refl ((tt, tt), tt) (by_first 124 _ _ [] refl refl refl ((tt, tt), tt) ((tt, tt), tt))

indicated_sorted : (depth room : ℕ) → Sorts (indicated depth room) []
unfolding indicated separated ending
indicated_sorted zero room =
    by_first 63 _ _ [] refl refl refl ((tt, tt), separated_sorted zero room)
    (by_first 42 _ _ [] refl refl refl ((tt, tt), separated_sorted zero room)
    (by_first 43 _ _ [] refl refl refl ((tt, tt), separated_sorted zero room) (separated_sorted zero room)))
indicated_sorted (suc depth) room =
    by_first 63 _ _ [] refl refl refl ((tt, tt), separated_sorted (suc depth) room)
    (by_first 42 _ _ [] refl refl refl ((tt, tt), separated_sorted (suc depth) room)
    (by_first 43 _ _ [] refl refl refl ((tt, tt), separated_sorted (suc depth) room) (separated_sorted (suc depth) room)))

rules_sorted : (p : Production) → Sorts (rules p) []
rules_sorted (operand depth room) = nested_sorted (nat_le (suc depth) 40) depth room
rules_sorted (behind depth room) = indicated_sorted depth room

-- What the language owes is met.
pub types_readable : IsReadable type_texts type_phrase
types_readable = sorted_readable type_texts lawful fronts right type_phrase rules_sorted (tt, tt)

-- Each production stands behind at least one character.

abbrev pub rank : Production → ℕ
rank p = 0

pub all_low : (A : TypePhrase) → HasRanksBelow type_texts rank 1 A
all_low (token t) = tt
all_low empty = tt
all_low (A & B) = (all_low A, all_low B)
all_low (keyed t f) = λ v. all_low (f v)
all_low (choose g A B) = (all_low A, all_low B)
all_low (many g A) = all_low A
all_low (rule p) = omega arith
all_low (made f A) = all_low A

abbrev Shields : TypePhrase → Type 0
Shields A = IsShielded type_texts fronts.takings rank 0 A

behind_taken : (A B : TypePhrase) → takes_some type_texts fronts.takings A ≡ true → Shields A → Shields (A & B)
behind_taken A B t s = (s, inl (t, all_low B))

lexeme_first : (t : Token) (B : TypePhrase) → takes t ≡ true → Shields (lexeme t & B)
lexeme_first t B e = behind_taken (lexeme t) B (rw e refl) (tt, inr tt)

item_shielded : (depth room : ℕ) → Shields (item depth room)
unfolding item braced prefixed nothing_inside
item_shielded depth zero = (lexeme_first (keyword (codes "none")) (rule (behind depth zero)) refl, lexeme_first (keyword (codes "empty-sequence")) (nothing_inside & rule (behind depth zero)) refl)
item_shielded depth (suc room) = (
  behind_taken braced (rule (behind depth room)) refl (tt, inr (tt, inr (tt, inr (tt, inr tt)))),
  (behind_taken prefixed (rule (behind depth room)) refl (tt, inr (tt, inr tt)), inl (refl, λ v. all_low (behind_word (name_word v) depth room))),
)

nested_shielded : (b : Bool) (depth room : ℕ) → Shields (nested b depth room)
unfolding nested
nested_shielded true depth room = (lexeme_first (symbol (codes "(")) (rule (operand (suc depth) room)) refl, item_shielded depth room)
nested_shielded false depth room = item_shielded depth room

ending_shielded : (depth room : ℕ) → Shields (ending depth room)
unfolding ending
ending_shielded zero room = tt
ending_shielded (suc depth) room = lexeme_first (symbol (codes ")")) (rule (behind depth room)) refl

separated_shielded : (depth room : ℕ) → Shields (separated depth room)
unfolding separated
separated_shielded depth room = (
  lexeme_first (symbol (codes ",")) (rule (operand depth room)) refl,
  (lexeme_first (symbol (codes "|")) (rule (operand depth room)) refl, ending_shielded depth room),
)

indicated_shielded : (depth room : ℕ) → Shields (indicated depth room)
unfolding indicated
indicated_shielded depth room = (
  lexeme_first (symbol (codes "?")) (separated depth room) refl,
  (lexeme_first (symbol (codes "*")) (separated depth room) refl, (lexeme_first (symbol (codes "+")) (separated depth room) refl, separated_shielded depth room)),
)

pub rules_shielded : (p : Production) → Shields (rules p)
rules_shielded (operand depth room) = nested_shielded (nat_le (suc depth) 40) depth room
rules_shielded (behind depth room) = indicated_shielded depth room

abbrev pub types_levelled : IsLevelled type_texts fronts.takings
types_levelled = record { takings = taken; rank = rank; shielded = rules_shielded }
