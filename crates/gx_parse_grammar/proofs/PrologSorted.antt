-- The guards of queries with their prologs decide, so they are read exactly.
use Rattle.std.proofs.Common.{◌≡◌, ℕ, ◌==◌, true, false, List, [], ◌∷◌, ◌++◌, ◌⊎◌, inl, inr, refl, sym, ap, ◌∙◌, codes, eqb-true}
use Rattle.gx_base.specs.declared.place.Place.{Place}
use Rattle.gx_grammar.specs.Grammar.{token, empty, ◌&◌}
use Rattle.gx_grammar.specs.Opening.{Opens, open_token, open_first, open_left, open_right, open_made, open_key}
use Rattle.gx_grammar.specs.Decision.{Until, BeforeCut, Decides}
use Rattle.gx_grammar.specs.Text.{AtEnd, Nowhere, AllDecide, IsReadable}
use Rattle.gx_grammar.specs.First.{AllOf, head_passes, HasHead, AreApart, Stands, EndsOrStarts, BeginsWith, IsSorted}
use Rattle.gx_grammar.specs.Apart.{all_apart, is, word_begins}
use Rattle.gx_grammar.specs.Tokens.{no_fault, seen_word}
use Rattle.gx_grammar.specs.Gaps.{opens_end}
use Rattle.gx_grammar.specs.Avoiding.{Avoids}
use Rattle.gx_grammar.proofs.PublicLaws.{apart_by_heads, avoided_choose, avoided_repeat, avoids_behind, avoids_empty, avoids_made, character_chooses, closed_decides, computed_apart, computed_heads, decides_less, joined_never, joined_opening, shortens, sorted_decides, tokens_choose, tokens_repeat}
use Rattle.gx_parse_grammar.specs.declared.word.Word.{Word}
use Rattle.gx_parse_grammar.specs.declared.word.Word.TheVariants as word
use Rattle.gx_parse_grammar.specs.declared.word.WordSet.{WordSet}
use Rattle.gx_parse_grammar.specs.declared.word.WordSet.TheVariants as set
use Rattle.gx_parse_grammar.specs.declared.word.Setter.{Setter}
use Rattle.gx_parse_grammar.specs.declared.word.Setter.TheVariants as setter_is
use Rattle.gx_parse_grammar.specs.declared.word.Definer.{Definer}
use Rattle.gx_parse_grammar.specs.declared.word.Definer.TheVariants as definer_is
use Rattle.gx_parse_grammar.specs.declared.runs.Quote.TheVariants as quote
use Rattle.gx_base.specs.NameCharacters.{is_ncname_start}
use Rattle.gx_parse_grammar.specs.Characters.{is_word_character}
use Rattle.gx_parse_grammar.specs.Words.{letters_of}
use Rattle.gx_parse_grammar.specs.Nodes.{Node, Made}
use Rattle.gx_parse_grammar.specs.Tokens.{Token, one_of, gap, leading, begins_word, IsTheWord, OpensTheWord, scan_the_word, IsGapHere, scan_gap_here, IsGapWith, OpensGapWith, second_of_two, derives, opens, seen, faults, shape_of_token}
use Rattle.gx_parse_grammar.specs.Grammar.{Phrase, word_of, lexeme, rules, behind, expression, query_language}
use Rattle.gx_parse_grammar.specs.Strings.{quoted, string_of}
use Rattle.gx_parse_grammar.specs.Bound.{bound}
use Rattle.gx_parse_grammar.specs.Fronts.{fronts}
use Rattle.gx_parse_grammar.specs.Prolog.{setter_found, definer_found, text_of, text_literal, prefix, namespace_setter, default_namespace, empty_order_setter, default_setter, boundary_space_setter, construction_setter, ordering_setter, copy_setter, setter, named_schema, default_schema, schema_prefix, more_locations, schema_import, setting, initialiser, variable_definer, parameter, more_parameters, parameters, function_definer, definer, definition, encoding, version, maybe_version, settings, definitions, query}
use Rattle.gx_parse_grammar.specs.Tokens.{version_words, setter_words, import_words, definer_words}
use Rattle.gx_parse_grammar.proofs.Tokens.{the_word_lawful, gap_lawful}
use Rattle.gx_parse_grammar.proofs.Shapes.{lawful, shaped}
use Rattle.gx_parse_grammar.proofs.Sorted.{right, production_sorted, expression_sorted}
use Rattle.gx_parse_grammar.proofs.StringsSorted.{string_sorted}
use Rattle.gx_parse_grammar.proofs.TypesSorted.{written_sorted}
use Rattle.gx_parse_grammar.proofs.BoundSorted.{bound_sorted, bound_type_sorted}
use Rattle.gx_parse_grammar.proofs.Ahead.{version_avoided, settings_avoided, definers_avoided}

module _ (at : ℕ → Place) where
  abbrev Sorts : Phrase → List Token → Type 0
  Sorts A us = IsSorted (query_language at) (fronts at) A us

  abbrev Apart : List Token → List Token → Type 0
  Apart ts us = AllOf (λ u. AllOf (λ t. AreApart (query_language at) t u) ts) us

  abbrev apart : (ts us : List Token) → all_apart shape_of_token ts us ≡ true → Apart ts us
  apart ts us e = computed_apart (query_language at) shape_of_token (shaped at) ts us e

  -- words with others behind them

  -- that begin with different letters
  letters_apart : (v w : Word) (vs ws : WordSet) (c d : ℕ) (cs ds : List ℕ) → letters_of v ≡ c ∷ cs → letters_of w ≡ d ∷ ds → (c == d) ≡ false → AreApart (query_language at) (leading v vs) (leading w ws)
  letters_apart v w vs ws c d cs ds e f n = apart_by_heads (query_language at) (begins_word v) true false (leading v vs) (leading w ws) (λ k. absurd (cc k)) (record { stands = (shaped at (leading v vs)).0; opened = (shaped at (leading v vs)).1 }) fails
    where
      other : (x : List ℕ) → head_passes (begins_word w) x ≡ true → head_passes (begins_word v) x ≡ false
      other [] k = absurd (cc k)
      other (b ∷ x) k =
          let h : (d == b) ≡ true = ap (λ l. word_begins (is b) true l) (sym f) ∙ k in
          ap (λ l. word_begins (is b) true l) e ∙ ap (λ a. c == a) (sym (eqb-true d b h)) ∙ n

      fails : HasHead (query_language at) (begins_word v) false (leading w ws)
      fails = record {
        stands = λ x s. (let h = (shaped at (leading w ws)).0 x s in (h.0, other x h.1));
        opened = λ x o k. other x ((shaped at (leading w ws)).1 x o k);
      }

  -- the same word with others behind it that are apart
  module _ (w : Word) (ws us : WordSet) (second : AreApart (query_language at) (one_of ws) (one_of us)) (none : opens (one_of ws) []) where
    abbrev Behind : List ℕ → Type 0
    Behind m = (v : Made) × (z : List ℕ) × derives (one_of us) v m z

    abbrev BehindGap : List ℕ → Type 0
    BehindGap y = (v : Made) × (z : List ℕ) × IsGapWith us v y z

    second_never : (m z : List ℕ) (v : Made) → Behind m → derives (one_of ws) v m z → ⊥
    second_never m z v b d = second.never m (inl (v, z, d)) (inl b)

    gap_never : (y z : List ℕ) (v : Made) → BehindGap y → IsGapWith ws v y z → ⊥
    gap_never y z v b j = let k = b.2 in joined_never IsGapHere (derives (one_of ws)) (opens gap) (opens (one_of ws)) scan_gap_here (seen gap) no_fault gap_lawful second_of_two Behind second_never y k.between z k.front v k.begins (k.back, b.1, k.ends) j

    never : (x : List ℕ) → Stands {Node = Node} derives faults (leading w ws) x → Stands {Node = Node} derives faults (leading w us) x → ⊥
    never x (inl d) (inl e) =
        let k = e.2 in
        joined_never (IsTheWord w) (IsGapWith ws) (OpensTheWord w) (OpensGapWith ws) (scan_the_word w) (seen_word (letters_of w)) no_fault (the_word_lawful w) second_of_two BehindGap gap_never x k.between d.1 k.front d.0 k.begins (k.back, e.1, k.ends) d.2
    never x (inr f) s = absurd (let g = f.1 in cc g)
    never x (inl d) (inr f) = absurd (let g = f.1 in cc g)

    second_opening : (m z r : List ℕ) (v : Made) → opens (one_of us) m → derives (one_of ws) v (m ++ z) r → (m ≡ []) ⊎ opens (one_of ws) m
    second_opening m z r v o d = second.opening m z o (inl (v, r, d))

    gap_opening : (y z r : List ℕ) (v : Made) → OpensGapWith us y → IsGapWith ws v (y ++ z) r → (y ≡ []) ⊎ OpensGapWith ws y
    gap_opening y z r v (inl o) j = inr (inl o)
    gap_opening y z r v (inr o) j = inr (joined_opening IsGapHere (derives (one_of ws)) (opens gap) (opens (one_of ws)) scan_gap_here (seen gap) no_fault gap_lawful second_of_two (opens (one_of us)) none second_opening y o.1 z r o.0 v o.2 o.3 j)

    opening : (x z : List ℕ) → opens (leading w us) x → Stands {Node = Node} derives faults (leading w ws) (x ++ z) → (x ≡ []) ⊎ opens (leading w ws) x
    opening x z o (inr f) = absurd (let g = f.1 in cc g)
    opening x z (inl o) (inl d) = inr (inl o)
    opening x z (inr o) (inl d) =
        inr (joined_opening (IsTheWord w) (IsGapWith ws) (OpensTheWord w) (OpensGapWith ws) (scan_the_word w) (seen_word (letters_of w)) no_fault (the_word_lawful w) second_of_two (OpensGapWith us) (inl gap_end) gap_opening x o.1 z d.1 o.0 d.0 o.2 o.3 d.2)
      where
        gap_end : opens gap []
        gap_end = opens_end

    words_apart_behind : AreApart (query_language at) (leading w ws) (leading w us)
    words_apart_behind = record { never = never; opening = opening }

  setters_import : AreApart (query_language at) setter_words import_words
  setters_import = letters_apart word.Declare word.Import set.Setters (set.Only word.Schema) 100 105 _ _ refl refl refl

  setters_definers : AreApart (query_language at) setter_words definer_words
  unfolding is_word_character is_ncname_start
  setters_definers = words_apart_behind word.Declare set.Setters set.Definers (apart (one_of set.Setters ∷ []) (one_of set.Definers ∷ []) refl).0.0 (inl (codes "namespace", refl))

  import_definers : AreApart (query_language at) import_words definer_words
  import_definers = letters_apart word.Import word.Declare (set.Only word.Schema) set.Definers 105 100 _ _ refl refl refl

  version_setters : AreApart (query_language at) version_words setter_words
  version_setters = letters_apart word.XQuery word.Declare (set.Only word.Version) set.Setters 120 100 _ _ refl refl refl

  version_import : AreApart (query_language at) version_words import_words
  version_import = letters_apart word.XQuery word.Import (set.Only word.Version) (set.Only word.Schema) 120 105 _ _ refl refl refl

  version_definers : AreApart (query_language at) version_words definer_words
  version_definers = letters_apart word.XQuery word.Declare (set.Only word.Version) set.Definers 120 100 _ _ refl refl refl

  -- settings

  text_sorted : (us : List Token) → Sorts text_literal us
  unfolding text_literal text_of string_of quoted
  text_sorted us = (
    character_chooses (query_language at) (is 34) (fronts at) (right at) _ _ us
        (record { takes = refl; passes = computed_heads (query_language at) shape_of_token (shaped at) 34 true (word_of word.Quote ∷ []) refl; fails = computed_heads (query_language at) shape_of_token (shaped at) 34 false (word_of word.Apostrophe ∷ []) refl }),
    string_sorted at (right at) quote.Double us,
    string_sorted at (right at) quote.Single us,
  )

  prefix_sorted : (us : List Token) → Sorts (prefix at) us
  unfolding prefix
  prefix_sorted us = ((tt, tt), (tt, tt))

  default_sorted : (us : List Token) → Sorts default_setter us
  unfolding default_setter default_namespace empty_order_setter
  default_sorted us = (
    tokens_choose (query_language at) (lawful at) (fronts at) (right at) (word_of word.Element ∷ []) _ _ us
        (record { takes = refl; first = (inl refl, tt); full = (refl, tt); opening = ((λ x o. open_made (open_first (open_first (open_token o)))), tt); apart = apart (word_of word.Element ∷ []) (word_of word.Order ∷ []) refl }),
    ((tt, tt), ((tt, tt), text_sorted us)),
    ((tt, tt), ((tt, tt), (tt, tt))),
  )

  setter_sorted : (s : Setter) (us : List Token) → Sorts (setter at s) us
  unfolding setter namespace_setter boundary_space_setter construction_setter ordering_setter copy_setter
  setter_sorted setter_is.Namespace us = (prefix_sorted _, text_sorted us)
  setter_sorted setter_is.Default us = default_sorted us
  setter_sorted setter_is.BoundarySpace us = (tt, tt)
  setter_sorted setter_is.Construction us = (tt, tt)
  setter_sorted setter_is.Ordering us = (tt, tt)
  setter_sorted setter_is.CopyNamespaces us = ((tt, tt), ((tt, tt), (tt, tt)))

  abbrev quotes : List Token
  quotes = word_of word.Quote ∷ word_of word.Apostrophe ∷ []

  schema_prefix_sorted : Sorts (schema_prefix at) quotes
  unfolding schema_prefix named_schema default_schema
  schema_prefix_sorted = (
    tokens_choose (query_language at) (lawful at) (fronts at) (right at) (word_of word.Namespace ∷ []) _ _ quotes
        (record { takes = refl; first = (inl refl, tt); full = (refl, tt); opening = ((λ x o. open_made (open_first (open_first (open_token o)))), tt); apart = apart (word_of word.Namespace ∷ []) (word_of word.Default ∷ quotes) refl }),
    ((tt, tt), prefix_sorted quotes),
    (
      tokens_choose (query_language at) (lawful at) (fronts at) (right at) (word_of word.Default ∷ []) _ _ quotes
          (record { takes = refl; first = (inl refl, tt); full = (refl, tt); opening = ((λ x o. open_made (open_first (open_first (open_token o)))), tt); apart = apart (word_of word.Default ∷ []) quotes refl }),
      ((tt, tt), ((tt, tt), (tt, tt))),
      tt,
    ),
  )

  more_locations_sorted : (us : List Token) → all_apart shape_of_token (word_of word.Comma ∷ []) us ≡ true → Sorts more_locations us
  unfolding more_locations
  more_locations_sorted us e = (
    tokens_repeat (query_language at) (lawful at) (fronts at) (right at) (word_of word.Comma ∷ []) _ us
        (record { takes = refl; first = (inl refl, tt); full = (refl, tt); opening = ((λ x o. open_first (open_first (open_token o))), tt); apart = apart (word_of word.Comma ∷ []) us e }),
    refl,
    ((tt, tt), text_sorted _),
  )

  import_sorted : (us : List Token) → all_apart shape_of_token (word_of word.Comma ∷ []) us ≡ true → Sorts (schema_import at) us
  unfolding schema_import text_literal text_of quoted
  import_sorted us e = (schema_prefix_sorted, (text_sorted _, ((tt, tt), (text_sorted _, more_locations_sorted us e))))

  pub setting_sorted : (us : List Token) → all_apart shape_of_token (word_of word.Comma ∷ []) us ≡ true → Sorts (setting at) us
  unfolding setting
  setting_sorted us e = (
    tokens_choose (query_language at) (lawful at) (fronts at) (right at) (setter_words ∷ []) _ _ us
        (record { takes = refl; first = (inl refl, tt); full = (refl, tt); opening = ((λ x o. open_made (open_key o)), tt); apart = ((setters_import, tt), tt) }),
    (λ v. (tt, setter_sorted (setter_found v) us)),
    (tt, (tt, import_sorted us e)),
  )

  -- definitions

  initialiser_sorted : Sorts initialiser (word_of word.Semicolon ∷ [])
  unfolding initialiser
  initialiser_sorted = (
    tokens_choose (query_language at) (lawful at) (fronts at) (right at) (word_of word.Assign ∷ []) _ _ (word_of word.Semicolon ∷ [])
        (record { takes = refl; first = (inl refl, tt); full = (refl, tt); opening = ((λ x o. open_first (open_first (open_token o))), tt); apart = apart (word_of word.Assign ∷ []) (word_of word.External ∷ []) refl }),
    ((tt, tt), (inr (inr (inr (inr (inr (inr (inl refl)))))), tt)),
    (tt, tt),
  )

  variable_sorted : Sorts (variable_definer at) (word_of word.Semicolon ∷ [])
  unfolding variable_definer initialiser
  variable_sorted = (bound_sorted at (right at) _, (bound_type_sorted at (right at) (word_of word.Assign ∷ word_of word.External ∷ []) refl refl, initialiser_sorted))

  parameter_sorted : Sorts (parameter at) (word_of word.Comma ∷ word_of word.Close ∷ [])
  unfolding parameter
  parameter_sorted = (bound_sorted at (right at) _, bound_type_sorted at (right at) (word_of word.Comma ∷ word_of word.Close ∷ []) refl refl)

  more_parameters_sorted : Sorts (more_parameters at) (word_of word.Close ∷ [])
  unfolding more_parameters
  more_parameters_sorted = (
    tokens_repeat (query_language at) (lawful at) (fronts at) (right at) (word_of word.Comma ∷ []) _ (word_of word.Close ∷ [])
        (record { takes = refl; first = (inl refl, tt); full = (refl, tt); opening = ((λ x o. open_first (open_first (open_token o))), tt); apart = apart (word_of word.Comma ∷ []) (word_of word.Close ∷ []) refl }),
    refl,
    ((tt, tt), parameter_sorted),
  )

  parameters_sorted : (us : List Token) → Sorts (parameters at) us
  unfolding parameters parameter more_parameters bound
  parameters_sorted us = (
    character_chooses (query_language at) (is 41) (fronts at) (right at) _ _ us
        (record { takes = refl; passes = computed_heads (query_language at) shape_of_token (shaped at) 41 true (word_of word.Close ∷ []) refl; fails = computed_heads (query_language at) shape_of_token (shaped at) 41 false (word_of word.Dollar ∷ []) refl }),
    (tt, (tt, tt)),
    ((parameter_sorted, more_parameters_sorted), (tt, tt)),
  )

  function_sorted : Sorts (function_definer at) (word_of word.Semicolon ∷ [])
  unfolding function_definer
  function_sorted = (
    written_sorted at (right at) _,
    (
      (tt, tt),
      (
        parameters_sorted _,
        (bound_type_sorted at (right at) (word_of word.BraceOpen ∷ []) refl refl, ((tt, tt), (expression_sorted at 40 (word_of word.CloseBrace ∷ []) refl (inr (inr (inr (inr (inr (inl refl))))), tt), (tt, tt)))),
      ),
    ),
  )

  definer_sorted : (d : Definer) → Sorts (definer at d) (word_of word.Semicolon ∷ [])
  unfolding definer
  definer_sorted definer_is.Variable = variable_sorted
  definer_sorted definer_is.Function = function_sorted

  pub definition_sorted : Sorts (definition at) (word_of word.Semicolon ∷ [])
  unfolding definition
  definition_sorted = λ v. (tt, definer_sorted (definer_found v))

  -- version declarations

  encoding_sorted : Sorts encoding (word_of word.Semicolon ∷ [])
  unfolding encoding
  encoding_sorted = (
    tokens_choose (query_language at) (lawful at) (fronts at) (right at) (word_of word.Encoding ∷ []) _ empty (word_of word.Semicolon ∷ [])
        (record { takes = refl; first = (inl refl, tt); full = (refl, tt); opening = ((λ x o. open_first (open_first (open_token o))), tt); apart = apart (word_of word.Encoding ∷ []) (word_of word.Semicolon ∷ []) refl }),
    ((tt, tt), text_sorted _),
    tt,
  )

  version_sorted : Sorts (token version_words & token gap & lexeme (one_of set.Versions) & encoding) (word_of word.Semicolon ∷ [])
  version_sorted = (tt, (tt, ((tt, tt), encoding_sorted)))

  -- whole queries

  abbrev Semicolons : Phrase
  Semicolons = lexeme (word_of word.Semicolon)

  abbrev Body : Phrase
  Body = expression at 40

  abbrev Defined : Phrase
  Defined = definitions at & Body

  abbrev Set : Phrase
  Set = settings at & Defined

  abbrev Avoided : List Token → Phrase → Type 0
  Avoided ts A = Avoids (query_language at) ts (Until (query_language at) A AtEnd) (BeforeCut (query_language at) A Nowhere)

  defined_avoided : Avoided (setter_words ∷ import_words ∷ []) Defined
  unfolding definitions definition
  defined_avoided = avoids_behind (query_language at) (fronts at) (right at) (lawful at) (setter_words ∷ import_words ∷ []) (definitions at) Body AtEnd Nowhere (refl, (refl, tt)) ((setters_definers, (import_definers, tt)), tt) (settings_avoided at)

  version_defined : Avoided (version_words ∷ []) Defined
  unfolding definitions definition
  version_defined = avoids_behind (query_language at) (fronts at) (right at) (lawful at) (version_words ∷ []) (definitions at) Body AtEnd Nowhere (refl, tt) ((version_definers, tt), tt) (version_avoided at)

  version_set : Avoided (version_words ∷ []) Set
  unfolding settings setting
  version_set = avoids_behind (query_language at) (fronts at) (right at) (lawful at) (version_words ∷ []) (settings at) Defined AtEnd Nowhere (refl, tt) ((version_setters, tt), ((version_import, tt), tt)) version_defined

  setters_open : (x : List ℕ) → opens setter_words x → Opens (query_language at) (setting at & Semicolons) x
  unfolding setting
  setters_open x o = open_first (open_left (open_made (open_key o)))

  import_opens : (x : List ℕ) → opens import_words x → Opens (query_language at) (setting at & Semicolons) x
  unfolding setting
  import_opens x o = open_first (open_right (open_made (open_first (open_token o))))

  settings_decide : Decides (query_language at) (settings at) (Until (query_language at) Defined AtEnd) (BeforeCut (query_language at) Defined Nowhere)
  unfolding settings setting
  settings_decide = (
    avoided_repeat (query_language at) (lawful at) (fronts at) (right at) (setter_words ∷ import_words ∷ []) (setting at & Semicolons) refl (inl refl, (inr (inl refl), tt)) (setters_open, (import_opens, tt)) _ _ defined_avoided,
    shortens (query_language at) (lawful at) (fronts at) (right at) (setting at & Semicolons) refl,
    closed_decides (query_language at) (fronts at) (right at) (lawful at) (setting at) (word_of word.Semicolon) gap _ _ refl (setting_sorted (word_of word.Semicolon ∷ []) refl),
  )

  definers_open : (x : List ℕ) → opens definer_words x → Opens (query_language at) (definition at & Semicolons) x
  unfolding definition
  definers_open x o = open_first (open_made (open_key o))

  definitions_decide : Decides (query_language at) (definitions at) (Until (query_language at) Body AtEnd) (BeforeCut (query_language at) Body Nowhere)
  unfolding definitions definition
  definitions_decide = (
    avoided_repeat (query_language at) (lawful at) (fronts at) (right at) (definer_words ∷ []) (definition at & Semicolons) refl (inl refl, tt) (definers_open, tt) _ _ (definers_avoided at),
    shortens (query_language at) (lawful at) (fronts at) (right at) (definition at & Semicolons) refl,
    closed_decides (query_language at) (fronts at) (right at) (lawful at) (definition at) (word_of word.Semicolon) gap _ _ refl definition_sorted,
  )

  version_opens : (x : List ℕ) → opens version_words x → Opens (query_language at) (version at) x
  unfolding version
  version_opens x o = open_made (open_first (open_first (open_token o)))

  version_decides : Decides (query_language at) (maybe_version at) (Until (query_language at) Set AtEnd) (BeforeCut (query_language at) Set Nowhere)
  unfolding maybe_version version
  version_decides = (
    avoided_choose (query_language at) (lawful at) (fronts at) (right at) (version_words ∷ []) (version at) refl (inl refl, tt) (version_opens, tt) _ _ _
        (avoids_made (query_language at) (version_words ∷ []) _ empty _ _ (avoids_empty (query_language at) (version_words ∷ []) _ _ version_set)),
    closed_decides (query_language at) (fronts at) (right at) (lawful at) (token version_words & token gap & lexeme (one_of set.Versions) & encoding) (word_of word.Semicolon) gap _ _ refl version_sorted,
    tt,
  )

  body_decides : Decides (query_language at) Body AtEnd Nowhere
  body_decides =
      decides_less (query_language at) Body (EndsOrStarts derives faults []) (BeginsWith derives opens []) AtEnd Nowhere (λ y k. inl k) (λ y c. absurd c) (sorted_decides (query_language at) (lawful at) (fronts at) (right at) Body [] (expression_sorted at 40 [] refl tt))

  query_decides : Decides (query_language at) (query at) AtEnd Nowhere
  unfolding query
  query_decides = (tt, (version_decides, (settings_decide, (definitions_decide, body_decides))))

  -- What the language owes is met.
  pub readable : IsReadable (query_language at) (query at)
  readable = record { tokens = lawful at; productions = productions; top = query_decides }
    where
      productions : AllDecide (query_language at)
      productions = λ p. decides_less (query_language at) (rules at p) (EndsOrStarts derives faults (behind at p)) (BeginsWith derives opens (behind at p)) ((query_language at).follows p) ((query_language at).follows_cut p) (λ y k. k) (λ y c. c)
          (sorted_decides (query_language at) (lawful at) (fronts at) (right at) (rules at p) (behind at p) (production_sorted at p))
