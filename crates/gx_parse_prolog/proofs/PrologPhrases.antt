-- What the parts of prologs read.
use Rattle.std.proofs.Common.{◌≡◌, ℕ, Bool, true, false, List, [], ◌∷◌, ◌++◌, inl, inr, refl, sym, ap, subst, ◌∙◌, Option, Some, None, MatchOption}
use Rattle.gx_base.specs.declared.place.Place.{Place}
use Rattle.gx_ast.specs.SyntaxTree.{SyntaxTree}
use Rattle.gx_ast.specs.declared.query.Version.{Version}
use Rattle.gx_ast.specs.declared.query.Parameter.{Parameter}
use Rattle.gx_ast.specs.declared.query.Setting.{Setting}
use Rattle.gx_ast.specs.declared.query.Definition.{Definition}
use Rattle.gx_ast.specs.declared.query.SchemaPrefix.{SchemaPrefix}
use Rattle.gx_ast.specs.declared.query.SchemaPrefix.TheVariants as schema_prefix_is
use Rattle.gx_ast.specs.declared.query.SettingNode.TheVariants as sets
use Rattle.gx_grammar.specs.Value.{nothing, characters, node, pair, no_item}
use Rattle.gx_grammar.specs.Grammar.{token, empty, ◌&◌, keyed, choose, many, rule, made}
use Rattle.gx_grammar.specs.Apart.{is}
use Rattle.gx_grammar.specs.First.{by_character}
use Rattle.gx_grammar.specs.Ran.{Standing, Ran, Looked, IsDone, Loses, left_of}
use Rattle.gx_grammar.proofs.PublicLaws.{ran_idle}
use Rattle.gx_parse_grammar.specs.declared.word.Word.{Word}
use Rattle.gx_parse_grammar.specs.declared.word.Word.TheVariants as word
use Rattle.gx_parse_grammar.specs.declared.word.WordSet.TheVariants as set
use Rattle.gx_parse_grammar.specs.declared.word.Setter.{Setter}
use Rattle.gx_parse_grammar.specs.declared.word.Definer.{Definer}
use Rattle.gx_parse_grammar.specs.declared.runs.Quote.{Quote}
use Rattle.gx_parse_grammar.specs.declared.runs.Quote.TheVariants as quote
use Rattle.gx_parse_grammar.specs.Words.{setter_of, definer_of}
use Rattle.gx_parse_grammar.specs.Nodes.{Made, Found, MaybeVersion, Imports, Says, Whole, tree}
use Rattle.gx_parse_grammar.specs.Tokens.{one_of, ncname, gap}
use Rattle.gx_parse_grammar.specs.Grammar.{Phrase, single, word_of, lexeme, at_tokens, expression, place_in}
use Rattle.gx_parse_tokens.specs.Reading.{call, read_in, read_one}
use Rattle.gx_parse_grammar.specs.Types.{Gave, written_name}
use Rattle.gx_parse_grammar.specs.Bound.{bound, bound_type}
use Rattle.gx_parse_grammar.specs.Strings.{text_of_parts, quoted}
use Rattle.gx_parse_constructors.specs.TextReading.{TextRead}
use Rattle.gx_parse_tokens.specs.Reading.{Added}
use Rattle.gx_parse_parts.specs.Lists.{Grown}
use Rattle.gx_parse_parts.specs.Repeated.{listed_before}
use Rattle.gx_parse_grammar.specs.Prolog.{text_value, prefix_value, namespace_value, default_namespace_value, empty_order_value, boundary_space_value, schema_prefix_value, texts_listed, import_value, setting_value, setter_found, initialiser_value, variable_definition, parameter_value, parameters_listed, parameters_in, function_definition, definition_value, definer_found, encoding_value, version_value, settings_in, definitions_in, query_in, text_of, text_literal, prefix, namespace_setter, default_namespace, empty_order_setter, default_setter, boundary_space_setter, construction_setter, ordering_setter, copy_setter, setter, named_schema, default_schema, schema_prefix, more_locations, schema_import, setting, initialiser, variable_definer, parameter, more_parameters, parameters, function_definer, definer, definition, encoding, version, maybe_version, settings, definitions, query}
use Rattle.gx_parse_grammar.specs.Tokens.{version_words, setter_words, import_words, definer_words}
use Rattle.gx_parse_prolog.specs.PrologParts.{gapped, imports_made, says_made, parameter_made, encoding_made, version_made, location_item, parameter_item, setting_item, definition_item, locations_made, parameters_made, further_location, locations, declared_setting, imported_setting, further_parameter, closed_setting, closed_definition, HasFirst}
use Rattle.gx_parse_parts.proofs.Chains.{ran_any}
use Rattle.gx_parse_parts.proofs.Phrases.{in_token, in_both, in_keyed, in_empty, in_left, in_right, in_made, in_rule, lexeme_reads, loses_done, stays_done, gave_none, ran_loses}
use Rattle.gx_parse_constructors.proofs.StringsPhrases.{only_word}

-- lists

parameters_same : (ps : List Parameter) → parameters_listed (listed_before parameter_item ps no_item) ≡ ps
parameters_same [] = refl
parameters_same (p ∷ ps) = ap (λ qs. p ∷ qs) (parameters_same ps)

pub parameters_are : (ps : List Parameter) → parameters_in (parameters_made ps) ≡ ps
parameters_are [] = refl
parameters_are (p ∷ ps) = ap (λ qs. p ∷ qs) (parameters_same ps)

texts_same : (ts : List (List ℕ)) → texts_listed (listed_before location_item ts no_item) ≡ ts
texts_same [] = refl
texts_same (t ∷ ts) = ap (λ us. t ∷ us) (texts_same ts)

settings_same : (ss : List Setting) → settings_in (listed_before setting_item ss no_item) ≡ ss
settings_same [] = refl
settings_same (s ∷ ss) = ap (λ us. s ∷ us) (settings_same ss)

definitions_same : (ds : List Definition) → definitions_in (listed_before definition_item ds no_item) ≡ ds
definitions_same [] = refl
definitions_same (d ∷ ds) = ap (λ us. d ∷ us) (definitions_same ds)

module _ (text : List ℕ) (n : ℕ) where
  abbrev pub reads : Made → Standing → Standing → Phrase → Type 0
  reads v a b A = Ran v a b (read_in text n A)

  abbrev pub at : ℕ → Place
  at left = place_in text left

  -- nothing is read behind an end
  pub still : (A : Phrase) (v : Made) (a : Standing) → IsDone a → reads v a a A
  still A v a d = ran_idle v a (read_in text n A) d

  pub symbol_read : (k w : Word) (a b c : Standing) → Ran (node (Found w)) a b (read_one (word_of k)) → Ran nothing b c (read_one gap) → reads (gapped k) a c (lexeme (word_of k))
  symbol_read k w a b c h i = lexeme_reads text n (word_of k) (node (Found k)) a b c (only_word k w a b h) i

  -- three parts
  three : (A B C : Phrase) (u v w : Made) (a b c d : Standing) → reads u a b A → reads v b c B → reads w c d C → reads (pair u (pair v w)) a d (A & (B & C))
  three A B C u v w a b c d h i j = in_both text n A (B & C) u (pair v w) a b d h (in_both text n B C v w b c d i j)

  pub text_read : (q : Quote) (t : List ℕ) (a b c : Standing) → TextRead (quoted q) text_of_parts t a b → Ran nothing b c (read_one gap) → reads (characters t) a c (text_of q)
  unfolding text_of
  text_read q t a b c r h =
      subst (λ u. reads (characters u) a c (text_of q)) r.is
      (in_made text n (λ left v. text_value v) (quoted q & token gap) (pair r.value nothing) a c (in_both text n (quoted q) (token gap) r.value nothing a b c (r.ran text n) (in_token text n gap nothing b c h)))

  pub text_given : (q : Quote) (t : List ℕ) (o : Option (List ℕ)) (a b c d : Standing) → TextRead (quoted q) text_of_parts t a b → Ran nothing b c (read_one gap) → MatchOption o (Loses c d) (λ x. (x ≡ t) × (d ≡ c)) → Gave characters o a d (read_in text n (text_of q))
  text_given q t None a b c d r h l = gave_none characters nothing a d (read_in text n (text_of q)) (loses_done c d l) (ran_loses (characters t) nothing a c d (read_in text n (text_of q)) (text_read q t a b c r h) l)
  text_given q t (Some x) a b c d r h e = subst (λ y. reads (characters y) a d (text_of q)) (sym e.0) (subst (λ s. reads (characters t) a s (text_of q)) (sym e.1) (text_read q t a b c r h))

  pub text_double : (taken : Bool) (a b c : Standing) → taken ≡ true → Looked taken a b (by_character (is 34)) → (v : Made) → reads v b c (text_of quote.Double) → reads v a c text_literal
  unfolding text_literal
  text_double taken a b c e h v k = in_left text n (by_character (is 34)) (text_of quote.Double) (text_of quote.Single) v taken a b c e h k

  pub text_single : (taken : Bool) (a b c : Standing) → taken ≡ false → Looked taken a b (by_character (is 34)) → (v : Made) → reads v b c (text_of quote.Single) → reads v a c text_literal
  unfolding text_literal
  text_single taken a b c e h v k = in_right text n (by_character (is 34)) (text_of quote.Double) (text_of quote.Single) v taken a b c e h k

  pub prefix_read : (place : Place) (v : Made) (a b c d : Standing) → place ≡ place_in text (left_of a) → Ran v a b (read_one ncname) → Ran nothing b c (read_one gap) → reads (gapped word.Equals) c d (lexeme (word_of word.Equals)) → reads (prefix_value place (pair (pair v nothing) (gapped word.Equals))) a d (prefix (place_in text))
  unfolding prefix
  prefix_read place v a b c d e h i j =
      subst (λ p. reads (prefix_value p (pair (pair v nothing) (gapped word.Equals))) a d (prefix (place_in text))) (sym e)
      (in_made text n (λ left v. prefix_value (place_in text left) v) (lexeme ncname & lexeme (word_of word.Equals)) (pair (pair v nothing) (gapped word.Equals)) a d
      (in_both text n (lexeme ncname) (lexeme (word_of word.Equals)) (pair v nothing) (gapped word.Equals) a c d (lexeme_reads text n ncname v a b c h i) j))

  pub namespace_read : (v w : Made) (a b c : Standing) → reads v a b (prefix (place_in text)) → reads w b c text_literal → reads (namespace_value (pair v w)) a c (namespace_setter (place_in text))
  unfolding namespace_setter
  namespace_read v w a b c h i = in_made text n (λ left v. namespace_value v) (prefix (place_in text) & text_literal) (pair v w) a c (in_both text n (prefix (place_in text)) text_literal v w a b c h i)

  pub default_namespace_read : (v : Made) (a b c d : Standing) → reads (gapped word.Element) a b (lexeme (word_of word.Element)) → reads (gapped word.Namespace) b c (lexeme (word_of word.Namespace)) → reads v c d text_literal
      → reads (default_namespace_value (pair (gapped word.Element) (pair (gapped word.Namespace) v))) a d default_namespace
  unfolding default_namespace
  default_namespace_read v a b c d h i j =
      in_made text n (λ left v. default_namespace_value v) (lexeme (word_of word.Element) & lexeme (word_of word.Namespace) & text_literal) (pair (gapped word.Element) (pair (gapped word.Namespace) v)) a d
      (three (lexeme (word_of word.Element)) (lexeme (word_of word.Namespace)) text_literal (gapped word.Element) (gapped word.Namespace) v a b c d h i j)

  pub empty_order_read : (v : Made) (a b c d : Standing) → reads (gapped word.Order) a b (lexeme (word_of word.Order)) → reads (gapped word.Empty) b c (lexeme (word_of word.Empty)) → reads v c d (lexeme (one_of set.Extremes))
      → reads (empty_order_value (pair (gapped word.Order) (pair (gapped word.Empty) v))) a d empty_order_setter
  unfolding empty_order_setter
  empty_order_read v a b c d h i j =
      in_made text n (λ left v. empty_order_value v) (lexeme (word_of word.Order) & lexeme (word_of word.Empty) & lexeme (one_of set.Extremes)) (pair (gapped word.Order) (pair (gapped word.Empty) v)) a d
      (three (lexeme (word_of word.Order)) (lexeme (word_of word.Empty)) (lexeme (one_of set.Extremes)) (gapped word.Order) (gapped word.Empty) v a b c d h i j)

  pub default_element : (taken : Bool) (a b c : Standing) → taken ≡ true → Looked taken a b (at_tokens (word_of word.Element ∷ [])) → (v : Made) → reads v b c default_namespace → reads v a c default_setter
  unfolding default_setter
  default_element taken a b c e h v k = in_left text n (at_tokens (word_of word.Element ∷ [])) default_namespace empty_order_setter v taken a b c e h k

  pub default_order : (v : Made) (taken : Bool) (a b c : Standing) → taken ≡ false → Looked taken a b (at_tokens (word_of word.Element ∷ [])) → reads v b c empty_order_setter → reads v a c default_setter
  unfolding default_setter
  default_order v taken a b c e h k = in_right text n (at_tokens (word_of word.Element ∷ [])) default_namespace empty_order_setter v taken a b c e h k

  pub boundary_space_read : (v : Made) (a b : Standing) → reads v a b (lexeme (one_of set.SpaceModes)) → reads (boundary_space_value v) a b boundary_space_setter
  unfolding boundary_space_setter
  boundary_space_read v a b h = in_made text n (λ left v. boundary_space_value v) (lexeme (one_of set.SpaceModes)) v a b h

  pub construction_read : (v : Made) (a b : Standing) → reads v a b (lexeme (word_of word.Strip)) → reads (node (Says sets.Construction)) a b construction_setter
  unfolding construction_setter
  construction_read v a b h = in_made text n (λ left v. node (Says sets.Construction)) (lexeme (word_of word.Strip)) v a b h

  pub ordering_read : (v : Made) (a b : Standing) → reads v a b (lexeme (word_of word.Ordered)) → reads (node (Says sets.Ordering)) a b ordering_setter
  unfolding ordering_setter
  ordering_read v a b h = in_made text n (λ left v. node (Says sets.Ordering)) (lexeme (word_of word.Ordered)) v a b h

  pub copy_read : (u v w : Made) (a b c d : Standing) → reads u a b (lexeme (word_of word.NoPreserve)) → reads v b c (lexeme (word_of word.Comma)) → reads w c d (lexeme (word_of word.NoInherit)) → reads (node (Says sets.CopyNamespaces)) a d copy_setter
  unfolding copy_setter
  copy_read u v w a b c d h i j =
      in_made text n (λ left v. node (Says sets.CopyNamespaces)) (lexeme (word_of word.NoPreserve) & lexeme (word_of word.Comma) & lexeme (word_of word.NoInherit)) (pair u (pair v w)) a d
      (three (lexeme (word_of word.NoPreserve)) (lexeme (word_of word.Comma)) (lexeme (word_of word.NoInherit)) u v w a b c d h i j)

  -- imports of schemas

  pub named_schema_read : (v : Made) (a b c : Standing) → reads (gapped word.Namespace) a b (lexeme (word_of word.Namespace)) → reads v b c (prefix (place_in text)) → reads (schema_prefix_value (pair (gapped word.Namespace) v)) a c (named_schema (place_in text))
  unfolding named_schema
  named_schema_read v a b c h i =
      in_made text n (λ left v. schema_prefix_value v) (lexeme (word_of word.Namespace) & prefix (place_in text)) (pair (gapped word.Namespace) v) a c (in_both text n (lexeme (word_of word.Namespace)) (prefix (place_in text)) (gapped word.Namespace) v a b c h i)

  pub default_schema_read : (u v w : Made) (a b c d : Standing) → reads u a b (lexeme (word_of word.Default)) → reads v b c (lexeme (word_of word.Element)) → reads w c d (lexeme (word_of word.Namespace)) → reads (node (Imports schema_prefix_is.Default)) a d default_schema
  unfolding default_schema
  default_schema_read u v w a b c d h i j =
      in_made text n (λ left v. node (Imports schema_prefix_is.Default)) (lexeme (word_of word.Default) & lexeme (word_of word.Element) & lexeme (word_of word.Namespace)) (pair u (pair v w)) a d
      (three (lexeme (word_of word.Default)) (lexeme (word_of word.Element)) (lexeme (word_of word.Namespace)) u v w a b c d h i j)

  abbrev unnamed : Phrase
  unnamed = made (λ left v. node (Imports schema_prefix_is.Unnamed)) empty

  abbrev unprefixed : Phrase
  unprefixed = choose (at_tokens (word_of word.Default ∷ [])) default_schema unnamed

  pub schema_named : (taken : Bool) (a b c : Standing) → taken ≡ true → Looked taken a b (at_tokens (word_of word.Namespace ∷ [])) → (v : Made) → reads v b c (named_schema (place_in text)) → reads v a c (schema_prefix (place_in text))
  unfolding schema_prefix
  schema_named taken a b c e h v k = in_left text n (at_tokens (word_of word.Namespace ∷ [])) (named_schema (place_in text)) unprefixed v taken a b c e h k

  pub schema_default : (v : Made) (taken next : Bool) (a b c d : Standing) → taken ≡ false → Looked taken a b (at_tokens (word_of word.Namespace ∷ [])) → next ≡ true → Looked next b c (at_tokens (word_of word.Default ∷ [])) → reads v c d default_schema → reads v a d (schema_prefix (place_in text))
  unfolding schema_prefix
  schema_default v taken next a b c d e h f i k =
      in_right text n (at_tokens (word_of word.Namespace ∷ [])) (named_schema (place_in text)) unprefixed v taken a b d e h (in_left text n (at_tokens (word_of word.Default ∷ [])) default_schema unnamed v next b c d f i k)

  pub schema_unnamed : (taken next : Bool) (a b c : Standing) → taken ≡ false → Looked taken a b (at_tokens (word_of word.Namespace ∷ [])) → next ≡ false → Looked next b c (at_tokens (word_of word.Default ∷ [])) → reads (node (Imports schema_prefix_is.Unnamed)) a c (schema_prefix (place_in text))
  unfolding schema_prefix
  schema_unnamed taken next a b c e h f i =
      in_right text n (at_tokens (word_of word.Namespace ∷ [])) (named_schema (place_in text)) unprefixed (node (Imports schema_prefix_is.Unnamed)) taken a b c e h
      (in_right text n (at_tokens (word_of word.Default ∷ [])) default_schema unnamed (node (Imports schema_prefix_is.Unnamed)) next b c c f i (in_made text n (λ left v. node (Imports schema_prefix_is.Unnamed)) empty nothing c c (in_empty text n c)))

  pub location_read : (v : Made) (a b c : Standing) → reads (gapped word.Comma) a b (lexeme (word_of word.Comma)) → reads v b c text_literal → reads (pair (gapped word.Comma) v) a c further_location
  location_read v a b c h i = in_both text n (lexeme (word_of word.Comma)) text_literal (gapped word.Comma) v a b c h i

  pub more_locations_are : (v : Made) (a b : Standing) → reads v a b (many (at_tokens (word_of word.Comma ∷ [])) further_location) → reads v a b more_locations
  unfolding more_locations
  more_locations_are v a b h = h

  -- one location and others
  pub locations_read : (cs : List ℕ) (begun list : List (List ℕ)) (a b d : Standing) → reads (characters cs) a b text_literal → begun ≡ cs ∷ [] → Added begun list (λ others. reads (listed_before location_item others no_item) b d more_locations) → reads (locations_made list) a d locations
  locations_read cs begun list a b d h e m =
      subst (λ l. reads (locations_made l) a d locations) (sym (m.is ∙ ap (λ l. l ++ m.others) e)) (in_both text n text_literal more_locations (characters cs) (listed_before location_item m.others no_item) a b d h m.holds)

  pub locations_stop : (a b : Standing) → IsDone b → reads nothing a b text_literal → IsDone b × ((v : Made) → reads v a b locations)
  locations_stop a b d h = (d, (λ v. ran_any (pair nothing nothing) v a b (read_in text n locations) d (in_both text n text_literal more_locations nothing nothing a b b h (still more_locations nothing b d))))

  pub locations_full : {X : List (List ℕ) → Type 0} (cs : List ℕ) (begun list : List (List ℕ)) → begun ≡ cs ∷ [] → Added begun list X → HasFirst list
  locations_full cs begun list e m = subst HasFirst (sym (m.is ∙ ap (λ l. l ++ m.others) e)) tt

  pub import_is : (p u l : Made) (a b c d e : Standing) → reads p a b (schema_prefix (place_in text)) → reads u b c text_literal → reads (gapped word.At) c d (lexeme (word_of word.At)) → reads l d e locations
      → reads (import_value (pair p (pair u (pair (gapped word.At) l)))) a e (schema_import (place_in text))
  unfolding schema_import
  import_is p u l a b c d e h i j k =
      in_made text n (λ left v. import_value v) (schema_prefix (place_in text) & text_literal & lexeme (word_of word.At) & locations) (pair p (pair u (pair (gapped word.At) l))) a e
      (in_both text n (schema_prefix (place_in text)) (text_literal & lexeme (word_of word.At) & locations) p (pair u (pair (gapped word.At) l)) a b e h
      (three text_literal (lexeme (word_of word.At)) locations u (gapped word.At) l b c d e i j k))

  pub import_read : (p : SchemaPrefix) (u : List ℕ) (ls : List (List ℕ)) (a b c d e : Standing) → HasFirst ls → reads (imports_made p) a b (schema_prefix (place_in text)) → reads (characters u) b c text_literal → reads (gapped word.At) c d (lexeme (word_of word.At))
      → reads (locations_made ls) d e locations → reads (says_made (sets.Schema p u ls)) a e (schema_import (place_in text))
  import_read p u [] a b c d e f h i j k = absurd f
  import_read p u (l ∷ ls) a b c d e f h i j k =
      subst (λ ts. reads (says_made (sets.Schema p u (l ∷ ts))) a e (schema_import (place_in text))) (texts_same ls) (import_is (imports_made p) (characters u) (locations_made (l ∷ ls)) a b c d e h i j k)

  -- settings

  pub declared_read : (place : Place) (w : Word) (s : Setter) (v : Made) (a b c d : Standing) → place ≡ place_in text (left_of a) → s ≡ setter_of w → Ran (node (Found w)) a b (read_one setter_words) → Ran nothing b c (read_one gap) → reads v c d (setter (place_in text) s)
      → reads (setting_value place (pair (node (Found w)) (pair nothing v))) a d (declared_setting (place_in text))
  declared_read place w s v a b c d e f h i j =
      subst (λ p. reads (setting_value p (pair (node (Found w)) (pair nothing v))) a d (declared_setting (place_in text))) (sym e)
      (in_made text n (λ left v. setting_value (place_in text left) v) (keyed setter_words (λ w. token gap & setter (place_in text) (setter_found w))) (pair (node (Found w)) (pair nothing v)) a d
      (in_keyed text n setter_words (λ w. token gap & setter (place_in text) (setter_found w)) (node (Found w)) (pair nothing v) a b d h
      (in_both text n (token gap) (setter (place_in text) (setter_of w)) nothing v b c d (in_token text n gap nothing b c i) (subst (λ k. reads v c d (setter (place_in text) k)) f j))))

  pub imported_read : (place : Place) (w v : Made) (a b c d : Standing) → place ≡ place_in text (left_of a) → Ran w a b (read_one import_words) → Ran nothing b c (read_one gap) → reads v c d (schema_import (place_in text))
      → reads (setting_value place (pair w (pair nothing v))) a d (imported_setting (place_in text))
  imported_read place w v a b c d e h i j =
      subst (λ p. reads (setting_value p (pair w (pair nothing v))) a d (imported_setting (place_in text))) (sym e)
      (in_made text n (λ left v. setting_value (place_in text left) v) (token import_words & token gap & schema_import (place_in text)) (pair w (pair nothing v)) a d
      (three (token import_words) (token gap) (schema_import (place_in text)) w nothing v a b c d (in_token text n import_words w a b h) (in_token text n gap nothing b c i) j))

  pub setting_declared : (taken : Bool) (a b c : Standing) → taken ≡ true → Looked taken a b (at_tokens (setter_words ∷ [])) → (v : Made) → reads v b c (declared_setting (place_in text)) → reads v a c (setting (place_in text))
  unfolding setting
  setting_declared taken a b c e h v k = in_left text n (at_tokens (setter_words ∷ [])) (declared_setting (place_in text)) (imported_setting (place_in text)) v taken a b c e h k

  pub setting_imported : (taken : Bool) (a b c : Standing) → taken ≡ false → Looked taken a b (at_tokens (setter_words ∷ [])) → (v : Made) → reads v b c (imported_setting (place_in text)) → reads v a c (setting (place_in text))
  unfolding setting
  setting_imported taken a b c e h v k = in_right text n (at_tokens (setter_words ∷ [])) (declared_setting (place_in text)) (imported_setting (place_in text)) v taken a b c e h k

  pub closed_setting_read : (v : Made) (a b c : Standing) → reads v a b (setting (place_in text)) → reads (gapped word.Semicolon) b c (lexeme (word_of word.Semicolon)) → reads (pair v (gapped word.Semicolon)) a c (closed_setting (place_in text))
  closed_setting_read v a b c h i = in_both text n (setting (place_in text)) (lexeme (word_of word.Semicolon)) v (gapped word.Semicolon) a b c h i

  pub settings_are : (v : Made) (a b : Standing) → reads v a b (many (at_tokens (setter_words ∷ import_words ∷ [])) (closed_setting (place_in text))) → reads v a b (settings (place_in text))
  unfolding settings
  settings_are v a b h = h

  -- definitions

  pub external_read : (v : Made) (taken : Bool) (a b c : Standing) → taken ≡ false → Looked taken a b (at_tokens (word_of word.Assign ∷ [])) → reads v b c (lexeme (word_of word.External)) → reads (initialiser_value v) a c initialiser
  unfolding initialiser
  external_read v taken a b c e h k =
      in_made text n (λ left v. initialiser_value v) (choose (at_tokens (word_of word.Assign ∷ [])) (lexeme (word_of word.Assign) & rule (single 40)) (lexeme (word_of word.External))) v a c
      (in_right text n (at_tokens (word_of word.Assign ∷ [])) (lexeme (word_of word.Assign) & rule (single 40)) (lexeme (word_of word.External)) v taken a b c e h k)

  pub variable_read : (x k i : Made) (a b c d : Standing) → reads x a b (bound (place_in text)) → reads k b c (bound_type (place_in text)) → reads i c d initialiser → reads (variable_definition (pair x (pair k i))) a d (variable_definer (place_in text))
  unfolding variable_definer
  variable_read x k i a b c d h j l =
      in_made text n (λ left v. variable_definition v) (bound (place_in text) & bound_type (place_in text) & initialiser) (pair x (pair k i)) a d (three (bound (place_in text)) (bound_type (place_in text)) initialiser x k i a b c d h j l)

  pub parameter_read : (x k : Made) (a b c : Standing) → reads x a b (bound (place_in text)) → reads k b c (bound_type (place_in text)) → reads (parameter_value (pair x k)) a c (parameter (place_in text))
  unfolding parameter
  parameter_read x k a b c h i = in_made text n (λ left v. parameter_value v) (bound (place_in text) & bound_type (place_in text)) (pair x k) a c (in_both text n (bound (place_in text)) (bound_type (place_in text)) x k a b c h i)

  pub further_read : (v : Made) (a b c : Standing) → reads (gapped word.Comma) a b (lexeme (word_of word.Comma)) → reads v b c (parameter (place_in text)) → reads (pair (gapped word.Comma) v) a c (further_parameter (place_in text))
  further_read v a b c h i = in_both text n (lexeme (word_of word.Comma)) (parameter (place_in text)) (gapped word.Comma) v a b c h i

  pub more_parameters_are : (v : Made) (a b : Standing) → reads v a b (many (at_tokens (word_of word.Comma ∷ [])) (further_parameter (place_in text))) → reads v a b (more_parameters (place_in text))
  unfolding more_parameters
  more_parameters_are v a b h = h

  abbrev nothing_inside : Phrase
  nothing_inside = empty & lexeme (word_of word.Close)

  abbrev some_inside : Phrase
  some_inside = (parameter (place_in text) & more_parameters (place_in text)) & lexeme (word_of word.Close)

  pub no_parameters : (taken : Bool) (a b c : Standing) → taken ≡ true → Looked taken a b (by_character (is 41)) → reads (gapped word.Close) b c (lexeme (word_of word.Close)) → reads (parameters_made []) a c (parameters (place_in text))
  unfolding parameters
  no_parameters taken a b c e h k =
      in_left text n (by_character (is 41)) nothing_inside some_inside (pair nothing (gapped word.Close)) taken a b c e h (in_both text n empty (lexeme (word_of word.Close)) nothing (gapped word.Close) b b c (in_empty text n b) k)

  parameters_part : (v w x : Made) (taken : Bool) (a b c d e : Standing) → taken ≡ false → Looked taken a b (by_character (is 41)) → reads v b c (parameter (place_in text)) → reads w c d (more_parameters (place_in text)) → reads x d e (lexeme (word_of word.Close))
      → reads (pair (pair v w) x) a e (parameters (place_in text))
  unfolding parameters
  parameters_part v w x taken a b c d e f h i j k =
      in_right text n (by_character (is 41)) nothing_inside some_inside (pair (pair v w) x) taken a b e f h
      (in_both text n (parameter (place_in text) & more_parameters (place_in text)) (lexeme (word_of word.Close)) (pair v w) x b d e (in_both text n (parameter (place_in text)) (more_parameters (place_in text)) v w b c d i j) k)

  pub parameters_stop : (u : Made) (taken : Bool) (a b c : Standing) → taken ≡ false → Looked taken a b (by_character (is 41)) → IsDone c → reads nothing b c (parameter (place_in text)) → reads u a c (parameters (place_in text))
  parameters_stop u taken a b c f h d i =
      ran_any (pair (pair nothing nothing) nothing) u a c (read_in text n (parameters (place_in text))) d
      (parameters_part nothing nothing nothing taken a b c c c f h i (still (more_parameters (place_in text)) nothing c d) (still (lexeme (word_of word.Close)) nothing c d))

  pub parameters_read : (p : Parameter) (begun list : List Parameter) (taken : Bool) (a b c d e z : Standing) → taken ≡ false → Looked taken a b (by_character (is 41)) → reads (parameter_made p) b c (parameter (place_in text)) → Grown [] p begun c d
      → Added begun list (λ others. reads (listed_before parameter_item others no_item) d e (more_parameters (place_in text))) → reads (gapped word.Close) e z (lexeme (word_of word.Close)) → reads (parameters_made list) a z (parameters (place_in text))
  parameters_read p begun list taken a b c d e z f h i (inl g) m k =
      subst (λ l. reads (parameters_made l) a z (parameters (place_in text))) (sym (m.is ∙ ap (λ l. l ++ m.others) g.0))
      (parameters_part (parameter_made p) (listed_before parameter_item m.others no_item) (gapped word.Close) taken a b c e z f h i (subst (λ s. reads (listed_before parameter_item m.others no_item) s e (more_parameters (place_in text))) g.1 m.holds) k)
  parameters_read p begun list taken a b c d e z f h i (inr g) m k =
      let done = loses_done c d g.1 in
      let later = stays_done (listed_before parameter_item m.others no_item) d e (read_in text n (more_parameters (place_in text))) done m.holds in
      ran_any (pair (pair (parameter_made p) (listed_before parameter_item m.others no_item)) (gapped word.Close)) (parameters_made list) a z (read_in text n (parameters (place_in text))) (stays_done (gapped word.Close) e z (read_in text n (lexeme (word_of word.Close))) later k)
      (parameters_part (parameter_made p) (listed_before parameter_item m.others no_item) (gapped word.Close) taken a b d e z f h (ran_loses (parameter_made p) (parameter_made p) b c d (read_in text n (parameter (place_in text))) i g.1) m.holds k)

  pub function_is : (q o ps k l t r : Made) (s0 s1 s2 s3 s4 s5 s6 s7 : Standing) → reads q s0 s1 (written_name (place_in text)) → reads o s1 s2 (lexeme (word_of word.Open)) → reads ps s2 s3 (parameters (place_in text)) → reads k s3 s4 (bound_type (place_in text))
      → reads l s4 s5 (lexeme (word_of word.BraceOpen)) → reads t s5 s6 (expression (place_in text) 40) → reads r s6 s7 (lexeme (word_of word.CloseBrace))
      → reads (function_definition (pair q (pair o (pair ps (pair k (pair l (pair t r))))))) s0 s7 (function_definer (place_in text))
  unfolding function_definer
  function_is q o ps k l t r s0 s1 s2 s3 s4 s5 s6 s7 h0 h1 h2 h3 h4 h5 h6 =
      in_made text n (λ left v. function_definition v) (written_name (place_in text) & lexeme (word_of word.Open) & parameters (place_in text) & bound_type (place_in text) & lexeme (word_of word.BraceOpen) & expression (place_in text) 40 & lexeme (word_of word.CloseBrace))
      (pair q (pair o (pair ps (pair k (pair l (pair t r)))))) s0 s7
      (in_both text n (written_name (place_in text)) _ q (pair o (pair ps (pair k (pair l (pair t r))))) s0 s1 s7 h0
      (in_both text n (lexeme (word_of word.Open)) _ o (pair ps (pair k (pair l (pair t r)))) s1 s2 s7 h1
      (in_both text n (parameters (place_in text)) _ ps (pair k (pair l (pair t r))) s2 s3 s7 h2
      (in_both text n (bound_type (place_in text)) _ k (pair l (pair t r)) s3 s4 s7 h3 (three (lexeme (word_of word.BraceOpen)) (expression (place_in text) 40) (lexeme (word_of word.CloseBrace)) l t r s4 s5 s6 s7 h4 h5 h6)))))

  pub defined_read : (place : Place) (w : Word) (s : Definer) (v : Made) (a b c d : Standing) → place ≡ place_in text (left_of a) → s ≡ definer_of w → Ran (node (Found w)) a b (read_one definer_words) → Ran nothing b c (read_one gap) → reads v c d (definer (place_in text) s)
      → reads (definition_value place (pair (node (Found w)) (pair nothing v))) a d (definition (place_in text))
  unfolding definition
  defined_read place w s v a b c d e f h i j =
      subst (λ p. reads (definition_value p (pair (node (Found w)) (pair nothing v))) a d (definition (place_in text))) (sym e)
      (in_made text n (λ left v. definition_value (place_in text left) v) (keyed definer_words (λ w. token gap & definer (place_in text) (definer_found w))) (pair (node (Found w)) (pair nothing v)) a d
      (in_keyed text n definer_words (λ w. token gap & definer (place_in text) (definer_found w)) (node (Found w)) (pair nothing v) a b d h
      (in_both text n (token gap) (definer (place_in text) (definer_of w)) nothing v b c d (in_token text n gap nothing b c i) (subst (λ k. reads v c d (definer (place_in text) k)) f j))))

  pub closed_definition_read : (v : Made) (a b c : Standing) → reads v a b (definition (place_in text)) → reads (gapped word.Semicolon) b c (lexeme (word_of word.Semicolon)) → reads (pair v (gapped word.Semicolon)) a c (closed_definition (place_in text))
  closed_definition_read v a b c h i = in_both text n (definition (place_in text)) (lexeme (word_of word.Semicolon)) v (gapped word.Semicolon) a b c h i

  pub definitions_are : (v : Made) (a b : Standing) → reads v a b (many (at_tokens (definer_words ∷ [])) (closed_definition (place_in text))) → reads v a b (definitions (place_in text))
  unfolding definitions
  definitions_are v a b h = h

  -- versions

  abbrev maybe_encoding : Phrase
  maybe_encoding = choose (at_tokens (word_of word.Encoding ∷ [])) (lexeme (word_of word.Encoding) & text_literal) empty

  pub no_encoding : (taken : Bool) (a b : Standing) → taken ≡ false → Looked taken a b (at_tokens (word_of word.Encoding ∷ [])) → reads (encoding_made None) a b encoding
  unfolding encoding
  no_encoding taken a b e h = in_made text n (λ left v. encoding_value v) maybe_encoding nothing a b (in_right text n (at_tokens (word_of word.Encoding ∷ [])) (lexeme (word_of word.Encoding) & text_literal) empty nothing taken a b b e h (in_empty text n b))

  pub encoding_read : (v : Made) (taken : Bool) (a b c d : Standing) → taken ≡ true → Looked taken a b (at_tokens (word_of word.Encoding ∷ [])) → reads (gapped word.Encoding) b c (lexeme (word_of word.Encoding)) → reads v c d text_literal
      → reads (encoding_value (pair (gapped word.Encoding) v)) a d encoding
  unfolding encoding
  encoding_read v taken a b c d e h i j =
      in_made text n (λ left v. encoding_value v) maybe_encoding (pair (gapped word.Encoding) v) a d
      (in_left text n (at_tokens (word_of word.Encoding ∷ [])) (lexeme (word_of word.Encoding) & text_literal) empty (pair (gapped word.Encoding) v) taken a b d e h (in_both text n (lexeme (word_of word.Encoding)) text_literal (gapped word.Encoding) v b c d i j))

  pub version_read : (place : Place) (w x v s : Made) (s0 s1 s2 s3 s4 s5 : Standing) → place ≡ place_in text (left_of s0) → Ran w s0 s1 (read_one version_words) → Ran nothing s1 s2 (read_one gap) → reads x s2 s3 (lexeme (one_of set.Versions)) → reads v s3 s4 encoding
      → reads s s4 s5 (lexeme (word_of word.Semicolon)) → reads (version_value place (pair (pair w (pair nothing (pair x v))) s)) s0 s5 (version (place_in text))
  unfolding version
  version_read place w x v s s0 s1 s2 s3 s4 s5 e h i j k l =
      subst (λ p. reads (version_value p (pair (pair w (pair nothing (pair x v))) s)) s0 s5 (version (place_in text))) (sym e)
      (in_made text n (λ left v. version_value (place_in text left) v) ((token version_words & token gap & lexeme (one_of set.Versions) & encoding) & lexeme (word_of word.Semicolon)) (pair (pair w (pair nothing (pair x v))) s) s0 s5
      (in_both text n (token version_words & token gap & lexeme (one_of set.Versions) & encoding) (lexeme (word_of word.Semicolon)) (pair w (pair nothing (pair x v))) s s0 s4 s5
      (in_both text n (token version_words) (token gap & lexeme (one_of set.Versions) & encoding) w (pair nothing (pair x v)) s0 s1 s4 (in_token text n version_words w s0 s1 h)
      (three (token gap) (lexeme (one_of set.Versions)) encoding nothing x v s1 s2 s3 s4 (in_token text n gap nothing s1 s2 i) j k)) l))

  abbrev no_version : Phrase
  no_version = made (λ left v. node (MaybeVersion None)) empty

  pub unversioned : (taken : Bool) (a b : Standing) → taken ≡ false → Looked taken a b (at_tokens (version_words ∷ [])) → reads (node (MaybeVersion None)) a b (maybe_version (place_in text))
  unfolding maybe_version
  unversioned taken a b e h = in_right text n (at_tokens (version_words ∷ [])) (version (place_in text)) no_version (node (MaybeVersion None)) taken a b b e h (in_made text n (λ left v. node (MaybeVersion None)) empty nothing b b (in_empty text n b))

  versioned : (v : Made) (taken : Bool) (a b c : Standing) → taken ≡ true → Looked taken a b (at_tokens (version_words ∷ [])) → reads v b c (version (place_in text)) → reads v a c (maybe_version (place_in text))
  unfolding maybe_version
  versioned v taken a b c e h k = in_left text n (at_tokens (version_words ∷ [])) (version (place_in text)) no_version v taken a b c e h k

  pub version_given : (o : Option Version) (taken : Bool) (a b c : Standing) → taken ≡ true → Looked taken a b (at_tokens (version_words ∷ [])) → Gave version_made o b c (read_in text n (version (place_in text))) → reads (node (MaybeVersion o)) a c (maybe_version (place_in text))
  version_given None taken a b c e h g = versioned (node (MaybeVersion None)) taken a b c e h (g.1 (node (MaybeVersion None)))
  version_given (Some v) taken a b c e h g = versioned (version_made v) taken a b c e h g

module _ (text : List ℕ) where
  pub assigned_read : (v : Made) (t : SyntaxTree) (taken : Bool) (a b c d : Standing) → taken ≡ true → Looked taken a b (at_tokens (word_of word.Assign ∷ [])) → Ran v b c (read_in text 40 (lexeme (word_of word.Assign))) → Ran (tree t) c d (call text 41 (single 40))
      → Ran (initialiser_value (pair v (tree t))) a d (read_in text 40 initialiser)
  unfolding initialiser
  assigned_read v t taken a b c d e h i k =
      in_made text 40 (λ left v. initialiser_value v) (choose (at_tokens (word_of word.Assign ∷ [])) (lexeme (word_of word.Assign) & rule (single 40)) (lexeme (word_of word.External))) (pair v (tree t)) a d
      (in_left text 40 (at_tokens (word_of word.Assign ∷ [])) (lexeme (word_of word.Assign) & rule (single 40)) (lexeme (word_of word.External)) (pair v (tree t)) taken a b d e h
      (in_both text 40 (lexeme (word_of word.Assign)) (rule (single 40)) v (tree t) b c d i (in_rule text 40 40 (tree t) c d k)))

  pub query_read : (v : Option Version) (ss : List Setting) (ds : List Definition) (t : SyntaxTree) (s0 s1 s2 s3 s4 s5 : Standing) → Ran nothing s0 s1 (read_one gap) → Ran (node (MaybeVersion v)) s1 s2 (read_in text 40 (maybe_version (place_in text)))
      → Ran (listed_before setting_item ss no_item) s2 s3 (read_in text 40 (settings (place_in text))) → Ran (listed_before definition_item ds no_item) s3 s4 (read_in text 40 (definitions (place_in text))) → Ran (tree t) s4 s5 (read_in text 40 (expression (place_in text) 40))
      → Ran (node (Whole (record { version = v; settings = ss; definitions = ds; body = t }))) s0 s5 (read_in text 40 (query (place_in text)))
  unfolding query
  query_read v ss ds t s0 s1 s2 s3 s4 s5 h i j k l =
      subst (λ r. Ran (node (Whole (record { version = v; settings = r; definitions = ds; body = t }))) s0 s5 (read_in text 40 (query (place_in text)))) (settings_same ss)
      (subst (λ r. Ran (node (Whole (record { version = v; settings = settings_in (listed_before setting_item ss no_item); definitions = r; body = t }))) s0 s5 (read_in text 40 (query (place_in text)))) (definitions_same ds)
      (in_made text 40 (λ left v. node (Whole (query_in (place_in text left) v))) (token gap & maybe_version (place_in text) & settings (place_in text) & definitions (place_in text) & expression (place_in text) 40)
      (pair nothing (pair (node (MaybeVersion v)) (pair (listed_before setting_item ss no_item) (pair (listed_before definition_item ds no_item) (tree t))))) s0 s5
      (in_both text 40 (token gap) (maybe_version (place_in text) & settings (place_in text) & definitions (place_in text) & expression (place_in text) 40) nothing (pair (node (MaybeVersion v)) (pair (listed_before setting_item ss no_item) (pair (listed_before definition_item ds no_item) (tree t)))) s0 s1 s5 (in_token text 40 gap nothing s0 s1 h)
      (in_both text 40 (maybe_version (place_in text)) (settings (place_in text) & definitions (place_in text) & expression (place_in text) 40) (node (MaybeVersion v)) (pair (listed_before setting_item ss no_item) (pair (listed_before definition_item ds no_item) (tree t))) s1 s2 s5 i
      (three text 40 (settings (place_in text)) (definitions (place_in text)) (expression (place_in text) 40) (listed_before setting_item ss no_item) (listed_before definition_item ds no_item) (tree t) s2 s3 s4 s5 j k l)))))
