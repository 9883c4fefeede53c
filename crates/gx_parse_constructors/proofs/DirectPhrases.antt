-- What the parts of direct constructors read.
use Rattle.std.proofs.Common.{◌≡◌, ◌-◌, ℕ, zero, suc, ◌<◌, ◌≤◌, Bool, true, false, List, [], ◌∷◌, ◌++◌, inl, inr, refl, sym, ap, subst, ◌∙◌, arith}
use Rattle.gx_base.specs.declared.place.Place.{Place}
use Rattle.gx_ast.specs.SyntaxTree.{SyntaxTree, an_attribute, at as located, direct}
use Rattle.gx_ast.specs.SyntaxView.{attribute_parts_of, attributes_of, parts_of}
use Rattle.gx_ast.specs.declared.name.QName.{QName}
use Rattle.gx_ast.specs.declared.expression.AttributePart.{AttributePart}
use Rattle.gx_ast.specs.declared.expression.DirectAttribute.{DirectAttribute}
use Rattle.gx_ast.specs.declared.expression.Part.{Part}
use Rattle.gx_grammar.specs.Value.{nothing, characters, node, pair, no_item}
use Rattle.gx_grammar.specs.Grammar.{token, ◌&◌, keyed, choose, many, rule, made}
use Rattle.gx_grammar.specs.First.{by_character}
use Rattle.gx_grammar.specs.Apart.{is}
use Rattle.gx_grammar.specs.Reading.{State, Reading}
use Rattle.gx_grammar.specs.Ran.{Standing, Ran, Looked, Loses, IsDone, left_of}
use Rattle.gx_parse_grammar.specs.declared.word.Word.{Word}
use Rattle.gx_parse_grammar.specs.declared.word.Word.TheVariants as word
use Rattle.gx_parse_grammar.specs.declared.word.Barrier.TheVariants as barrier
use Rattle.gx_parse_grammar.specs.declared.runs.Quote.{Quote}
use Rattle.gx_parse_grammar.specs.declared.runs.Quote.TheVariants as quote
use Rattle.gx_parse_grammar.specs.declared.runs.Run.{Run}
use Rattle.gx_parse_grammar.specs.declared.runs.Run.TheVariants as run
use Rattle.gx_parse_grammar.specs.declared.pieces.Piece.{Piece}
use Rattle.gx_parse_grammar.specs.declared.pieces.Piece.TheVariants.{Literal, Kept, Element, Enclosed}
use Rattle.gx_base.specs.NameCharacters.{is_ncname_start}
use Rattle.gx_parse_grammar.specs.Nodes.{Made, Name, ValueIs, AttributesAre, PartsAre, first_value, name_at, name_value, tree}
use Rattle.gx_parse_grammar.specs.Tokens.{Token, text_run, reference, gap, qname, white, blank, no_attribute as no_more, no_element, barred, tag_name, cdata_text}
use Rattle.gx_parse_grammar.specs.References.{quote_of}
use Rattle.gx_parse_grammar.specs.Grammar.{Production, Phrase, within, nested, word_of, at_tokens, name, expression, place_in}
use Rattle.gx_parse_tokens.specs.Reading.{Added}
use Rattle.gx_parse_grammar.specs.Pieces.{content_of_pieces, attribute_value_of}
use Rattle.gx_parse_tokens.specs.Reading.{call, read_in, read_one}
use Rattle.gx_parse_parts.specs.Repeated.{listed_before}
use Rattle.gx_parse_grammar.specs.Strings.{opening_of, closing_of, doubled_of}
use Rattle.gx_parse_constructors.specs.TextReading.{Pushes}
use Rattle.gx_parse_grammar.specs.Direct.{letters_in, piece_made, literal_piece, kept_piece, cdata_piece, element_piece, enclosed_piece, pieces_in, symbol_piece, text_piece, reference_piece, cdata, enclosed, brace_piece, plain_piece, value_piece, value_pieces_of, value_pieces, value_made, value_in, attribute_value, behind_attribute, attribute_is, attributes_in, attributes_are, content_piece, content_pieces_of, content_pieces, content_made, content, end_tag, filled_value, no_content, filled, content_if_any, element_value, attribute, attributes, behind_tag, element_of, start_of, element_at, direct_step}
use Rattle.gx_parse_constructors.specs.DirectReading.{attribute_made, MadeOrLost}
use Rattle.gx_grammar.proofs.PublicLaws.{ran_idle}
use Rattle.gx_parse_parts.proofs.Chains.{ran_any}
use Rattle.gx_parse_parts.proofs.Phrases.{in_token, in_both, in_keyed, in_left, in_right, in_made, loses_done, loses_ran}
use Rattle.gx_parse_constructors.proofs.StringsPhrases.{ran_lost}

-- pieces that were read one after another
pub pieces_listed : (ps : List Piece) → pieces_in (listed_before piece_made ps no_item) ≡ ps
pieces_listed [] = refl
pieces_listed (p ∷ ps) = ap (λ qs. p ∷ qs) (pieces_listed ps)

pub attributes_listed : (as' : List DirectAttribute) → attributes_in (listed_before attribute_made as' no_item) ≡ attributes_of as'
attributes_listed [] = refl
attributes_listed (a ∷ as') = ap (λ others. an_attribute a.name (attribute_parts_of a.value.items) others) (attributes_listed as')

-- what was made of what was read, or not for want of memory
pub kept_read : {A : Type 0} (f : A → Made) (t wanted : A) (a b c : Standing) (read : State → Reading Made) → Ran (f wanted) a b read → MadeOrLost t wanted b c → Ran (f t) a c read
kept_read f t wanted a b c read h (inl k) = subst (λ d. Ran (f t) a d read) (sym k.1) (subst (λ x. Ran (f x) a b read) (sym k.0) h)
kept_read f t wanted a b c read h (inr l) = ran_any (f wanted) (f t) a c read (loses_done b c l) (ran_lost (f wanted) a b c read h l)

module _ (text : List ℕ) (n : ℕ) where
  abbrev reads : Made → Standing → Standing → Phrase → Type 0
  reads v a b A = Ran v a b (read_in text n A)

  pub in_production : (p : Production) (v : Made) (a b : Standing) → Ran v a b (call text (suc n) p) → reads v a b (rule p)
  unfolding read_in
  in_production p v a b h = h

  abbrev expr : Phrase
  expr = rule (within n)

  abbrev element : Phrase
  element = rule (nested n)

  abbrev start : Token
  start = start_of n

  -- pieces

  -- a character that was read, and added to no others
  pushed : (f : List ℕ → Made) (c : ℕ) (new : List ℕ) (a b d : Standing) (A : Phrase) → reads (f (c ∷ [])) a b A → Added [] new (λ cs. Pushes c cs b d) → reads (f new) a d A
  pushed f c new a b d A h p = go p.others p.is p.holds
    where
      go : (cs : List ℕ) → new ≡ [] ++ cs → Pushes c cs b d → reads (f new) a d A
      go cs e (inl k) = subst (λ z. reads (f new) a z A) (sym k.1) (subst (λ x. reads (f x) a b A) (sym (e ∙ k.0)) h)
      go cs e (inr l) = ran_any (f (c ∷ [])) (f new) a d (read_in text n A) (loses_done b d l) (ran_lost (f (c ∷ [])) a b d (read_in text n A) h l)

  pub reference_read : (c : ℕ) (new : List ℕ) (a b d : Standing) → Ran (characters (c ∷ [])) a b (read_one reference) → Added [] new (λ cs. Pushes c cs b d) → reads (piece_made (Kept new)) a d reference_piece
  unfolding reference_piece
  reference_read c new a b d h p =
      pushed (λ cs. piece_made (Kept cs)) c new a b d reference_piece (in_made text n (λ left v. kept_piece v) (token reference) (characters (c ∷ [])) a b (in_token text n reference (characters (c ∷ [])) a b h)) p

  pub symbol_read : (w : Word) (v : Made) (c : ℕ) (new : List ℕ) (a b d : Standing) → Ran v a b (read_one (word_of w)) → Added [] new (λ cs. Pushes c cs b d) → reads (piece_made (Literal new)) a d (symbol_piece w c)
  unfolding symbol_piece
  symbol_read w v c new a b d h p =
      pushed (λ cs. piece_made (Literal cs)) c new a b d (symbol_piece w c) (in_made text n (λ left u. piece_made (Literal (c ∷ []))) (token (word_of w)) v a b (in_token text n (word_of w) v a b h)) p

  pub text_read : (r : Run) (new : List ℕ) (a b : Standing) → Added [] new (λ cs. Ran (characters cs) a b (read_one (text_run r))) → reads (piece_made (Literal new)) a b (text_piece r)
  unfolding text_piece
  text_read r new a b p =
      subst (λ cs. reads (piece_made (Literal cs)) a b (text_piece r)) (sym p.is)
      (in_made text n (λ left v. literal_piece v) (token (text_run r)) (characters p.others) a b (in_token text n (text_run r) (characters p.others) a b p.holds))

  pub cdata_read : (x y : Made) (new : List ℕ) (a b c d : Standing) → Ran x a b (read_one (word_of word.CdataOpen)) → Added [] new (λ cs. Ran (characters cs) b c (read_one cdata_text)) → Ran y c d (read_one (word_of word.TagEnd)) → reads (piece_made (Kept new)) a d cdata
  unfolding cdata
  cdata_read x y new a b c d h p k =
      subst (λ cs. reads (piece_made (Kept cs)) a d cdata) (sym p.is)
      (in_made text n (λ left v. cdata_piece v) (token (word_of word.CdataOpen) & token cdata_text & token (word_of word.TagEnd)) (pair x (pair (characters p.others) y)) a d
      (in_both text n (token (word_of word.CdataOpen)) (token cdata_text & token (word_of word.TagEnd)) x (pair (characters p.others) y) a b d (in_token text n (word_of word.CdataOpen) x a b h)
      (in_both text n (token cdata_text) (token (word_of word.TagEnd)) (characters p.others) y b c d (in_token text n cdata_text (characters p.others) b c p.holds) (in_token text n (word_of word.TagEnd) y c d k))))

  pub enclosed_read : (x y : Made) (t : SyntaxTree) (taken : Bool) (s0 s1 s2 s3 s4 s5 : Standing) → taken ≡ false → Looked taken s0 s1 (at_tokens (word_of word.TwoOpenBraces ∷ [])) → Ran x s1 s2 (read_one (word_of word.BraceOpen)) → Ran nothing s2 s3 (read_one gap)
      → Ran (tree t) s3 s4 (call text (suc n) (within n)) → Ran y s4 s5 (read_one (word_of word.CloseBrace)) → reads (piece_made (Enclosed t)) s0 s5 (brace_piece expr)
  unfolding brace_piece enclosed
  enclosed_read x y t taken s0 s1 s2 s3 s4 s5 e l h i j k =
      in_right text n (at_tokens (word_of word.TwoOpenBraces ∷ [])) (symbol_piece word.TwoOpenBraces 123) (enclosed expr) (piece_made (Enclosed t)) taken s0 s1 s5 e l
      (in_made text n (λ left v. enclosed_piece v) (token (word_of word.BraceOpen) & token gap & expr & token (word_of word.CloseBrace)) (pair x (pair nothing (pair (tree t) y))) s1 s5
      (in_both text n (token (word_of word.BraceOpen)) (token gap & expr & token (word_of word.CloseBrace)) x (pair nothing (pair (tree t) y)) s1 s2 s5 (in_token text n (word_of word.BraceOpen) x s1 s2 h)
      (in_both text n (token gap) (expr & token (word_of word.CloseBrace)) nothing (pair (tree t) y) s2 s3 s5 (in_token text n gap nothing s2 s3 i)
      (in_both text n expr (token (word_of word.CloseBrace)) (tree t) y s3 s4 s5 (in_production (within n) (tree t) s3 s4 j) (in_token text n (word_of word.CloseBrace) y s4 s5 k)))))

  pub doubled_brace : (v : Made) (taken : Bool) (a b c : Standing) → taken ≡ true → Looked taken a b (at_tokens (word_of word.TwoOpenBraces ∷ [])) → reads v b c (symbol_piece word.TwoOpenBraces 123) → reads v a c (brace_piece expr)
  unfolding brace_piece
  doubled_brace v taken a b c e l h = in_left text n (at_tokens (word_of word.TwoOpenBraces ∷ [])) (symbol_piece word.TwoOpenBraces 123) (enclosed expr) v taken a b c e l h

  module _ (r : Run) where
    abbrev no_brace : Phrase
    no_brace = choose (by_character (is 125)) (symbol_piece word.TwoCloseBraces 125) (text_piece r)

    pub plain_brace : (v : Made) (opens : Bool) (a b c : Standing) → opens ≡ true → Looked opens a b (by_character (is 123)) → reads v b c (brace_piece expr) → reads v a c (plain_piece expr r)
    unfolding plain_piece
    plain_brace v opens a b c e l h = in_left text n (by_character (is 123)) (brace_piece expr) no_brace v opens a b c e l h

    pub plain_close : (v : Made) (opens closes : Bool) (a b c d : Standing) → opens ≡ false → Looked opens a b (by_character (is 123)) → closes ≡ true → Looked closes b c (by_character (is 125)) → reads v c d (symbol_piece word.TwoCloseBraces 125) → reads v a d (plain_piece expr r)
    unfolding plain_piece
    plain_close v opens closes a b c d e l f m h =
        in_right text n (by_character (is 123)) (brace_piece expr) no_brace v opens a b d e l (in_left text n (by_character (is 125)) (symbol_piece word.TwoCloseBraces 125) (text_piece r) v closes b c d f m h)

    pub plain_text : (v : Made) (opens closes : Bool) (a b c d : Standing) → opens ≡ false → Looked opens a b (by_character (is 123)) → closes ≡ false → Looked closes b c (by_character (is 125)) → reads v c d (text_piece r) → reads v a d (plain_piece expr r)
    unfolding plain_piece
    plain_text v opens closes a b c d e l f m h =
        in_right text n (by_character (is 123)) (brace_piece expr) no_brace v opens a b d e l (in_right text n (by_character (is 125)) (symbol_piece word.TwoCloseBraces 125) (text_piece r) v closes b c d f m h)

  -- attribute values

  module _ (q : Quote) where
    abbrev no_reference : Phrase
    no_reference = choose (by_character (is (quote_of q))) (symbol_piece (doubled_of q) (quote_of q)) (plain_piece expr (run.Attribute q))

    pub value_reference : (v : Made) (taken : Bool) (a b c : Standing) → taken ≡ true → Looked taken a b (by_character (is 38)) → reads v b c reference_piece → reads v a c (value_piece expr q)
    unfolding value_piece
    value_reference v taken a b c e l h = in_left text n (by_character (is 38)) reference_piece no_reference v taken a b c e l h

    pub value_doubled : (v : Made) (symbol other : ℕ) (w : Word) (taken ends : Bool) (a b c d : Standing) → symbol ≡ quote_of q → other ≡ quote_of q → w ≡ doubled_of q → taken ≡ false → Looked taken a b (by_character (is 38)) → ends ≡ true → Looked ends b c (by_character (is symbol))
        → reads v c d (symbol_piece w other) → reads v a d (value_piece expr q)
    unfolding value_piece
    value_doubled v symbol other w taken ends a b c d i j k e l f m h =
        in_right text n (by_character (is 38)) reference_piece no_reference v taken a b d e l
        (in_left text n (by_character (is (quote_of q))) (symbol_piece (doubled_of q) (quote_of q)) (plain_piece expr (run.Attribute q)) v ends b c d f (subst (λ s. Looked ends b c (by_character (is s))) i m)
        (subst (λ s. reads v c d (symbol_piece (doubled_of q) s)) j (subst (λ x. reads v c d (symbol_piece x other)) k h)))

    pub value_plain : (v : Made) (symbol : ℕ) (taken ends : Bool) (a b c d : Standing) → symbol ≡ quote_of q → taken ≡ false → Looked taken a b (by_character (is 38)) → ends ≡ false → Looked ends b c (by_character (is symbol))
        → reads v c d (plain_piece expr (run.Attribute q)) → reads v a d (value_piece expr q)
    unfolding value_piece
    value_plain v symbol taken ends a b c d i e l f m h =
        in_right text n (by_character (is 38)) reference_piece no_reference v taken a b d e l
        (in_right text n (by_character (is (quote_of q))) (symbol_piece (doubled_of q) (quote_of q)) (plain_piece expr (run.Attribute q)) v ends b c d f (subst (λ s. Looked ends b c (by_character (is s))) i m) h)

    pub value_read : (x y : Made) (opening closing : Word) (ps : List Piece) (parts : List AttributePart) (a b c d e : Standing) → opening ≡ opening_of q → closing ≡ closing_of q → Ran x a b (read_one (word_of opening))
        → reads (listed_before piece_made ps no_item) b c (value_pieces expr q) → Ran y c d (read_one (word_of closing)) → MadeOrLost parts (attribute_value_of ps) d e → reads (node (ValueIs (attribute_parts_of parts))) a e (value_in expr q)
    unfolding value_in
    value_read x y opening closing ps parts a b c d e i j h k m p =
        kept_read (λ us. node (ValueIs (attribute_parts_of us))) parts (attribute_value_of ps) a d e (read_in text n (value_in expr q))
        (subst (λ us. reads (node (ValueIs (attribute_parts_of (attribute_value_of us)))) a d (value_in expr q)) (pieces_listed ps)
        (in_made text n (λ left v. value_made v) (token (word_of (opening_of q)) & value_pieces expr q & token (word_of (closing_of q))) (pair x (pair (listed_before piece_made ps no_item) y)) a d
        (in_both text n (token (word_of (opening_of q))) (value_pieces expr q & token (word_of (closing_of q))) x (pair (listed_before piece_made ps no_item) y) a b d (in_token text n (word_of (opening_of q)) x a b (subst (λ w. Ran x a b (read_one (word_of w))) i h))
        (in_both text n (value_pieces expr q) (token (word_of (closing_of q))) (listed_before piece_made ps no_item) y b c d k (in_token text n (word_of (closing_of q)) y c d (subst (λ w. Ran y c d (read_one (word_of w))) j m))))))
        p

  pub values_are : (q : Quote) (v : Made) (a b : Standing) → reads v a b (many (at_tokens (value_pieces_of q)) (value_piece expr q)) → reads v a b (value_pieces expr q)
  unfolding value_pieces
  values_are q v a b h = h

  pub value_double : (v : Made) (taken : Bool) (a b c : Standing) → taken ≡ true → Looked taken a b (by_character (is 34)) → reads v b c (value_in expr quote.Double) → reads v a c (attribute_value expr)
  unfolding attribute_value
  value_double v taken a b c e l h = in_left text n (by_character (is 34)) (value_in expr quote.Double) (value_in expr quote.Single) v taken a b c e l h

  pub value_single : (v : Made) (taken : Bool) (a b c : Standing) → taken ≡ false → Looked taken a b (by_character (is 34)) → reads v b c (value_in expr quote.Single) → reads v a c (attribute_value expr)
  unfolding attribute_value
  value_single v taken a b c e l h = in_right text n (by_character (is 34)) (value_in expr quote.Double) (value_in expr quote.Single) v taken a b c e l h

  -- attributes

  pub white_behind : (taken : Bool) (a b c : Standing) → taken ≡ true → Looked taken a b (at_tokens (white ∷ [])) → Ran nothing b c (read_one white) → reads nothing a c behind_attribute
  unfolding behind_attribute
  white_behind taken a b c e l h = in_left text n (at_tokens (white ∷ [])) (token white) (token no_more) nothing taken a b c e l (in_token text n white nothing b c h)

  pub nothing_behind : (taken : Bool) (a b c : Standing) → taken ≡ false → Looked taken a b (at_tokens (white ∷ [])) → Ran nothing b c (read_one no_more) → reads nothing a c behind_attribute
  unfolding behind_attribute
  nothing_behind taken a b c e l h = in_right text n (at_tokens (white ∷ [])) (token white) (token no_more) nothing taken a b c e l (in_token text n no_more nothing b c h)

  pub bare_name_read : (place : Place) (v : Made) (a b : Standing) → place ≡ place_in text (left_of a) → Ran v a b (read_one qname) → reads (node (Name (name_at place v))) a b (name (place_in text))
  unfolding name
  bare_name_read place v a b e h = subst (λ p. reads (node (Name (name_at p v))) a b (name (place_in text))) (sym e) (in_made text n (λ left u. name_value (place_in text left) u) (token qname) v a b (in_token text n qname v a b h))

  abbrev behind_name : Phrase
  behind_name = token blank & token (word_of word.Equals) & token blank & attribute_value expr & behind_attribute

  attribute_parts : (v w x y : Made) (s0 s1 s2 s3 s4 s5 s6 : Standing) → reads v s0 s1 (name (place_in text)) → Ran nothing s1 s2 (read_one blank) → Ran w s2 s3 (read_one (word_of word.Equals)) → Ran nothing s3 s4 (read_one blank)
      → reads x s4 s5 (attribute_value expr) → reads y s5 s6 behind_attribute → reads (attribute_is (pair v (pair nothing (pair w (pair nothing (pair x y)))))) s0 s6 (attribute (place_in text) expr)
  unfolding attribute
  attribute_parts v w x y s0 s1 s2 s3 s4 s5 s6 h i j k l m =
      in_made text n (λ left u. attribute_is u) (name (place_in text) & behind_name) (pair v (pair nothing (pair w (pair nothing (pair x y))))) s0 s6
      (in_both text n (name (place_in text)) behind_name v (pair nothing (pair w (pair nothing (pair x y)))) s0 s1 s6 h
      (in_both text n (token blank) (token (word_of word.Equals) & token blank & attribute_value expr & behind_attribute) nothing (pair w (pair nothing (pair x y))) s1 s2 s6 (in_token text n blank nothing s1 s2 i)
      (in_both text n (token (word_of word.Equals)) (token blank & attribute_value expr & behind_attribute) w (pair nothing (pair x y)) s2 s3 s6 (in_token text n (word_of word.Equals) w s2 s3 j)
      (in_both text n (token blank) (attribute_value expr & behind_attribute) nothing (pair x y) s3 s4 s6 (in_token text n blank nothing s3 s4 k) (in_both text n (attribute_value expr) behind_attribute x y s4 s5 s6 l m)))))

  pub attribute_read : (q : QName) (parts : List AttributePart) (w y : Made) (s0 s1 s2 s3 s4 s5 s6 : Standing) → reads (node (Name q)) s0 s1 (name (place_in text)) → Ran nothing s1 s2 (read_one blank) → Ran w s2 s3 (read_one (word_of word.Equals)) → Ran nothing s3 s4 (read_one blank)
      → reads (node (ValueIs (attribute_parts_of parts))) s4 s5 (attribute_value expr) → reads y s5 s6 behind_attribute → reads (attribute_is (pair (node (Name q)) (pair nothing (pair w (pair nothing (pair (node (ValueIs (attribute_parts_of parts))) y)))))) s0 s6 (attribute (place_in text) expr)
  attribute_read q parts w y s0 s1 s2 s3 s4 s5 s6 h i j k l m = attribute_parts (node (Name q)) w (node (ValueIs (attribute_parts_of parts))) y s0 s1 s2 s3 s4 s5 s6 h i j k l m

  -- where the name was not read
  pub attribute_stops : (v w : Made) (a b : Standing) → IsDone b → reads v a b (name (place_in text)) → reads w a b (attribute (place_in text) expr)
  unfolding attribute
  attribute_stops v w a b d h =
      ran_any (attribute_is (pair v nothing)) w a b (read_in text n (attribute (place_in text) expr)) d
      (in_made text n (λ left u. attribute_is u) (name (place_in text) & behind_name) (pair v nothing) a b (in_both text n (name (place_in text)) behind_name v nothing a b b h (ran_idle nothing b (read_in text n behind_name) d)))

  pub attributes_read : (as' : List DirectAttribute) (a b c : Standing) → Ran nothing a b (read_one blank) → reads (listed_before attribute_made as' no_item) b c (many (by_character is_ncname_start) (attribute (place_in text) expr)) → reads (node (AttributesAre (attributes_of as'))) a c (attributes (place_in text) expr)
  unfolding attributes
  attributes_read as' a b c h k =
      subst (λ us. reads (node (AttributesAre us)) a c (attributes (place_in text) expr)) (attributes_listed as')
      (in_made text n (λ left v. attributes_are v) (token blank & many (by_character is_ncname_start) (attribute (place_in text) expr)) (pair nothing (listed_before attribute_made as' no_item)) a c
      (in_both text n (token blank) (many (by_character is_ncname_start) (attribute (place_in text) expr)) nothing (listed_before attribute_made as' no_item) a b c (in_token text n blank nothing a b h) k))

  -- content

  abbrev no_ampersand : Phrase
  no_ampersand = choose (by_character (is 60)) (choose (at_tokens (word_of word.CdataOpen ∷ [])) cdata (made (λ left v. element_piece v) element)) (plain_piece expr run.Content)

  pub content_reference : (v : Made) (taken : Bool) (a b c : Standing) → taken ≡ true → Looked taken a b (by_character (is 38)) → reads v b c reference_piece → reads v a c (content_piece expr element)
  unfolding content_piece
  content_reference v taken a b c e l h = in_left text n (by_character (is 38)) reference_piece no_ampersand v taken a b c e l h

  pub content_plain : (v : Made) (taken less : Bool) (a b c d : Standing) → taken ≡ false → Looked taken a b (by_character (is 38)) → less ≡ false → Looked less b c (by_character (is 60)) → reads v c d (plain_piece expr run.Content) → reads v a d (content_piece expr element)
  unfolding content_piece
  content_plain v taken less a b c d e l f m h =
      in_right text n (by_character (is 38)) reference_piece no_ampersand v taken a b d e l
      (in_right text n (by_character (is 60)) (choose (at_tokens (word_of word.CdataOpen ∷ [])) cdata (made (λ left u. element_piece u) element)) (plain_piece expr run.Content) v less b c d f m h)

  pub content_cdata : (v : Made) (taken less opens : Bool) (a b c d e : Standing) → taken ≡ false → Looked taken a b (by_character (is 38)) → less ≡ true → Looked less b c (by_character (is 60)) → opens ≡ true → Looked opens c d (at_tokens (word_of word.CdataOpen ∷ [])) → reads v d e cdata → reads v a e (content_piece expr element)
  unfolding content_piece
  content_cdata v taken less opens a b c d e i l f m j o h =
      in_right text n (by_character (is 38)) reference_piece no_ampersand v taken a b e i l
      (in_left text n (by_character (is 60)) (choose (at_tokens (word_of word.CdataOpen ∷ [])) cdata (made (λ left u. element_piece u) element)) (plain_piece expr run.Content) v less b c e f m
      (in_left text n (at_tokens (word_of word.CdataOpen ∷ [])) cdata (made (λ left u. element_piece u) element) v opens c d e j o h))

  pub content_element : (t : SyntaxTree) (taken less opens : Bool) (a b c d e : Standing) → taken ≡ false → Looked taken a b (by_character (is 38)) → less ≡ true → Looked less b c (by_character (is 60)) → opens ≡ false → Looked opens c d (at_tokens (word_of word.CdataOpen ∷ []))
      → Ran (tree t) d e (call text (suc n) (nested n)) → reads (piece_made (Element t)) a e (content_piece expr element)
  unfolding content_piece
  content_element t taken less opens a b c d e i l f m j o h =
      in_right text n (by_character (is 38)) reference_piece no_ampersand (piece_made (Element t)) taken a b e i l
      (in_left text n (by_character (is 60)) (choose (at_tokens (word_of word.CdataOpen ∷ [])) cdata (made (λ left u. element_piece u) element)) (plain_piece expr run.Content) (piece_made (Element t)) less b c e f m
      (in_right text n (at_tokens (word_of word.CdataOpen ∷ [])) cdata (made (λ left u. element_piece u) element) (piece_made (Element t)) opens c d e j o
      (in_made text n (λ left u. element_piece u) element (tree t) d e (in_production (nested n) (tree t) d e h))))

  pub contents_are : (v : Made) (a b : Standing) → reads v a b (many (at_tokens (content_pieces_of start)) (content_piece expr element)) → reads v a b (content_pieces expr element start)
  unfolding content_pieces
  contents_are v a b h = h

  pub content_read : (ps : List Piece) (parts : List Part) (a b c : Standing) → reads (listed_before piece_made ps no_item) a b (content_pieces expr element start) → MadeOrLost parts (content_of_pieces ps) b c → reads (node (PartsAre (parts_of parts))) a c (content expr element start)
  unfolding content
  content_read ps parts a b c h k =
      kept_read (λ us. node (PartsAre (parts_of us))) parts (content_of_pieces ps) a b c (read_in text n (content expr element start))
      (subst (λ us. reads (node (PartsAre (parts_of (content_of_pieces us)))) a b (content expr element start)) (pieces_listed ps) (in_made text n (λ left v. content_made v) (content_pieces expr element start) (listed_before piece_made ps no_item) a b h)) k

  pub end_tag_read : (x y v : Made) (letters : List ℕ) (a b c d e : Standing) → letters ≡ letters_in v → Ran x a b (read_one (word_of word.EndTagOpen)) → Ran nothing b c (read_one (tag_name letters)) → Ran nothing c d (read_one blank) → Ran y d e (read_one (word_of word.TagEnd))
      → reads (pair x (pair nothing (pair nothing y))) a e (end_tag v)
  unfolding end_tag
  end_tag_read x y v letters a b c d e i h j k l =
      in_both text n (token (word_of word.EndTagOpen)) (token (tag_name (letters_in v)) & token blank & token (word_of word.TagEnd)) x (pair nothing (pair nothing y)) a b e (in_token text n (word_of word.EndTagOpen) x a b h)
      (in_both text n (token (tag_name (letters_in v))) (token blank & token (word_of word.TagEnd)) nothing (pair nothing y) b c e (in_token text n (tag_name (letters_in v)) nothing b c (subst (λ cs. Ran nothing b c (read_one (tag_name cs))) i j))
      (in_both text n (token blank) (token (word_of word.TagEnd)) nothing y c d e (in_token text n blank nothing c d k) (in_token text n (word_of word.TagEnd) y d e l)))

  -- where memory did not suffice for the name
  pub end_tag_lost : (x w v : Made) (a b c : Standing) → Ran x a b (read_one (word_of word.EndTagOpen)) → Loses b c → reads w a c (end_tag v)
  unfolding end_tag
  end_tag_lost x w v a b c h l =
      ran_any (pair x nothing) w a c (read_in text n (end_tag v)) (loses_done b c l)
      (in_both text n (token (word_of word.EndTagOpen)) (token (tag_name (letters_in v)) & token blank & token (word_of word.TagEnd)) x nothing a b c (in_token text n (word_of word.EndTagOpen) x a b h)
      (loses_ran nothing b c (read_in text n (token (tag_name (letters_in v)) & token blank & token (word_of word.TagEnd))) l))

  pub no_content_read : (v w : Made) (parts : List Part) (taken : Bool) (a b c : Standing) → parts ≡ [] → taken ≡ true → Looked taken a b (by_character (is 47)) → Ran w b c (read_one (word_of word.EmptyTagEnd)) → reads (node (PartsAre (parts_of parts))) a c (content_if_any expr element start v)
  unfolding content_if_any no_content
  no_content_read v w parts taken a b c i e l h =
      subst (λ ps. reads (node (PartsAre (parts_of ps))) a c (content_if_any expr element start v)) (sym i)
      (in_left text n (by_character (is 47)) no_content (filled expr element start v) (node (PartsAre (parts_of []))) taken a b c e l
      (in_made text n (λ left u. node (PartsAre (parts_of []))) (token (word_of word.EmptyTagEnd)) w b c (in_token text n (word_of word.EmptyTagEnd) w b c h)))

  pub filled_read : (v x y p : Made) (taken : Bool) (a b c d e : Standing) → taken ≡ false → Looked taken a b (by_character (is 47)) → Ran x b c (read_one (word_of word.TagEnd)) → reads p c d (content expr element start) → reads y d e (end_tag v) → reads p a e (content_if_any expr element start v)
  unfolding content_if_any filled
  filled_read v x y p taken a b c d e i l h j k =
      in_right text n (by_character (is 47)) no_content (filled expr element start v) p taken a b e i l
      (in_made text n (λ left u. filled_value u) (token (word_of word.TagEnd) & content expr element start & end_tag v) (pair x (pair p y)) b e
      (in_both text n (token (word_of word.TagEnd)) (content expr element start & end_tag v) x (pair p y) b c e (in_token text n (word_of word.TagEnd) x b c h) (in_both text n (content expr element start) (end_tag v) p y c d e j k)))

  -- elements

  abbrev behind_the_name : Made → Phrase
  behind_the_name v = behind_tag (place_in text) expr element start v

  pub element_read : (place named : Place) (left : ℕ) (x v : Made) (as' : List DirectAttribute) (ps : List Part) (s0 s1 s2 s3 s4 : Standing) → left ≡ left_of s0 → place ≡ place_in text left → named ≡ place_in text (left - 1) → Ran x s0 s1 (read_one (word_of word.TagOpen)) → Ran v s1 s2 (read_one qname)
      → reads (node (AttributesAre (attributes_of as'))) s2 s3 (attributes (place_in text) expr) → reads (node (PartsAre (parts_of ps))) s3 s4 (content_if_any expr element start v) → reads (tree (located place (direct (name_at named v) (attributes_of as') (parts_of ps)))) s0 s4 (element_at (place_in text) n)
  unfolding element_at element_of behind_tag
  element_read place named left x v as' ps s0 s1 s2 s3 s4 e f g h i j k =
      subst (λ q. reads (tree (located q (direct (name_at named v) (attributes_of as') (parts_of ps)))) s0 s4 (element_at (place_in text) n)) (sym (f ∙ ap (place_in text) e))
      (subst (λ q. reads (tree (located (place_in text (left_of s0)) (direct (name_at q v) (attributes_of as') (parts_of ps)))) s0 s4 (element_at (place_in text) n)) (sym (g ∙ ap (λ l. place_in text (l - 1)) e))
      (in_made text n (λ l u. element_value (place_in text l) (place_in text (l - 1)) u) (token (word_of word.TagOpen) & keyed qname (behind_tag (place_in text) expr element start)) (pair x (pair v (pair (node (AttributesAre (attributes_of as'))) (node (PartsAre (parts_of ps)))))) s0 s4
      (in_both text n (token (word_of word.TagOpen)) (keyed qname (behind_tag (place_in text) expr element start)) x (pair v (pair (node (AttributesAre (attributes_of as'))) (node (PartsAre (parts_of ps))))) s0 s1 s4 (in_token text n (word_of word.TagOpen) x s0 s1 h)
      (in_keyed text n qname (behind_tag (place_in text) expr element start) v (pair (node (AttributesAre (attributes_of as'))) (node (PartsAre (parts_of ps)))) s1 s2 s4 i
      (in_both text n (attributes (place_in text) expr) (content_if_any expr element start v) (node (AttributesAre (attributes_of as'))) (node (PartsAre (parts_of ps))) s2 s3 s4 j k)))))

  pub element_stops : (x : Made) (w : Made) (s0 s1 s2 : Standing) → Ran x s0 s1 (read_one (word_of word.TagOpen)) → IsDone s2 × ((v : Made) → Ran v s1 s2 (read_one qname)) → reads w s0 s2 (element_at (place_in text) n)
  unfolding element_at element_of
  element_stops x w s0 s1 s2 h k =
      ran_any (element_value (place_in text (left_of s0)) (place_in text (left_of s0 - 1)) (pair x (pair nothing nothing))) w s0 s2 (read_in text n (element_at (place_in text) n)) k.0
      (in_made text n (λ l u. element_value (place_in text l) (place_in text (l - 1)) u) (token (word_of word.TagOpen) & keyed qname (behind_tag (place_in text) expr element start)) (pair x (pair nothing nothing)) s0 s2
      (in_both text n (token (word_of word.TagOpen)) (keyed qname (behind_tag (place_in text) expr element start)) x (pair nothing nothing) s0 s1 s2 (in_token text n (word_of word.TagOpen) x s0 s1 h)
      (in_keyed text n qname (behind_tag (place_in text) expr element start) nothing nothing s1 s2 s2 (k.1 nothing) (ran_idle nothing s2 (read_in text n (behind_the_name nothing)) k.0))))

  pub direct_read : (t : SyntaxTree) (a b c : Standing) → reads (tree t) a b (element_at (place_in text) n) → Ran nothing b c (read_one gap) → reads (tree t) a c (direct_step (place_in text) n)
  unfolding direct_step
  direct_read t a b c h k = in_made text n (λ left v. first_value v) (element_at (place_in text) n & token gap) (pair (tree t) nothing) a c (in_both text n (element_at (place_in text) n) (token gap) (tree t) nothing a b c h (in_token text n gap nothing b c k))

  -- an expression in braces, and an element in content, by level

  within_is : (v : Made) (a b : Standing) → reads v a b (expression (place_in text) n) → Ran v a b (call text (suc (suc n)) (within (suc n)))
  unfolding call read_in
  within_is v a b h = h

  pub within_read : (levels less : ℕ) (v : Made) (a b : Standing) → levels ≡ suc n → less ≡ n → Ran v a b (read_in text less (expression (place_in text) less)) → Ran v a b (call text (suc levels) (within levels))
  within_read levels less v a b e f h = subst (λ l. Ran v a b (call text (suc l) (within l))) (sym e) (within_is v a b (subst (λ l. Ran v a b (read_in text l (expression (place_in text) l))) f h))

  nested_is : (v : Made) (a b : Standing) → Ran v a b (read_in text (suc n) (element_at (place_in text) (suc n))) → Ran v a b (call text (suc (suc (suc n))) (nested (suc (suc n))))
  unfolding call read_in
  nested_is v a b h = h

barred_within : (text : List ℕ) (a b : Standing) → Ran nothing a b (read_one (barred barrier.Single)) → Ran nothing a b (call text (suc zero) (within zero))
unfolding call read_one
barred_within text a b h = h

barred_nested : (text : List ℕ) (a b : Standing) → Ran nothing a b (read_one no_element) → Ran nothing a b (call text (suc zero) (nested zero))
unfolding call read_one
barred_nested text a b h = h

barred_child : (text : List ℕ) (a b : Standing) → Ran nothing a b (read_one no_element) → Ran nothing a b (call text (suc (suc zero)) (nested (suc zero)))
unfolding call read_one
barred_child text a b h = h

pub within_none : (text : List ℕ) (levels : ℕ) (v : Made) (a b : Standing) → levels ≡ 0 → Ran nothing a b (read_one (barred barrier.Single)) → IsDone b → Ran v a b (call text (suc levels) (within levels))
within_none text levels v a b e h d = subst (λ l. Ran v a b (call text (suc l) (within l))) (sym e) (ran_any nothing v a b (call text (suc zero) (within zero)) d (barred_within text a b h))

pub nested_none : (text : List ℕ) (levels : ℕ) (v : Made) (a b : Standing) → levels < 2 → Ran nothing a b (read_one no_element) → IsDone b → Ran v a b (call text (suc levels) (nested levels))
nested_none text zero v a b e h d = ran_any nothing v a b (call text (suc zero) (nested zero)) d (barred_nested text a b h)
nested_none text (suc zero) v a b e h d = ran_any nothing v a b (call text (suc (suc zero)) (nested (suc zero))) d (barred_child text a b h)
nested_none text (suc (suc levels)) v a b e h d = absurd (omega (arith, e))

-- a level below one that is at least 2
pub nested_read : (text : List ℕ) (levels less : ℕ) (v : Made) (a b : Standing) → 2 ≤ levels → less ≡ levels - 1 → Ran v a b (read_in text less (element_at (place_in text) less)) → Ran v a b (call text (suc levels) (nested levels))
nested_read text zero less v a b e f h = absurd (omega (arith, e))
nested_read text (suc zero) less v a b e f h = absurd (omega (arith, e))
nested_read text (suc (suc levels)) less v a b e f h = nested_is text levels v a b (subst (λ l. Ran v a b (read_in text l (element_at (place_in text) l))) (let q : less ≡ suc levels = omega (arith, f) in q) h)
