-- The tokens of documents keep their laws.
use Rattle.std.proofs.Common.{◌≡◌, ◌≢◌, ℕ, ◌<◌, Bool, true, false, if◌then◌else◌, List, [], ◌∷◌, ◌++◌, ◌⊎◌, inl, inr, length, length-append, refl, sym, ap, ◌∙◌, codes, Option, Some, None, arith}
use Rattle.std.specs.Prelude.{◌==◌, ◌||◌, ◌&&◌, is_some, is_none, bytes_eq, not}
use Rattle.std.specs.List.{list_all}
use Rattle.gx_grammar.specs.Value.{nothing, characters}
use Rattle.gx_grammar.specs.Laws.{LawfulTokens}
use Rattle.gx_grammar.specs.First.{head_passes}
use Rattle.std.proofs.lemmas.Bool.Decides.{nat_tests}
use Rattle.gx_grammar.specs.Tokens.{LawfulToken, IsFrontOf, no_fault, strip, unless_passes, scan_word}
use Rattle.gx_grammar.specs.Walks.{Walk, IsWalk, opens_walk, scan_walk, seen_walk, head_goes, all_walk}
use Rattle.gx_grammar.specs.Words.{Entry, IsOneOf, OpensOneOf, scan_one_of, seen_one_of, spellings, or_else}
use Rattle.gx_grammar.specs.Apart.{all_words_apart}
use Rattle.gx_grammar.specs.Joined.{Tells}
use Rattle.gx_grammar.proofs.PublicLaws.{lawful_fitting, lawful_one_of, lawful_optional, lawful_tokens, lawful_walk, lawful_word}
use Rattle.gx_tree.specs.Binding.{xmlns}
use Rattle.gx_xml.specs.declared.runs.Quote.TheVariants as quote
use Rattle.gx_xml.specs.declared.runs.Run.TheVariants as run_of
use Rattle.gx_xml.specs.declared.marks.Choice.{Choice}
use Rattle.gx_xml.specs.declared.marks.Choice.TheVariants as choice_of
use Rattle.gx_xml.specs.declared.marks.Maybe.{Maybe}
use Rattle.gx_xml.specs.declared.marks.Maybe.TheVariants as maybe
use Rattle.gx_xml.specs.declared.marks.Mark.TheVariants as mark
use Rattle.gx_xml.specs.Runs.{walk_for}
use Rattle.gx_xml.specs.Nodes.{Made, mark_value, run_in, has_some}
use Rattle.gx_xml.specs.Marks.{choice_words, named_entities, maybe_words, no_character, begins_markup}
use Rattle.gx_xml.specs.Tokens.{Token, symbol, run, maybe_run, target, declared_prefix, numeral, choice, maybe_choice, tag_end, prolog_mark, derives, opens, scan, seen, faults, takes, stood, is_target, names_character, numeral_value, if_stands, doctype}
use Rattle.gx_xml.specs.Grammar.{documents}

-- no two words of a choice stand at one place
words_apart : (c : Choice) → all_words_apart (spellings (choice_words c)) ≡ true
unfolding choice_words named_entities
words_apart choice_of.DeclarationStart = refl
words_apart (choice_of.Declaration false encoding) = refl
words_apart (choice_of.Declaration true false) = refl
words_apart (choice_of.Declaration true true) = refl
words_apart choice_of.Quote = refl
words_apart choice_of.Encoding = refl
words_apart choice_of.Answer = refl
words_apart choice_of.Prolog = refl
words_apart choice_of.Epilog = refl
words_apart choice_of.TagEnd = refl
words_apart (choice_of.Value quote.Double false false) = refl
words_apart (choice_of.Value quote.Double false true) = refl
words_apart (choice_of.Value quote.Double true false) = refl
words_apart (choice_of.Value quote.Double true true) = refl
words_apart (choice_of.Value quote.Single false false) = refl
words_apart (choice_of.Value quote.Single false true) = refl
words_apart (choice_of.Value quote.Single true false) = refl
words_apart (choice_of.Value quote.Single true true) = refl
words_apart (choice_of.Reference false) = refl
words_apart (choice_of.Reference true) = refl
words_apart choice_of.Content = refl

-- each word has a character
abbrev full : Entry Made → Bool
full e = has_some e.spelling.word

words_full : (c : Choice) → list_all full (choice_words c) ≡ true
unfolding choice_words named_entities
words_full choice_of.DeclarationStart = refl
words_full (choice_of.Declaration false encoding) = refl
words_full (choice_of.Declaration true false) = refl
words_full (choice_of.Declaration true true) = refl
words_full choice_of.Quote = refl
words_full choice_of.Encoding = refl
words_full choice_of.Answer = refl
words_full choice_of.Prolog = refl
words_full choice_of.Epilog = refl
words_full choice_of.TagEnd = refl
words_full (choice_of.Value quote.Double false false) = refl
words_full (choice_of.Value quote.Double false true) = refl
words_full (choice_of.Value quote.Double true false) = refl
words_full (choice_of.Value quote.Double true true) = refl
words_full (choice_of.Value quote.Single false false) = refl
words_full (choice_of.Value quote.Single false true) = refl
words_full (choice_of.Value quote.Single true false) = refl
words_full (choice_of.Value quote.Single true true) = refl
words_full (choice_of.Reference false) = refl
words_full (choice_of.Reference true) = refl
words_full choice_of.Content = refl

and_parts : (a b : Bool) → (a && b) ≡ true → (a ≡ true) × (b ≡ true)
and_parts true b e = (refl, e)
and_parts false b e = absurd (cc)

one_taken : (es : List (Entry Made)) (v : Made) (x y : List ℕ) → list_all full es ≡ true → IsOneOf es v x y → length y < length x
one_taken [] v x y f d = absurd d
one_taken (e ∷ es) v x y f (inl d) = word_taken e.spelling.word (and_parts (full e) (list_all full es) f).0 d.spelled
  where
    word_taken : (w : List ℕ) → has_some w ≡ true → x ≡ w ++ y → length y < length x
    word_taken [] g h = absurd (cc)
    word_taken (c ∷ w) g h = omega (arith, ap length h, length-append (c ∷ w) y)
one_taken (e ∷ es) v x y f (inr d) = one_taken es v x y (and_parts (full e) (list_all full es) f).1 d

walk_taken : {w : Walk} {n : ℕ} {v : Made} {x y : List ℕ} → IsWalk characters w n v x y → length y < length x
walk_taken {w = w} {n = n} {v = v} {x = x} {y = y} d = go d.run d.full d.spelled
  where
    go : (r : List ℕ) → r ≢ [] → x ≡ r ++ y → length y < length x
    go [] f e = absurd (f refl)
    go (c ∷ r) f e = omega (arith, ap length e, length-append (c ∷ r) y)

pub tokens_taken : (t : Token) (v : Made) (x y : List ℕ) → takes t ≡ true → derives t v x y → length y < length x
tokens_taken (symbol []) v x y e d = absurd (cc)
tokens_taken (symbol (c ∷ w)) v x y e d = omega (arith, ap length d.spelled, length-append (c ∷ w) y)
tokens_taken (run r n) v x y e d = walk_taken d
tokens_taken (maybe_run r n) v x y e d = absurd (cc)
tokens_taken target v x y e d = walk_taken d.stands
tokens_taken declared_prefix v x y e d = walk_taken d.stands
tokens_taken (numeral b k) v x y e d = walk_taken d.stands
tokens_taken (choice c) v x y e d = one_taken (choice_words c) v x y (words_full c) d
tokens_taken (maybe_choice m) v x y e d = absurd (cc)
tokens_taken (tag_end f) v x y e d = one_taken (choice_words choice_of.TagEnd) v x y (words_full choice_of.TagEnd) d.stands
tokens_taken prolog_mark v x y e d = one_taken (choice_words choice_of.Prolog) v x y (words_full choice_of.Prolog) d

-- a run starts where its first character may stand
walk_tells : (w : Walk) (n : ℕ) → Tells (IsWalk {V = Made} characters w n) (opens_walk w n) (head_goes w n)
walk_tells w n = record {
  begins = λ v x y d. begins x y d.run d.full d.spelled d.walks;
  stays = stays;
  grows = grows;
  empty = refl;
}
  where
    begins : (x y r : List ℕ) → r ≢ [] → x ≡ r ++ y → all_walk w n r ≡ true → head_goes w n x ≡ true
    begins x y [] f e g = absurd (f refl)
    begins x y (c ∷ r) f e g = ap (head_goes w n) e ∙ (and_parts (w.goes n c) (all_walk w (w.next n c) r) g).0

    stays : (x z : List ℕ) → head_goes w n (x ++ z) ≡ false → head_goes w n x ≡ false
    stays [] z e = refl
    stays (c ∷ x) z e = e

    grows : (x z : List ℕ) → head_goes w n x ≡ false → (head_goes w n (x ++ z) ≡ false) ⊎ opens_walk w n x
    grows [] z e = inr refl
    grows (c ∷ x) z e = inl e

same_number : (c d : ℕ) → (c == d) ≡ true → c ≡ d
same_number c d e = grind (arith, nat_tests, e)

-- words without a test stand, whatever follows

abbrev plain : Entry Made → List ℕ → Bool
plain e x = is_some (strip e.spelling.word x)

abbrev any_plain : List (Entry Made) → List ℕ → Bool
any_plain [] x = false
any_plain (e ∷ es) x = plain e x || any_plain es x

strip_more : (w x z : List ℕ) → is_some (strip w x) ≡ true → is_some (strip w (x ++ z)) ≡ true
strip_more [] x z e = refl
strip_more (c ∷ w) [] z e = absurd (cc)
strip_more (c ∷ w) (d ∷ x) z e = go (strip_more w x z) (c == d) refl e
  where
    go : (is_some (strip w x) ≡ true → is_some (strip w (x ++ z)) ≡ true) → (b : Bool) → (c == d) ≡ b → is_some (if b then (strip w x) else None) ≡ true → is_some (if (c == d) then (strip w (x ++ z)) else None) ≡ true
    go more true f h = rw f (more h)
    go more false f h = absurd (cc)

strip_opens : (w x z : List ℕ) → is_some (strip w x) ≡ false → is_some (strip w (x ++ z)) ≡ true → IsFrontOf x w
strip_opens w [] z e f = (w, refl)
strip_opens [] (d ∷ x) z e f = absurd (cc)
strip_opens (c ∷ w) (d ∷ x) z e f = go (strip_opens w x z) (c == d) refl e f
  where
    go : (is_some (strip w x) ≡ false → is_some (strip w (x ++ z)) ≡ true → IsFrontOf x w) → (b : Bool) → (c == d) ≡ b → is_some (if b then (strip w x) else None) ≡ false → is_some (if (c == d) then (strip w (x ++ z)) else None) ≡ true → IsFrontOf (d ∷ x) (c ∷ w)
    go more true g h k =
        let r = more h (let q : is_some (strip w (x ++ z)) ≡ true = rw g at k in q) in
        let same : c ≡ d = same_number c d g in
        (r.0, ap (λ a. a ∷ w) same ∙ ap (λ u. d ∷ u) r.1)
    go more false g h k = let q : is_some {T = List ℕ} None ≡ true = rw g at k in absurd (cc)

-- no word has a test
abbrev untested : List (Entry Made) → Type 0
untested [] = Unit {0}
untested (e ∷ es) = (e.spelling.test ≡ no_character) × untested es

no_head : (y : List ℕ) → head_passes no_character y ≡ false
no_head [] = refl
no_head (c ∷ y) = refl

word_some : (v : Made) (test : ℕ → Bool) (o : Option (List ℕ)) → test ≡ no_character → is_some (unless_passes v test o) ≡ is_some o
word_some v test None e = refl
word_some v test (Some y) e = ap (λ b. is_some {T = Made × List ℕ} (if b then None else (Some (v, y)))) (ap (λ t. head_passes t y) e ∙ no_head y)

either_some : (a b : Option (Made × List ℕ)) → is_some (or_else a b) ≡ (is_some a || is_some b)
either_some (Some r) b = refl
either_some None b = refl

stood_plain : (es : List (Entry Made)) (x : List ℕ) → untested es → is_some (scan_one_of es x) ≡ any_plain es x
stood_plain [] x u = refl
stood_plain (e ∷ es) x u =
    either_some (scan_word e.value e.spelling.word e.spelling.test x) (scan_one_of es x)
    ∙ ap (λ b. b || is_some (scan_one_of es x)) (word_some e.value e.spelling.test (strip e.spelling.word x) u.0) ∙ ap (λ b. plain e x || b) (stood_plain es x u.1)

pub or_parts : (a b : Bool) → (a || b) ≡ false → (a ≡ false) × (b ≡ false)
or_parts true b e = absurd (cc)
or_parts false b e = (refl, e)

plain_stays : (es : List (Entry Made)) (x z : List ℕ) → any_plain es (x ++ z) ≡ false → any_plain es x ≡ false
plain_stays [] x z e = refl
plain_stays (w ∷ es) x z e = go (plain_stays es x z) (plain w x) refl (or_parts (plain w (x ++ z)) (any_plain es (x ++ z)) e)
  where
    go : (any_plain es (x ++ z) ≡ false → any_plain es x ≡ false) → (b : Bool) → plain w x ≡ b → (plain w (x ++ z) ≡ false) × (any_plain es (x ++ z) ≡ false) → (b || any_plain es x) ≡ false
    go more true f p = let q = strip_more w.spelling.word x z f in let r = p.0 in absurd (cc (q, r))
    go more false f p = more p.1

plain_grows : (es : List (Entry Made)) (x z : List ℕ) → any_plain es x ≡ false → (any_plain es (x ++ z) ≡ false) ⊎ OpensOneOf es x
plain_grows [] x z e = inl refl
plain_grows (w ∷ es) x z e = go (plain_grows es x z) (plain w (x ++ z)) refl (or_parts (plain w x) (any_plain es x) e)
  where
    go : (any_plain es x ≡ false → (any_plain es (x ++ z) ≡ false) ⊎ OpensOneOf es x) → (b : Bool) → plain w (x ++ z) ≡ b → (plain w x ≡ false) × (any_plain es x ≡ false) → ((b || any_plain es (x ++ z)) ≡ false) ⊎ (IsFrontOf x w.spelling.word ⊎ OpensOneOf es x)
    go more true f p = inr (inl (strip_opens w.spelling.word x z p.0 f))
    go more false f p = elim (more p.1) [ inl g ↦ inl g | inr o ↦ inr (inr o) ]

maybe_untested : (m : Maybe) → untested (choice_words (maybe_words m))
unfolding choice_words
maybe_untested maybe.DeclarationStart = (refl, (refl, (refl, (refl, tt))))
maybe_untested maybe.Epilog = (refl, (refl, tt))

maybe_empty : (m : Maybe) → OpensOneOf (choice_words (maybe_words m)) []
unfolding choice_words
maybe_empty maybe.DeclarationStart = inl (_, refl)
maybe_empty maybe.Epilog = inl (_, refl)

choice_lawful : (c : Choice) → LawfulToken (IsOneOf (choice_words c)) (OpensOneOf (choice_words c)) (scan_one_of (choice_words c)) (seen_one_of (choice_words c)) no_fault
choice_lawful c = lawful_one_of (choice_words c) (words_apart c)

maybe_tells : (m : Maybe) → Tells (IsOneOf (choice_words (maybe_words m))) (OpensOneOf (choice_words (maybe_words m))) (stood (maybe_words m))
maybe_tells m =
    let es = choice_words (maybe_words m) in
    record {
      begins = λ v x y d. ap is_some ((choice_lawful (maybe_words m)).complete v x y d);
      stays = λ x z e. stood_plain es x (maybe_untested m) ∙ plain_stays es x z (sym (stood_plain es (x ++ z) (maybe_untested m)) ∙ e);
      grows = λ x z e. elim (plain_grows es x z (sym (stood_plain es x (maybe_untested m)) ∙ e)) [ inl g ↦ inl (stood_plain es (x ++ z) (maybe_untested m) ∙ g) | inr o ↦ inr o ];
      empty = maybe_empty m;
    }

-- faults

faultless_end : (fault : Option ℕ) (o : Option (Made × List ℕ)) → is_none fault ≡ true → if_stands o fault ≡ None
faultless_end None None e = refl
faultless_end None (Some r) e = refl
faultless_end (Some k) o e = absurd (cc)

no_bang : (c : ℕ) → begins_markup c ≡ false → (33 == c) ≡ false
no_bang c e = grind (arith, nat_tests, or_parts (c == 33) ((c == 47) || (c == 63)) e)

-- where the root may stand, no document type declaration does
no_doctype : (v : Made) (x y : List ℕ) → IsOneOf (choice_words choice_of.Prolog) v x y → if_stands (strip (codes "<!DOCTYPE") x) (Some doctype) ≡ None
unfolding choice_words
no_doctype v x y (inl d) = ap (λ q. if_stands (strip (codes "<!DOCTYPE") q) (Some doctype)) d.spelled
no_doctype v x y (inr (inl d)) = ap (λ q. if_stands (strip (codes "<!DOCTYPE") q) (Some doctype)) d.spelled
no_doctype v x y (inr (inr (inl d))) = ap (λ q. if_stands (strip (codes "<!DOCTYPE") q) (Some doctype)) d.spelled ∙ go y d.ended
  where
    go : (y : List ℕ) → head_passes begins_markup y ≡ false → if_stands (strip (codes "!DOCTYPE") y) (Some doctype) ≡ None
    go [] e = refl
    go (c ∷ y) e = ap (λ b. if_stands (if b then (strip (codes "DOCTYPE") y) else None) (Some doctype)) (no_bang c e)
no_doctype v x y (inr (inr (inr d))) = absurd d

prolog_lawful : LawfulToken (derives prolog_mark) (opens prolog_mark) (scan prolog_mark) (seen prolog_mark) (faults prolog_mark)
prolog_lawful =
    let base = choice_lawful choice_of.Prolog in
    record {
      sound = base.sound;
      complete = base.complete;
      ends = base.ends;
      cut = base.cut;
      goes_on = base.goes_on;
      fronts = base.fronts;
      sees = base.sees;
      longest = base.longest;
      firm = no_doctype;
      faultless = refl;
    }

tag_end_at_end : (fault : Option ℕ) → if_stands (scan_one_of (choice_words choice_of.TagEnd) []) fault ≡ None
unfolding choice_words
tag_end_at_end fault = refl

token_lawful : (t : Token) → LawfulToken {V = Made} (derives t) (opens t) (scan t) (seen t) (faults t)
token_lawful (symbol w) = lawful_word nothing w no_character
token_lawful (run r n) = lawful_walk characters (walk_for r) n
token_lawful (maybe_run r n) =
    lawful_optional (IsWalk characters (walk_for r) n) (opens_walk (walk_for r) n) (scan_walk characters (walk_for r) n) (seen_walk (walk_for r) n) (lawful_walk characters (walk_for r) n)
    (head_goes (walk_for r) n) (characters []) (walk_tells (walk_for r) n)
token_lawful target =
    lawful_fitting (IsWalk characters (walk_for run_of.Name) 0) (opens_walk (walk_for run_of.Name) 0) (scan_walk characters (walk_for run_of.Name) 0) (seen_walk (walk_for run_of.Name) 0) no_fault
    (lawful_walk characters (walk_for run_of.Name) 0) (λ v. is_target (run_in v)) (λ x. None) (λ v x y d e. refl) refl
token_lawful declared_prefix =
    lawful_fitting (IsWalk characters (walk_for run_of.Name) 0) (opens_walk (walk_for run_of.Name) 0) (scan_walk characters (walk_for run_of.Name) 0) (seen_walk (walk_for run_of.Name) 0) no_fault
    (lawful_walk characters (walk_for run_of.Name) 0) (λ v. not (bytes_eq (run_in v) xmlns)) (λ x. None) (λ v x y d e. refl) refl
token_lawful (numeral b k) =
    lawful_fitting (IsWalk characters (walk_for (run_of.Numeral b k)) 0) (opens_walk (walk_for (run_of.Numeral b k)) 0) (scan_walk characters (walk_for (run_of.Numeral b k)) 0) (seen_walk (walk_for (run_of.Numeral b k)) 0) no_fault
    (lawful_walk characters (walk_for (run_of.Numeral b k)) 0) (λ v. names_character k (numeral_value b k (run_in v))) (λ x. None) (λ v x y d e. refl) refl
token_lawful (choice c) = choice_lawful c
token_lawful (maybe_choice m) =
    lawful_optional (IsOneOf (choice_words (maybe_words m))) (OpensOneOf (choice_words (maybe_words m))) (scan_one_of (choice_words (maybe_words m))) (seen_one_of (choice_words (maybe_words m))) (choice_lawful (maybe_words m))
    (stood (maybe_words m)) (mark_value mark.Only) (maybe_tells m)
token_lawful (tag_end fault) =
    lawful_fitting (IsOneOf (choice_words choice_of.TagEnd)) (OpensOneOf (choice_words choice_of.TagEnd)) (scan_one_of (choice_words choice_of.TagEnd)) (seen_one_of (choice_words choice_of.TagEnd)) no_fault (choice_lawful choice_of.TagEnd)
    (λ v. is_none fault) (λ x. if_stands (scan_one_of (choice_words choice_of.TagEnd) x) fault) (λ v x y d e. faultless_end fault (scan_one_of (choice_words choice_of.TagEnd) x) e) (tag_end_at_end fault)
token_lawful prolog_mark = prolog_lawful

pub lawful : LawfulTokens documents
lawful = lawful_tokens documents token_lawful
