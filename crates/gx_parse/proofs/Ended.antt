-- What the reading of a whole text says of it.
use Rattle.std.proofs.Common.{◌≡◌, ◌≢◌, ◌∷◌, Option, Some, None, ℕ, ◌≤◌, List, [], length, Result, Ok, Err, IfOk, IfErr, refl, sym, ap, subst, ◌∙◌, encode_utf8_all}
use Rattle.std.proofs.lemmas.Str.{length-le-encodes}
use Rattle.gx_ast.specs.declared.query.Query.{Query}
use Rattle.gx_grammar.specs.Value.{node}
use Rattle.gx_grammar.specs.Text.{IsVerdict, read_text, whole_only, with_rest}
use Rattle.gx_grammar.specs.Ran.{Standing, Going, GaveUp, Lost, Ran}
use Rattle.gx_grammar.specs.Reading.{Refusal, Unfit, Reading, start}
use Rattle.gx_parse_tokens.specs.Reading.{call, read_in, refusal_of, Ended}
use Rattle.gx_parse_grammar.specs.Levels.{more_than}
use Rattle.gx_parse_grammar.specs.declared.refusal.SyntaxRule.TheVariants.{NotUtf8, Syntax, TooNested, LiteralTooLarge, BadReference}
use Rattle.gx_parse_grammar.specs.declared.refusal.SyntaxRefusal.{SyntaxRefusal}
use Rattle.gx_parse_grammar.specs.declared.refusal.SyntaxRefusal.TheVariants.{Refused as RefusedBy, Memory}
use Rattle.gx_parse_tokens.specs.declared.reader.Refused.{Refused}
use Rattle.gx_parse_tokens.specs.declared.reader.Refused.TheVariants as refused_by
use Rattle.gx_parse_tokens.specs.declared.reader.End.{End}
use Rattle.gx_parse_tokens.specs.declared.reader.End.TheVariants as ended
use Rattle.gx_parse_grammar.specs.Nodes.{Made, Whole}
use Rattle.gx_parse_grammar.specs.Grammar.{query_language, place_in}
use Rattle.gx_parse_grammar.specs.Prolog.{query}
use Rattle.gx_parse_grammar.specs.Query.{IsQuery, IsText, Parses, parsed, RefusesText, RefusesBytes}
use Rattle.gx_parse.specs.Outcome.{syntax_refusal_at}
use Rattle.gx_parse_grammar.proofs.Verdict.{verdict}

-- what the reading of a whole text says, where it ended so
abbrev pub Says : List ℕ → Query → Option End → Type 0
Says text t None = IsQuery text t
Says text t (Some end) = RefusesText (syntax_refusal_at text end) text

by_refusal : (text : List ℕ) (r : Refused) → IsVerdict (query_language (place_in text)) (query (place_in text)) text (Err (refusal_of r)) → RefusesText (syntax_refusal_at text (ended.GaveUp r)) text
by_refusal text (refused_by.Unfit far) v = record { left = far; unfit = v; there = refl }
by_refusal text (refused_by.Limit left) v = record { left = left; faulty = v; there = refl }
by_refusal text (refused_by.Number left) v = record { left = left; faulty = v; there = refl }
by_refusal text (refused_by.Reference left) v = record { left = left; faulty = v; there = refl }

module _ (text : List ℕ) where
  abbrev reading : Result Made Refusal
  reading = read_text (query_language (place_in text)) (more_than (length text) 41) (query (place_in text)) text

  abbrev Verdict : Result Made Refusal → Type 0
  Verdict o = IsVerdict (query_language (place_in text)) (query (place_in text)) text o

  said : (o : Result Made Refusal) → reading ≡ o → Verdict o
  said o e = subst Verdict e (verdict text)

  read_so : (r : Reading Made) → read_in text 40 (query (place_in text)) (start text) ≡ r → reading ≡ whole_only r
  unfolding read_in call
  read_so r e = ap whole_only e

  ended_there : (v : Made) (far : ℕ) (rest : List ℕ) → rest ≡ [] → with_rest v far rest ≡ Ok v
  ended_there v far rest e = ap (with_rest v far) e

  goes_on : (v : Made) (far : ℕ) (rest : List ℕ) → rest ≢ [] → with_rest v far rest ≡ Err (Unfit far)
  goes_on v far [] n = absurd (n refl)
  goes_on v far (c ∷ rest) n = refl

  -- What is read of a whole text is its tree or its refusal.
  pub text_read : (t : Query) (b : Standing) (o : Option End) → Ran (node (Whole t)) (Going (start text)) b (read_in text 40 (query (place_in text))) → Ended o b → Says text t o
  text_read t (Going s) None h e = (said (Ok (node (Whole t))) (read_so (Ok (node (Whole t), s)) h ∙ ended_there (node (Whole t)) s.far s.rest e)).derived
  text_read t (Going s) (Some (ended.GaveUp r)) h e = by_refusal text r (said (Err (refusal_of r)) (read_so (Ok (node (Whole t), s)) h ∙ goes_on (node (Whole t)) s.far s.rest e.0 ∙ ap (λ x. Err x) (sym e.1)))
  text_read t (Going s) (Some ended.Lost) h e = tt
  text_read t (GaveUp x) None h e = absurd e
  text_read t (GaveUp x) (Some (ended.GaveUp r)) h e = by_refusal text r (said (Err (refusal_of r)) (read_so (Err x) h ∙ ap (λ y. Err y) e))
  text_read t (GaveUp x) (Some ended.Lost) h e = tt
  text_read t Lost None h e = absurd e
  text_read t Lost (Some (ended.GaveUp r)) h e = absurd e
  text_read t Lost (Some ended.Lost) h e = tt

-- a text has at most as many characters as bytes
pub text_is_shorter : (bytes text : List ℕ) → encode_utf8_all text ≡ bytes → length text ≤ length bytes
text_is_shorter bytes text e = subst (λ (bs : List ℕ). length text ≤ length bs) e (length-le-encodes text)

-- the refusal of a text is that of its bytes
pub bytes_refused : (bytes text : List ℕ) (e : SyntaxRefusal) → IsText bytes text → RefusesText e text → RefusesBytes e bytes
bytes_refused bytes text (RefusedBy NotUtf8 place) t r = absurd r
bytes_refused bytes text (RefusedBy Syntax place) t r = (text, t, r)
bytes_refused bytes text (RefusedBy TooNested place) t r = (text, t, r)
bytes_refused bytes text (RefusedBy LiteralTooLarge place) t r = (text, t, r)
bytes_refused bytes text (RefusedBy BadReference place) t r = (text, t, r)
bytes_refused bytes text Memory t r = tt

pub results_parsed : (bytes text : List ℕ) (r : Result Query SyntaxRefusal) → IsText bytes text → IfOk r (λ t. IsQuery text t) → IfOk r (λ t. Parses bytes (parsed t))
results_parsed bytes text (Ok t) d h = (text, d, h)
results_parsed bytes text (Err e) d h = tt

pub results_refused : (bytes text : List ℕ) (r : Result Query SyntaxRefusal) → IsText bytes text → IfErr r (λ e. RefusesText e text) → IfErr r (λ e. RefusesBytes e bytes)
results_refused bytes text (Ok t) d h = tt
results_refused bytes text (Err e) d h = bytes_refused bytes text e d h
