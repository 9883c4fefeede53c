-- What the reading of a whole text says of it.
use Rattle.std.proofs.Common.{◌≡◌, ℕ, zero, suc, ◌+◌, ◌≤◌, List, length, refl, sym, ap, subst, ◌∙◌, arith}
use Rattle.std.specs.Str.{chars, IsUtf8, IsValidUpTo}
use Rattle.std.proofs.lemmas.Str.{chars-encodes}
use Rattle.std.proofs.lemmas.List.{take_all}
use Rattle.gx_ast.specs.declared.query.Query.{Query}
use Rattle.gx_grammar.specs.Value.{node}
use Rattle.gx_grammar.specs.Text.{AtEnd, Nowhere, IsVerdict, read_text}
use Rattle.gx_grammar.proofs.PublicLaws.{exact_text, never_too_deep, unique}
use Rattle.gx_parse_grammar.specs.Levels.{more_than}
use Rattle.gx_parse_grammar.specs.Fronts.{fronts}
use Rattle.gx_parse_grammar.specs.Nodes.{Whole}
use Rattle.gx_parse_grammar.specs.Grammar.{query_language, place_in}
use Rattle.gx_parse_grammar.specs.Prolog.{query}
use Rattle.gx_parse_grammar.specs.Query.{IsQuery, IsText}
use Rattle.gx_parse_grammar.proofs.PrologSorted.{readable}
use Rattle.gx_parse_grammar.proofs.Ranks.{levelled}
use Rattle.gx_parse_grammar.proofs.PrologRanks.{query_ranks}

pub one_tree : (text : List ℕ) (s t : Query) → IsQuery text s → IsQuery text t → s ≡ t
one_tree text s t d e =
    let r = readable (place_in text) in
    let same : node (Whole s) ≡ node (Whole t) = (unique (query_language (place_in text)) r.tokens r.productions d e AtEnd Nowhere r.top refl refl).0 in
    cc

enough : (n k : ℕ) → n + k ≤ more_than n k
enough n zero = omega arith
enough n (suc k) = let h = enough n k in omega (arith, h)

pub verdict : (text : List ℕ) → IsVerdict (query_language (place_in text)) (query (place_in text)) text (read_text (query_language (place_in text)) (more_than (length text) 41) (query (place_in text)) text)
verdict text =
    let r = readable (place_in text) in
    let h = enough (length text) 41 in
    exact_text (query_language (place_in text)) r.tokens r.productions (query (place_in text)) r.top (more_than (length text) 41) text
    (never_too_deep (query_language (place_in text)) (query (place_in text)) r (fronts (place_in text)).takings (levelled (place_in text)) 41 (query_ranks (place_in text)) (more_than (length text) 41) text (omega (arith, h)))

-- bytes

pub text_is_chars : (bytes text : List ℕ) → IsText bytes text → text ≡ chars bytes
text_is_chars bytes text t = sym (chars-encodes text t.characters) ∙ ap chars t.encoded

-- bytes are the UTF-8 of one text at most
pub one_text : (bytes text other : List ℕ) → IsText bytes text → IsText bytes other → text ≡ other
one_text bytes text other t o = text_is_chars bytes text t ∙ sym (text_is_chars bytes other o)

-- bytes of which a longest front is readable are no UTF-8
pub unreadable_is_not_utf8 : (bytes : List ℕ) (n : ℕ) → IsValidUpTo bytes n → IsUtf8 bytes → ⊥
unreadable_is_not_utf8 bytes n v u = v.longest (length bytes) v.short (subst IsUtf8 (sym (take_all (length bytes) bytes (omega arith))) u)
