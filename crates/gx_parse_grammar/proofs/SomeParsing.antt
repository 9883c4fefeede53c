-- Bytes are parsed somehow.
use Rattle.std.proofs.Common.{◌≡◌, ◌<◌, ℕ, zero, suc, Bool, true, false, if◌then◌else◌, List, [], length, Option, Some, None, is_some, Result, Ok, Err, refl, sym, ap, subst, ◌⊎◌, inl, inr, take, arith}
use Rattle.std.specs.Str.{chars, IsUtf8, IsValidUpTo, is_utf8}
use Rattle.std.proofs.lemmas.Str.{IsUtf8-from_is_utf8, is_utf8-from_IsUtf8}
use Rattle.std.proofs.lemmas.List.{take_all}
use Rattle.std.proofs.Math.Nat.{eq-or-lt_of_le, lt_of_not-le}
use Rattle.gx_base.specs.declared.place.Place.{Place}
use Rattle.gx_ast.specs.declared.query.Query.{Query}
use Rattle.gx_grammar.specs.Value.{node}
use Rattle.gx_grammar.specs.Grammar.{made}
use Rattle.gx_grammar.specs.Derivation.{Derives, of_made}
use Rattle.gx_grammar.specs.Halting.{Halts, halt_token, halt_first, halt_second, halt_key, halt_behind, halt_left, halt_right, halt_item, halt_later, halt_rule, halt_made}
use Rattle.gx_grammar.specs.Fitting.{fault_of, fault_where}
use Rattle.gx_grammar.specs.Words.{scan_one_of}
use Rattle.gx_grammar.specs.First.{head_passes}
use Rattle.gx_grammar.specs.Places.{place_at}
use Rattle.gx_grammar.specs.Text.{IsVerdict, IsFaulty, read_text}
use Rattle.gx_grammar.specs.Reading.{Refusal, Unfit, Faulty, TooDeep}
use Rattle.gx_grammar.proofs.PublicLaws.{unreadable_at}
use Rattle.gx_parse_grammar.specs.declared.refusal.SyntaxRule.TheVariants.{NotUtf8, Syntax, TooNested, LiteralTooLarge, BadReference}
use Rattle.gx_parse_grammar.specs.Numeral.{is_small, scan_literal}
use Rattle.gx_parse_grammar.specs.Words.{words_of}
use Rattle.gx_parse_grammar.specs.Nodes.{Made, Whole}
use Rattle.gx_parse_grammar.specs.Tokens.{Token, one_of, qname, number, number_end, gap, gap_then_open, gap_not_open, barred, indication, text_run, reference, white, blank, no_attribute, no_element, starts_element, constructor, no_constructor, word_end, tag_name, cdata_text, ncname, local_wildcard, gap_then_dollar, gap_then_neither, barred_words, entries, faults, begins_at, scan_reference, limit_code, number_code, reference_code, leading}
use Rattle.gx_parse_grammar.specs.Grammar.{Phrase, query_language, place_in}
use Rattle.gx_parse_grammar.specs.Prolog.{query, query_in}
use Rattle.gx_parse_grammar.specs.Levels.{more_than}
use Rattle.gx_parse_grammar.specs.Query.{IsText, Parsing, parsed, refused, Parses}
use Rattle.gx_parse_grammar.proofs.Verdict.{verdict}

-- the codes of the faults

abbrev IsCode : ℕ → Type 0
IsCode code = (limit_code ≡ code) ⊎ ((number_code ≡ code) ⊎ (reference_code ≡ code))

not_none : (code : ℕ) → None ≡ Some code → ⊥
not_none code e = absurd (cc e)

same_code : (code other : ℕ) → Some code ≡ Some other → code ≡ other
same_code code other e = cc e

number_codes : (r : Option (Made × List ℕ)) (code : ℕ) → fault_of {V = Made} number_code is_small r ≡ Some code → number_code ≡ code
number_codes None code e = absurd (not_none code e)
number_codes (Some r) code e = go (is_small r.0) e
  where
    go : (b : Bool) → (if b then None else (Some number_code)) ≡ Some code → number_code ≡ code
    go true f = absurd (not_none code f)
    go false f = same_code number_code code f

barrier_codes : (b : Bool) (code : ℕ) → (if b then (Some limit_code) else None) ≡ Some code → limit_code ≡ code
barrier_codes true code e = same_code limit_code code e
barrier_codes false code e = absurd (not_none code e)

word_codes : (r : Option (Made × List ℕ)) (code : ℕ) → fault_where limit_code r ≡ Some code → limit_code ≡ code
word_codes None code e = absurd (not_none code e)
word_codes (Some r) code e = same_code limit_code code e

reference_codes : (a b : Bool) (code : ℕ) → (if a then None else (if b then (Some reference_code) else None)) ≡ Some code → reference_code ≡ code
reference_codes true b code e = absurd (not_none code e)
reference_codes false true code e = same_code reference_code code e
reference_codes false false code e = absurd (not_none code e)

token_codes : (t : Token) (x : List ℕ) (code : ℕ) → faults t x ≡ Some code → IsCode code
token_codes (one_of ws) x code e = absurd (not_none code e)
token_codes qname x code e = absurd (not_none code e)
token_codes number x code e = inr (inl (number_codes (scan_literal x) code e))
token_codes number_end x code e = absurd (not_none code e)
token_codes gap x code e = absurd (not_none code e)
token_codes gap_then_open x code e = absurd (not_none code e)
token_codes gap_not_open x code e = absurd (not_none code e)
token_codes (barred b) x code e = inl (barrier_codes (head_passes (begins_at b) x) code e)
token_codes indication x code e = absurd (not_none code e)
token_codes (text_run r) x code e = absurd (not_none code e)
token_codes reference x code e = inr (inr (reference_codes (is_some (scan_reference x)) _ code e))
token_codes white x code e = absurd (not_none code e)
token_codes blank x code e = absurd (not_none code e)
token_codes no_attribute x code e = absurd (not_none code e)
token_codes no_element x code e = inl (barrier_codes (starts_element x) code e)
token_codes (tag_name cs) x code e = absurd (not_none code e)
token_codes cdata_text x code e = absurd (not_none code e)
token_codes ncname x code e = absurd (not_none code e)
token_codes (local_wildcard b) x code e = absurd (not_none code e)
token_codes gap_then_dollar x code e = absurd (not_none code e)
token_codes gap_then_neither x code e = absurd (not_none code e)
token_codes (barred_words ws) x code e = inl (word_codes (scan_one_of (entries (words_of ws)) x) code e)
token_codes (leading w ws) x code e = absurd (not_none code e)
token_codes constructor x code e = absurd (not_none code e)
token_codes no_constructor x code e = absurd (not_none code e)
token_codes (word_end true) x code e = absurd (not_none code e)
token_codes (word_end false) x code e = absurd (not_none code e)

module _ (at : ℕ → Place) where
  codes_of : {A : Phrase} {x z : List ℕ} {code : ℕ} → Halts (query_language at) A x code z → IsCode code
  codes_of (halt_token {t = t} {x = x} {code = code} e) = token_codes t x code e
  codes_of (halt_first h) = codes_of h
  codes_of (halt_second d h) = codes_of h
  codes_of (halt_key {t = t} {x = x} {code = code} e) = token_codes t x code e
  codes_of (halt_behind d h) = codes_of h
  codes_of (halt_left h) = codes_of h
  codes_of (halt_right h) = codes_of h
  codes_of (halt_item h) = codes_of h
  codes_of (halt_later d h) = codes_of h
  codes_of (halt_rule h) = codes_of h
  codes_of (halt_made h) = codes_of h

  made_value : {f : ℕ → Made → Made} {A : Phrase} {v : Made} {x y : List ℕ} → Derives (query_language at) (made f A) v x y → (w : Made) × (v ≡ f (length x) w)
  made_value (of_made {v = w} d) = (w, refl)

-- every value of a text is a query
query_value : (text : List ℕ) (v : Made) → Derives (query_language (place_in text)) (query (place_in text)) v text [] → (t : Query) × (v ≡ node (Whole t))
unfolding query
query_value text v d = let r = made_value (place_in text) d in (query_in (place_in text (length text)) r.0, r.1)

-- texts

abbrev Verdict : List ℕ → Result Made Refusal → Type 0
Verdict text o = IsVerdict (query_language (place_in text)) (query (place_in text)) text o

text_parsed : (bytes text : List ℕ) → IsText bytes text → (o : Result Made Refusal) → Verdict text o → (p : Parsing) × Parses bytes p
text_parsed bytes text t (Ok v) h =
    let r = query_value text v h.derived in
    (parsed r.0, (text, t, subst (λ w. Derives (query_language (place_in text)) (query (place_in text)) w text []) r.1 h.derived))
text_parsed bytes text t (Err (Unfit far)) h = (refused Syntax (place_in text far), (text, t, record { left = far; unfit = h; there = refl }))
text_parsed bytes text t (Err (Faulty code left)) h = go (codes_of (place_in text) h.halts)
  where
    go : IsCode code → (p : Parsing) × Parses bytes p
    go (inl e) = (refused TooNested (place_in text left), (text, t, record { left = left; faulty = subst (λ c. IsFaulty (query_language (place_in text)) (query (place_in text)) text c left) (sym e) h; there = refl }))
    go (inr (inl e)) = (refused LiteralTooLarge (place_in text left), (text, t, record { left = left; faulty = subst (λ c. IsFaulty (query_language (place_in text)) (query (place_in text)) text c left) (sym e) h; there = refl }))
    go (inr (inr e)) = (refused BadReference (place_in text left), (text, t, record { left = left; faulty = subst (λ c. IsFaulty (query_language (place_in text)) (query (place_in text)) text c left) (sym e) h; there = refl }))
text_parsed bytes text t (Err TooDeep) h = absurd h

-- bytes that are no text

module _ (bytes : List ℕ) (broken : IsUtf8 bytes → ⊥) where
  front_short : (n : ℕ) → IsUtf8 (take n bytes) → n < length bytes
  front_short n u = lt_of_not-le (λ h. broken (subst IsUtf8 (take_all n bytes h) u))

  -- No longer front is UTF-8.
  abbrev NoneAbove : ℕ → Type 0
  NoneAbove n = (m : ℕ) → n < m → IsUtf8 (take m bytes) → ⊥

  longest_front : (n : ℕ) → NoneAbove n → (m : ℕ) × IsValidUpTo bytes m
  longest_front zero above = (zero, record { short = front_short zero ([], (refl, refl)); front = ([], (refl, refl)); longest = above })
  longest_front (suc n) above = go (is_utf8 (take (suc n) bytes)) refl (λ e. longest_front n (none e))
    where
      none : is_utf8 (take (suc n) bytes) ≡ false → NoneAbove n
      none e m h u = elim (eq-or-lt_of_le h) [
        | inl s ↦ let f = is_utf8-from_IsUtf8 (take m bytes) u in let g = ap (λ k. is_utf8 (take k bytes)) s in absurd (cc (e, f, g))
        | inr s ↦ above m s u
      ]

      go : (b : Bool) → is_utf8 (take (suc n) bytes) ≡ b → (is_utf8 (take (suc n) bytes) ≡ false → (m : ℕ) × IsValidUpTo bytes m) → (m : ℕ) × IsValidUpTo bytes m
      go true e shorter = let u = IsUtf8-from_is_utf8 (take (suc n) bytes) e in (suc n, record { short = front_short (suc n) u; front = u; longest = above })
      go false e shorter = shorter e

  none_longer : NoneAbove (length bytes)
  none_longer m h u = broken (subst IsUtf8 (take_all m bytes (omega (arith, h))) u)

  bytes_refused : (p : Parsing) × Parses bytes p
  bytes_refused =
      let r = longest_front (length bytes) none_longer in
      let front = chars (take r.0 bytes) in
      (refused NotUtf8 (place_at front (length front)), unreadable_at bytes front r.0 (place_at front (length front)) r.1 refl refl)

pub a_parsing_exists : (bytes : List ℕ) → (p : Parsing) × Parses bytes p
a_parsing_exists bytes = go (is_utf8 bytes) refl
  where
    read : IsUtf8 bytes → (p : Parsing) × Parses bytes p
    read u =
        let text = u.0 in
        text_parsed bytes text (record { characters = u.1.0; encoded = u.1.1 }) (read_text (query_language (place_in text)) (more_than (length text) 41) (query (place_in text)) text) (verdict text)

    broken : is_utf8 bytes ≡ false → IsUtf8 bytes → ⊥
    broken e u = let f = is_utf8-from_IsUtf8 bytes u in absurd (cc (e, f))

    go : (b : Bool) → is_utf8 bytes ≡ b → (p : Parsing) × Parses bytes p
    go true e = read (IsUtf8-from_is_utf8 bytes e)
    go false e = bytes_refused bytes (broken e)
