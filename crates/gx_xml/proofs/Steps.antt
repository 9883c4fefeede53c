-- What readers of phrases do, step by step.
use Rattle.std.proofs.Common.{ℕ, zero, suc, length, inl, inr, refl, sym, ap, subst, ◌∙◌, Ok}
use Rattle.gx_grammar.specs.Value.{nothing, pair}
use Rattle.gx_grammar.specs.Grammar.{token, empty, ◌&◌, keyed, rule, made}
use Rattle.gx_grammar.specs.Reading.{State, Reading, go_on, read_with, reads}
use Rattle.gx_grammar.specs.Ran.{Standing, Going, GaveUp, Lost, Ran, IsDone, left_of}
use Rattle.gx_grammar.proofs.PublicLaws.{ran_idle, ran_keyed, ran_made, ran_both, ran_empty}
use Rattle.gx_xml.specs.Nodes.{Made, later}
use Rattle.gx_xml.specs.Tokens.{Token}
use Rattle.gx_xml.specs.Grammar.{Production, Phrase, on, rules, documents}
use Rattle.gx_xml.specs.Standings.{read_document_token, reading, RanWithin, IsTooDeepAt, Did}

-- nothing is read behind an end
pub did_idle : (A : Phrase) (v : Made) (a : Standing) → IsDone a → Did v a a A
did_idle A v a d = λ levels. inl (ran_idle v a (reading levels A) d)

-- an end says nothing of the value
pub did_any : (A : Phrase) (v w : Made) (a b : Standing) → IsDone b → Did v a b A → Did w a b A
did_any A v w a (Going s) d h = absurd d
did_any A v w (Going s) (GaveUp e) d h = h
did_any A v w (Going s) Lost d h = h
did_any A v w (GaveUp r) (GaveUp e) d h = h
did_any A v w (GaveUp r) Lost d h = h
did_any A v w Lost (GaveUp e) d h = h
did_any A v w Lost Lost d h = h

pub did_token : (t : Token) (v : Made) (a b : Standing) → Ran v a b (read_document_token t) → Did v a b (token t)
unfolding reading read_document_token
did_token t v a b h = λ levels. inl h

pub did_empty : (a : Standing) → Did nothing a a empty
unfolding reading
did_empty a = λ levels. inl (ran_empty documents (reads documents levels) a)

deep_made : (levels : ℕ) (f : ℕ → Made → Made) (A : Phrase) (a : Standing) → IsTooDeepAt a (reading levels A) → IsTooDeepAt a (reading levels (made f A))
unfolding reading
deep_made levels f A (Going s) e = ap (λ r. go_on r (λ v t. Ok (f (length s.rest) v, t))) e
deep_made levels f A (GaveUp r) e = e
deep_made levels f A Lost e = e

pub did_made : (f : ℕ → Made → Made) (A : Phrase) (v : Made) (a b : Standing) → Did v a b A → Did (f (left_of a) v) a b (made f A)
unfolding reading
did_made f A v a b h = λ levels. elim (h levels) [
  | inl r ↦ inl (ran_made documents (reads documents levels) f A v a b r)
  | inr e ↦ inr (deep_made levels f A a e)
]

deep_keyed : (levels : ℕ) (t : Token) (f : Made → Phrase) (v : Made) (a b : Standing) → Ran v a b (read_document_token t) → IsTooDeepAt b (reading levels (f v)) → IsTooDeepAt a (reading levels (keyed t f))
unfolding reading read_document_token
deep_keyed levels t f v (Going s) (Going u) h e =
    ap (λ r. go_on r (λ x q. go_on (read_with documents (reads documents levels) (f x) q) (λ w o. Ok (pair x w, o)))) h ∙ ap (λ r. go_on r (λ w o. Ok (pair v w, o))) e
deep_keyed levels t f v (Going s) (GaveUp r) h e = absurd e
deep_keyed levels t f v (Going s) Lost h e = absurd e
deep_keyed levels t f v (GaveUp r) (Going u) h e = absurd (cc)
deep_keyed levels t f v (GaveUp r) (GaveUp q) h e = absurd e
deep_keyed levels t f v (GaveUp r) Lost h e = absurd e
deep_keyed levels t f v Lost (Going u) h e = absurd (cc)
deep_keyed levels t f v Lost (GaveUp q) h e = absurd e
deep_keyed levels t f v Lost Lost h e = absurd e

pub did_keyed : (t : Token) (f : Made → Phrase) (v w : Made) (a b c : Standing) → Ran v a b (read_document_token t) → Did w b c (f v) → Did (pair v w) a c (keyed t f)
unfolding reading read_document_token
did_keyed t f v w a b c h k = λ levels. elim (k levels) [
  | inl r ↦ inl (ran_keyed documents (reads documents levels) t f v w a b c h r)
  | inr e ↦ inr (deep_keyed levels t f v a b h e)
]

-- a token, and what stands behind it
pub did_on : (t : Token) (f : Made → Phrase) (v w : Made) (a b c : Standing) → Ran v a b (read_document_token t) → Did w b c (f v) → Did w a c (on t f)
unfolding on
did_on t f v w a b c h k = did_made (λ left u. later u) (keyed t f) (pair v w) a c (did_keyed t f v w a b c h k)

deep_first : (levels : ℕ) (A B : Phrase) (a : Standing) → IsTooDeepAt a (reading levels A) → IsTooDeepAt a (reading levels (A & B))
unfolding reading
deep_first levels A B (Going s) e = ap (λ r. go_on r (λ v t. go_on (read_with documents (reads documents levels) B t) (λ w u. Ok (pair v w, u)))) e
deep_first levels A B (GaveUp r) e = e
deep_first levels A B Lost e = e

deep_second : (levels : ℕ) (A B : Phrase) (v : Made) (a b : Standing) → Ran v a b (reading levels A) → IsTooDeepAt b (reading levels B) → IsTooDeepAt a (reading levels (A & B))
unfolding reading
deep_second levels A B v (Going s) (Going u) h e =
    ap (λ r. go_on r (λ x q. go_on (read_with documents (reads documents levels) B q) (λ w o. Ok (pair x w, o)))) h ∙ ap (λ r. go_on r (λ w o. Ok (pair v w, o))) e
deep_second levels A B v (Going s) (GaveUp r) h e = absurd e
deep_second levels A B v (Going s) Lost h e = absurd e
deep_second levels A B v (GaveUp r) (Going u) h e = absurd (cc)
deep_second levels A B v (GaveUp r) (GaveUp q) h e = absurd e
deep_second levels A B v (GaveUp r) Lost h e = absurd e
deep_second levels A B v Lost (Going u) h e = absurd (cc)
deep_second levels A B v Lost (GaveUp q) h e = absurd e
deep_second levels A B v Lost Lost h e = absurd e

pub did_both : (A B : Phrase) (v w : Made) (a b c : Standing) → Did v a b A → Did w b c B → Did (pair v w) a c (A & B)
unfolding reading
did_both A B v w a b c h k = λ levels. elim (h levels) [
  | inl r ↦ elim (k levels) [
    | inl q ↦ inl (ran_both documents (reads documents levels) A B v w a b c r q)
    | inr e ↦ inr (deep_second levels A B v a b r e)
  ]
  | inr e ↦ inr (deep_first levels A B a e)
]

rule_within : (p : Production) (v : Made) (a b : Standing) → Did v a b (rules p) → (levels : ℕ) → RanWithin v a b (reading levels (rule p))
unfolding reading
rule_within p v (Going s) b h zero = inr refl
rule_within p v (GaveUp r) b h zero = h 0
rule_within p v Lost b h zero = h 0
rule_within p v (Going s) b h (suc levels) = h levels
rule_within p v (GaveUp r) b h (suc levels) = h 0
rule_within p v Lost b h (suc levels) = h 0

pub did_rule : (p : Production) (v : Made) (a b : Standing) → Did v a b (rules p) → Did v a b (rule p)
did_rule p v a b h = rule_within p v a b h

-- behind an end, one phrase is as another
pub did_other : (A B : Phrase) (v : Made) (a b : Standing) → IsDone a → Did v a b A → Did v a b B
did_other A B v (Going s) b d h = absurd d
did_other A B v (GaveUp e) b d h = h
did_other A B v Lost b d h = h

-- an end stays
pub done_stays : {X : Type 0} (v : X) (a b : Standing) (read : State → Reading X) → IsDone a → Ran v a b read → IsDone b
done_stays v (Going s) b read d h = absurd d
done_stays v (GaveUp e) b read d h = subst IsDone (sym h) tt
done_stays v Lost b read d h = subst IsDone (sym h) tt
