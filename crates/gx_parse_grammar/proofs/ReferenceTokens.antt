-- Literal text and references as tokens.
use Rattle.std.proofs.Common.{◌≡◌, ◌≢◌, ℕ, ◌<◌, ◌||◌, ◌&&◌, Bool, true, false, if◌then◌else◌, List, [], ◌∷◌, ◌++◌, inl, inr, length, length-append, refl, sym, ap, ◌∙◌, Option, Some, None, is_some, nat_le, arith}
use Rattle.gx_grammar.specs.Value.{nothing}
use Rattle.gx_grammar.specs.First.{head_passes}
use Rattle.gx_grammar.specs.Tokens.{LawfulToken, no_fault, IsFrontOf, seen_word}
use Rattle.gx_grammar.specs.Walks.{all_walk, opens_walk, seen_walk}
use Rattle.gx_grammar.specs.Words.{scan_one_of}
use Rattle.gx_grammar.specs.Joined.{scan_behind}
use Rattle.gx_grammar.specs.Apart.{is}
use Rattle.std.proofs.lemmas.Bool.{and_parts}
use Rattle.gx_grammar.proofs.PublicLaws.{lawful_either, lawful_fitting, lawful_joined, lawful_mapped, lawful_one_of, lawful_walk, lawful_word}
use Rattle.gx_parse_grammar.specs.declared.runs.Radix.{Radix}
use Rattle.gx_parse_grammar.specs.declared.runs.Radix.TheVariants as radix
use Rattle.gx_parse_grammar.specs.Characters.{is_digit, no_character}
use Rattle.gx_parse_grammar.specs.Nodes.{Made}
use Rattle.gx_parse_grammar.specs.References.{number_value, numbering, grown, greatest, front_value, back_value, prefix_of, IsPrefix, scan_prefix, OpensPrefix, IsNumbered, scan_numbered, IsSemicolon, scan_semicolon, OpensSemicolon, IsEnded, OpensEnded, scan_ended, seen_ended, IsReferenceWritten, OpensNumeric, scan_written, seen_numeric, names_char, IsNumeric, scan_numeric, scan_figures, closes}
use Rattle.gx_parse_grammar.specs.Tokens.{entries, entity_words, entity_value, IsEntityWord, IsEntity, OpensEntity, scan_entity, seen_entity, IsByNumber, OpensByNumber, scan_by_number, seen_by_number, IsReference, OpensReference, scan_reference, seen_reference, reference_fault, reference_code}

module _ (r : Radix) where
  prefix_lawful : LawfulToken (IsPrefix r) (OpensPrefix r) (scan_prefix r) (seen_word (prefix_of r)) no_fault
  prefix_lawful = lawful_word nothing (prefix_of r) no_character

  semicolon_lawful : LawfulToken IsSemicolon OpensSemicolon scan_semicolon (seen_word (59 ∷ [])) no_fault
  semicolon_lawful = lawful_word nothing (59 ∷ []) no_character

  numbered_lawful : LawfulToken (IsNumbered r) (opens_walk (numbering r) 0) (scan_numbered r) (seen_walk (numbering r) 0) no_fault
  numbered_lawful = lawful_walk (number_value r) (numbering r) 0

  ended_lawful : LawfulToken (IsEnded r) (OpensEnded r) (scan_ended r) (seen_ended r) no_fault
  ended_lawful = lawful_joined (IsNumbered r) (opens_walk (numbering r) 0) (scan_numbered r) (seen_walk (numbering r) 0) numbered_lawful IsSemicolon OpensSemicolon scan_semicolon (seen_word (59 ∷ [])) semicolon_lawful front_value

  written_lawful : LawfulToken (IsReferenceWritten r) (OpensNumeric r) (scan_written r) (seen_numeric r) no_fault
  written_lawful = lawful_joined (IsPrefix r) (OpensPrefix r) (scan_prefix r) (seen_word (prefix_of r)) prefix_lawful (IsEnded r) (OpensEnded r) (scan_ended r) (seen_ended r) ended_lawful back_value

  pub numeric_lawful : LawfulToken (IsNumeric r) (OpensNumeric r) (scan_numeric r) (seen_numeric r) no_fault
  numeric_lawful = lawful_fitting (IsReferenceWritten r) (OpensNumeric r) (scan_written r) (seen_numeric r) no_fault written_lawful names_char no_fault (λ v x y d e. refl) refl

-- no digit is an x

digit_walks : (run m rest : List ℕ) → run ≢ [] → (120 ∷ rest) ≡ run ++ m → all_walk (numbering radix.Decimal) 0 run ≡ true → ⊥
digit_walks [] m rest n e w = n refl
digit_walks (c ∷ run) m rest n e w =
    let f : 120 ≡ c = cc e in
    let g : is_digit c ≡ true = (and_parts (is_digit c) (nat_le (grown radix.Decimal 0 c) greatest) (and_parts (is_digit c && nat_le (grown radix.Decimal 0 c) greatest) (all_walk (numbering radix.Decimal) (grown radix.Decimal 0 c) run) w).0).0 in
    let h : is_digit 120 ≡ is_digit c = ap is_digit f in
    absurd (cc (g, h))

radixes_never : (v u : Made) (x y z : List ℕ) → IsNumeric radix.Decimal v x y → IsNumeric radix.Hexadecimal u x z → ⊥
radixes_never v u x y z d e =
    let a = d.stands.begins.spelled in
    let b = e.stands.begins.spelled in
    let n = d.stands.ends.begins in
    let f : d.stands.between ≡ 120 ∷ e.stands.between = cc (a, b) in
    digit_walks n.run d.stands.ends.between e.stands.between n.full (sym f ∙ n.spelled) n.walks

by_number_lawful : LawfulToken IsByNumber OpensByNumber scan_by_number seen_by_number no_fault
by_number_lawful =
    lawful_either (IsNumeric radix.Decimal) (OpensNumeric radix.Decimal) (scan_numeric radix.Decimal) (seen_numeric radix.Decimal) (numeric_lawful radix.Decimal)
    (IsNumeric radix.Hexadecimal) (OpensNumeric radix.Hexadecimal) (scan_numeric radix.Hexadecimal) (seen_numeric radix.Hexadecimal) (numeric_lawful radix.Hexadecimal) radixes_never

-- entities

entity_word_lawful : LawfulToken IsEntityWord OpensEntity (scan_one_of (entries entity_words)) seen_entity no_fault
entity_word_lawful = lawful_one_of (entries entity_words) refl

entity_lawful : LawfulToken IsEntity OpensEntity scan_entity seen_entity no_fault
entity_lawful = lawful_mapped IsEntityWord OpensEntity (scan_one_of (entries entity_words)) seen_entity no_fault entity_word_lawful entity_value

-- a `&` with a `#` behind it, and one without

number_spelled : (u : Made) (x z : List ℕ) → IsByNumber u x z → (w : List ℕ) × (x ≡ 38 ∷ 35 ∷ w)
number_spelled u x z (inl d) = (d.stands.between, d.stands.begins.spelled)
number_spelled u x z (inr d) = (120 ∷ d.stands.between, d.stands.begins.spelled)

second_differs : (c : ℕ) (a b x : List ℕ) → x ≡ 38 ∷ c ∷ a → x ≡ 38 ∷ 35 ∷ b → (c ≡ 35 → ⊥) → ⊥
second_differs c a b x e f n = n (cc (e, f))

entity_never : (v : Made) (w x y : List ℕ) → IsEntityWord v x y → x ≡ 38 ∷ 35 ∷ w → ⊥
entity_never v w x y (inl d) f = second_differs 108 _ w x d.spelled f (λ e. absurd (omega (arith, e)))
entity_never v w x y (inr (inl d)) f = second_differs 103 _ w x d.spelled f (λ e. absurd (omega (arith, e)))
entity_never v w x y (inr (inr (inl d))) f = second_differs 97 _ w x d.spelled f (λ e. absurd (omega (arith, e)))
entity_never v w x y (inr (inr (inr (inl d)))) f = second_differs 113 _ w x d.spelled f (λ e. absurd (omega (arith, e)))
entity_never v w x y (inr (inr (inr (inr (inl d))))) f = second_differs 97 _ w x d.spelled f (λ e. absurd (omega (arith, e)))
entity_never v w x y (inr (inr (inr (inr (inr d))))) f = absurd d

references_never : (v u : Made) (x y z : List ℕ) → IsEntity v x y → IsByNumber u x z → ⊥
references_never v u x y z d e = let n = number_spelled u x z e in entity_never d.inner n.0 x y d.stands n.1

either_lawful : LawfulToken IsReference OpensReference scan_reference seen_reference no_fault
either_lawful = lawful_either IsEntity OpensEntity scan_entity seen_entity entity_lawful IsByNumber OpensByNumber scan_by_number seen_by_number by_number_lawful references_never

pub reference_lawful : LawfulToken IsReference OpensReference scan_reference seen_reference reference_fault
reference_lawful = record {
  sound = either_lawful.sound;
  complete = either_lawful.complete;
  ends = either_lawful.ends;
  cut = either_lawful.cut;
  goes_on = either_lawful.goes_on;
  fronts = either_lawful.fronts;
  sees = either_lawful.sees;
  longest = either_lawful.longest;
  firm = λ v x y d. ap (λ q. if is_some q then None else (if closes radix.Decimal x || closes radix.Hexadecimal x then (Some reference_code) else None)) (either_lawful.complete v x y d);
  faultless = refl;
}

-- what takes characters

pub number_shorter : (v : Made) (x y : List ℕ) → IsByNumber v x y → length y < length x
number_shorter v x y (inl d) = let a = (ended_lawful radix.Decimal).ends d.stands.back d.stands.between y d.stands.ends in omega (arith, ap length a.1, length-append a.0 y, ap length d.stands.begins.spelled)
number_shorter v x y (inr d) = let a = (ended_lawful radix.Hexadecimal).ends d.stands.back d.stands.between y d.stands.ends in omega (arith, ap length a.1, length-append a.0 y, ap length d.stands.begins.spelled)

-- how references begin

begins_so : (x : List ℕ) (y : List ℕ) → x ≡ 38 ∷ y → (x ≢ []) × (head_passes (is 38) x ≡ true)
begins_so x y e = ((λ n. absurd (cc (n, e))), ap (head_passes (is 38)) e)

pub reference_begins : (v : Made) (x y : List ℕ) → IsReference v x y → (x ≢ []) × (head_passes (is 38) x ≡ true)
reference_begins v x y (inl d) = go d.stands
  where
    go : IsEntityWord d.inner x y → (x ≢ []) × (head_passes (is 38) x ≡ true)
    go (inl s) = begins_so x _ s.spelled
    go (inr (inl s)) = begins_so x _ s.spelled
    go (inr (inr (inl s))) = begins_so x _ s.spelled
    go (inr (inr (inr (inl s)))) = begins_so x _ s.spelled
    go (inr (inr (inr (inr (inl s))))) = begins_so x _ s.spelled
    go (inr (inr (inr (inr (inr s))))) = absurd s
reference_begins v x y (inr d) = let n = number_spelled v x y d in begins_so x (35 ∷ n.0) n.1

closed_begins : (r : Radix) (x : List ℕ) → closes r x ≡ true → (y : List ℕ) × (x ≡ prefix_of r ++ y)
closed_begins r x e = go (scan_prefix r x) refl e
  where
    go : (q : Option (Made × List ℕ)) → scan_prefix r x ≡ q → is_some (scan_behind (λ y. scan_behind scan_semicolon front_value (scan_figures r y)) back_value q) ≡ true → (y : List ℕ) × (x ≡ prefix_of r ++ y)
    go None f g = absurd (cc)
    go (Some p) f g = (p.1, ((prefix_lawful r).sound p.0 x p.1 f).spelled)

pub fault_begins : (x : List ℕ) (code : ℕ) → reference_fault x ≡ Some code → (x ≢ []) × (head_passes (is 38) x ≡ true)
fault_begins x code e = go (is_some (scan_reference x)) (closes radix.Decimal x) (closes radix.Hexadecimal x) refl refl e
  where
    go : (a b c : Bool) → closes radix.Decimal x ≡ b → closes radix.Hexadecimal x ≡ c → (if a then None else (if b || c then (Some reference_code) else None)) ≡ Some code → (x ≢ []) × (head_passes (is 38) x ≡ true)
    go true b c f g h = absurd (cc)
    go false true c f g h = let n = closed_begins radix.Decimal x f in begins_so x (35 ∷ n.0) n.1
    go false false true f g h = let n = closed_begins radix.Hexadecimal x g in begins_so x (35 ∷ 120 ∷ n.0) n.1
    go false false false f g h = absurd (cc)

front_begins : (x w : List ℕ) → IsFrontOf x (38 ∷ w) → x ≢ [] → head_passes (is 38) x ≡ true
front_begins [] w o n = absurd (n refl)
front_begins (c ∷ x) w o n = let g = o.1 in let e : 38 ≡ c = cc g in sym (ap (is 38) e)

numeric_opened : (x : List ℕ) → OpensByNumber x → x ≢ [] → head_passes (is 38) x ≡ true
numeric_opened x (inl (inl o)) n = front_begins x _ o n
numeric_opened x (inl (inr o)) n = let d = o.2 in (begins_so x _ d.spelled).1
numeric_opened x (inr (inl o)) n = front_begins x _ o n
numeric_opened x (inr (inr o)) n = let d = o.2 in (begins_so x _ d.spelled).1

entity_opened : (x : List ℕ) → OpensEntity x → x ≢ [] → head_passes (is 38) x ≡ true
entity_opened x (inl o) n = front_begins x _ o n
entity_opened x (inr (inl o)) n = front_begins x _ o n
entity_opened x (inr (inr (inl o))) n = front_begins x _ o n
entity_opened x (inr (inr (inr (inl o)))) n = front_begins x _ o n
entity_opened x (inr (inr (inr (inr (inl o))))) n = front_begins x _ o n
entity_opened x (inr (inr (inr (inr (inr o))))) n = absurd o

pub reference_opened : (x : List ℕ) → OpensReference x → x ≢ [] → head_passes (is 38) x ≡ true
reference_opened x (inl o) n = entity_opened x o n
reference_opened x (inr o) n = numeric_opened x o n
