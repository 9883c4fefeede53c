-- The words of tags at the front of a text.
use Rattle.std.proofs.Common.{◌≡◌, ℕ, ◌<◌, true, false, List, [], ◌∷◌, length, refl, sym, ap, ◌∙◌, subst, arith}
use Rattle.std.specs.Prelude.{◌==◌, Some, IfSome}
use Rattle.std.proofs.lemmas.Bool.Decides.{nat_tests}
use Rattle.gx_grammar.specs.First.{head_passes}
use Rattle.gx_grammar.specs.Words.{scan_one_of, seen_one_of}
use Rattle.gx_xml.specs.Characters.{spelled}
use Rattle.gx_xml.specs.Found.{IsWordFound}
use Rattle.gx_xml.specs.Marks.{begins_markup, choice_words, no_character}
use Rattle.gx_xml.specs.declared.characters.Characters.{Characters}
use Rattle.gx_xml.specs.declared.marks.Choice.TheVariants as choice_of
use Rattle.gx_xml.specs.declared.marks.Mark.TheVariants as mark
use Rattle.gx_xml.specs.declared.scan.WordFound.{WordFound}

none_stops : (x : List ℕ) → head_passes no_character x ≡ false
none_stops [] = refl
none_stops (c ∷ x) = refl

pub end_of_tag : (found : WordFound) (behind : Characters) (text : List ℕ) → text ≡ 62 ∷ spelled behind → found.word ≡ Some (mark.Open, behind) → found.seen ≡ length (spelled behind)
    → IsWordFound (choice_words choice_of.TagEnd) text found
unfolding choice_words
end_of_tag found behind text e word seen =
    let free = none_stops (spelled behind) in
    record {
      word = rw (e, word, free) refl;
      seen = rw (e, seen) (omega arith);
      shorter = subst (λ o. IfSome o (λ r. length (spelled r.1) < length text)) (sym word) (omega (arith, ap length e));
    }

pub end_tag : (found : WordFound) (behind : Characters) (text : List ℕ) → text ≡ 60 ∷ 47 ∷ spelled behind → found.word ≡ Some (mark.EndTag, behind) → found.seen ≡ length (spelled behind)
    → IsWordFound (choice_words choice_of.Content) text found
unfolding choice_words
end_tag found behind text e word seen =
    let free = none_stops (spelled behind) in
    record {
      word = rw (e, word, free) refl;
      seen = rw (e, seen) (omega arith);
      shorter = subst (λ o. IfSome o (λ r. length (spelled r.1) < length text)) (sym word) (omega (arith, ap length e));
    }

pub start_tag : (found : WordFound) (behind : Characters) (text tail : List ℕ) (c : ℕ) → text ≡ 60 ∷ spelled behind → spelled behind ≡ c ∷ tail → begins_markup c ≡ false
    → found.word ≡ Some (mark.StartTag, behind) → found.seen ≡ length (spelled behind)
    → IsWordFound (choice_words choice_of.Content) text found
unfolding choice_words
start_tag found behind text tail c e f free word seen =
    let slash : (47 == c) ≡ false = grind (arith, nat_tests) in
    let mark : (33 == c) ≡ false = grind (arith, nat_tests) in
    let question : (63 == c) ≡ false = grind (arith, nat_tests) in
    let whole : text ≡ 60 ∷ c ∷ tail = e ∙ ap (λ t. 60 ∷ t) f in
    record {
      word = rw (whole, word, f, slash, free) refl;
      seen = rw (whole, seen, f, slash, mark, question) (omega arith);
      shorter = subst (λ o. IfSome o (λ r. length (spelled r.1) < length text)) (sym word) (omega (arith, ap length e));
    }
