-- How phrases go on.
use Rattle.std.proofs.Common.{◌≡◌, ℕ, Bool, true, false, not, refl}
use Rattle.std.specs.Prelude.{Option, Some, None, is_some, is_none}
use Rattle.gx_grammar.specs.Ran.{Standing}
use Rattle.gx_xml.specs.declared.runs.Base.{Base}
use Rattle.gx_xml.specs.declared.marks.Mark.{Mark}
use Rattle.gx_xml.specs.declared.marks.Mark.TheVariants as mark
use Rattle.gx_xml.specs.Nodes.{Made}
use Rattle.gx_xml.specs.Grammar.{Phrase, character_of, character_read, behind_encoding, behind_version}
use Rattle.gx_xml.specs.Standings.{Did}

pub none_there : (o : Option ℕ) (r : Bool) → is_some o ≡ not r → r ≡ is_none o
none_there None true e = refl
none_there None false e = absurd (cc)
none_there (Some x) true e = absurd (cc)
none_there (Some x) false e = refl

-- a word that begins no number says its character
pub read_character : (expected : Option ℕ) (m : Mark) (k : ℕ → Phrase) (w : Made) (a b : Standing) → ((x : Base) → m ≡ mark.Numeral x → ⊥)
    → Did w a b (k (character_of m)) → Did w a b (character_read expected m k)
unfolding character_read
read_character expected (mark.Numeral x) k w a b n h = absurd (n x refl)
read_character expected _ k w a b n h = h

-- what no word goes on with is left as it is
pub no_standalone : (m : Mark) (A : Phrase) (w : Made) (a b : Standing) → (m ≡ mark.Standalone → ⊥) → Did w a b A → Did w a b (behind_encoding m A)
unfolding behind_encoding
no_standalone mark.Standalone A w a b n h = absurd (n refl)
no_standalone _ A w a b n h = h

pub no_part : (m : Mark) (A : Phrase) (w : Made) (a b : Standing) → (m ≡ mark.Encoding → ⊥) → (m ≡ mark.Standalone → ⊥) → Did w a b A → Did w a b (behind_version m A)
unfolding behind_version
no_part mark.Encoding A w a b n k h = absurd (n refl)
no_part mark.Standalone A w a b n k h = absurd (k refl)
no_part _ A w a b n k h = h
