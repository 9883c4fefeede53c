-- Words that are compared with a literal.
use Rattle.std.proofs.Common.{◌≡◌, ℕ, zero, suc, nat_lt, ◌&&◌, Bool, true, List, [], ◌∷◌, sym, ap, ◌∙◌, arith, nat_eq}
use Rattle.std.specs.Str.{chars, IsAscii, IsUtf8, all_scalars, encode_utf8_all}
use Rattle.std.specs.Cmp.Lexicographic.{pointwise, bytes_decides}
use Rattle.std.specs.Bool.{one_answer}
use Rattle.std.proofs.lemmas.Str.{encodes-chars, chars-encodes, chars-IsAscii}
use Rattle.std.proofs.lemmas.Bool.{ltb-true}
use Rattle.std.proofs.lemmas.Bool.{and_parts}
use Rattle.gx_typetext.specs.Nodes.{Made, is_type_word}

pub text_is : (t bytes : List ℕ) → all_scalars t ≡ true → IsUtf8 bytes → pointwise nat_eq (encode_utf8_all t) bytes ≡ pointwise nat_eq (chars bytes) t
text_is t bytes h u =
    let by_bytes = bytes_decides (encode_utf8_all t) bytes in
    let by_chars = bytes_decides (chars bytes) t in
    one_answer {P = encode_utf8_all t ≡ bytes} _ _ by_bytes (λ x. sym (ap encode_utf8_all (by_chars.0 x)) ∙ encodes-chars bytes u, λ e. by_chars.1 (sym (ap chars e) ∙ chars-encodes t h))

-- the characters of bytes below 128 are these bytes
abbrev pub all_low : List ℕ → Bool
all_low [] = true
all_low (c ∷ cs) = nat_lt c 128 && all_low cs

pub ascii : (bs : List ℕ) → all_low bs ≡ true → IsAscii bs
ascii [] e zero = omega arith
ascii [] e (suc i) = omega arith
ascii (c ∷ cs) e zero = ltb-true c 128 (and_parts (nat_lt c 128) (all_low cs) e).0
ascii (c ∷ cs) e (suc i) = ascii cs (and_parts (nat_lt c 128) (all_low cs) e).1 i

pub literal_word : (b : Bool) (bs : List ℕ) (v : Made) → all_low bs ≡ true → b ≡ is_type_word (chars bs) v → b ≡ is_type_word bs v
literal_word b bs v e f = f ∙ ap (λ cs. is_type_word cs v) (chars-IsAscii bs (ascii bs e))
