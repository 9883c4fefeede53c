-- How QNames are scanned.
use Rattle.std.proofs.Common.{◌≡◌, ℕ, zero, suc, nat_lt, ◌+◌, ◌≤◌, ◌==◌, ◌||◌, ◌&&◌, Bool, true, false, if◌then◌else◌, List, [], ◌∷◌, length, min, refl, sym, ap, ap₂, ◌∙◌, Option, Some, None, arith, nat_eq, is_some}
use Rattle.std.specs.Str.{chars, IsAscii, IsUtf8, all_scalars, encode_utf8_all}
use Rattle.std.specs.Cmp.Lexicographic.{pointwise, bytes_decides}
use Rattle.std.specs.Bool.{one_answer}
use Rattle.std.proofs.lemmas.Str.{encodes-chars, chars-encodes, chars-IsAscii}
use Rattle.std.proofs.lemmas.Bool.{ltb-true}
use Rattle.gx_grammar.specs.Value.{nothing, characters, pair}
use Rattle.gx_grammar.specs.First.{head_passes}
use Rattle.gx_grammar.specs.Tokens.{run_of, behind_run, unless_passes, scan_run, scan_name, seen_name, seen_word}
use Rattle.gx_grammar.specs.Joined.{with_front, scan_behind, seen_behind}
use Rattle.std.proofs.lemmas.Bool.{and_parts}
use Rattle.gx_grammar.proofs.PublicLaws.{run_short}
use Rattle.gx_base.specs.NameCharacters.{is_ncname_start, is_ncname_character}
use Rattle.gx_parse_grammar.specs.Characters.{no_character}
use Rattle.gx_parse_grammar.specs.Nodes.{Made}
use Rattle.gx_parse_tokens.specs.Names.{colon_seen, part_made}
use Rattle.gx_parse_grammar.specs.Grammar.{is_name}
use Rattle.gx_parse_grammar.specs.Tokens.{scan_ncname, scan_colon, behind_colon, scan_local_part, seen_local_part, starts_local_part, scan_has_local_part, scan_qname, seen_qname}

-- behind no character it is always right to end
pub unless_none : {V : Type 0} (v : V) (y : List ℕ) → unless_passes v no_character (Some y) ≡ Some (v, y)
unless_none v [] = refl
unless_none v (c ∷ y) = refl

start_continues : (c : ℕ) → is_ncname_start c ≡ true → is_ncname_character c ≡ true
unfolding is_ncname_character
start_continues c e = rw e refl

ncname_is : (c : ℕ) (x : List ℕ) → is_ncname_start c ≡ true → scan_ncname (c ∷ x) ≡ Some (characters (run_of is_ncname_character (c ∷ x)), behind_run is_ncname_character (c ∷ x))
ncname_is c x e =
    let f = start_continues c e in
    rw (e, f) (unless_none (characters (c ∷ run_of is_ncname_character x)) (behind_run is_ncname_character x))

seen_is : (c : ℕ) (x : List ℕ) → is_ncname_start c ≡ true → seen_name is_ncname_start is_ncname_character (c ∷ x) ≡ length (behind_run is_ncname_character (c ∷ x))
seen_is c x e = let f = start_continues c e in rw (e, f) refl

pub no_name : (x : List ℕ) → head_passes is_ncname_start x ≡ false → (scan_qname x ≡ None) × (seen_qname x ≡ length x)
no_name [] e = (refl, refl)
no_name (c ∷ x) e = (rw e refl, rw e refl)

local_seen : (x : List ℕ) → starts_local_part x ≡ false → seen_local_part x ≡ colon_seen x
local_seen [] e = refl
local_seen (c ∷ []) e = go (58 == c) refl
  where
    go : (b : Bool) → (58 == c) ≡ b → seen_local_part (c ∷ []) ≡ colon_seen (c ∷ [])
    go true f = rw f refl
    go false f = rw f refl
local_seen (c ∷ d ∷ x) e = go (58 == c) refl
  where
    go : (b : Bool) → (58 == c) ≡ b → seen_local_part (c ∷ d ∷ x) ≡ colon_seen (c ∷ d ∷ x)
    go true f = let g : is_ncname_start d ≡ false = rw f at e in rw (f, g) (let q : min (length (d ∷ x)) (length (d ∷ x)) ≡ length (d ∷ x) = omega arith in q)
    go false f = rw f refl

colon_short : (x : List ℕ) → colon_seen x ≤ length x
colon_short [] = omega arith
colon_short (c ∷ x) = elim (58 == c) as (λ b. (if b then (length x) else (length (c ∷ x))) ≤ length (c ∷ x)) [ true ↦ omega arith | false ↦ omega arith ]

pub plain_name : (x first behind : List ℕ) → head_passes is_ncname_start x ≡ true → first ≡ run_of is_ncname_character x → behind ≡ behind_run is_ncname_character x → starts_local_part behind ≡ false
    → (scan_qname x ≡ Some (pair (characters first) nothing, behind)) × (seen_qname x ≡ colon_seen behind)
plain_name [] first behind e f g h = absurd (cc)
plain_name (c ∷ x) first behind e f g h =
    let n = ncname_is c x e in
    let s = seen_is c x e in
    let k : starts_local_part (behind_run is_ncname_character (c ∷ x)) ≡ false = ap starts_local_part (sym g) ∙ h in
    let m = local_seen (behind_run is_ncname_character (c ∷ x)) k in
    let b = colon_short (behind_run is_ncname_character (c ∷ x)) in (
      ap (scan_behind scan_has_local_part pair) n ∙ ap (λ q. with_front pair (characters (run_of is_ncname_character (c ∷ x))) (if q then (scan_local_part (behind_run is_ncname_character (c ∷ x))) else (Some (nothing, behind_run is_ncname_character (c ∷ x))))) k
          ∙ ap₂ (λ p q. Some (pair (characters p) nothing, q)) (sym f) (sym g),
      ap₂ (λ p q. seen_behind seen_local_part p q) s n ∙ (let q : min (length (behind_run is_ncname_character (c ∷ x))) (seen_local_part (behind_run is_ncname_character (c ∷ x))) ≡ colon_seen (behind_run is_ncname_character (c ∷ x)) = omega (arith, m, b) in q) ∙ ap colon_seen (sym g),
    )

local_is : (tail : List ℕ) → starts_local_part (58 ∷ tail) ≡ true
    → (scan_local_part (58 ∷ tail) ≡ Some (characters (run_of is_ncname_character tail), behind_run is_ncname_character tail)) × (seen_local_part (58 ∷ tail) ≡ length (behind_run is_ncname_character tail))
local_is [] e = absurd (cc)
local_is (d ∷ x) e =
    let n = ncname_is d x e in
    let s = seen_is d x e in
    let b = run_short is_ncname_character (d ∷ x) in (
      ap (with_front behind_colon nothing) n,
      ap (λ q. min (length (d ∷ x)) q) s ∙ (let q : min (length (d ∷ x)) (length (behind_run is_ncname_character (d ∷ x))) ≡ length (behind_run is_ncname_character (d ∷ x)) = omega (arith, b) in q),
    )

pub prefixed_name : (x first behind tail local rest : List ℕ) → head_passes is_ncname_start x ≡ true → first ≡ run_of is_ncname_character x → behind ≡ behind_run is_ncname_character x → behind ≡ 58 ∷ tail → starts_local_part behind ≡ true
    → local ≡ run_of is_ncname_character tail → rest ≡ behind_run is_ncname_character tail
    → (scan_qname x ≡ Some (pair (characters first) (characters local), rest)) × (seen_qname x ≡ length rest)
prefixed_name [] first behind tail local rest e f g h i j k = absurd (cc)
prefixed_name (c ∷ x) first behind tail local rest e f g h i j k =
    let n = ncname_is c x e in
    let s = seen_is c x e in
    let w : behind_run is_ncname_character (c ∷ x) ≡ 58 ∷ tail = sym g ∙ h in
    let l = local_is tail (ap starts_local_part (sym h) ∙ i) in
    let t : starts_local_part (58 ∷ tail) ≡ true = ap starts_local_part (sym h) ∙ i in
    let b = run_short is_ncname_character tail in (
      ap (scan_behind scan_has_local_part pair) n ∙ ap (λ q. with_front pair (characters (run_of is_ncname_character (c ∷ x))) (scan_has_local_part q)) w
          ∙ ap (λ q. with_front pair (characters (run_of is_ncname_character (c ∷ x))) (if q then (scan_local_part (58 ∷ tail)) else (Some (nothing, 58 ∷ tail)))) t
          ∙ ap (with_front pair (characters (run_of is_ncname_character (c ∷ x)))) l.0
          ∙ (let m : List ℕ = run_of is_ncname_character (c ∷ x) in ap₂ (λ p q. Some (pair (characters m) (characters p), q)) (sym j) (sym k) ∙ ap (λ p. Some (pair (characters p) (characters local), rest)) (sym f)),
      ap₂ (λ p q. seen_behind seen_local_part p q) s n ∙ ap (λ q. min (length q) (seen_local_part q)) w ∙ (let q : min (length (58 ∷ tail)) (seen_local_part (58 ∷ tail)) ≡ length (behind_run is_ncname_character tail) = omega (arith, l.1, b) in q) ∙ ap length (sym k),
    )

run_length : (pass : ℕ → Bool) (x : List ℕ) → length (run_of pass x) + length (behind_run pass x) ≡ length x
run_length pass [] = refl
run_length pass (c ∷ x) =
    let h = run_length pass x in
    elim (pass c) as (λ b. length (if b then (c ∷ run_of pass x) else []) + length (if b then (behind_run pass x) else (c ∷ x)) ≡ length (c ∷ x)) [ true ↦ omega (arith, h) | false ↦ omega arith ]

pub plain_whole : (x first behind : List ℕ) → first ≡ run_of is_ncname_character x → behind ≡ behind_run is_ncname_character x → length behind + length first ≡ length x
plain_whole x first behind f g = let h = run_length is_ncname_character x in let i = ap length f in let j = ap length g in omega (arith, h, i, j)

pub prefixed_whole : (x first behind tail local rest : List ℕ) → first ≡ run_of is_ncname_character x → behind ≡ behind_run is_ncname_character x → behind ≡ 58 ∷ tail → local ≡ run_of is_ncname_character tail → rest ≡ behind_run is_ncname_character tail
    → length rest + (length first + (1 + length local)) ≡ length x
prefixed_whole x first behind tail local rest f g h j k =
    let a = plain_whole x first behind f g in
    let b = plain_whole tail local rest j k in
    let d = ap length h in
    omega (arith, a, b, d)

-- a name has the characters of another exactly where the bytes are the same
pub text_is : (t bytes : List ℕ) → all_scalars t ≡ true → IsUtf8 bytes → pointwise nat_eq (encode_utf8_all t) bytes ≡ pointwise nat_eq (chars bytes) t
text_is t bytes h u =
    let by_bytes = bytes_decides (encode_utf8_all t) bytes in
    let by_chars = bytes_decides (chars bytes) t in
    one_answer {P = encode_utf8_all t ≡ bytes} _ _ by_bytes (λ x. sym (ap encode_utf8_all (by_chars.0 x)) ∙ encodes-chars bytes u, λ e. by_chars.1 (sym (ap chars e) ∙ chars-encodes t h))

pub is_plain : (cs t : List ℕ) (second : Option (List ℕ)) → is_some second ≡ false → pointwise nat_eq cs t ≡ is_name cs (pair (characters t) (part_made second))
is_plain cs t None e = refl
is_plain cs t (Some x) e = absurd (cc)

-- the characters of bytes below 128 are these bytes
abbrev pub all_low : List ℕ → Bool
all_low [] = true
all_low (c ∷ cs) = nat_lt c 128 && all_low cs

ascii : (bs : List ℕ) → all_low bs ≡ true → IsAscii bs
ascii [] e zero = omega arith
ascii [] e (suc i) = omega arith
ascii (c ∷ cs) e zero = ltb-true c 128 (and_parts (nat_lt c 128) (all_low cs) e).0
ascii (c ∷ cs) e (suc i) = ascii cs (and_parts (nat_lt c 128) (all_low cs) e).1 i

pub literal_name : (b : Bool) (bs : List ℕ) (v : Made) → all_low bs ≡ true → b ≡ is_name (chars bs) v → b ≡ is_name bs v
literal_name b bs v e f = f ∙ ap (λ cs. is_name cs v) (chars-IsAscii bs (ascii bs e))

or_is : (a b c : Bool) → ((a || b) || c) ≡ (a || (b || c))
or_is true b c = refl
or_is false b c = refl

pub or_four : (p q r s a b c d : Bool) → p ≡ a → q ≡ b → r ≡ c → s ≡ d → (((p || q) || r) || s) ≡ (a || (b || (c || d)))
or_four p q r s a b c d e f g h = or_is (p || q) r s ∙ or_is p q (r || s) ∙ rw (e, f, g, h) refl

pub or_five : (p q r s t a b c d i : Bool) → p ≡ a → q ≡ b → r ≡ c → s ≡ d → t ≡ i → ((((p || q) || r) || s) || t) ≡ (a || (b || (c || (d || i))))
or_five p q r s t a b c d i e f g h j = or_is ((p || q) || r) s t ∙ or_is (p || q) r (s || t) ∙ or_is p q (r || (s || t)) ∙ rw (e, f, g, h, j) refl

pub or_six : (p q r s t u a b c d i l : Bool) → p ≡ a → q ≡ b → r ≡ c → s ≡ d → t ≡ i → u ≡ l → (((((p || q) || r) || s) || t) || u) ≡ (a || (b || (c || (d || (i || l)))))
or_six p q r s t u a b c d i l e f g h j k = or_is (((p || q) || r) || s) t u ∙ or_is ((p || q) || r) s (t || u) ∙ or_is (p || q) r (s || (t || u)) ∙ or_is p q (r || (s || (t || u))) ∙ rw (e, f, g, h, j, k) refl

-- NCNames

pub no_ncname : (x : List ℕ) → head_passes is_ncname_start x ≡ false → (scan_ncname x ≡ None) × (seen_name is_ncname_start is_ncname_character x ≡ length x)
no_ncname [] e = (refl, refl)
no_ncname (c ∷ x) e = (rw e refl, rw e refl)

pub one_ncname : (x first behind : List ℕ) → head_passes is_ncname_start x ≡ true → first ≡ run_of is_ncname_character x → behind ≡ behind_run is_ncname_character x
    → (scan_ncname x ≡ Some (characters first, behind)) × (seen_name is_ncname_start is_ncname_character x ≡ length behind)
one_ncname [] first behind e f g = absurd (cc)
one_ncname (c ∷ x) first behind e f g = (ncname_is c x e ∙ ap₂ (λ p q. Some (characters p, q)) (sym f) (sym g), seen_is c x e ∙ ap length (sym g))
