-- What texts of a grammar begin with, and grammars that are decided by it.
use Rattle.std.specs.Prelude.{ℕ, List, [], ◌∷◌, ◌++◌, ◌≡◌, ◌≢◌, ◌⊎◌, ◌↔◌, Bool, true, false, if◌then◌else◌, is_some, min, length, Option, Some, ◌||◌}
use Rattle.gx_grammar.specs.Value.{Value}
use Rattle.gx_grammar.specs.Grammar.{Guard, token, empty, ◌&◌, keyed, choose, many, rule, made}
use Rattle.gx_grammar.specs.Language.{Language, Part, Made}
use Rattle.gx_grammar.specs.Opening.{Opens}
use Rattle.gx_grammar.specs.Decision.{Texts, Chooses, Repeats}
use Rattle.gx_grammar.specs.Levels.{Takings, takes_some, AreTakings}

-- the element is one of the list
abbrev pub IsIn : {X : Type 0} → List X → X → Type 0
IsIn [] u = ⊥
IsIn (t ∷ ts) u = (u ≡ t) ⊎ IsIn ts u

-- a fact of each element of a list
abbrev pub AllOf : {X : Type 0} → (X → Type 0) → List X → Type 0
AllOf P [] = Unit {0}
AllOf P (t ∷ ts) = P t × AllOf P ts

-- The token stands at the front of the text, or has a fault there.
abbrev pub Stands : {Token Node : Type 0} → (Token → Value Node → List ℕ → List ℕ → Type 0) → (Token → List ℕ → Option ℕ) → Token → List ℕ → Type 0
Stands {Node = Node} derives faults t x = ((v : Value Node) × (y : List ℕ) × derives t v x y) ⊎ ((code : ℕ) × (faults t x ≡ Some code))

-- One of the tokens stands at the front of the text, or has a fault there.
pub record StandsFirst {Token Node : Type 0} (derives : Token → Value Node → List ℕ → List ℕ → Type 0) (faults : Token → List ℕ → Option ℕ) (ts : List Token) (x : List ℕ) : Type 0 where
  pub token : Token
  pub among : IsIn ts token
  pub stands : Stands derives faults token x

-- One of the tokens stands at the front of the text.
pub record StartsWith {Token Node : Type 0} (derives : Token → Value Node → List ℕ → List ℕ → Type 0) (ts : List Token) (x : List ℕ) : Type 0 where
  pub token : Token
  pub among : IsIn ts token
  pub value : Value Node
  pub rest : List ℕ
  pub derived : derives token value x rest

-- the text is empty, or one of the tokens stands at its front, or has a fault there
abbrev pub EndsOrStarts : {Token Node : Type 0} → (Token → Value Node → List ℕ → List ℕ → Type 0) → (Token → List ℕ → Option ℕ) → List Token → Texts
EndsOrStarts derives faults ts x = (x ≡ []) ⊎ StandsFirst derives faults ts x

-- the beginning of such a text: it is empty, or opens one of the tokens, or goes on behind one
pub data BeginsWith {Token Node : Type 0} (derives : Token → Value Node → List ℕ → List ℕ → Type 0) (opens : Token → List ℕ → Type 0) (ts : List Token) : List ℕ → Type 0 where
  begins_empty : BeginsWith derives opens ts []
  begins_opening : {x : List ℕ} (u : Token) → IsIn ts u → opens u x → BeginsWith derives opens ts x
  begins_token : {x : List ℕ} → StartsWith derives ts x → BeginsWith derives opens ts x

-- The tokens with which each production may begin, and those that may follow it.
pub record Fronts (L : Language) : Type 0 where
  pub takings : Takings L
  pub first : L.Production → List L.Token
  pub next : L.Production → List L.Token

-- the tokens with which a grammar may begin
abbrev pub first_of : (L : Language) → Fronts L → Part L → List L.Token
first_of L f (token t) = t ∷ []
first_of L f empty = []
first_of L f (A & B) = first_of L f A ++ (if takes_some L f.takings A then [] else (first_of L f B))
first_of L f (keyed t g) = t ∷ []
first_of L f (choose g A B) = first_of L f A ++ first_of L f B
first_of L f (many g A) = first_of L f A
first_of L f (rule p) = f.first p
first_of L f (made h A) = first_of L f A

-- the tokens that stand first behind what stands before A, where `ts` may follow A
abbrev pub first_behind : (L : Language) → Fronts L → Part L → List L.Token → List L.Token
first_behind L f A ts = first_of L f A ++ (if takes_some L f.takings A then [] else ts)

-- A guard that takes a text with one of the tokens at its front, with a fault or without, and has seen as
-- far as one is opened.
abbrev pub scans_any : {Token Node : Type 0} → (Token → List ℕ → Option (Value Node × List ℕ)) → (Token → List ℕ → Option ℕ) → List Token → List ℕ → Bool
scans_any scan faults [] x = false
scans_any scan faults (t ∷ ts) x = is_some (scan t x) || (is_some (faults t x) || scans_any scan faults ts x)

abbrev pub seen_any : {Token : Type 0} → (Token → List ℕ → ℕ) → List Token → List ℕ → ℕ
seen_any seen [] x = length x
seen_any seen (t ∷ ts) x = min (seen t x) (seen_any seen ts x)

abbrev pub by_tokens : {Token Node : Type 0} → (Token → List ℕ → Option (Value Node × List ℕ)) → (Token → List ℕ → Option ℕ) → (Token → List ℕ → ℕ) → List Token → Guard
by_tokens scan faults seen ts = record { takes = scans_any scan faults ts; seen = seen_any seen ts }

-- A guard that takes a text whose first character passes the test.
abbrev pub head_passes : (ℕ → Bool) → List ℕ → Bool
head_passes test [] = false
head_passes test (c ∷ x) = test c

abbrev pub by_character : (ℕ → Bool) → Guard
by_character test = record { takes = head_passes test; seen = λ x. length x }

-- Two tokens never stand at one place, with a fault or without, and where a text that u opens goes on with t, it is empty or opens t as well.
pub record AreApart (L : Language) (t u : L.Token) : Type 0 where
  pub never : (x : List ℕ) → Stands L.derives L.faults t x → Stands L.derives L.faults u x → ⊥
  pub opening : (x z : List ℕ) → L.opens u x → Stands L.derives L.faults t (x ++ z) → (x ≡ []) ⊎ L.opens t x

-- The first character of a token passes the test, or fails it.
pub record HasHead (L : Language) (test : ℕ → Bool) (passes : Bool) (u : L.Token) : Type 0 where
  pub stands : (x : List ℕ) → Stands L.derives L.faults u x → (x ≢ []) × (head_passes test x ≡ passes)
  pub opened : (x : List ℕ) → L.opens u x → x ≢ [] → head_passes test x ≡ passes

-- The fronts are right.
pub record AreFronts (L : Language) (f : Fronts L) : Type 0 where
  pub taken : AreTakings L f.takings
  pub firsts : (p : L.Production) → AllOf (IsIn (f.first p)) (first_of L f (L.rules p))
  pub follows : (p : L.Production) (y : List ℕ) → L.follows p y ↔ EndsOrStarts L.derives L.faults (f.next p) y
  pub follows_cut : (p : L.Production) (y : List ℕ) → L.follows_cut p y ↔ BeginsWith L.derives L.opens (f.next p) y

-- Each guard of a grammar decides by the first tokens, where `ts` may follow the grammar.
abbrev pub IsSorted : (L : Language) → Fronts L → Part L → List L.Token → Type 0
IsSorted L f (token t) ts = Unit {0}
IsSorted L f empty ts = Unit {0}
IsSorted L f (A & B) ts = IsSorted L f A (first_behind L f B ts) × IsSorted L f B ts
IsSorted L f (keyed t g) ts = (v : Made L) → IsSorted L f (g v) ts
IsSorted L f (choose g A B) ts = Chooses L g A B (EndsOrStarts L.derives L.faults ts) (BeginsWith L.derives L.opens ts) × IsSorted L f A ts × IsSorted L f B ts
IsSorted L f (many g A) ts = Repeats L g A (EndsOrStarts L.derives L.faults ts) (BeginsWith L.derives L.opens ts) × (takes_some L f.takings A ≡ true) × IsSorted L f A (first_of L f A ++ ts)
IsSorted L f (rule p) ts = AllOf (IsIn (f.next p)) ts
IsSorted L f (made h A) ts = IsSorted L f A ts

-- A guard by tokens decides between A and B, where `us` may follow: A begins with the tokens, each of
-- which opens A, and what B and `us` begin with stands apart from them.
pub record TokensChoose (L : Language) (f : Fronts L) (ts : List L.Token) (A B : Part L) (us : List L.Token) : Type 0 where
  pub takes : takes_some L f.takings A ≡ true
  pub first : AllOf (IsIn ts) (first_of L f A)
  pub full : AllOf (λ t. f.takings.token_takes t ≡ true) ts
  pub opening : AllOf (λ t. (x : List ℕ) → L.opens t x → Opens L A x) ts
  pub apart : AllOf (λ u. AllOf (λ t. AreApart L t u) ts) (first_behind L f B us)

-- A guard by the first character decides between A and B, where `us` may follow.
pub record CharacterChooses (L : Language) (f : Fronts L) (test : ℕ → Bool) (A B : Part L) (us : List L.Token) : Type 0 where
  pub takes : takes_some L f.takings A ≡ true
  pub passes : AllOf (HasHead L test true) (first_of L f A)
  pub fails : AllOf (HasHead L test false) (first_behind L f B us)
