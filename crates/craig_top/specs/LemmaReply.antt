-- The lemmas of an unknown reply.
use Rattle.std.specs.Prelude.{◌≡◌, ◌++◌, Contains, codes, decimal, ℕ, ◌<◌, ◌≤◌, List, length, map, All, Some, slice_index_or}
use Rattle.std.specs.List.{flat_map}
use Rattle.std.specs.List.Sorted.{IsPermutation, IsNonDecreasing, IsStrictlyIncreasing}
use Rattle.craig_spec.specs.Cut.{PartClause}
use Rattle.craig_spec.specs.Literal.{Clause}
use Rattle.craig_spec.specs.Occurs.{Occurs}
use Rattle.craig_base.specs.LemmaRule.{MeetsLemmaRule}
use Rattle.craig_top.specs.GivenState.{State}
use Rattle.craig_top.specs.Named.{bare_clauses}
use Rattle.craig_top.specs.Naming.{named_clause}
use Rattle.craig_top.specs.ReplyTexts.{literals_text, unknown_text}

-- the text lists as many lemmas as the limit, each implied by the accepted clauses
pub record IsUnknownReply (state : State) (text : List ℕ) : Type 0 where
  -- the lemmas
  pub lemmas : List Clause
  -- there are as many as the limit
  pub many : state.settings.limit ≡ Some (length lemmas)
  -- the accepted clauses imply them, and none contains one of these
  pub rule : MeetsLemmaRule (bare_clauses state.accepted) lemmas
  -- the literals of each are by rising variable
  pub rising : All (λ c. IsStrictlyIncreasing (map (λ l. l.var) c)) lemmas
  -- the text prints them
  pub text_is : text ≡ unknown_text lemmas

-- a lemma as it is printed: the literals of the dense one under their names, by rising variable
pub record IsNamedLemma (names : List ℕ) (dense named : Clause) : Type 0 where
  -- the same literals
  pub permuted : IsPermutation (named_clause names dense) named
  -- by variable
  pub sorted : IsNonDecreasing (map (λ l. l.var) named)

-- the lemmas as they are printed, in their order
pub record AreNamedLemmas (names : List ℕ) (dense named : List Clause) : Type 0 where
  -- there are as many
  pub many : length named ≡ length dense
  -- each stands at its place
  pub each : (k : ℕ) (d : Clause) → k < length dense → IsNamedLemma names (slice_index_or dense k d) (slice_index_or named k d)

-- the lemmas are printed behind what was there
abbrev pub AppendsLemmas : List ℕ → List Clause → (old new : List ℕ) → Type 0
AppendsLemmas names lemmas old new = (named : List Clause) × AreNamedLemmas names lemmas named × (new ≡ old ++ unknown_text named)

-- the text is a line with the number of the lemmas, and then a line for each
abbrev pub IsLemmaText : List ℕ → List Clause → Type 0
IsLemmaText text lemmas = text ≡ codes "s UNKNOWN " ++ decimal (length lemmas) ++ codes "\n" ++ flat_map (λ c. codes "l " ++ literals_text c) lemmas

-- what is said holds of each unknown reply: of the state, the text and the lemmas
abbrev pub EachUnknownReply : (State → List ℕ → List Clause → Type 0) → Type 0
EachUnknownReply Says = (state : State) (text : List ℕ) (reply : IsUnknownReply state text) → Says state text reply.lemmas

-- what is said holds of each lemma of each unknown reply: of the accepted clauses and the lemma
abbrev pub EachLemma : (List Clause → Clause → Type 0) → Type 0
EachLemma Says = (state : State) (text : List ℕ) (reply : IsUnknownReply state text) (lemma : Clause) → Contains reply.lemmas lemma → Says (map (λ (a : PartClause). a.clause) state.accepted) lemma

-- the variables of the accepted clauses are all in the list
abbrev pub HaveOnly : List ℕ → State → Type 0
HaveOnly vars state = (x : ℕ) → Occurs x (map (λ (a : PartClause). a.clause) state.accepted) → Contains vars x

-- the limit is at most the number
abbrev pub IsLimitUpTo : ℕ → State → Type 0
IsLimitUpTo most state = (n : ℕ) → state.settings.limit ≡ Some n → n ≤ most
