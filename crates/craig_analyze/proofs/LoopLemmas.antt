-- The two loops of the walk: to the asserting literal, and then through what is of level 0.
use Rattle.std.proofs.Common.{◌≡◌, ◌≢◌, inl, inr, ℕ, ◌<◌, ◌≤◌, List, [], ◌∷◌, ◌++◌, length, get_or, take, All, Contains, sym, ap, subst, ◌∙◌, arith}
use Rattle.std.proofs.lemmas.List.Elements.{All-contains, All-nil, All-weaker, Contains-append_left, Contains-append_right, Contains-append_cases}
use Rattle.std.proofs.lemmas.List.Sorted.{Contains-permutation}
use Rattle.craig_spec.specs.Literal.{Literal, Clause, negation}
use Rattle.craig_spec.specs.Chain.{ChainStep, SameLiterals, IsChain}
use Rattle.craig_spec.proofs.MemberLemmas.{Contains-cases}
use Rattle.craig_watch.specs.Trail.{IsFalse, level_at}
use Rattle.craig_watch.specs.Held.{HeldView, held_clause, IsConsistent}
use Rattle.craig_analyze.specs.declared.staying.Staying.TheVariants.{InnerLevels}
use Rattle.craig_proof.specs.NeededSteps.{bound_of}
use Rattle.craig_analyze.specs.Resolvent.{ResolventView, at_place, negated_at, resolvent_of, IsEndLevel, IsUnresolved, IsGreatestTaken, IsResolvable, HasPresent, HasResolved, HasFound, HasEnded, IsWalking, IsEnding, AreApart}
use Rattle.craig_proof.proofs.FindingLemmas.{bound_of-above, bound_of-le}
use Rattle.craig_analyze.proofs.PlaceLemmas.{same_negated, level_at-place}
use Rattle.craig_analyze.proofs.LevelLemmas.{level-le, reason-first}
use Rattle.craig_analyze.proofs.ChainLemmas.{IsChain-same}
use Rattle.craig_analyze.proofs.ResolventLemmas.{has-pending, has-cases}
use Rattle.craig_analyze.proofs.WalkLemmas.{Taken, IsGreatestTaken-taken, not-before}

-- no place that is taken out is above the greatest
taken-le : (place p : ℕ) (old new : ResolventView) → IsGreatestTaken place old new → Contains old.pending p → p ≤ place
taken-le place p old new taken has =
    elim (Contains-cases place new.pending p (Contains-permutation old.pending (place ∷ new.pending) p taken.rest has)) [
      | inl is ↦ (let e : place ≡ p = is in omega arith)
      | inr rest ↦ All-contains (λ q. q ≤ place) new.pending p taken.greatest rest
    ]

-- the greatest place is of the present level where one is
present-taken : (h : HeldView) (place p : ℕ) (old new : ResolventView) → IsConsistent h → 0 < h.level → Taken InnerLevels h place old new → p ≤ place → (at_place h.trail p).level ≡ h.level → (at_place h.trail place).level ≡ h.level
present-taken h place p old new ok above taken le is =
    let within : place < length h.trail = taken.within in
    let up : (at_place h.trail p).level ≤ (at_place h.trail place).level = level-le h.trail p place ok.levels le within in
    elim taken.end [ inl z ↦ absurd (let zero_level : (at_place h.trail place).level ≡ 0 = z in omega arith) | inr same ↦ same ]

pub walking-first : (h : HeldView) (b place : ℕ) (before : List ChainStep) (old s : ResolventView) → IsConsistent h → 0 < h.level → IsUnresolved InnerLevels h b old → HasPresent h old → IsGreatestTaken place old s → IsWalking h place before before old s
walking-first h b place before old s ok above u present is_taken =
    let taken : Taken InnerLevels h place old s = IsGreatestTaken-taken InnerLevels h b place old s ok u is_taken in
    record {
      within = taken.within;
      level = present-taken h place present.0 old s ok above taken (taken-le place present.0 old s is_taken present.1) present.2;
      marked = taken.marked;
      gone = taken.gone;
      unresolved = taken.unresolved;
      chain = λ start leads. IsChain-same (held_clause h.arena) start before (resolvent_of h.trail old) (negated_at h.trail place ∷ resolvent_of h.trail s) leads taken.same;
    }

-- a pending place of a level above 0 is of the present one
above-present : (h : HeldView) (b p : ℕ) (s : ResolventView) → IsUnresolved InnerLevels h b s → Contains s.pending p → 0 < (at_place h.trail p).level → (at_place h.trail p).level ≡ h.level
above-present h b p s u has above =
    elim (All-contains (λ q. IsEndLevel h (at_place h.trail q).level) s.pending p u.ends has) [ inl z ↦ absurd (let zero_level : (at_place h.trail p).level ≡ 0 = z in omega arith) | inr same ↦ same ]

abbrev pub HasAbove : HeldView → ResolventView → Type 0
HasAbove h s = (p : ℕ) × Contains s.pending p × (0 < (at_place h.trail p).level)

-- where another pending place is of the present level, the one that was taken out may be resolved on
pub walking-resolvable : (h : HeldView) (place : ℕ) (before after : List ChainStep) (old s : ResolventView) → IsConsistent h → IsWalking h place before after old s → HasAbove h s → IsResolvable InnerLevels h place s
walking-resolvable h place before after old s ok w (p, has, above) =
    let same : (at_place h.trail p).level ≡ h.level = above-present h place p s w.unresolved has above in
    let low : p < place = All-contains (λ q. q < place) s.pending p w.unresolved.below has in
    record {
      within = w.within;
      end = inr w.level;
      marked = w.marked;
      gone = w.gone;
      forced = reason-first h.trail place ok.levels w.within (inr (p, low, same ∙ sym w.level));
      unresolved = w.unresolved;
    }

-- what is pending and of the present level stays pending
still-present : (h : HeldView) (place p : ℕ) (before after : List ChainStep) (s mid : ResolventView) → IsConsistent h → place < length h.trail → IsUnresolved InnerLevels h place s → Contains s.pending p → (at_place h.trail p).level ≡ h.level → HasResolved InnerLevels h place before after s mid → HasPresent h mid
still-present h place p before after s mid ok within u has level resolved =
    let low : p < place = All-contains (λ q. q < place) s.pending p u.below has in
    let inside : p < length h.trail = omega arith in
    elim (has-cases h.trail mid (negated_at h.trail p) (resolved.longer (negated_at h.trail p) (has-pending h.trail s p has))) [
      | inl there ↦
          let q : ℕ = there.0 in
          let q_low : q < place = All-contains (λ k. k < place) mid.pending q resolved.unresolved.below there.1 in
          let same : q ≡ p = same_negated h.trail q p ok.distinct (omega arith) inside there.2 in
          (q, there.1, ap (λ k. (at_place h.trail k).level) same ∙ level)
      | inr lower ↦
          let inner = All-contains (λ l. (0 < level_at h.trail l) × (level_at h.trail l < h.level)) mid.lower (negated_at h.trail p) resolved.unresolved.lower_inner lower in
          let less : level_at h.trail (negated_at h.trail p) < h.level = inner.1 in
          let is : level_at h.trail (negated_at h.trail p) ≡ (at_place h.trail p).level = level_at-place h.trail p ok.distinct inside in
          absurd (omega arith)
    ]

pub walking-present : (h : HeldView) (place : ℕ) (before steps after : List ChainStep) (old s mid : ResolventView) → IsConsistent h → IsWalking h place before steps old s → HasAbove h s → HasResolved InnerLevels h place steps after s mid → HasPresent h mid
walking-present h place before steps after old s mid ok w (p, has, above) resolved =
    still-present h place p steps after s mid ok w.within w.unresolved has (above-present h place p s w.unresolved has above) resolved

pub walking-next : (h : HeldView) (place next : ℕ) (before steps after : List ChainStep) (old s mid new : ResolventView) → IsConsistent h → 0 < h.level → IsWalking h place before steps old s → HasAbove h s → HasResolved InnerLevels h place steps after s mid → IsGreatestTaken next mid new → IsWalking h next before after old new × (next < place)
walking-next h place next before steps after old s mid new ok above w others resolved is_taken =
    let present = walking-present h place before steps after old s mid ok w others resolved in
    let first : IsWalking h next after after mid new = walking-first h place next after mid new ok above resolved.unresolved present is_taken in
    let taken = IsGreatestTaken-taken InnerLevels h place next mid new ok resolved.unresolved is_taken in (
      record {
        within = first.within;
        level = first.level;
        marked = first.marked;
        gone = first.gone;
        unresolved = first.unresolved;
        chain = λ start leads. first.chain start (resolved.chain start [] (All-nil (λ l. (¬ IsFalse (take place h.trail) (negation l)) × (l ≢ negated_at h.trail place))) (w.chain start leads));
      },
      All-contains (λ q. q < place) mid.pending next resolved.unresolved.below taken.there,
    )

pub walking-found : (h : HeldView) (place : ℕ) (first : Literal) (before after : List ChainStep) (old s : ResolventView) → IsWalking h place before after old s → first ≡ negated_at h.trail place → All (λ p. (at_place h.trail p).level ≡ 0) s.pending → HasFound h first before after old s
walking-found h place first before after old s w is root = record {
  place = place;
  within = w.within;
  first_is = is;
  level = w.level;
  unresolved = w.unresolved;
  root = root;
  chain = λ start leads. subst (λ (l : Literal). IsChain (held_clause h.arena) start after (l ∷ resolvent_of h.trail s)) (sym is) (w.chain start leads);
}

-- the loop at level 0
pub SameLiterals-behind : (e c d : Clause) → SameLiterals c d → SameLiterals (e ++ c) (e ++ d)
SameLiterals-behind e c d same l = (
  λ h. elim (Contains-append_cases e c l h) [ inl front ↦ Contains-append_left e d l front | inr behind ↦ Contains-append_right e d l ((same l).0 behind) ],
  λ h. elim (Contains-append_cases e d l h) [ inl front ↦ Contains-append_left e c l front | inr behind ↦ Contains-append_right e c l ((same l).1 behind) ],
)

pub ending-first : (h : HeldView) (b : ℕ) (before : List ChainStep) (old : ResolventView) → IsUnresolved InnerLevels h b old → All (λ p. (at_place h.trail p).level ≡ 0) old.pending → IsEnding h before before old old
ending-first h b before old u root = record { bound = b; unresolved = u; root = root; chain = λ start extra apart leads. leads }

pub ending-resolvable : (h : HeldView) (place : ℕ) (before after : List ChainStep) (old s mid : ResolventView) → IsConsistent h → IsEnding h before after old s → IsGreatestTaken place s mid → IsResolvable InnerLevels h place mid
ending-resolvable h place before after old s mid ok e is_taken =
    let taken = IsGreatestTaken-taken InnerLevels h e.bound place s mid ok e.unresolved is_taken in
    let level : (at_place h.trail place).level ≡ 0 = All-contains (λ p. (at_place h.trail p).level ≡ 0) s.pending place e.root taken.there in
    record {
      within = taken.within;
      end = taken.end;
      marked = taken.marked;
      gone = taken.gone;
      forced = reason-first h.trail place ok.levels taken.within (inl level);
      unresolved = taken.unresolved;
    }

above-apart : (h : HeldView) (place : ℕ) (extra : Clause) → IsConsistent h → place < length h.trail → (at_place h.trail place).level ≡ 0 → All (λ l. IsFalse h.trail l × (0 < level_at h.trail l)) extra → AreApart h place extra
above-apart h place extra ok within level apart =
    let is : level_at h.trail (negated_at h.trail place) ≡ (at_place h.trail place).level = level_at-place h.trail place ok.distinct within in
    All-weaker (λ l. IsFalse h.trail l × (0 < level_at h.trail l)) (λ l. (¬ IsFalse (take place h.trail) (negation l)) × (l ≢ negated_at h.trail place)) (λ l both. (not-before h.trail place l ok.distinct both.0, λ e. (let above : 0 < level_at h.trail l = both.1 in let same : level_at h.trail l ≡ level_at h.trail (negated_at h.trail place) = ap (level_at h.trail) e in omega arith))) extra apart

root-below : (h : HeldView) (place : ℕ) (s : ResolventView) → IsConsistent h → place < length h.trail → (at_place h.trail place).level ≡ 0 → IsUnresolved InnerLevels h place s → All (λ p. (at_place h.trail p).level ≡ 0) s.pending
root-below h place s ok within level u k d w =
    let p : ℕ = get_or s.pending k d in
    let low : p < place = u.below k d w in
    let up : (at_place h.trail p).level ≤ (at_place h.trail place).level = level-le h.trail p place ok.levels (omega arith) within in
    omega arith

pub ending-next : (h : HeldView) (place : ℕ) (before steps after : List ChainStep) (old s mid new : ResolventView) → IsConsistent h → IsEnding h before steps old s → IsGreatestTaken place s mid → HasResolved InnerLevels h place steps after mid new → IsEnding h before after old new × (bound_of new.pending < bound_of s.pending)
ending-next h place before steps after old s mid new ok e is_taken resolved =
    let taken = IsGreatestTaken-taken InnerLevels h e.bound place s mid ok e.unresolved is_taken in
    let level : (at_place h.trail place).level ≡ 0 = All-contains (λ p. (at_place h.trail p).level ≡ 0) s.pending place e.root taken.there in
    let smaller : bound_of new.pending ≤ place = bound_of-le new.pending place resolved.unresolved.below in
    let bigger : place < bound_of s.pending = bound_of-above s.pending place taken.there in (
      record {
        bound = place;
        unresolved = resolved.unresolved;
        root = root-below h place new ok taken.within level resolved.unresolved;
        chain = λ start extra apart leads.
            resolved.chain start extra (above-apart h place extra ok taken.within level apart)
            (IsChain-same (held_clause h.arena) start steps (extra ++ resolvent_of h.trail s) (extra ++ negated_at h.trail place ∷ resolvent_of h.trail mid) (e.chain start extra apart leads)
            (SameLiterals-behind extra (resolvent_of h.trail s) (negated_at h.trail place ∷ resolvent_of h.trail mid) taken.same));
      },
      omega arith,
    )

pub ending-ended : (h : HeldView) (before after : List ChainStep) (old s : ResolventView) → IsEnding h before after old s → s.pending ≡ [] → HasEnded h before after old s
ending-ended h before after old s e none = record { bound = e.bound; unresolved = e.unresolved; none = none; chain = e.chain }
