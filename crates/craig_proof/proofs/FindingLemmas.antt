-- The steps that a root needs, and the set of ids by which they are found.
use Rattle.std.proofs.Common.{◌≡◌, ℕ, suc, zero, ◌+◌, ◌<◌, ◌≤◌, Bool, true, false, cond, not, ◌||◌, ◌&&◌, eqb, List, [], ◌∷◌, length, get_or, take, map, All, Contains, Some, length-take, refl, ap, sym, subst, ◌∙◌, arith, eqb-true, ne_eqb, eq-eqb, ◌⊎◌, inl, inr, is_eq, is_lt}
use native.Mathlib.Decide.{dec_lt}
use Rattle.std.specs.List.{filter, list_any}
use Rattle.std.specs.BTreeSet.{BTreeSet, Updates, IsUpperBound}
use Rattle.std.specs.Ordering.{nat_cmp}
use Rattle.std.proofs.lemmas.Bool.{eqb-false, or_left, or_right, and_parts}
use Rattle.std.proofs.lemmas.Bool.Decides.{nat_tests}
use Rattle.std.proofs.lemmas.List.Elements.{All-head, All-tail}
use Rattle.std.proofs.lemmas.List.{get_or_default, get_or-take}
use Rattle.std.proofs.Math.Bool.{or-true, or-false}
use Rattle.craig_spec.proofs.MemberLemmas.{Contains-cases, list_any-find}
use Rattle.craig_spec.proofs.MemberLemmas.{list_any-member as passes-member}
use Rattle.craig_spec.proofs.ToldLemmas.{StandsOn-given}
use Rattle.craig_spec.specs.Literal.{Clause}
use Rattle.craig_spec.specs.Chain.{ChainStep, ToldStep, Told, antecedents, clause_told, IsChain, EachStands, AreRising, IsTold, Derived}
use Rattle.craig_spec.specs.Needed.{IsClosed, IsNeeded, IsNeededPart, unforgotten}
use Rattle.craig_proof.specs.NeededSteps.{BackMarks, bound_of, HasId, IsTaken, WaitsMore, waits}
use Rattle.craig_proof.proofs.ToldLemmas.{HasId-at}
use Rattle.craig_proof.proofs.FollowsLemmas.{told_place}

-- a test finds a member
pub list_any-member : (x : ℕ) (xs : List ℕ) (k : ℕ) → k < length xs → get_or xs k x ≡ x → list_any (eqb x) xs ≡ true
list_any-member x [] k within at = absurd (omega arith)
list_any-member x (y ∷ xs) zero within at = rw (eq-eqb x y (sym at)) refl
list_any-member x (y ∷ xs) (suc k) within at = rw (list_any-member x xs k (omega arith) at) (or-true (eqb x y))

member-cases : (x y : ℕ) (xs : List ℕ) (b : Bool) → eqb x y ≡ b → (b || list_any (eqb x) xs) ≡ true → (list_any (eqb x) xs ≡ true → Contains xs x) → Contains (y ∷ xs) x
member-cases x y xs true e h later = (0, omega arith, sym (eqb-true x y e))
member-cases x y xs false e h later = let p = later h in (suc p.0, omega arith, p.2)

pub member-list_any : (x : ℕ) (xs : List ℕ) → list_any (eqb x) xs ≡ true → Contains xs x
member-list_any x [] h = absurd (cc)
member-list_any x (y ∷ xs) h = member-cases x y xs (eqb x y) refl h (member-list_any x xs)

-- the clause of each antecedent of a chain was told
chain_told-cases : (steps : List ToldStep) (y x : ℕ) (ys : List ℕ) (d : Clause) → clause_told steps y ≡ Some d → Contains (y ∷ ys) x → (Contains ys x → (c : Clause) × (clause_told steps x ≡ Some c)) → (c : Clause) × (clause_told steps x ≡ Some c)
chain_told-cases steps y x ys d e (zero, within, at) later = (d, rw (← at) e)
chain_told-cases steps y x ys d e (suc k, within, at) later = later (k, omega arith, at)

chain_told : (steps : List ToldStep) (c : Clause) (rest : List ChainStep) (last : Clause) (x : ℕ) → IsChain (clause_told steps) c rest last → Contains (map (λ s. s.antecedent) rest) x → (d : Clause) × (clause_told steps x ≡ Some d)
chain_told steps c [] last x chain (k, within, at) = absurd (omega arith)
chain_told steps c (s ∷ rest) last x (d, r, e, resolved, more) here = chain_told-cases steps s.antecedent x (map (λ q. q.antecedent) rest) d e here (chain_told steps r rest last x more)

-- an antecedent stands before its step
pub antecedent_before : (steps : List ToldStep) (k x : ℕ) (d : ToldStep) → EachStands steps → k < length steps → Contains (antecedents (get_or steps k d).origin) x → (j : ℕ) × (j < k) × ((e : ToldStep) → (get_or steps j e).id ≡ x)
antecedent_before steps k x d stand within here =
    let told = StandsOn-given (take k steps) (get_or steps k d).literals (get_or steps k d).origin x (stand k d within) here in
    let p = told_place (take k steps) x told.0 told.1 in
    let before : p.0 < k = omega (arith, p.1, length-take k steps) in
    (p.0, before, λ e. sym (ap (λ (q : ToldStep). q.id) (get_or-take k steps p.0 e before)) ∙ (p.2 e).0)

-- so it is one of the steps
pub HasId-antecedents : (steps : List ToldStep) (k : ℕ) (d : ToldStep) → EachStands steps → k < length steps → All (HasId steps) (antecedents (get_or steps k d).origin)
HasId-antecedents steps k d stand within i e inside =
    let p = antecedent_before steps k (get_or (antecedents (get_or steps k d).origin) i e) d stand within (i, inside, get_or_default (antecedents (get_or steps k d).origin) i _ e inside) in
    HasId-at steps (get_or (antecedents (get_or steps k d).origin) i e) p.0 (omega arith) p.2

at_or_later : (place k : ℕ) → place ≤ k → (place ≡ k) ⊎ (place + 1 ≤ k)
at_or_later place k h = elim (dec_lt place k) [ Prim.yes lt ↦ inr (omega arith) | Prim.no not_below ↦ inl (let not_lt : place < k → ⊥ = not_below in omega arith) ]

-- at first the roots are in the set alone
pub BackMarks-first : (steps : List ToldStep) (IsRoot IsReached : ℕ → Type 0) (p : ℕ → Bool) → ((x : ℕ) → IsRoot x → p x ≡ true) → ((x : ℕ) → p x ≡ true → IsReached x) → BackMarks steps IsRoot IsReached p (length steps)
BackMarks-first steps IsRoot IsReached p rooted reached = record {
  rooted = rooted;
  closed = λ k d x past within m here. absurd (omega arith);
  reached = reached;
}

-- a step that isn't marked
pub BackMarks-skip : (steps : List ToldStep) (IsRoot IsReached : ℕ → Type 0) (p : ℕ → Bool) (place : ℕ) → BackMarks steps IsRoot IsReached p (place + 1) → ((d : ToldStep) → p (get_or steps place d).id ≡ false) → BackMarks steps IsRoot IsReached p place
BackMarks-skip steps IsRoot IsReached p place back off = record {
  rooted = back.rooted;
  closed = λ k d x past within m here.
      elim (at_or_later place k past) [
        | inl same ↦ absurd (let no : p (get_or steps k d).id ≡ false = rw (← same) (off d) in cc)
        | inr later ↦ back.closed k d x later within m here
      ];
  reached = back.reached;
}

-- a step that is derived from none
pub BackMarks-alone : (steps : List ToldStep) (IsRoot IsReached : ℕ → Type 0) (p : ℕ → Bool) (place : ℕ) → BackMarks steps IsRoot IsReached p (place + 1) → ((d : ToldStep) → antecedents (get_or steps place d).origin ≡ []) → BackMarks steps IsRoot IsReached p place
BackMarks-alone steps IsRoot IsReached p place back none = record {
  rooted = back.rooted;
  closed = λ k d x past within m here.
      elim (at_or_later place k past) [
        | inl same ↦ absurd (let no : Contains [] x = subst (λ xs. Contains xs x) (none d) (subst (λ n. Contains (antecedents (get_or steps n d).origin) x) (sym same) here) in let low : no.0 < 0 = no.1 in omega arith)
        | inr later ↦ back.closed k d x later within m here
      ];
  reached = back.reached;
}

either : (a b : Bool) → (a || b) ≡ true → (a ≡ true) ⊎ (b ≡ true)
either true b h = inl refl
either false b h = inr h

-- a step that is marked
module _ (steps : List ToldStep) (IsRoot IsReached : ℕ → Type 0) (old new : ℕ → Bool) (place : ℕ) (at : ToldStep) (rising : AreRising steps) (stand : EachStands steps) (within : place < length steps) (is_at : get_or steps place at ≡ at) (back : BackMarks steps IsRoot IsReached old (place + 1)) (reaches : (x : ℕ) → IsReached at.id → Contains (antecedents at.origin) x → IsReached x) (on : old at.id ≡ true) (marked : (x : ℕ) → new x ≡ (list_any (eqb x) (antecedents at.origin) || old x)) where
  stays : (x : ℕ) → old x ≡ true → new x ≡ true
  stays x h = marked x ∙ or_right _ _ h

  antecedent_marked : (x : ℕ) → Contains (antecedents at.origin) x → new x ≡ true
  antecedent_marked x here = marked x ∙ or_left (list_any (eqb x) (antecedents at.origin)) (old x) (list_any-member x (antecedents at.origin) here.0 here.1 here.2)

  not_later : (k : ℕ) (d : ToldStep) → place < k → k < length steps → Contains (antecedents at.origin) (get_or steps k d).id → ⊥
  not_later k d later inside here =
      let before = antecedent_before steps place (get_or steps k d).id at stand within (rw is_at here) in
      let up : (get_or steps before.0 d).id < (get_or steps k d).id = rising before.0 k d (omega (arith, before.1)) inside in
      let same : (get_or steps before.0 d).id ≡ (get_or steps k d).id = before.2 d in
      omega arith

  closed_at : (k : ℕ) (d : ToldStep) (x : ℕ) → place ≡ k → Contains (antecedents (get_or steps k d).origin) x → new x ≡ true
  closed_at k d x same here =
      let e : get_or steps k d ≡ at = rw (← same) (get_or_default steps place d at within ∙ is_at) in
      antecedent_marked x (rw e at here)

  closed_later : (k : ℕ) (d : ToldStep) (x : ℕ) → place + 1 ≤ k → k < length steps → new (get_or steps k d).id ≡ true → Contains (antecedents (get_or steps k d).origin) x → new x ≡ true
  closed_later k d x later inside m here =
      elim (either (list_any (eqb (get_or steps k d).id) (antecedents at.origin)) (old (get_or steps k d).id) (sym (marked (get_or steps k d).id) ∙ m)) [
        | inl ante ↦ absurd (not_later k d (omega arith) inside (member-list_any (get_or steps k d).id (antecedents at.origin) ante))
        | inr was ↦ stays x (back.closed k d x later inside was here)
      ]

  reached_new : (x : ℕ) → new x ≡ true → IsReached x
  reached_new x m =
      elim (either (list_any (eqb x) (antecedents at.origin)) (old x) (sym (marked x) ∙ m)) [
        | inl ante ↦ reaches x (back.reached at.id on) (member-list_any x (antecedents at.origin) ante)
        | inr was ↦ back.reached x was
      ]

  pub BackMarks-mark : BackMarks steps IsRoot IsReached new place
  BackMarks-mark = record {
    rooted = λ x is. stays x (back.rooted x is);
    closed = λ k d x past inside m here.
        elim (at_or_later place k past) [
          | inl same ↦ closed_at k d x same here
          | inr later ↦ closed_later k d x later inside m here
        ];
    reached = reached_new;
  }

-- when all are done
pub BackMarks-closed : (steps : List ToldStep) (IsRoot IsReached : ℕ → Type 0) (p : ℕ → Bool) → BackMarks steps IsRoot IsReached p 0 → IsClosed steps p
BackMarks-closed steps IsRoot IsReached p back s x (k, within, is) m here = back.closed k s x (omega arith) within (rw is m) (rw is here)

-- what a needed step is derived from is needed
needed_more : (steps : List ToldStep) (root place : ℕ) (at : ToldStep) → place < length steps → ((d : ToldStep) → get_or steps place d ≡ at) → (x : ℕ) → IsNeeded steps root at.id → Contains (antecedents at.origin) x → IsNeeded steps root x
needed_more steps root place at within is x needed ante p here closed = closed at x (place, within, is at) (needed p here closed) ante

-- the next place back, whether its step is marked or not
needed_next : (steps : List ToldStep) (root place : ℕ) (at : ToldStep) (p : ℕ → Bool) (b : Bool) → AreRising steps → EachStands steps → place < length steps → ((d : ToldStep) → get_or steps place d ≡ at) → BackMarks steps (λ x. x ≡ root) (IsNeeded steps root) p (place + 1) → p at.id ≡ b → (q : ℕ → Bool) × BackMarks steps (λ x. x ≡ root) (IsNeeded steps root) q place
needed_next steps root place at p true rising stand within is back on =
    (λ x. list_any (eqb x) (antecedents at.origin) || p x, BackMarks-mark steps (λ x. x ≡ root) (IsNeeded steps root) p (λ x. list_any (eqb x) (antecedents at.origin) || p x) place at rising stand within (is at) back (needed_more steps root place at within is) on (λ x. refl))
needed_next steps root place at p false rising stand within is back off =
    (p, BackMarks-skip steps (λ x. x ≡ root) (IsNeeded steps root) p place back (λ d. ap (λ (s : ToldStep). p s.id) (is d) ∙ off))

-- one step of a list that has some
pub some_step : (steps : List ToldStep) (place : ℕ) → place < length steps → ToldStep
some_step [] place within = absurd (omega arith)
some_step (s ∷ steps) place within = s

needed_back : (steps : List ToldStep) (root : ℕ) → AreRising steps → EachStands steps → (n place : ℕ) → n + place ≡ length steps → (p : ℕ → Bool) × BackMarks steps (λ x. x ≡ root) (IsNeeded steps root) p place
needed_back steps root rising stand zero place all =
    let at_end : place ≡ length steps = omega arith in
    (λ x. eqb x root, rw at_end (BackMarks-first steps (λ x. x ≡ root) (IsNeeded steps root) (λ x. eqb x root) (λ x is. eq-eqb x root is) (λ x m q at closed. let e : x ≡ root = eqb-true x root m in rw e at)))
needed_back steps root rising stand (suc n) place all =
    let within : place < length steps = omega arith in
    let d : ToldStep = some_step steps place within in
    let later = needed_back steps root rising stand n (place + 1) (omega arith) in
    needed_next steps root place (get_or steps place d) later.0 (later.0 (get_or steps place d).id) rising stand within (λ e. get_or_default steps place e d within) later.1 refl

-- each id has a part that it needs
pub IsNeededPart-exists : (t : Told) → IsTold t → (root : ℕ) → (part : List ToldStep) × IsNeededPart t.steps root part
IsNeededPart-exists t told root =
    let all = needed_back t.steps root told.rising told.stand (length t.steps) 0 (omega arith) in
    let closed = BackMarks-closed t.steps (λ x. x ≡ root) (IsNeeded t.steps root) all.0 all.1 in
    (map unforgotten (filter (λ s. all.0 s.id) t.steps), (all.0, λ s here. (all.1.reached s.id, λ needed. needed all.0 (all.1.rooted root refl) closed), refl))

or_join : (a b c : Bool) → (a || (b || c)) ≡ ((a || b) || c)
or_join true b c = refl
or_join false b c = refl

-- the pairs and then the first antecedent are all antecedents
pub antecedents_wait : (x first : ℕ) (rest : List ChainStep) (a b c : Bool) → a ≡ (eqb x first || b) → b ≡ (list_any (eqb x) (map (λ s. s.antecedent) rest) || c) → a ≡ (list_any (eqb x) (antecedents (Derived first rest)) || c)
antecedents_wait x first rest a b c one two = rw (one, two) (or_join (eqb x first) (list_any (eqb x) (map (λ s. s.antecedent) rest)) c)

-- one antecedent comes into the set, of those that are left
pub or_moved : (a b c : Bool) → (a || (b || c)) ≡ ((b || a) || c)
or_moved true true c = refl
or_moved true false c = refl
or_moved false true c = refl
or_moved false false c = refl

-- an id of the steps that were found
abbrev pub was_found : List ToldStep → ℕ → Bool
was_found found x = list_any (λ s. eqb s.id x) found

was_found-member : (found : List ToldStep) (s : ToldStep) → Contains found s → was_found found s.id ≡ true
was_found-member [] s (k, within, at) = absurd (omega arith)
was_found-member (r ∷ found) s (zero, within, at) = rw (ap (λ (q : ToldStep). q.id) at, eq-eqb s.id s.id refl) refl
was_found-member (r ∷ found) s (suc k, within, at) = rw (was_found-member found s (k, omega arith, at)) (or-true (eqb r.id s.id))

found-cases : (r : ToldStep) (found : List ToldStep) (x : ℕ) (b : Bool) → eqb r.id x ≡ b → (b || was_found found x) ≡ true → (was_found found x ≡ true → (s : ToldStep) × Contains found s × (s.id ≡ x)) → (s : ToldStep) × Contains (r ∷ found) s × (s.id ≡ x)
found-cases r found x true e h later = (r, (0, omega arith, refl), eqb-true r.id x e)
found-cases r found x false e h later = let w = later h in (w.0, (suc w.1.0, omega (arith, w.1.1), w.1.2), w.2)

member-was_found : (found : List ToldStep) (x : ℕ) → was_found found x ≡ true → (s : ToldStep) × Contains found s × (s.id ≡ x)
member-was_found [] x h = absurd (cc)
member-was_found (r ∷ found) x h = found-cases r found x (eqb r.id x) refl h (member-was_found found x)

pub false_unless : (b : Bool) → (b ≡ true → ⊥) → b ≡ false
false_unless true never = absurd (never refl)
false_unless false never = refl

not_found : (found : List ToldStep) (s : ToldStep) (x : ℕ) → ((r : ToldStep) → Contains found r → s.id < r.id) → x ≤ s.id → was_found found x ≡ false
not_found found s x below le = false_unless (was_found found x) (λ h. let w = member-was_found found x h in let up : s.id < (w.0).id = below w.0 w.1 in let is : (w.0).id ≡ x = w.2 in omega arith)

pub filter-same : (p q : ToldStep → Bool) (steps : List ToldStep) → ((s : ToldStep) → Contains steps s → p s ≡ q s) → filter p steps ≡ filter q steps
filter-same p q [] h = refl
filter-same p q (s ∷ steps) h =
    let rest : filter p steps ≡ filter q steps = filter-same p q steps (λ r here. h r (suc here.0, omega (arith, here.1), here.2)) in
    rw (h s (0, omega arith, refl)) (elim (q s) as (λ b. cond b (s ∷ filter p steps) (filter p steps) ≡ cond b (s ∷ filter q steps) (filter q steps)) [ true ↦ ap (λ (xs : List ToldStep). s ∷ xs) rest | false ↦ rest ])

-- one step more passes where it is below those that passed
pass_more : (steps found : List ToldStep) (s : ToldStep) → AreRising steps → Contains steps s → ((r : ToldStep) → Contains found r → s.id < r.id)
    → filter (λ (q : ToldStep). eqb s.id q.id || was_found found q.id) steps ≡ s ∷ filter (λ (q : ToldStep). was_found found q.id) steps
pass_more [] found s rising (k, within, at) below = absurd (omega arith)
pass_more (t ∷ steps) found s rising (zero, within, at) below =
    let later : (q : ToldStep) → Contains steps q → s.id < q.id = λ q here.
    let up : t.id < (get_or steps here.0 q).id = rising 0 (suc here.0) q (omega arith) (omega (arith, here.1)) in
    let low : t.id ≡ s.id = ap (λ (r : ToldStep). r.id) at in
    let high : (get_or steps here.0 q).id ≡ q.id = ap (λ (r : ToldStep). r.id) here.2 in
    omega arith in
    let off : was_found found s.id ≡ false = not_found found s s.id below (omega arith) in
    let rest : filter (λ (q : ToldStep). eqb s.id q.id || was_found found q.id) steps ≡ filter (λ (q : ToldStep). was_found found q.id) steps =
    filter-same _ _ steps (λ q here. let up : s.id < q.id = later q here in rw (ne_eqb s.id q.id (λ e. omega arith)) refl) in
    rw (at, off, eq-eqb s.id s.id refl) (ap (λ (xs : List ToldStep). s ∷ xs) rest)
pass_more (t ∷ steps) found s rising (suc k, within, at) below =
    let up : t.id < (get_or steps k s).id = rising 0 (suc k) s (omega arith) within in
    let high : (get_or steps k s).id ≡ s.id = ap (λ (r : ToldStep). r.id) at in
    let low : t.id < s.id = omega arith in
    let off : was_found found t.id ≡ false = not_found found s t.id below (omega arith) in
    rw (off, ne_eqb s.id t.id (λ e. omega arith)) (pass_more steps found s (λ i j d before inside. rising (suc i) (suc j) d (omega arith) (omega arith)) (k, omega arith, at) below)

-- what holds while the steps that a root needs are found, the last one first; in the order of the steps
pub record IsFinding (steps : List ToldStep) (root : ℕ) (set : BTreeSet ℕ) (found : List ToldStep) : Type 0 where
  -- the root is found or waits
  pub rooted : (waits set root || was_found found root) ≡ true
  -- so are the antecedents of a step that was found
  pub closed : (s : ToldStep) (a : ℕ) → Contains found s → Contains (antecedents s.origin) a → (waits set a || was_found found a) ≡ true
  -- what was found is needed, and so is what waits
  pub needed : (x : ℕ) → (waits set x || was_found found x) ≡ true → IsNeeded steps root x
  -- what waits is below what was found
  pub below : (x : ℕ) (s : ToldStep) → waits set x ≡ true → Contains found s → x < s.id
  -- and is one of the steps
  pub stand : (x : ℕ) → waits set x ≡ true → HasId steps x
  -- so is what was found
  pub steps_found : (s : ToldStep) → Contains found s → Contains steps s
  -- which is in their order
  pub part : found ≡ filter (λ (s : ToldStep). was_found found s.id) steps

none_pass : (steps : List ToldStep) → [] ≡ filter (λ (s : ToldStep). was_found [] s.id) steps
none_pass [] = refl
none_pass (s ∷ steps) = none_pass steps

-- at first the root waits
pub IsFinding-first : (steps : List ToldStep) (root : ℕ) (none set : BTreeSet ℕ) → none.keys ≡ [] → WaitsMore (λ x. eqb x root) none set → HasId steps root → IsFinding steps root set []
IsFinding-first steps root none set empty more has =
    let waits_none : (x : ℕ) → waits none x ≡ false = λ x. rw empty refl in
    let is : (x : ℕ) → waits set x ≡ eqb x root = λ x. more x ∙ ap (λ b. eqb x root || b) (waits_none x) ∙ or-false (eqb x root) in
    record {
      rooted = rw (is root, eq-eqb root root refl) refl;
      closed = λ s a here. absurd (let no : here.0 < 0 = here.1 in omega arith);
      needed = λ x h p at closed. let e : x ≡ root = eqb-true x root (sym (is x) ∙ sym (or-false (waits set x)) ∙ h) in rw e at;
      below = λ x s h here. absurd (let no : here.0 < 0 = here.1 in omega arith);
      stand = λ x h. let e : x ≡ root = eqb-true x root (sym (is x) ∙ h) in rw e has;
      steps_found = λ s here. absurd (let no : here.0 < 0 = here.1 in omega arith);
      part = none_pass steps;
    }

-- one id stands for one step
same_step : (steps : List ToldStep) (r s : ToldStep) → AreRising steps → Contains steps r → Contains steps s → r.id ≡ s.id → r ≡ s
same_step steps r s rising (i, i_within, i_at) (j, j_within, j_at) same =
    let r_at : get_or steps i s ≡ r = get_or_default steps i s r i_within ∙ i_at in
    let low : (get_or steps i s).id ≡ r.id = ap (λ (q : ToldStep). q.id) r_at in
    let high : (get_or steps j s).id ≡ s.id = ap (λ (q : ToldStep). q.id) j_at in
    elim (dec_lt i j) [
      | Prim.yes before ↦ absurd (let up : (get_or steps i s).id < (get_or steps j s).id = rising i j s before j_within in omega arith)
      | Prim.no past ↦ elim (dec_lt j i) [
        | Prim.yes after ↦ absurd (let down : (get_or steps j s).id < (get_or steps i s).id = rising j i s after i_within in omega arith)
        | Prim.no upto ↦
            let not_below : i < j → ⊥ = past in
            let not_above : j < i → ⊥ = upto in
            let even : i ≡ j = omega arith in
            sym r_at ∙ ap (λ k. get_or steps k s) even ∙ j_at
      ]
    ]

-- when none waits, what was found is what is needed
pub IsFinding-done : (steps : List ToldStep) (root : ℕ) (set : BTreeSet ℕ) (found : List ToldStep) → AreRising steps → ((x : ℕ) → waits set x ≡ false) → IsFinding steps root set found → IsNeededPart steps root (map unforgotten found)
IsFinding-done steps root set found rising empty finding =
    let only : (x : ℕ) → (waits set x || was_found found x) ≡ was_found found x = λ x. rw (empty x) refl in
    let closed : IsClosed steps (was_found found) = λ s a here m ante.
    let w = member-was_found found s.id m in
    let is : w.0 ≡ s = same_step steps w.0 s rising (finding.steps_found w.0 w.1) here w.2 in
    sym (only a) ∙ finding.closed w.0 a w.1 (rw is ante) in
    (was_found found, λ s here. (λ m. finding.needed s.id (only s.id ∙ m), λ needed. needed (was_found found) (sym (only root) ∙ finding.rooted) closed), ap (map unforgotten) finding.part)

pub eqb_turned : (x y : ℕ) → eqb x y ≡ eqb y x
eqb_turned x y = grind (arith, eqb-true, eqb-false)

stays-cases : (a e f w g : Bool) → e ≡ f → (w || g) ≡ true → ((a || (not e && w)) || (f || g)) ≡ true
stays-cases true e f w g s h = refl
stays-cases false true true w g s h = refl
stays-cases false true false w g s h = absurd (cc)
stays-cases false false true w g s h = absurd (cc)
stays-cases false false false w g s h = h

-- one step more is found, and its antecedents wait
module _ (steps : List ToldStep) (root : ℕ) (before mid after : BTreeSet ℕ) (found : List ToldStep) (s : ToldStep) (rising : AreRising steps) (stand : EachStands steps) (finding : IsFinding steps root before found) (taken : IsTaken steps before mid s) (more : WaitsMore (λ x. list_any (eqb x) (antecedents s.origin)) mid after) where
  after_is : (x : ℕ) → waits after x ≡ (list_any (eqb x) (antecedents s.origin) || (not (eqb x s.id) && waits before x))
  after_is x = more x ∙ ap (λ b. list_any (eqb x) (antecedents s.origin) || b) (taken.others x)

  still : (x : ℕ) → (waits before x || was_found found x) ≡ true → (waits after x || was_found (s ∷ found) x) ≡ true
  still x h = rw (after_is x) (stays-cases (list_any (eqb x) (antecedents s.origin)) (eqb x s.id) (eqb s.id x) (waits before x) (was_found found x) (eqb_turned x s.id) h)

  came : (x : ℕ) → waits after x ≡ true → Contains (antecedents s.origin) x ⊎ (waits mid x ≡ true)
  came x h =
      elim (either (list_any (eqb x) (antecedents s.origin)) (waits mid x) (sym (more x) ∙ h)) [
        | inl ante ↦ inl (member-list_any x (antecedents s.origin) ante)
        | inr was ↦ inr was
      ]

  was_before : (x : ℕ) → waits mid x ≡ true → waits before x ≡ true
  was_before x h = (and_parts (not (eqb x s.id)) (waits before x) (sym (taken.others x) ∙ h)).1

  step_needed : IsNeeded steps root s.id
  step_needed = finding.needed s.id (or_left (waits before s.id) (was_found found s.id) taken.waited)

  antecedent_needed : (x : ℕ) → Contains (antecedents s.origin) x → IsNeeded steps root x
  antecedent_needed x ante p at closed = closed s x taken.stands (step_needed p at closed) ante

  antecedent_place : (x : ℕ) → Contains (antecedents s.origin) x → (j : ℕ) × (j < taken.stands.0) × ((e : ToldStep) → (get_or steps j e).id ≡ x)
  antecedent_place x ante = antecedent_before steps taken.stands.0 x s stand taken.stands.1 (rw taken.stands.2 ante)

  antecedent_below : (x : ℕ) → Contains (antecedents s.origin) x → x < s.id
  antecedent_below x ante =
      let p = antecedent_place x ante in
      let up : (get_or steps p.0 s).id < (get_or steps taken.stands.0 s).id = rising p.0 taken.stands.0 s p.1 taken.stands.1 in
      let low : (get_or steps p.0 s).id ≡ x = p.2 s in
      let high : (get_or steps taken.stands.0 s).id ≡ s.id = ap (λ (q : ToldStep). q.id) taken.stands.2 in
      omega arith

  below_found : (r : ToldStep) → Contains found r → s.id < r.id
  below_found r here = finding.below s.id r taken.waited here

  pub waits_below : (x : ℕ) → waits after x ≡ true → x < s.id
  waits_below x h =
      elim (came x h) [
        | inl ante ↦ antecedent_below x ante
        | inr was ↦ taken.lower x was
      ]

  pub IsFinding-next : IsFinding steps root after (s ∷ found)
  IsFinding-next = record {
    rooted = still root finding.rooted;
    closed = λ r a here ante.
        elim (Contains-cases s found r here) [
          | inl same ↦
              let ante_s : Contains (antecedents s.origin) a = rw same ante in
              rw (after_is a, list_any-member a (antecedents s.origin) ante_s.0 ante_s.1 ante_s.2) refl
          | inr old ↦ still a (finding.closed r a old ante)
        ];
    needed = λ x h.
        elim (either (waits after x) (was_found (s ∷ found) x) h) [
          | inl waiting ↦ elim (came x waiting) [
            | inl ante ↦ antecedent_needed x ante
            | inr was ↦ finding.needed x (or_left (waits before x) (was_found found x) (was_before x was))
          ]
          | inr has ↦ elim (either (eqb s.id x) (was_found found x) has) [
            | inl same ↦ rw (← eqb-true s.id x same) step_needed
            | inr old ↦ finding.needed x (or_right (waits before x) (was_found found x) old)
          ]
        ];
    below = λ x r h here.
        let low : x < s.id = waits_below x h in
        elim (Contains-cases s found r here) [
          | inl same ↦ rw (← same) low
          | inr old ↦ let up : s.id < r.id = below_found r old in omega arith
        ];
    stand = λ x h.
        elim (came x h) [
          | inl ante ↦
              let p = antecedent_place x ante in
              let within : p.0 < length steps = let inside : taken.stands.0 < length steps = taken.stands.1 in let up : p.0 < taken.stands.0 = p.1 in omega arith in
              HasId-at steps x p.0 within p.2
          | inr was ↦ finding.stand x (was_before x was)
        ];
    steps_found = λ r here.
        elim (Contains-cases s found r here) [
          | inl same ↦ rw (← same) taken.stands
          | inr old ↦ finding.steps_found r old
        ];
    part = ap (λ (qs : List ToldStep). s ∷ qs) finding.part ∙ sym (pass_more steps found s rising taken.stands below_found);
  }

-- what comparing says of the id that comes out
cmp_gone : (id x : ℕ) (b : Bool) → cond (is_eq (nat_cmp id x)) false b ≡ (not (eqb x id) && b)
cmp_gone id x b = grind (arith, nat_tests, eqb-true, eqb-false)

cmp_lower : (id x : ℕ) → is_lt (nat_cmp id x) ≡ false → not (eqb x id) ≡ true → x < id
cmp_lower id x h other = grind (arith, nat_tests, eqb-true, eqb-false)

cmp_same : (id x : ℕ) → is_eq (nat_cmp id x) ≡ eqb x id
cmp_same id x = grind (arith, nat_tests, eqb-true, eqb-false)

-- the greatest id comes out of the set
pub IsTaken-last : (steps : List ToldStep) (before after : BTreeSet ℕ) (id : ℕ) (s : ToldStep) → Updates nat_cmp before after id false → IsUpperBound nat_cmp before id → waits before id ≡ true → Contains steps s → s.id ≡ id → IsTaken steps before after s
IsTaken-last steps before after id s updates upper waited stands is =
    let gone : (x : ℕ) → waits after x ≡ cond (is_eq (nat_cmp id x)) false (waits before x) = updates.0 in
    let others : (x : ℕ) → waits after x ≡ (not (eqb x s.id) && waits before x) = λ x. gone x ∙ rw is (cmp_gone id x (waits before x)) in
    record {
      stands = stands;
      waited = rw is waited;
      others = others;
      lower = λ x h.
          let p = and_parts (not (eqb x s.id)) (waits before x) (sym (others x) ∙ h) in
          rw is (cmp_lower id x (upper x p.1) (rw is at p.0));
    }

-- the bound of a list
pub bound_of-le : (ns : List ℕ) (b : ℕ) → All (λ n. n < b) ns → bound_of ns ≤ b
bound_of-le [] b h = omega arith
bound_of-le (n ∷ ns) b h =
    let first : n < b = All-head (λ k. k < b) n ns h in
    let rest : bound_of ns ≤ b = bound_of-le ns b (All-tail (λ k. k < b) n ns h) in
    omega arith

pub bound_of-above : (ns : List ℕ) (n : ℕ) → Contains ns n → n < bound_of ns
bound_of-above [] n (k, within, is) = absurd (let no : k < 0 = within in omega arith)
bound_of-above (m ∷ ns) n h =
    elim (Contains-cases m ns n h) [ inl is ↦ (let e : m ≡ n = is in omega arith) | inr rest ↦ (let low : n < bound_of ns = bound_of-above ns n rest in omega arith) ]

pub waits-member : (set : BTreeSet ℕ) (x : ℕ) → Contains set.keys x → waits set x ≡ true
waits-member set x here = passes-member (λ k. is_eq (nat_cmp x k)) set.keys x here (cmp_same x x ∙ eq-eqb x x refl)

member-waits : (set : BTreeSet ℕ) (x : ℕ) → waits set x ≡ true → Contains set.keys x
member-waits set x h =
    let w = list_any-find (λ k. is_eq (nat_cmp x k)) set.keys h in
    let same : w.0 ≡ x = eqb-true w.0 x (sym (cmp_same x w.0) ∙ w.2) in
    rw (← same) w.1

-- the set reaches less far when its greatest id is out and lower ones are in
pub bound_falls : (before after : BTreeSet ℕ) (id : ℕ) → waits before id ≡ true → ((x : ℕ) → waits after x ≡ true → x < id) → bound_of after.keys < bound_of before.keys
bound_falls before after id waited lower =
    let high : id < bound_of before.keys = bound_of-above before.keys id (member-waits before id waited) in
    let low : bound_of after.keys ≤ id = bound_of-le after.keys id (λ k d within. let x : ℕ = get_or after.keys k d in lower x (waits-member after x (k, within, get_or_default after.keys k x d within))) in
    omega arith
