-- The number that falls at each turn of a search.
use Rattle.std.proofs.Common.{◌≡◌, ℕ, ◌+◌, ◌-◌, ◌*◌, ◌^◌, ◌<◌, ◌≤◌, [], ◌∷◌, ◌++◌, length, length-append, ap, sym, subst, ◌∙◌, arith}
use Rattle.std.proofs.Math.Nat.{mul-le-mul_right}
use Rattle.std.proofs.lemmas.List.{length_push}
use Rattle.craig_watch.specs.declared.trail_entry.TrailEntry.{TrailEntry}
use Rattle.craig_watch.specs.Trail.{Trail}
use Rattle.craig_watch.specs.Held.{HeldView}

-- how many clauses are left to learn times the variables and one, and how many variables are not assigned
abbrev pub turns_left : ℕ → ℕ → ℕ → ℕ → ℕ
turns_left bound learnt vars assigned = (bound - learnt) * (vars + 1) + (vars - assigned)

falls-product : (p q vars assigned later : ℕ) → p ≡ q + 1 → q * (vars + 1) + (vars - later) < p * (vars + 1) + (vars - assigned)
falls-product p q vars assigned later is = rw is (omega arith)

-- one clause more was learnt
pub falls-learnt : (bound learnt more vars assigned later : ℕ) → more ≡ learnt + 1 → more ≤ bound → turns_left bound more vars later < turns_left bound learnt vars assigned
falls-learnt bound learnt more vars assigned later is few =
    let left : bound - learnt ≡ (bound - more) + 1 = omega arith in
    falls-product (bound - learnt) (bound - more) vars assigned later left

-- one variable more is assigned
pub falls-decided : (bound learnt vars assigned later : ℕ) → assigned < later → later ≤ vars → turns_left bound learnt vars later < turns_left bound learnt vars assigned
falls-decided bound learnt vars assigned later more few = omega arith

-- the same of held clauses, since the first id of a search
abbrev pub turns : ℕ → HeldView → ℕ
turns first h = turns_left (3 ^ h.vars) (h.arena.given - first) h.vars (length h.trail)

pub turns-decided : (first : ℕ) (old new : HeldView) → new.vars ≡ old.vars → new.arena.given ≡ old.arena.given → length old.trail < length new.trail → length new.trail ≤ new.vars → turns first new < turns first old
turns-decided first old new vars given more few =
    rw (vars, given) (falls-decided (3 ^ old.vars) (old.arena.given - first) old.vars (length old.trail) (length new.trail) more (subst (λ (n : ℕ). length new.trail ≤ n) vars few))

pub turns-learnt : (first : ℕ) (old new : HeldView) → new.vars ≡ old.vars → new.arena.given ≡ old.arena.given + 1 → first ≤ old.arena.given → new.arena.given - first ≤ 3 ^ new.vars → turns first new < turns first old
turns-learnt first old new vars given low few =
    let more : new.arena.given - first ≡ (old.arena.given - first) + 1 = omega arith in
    rw vars (falls-learnt (3 ^ old.vars) (old.arena.given - first) (new.arena.given - first) old.vars (length old.trail) (length new.trail) more (subst (λ (n : ℕ). new.arena.given - first ≤ 3 ^ n) vars few))

-- more than the turns that are left before a reduction
abbrev pub turns_at_most : ℕ → ℕ
turns_at_most vars = 3 ^ vars * (vars + 1) + vars + 1

-- with the reductions that may come
abbrev pub turns_with : ℕ → ℕ → HeldView → ℕ
turns_with left since h = left * turns_at_most h.vars + turns since h

few-left : (bound learnt vars assigned : ℕ) → turns_left bound learnt vars assigned < bound * (vars + 1) + vars + 1
few-left bound learnt vars assigned =
    let less : (bound - learnt) * (vars + 1) ≤ bound * (vars + 1) = mul-le-mul_right (vars + 1) (let le : bound - learnt ≤ bound = omega arith in le) in
    omega arith

pub turns-few : (since : ℕ) (h : HeldView) → turns since h < turns_at_most h.vars
turns-few since h = few-left (3 ^ h.vars) (h.arena.given - since) h.vars (length h.trail)

-- after a turn without a reduction
pub falls-turn : (left since : ℕ) (old new : HeldView) → new.vars ≡ old.vars → turns since new < turns since old → turns_with left since new < turns_with left since old
falls-turn left since old new vars less =
    let same : left * turns_at_most new.vars ≡ left * turns_at_most old.vars = ap (λ (n : ℕ). left * turns_at_most n) vars in
    omega (arith, same, less)

falls-by : (left more m t u : ℕ) → left + 1 ≡ more → t < m → left * m + t < more * m + u
falls-by left more m t u is less = rw (← is) (omega (arith, less))

-- and after one with a reduction
pub falls-reduced : (left more since later : ℕ) (old new : HeldView) → left + 1 ≡ more → new.vars ≡ old.vars → turns_with left later new < turns_with more since old
falls-reduced left more since later old new is vars =
    let few : turns later new < turns_at_most old.vars = subst (λ (n : ℕ). turns later new < turns_at_most n) vars (turns-few later new) in
    let falls = falls-by left more (turns_at_most old.vars) (turns later new) (turns since old) is few in
    subst (λ (n : ℕ). left * turns_at_most n + turns later new < turns_with more since old) (sym vars) falls

-- a decision after propagation makes the trail longer
pub longer-decided : (t u added : Trail) (v : Trail) (e : TrailEntry) → u ≡ t ++ added → v ≡ u ++ e ∷ [] → length t < length v
longer-decided t u added v e is also =
    let size : length v ≡ length u + 1 = ap (λ (w : Trail). length w) also ∙ length_push u e in
    let more : length u ≡ length t + length added = ap (λ (w : Trail). length w) is ∙ length-append t added in
    omega arith
