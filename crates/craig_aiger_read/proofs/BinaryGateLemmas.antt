-- Laws of gates that are read one after the other.
use Rattle.std.proofs.Common.{◌≡◌, ℕ, suc, ◌+◌, ◌-◌, ◌*◌, ◌<◌, ◌≤◌, List, [], ◌∷◌, ◌++◌, length, Result, Ok, Err, refl, sym, ◌∙◌, ap, arith}
use Rattle.craig_spec.specs.AigerFault.{Fault}
use Rattle.craig_spec.specs.AigerReading.{◌>>=◌}
use Rattle.craig_spec.specs.AigerBinary.{binary_gate_in, binary_gates, delta_in}
use Rattle.craig_spec.specs.Circuit.{Gate}

-- a fault in the first or the second difference of a gate, and a gate without one
pub gate-first : (end own : ℕ) (bytes : List ℕ) (f : Fault) → delta_in end 1 own bytes ≡ Err f → binary_gate_in end own bytes ≡ Err f
unfolding binary_gate_in
gate-first end own bytes f e = rw e refl

pub gate-second : (end own : ℕ) (bytes : List ℕ) (d : ℕ) (rest : List ℕ) (f : Fault) → delta_in end 1 own bytes ≡ Ok (d, rest) → delta_in end 0 (own - d) rest ≡ Err f → binary_gate_in end own bytes ≡ Err f
unfolding binary_gate_in
gate-second end own bytes d rest f e h = rw (e, h) refl

pub gate-both : (end own : ℕ) (bytes : List ℕ) (d1 d2 : ℕ) (r1 r2 : List ℕ) → delta_in end 1 own bytes ≡ Ok (d1, r1) → delta_in end 0 (own - d1) r1 ≡ Ok (d2, r2) →
    binary_gate_in end own bytes ≡ Ok (record { left = own - d1; right = own - d1 - d2 }, r2)
unfolding binary_gate_in
gate-both end own bytes d1 d2 r1 r2 e h = rw (e, h) refl

-- so many of the gates were read, as these, and what is left is read as the others
pub record GatesRead (end count first own i : ℕ) (before : List Gate) (text rest : List ℕ) : Type 0 where
  pub reads : binary_gates end (count - i) own before rest ≡ binary_gates end count first [] text
  pub place : own ≡ first + 2 * i
  pub shorter : length rest ≤ length text

pub gates-none : (end count first : ℕ) (text : List ℕ) → GatesRead end count first first 0 [] text text
gates-none end count first text =
    let whole : count - 0 ≡ count = omega arith in
    record { reads = ap (λ z. binary_gates end z first [] text) whole; place = omega arith; shorter = omega arith }

gate-next : (end n own : ℕ) (before : List Gate) (bytes : List ℕ) (found : Result (Gate × List ℕ) Fault) → binary_gate_in end own bytes ≡ found →
    binary_gates end (suc n) own before bytes ≡ (found >>= λ g. binary_gates end n (own + 2) (before ++ g.0 ∷ []) g.1)
gate-next end n own before bytes found e = rw (← e) refl

gates-next : (end count first own i : ℕ) (before : List Gate) (text rest : List ℕ) (found : Result (Gate × List ℕ) Fault) → GatesRead end count first own i before text rest → i < count →
    binary_gate_in end own rest ≡ found → (found >>= λ g. binary_gates end (count - (i + 1)) (own + 2) (before ++ g.0 ∷ []) g.1) ≡ binary_gates end count first [] text
gates-next end count first own i before text rest found h inside e =
    let more : count - i ≡ suc (count - (i + 1)) = omega (arith, inside) in
    sym (gate-next end (count - (i + 1)) own before rest found e) ∙ ap (λ z. binary_gates end z own before rest) (sym more) ∙ h.reads

-- one gate more
pub gates-more : (end count first own i : ℕ) (before : List Gate) (text rest behind : List ℕ) (g : Gate) → GatesRead end count first own i before text rest → i < count →
    binary_gate_in end own rest ≡ Ok (g, behind) → length behind ≤ length rest → GatesRead end count first (own + 2) (i + 1) (before ++ g ∷ []) text behind
gates-more end count first own i before text rest behind g h inside e less = record {
  reads = gates-next end count first own i before text rest (Ok (g, behind)) h inside e;
  place = omega (arith, h.place);
  shorter = omega (arith, h.shorter, less);
}

-- a gate with a fault
pub gates-fault : (end count first own i : ℕ) (before : List Gate) (text rest : List ℕ) (f : Fault) → GatesRead end count first own i before text rest → i < count → binary_gate_in end own rest ≡ Err f →
    binary_gates end count first [] text ≡ Err f
gates-fault end count first own i before text rest f h inside e = sym (gates-next end count first own i before text rest (Err f) h inside e)

-- after the last gate
pub gates-all : (end count first own i : ℕ) (before : List Gate) (text rest : List ℕ) → GatesRead end count first own i before text rest → count ≤ i → binary_gates end count first [] text ≡ Ok (before, rest)
gates-all end count first own i before text rest h past =
    let none : count - i ≡ 0 = omega (arith, past) in
    sym h.reads ∙ ap (λ z. binary_gates end z own before rest) none
