-- Clauses that stay but for the order of their literals.
use Rattle.std.proofs.Common.{ℕ, refl, ap, subst, ◌∙◌}
use Rattle.std.specs.Option.{option_map}
use Rattle.craig_spec.specs.Literal.{Clause}
use Rattle.craig_spec.specs.Chain.{SameLiterals, GivesSame}
use Rattle.craig_base.specs.Arena.{FlaggedClause, ArenaView, IsReordered, OnlyReorders, clause_at, literals_of}
use Rattle.craig_spec.proofs.ClauseLemmas.{SameLiterals-refl, SameLiterals-sym, SameLiterals-trans}
use Rattle.craig_base.proofs.LookUpLemmas.{flagged}

pub IsReordered-refl : (c : FlaggedClause) → IsReordered c c
IsReordered-refl c = record { literals = SameLiterals-refl c.literals; flags = refl }

pub IsReordered-trans : (c d e : FlaggedClause) → IsReordered c d → IsReordered d e → IsReordered c e
IsReordered-trans c d e one two = record { literals = SameLiterals-trans c.literals d.literals e.literals one.literals two.literals; flags = two.flags ∙ one.flags }

pub OnlyReorders-refl : (a : ArenaView) → OnlyReorders a a
OnlyReorders-refl a = record {
  given = refl;
  stays = λ id c is. (c, is, IsReordered-refl c);
  stood = λ id c is. (c, is, IsReordered-refl c);
}

pub OnlyReorders-trans : (a b c : ArenaView) → OnlyReorders a b → OnlyReorders b c → OnlyReorders a c
OnlyReorders-trans a b c one two = record {
  given = two.given ∙ one.given;
  stays = λ id x is. let y = one.stays id x is in let z = two.stays id y.0 y.1 in (z.0, z.1, IsReordered-trans x y.0 z.0 y.2 z.2);
  stood = λ id z is. let y = two.stood id z is in let x = one.stood id y.0 y.1 in (x.0, x.1, IsReordered-trans x.0 y.0 z x.2 y.2);
}

pub GivesSame-reordered : (a b : ArenaView) → OnlyReorders a b → (id : ℕ) → GivesSame (literals_of a) (literals_of b) id
GivesSame-reordered a b h id c is =
    let f = flagged (clause_at a id) c is in
    let g = h.stays id f.0 f.1 in
    (g.0.literals, ap (option_map (λ (x : FlaggedClause). x.literals)) g.1, subst (λ (x : Clause). SameLiterals x g.0.literals) f.2 g.2.literals)

pub GivesSame-before : (a b : ArenaView) → OnlyReorders a b → (id : ℕ) → GivesSame (literals_of b) (literals_of a) id
GivesSame-before a b h id d is =
    let g = flagged (clause_at b id) d is in
    let f = h.stood id g.0 g.1 in
    (f.0.literals, ap (option_map (λ (x : FlaggedClause). x.literals)) f.1, SameLiterals-sym f.0.literals d (subst (λ (x : Clause). SameLiterals f.0.literals x) g.2 f.2.literals))
