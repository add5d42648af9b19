use Rattle.std.proofs.Common.{◌<◌, length, ap, sym, ◌∙◌, arith, eqb-true}
use Rattle.std.proofs.lemmas.Bool.{eqb-false}
use Rattle.craig_base.specs.Literals.{literal_code}
use Rattle.craig_base.specs.Arena.{literals_at}
use Rattle.craig_base.proofs.LiteralsLemmas.{literal_code-injective}
use Rattle.craig_watch.proofs.VisitLemmas.{stands-first, stands-second, watches-live, watches-long}
use Rattle.craig_watch.proofs.watched.Watched.own_place.Goals as goal

pub lits-requires : goal.lits-requires
lits-requires c = watches-live c.args.self.now.arena c.args.id.0 c.args.lit c.requires

pub bounds-lits-0 : goal.bounds-lits-0
bounds-lits-0 c =
    let long : 1 < length (literals_at c.args.self.now.arena c.args.id.0) = watches-long c.args.self.now.arena c.args.id.0 c.args.lit c.requires in
    let same = ap length c.lits.ensures.literals in
    omega arith

pub returns-then-eq : goal.returns-then-eq
returns-then-eq c =
    stands-first c.args.self.now.arena c.args.id.0 c.args.lit c.lits.result.now c.index-lits-0.result c.requires c.lits.ensures.literals c.index-lits-0.is
    (literal_code-injective c.index-lits-0.result c.args.lit (eqb-true (literal_code c.index-lits-0.result) (literal_code c.args.lit) (sym c.eq.ensures ∙ c.if-eq.true)))

pub returns-else-eq : goal.returns-else-eq
returns-else-eq c =
    stands-second c.args.self.now.arena c.args.id.0 c.args.lit c.lits.result.now c.index-lits-0.result c.requires c.lits.ensures.literals c.index-lits-0.is
    (λ same. eqb-false (literal_code c.index-lits-0.result) (literal_code c.args.lit) (sym c.eq.ensures ∙ c.if-eq.false) (ap literal_code same))
