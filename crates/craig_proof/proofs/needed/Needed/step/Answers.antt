use Rattle.std.proofs.Common.{List, ◌<◌, length, subst, sym}
use Rattle.std.proofs.lemmas.List.{length-map}
use Rattle.craig_spec.specs.Chain.{ToldStep}
use Rattle.craig_proof.specs.Lent.{IsAtPlace, IsLent}
use Rattle.craig_proof.proofs.LentLemmas.{lent_at}
use Rattle.craig_proof.proofs.needed.Needed.step.Goals as goal

pub returns : goal.returns
returns c =
    let within = rw length-map at (subst (λ (steps : List ToldStep). c.args.place < length steps) (sym c.self.view_is) c.requires) in
    subst (λ (steps : List ToldStep). IsAtPlace steps c.args.place (λ s. IsLent s c.step.result)) c.self.view_is
    (lent_at c.self.inside.steps.now c.self.inside.needed.items c.args.place c.index.result.now c.step.result within c.index.ensures c.step.ensures)
