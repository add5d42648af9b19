use Rattle.std.proofs.Common.{ap, refl, subst}
use Rattle.craig_spec.specs.PartialInterpolant.{A, AB, B}
use Rattle.craig_system.specs.Marking.{labels_in}
use Rattle.craig_top.specs.Material.{view_of}
use Rattle.craig_top.specs.Stored.{labels}
use Rattle.craig_top.specs.WrittenOutputs.{HasMarks}
use Rattle.craig_top.specs.WrittenSystems.{alone, by_strength, systems_of}
use Rattle.craig_top.proofs.WrittenOutputsLemmas.{by_names, outputs_by}
use Rattle.craig_top.proofs.refutation.systems_outputs.Goals as goal

pub returns-in-McMillan : goal.returns-in-McMillan
returns-in-McMillan c =
    let m = view_of c.args.material.now in
    let call = c.lone_outputs in
    record { outputs = outputs_by call.result m c.args.root.0 call.new.aig c.args.cuts.now (alone (λ x. B)) (by_names m) (λ x below. refl) (ap (λ w. systems_of w (by_names m)) c.in-McMillan.is) call.ensures }

pub returns-in-Pudlak : goal.returns-in-Pudlak
returns-in-Pudlak c =
    let m = view_of c.args.material.now in
    let call = c.lone_outputs-in-Pudlak in
    record { outputs = outputs_by call.result m c.args.root.0 call.new.aig c.args.cuts.now (alone (λ x. AB)) (by_names m) (λ x below. refl) (ap (λ w. systems_of w (by_names m)) c.in-Pudlak.is) call.ensures }

pub returns-in-Inverse : goal.returns-in-Inverse
returns-in-Inverse c =
    let m = view_of c.args.material.now in
    let call = c.lone_outputs-in-Inverse in
    record { outputs = outputs_by call.result m c.args.root.0 call.new.aig c.args.cuts.now (alone (λ x. A)) (by_names m) (λ x below. refl) (ap (λ w. systems_of w (by_names m)) c.in-Inverse.is) call.ensures }

pub returns-in-Dual : goal.returns-in-Dual
returns-in-Dual c =
    let m = view_of c.args.material.now in
    let call = c.lone_outputs-in-Dual in
    record { outputs = outputs_by call.result m c.args.root.0 call.new.aig c.args.cuts.now (alone (λ x. AB)) (by_names m) (λ x below. refl) (ap (λ w. systems_of w (by_names m)) c.in-Dual.is) call.ensures }

pub returns-in-Marks : goal.returns-in-Marks
returns-in-Marks c =
    let m = view_of c.args.material.now in
    let marked = c.in_ok-marked-in-Marks.marked in
    record { outputs = outputs_by c.lone_outputs-in-Marks.result m c.args.root.0 c.lone_outputs-in-Marks.new.aig c.args.cuts.now (alone (labels_in marked)) (labels_in marked) (subst (λ marks. HasMarks m.names (labels marks) (labels_in marked)) c.deref.ensures.value c.in_ok-marked-in-Marks.ensures) (ap (λ w. systems_of w (labels_in marked)) c.in-Marks.is) c.lone_outputs-in-Marks.ensures }

pub returns : goal.returns
returns c =
    let m = view_of c.args.material.now in
    record { outputs = outputs_by c.three_outputs.result m c.args.root.0 c.three_outputs.new.aig c.args.cuts.now by_strength (by_names m) (λ x below. refl) (ap (λ w. systems_of w (by_names m)) c.in-All.is) c.three_outputs.ensures }
