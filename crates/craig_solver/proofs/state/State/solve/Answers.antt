use Rattle.std.proofs.Common.{◌≡◌, ◌∙◌, ap, subst}
use Rattle.std.proofs.lemmas.Result.{IfOk-from_err, on_ok_weaker}
use Rattle.craig_solver.specs.Solver.{AreReordered}
use Rattle.craig_solver.specs.State.{StateView, clauses_under, root_number}
use Rattle.craig_solver.proofs.AnswerLemmas.{IfOk-both, IsAnswer-searched}
use Rattle.craig_solver.proofs.RefutedLemmas.{TellsAnswer-searched}
use Rattle.craig_solver.proofs.RootLemmas.{root_of-answer, root-forgotten}
use Rattle.craig_solver.proofs.SearchedLemmas.{AreReordered-ids, IsState-searched}
use Rattle.craig_solver.proofs.state.State.solve.Goals as goal

pub search-requires-clause-begins : goal.search-requires-clause-begins
search-requires-clause-begins g c = c.forget_root.ensures.state.begins

pub returns-clause-state : goal.returns-clause-state
returns-clause-state g c =
    on_ok_weaker c.answer_for.result (λ rest. IsState-searched _ c.search.new.held _ _ _ _ _ _ c.args.assumptions.now c.args.limit c.in_ok-verdict.verdict c.forget_root.ensures.state (ap (λ (s : StateView). s.root) c.forget_root.ensures.forgets.rest) c.in_ok-verdict.ensures.searched c.search.ensures.tells c.search.ensures.order c.root_of-self.ensures c.units_of-self.ensures rest c.answer_for.ensures.order) c.answer_for.ensures.at_root

pub returns-clause-solved : goal.returns-clause-solved
returns-clause-solved g c =
    let old = c.args.self.now in
    let mid = c.forget_root.new.self in
    let found = c.search.new.held in
    let same = c.forget_root.ensures.forgets.rest in
    let state = c.forget_root.ensures.state in
    let searched = c.in_ok-verdict.ensures.searched in
    let verdict = c.in_ok-verdict.verdict in
    let gone = c.let_learnt_go.ensures.lets_go in
    let accepted = ap (λ (s : StateView). s.accepted) same ∙ ap (λ (s : StateView). s.accepted) gone.rest in
    let under : clauses_under c.let_learnt_go.new.self.held.arena c.let_learnt_go.new.self.held_ids.items ≡ clauses_under old.held.arena old.held_ids.items = ap (λ (s : StateView). clauses_under c.let_learnt_go.new.self.held.arena s.held_ids) gone.rest ∙ gone.held in
    IfOk-both c.answer_for.result (λ a for rest. record {
      answer = IsAnswer-searched mid.accepted.items _ mid.held found _ c.args.assumptions.now c.args.limit verdict a accepted (ap (λ (s : StateView). s.held.vars) same ∙ gone.vars) state.consistent.arena state.clauses searched.leaves searched.verdict for;
      tells = TellsAnswer-searched mid.accepted.items _ mid.held found c.search.new.order c.args.assumptions.now c.args.limit verdict a (g.T.Tracer.told mid.tracer) _ accepted c.search.ensures.tells state.consistent.arena state.begins.covers searched state.rests for;
      root = root_of-answer found verdict a _ c.root_of-self.ensures for;
      forgets = λ root is. root-forgotten _ (g.T.Tracer.told mid.tracer) _ mid.held found c.args.assumptions.now verdict c.let_learnt_go.ensures.state c.forget_root.ensures.forgets.gone c.forget_root.ensures.tells (ap (λ (s : StateView). s.held) same) c.search.ensures.tells searched.told root (ap (λ (s : StateView). root_number s.root) gone.rest ∙ is);
      held = subst (λ cs. AreReordered cs (clauses_under c.answer_for.new.held.arena mid.held_ids.items)) under (subst (λ (s : StateView). AreReordered (clauses_under s.held.arena s.held_ids) (clauses_under c.answer_for.new.held.arena mid.held_ids.items)) same (AreReordered-ids mid.held found _ _ mid.held_ids.items searched.leaves state.ids rest));
    }) c.answer_for.ensures.answer c.answer_for.ensures.at_root

pub returns-in_err-verdict-clause-state : goal.returns-in_err-verdict-clause-state
returns-in_err-verdict-clause-state g c = IfOk-from_err _ _ c.from_residual.ensures.0

pub returns-in_err-verdict-clause-solved : goal.returns-in_err-verdict-clause-solved
returns-in_err-verdict-clause-solved g c = IfOk-from_err _ _ c.from_residual.ensures.0
